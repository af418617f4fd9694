-- The forms of debugger commands, and how each is spelled.
use Rattle.std.specs.Prelude.{ℕ, List, [], ◌∷◌, Option, Some, codes, option_map}
use Rattle.snap_words.specs.declared.address.Address.{Address}
use Rattle.snap_words.specs.declared.address.Bank.{Bank}
use Rattle.snap_words.specs.declared.address.Bank.TheVariants.{R, Q, P, V}
use Rattle.snap_semantics.specs.Rules.{◌>>=◌, or_else, number_at, keyword_at, end_at}
use Rattle.snap_semantics.specs.Token.{Token, Identifier, Number}
use Rattle.snap_debug_commands.specs.declared.command.Breakpoint.{Breakpoint}
use Rattle.snap_debug_commands.specs.declared.command.Command.{Command}
use Rattle.snap_debug_commands.specs.declared.command.Command.TheVariants as command

-- a keyword alone
unfoldable pub keyword_form : List ℕ → List Token → Option (Unit {0})
keyword_form keyword ts = do
  rest ← keyword_at keyword ts
  end_at rest

-- a keyword and a number
unfoldable pub number_form : List ℕ → List Token → Option ℕ
number_form keyword ts = do
  rest ← keyword_at keyword ts
  k ← number_at rest
  end ← end_at k.1
  Some k.0

-- a keyword and two numbers
unfoldable pub numbers_form : List ℕ → List Token → Option (ℕ × ℕ)
numbers_form keyword ts = do
  rest ← keyword_at keyword ts
  i ← number_at rest
  j ← number_at i.1
  end ← end_at j.1
  Some (i.0, j.0)

-- `r K` or `v I`
unfoldable pub place_form : List ℕ → Bank → List Token → Option Address
place_form keyword bank ts = do
  i ← number_form keyword ts
  Some (record { bank = bank; i = i; j = 0 })

-- `q I J` or `p I J`
unfoldable pub bit_form : List ℕ → Bank → List Token → Option Address
bit_form keyword bank ts = do
  at ← numbers_form keyword ts
  Some (record { bank = bank; i = at.0; j = at.1 })

-- a register
unfoldable pub address_form : List Token → Option Address
address_form ts =
    or_else (place_form (codes "r") R ts)
    (or_else (bit_form (codes "q") Q ts) (or_else (bit_form (codes "p") P ts) (place_form (codes "v") V ts)))

-- a keyword and a process with one of its lines
unfoldable pub breakpoint_form : List ℕ → List Token → Option Breakpoint
breakpoint_form keyword ts = do
  at ← numbers_form keyword ts
  Some (record { process = at.0; line = at.1 })

-- a keyword and a register
unfoldable pub register_form : List ℕ → List Token → Option Address
register_form keyword ts = do
  rest ← keyword_at keyword ts
  address_form rest

-- the commands that move
unfoldable pub moving_form : List Token → Option Command
moving_form ts =
    or_else (option_map (λ k. command.Step k) (number_form (codes "step") ts))
    (or_else (option_map (λ k. command.Back k) (number_form (codes "back") ts))
    (or_else (option_map (λ t. command.Goto t) (number_form (codes "goto") ts))
    (or_else (option_map (λ end. command.Run) (keyword_form (codes "run") ts))
    (option_map (λ end. command.ReverseRun) (keyword_form (codes "rrun") ts)))))

-- the commands that set and take away marks
unfoldable pub marking_form : List Token → Option Command
marking_form ts =
    or_else (option_map (λ b. command.Break b) (breakpoint_form (codes "break") ts))
    (or_else (option_map (λ b. command.Clear b) (breakpoint_form (codes "clear") ts))
    (or_else (option_map (λ a. command.Watch a) (register_form (codes "watch") ts))
    (option_map (λ a. command.Unwatch a) (register_form (codes "unwatch") ts))))

-- the commands that show
unfoldable pub showing_form : List Token → Option Command
showing_form ts =
    or_else (option_map (λ a. command.ShowRegister a) (register_form (codes "show") ts))
    (or_else (option_map (λ i. command.ShowProcess i) (number_form (codes "show") ts))
    (or_else (option_map (λ end. command.Values) (keyword_form (codes "values") ts))
    (or_else (option_map (λ end. command.Events) (keyword_form (codes "events") ts))
    (option_map (λ end. command.Where) (keyword_form (codes "where") ts)))))

-- the command that a line is, where it is one
unfoldable pub command_form : List Token → Option Command
command_form ts = or_else (moving_form ts) (or_else (marking_form ts) (showing_form ts))

-- how a register is spelled
abbrev pub spelled_address : Address → List Token
spelled_address a = spelled_in a.bank a.i a.j
  where
    spelled_in : Bank → ℕ → ℕ → List Token
    spelled_in R i j = Identifier (codes "r") ∷ Number i ∷ []
    spelled_in Q i j = Identifier (codes "q") ∷ Number i ∷ Number j ∷ []
    spelled_in P i j = Identifier (codes "p") ∷ Number i ∷ Number j ∷ []
    spelled_in V i j = Identifier (codes "v") ∷ Number i ∷ []

abbrev pub spelled_breakpoint : Breakpoint → List Token
spelled_breakpoint b = Number b.process ∷ Number b.line ∷ []

-- how a command is spelled
abbrev pub spelled_command : Command → List Token
spelled_command (command.Step k) = Identifier (codes "step") ∷ Number k ∷ []
spelled_command (command.Back k) = Identifier (codes "back") ∷ Number k ∷ []
spelled_command (command.Goto t) = Identifier (codes "goto") ∷ Number t ∷ []
spelled_command command.Run = Identifier (codes "run") ∷ []
spelled_command command.ReverseRun = Identifier (codes "rrun") ∷ []
spelled_command (command.Break b) = Identifier (codes "break") ∷ spelled_breakpoint b
spelled_command (command.Clear b) = Identifier (codes "clear") ∷ spelled_breakpoint b
spelled_command (command.Watch a) = Identifier (codes "watch") ∷ spelled_address a
spelled_command (command.Unwatch a) = Identifier (codes "unwatch") ∷ spelled_address a
spelled_command (command.ShowRegister a) = Identifier (codes "show") ∷ spelled_address a
spelled_command (command.ShowProcess i) = Identifier (codes "show") ∷ Number i ∷ []
spelled_command command.Values = Identifier (codes "values") ∷ []
spelled_command command.Events = Identifier (codes "events") ∷ []
spelled_command command.Where = Identifier (codes "where") ∷ []
