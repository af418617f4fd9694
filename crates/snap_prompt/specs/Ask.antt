-- `ask_of`: what a line at the debugger's prompt asks for, one of the prompt's own words or a debugger command, or
-- why it is refused.
use Rattle.std.specs.Prelude.{ℕ, List, [], ◌∷◌, ◌++◌, Bool, true, not, Option, Some, None, Result, Ok, Err}
use Rattle.std.specs.Prelude.{codes, length, nat_eq, nat_lt, is_some, if◌then◌else◌, ◌==◌}
use Rattle.std.specs.Io.BufRead.{strip_last}
use Rattle.snap_streams.specs.TypedLines.{max_line}
use Rattle.snap_semantics.specs.Rules.{◌>>=◌, or_else, keyword_at, number_at}
use Rattle.snap_semantics.specs.Token.{Token, is_lexeme_byte, tokens_of}
use Rattle.snap_semantics.specs.declared.process.Op.{Op}
use Rattle.snap_semantics.specs.declared.process.Op.TheVariants as op
use Rattle.snap_semantics.specs.declared.refusal.CommandRefusal.{CommandRefusal}
use Rattle.snap_semantics.specs.declared.refusal.CommandRefusal.TheVariants as refusal
use Rattle.snap_debug_commands.specs.CommandForms.{keyword_form, number_form, numbers_form}
use Rattle.snap_debug_commands.specs.Commands.{commands_of}
use Rattle.snap_debug_commands.specs.declared.command.Command.{Command}
use Rattle.snap_debug_commands.specs.declared.command.Command.TheVariants as command
use Rattle.snap_prompt.specs.declared.addition.Addition.TheVariants as addition
use Rattle.snap_prompt.specs.declared.ask.Ask.{Ask}
use Rattle.snap_prompt.specs.declared.ask.Ask.TheVariants as ask

-- a word alone, which asks for this
unfoldable pub alone : List ℕ → Ask → List Token → Option Ask
alone word a ts = do
  end ← keyword_form word ts
  Some a

-- the prompt's own words; `s` is a step on, and `b` one back
unfoldable pub word_ask : List Token → Option Ask
word_ask ts =
    or_else (alone (codes "quit") ask.Quit ts)
    (or_else (alone (codes "help") ask.Help ts)
    (or_else (alone (codes "all") ask.All ts)
    (or_else (alone (codes "report") ask.Report ts)
    (or_else (alone (codes "save") ask.Save ts)
    (or_else (alone (codes "s") (ask.Do (command.Step 1)) ts)
    (alone (codes "b") (ask.Do (command.Back 1)) ts))))))

-- `list`, or `list I`
unfoldable pub list_ask : List Token → Option Ask
list_ask ts =
    or_else (alone (codes "list") (ask.ListLast) ts) (number_form (codes "list") ts >>= λ i. Some (ask.List i))

-- `why`, or `why T`
unfoldable pub why_ask : List Token → Option Ask
why_ask ts =
    or_else (alone (codes "why") (ask.Why None) ts) (number_form (codes "why") ts >>= λ t. Some (ask.Why (Some t)))

-- a scan, or an update
unfoldable pub op_form : List Token → Option Op
op_form ts =
    or_else (keyword_form (codes "scan") ts >>= λ end. Some op.Scan)
    (numbers_form (codes "update") ts >>= λ at. Some (op.Update at.0 at.1))

-- `call I scan`, or `call I update K X`
unfoldable pub call_ask : List Token → Option Ask
call_ask ts = do
  rest ← keyword_at (codes "call") ts
  i ← number_at rest
  o ← op_form i.1
  Some (ask.Add (addition.Call i.0 o))

-- `step I K`, for steps at all
unfoldable pub steps_ask : List ℕ → List Token → Option Ask
steps_ask word ts = do
  at ← numbers_form word ts
  if nat_lt 0 at.1 then Some (ask.Add (addition.Steps at.0 at.1)) else None

-- what adds items: steps, a call or a crash
unfoldable pub adding_ask : List Token → Option Ask
adding_ask ts =
    or_else (steps_ask (codes "step") ts)
    (or_else (steps_ask (codes "s") ts)
    (or_else (call_ask ts)
    (number_form (codes "crash") ts >>= λ i. Some (ask.Add (addition.Crash i)))))

-- `until I N`, or `end I`
unfoldable pub leading_ask : List Token → Option Ask
leading_ask ts =
    or_else (numbers_form (codes "until") ts >>= λ at. Some (ask.Until at.0 at.1))
    (number_form (codes "end") ts >>= λ i. Some (ask.End i))

-- `b I N` is a breakpoint
unfoldable pub break_ask : List Token → Option Ask
break_ask ts =
    numbers_form (codes "b") ts >>= λ at. Some (ask.Do (command.Break (record { process = at.0; line = at.1 })))

-- what tokens ask for, where that is the prompt's own
unfoldable pub prompt_ask : List Token → Option Ask
prompt_ask ts =
    or_else (word_ask ts)
    (or_else (list_ask ts) (or_else (why_ask ts) (or_else (break_ask ts) (or_else (leading_ask ts) (adding_ask ts)))))

abbrev pub prompt_ask_in : Option (List Token) → Option Ask
prompt_ask_in ts = ts >>= prompt_ask

-- whether a byte before these is a letter or a digit alone
abbrev pub stands_alone : List ℕ → Bool
stands_alone [] = true
stands_alone (b ∷ bs) = not (is_lexeme_byte b)

-- the word that a letter stands for: `s` for `step`, `b` for `back`, `r` for `run`, `g` for `goto`, and `p` for `show`
abbrev pub long_word : ℕ → List ℕ
long_word b =
    if nat_eq b 115 then codes "step" else
    if nat_eq b 98 then codes "back" else
    if nat_eq b 114 then codes "run" else
    if nat_eq b 103 then codes "goto" else
    if nat_eq b 112 then codes "show" else b ∷ []

-- a line whose first word may be short, spelled out
abbrev pub spelled_out : List ℕ → List ℕ
spelled_out [] = []
spelled_out (b ∷ bs) = if stands_alone bs then long_word b ++ bs else b ∷ bs

-- a refusal that names a line names the one with this number
abbrev pub at_line : ℕ → CommandRefusal → CommandRefusal
at_line number (refusal.BadCommand line) = refusal.BadCommand number
at_line number r = r

-- the command of a line, which has one at most
abbrev pub first_command : List Command → Ask
first_command [] = ask.Nothing
first_command (c ∷ cs) = ask.Do c

abbrev pub command_asked : ℕ → Result (List Command) CommandRefusal → Result Ask CommandRefusal
command_asked number (Ok cs) = Ok (first_command cs)
command_asked number (Err r) = Err (at_line number r)

abbrev pub ask_or : Option Ask → Result Ask CommandRefusal → Result Ask CommandRefusal
ask_or None other = other
ask_or (Some a) other = Ok a

-- What line `number` asks for: an empty one for the last thing again, a line of the prompt's own for what it says,
-- and another line for the command that it is.
abbrev pub ask_of : ℕ → List ℕ → Result Ask CommandRefusal
ask_of number line =
    if nat_lt max_line (length line) then Err refusal.TooLong else
    if length (strip_last 10 line) == 0 then Ok ask.Again else
    ask_or (prompt_ask_in (tokens_of (strip_last 10 line))) (command_asked number (commands_of (spelled_out line)))

-- whether tokens say yes
unfoldable pub yes_form : List Token → Option (Unit {0})
yes_form ts = or_else (keyword_form (codes "y") ts) (keyword_form (codes "yes") ts)

-- whether a line says yes
abbrev pub is_yes : List ℕ → Bool
is_yes line = is_some (tokens_of (strip_last 10 line) >>= yes_form)
