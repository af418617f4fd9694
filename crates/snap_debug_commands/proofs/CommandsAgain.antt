-- A text that spells debugger commands is read as those commands.
use Rattle.std.proofs.Common.{◌≡◌, ℕ, ◌+◌, ◌<◌, ◌≤◌, ◌^◌, Bool, true, false, List, [], ◌∷◌, length, map, Option, Some}
use Rattle.std.proofs.Common.{Result, Ok, Err, nat_le, nat_lt, if◌then◌else◌, refl, sym, ap, ◌∙◌, arith}
use Rattle.std.proofs.lemmas.Bool.{lt-leb, le-ltb}
use Rattle.std.specs.List.{AllByRecursion}
use Rattle.snap_words.specs.declared.address.Address.{Address}
use Rattle.snap_words.specs.declared.address.Bank.{Bank}
use Rattle.snap_words.specs.declared.address.Bank.TheVariants.{R, Q, P, V}
use Rattle.snap_semantics.specs.declared.refusal.CommandRefusal.{CommandRefusal}
use Rattle.snap_semantics.specs.declared.refusal.CommandRefusal.TheVariants as refusal
use Rattle.snap_semantics.specs.Answers.{◌>>=◌}
use Rattle.snap_semantics.specs.Rules.{form_or, found_or}
use Rattle.snap_semantics.specs.Token.{Token, TextLine, text_lines}
use Rattle.snap_text.specs.Laws.{IsSoundLine}
use Rattle.snap_text.specs.Lines.{line_tokens, found_lines}
use Rattle.snap_text.specs.Tokens.{IsSound}
use Rattle.snap_text.proofs.Laid.{laid_read}
use Rattle.snap_debug_commands.specs.CommandForms.{keyword_form, number_form, numbers_form, place_form, bit_form}
use Rattle.snap_debug_commands.specs.CommandForms.{address_form, breakpoint_form, register_form, moving_form}
use Rattle.snap_debug_commands.specs.CommandForms.{marking_form, showing_form, command_form}
use Rattle.snap_debug_commands.specs.CommandForms.{spelled_address, spelled_command}
use Rattle.snap_debug_commands.specs.CommandLaws.{FitsSecond, FitsCommand, AreCommands, Spells, commands_text}
use Rattle.snap_debug_commands.specs.Commands.{command_at, commands_of_lines, commands_of}
use Rattle.snap_debug_commands.specs.declared.command.Command.{Command}
use Rattle.snap_debug_commands.specs.declared.command.Command.TheVariants as command

-- a register whose bank is known
abbrev register : Bank → ℕ → ℕ → Address
register bank i j = record { bank = bank; i = i; j = j }

-- what spells a register is of its form
address_again : (b : Bank) (i j : ℕ) → FitsSecond b j →
    address_form (spelled_address (register b i j)) ≡ Some (register b i j)
unfolding address_form place_form bit_form number_form numbers_form
address_again R i j h = ap (λ (k : ℕ). let o : Option Address = Some (register R i k) in o) (sym h)
address_again Q i j h = refl
address_again P i j h = refl
address_again V i j h = ap (λ (k : ℕ). let o : Option Address = Some (register V i k) in o) (sym h)

registers_again : (a : Address) → address_form (spelled_address a) ≡ Some a →
    (command_form (spelled_command (command.Watch a)) ≡ Some (command.Watch a))
    × (command_form (spelled_command (command.Unwatch a)) ≡ Some (command.Unwatch a))
    × (command_form (spelled_command (command.ShowRegister a)) ≡ Some (command.ShowRegister a))
unfolding command_form moving_form marking_form showing_form register_form keyword_form number_form breakpoint_form
    numbers_form
registers_again a e = (rw e, rw e, rw e)

-- what spells a command is of its form
pub command_again : (c : Command) → FitsCommand c → command_form (spelled_command c) ≡ Some c
unfolding command_form moving_form marking_form showing_form register_form address_form place_form bit_form
    keyword_form number_form numbers_form breakpoint_form
command_again (command.Watch a) h = (registers_again a (address_again a.bank a.i a.j h.1)).0
command_again (command.Unwatch a) h = (registers_again a (address_again a.bank a.i a.j h.1)).1
command_again (command.ShowRegister a) h = (registers_again a (address_again a.bank a.i a.j h.1)).2
command_again _ h = refl

line_again : (line : TextLine) (c : Command) → FitsCommand c →
    line.tokens ≡ Some (spelled_command c) → command_at line ≡ Ok c
line_again line c h e =
    ap (form_or (refusal.BadCommand line.number) command_form) e
    ∙ ap (found_or (refusal.BadCommand line.number)) (command_again c h)

-- the first of lines, and the others
first_line : (line : Option (List Token)) (lines : List (Option (List Token))) (ts : List Token)
    (more : List (Option (List Token))) → line ∷ lines ≡ Some ts ∷ more → (line ≡ Some ts) × (lines ≡ more)
first_line line lines ts more e = (cc, cc)

admitted_by : (b : Bool) (r : Result (List Command) CommandRefusal) → b ≡ false →
    (if b then Err refusal.TooLong else r) ≡ r
admitted_by true r e = absurd cc
admitted_by false r e = refl

lines_again : (count : ℕ) (lines : List TextLine) (cs : List Command) → count + length cs ≤ 10000 →
    AllByRecursion FitsCommand cs → line_tokens lines ≡ found_lines (map spelled_command cs) →
    commands_of_lines count lines ≡ Ok cs
lines_again count [] [] few h e = refl
lines_again count [] (c ∷ cs) few h e = absurd cc
lines_again count (line ∷ lines) [] few h e = absurd cc
lines_again count (line ∷ lines) (c ∷ cs) few h e =
    let parts =
    first_line line.tokens (line_tokens lines) (spelled_command c) (found_lines (map spelled_command cs)) e in
    let rest = lines_again (count + 1) lines cs (omega (arith, few)) h.1 parts.1 in
    admitted_by (nat_le 10000 count) _ (lt-leb 10000 count (omega (arith, few)))
    ∙ ap (λ (r : Result Command CommandRefusal). r >>= λ x. commands_of_lines (count + 1) lines >>= λ xs. Ok (x ∷ xs))
    (line_again line c h.0 parts.0)
    ∙ ap (λ (r : Result (List Command) CommandRefusal). r >>= λ xs. Ok (c ∷ xs)) rest

pub spelled_is_read : (text : List ℕ) (cs : List Command) → Spells text cs → commands_of text ≡ Ok cs
spelled_is_read text cs h =
    let few = h.1.0 in
    admitted_by (nat_lt 1048576 (length text)) (commands_of_lines 0 (text_lines text))
    (le-ltb 1048576 (length text) h.0)
    ∙ lines_again 0 (text_lines text) cs (omega (arith, few)) h.1.1 h.2

-- the tokens of a register can stand in a text
register_stands : (b : Bank) (i j : ℕ) → i < 2 ^ 64 → FitsSecond b j →
    AllByRecursion IsSound (spelled_address (register b i j))
register_stands R i j h g = ((omega arith, refl), (h, tt))
register_stands Q i j h g = ((omega arith, refl), (h, (g, tt)))
register_stands P i j h g = ((omega arith, refl), (h, (g, tt)))
register_stands V i j h g = ((omega arith, refl), (h, tt))

command_stands : (c : Command) → FitsCommand c → IsSoundLine (spelled_command c)
command_stands (command.Step k) h = (refl, ((omega arith, refl), (h, tt)))
command_stands (command.Back k) h = (refl, ((omega arith, refl), (h, tt)))
command_stands (command.Goto t) h = (refl, ((omega arith, refl), (h, tt)))
command_stands (command.Break b) h = (refl, ((omega arith, refl), (h.0, (h.1, tt))))
command_stands (command.Clear b) h = (refl, ((omega arith, refl), (h.0, (h.1, tt))))
command_stands (command.Watch a) h = (refl, ((omega arith, refl), register_stands a.bank a.i a.j h.0 h.1))
command_stands (command.Unwatch a) h = (refl, ((omega arith, refl), register_stands a.bank a.i a.j h.0 h.1))
command_stands (command.ShowRegister a) h = (refl, ((omega arith, refl), register_stands a.bank a.i a.j h.0 h.1))
command_stands (command.ShowProcess i) h = (refl, ((omega arith, refl), (h, tt)))
command_stands _ h = (refl, ((omega arith, refl), tt))

commands_stand : (cs : List Command) → AllByRecursion FitsCommand cs →
    AllByRecursion IsSoundLine (map spelled_command cs)
commands_stand [] h = tt
commands_stand (c ∷ cs) h = (command_stands c h.0, commands_stand cs h.1)

pub written_is_read : (cs : List Command) → AreCommands cs → length (commands_text cs) ≤ 1048576 →
    commands_of (commands_text cs) ≡ Ok cs
written_is_read cs h short =
    spelled_is_read (commands_text cs) cs (short, h, laid_read (map spelled_command cs) (commands_stand cs h.1))
