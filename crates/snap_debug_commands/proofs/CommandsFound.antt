-- A text that is read as debugger commands spells them.
use Rattle.std.proofs.Common.{◌≡◌, ℕ, ◌+◌, ◌<◌, ◌≤◌, ◌^◌, Bool, true, false, List, [], ◌∷◌, length, map, Option, Some}
use Rattle.std.proofs.Common.{None, Result, Ok, Err, nat_le, nat_lt, codes, option_map}
use Rattle.std.proofs.Common.{if◌then◌else◌, refl, sym, ap, ◌∙◌, arith, subst}
use Rattle.std.proofs.lemmas.Bool.{leb-false, ltb-false}
use Rattle.std.specs.List.{AllByRecursion}
use Rattle.snap_words.specs.declared.address.Address.{Address}
use Rattle.snap_words.specs.declared.address.Bank.{Bank}
use Rattle.snap_words.specs.declared.address.Bank.TheVariants.{R, Q, P, V}
use Rattle.snap_semantics.specs.declared.refusal.CommandRefusal.{CommandRefusal}
use Rattle.snap_semantics.specs.declared.refusal.CommandRefusal.TheVariants as refusal
use Rattle.snap_semantics.specs.Answers.{◌>>=◌}
use Rattle.snap_semantics.specs.Rules.{or_else, form_or, found_or, keyword_at, number_at, end_at}
use Rattle.snap_semantics.specs.Token.{Token, Identifier, Number, TextLine, text_lines}
use Rattle.snap_text.specs.Lines.{line_tokens, found_lines}
use Rattle.snap_text.specs.Tokens.{IsSound}
use Rattle.snap_text.proofs.Sound.{AreSound, lines_sound}
use Rattle.snap_text.proofs.TokensFound.{bind_found, number_found, end_found, keyword_found}
use Rattle.snap_debug_commands.specs.CommandForms.{keyword_form, number_form, numbers_form, place_form, bit_form}
use Rattle.snap_debug_commands.specs.CommandForms.{address_form, breakpoint_form, register_form, moving_form}
use Rattle.snap_debug_commands.specs.CommandForms.{marking_form, showing_form, command_form, spelled_address}
use Rattle.snap_debug_commands.specs.CommandForms.{spelled_breakpoint, spelled_command}
use Rattle.snap_debug_commands.specs.CommandLaws.{FitsSecond, FitsAddress, FitsBreakpoint, FitsCommand, Spells}
use Rattle.snap_debug_commands.specs.Commands.{command_at, commands_of_lines, commands_of}
use Rattle.snap_debug_commands.specs.declared.command.Breakpoint.{Breakpoint}
use Rattle.snap_debug_commands.specs.declared.command.Command.{Command}
use Rattle.snap_debug_commands.specs.declared.command.Command.TheVariants as command

-- the tokens of a line can stand in a text
abbrev Sounds : List Token → Type 0
Sounds ts = AllByRecursion IsSound ts

-- what was found, and by which of two rules
either : {A : Type 0} (o p : Option A) (y : A) (G : Type 0) → (o ≡ Some y → G) →
    (p ≡ Some y → G) → or_else o p ≡ Some y → G
either None p y G f g e = g e
either (Some x) p y G f g e = f e

mapped_found : {A B : Type 0} (f : A → B) (o : Option A) (y : B) → option_map f o ≡ Some y →
    (x : A) × (o ≡ Some x) × (f x ≡ y)
mapped_found f None y e = absurd cc
mapped_found f (Some x) y e = (x, refl, cc)

some_is : {A : Type 0} (x y : A) → (let o : Option A = Some x in o) ≡ Some y → x ≡ y
some_is x y e = cc

keyword_form_found : (w : List ℕ) (ts : List Token) (z : Unit {0}) → keyword_form w ts ≡ Some z → ts ≡ Identifier w ∷ []
unfolding keyword_form
keyword_form_found w ts z e =
    let a = bind_found (keyword_at w ts) _ z e in
    keyword_found w ts a.0 a.1 ∙ ap (λ (t : List Token). Identifier w ∷ t) (end_found a.0 z a.2)

number_form_found : (w : List ℕ) (ts : List Token) (k : ℕ) → number_form w ts ≡ Some k →
    ts ≡ Identifier w ∷ Number k ∷ []
unfolding number_form
number_form_found w ts k e =
    let a = bind_found (keyword_at w ts) _ k e in
    let i = bind_found (number_at a.0) _ k a.2 in
    let z = bind_found (end_at i.0.1) _ k i.2 in
    keyword_found w ts a.0 a.1
    ∙ ap (λ (t : List Token). Identifier w ∷ t) (number_found a.0 i.0 i.1)
    ∙ ap (λ (t : List Token). Identifier w ∷ Number i.0.0 ∷ t) (end_found i.0.1 z.0 z.1)
    ∙ ap (λ (n : ℕ). Identifier w ∷ Number n ∷ []) (some_is i.0.0 k z.2)

numbers_form_found : (w : List ℕ) (ts : List Token) (at : ℕ × ℕ) → numbers_form w ts ≡ Some at →
    ts ≡ Identifier w ∷ Number at.0 ∷ Number at.1 ∷ []
unfolding numbers_form
numbers_form_found w ts at e =
    let a = bind_found (keyword_at w ts) _ at e in
    let i = bind_found (number_at a.0) _ at a.2 in
    let j = bind_found (number_at i.0.1) _ at i.2 in
    let z = bind_found (end_at j.0.1) _ at j.2 in
    keyword_found w ts a.0 a.1
    ∙ ap (λ (t : List Token). Identifier w ∷ t) (number_found a.0 i.0 i.1)
    ∙ ap (λ (t : List Token). Identifier w ∷ Number i.0.0 ∷ t) (number_found i.0.1 j.0 j.1)
    ∙ ap (λ (t : List Token). Identifier w ∷ Number i.0.0 ∷ Number j.0.0 ∷ t) (end_found j.0.1 z.0 z.1)
    ∙ ap (λ (p : ℕ × ℕ). Identifier w ∷ Number p.0 ∷ Number p.1 ∷ []) (some_is (i.0.0, j.0.0) at z.2)

-- tokens that spell a register which can stand in a text
abbrev IsRegister : List Token → Address → Type 0
IsRegister ts a = (ts ≡ spelled_address a) × (Sounds ts → FitsAddress a)

-- the tokens behind a keyword
sound_behind : (t : Token) (ts us : List Token) → us ≡ t ∷ ts → Sounds us → Sounds ts
sound_behind t ts us e h = (subst Sounds e h).1

-- a register with one index, and with two, by how it is spelled
place_found : (w : List ℕ) (b : Bank) →
    ((i : ℕ) → spelled_address (record { bank = b; i = i; j = 0 }) ≡ Identifier w ∷ Number i ∷ []) → FitsSecond b 0 →
    (ts : List Token) (a : Address) → place_form w b ts ≡ Some a → IsRegister ts a
unfolding place_form
place_found w b spelled second ts a e =
    let i = bind_found (number_form w ts) _ a e in
    let t = number_form_found w ts i.0 i.1 in
    subst (IsRegister ts) (some_is (record { bank = b; i = i.0; j = 0 }) a i.2)
    (t ∙ sym (spelled i.0), λ h. ((subst Sounds t h).1.0, second))

bit_found : (w : List ℕ) (b : Bank) →
    ((i j : ℕ) → spelled_address (record { bank = b; i = i; j = j }) ≡ Identifier w ∷ Number i ∷ Number j ∷ []) →
    ((j : ℕ) → j < 2 ^ 64 → FitsSecond b j) → (ts : List Token) (a : Address) → bit_form w b ts ≡ Some a →
    IsRegister ts a
unfolding bit_form
bit_found w b spelled second ts a e =
    let at = bind_found (numbers_form w ts) _ a e in
    let t = numbers_form_found w ts at.0 at.1 in
    subst (IsRegister ts) (some_is (record { bank = b; i = at.0.0; j = at.0.1 }) a at.2)
    (t ∙ sym (spelled at.0.0 at.0.1), λ h. ((subst Sounds t h).1.0, second at.0.1 (subst Sounds t h).1.1.0))

address_found : (ts : List Token) (a : Address) → address_form ts ≡ Some a → IsRegister ts a
unfolding address_form
address_found ts a e =
    either (place_form (codes "r") R ts)
    (or_else (bit_form (codes "q") Q ts) (or_else (bit_form (codes "p") P ts) (place_form (codes "v") V ts))) a
    (IsRegister ts a) (place_found (codes "r") R (λ i. refl) refl ts a)
    (either (bit_form (codes "q") Q ts) (or_else (bit_form (codes "p") P ts) (place_form (codes "v") V ts)) a
    (IsRegister ts a) (bit_found (codes "q") Q (λ i j. refl) (λ j h. h) ts a)
    (either (bit_form (codes "p") P ts) (place_form (codes "v") V ts) a (IsRegister ts a)
    (bit_found (codes "p") P (λ i j. refl) (λ j h. h) ts a) (place_found (codes "v") V (λ i. refl) refl ts a)))
    e

breakpoint_found : (w : List ℕ) (ts : List Token) (b : Breakpoint) → breakpoint_form w ts ≡ Some b →
    (ts ≡ Identifier w ∷ spelled_breakpoint b) × (Sounds ts → FitsBreakpoint b)
unfolding breakpoint_form
breakpoint_found w ts b e =
    let at = bind_found (numbers_form w ts) _ b e in
    let t = numbers_form_found w ts at.0 at.1 in
    let same = some_is (record { process = at.0.0; line = at.0.1 }) b at.2 in
    subst (λ (x : Breakpoint). (ts ≡ Identifier w ∷ spelled_breakpoint x) × (Sounds ts → FitsBreakpoint x)) same
    (t, λ h. ((subst Sounds t h).1.0, (subst Sounds t h).1.1.0))

register_found : (w : List ℕ) (ts : List Token) (a : Address) → register_form w ts ≡ Some a →
    (ts ≡ Identifier w ∷ spelled_address a) × (Sounds ts → FitsAddress a)
unfolding register_form
register_found w ts a e =
    let rest = bind_found (keyword_at w ts) _ a e in
    let front = keyword_found w ts rest.0 rest.1 in
    let h = address_found rest.0 a rest.2 in
    (front ∙ ap (λ (t : List Token). Identifier w ∷ t) h.0, λ s. h.1 (sound_behind (Identifier w) rest.0 ts front s))

-- tokens that spell a command which can stand in a text
abbrev IsCommand : List Token → Command → Type 0
IsCommand ts c = (ts ≡ spelled_command c) × (Sounds ts → FitsCommand c)

-- a form of a number, a keyword alone, a breakpoint and a register, as a command
counted : (w : List ℕ) (f : ℕ → Command) (ts : List Token) (c : Command) →
    ((k : ℕ) → spelled_command (f k) ≡ Identifier w ∷ Number k ∷ []) → ((k : ℕ) → k < 2 ^ 64 → FitsCommand (f k)) →
    option_map f (number_form w ts) ≡ Some c → IsCommand ts c
counted w f ts c spelled fits e =
    let k = mapped_found f (number_form w ts) c e in
    let t = number_form_found w ts k.0 k.1 in
    subst (IsCommand ts) k.2 (t ∙ sym (spelled k.0), λ h. fits k.0 (subst Sounds t h).1.0)

alone : (w : List ℕ) (x : Command) (ts : List Token) (c : Command) → spelled_command x ≡ Identifier w ∷ [] →
    FitsCommand x → option_map (λ (z : Unit {0}). x) (keyword_form w ts) ≡ Some c → IsCommand ts c
alone w x ts c spelled fits e =
    let z = mapped_found (λ (z : Unit {0}). x) (keyword_form w ts) c e in
    subst (IsCommand ts) z.2 (keyword_form_found w ts z.0 z.1 ∙ sym spelled, λ h. fits)

marked_line : (w : List ℕ) (f : Breakpoint → Command) (ts : List Token) (c : Command) →
    ((b : Breakpoint) → spelled_command (f b) ≡ Identifier w ∷ spelled_breakpoint b) →
    ((b : Breakpoint) → FitsBreakpoint b → FitsCommand (f b)) →
    option_map f (breakpoint_form w ts) ≡ Some c → IsCommand ts c
marked_line w f ts c spelled fits e =
    let b = mapped_found f (breakpoint_form w ts) c e in
    let t = breakpoint_found w ts b.0 b.1 in
    subst (IsCommand ts) b.2 (t.0 ∙ sym (spelled b.0), λ h. fits b.0 (t.1 h))

with_register : (w : List ℕ) (f : Address → Command) (ts : List Token) (c : Command) →
    ((a : Address) → spelled_command (f a) ≡ Identifier w ∷ spelled_address a) →
    ((a : Address) → FitsAddress a → FitsCommand (f a)) → option_map f (register_form w ts) ≡ Some c → IsCommand ts c
with_register w f ts c spelled fits e =
    let a = mapped_found f (register_form w ts) c e in
    let t = register_found w ts a.0 a.1 in
    subst (IsCommand ts) a.2 (t.0 ∙ sym (spelled a.0), λ h. fits a.0 (t.1 h))

moving_found : (ts : List Token) (c : Command) → moving_form ts ≡ Some c → IsCommand ts c
unfolding moving_form
moving_found ts c e =
    either _ _ c (IsCommand ts c) (counted (codes "step") (λ k. command.Step k) ts c (λ k. refl) (λ k h. h))
    (either _ _ c (IsCommand ts c) (counted (codes "back") (λ k. command.Back k) ts c (λ k. refl) (λ k h. h))
    (either _ _ c (IsCommand ts c) (counted (codes "goto") (λ t. command.Goto t) ts c (λ k. refl) (λ k h. h))
    (either _ _ c (IsCommand ts c) (alone (codes "run") command.Run ts c refl tt)
    (alone (codes "rrun") command.ReverseRun ts c refl tt)))) e

marking_found : (ts : List Token) (c : Command) → marking_form ts ≡ Some c → IsCommand ts c
unfolding marking_form
marking_found ts c e =
    either _ _ c (IsCommand ts c) (marked_line (codes "break") (λ b. command.Break b) ts c (λ b. refl) (λ b h. h))
    (either _ _ c (IsCommand ts c) (marked_line (codes "clear") (λ b. command.Clear b) ts c (λ b. refl) (λ b h. h))
    (either _ _ c (IsCommand ts c) (with_register (codes "watch") (λ a. command.Watch a) ts c (λ a. refl) (λ a h. h))
    (with_register (codes "unwatch") (λ a. command.Unwatch a) ts c (λ a. refl) (λ a h. h)))) e

showing_found : (ts : List Token) (c : Command) → showing_form ts ≡ Some c → IsCommand ts c
unfolding showing_form
showing_found ts c e =
    either _ _ c (IsCommand ts c)
    (with_register (codes "show") (λ a. command.ShowRegister a) ts c (λ a. refl) (λ a h. h))
    (either _ _ c (IsCommand ts c) (counted (codes "show") (λ i. command.ShowProcess i) ts c (λ k. refl) (λ k h. h))
    (either _ _ c (IsCommand ts c) (alone (codes "values") command.Values ts c refl tt)
    (either _ _ c (IsCommand ts c) (alone (codes "events") command.Events ts c refl tt)
    (alone (codes "where") command.Where ts c refl tt)))) e

command_found : (ts : List Token) (c : Command) → command_form ts ≡ Some c → IsCommand ts c
unfolding command_form
command_found ts c e =
    either (moving_form ts) (or_else (marking_form ts) (showing_form ts)) c (IsCommand ts c) (moving_found ts c)
    (either (marking_form ts) (showing_form ts) c (IsCommand ts c) (marking_found ts c) (showing_found ts c)) e

-- what came first, and what came of it
then_found : {A B : Type 0} (r : Result A CommandRefusal) (f : A → Result B CommandRefusal) (y : B) →
    (r >>= f) ≡ Ok y → (x : A) × (r ≡ Ok x) × (f x ≡ Ok y)
then_found (Ok x) f y e = (x, refl, e)
then_found (Err d) f y e = absurd cc

fitting : (e : CommandRefusal) (o : Option Command) (c : Command) → found_or e o ≡ Ok c → o ≡ Some c
fitting e None c h = absurd cc
fitting e (Some x) c h = cc

-- a line that a command was read from
line_found : (e : CommandRefusal) (line : Option (List Token)) (c : Command) → AreSound line →
    form_or e command_form line ≡ Ok c → (line ≡ Some (spelled_command c)) × FitsCommand c
line_found e None c s h = absurd cc
line_found e (Some ts) c s h =
    let is = command_found ts c (fitting e (command_form ts) c h) in
    (ap (λ (us : List Token). let o : Option (List Token) = Some us in o) is.0, is.1 s)

-- a number of commands, spelled by these lines
abbrev AreSpelled : ℕ → List TextLine → List Command → Type 0
AreSpelled count lines cs =
    (count + length cs ≤ 10000) × AllByRecursion FitsCommand cs
    × (line_tokens lines ≡ found_lines (map spelled_command cs))

ok_is : (xs ys : List Command) → (let r : Result (List Command) CommandRefusal = Ok xs in r) ≡ Ok ys → xs ≡ ys
ok_is xs ys e = cc

-- what is not too long
not_refused : (b : Bool) (r : Result (List Command) CommandRefusal) (cs : List Command) →
    (if b then Err refusal.TooLong else r) ≡ Ok cs → (b ≡ false) × (r ≡ Ok cs)
not_refused true r cs e = absurd cc
not_refused false r cs e = (refl, e)

one_more : (count : ℕ) (line : TextLine) (lines : List TextLine) (c : Command) (cs : List Command) →
    (line.tokens ≡ Some (spelled_command c)) × FitsCommand c → AreSpelled (count + 1) lines cs →
    AreSpelled count (line ∷ lines) (c ∷ cs)
one_more count line lines c cs h rest =
    let few = rest.0 in (
      omega (arith, few),
      (h.1, rest.1),
      ap (λ (o : Option (List Token)). o ∷ line_tokens lines) h.0
          ∙ ap (λ (os : List (Option (List Token))). Some (spelled_command c) ∷ os) rest.2,
    )

lines_found : (count : ℕ) (lines : List TextLine) (cs : List Command) →
    count ≤ 10000 → AllByRecursion (λ line. AreSound line.tokens) lines →
    commands_of_lines count lines ≡ Ok cs → AreSpelled count lines cs
lines_found count [] cs room s e = subst (AreSpelled count []) (ok_is [] cs e) (omega (arith, room), tt, refl)
lines_found count (line ∷ lines) cs room s e =
    let spare = not_refused (nat_le 10000 count) _ cs e in
    let left = leb-false 10000 count spare.0 in
    let c = then_found (command_at line) _ cs spare.1 in
    let more = then_found (commands_of_lines (count + 1) lines) _ cs c.2 in
    subst (AreSpelled count (line ∷ lines)) (ok_is (c.0 ∷ more.0) cs more.2)
    (one_more count line lines c.0 more.0 (line_found (refusal.BadCommand line.number) line.tokens c.0 s.0 c.1)
    (lines_found (count + 1) lines more.0 (omega (arith, left)) s.1 more.1))

pub read_is_spelled : (text : List ℕ) (cs : List Command) → commands_of text ≡ Ok cs → Spells text cs
read_is_spelled text cs e =
    let short = not_refused (nat_lt 1048576 (length text)) (commands_of_lines 0 (text_lines text)) cs e in
    let h = lines_found 0 (text_lines text) cs (omega arith) (lines_sound text) short.1 in
    let few = h.0 in
    (ltb-false 1048576 (length text) short.0, (omega (arith, few), h.1), h.2)
