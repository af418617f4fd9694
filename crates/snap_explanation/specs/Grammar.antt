-- `after`: which tokens a line of an input may have next after a token, by the tables of `grammar.rt`. The first
-- token of a form decides how it goes on.
use Rattle.std.specs.Prelude.{ℕ, Bool, true, false, ◌&&◌, not, List, [], ◌∷◌, ◌++◌, map, Option, Some, None}
use Rattle.std.specs.Prelude.{nat_eq, nat_le, nat_lt, bytes_eq, if◌then◌else◌}
use Rattle.std.specs.List.{list_any}
use Rattle.std.specs.Borrow.{Bor}
use Rattle.snap_semantics.specs.declared.text.Symbol.TheVariants as symbol
use Rattle.snap_semantics.specs.Layout.{symbol_text}
use Rattle.snap_semantics.specs.ListingForms.{is_reserved, is_line_number}
use Rattle.snap_semantics.specs.Rules.{or_else}
use Rattle.snap_semantics.specs.Token.{Token, Identifier, Number, Sign}
use Rattle.snap_words.specs.Shape.{max_count, max_items}
use Rattle.snap_explanation.specs.declared.parts.Part.{Part}
use Rattle.snap_explanation.specs.declared.parts.Part.TheVariants as part
use Rattle.snap_explanation.specs.declared.parts.Class.{Class}
use Rattle.snap_explanation.specs.declared.parts.Class.TheVariants as class
use Rattle.snap_explanation.specs.declared.grammar.TheConstants.{SINGLES, VALUES, WRITTEN, INSTRUCTIONS, COMMANDS}
use Rattle.snap_explanation.specs.declared.grammar.TheConstants.{CLASSES, FRONTS, OPTIONS}

-- by which parts are told from one another
abbrev pub part_number : Part → ℕ
part_number part.End = 0
part_number part.Colon = 1
part_number part.Equal = 2
part_number part.Place = 3
part_number part.OpenBracket = 4
part_number part.CloseBracket = 5
part_number part.OpenParenthesis = 6
part_number part.CloseParenthesis = 7
part_number part.Comma = 8
part_number part.Goto = 9
part_number part.R = 10
part_number part.V = 11
part_number part.Kind = 12
part_number part.Scalar = 13
part_number part.Row = 14
part_number part.Words = 15
part_number part.View = 16
part_number part.Scan = 17
part_number part.Update = 18
part_number part.Shape = 19
part_number part.Number = 20
part_number part.Process = 21
part_number part.Target = 22
part_number part.LineNumber = 23
part_number part.Count = 24
part_number part.Positive = 25
part_number part.Turn = 26
part_number part.Name = 27
part_number part.Names = 28
part_number part.Index = 29
part_number part.Range = 30
part_number part.Relation = 31
part_number part.KindName = 32
part_number part.Instruction = 33
part_number part.Term = 34
part_number part.PlaceOption = 35
part_number part.Expr = 36
part_number part.SumOption = 37
part_number part.Condition = 38
part_number part.FirstJoin = 39
part_number part.SecondAnd = 40
part_number part.SecondOr = 41
part_number part.ThirdAnd = 42
part_number part.ThirdOr = 43
part_number part.WhereOption = 44
part_number part.Written = 45
part_number part.Bit = 46
part_number part.Tuple = 47
part_number part.SecondPart = 48
part_number part.BehindName = 49
part_number part.BehindThird = 50
part_number part.ViewSource = 51
part_number part.Test = 52
part_number part.Act = 53
part_number part.ScriptAct = 54
part_number part.Command = 55
part_number part.Register = 56
part_number part.Shown = 57

abbrev pub same_part : Part → Part → Bool
same_part p q = nat_eq (part_number p) (part_number q)

abbrev pub is_part_among : Part → List Part → Bool
is_part_among p ps = list_any (same_part p) ps

-- a part that is one token, as that is spelled
pub record Single : Type 0 where
  pub part : Part
  pub text : List ℕ

-- a form of a part: how its first token is spelled, and what is wanted behind that
pub record TextForm : Type 0 where
  pub part : Part
  pub text : List ℕ
  pub next : List Part

-- a form of a part that begins with a token of a set
pub record ClassForm : Type 0 where
  pub part : Part
  pub first : Class
  pub next : List Part

-- a part that may begin with the forms of another one
pub record Front : Type 0 where
  pub part : Part
  pub front : Part
  pub next : List Part

abbrev pub view_single : Part × Bor (List ℕ) → Single
view_single r = record { part = r.0; text = r.1.now }

abbrev pub view_form : Part × Bor (List ℕ) × Bor (List Part) → TextForm
view_form r = record { part = r.0; text = r.1.now; next = r.2.now }

abbrev pub view_class_form : Part × Class × Bor (List Part) → ClassForm
view_class_form r = record { part = r.0; first = r.1; next = r.2.now }

abbrev pub view_front : Part × Part × Bor (List Part) → Front
view_front r = record { part = r.0; front = r.1; next = r.2.now }

abbrev pub parts_in : Bor (List Part) → List Part
parts_in ps = ps.now

abbrev pub view_pair : Part × Bor (List Part) → Part × List Part
view_pair r = (r.0, r.1.now)

unfoldable pub singles : List Single
singles = map (λ r. record { part = r.0; text = r.1.now }) SINGLES.now

abbrev pub forms : List (Part × record { now : List ℕ } × record { now : List Part }) → List TextForm
forms table = map (λ r. record { part = r.0; text = r.1.now; next = r.2.now }) table

unfoldable pub values : List TextForm
values = forms VALUES.now

unfoldable pub written : List TextForm
written = forms WRITTEN.now

unfoldable pub instructions : List TextForm
instructions = forms INSTRUCTIONS.now

unfoldable pub commands : List TextForm
commands = forms COMMANDS.now

unfoldable pub class_forms : List ClassForm
class_forms = map (λ r. record { part = r.0; first = r.1; next = r.2.now }) CLASSES.now

unfoldable pub fronts : List Front
fronts = map (λ r. record { part = r.0; front = r.1; next = r.2.now }) FRONTS.now

unfoldable pub options : List Part
options = OPTIONS.now

-- how a word or a symbol is spelled; nothing of a number
abbrev pub letters_or_sign : Token → List ℕ
letters_or_sign (Identifier w) = w
letters_or_sign (Number k) = []
letters_or_sign (Sign m) = symbol_text m

-- whether a set has a token, where `@` is an index or not
abbrev pub admits : Bool → Class → Token → Bool
admits q class.Number (Number k) = true
admits q class.LineNumber (Number k) = is_line_number k
admits q class.Count (Number k) = nat_le 1 k && nat_le k max_count
admits q class.Positive (Number k) = nat_lt 0 k
admits q class.Turn (Number k) = nat_le 1 k && nat_le k max_items
admits q class.Name (Identifier w) = not (is_reserved w)
admits q class.Identifier (Identifier w) = true
admits q class.Place (Sign symbol.At) = q
admits _ _ _ = false

-- whether a part is a token that is spelled so
abbrev pub is_single : Part → List ℕ → List Single → Bool
is_single p x [] = false
is_single p x (r ∷ rs) = if same_part r.part p && bytes_eq x r.text then true else is_single p x rs

-- what is wanted behind a token that is spelled so, in the first form of a part that begins with it
abbrev pub form_in : Part → List ℕ → List TextForm → Option (List Part)
form_in p x [] = None
form_in p x (r ∷ rs) = if same_part r.part p && bytes_eq x r.text then Some r.next else form_in p x rs

-- what is wanted behind a token, in the first form of a part that begins with a set of tokens that has it
abbrev pub class_form_in : Bool → Part → Token → List ClassForm → Option (List Part)
class_form_in q p t [] = None
class_form_in q p t (r ∷ rs) = if same_part r.part p && admits q r.first t then Some r.next else class_form_in q p t rs

abbrev pub front_in : Part → List Front → Option (Part × List Part)
front_in p [] = None
front_in p (r ∷ rs) = if same_part r.part p then Some (r.front, r.next) else front_in p rs

abbrev pub text_form : Part → List ℕ → Option (List Part)
text_form p x =
    if is_single p x singles then Some [] else
    or_else (form_in p x values) (or_else (form_in p x written)
    (or_else (form_in p x instructions) (form_in p x commands)))

-- what is wanted behind a token, where a form of a part begins with it
abbrev pub token_form : Bool → Part → Token → Option (List Part)
token_form q p t = or_else (text_form p (letters_or_sign t)) (class_form_in q p t class_forms)

-- whether nothing may stand for a part
abbrev pub may_pass : Part → Bool
may_pass p = is_part_among p options

-- a token is the front of what is wanted, and the rest of that is wanted next; what is wanted may be nothing; or
-- neither
pub data TokenStep : Type 0 where
  Takes : (next : List Part) → TokenStep
  Passes : TokenStep
  Refuses : TokenStep

abbrev pub taken : List Part → Option (List Part) → TokenStep
taken more None = Refuses
taken more (Some next) = Takes (next ++ more)

abbrev pub by_front : Bool → Part → Token → Option (Part × List Part) → TokenStep
by_front q p t None = if may_pass p then Passes else Refuses
by_front q p t (Some f) = taken f.1 (token_form q f.0 t)

abbrev pub by_form : Bool → Part → Token → Option (List Part) → TokenStep
by_form q p t None = by_front q p t (front_in p fronts)
by_form q p t (Some next) = Takes next

-- what a token does where a part is wanted, where `@` is an index or not
abbrev pub after : Bool → Part → Token → TokenStep
after q p t = by_form q p t (token_form q p t)
