-- The forms of a line of a history: a call, an answer, the end of an update or a crash of a process, with its number or
-- without it; how an event is spelled, and how a line is read.
use Rattle.std.specs.Prelude.{ℕ, List, [], ◌∷◌, map, Option, Some, None, option_map, codes}
use Rattle.snap_semantics.specs.declared.event.Event.{Event}
use Rattle.snap_semantics.specs.declared.event.Happening.{Happening}
use Rattle.snap_semantics.specs.declared.event.Happening.TheVariants as what
use Rattle.snap_semantics.specs.declared.process.Op.{Op}
use Rattle.snap_semantics.specs.declared.process.Op.TheVariants as op
use Rattle.snap_semantics.specs.Rules.{◌>>=◌, or_else, number_at, keyword_at, end_at}
use Rattle.snap_semantics.specs.Token.{Token, Identifier, Number, Sign}
use Rattle.snap_history_text.specs.declared.event_form.EventForm.{EventForm}

-- how what a process comes to is spelled
abbrev pub spelled_what : Happening → List Token
spelled_what (what.Call op.Scan) = Identifier (codes "scan") ∷ []
spelled_what (what.Call (op.Update word value)) = Identifier (codes "update") ∷ Number word ∷ Number value ∷ []
spelled_what (what.Answer view) = Identifier (codes "answer") ∷ map (λ x. Number x) view
spelled_what what.Done = Identifier (codes "done") ∷ []
spelled_what what.Crash = Identifier (codes "crash") ∷ []

-- how an event is spelled, with its number
abbrev pub spelled_event : Event → List Token
spelled_event e = Identifier (codes "event") ∷ Number e.item ∷ Number e.process ∷ spelled_what e.what

-- `scan`
unfoldable pub scan_form : List Token → Option Op
scan_form ts = do
  rest ← keyword_at (codes "scan") ts
  end ← end_at rest
  Some op.Scan

-- `update K X`
unfoldable pub update_form : List Token → Option Op
update_form ts = do
  rest ← keyword_at (codes "update") ts
  word ← number_at rest
  value ← number_at word.1
  end ← end_at value.1
  Some (op.Update word.0 value.0)

-- `scan` or `update K X`
unfoldable pub call_form : List Token → Option Op
call_form ts = or_else (scan_form ts) (update_form ts)

-- a keyword alone, as `done` or `crash`
unfoldable pub mark_form : List ℕ → List Token → Option (Unit {0})
mark_form word ts = do
  rest ← keyword_at word ts
  end_at rest

-- one value more
abbrev pub with_value : ℕ → Option (List ℕ) → Option (List ℕ)
with_value x None = None
with_value x (Some xs) = Some (x ∷ xs)

-- the numbers that the tokens are, where each is one
abbrev pub values_of : List Token → Option (List ℕ)
values_of [] = Some []
values_of (Number x ∷ ts) = with_value x (values_of ts)
values_of (Identifier w ∷ ts) = None
values_of (Sign m ∷ ts) = None

-- `answer V1 .. Vw`
unfoldable pub answer_form : List Token → Option (List ℕ)
answer_form ts = do
  rest ← keyword_at (codes "answer") ts
  values_of rest

-- what a process comes to
unfoldable pub what_form : List Token → Option Happening
what_form ts =
    or_else (option_map (λ o. what.Call o) (call_form ts))
    (or_else (option_map (λ view. what.Answer view) (answer_form ts))
    (or_else (option_map (λ end. what.Done) (mark_form (codes "done") ts))
    (option_map (λ end. what.Crash) (mark_form (codes "crash") ts))))

-- a process and what it comes to, with this number or none
unfoldable pub plain_form : Option ℕ → List Token → Option EventForm
plain_form number ts = do
  i ← number_at ts
  happening ← what_form i.1
  Some (record { number = number; process = i.0; what = happening })

-- `event T`, a process, and what it comes to
unfoldable pub numbered_form : List Token → Option EventForm
numbered_form ts = do
  rest ← keyword_at (codes "event") ts
  t ← number_at rest
  plain_form (Some t.0) t.1

-- the form that a line is, where it is one
unfoldable pub event_form : List Token → Option EventForm
event_form ts = or_else (numbered_form ts) (plain_form None ts)
