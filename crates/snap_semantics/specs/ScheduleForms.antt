-- `ItemForm`: the forms of a line of a schedule (steps of a process,
-- a call or a crash), how each is spelled, and how it is read.
use Rattle.std.specs.Prelude.{ℕ, Bool, ◌&&◌, List, [], ◌∷◌, Option, Some, None, nat_eq}
use Rattle.std.specs.Prelude.{nat_lt, nat_le, codes, if◌then◌else◌}
use Rattle.snap_words.specs.Shape.{Counts, max_count}
use Rattle.snap_semantics.specs.declared.process.Op.{Op}
use Rattle.snap_semantics.specs.declared.process.Op.TheVariants as op
use Rattle.snap_semantics.specs.declared.text.Symbol.TheVariants as symbol
use Rattle.snap_semantics.specs.Rules.{◌>>=◌, or_else, number_at, keyword_at, symbol_at, end_at}
use Rattle.snap_semantics.specs.Token.{Token, Identifier, Number, Sign}

-- the form of a line: steps of a process, a call, or a crash
pub data ItemForm : Type 0 where
  Steps : (process count : ℕ) → ItemForm
  Calls : (process : ℕ) (op : Op) → ItemForm
  Crashes : (process : ℕ) → ItemForm

-- how each form is spelled; one step is the process alone
abbrev pub spelled_steps : ℕ → ℕ → List Token
spelled_steps i count = if nat_eq count 1 then Number i ∷ [] else Number i ∷ Sign symbol.Star ∷ Number count ∷ []

abbrev pub spelled_call : ℕ → Op → List Token
spelled_call i op.Scan = Number i ∷ Identifier (codes "scan") ∷ []
spelled_call i (op.Update word value) = Number i ∷ Identifier (codes "update") ∷ Number word ∷ Number value ∷ []

abbrev pub spelled_form : ItemForm → List Token
spelled_form (Steps i count) = spelled_steps i count
spelled_form (Calls i op) = spelled_call i op
spelled_form (Crashes i) = Number i ∷ Identifier (codes "crash") ∷ []

abbrev pub spelled_shape : Counts → List Token
spelled_shape s = Identifier (codes "shape") ∷ Number s.n ∷ Number s.w ∷ []

-- a number of processes or of words
abbrev pub is_count : ℕ → Bool
is_count k = nat_le 1 k && nat_le k max_count

-- `shape N W`
unfoldable pub shape_form : List Token → Option Counts
shape_form ts = do
  rest ← keyword_at (codes "shape") ts
  n ← number_at rest
  w ← number_at n.1
  end ← end_at w.1
  if is_count n.0 && is_count w.0 then Some (record { n = n.0; w = w.0 }) else None

-- `I`
unfoldable pub step_form : List Token → Option ItemForm
step_form ts = do
  i ← number_at ts
  end ← end_at i.1
  Some (Steps i.0 1)

-- `I*K`
unfoldable pub steps_form : List Token → Option ItemForm
steps_form ts = do
  i ← number_at ts
  rest ← symbol_at symbol.Star i.1
  count ← number_at rest
  end ← end_at count.1
  if nat_lt 0 count.0 then Some (Steps i.0 count.0) else None

-- `I scan`
unfoldable pub scan_form : List Token → Option ItemForm
scan_form ts = do
  i ← number_at ts
  rest ← keyword_at (codes "scan") i.1
  end ← end_at rest
  Some (Calls i.0 op.Scan)

-- `I update K X`
unfoldable pub update_form : List Token → Option ItemForm
update_form ts = do
  i ← number_at ts
  rest ← keyword_at (codes "update") i.1
  word ← number_at rest
  value ← number_at word.1
  end ← end_at value.1
  Some (Calls i.0 (op.Update word.0 value.0))

-- `I crash`
unfoldable pub crash_form : List Token → Option ItemForm
crash_form ts = do
  i ← number_at ts
  rest ← keyword_at (codes "crash") i.1
  end ← end_at rest
  Some (Crashes i.0)

-- the form that a line is, where it is one
unfoldable pub item_form : List Token → Option ItemForm
item_form ts =
    or_else (step_form ts) (or_else (steps_form ts) (or_else (scan_form ts) (or_else (update_form ts) (crash_form ts))))
