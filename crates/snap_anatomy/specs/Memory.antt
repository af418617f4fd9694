-- What the values of memory were, from write to write. Position t is the state after t items.
use Rattle.std.specs.Prelude.{ℕ, zero, suc, ◌+◌, ◌-◌, Bool, ◌&&◌, List, [], ◌∷◌, ◌++◌, length, drop, max, min}
use Rattle.std.specs.Prelude.{Option, Some, None, bytes_eq, get_or, nat_le, nat_lt, if◌then◌else◌}
use Rattle.snap_acts.specs.Loans.{step_at}
use Rattle.snap_acts.specs.Searches.{first_meeting, is_write}
use Rattle.snap_acts.specs.declared.act.Act.{Act}
use Rattle.snap_acts.specs.declared.act.Act.TheVariants as act
use Rattle.snap_acts.specs.declared.act.TraceStep.{TraceStep}
use Rattle.snap_acts.specs.declared.searches.StepPattern.TheVariants as wanted
use Rattle.snap_anatomy.specs.declared.memory.Band.{Band}
use Rattle.snap_anatomy.specs.declared.memory.Span.{Span}

-- the position before a step, and the last one where there is no step
abbrev pub until : ℕ → Option TraceStep → ℕ
until last None = last
until last (Some s) = s.item - 1

-- the last position before the next write from a place on
abbrev pub last_until : List TraceStep → ℕ → ℕ
last_until ss k = until (length ss) (first_meeting wanted.Write (drop k ss))

-- the positions before the first write
abbrev pub first_band : List TraceStep → Band
first_band ss = record { span = record { from = 0; to = last_until ss 0 }; write = None }

-- the positions from the write at a place to the next one
abbrev pub band_from : List TraceStep → ℕ → Band
band_from ss k =
    record { span = record { from = (step_at ss k).item; to = last_until ss (k + 1) }; write = Some k }

unfoldable pub band_at : List TraceStep → ℕ → List Band
band_at ss k = if is_write (step_at ss k).act then band_from ss k ∷ [] else []

-- of the writes among the first k steps
abbrev pub bands_to : List TraceStep → ℕ → List Band
bands_to ss zero = first_band ss ∷ []
bands_to ss (suc k) = bands_to ss k ++ band_at ss k

abbrev pub bands_of : List TraceStep → List Band
bands_of ss = bands_to ss (length ss)

-- stands where there is no band
abbrev pub no_band : Band
no_band = record { span = record { from = 0; to = 0 }; write = None }

abbrev pub band_in : List Band → ℕ → Band
band_in bs k = get_or bs k no_band

-- the values that a write leaves, and these where there is no write
abbrev pub values_by : List ℕ → Act → List ℕ
values_by vs (act.Write word values x) = values
values_by vs _ = vs

-- the values that the write at a place leaves, and these where there is none
abbrev pub values_from : List ℕ → List TraceStep → Option ℕ → List ℕ
values_from vs ss None = vs
values_from vs ss (Some k) = values_by vs (step_at ss k).act

-- what two spans have in common
abbrev pub common_span : (a b : Span) → List Span
common_span a b =
    if nat_le (max a.from b.from) (min a.to b.to)
    then record { from = max a.from b.from; to = min a.to b.to } ∷ []
    else []

-- what a span has before a position
abbrev pub span_before : Span → ℕ → List Span
span_before a c = if nat_lt a.from c then record { from = a.from; to = min a.to (c - 1) } ∷ [] else []

-- what a span has behind a position
abbrev pub span_behind : Span → ℕ → List Span
span_behind a e = if nat_lt e a.to then record { from = max a.from (e + 1); to = a.to } ∷ [] else []

-- what a span has outside of another one
unfoldable pub span_outside : (a b : Span) → List Span
span_outside a b = span_before a b.from ++ span_behind a b.to

-- the part of a band that lies within a span, or outside of it
abbrev pub span_part : (is_within : Bool) → (a b : Span) → List Span
span_part is_within a b = if is_within then common_span a b else span_outside a b

-- where the values of memory are this view
unfoldable pub spans_at : (is_within : Bool) → Span → List ℕ → List ℕ → List TraceStep → Band → List Span
spans_at is_within within view vs ss b =
    if bytes_eq (values_from vs ss b.write) view then span_part is_within b.span within else []

-- the spans within another one, or outside of it, in which the values of memory are this view, of the first k bands;
-- where nothing has been written they are `vs`
abbrev pub spans_to : (is_within : Bool) → Span → List ℕ → List ℕ → List TraceStep → List Band → ℕ → List Span
spans_to is_within within view vs ss bs zero = []
spans_to is_within within view vs ss bs (suc k) =
    spans_to is_within within view vs ss bs k ++ spans_at is_within within view vs ss (band_in bs k)
