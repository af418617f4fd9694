-- `Keeps`: how `Items` stores segments: where each begins and whose it is, and in a list of their own those that are
-- calls and crashes.
use Rattle.std.specs.Prelude.{◌≡◌, ℕ, ◌+◌, ◌-◌, List, [], ◌∷◌, length, Option, Some, None, nat_eq, if◌then◌else◌}
use Rattle.std.specs.List.{AllByRecursion}
use Rattle.snap_semantics.specs.Schedule.{form_process, form_count}
use Rattle.snap_semantics.specs.ScheduleText.{FitsItem}
use Rattle.snap_sched.specs.Segments.{segment_form, items_of_segments, AreGreatest}
use Rattle.snap_sched.specs.declared.segments.CallOrCrash.{CallOrCrash}
use Rattle.snap_sched.specs.declared.segments.CallOrCrash.TheVariants as what
use Rattle.snap_sched.specs.declared.segments.SegmentStart.{SegmentStart}
use Rattle.snap_sched.specs.declared.segments.Single.{Single}
use Rattle.snap_sched.specs.declared.segments.Segment.{Segment}
use Rattle.snap_sched.specs.declared.segments.Segment.TheVariants as segments

-- a call or a crash of a process
abbrev pub single_segment : ℕ → CallOrCrash → Segment
single_segment i (what.Call op) = segments.Call i op
single_segment i what.Crash = segments.Crash i

-- where the first of these segments begins; where there is none, all items are before it
abbrev pub next_start : List SegmentStart → ℕ → ℕ
next_start [] len = len
next_start (r ∷ rs) len = r.start

-- the segments that are kept so, of so many items in all
abbrev pub segments_of : List SegmentStart → List Single → ℕ → List Segment
segments_of [] ss len = []
segments_of (r ∷ rs) [] len = segments.Steps r.process (next_start rs len - r.start) ∷ segments_of rs [] len
segments_of (r ∷ rs) (s ∷ ss) len =
    if nat_eq s.start r.start
    then single_segment r.process s.what ∷ segments_of rs ss len
    else segments.Steps r.process (next_start rs len - r.start) ∷ segments_of rs (s ∷ ss) len

abbrev pub segment_process : Segment → ℕ
segment_process x = form_process (segment_form x)

abbrev pub segment_count : Segment → ℕ
segment_count x = form_count (segment_form x)

-- where segments begin, so many items before the first of them
abbrev pub starts_from : ℕ → List Segment → List SegmentStart
starts_from k [] = []
starts_from k (x ∷ xs) = record { start = k; process = segment_process x } ∷ starts_from (k + segment_count x) xs

-- the calls and crashes among segments, so many items before the first of them
abbrev pub singles_from : ℕ → List Segment → List Single
singles_from k [] = []
singles_from k (segments.Steps i count ∷ xs) = singles_from (k + count) xs
singles_from k (segments.Call i op ∷ xs) = record { start = k; what = what.Call op } ∷ singles_from (k + 1) xs
singles_from k (segments.Crash i ∷ xs) = record { start = k; what = what.Crash } ∷ singles_from (k + 1) xs

-- the process of steps
abbrev pub steps_process : Segment → Option ℕ
steps_process (segments.Steps i count) = Some i
steps_process (segments.Call i op) = None
steps_process (segments.Crash i) = None

-- the process whose steps the last segment is, where it is steps
abbrev pub last_process : List Segment → Option ℕ
last_process [] = None
last_process (x ∷ []) = steps_process x
last_process (x ∷ y ∷ xs) = last_process (y ∷ xs)

-- segments that are the greatest ones of their items, kept so
pub record Keeps (rs : List SegmentStart) (ss : List Single) (len : ℕ) (stepping : Option ℕ)
    (xs : List Segment) : Type 0 where
  pub starts : rs ≡ starts_from 0 xs
  pub singles : ss ≡ singles_from 0 xs
  pub all : len ≡ length (items_of_segments xs)
  pub last : stepping ≡ last_process xs
  pub greatest : AreGreatest xs
  pub fits : AllByRecursion FitsItem (items_of_segments xs)
