-- What a record keeps of its run besides the items, and what of the run it has to match: values, their changes,
-- events, and double collects.
use Rattle.std.specs.Prelude.{◌≡◌, ℕ, suc, ◌+◌, ◌-◌, ◌≤◌, ◌&&◌, List, [], ◌∷◌, ◌++◌, length, map, replicate, nat_eq}
use Rattle.std.specs.Prelude.{nat_le, if◌then◌else◌, slice_index, slice_set}
use Rattle.std.specs.List.{AllByRecursion}
use Rattle.snap_words.specs.Shape.{IsOneOf, max_items}
use Rattle.snap_semantics.specs.declared.event.Event.{Event}
use Rattle.snap_semantics.specs.State.{State, values}
use Rattle.snap_words.specs.declared.kind.KindTag.{KindTag}
use Rattle.snap_runs.specs.Run.{Run, IsValidRun, state, events_of}
use Rattle.snap_runs.specs.Scan.{double_collects, is_stepped}
use Rattle.snap_semantics.specs.declared.process.Outcome.{Outcome}
use Rattle.snap_runs.specs.StepRoles.{StepRole, is_test}
use Rattle.snap_record.specs.declared.history.Change.{Change}

-- the values after t items, from those before the first change, by the changes in order
abbrev pub values_by : List ℕ → List Change → ℕ → List ℕ
values_by vs [] t = vs
values_by vs (x ∷ xs) t = if nat_le x.item t then values_by (slice_set vs x.place x.value) xs t else vs

-- from zeros these changes lead to the values after each item
abbrev pub LeadsAlong : Run → List Change → Type 0
LeadsAlong r changes = (t : ℕ) → t ≤ length r.items → values (state r t) ≡ values_by (replicate r.shape.w 0) changes t

-- the change of the value at place k by item t, where it changes
abbrev pub change_at : ℕ → ℕ → ℕ → ℕ → List Change
change_at t k x y = if nat_eq x y then [] else record { item = t; place = k; value = y } ∷ []

-- the changes from these values to those by item t, the first of which is at place k
abbrev pub changes_to : ℕ → ℕ → List ℕ → List ℕ → List Change
changes_to t k [] ys = []
changes_to t k (x ∷ xs) [] = []
changes_to t k (x ∷ xs) (y ∷ ys) = change_at t k x y ++ changes_to t (k + 1) xs ys

-- how many double collects each process has had, once process i has done this with this outcome
abbrev pub counted : StepRole → Outcome → ℕ → List ℕ → List ℕ
counted d o i counts =
    if is_test d && is_stepped o then slice_set counts (i - 1) (suc (slice_index counts (i - 1))) else counts

-- how many double collects the process of an event has had up to it
abbrev pub collects_at : Run → Event → ℕ
collects_at r e = double_collects r e.process 0 e.item

-- the values now, the changes that led there, the events, and the double collects of each
-- process, now and at each event
pub record Tells (r : Run) (now : List ℕ) (changes : List Change) (events : List Event)
    (collects at_events : List ℕ) : Type 0 where
  pub value_count : length now ≡ r.shape.w
  pub now_is : now ≡ values (state r (length r.items))
  pub values_are : LeadsAlong r changes
  pub changes_are_past : AllByRecursion (λ (x : Change). x.item ≤ length r.items) changes
  pub events_are : events ≡ events_of r (length r.items)
  pub process_count : length collects ≡ r.shape.n
  pub collects_are : (i : ℕ) → IsOneOf r.shape.n i →
      slice_index collects (i - 1) ≡ double_collects r i 0 (length r.items)
  pub at_events_are : at_events ≡ map (collects_at r) events

-- what a record keeps: a run that fits and has at most a million items, its last state, and what is told of it
pub record IsRecord (r : Run) (k : KindTag) (S : State) (now : List ℕ) (changes : List Change) (events : List Event)
    (collects at_events : List ℕ) : Type 0 where
  pub kind : r.source.kind ≡ k
  pub state_is : S ≡ state r (length r.items)
  pub fits : IsValidRun r
  pub few : length r.items ≤ max_items
  pub tells : Tells r now changes events collects at_events

-- each event is of one of so many processes, and of one of so many items
abbrev pub IsWithin : (processes items : ℕ) → Event → Type 0
IsWithin processes items e = IsOneOf processes e.process × (e.item ≤ items)

-- no event is of an earlier item than the one before it
abbrev pub IsRising : List Event → Type 0
IsRising [] = Unit {0}
IsRising (e ∷ es) = AllByRecursion (λ (f : Event). e.item ≤ f.item) es × IsRising es
