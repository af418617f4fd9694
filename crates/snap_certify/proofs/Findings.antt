-- What a certification's `Finding` of an item says: a write is that of an update which executes the line for the
-- first time, and sets its value.
use Rattle.std.specs.Prelude.{◌≡◌, ℕ, ◌-◌, true, false, Some, bytes_eq, nat_eq, slice_set}
use Rattle.std.proofs.Common.{arith}
use Rattle.std.proofs.lemmas.Slice.Eq.{bytes_eq-Decides}
use Rattle.snap_words.specs.Shape.{Counts, IsOneOf}
use Rattle.snap_semantics.specs.Source.{Source}
use Rattle.snap_semantics.specs.State.{Process, State}
use Rattle.snap_semantics.specs.Table.{call}
use Rattle.snap_semantics.specs.declared.process.Activity.{Activity}
use Rattle.snap_semantics.specs.declared.process.Item.{Item}
use Rattle.snap_semantics.specs.declared.process.Op.TheVariants.{Update}
use Rattle.snap_semantics.specs.declared.process.Outcome.TheVariants as outcome
use Rattle.snap_semantics.specs.declared.process.Status.{Status}
use Rattle.snap_semantics.specs.declared.process.Status.TheVariants.{Busy}
use Rattle.snap_runs.proofs.Computing.{le_from, lt_from}
use Rattle.snap_certify.specs.Certification.{at_line, changes, executed, found_at, stepping}
use Rattle.snap_certify.specs.declared.found.Finding.TheVariants as finding
use Rattle.snap_certify.specs.declared.found.Progress.{Progress}
use Rattle.snap_certify.specs.declared.found.SeenItem.{SeenItem}
use Rattle.snap_certify.specs.declared.found.UpdateWrite.{UpdateWrite}

-- what a step finds a process at
pub stepping_is : (x : Item) (s : Status) (a : Activity) → stepping x s ≡ Some a → s ≡ Busy a
stepping_is x s a h = grind arith

-- what an item executes is what its step finds its process at
pub found_at_step : (x : SeenItem) (a : Activity) → executed x ≡ Some a → x.activity ≡ Some a
found_at_step x a h = grind arith

-- an item that changes no value leaves the values
pub still_values : (x : SeenItem) → changes x ≡ false → x.values_after ≡ x.values_before
still_values x still = grind (arith, bytes_eq-Decides)

-- and one that leaves them changes none
pub values_kept : (x : SeenItem) → x.values_after ≡ x.values_before → changes x ≡ false
values_kept x kept = grind (arith, bytes_eq-Decides)

-- an update that is called is one of a word
pub word_called : (s : Source) (shape : Counts) (S : State) (i word value : ℕ) (p : Process) →
    (call s shape S i (Update word value) p p.status).1 ≡ outcome.Called → IsOneOf shape.w word
word_called s shape S i word value p h = grind (arith, lt_from, le_from)

module _ (line t : ℕ) (x : SeenItem) (p : Progress) where
  -- a write is a step of an update that executes the line for the first time, and writes its value
  pub record IsWriting (w : UpdateWrite) : Type 0 where
    pub activity : Activity
    pub there : executed x ≡ Some activity
    pub line_is : nat_eq activity.line line ≡ true
    pub word : ℕ
    pub value : ℕ
    pub op : activity.op ≡ Update word value
    pub first : p.wrote ≡ false
    pub now : bytes_eq x.values_after (slice_set x.values_before (word - 1) value) ≡ true
    pub is : w ≡ record { process = x.process; word = word; value = value; call = p.call; item = t }

  -- a write that is found
  pub writing : (w : UpdateWrite) → found_at line t x p ≡ finding.Write w → IsWriting w
  writing w h = grind arith

  -- and one that is there
  pub writes_here : (a : Activity) (word value : ℕ) → executed x ≡ Some a →
      nat_eq a.line line ≡ true → a.op ≡ Update word value → p.wrote ≡ false →
      bytes_eq x.values_after (slice_set x.values_before (word - 1) value) ≡ true → found_at line t x p
      ≡ finding.Write (record { process = x.process; word = word; value = value; call = p.call; item = t })
  writes_here a word value there at op first now = grind arith

  -- Where nothing is found, the line is not executed, the values stay, and no update ends that has not written.
  pub record IsQuiet : Type 0 where
    pub not_there : at_line line (executed x) ≡ false
    pub same : changes x ≡ false
    pub wrote : x.outcome ≡ outcome.Finished → p.wrote ≡ true

  pub quiet : found_at line t x p ≡ finding.Nothing → IsQuiet
  quiet h = grind arith

  -- nor is anything found where that is so
  pub nothing_here : IsQuiet → found_at line t x p ≡ finding.Nothing
  nothing_here q = grind arith
