-- `AreLast`: at which of the first places of a trace each word was written last.
use Rattle.std.specs.Prelude.{◌≡◌, ℕ, ◌+◌, ◌<◌, List, length, Option, Some, None, slice_index_or}
use Rattle.snap_acts.specs.Searches.{last_before}
use Rattle.snap_acts.specs.declared.act.Act.{Act}
use Rattle.snap_acts.specs.declared.act.Act.TheVariants as act
use Rattle.snap_acts.specs.declared.act.TraceStep.{TraceStep}
use Rattle.snap_acts.specs.declared.searches.StepPattern.TheVariants as wanted

-- the word that an item wrote, if it wrote one
abbrev pub word_written : Act → Option ℕ
word_written (act.Write word values x) = Some word
word_written _ = None

-- of words 1 to 64, the last of the first k places at which the word is written
pub record AreLast (ss : List TraceStep) (k : ℕ) (places : List (Option ℕ)) : Type 0 where
  pub count : length places ≡ 64
  pub are : (j : ℕ) → j < 64 → slice_index_or places j None ≡ last_before (wanted.WriteOf (j + 1)) ss k
