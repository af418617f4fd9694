-- The last writes of the words (`AreLast`), one step further.
use Rattle.std.proofs.Common.{◌≡◌, ℕ, zero, suc, ◌+◌, ◌<◌, Bool, true, false, List, Option, Some, None, add-one}
use Rattle.std.proofs.Common.{if◌then◌else◌, length, nat_eq, slice_index_or, slice_set, refl, ◌∙◌, arith, length-set}
use Rattle.std.proofs.lemmas.Bool.{ne_eqb}
use Rattle.std.proofs.lemmas.Bool.Decides.{nat_tests}
use Rattle.std.proofs.lemmas.Grind.{common_steps}
use Rattle.std.proofs.lemmas.List.{get_or-replicate, length-replicate}
use Rattle.std.specs.Prelude.{IfSome, replicate}
use Rattle.snap_acts.specs.Loans.{step_at}
use Rattle.snap_acts.specs.Searches.{last_before, meets, no_step, writes_word}
use Rattle.snap_acts.specs.declared.act.Act.{Act}
use Rattle.snap_acts.specs.declared.act.Act.TheVariants as act
use Rattle.snap_acts.specs.declared.act.TraceStep.{TraceStep}
use Rattle.snap_acts.specs.declared.searches.StepPattern.{StepPattern}
use Rattle.snap_acts.specs.declared.searches.StepPattern.TheVariants as wanted
use Rattle.snap_picture.specs.LastPlaces.{AreLast, word_written}

-- what is found lies before
pub found_before : (w : StepPattern) (ss : List TraceStep) (k : ℕ) → IfSome (last_before w ss k) (λ j. j < k)
found_before w ss zero = tt
found_before w ss (suc k) = grind (arith, found_before w ss k)

-- whether an item wrote a word
abbrev wrote : Option ℕ → ℕ → Bool
wrote None j = false
wrote (Some word) j = nat_eq word j

as_written : (a : Act) (j : ℕ) → writes_word j a ≡ wrote (word_written a) j
as_written (act.Write word values x) j = refl
as_written _ j = refl

one_more : (ss : List TraceStep) (k j : ℕ) →
    last_before (wanted.WriteOf j) ss (k + 1)
    ≡ (if wrote (word_written (step_at ss k).act) j then Some k else last_before (wanted.WriteOf j) ss k)
one_more ss k j = rw (add-one, as_written (step_at ss k).act j) refl

-- a step that writes none of these words
pub none_written : (ss : List TraceStep) (k : ℕ) (places : List (Option ℕ)) →
    ((j : ℕ) → j < 64 → wrote (word_written (step_at ss k).act) (j + 1) ≡ false) → AreLast ss k places →
    AreLast ss (k + 1) places
none_written ss k places none h = record {
  count = h.count;
  are = λ j few. rw (one_more ss k (j + 1), none j few) (h.are j few);
}

pub other_written : (ss : List TraceStep) (k : ℕ) (places : List (Option ℕ)) (s : TraceStep) →
    word_written s.act ≡ None → s ≡ step_at ss k → AreLast ss k places → AreLast ss (k + 1) places
other_written ss k places s none there h =
    none_written ss k places (λ j few. rw (← there, none) refl) h

pub far_written : (ss : List TraceStep) (k word : ℕ) (places : List (Option ℕ)) (s : TraceStep) →
    word_written s.act ≡ Some word → (0 < word → 64 < word) → s ≡ step_at ss k → AreLast ss k places →
    AreLast ss (k + 1) places
far_written ss k word places s one far there h =
    none_written ss k places (λ j few. rw (← there, one) (ne_eqb word (j + 1) (λ e.
    let more : 64 < word = far (omega (arith, e)) in omega (arith, few, e, more)))) h

-- a place after another one is set
set_there : (places : List (Option ℕ)) (i k word j : ℕ) (old : Option ℕ) → i < length places → word ≡ i + 1 →
    slice_index_or places j None ≡ old →
    slice_index_or (slice_set places i (Some k)) j None ≡ (if nat_eq word (j + 1) then Some k else old)
set_there places i k word j old inside is was = grind (arith, nat_tests, common_steps)

-- a step that writes a word
pub one_written : (ss : List TraceStep) (k i word : ℕ) (places : List (Option ℕ)) (s : TraceStep) →
    word_written s.act ≡ Some word → (i < 64) × (word ≡ i + 1) → s ≡ step_at ss k → AreLast ss k places →
    AreLast ss (k + 1) (slice_set places i (Some k))
one_written ss k i word places s one place there h = record {
  count = length-set places i (Some k) ∙ h.count;
  are = λ j below.
      rw (one_more ss k (j + 1), ← there, one)
      (set_there places i k word j _ (omega (arith, h.count, place.0)) place.1 (h.are j below));
}

-- no step is noted yet
pub none_yet : (ss : List TraceStep) → let o : Option ℕ = None in AreLast ss 0 (replicate 64 o)
none_yet ss =
    let o : Option ℕ = None in
    record { count = length-replicate 64 o; are = λ j few. get_or-replicate 64 j o o few }

-- what is kept of a word
pub is_kept : (ss : List TraceStep) (k i word : ℕ) (places : List (Option ℕ)) → AreLast ss k places →
    (i < 64) × (word ≡ i + 1) → slice_index_or places i None ≡ last_before (wanted.WriteOf word) ss k
is_kept ss k i word places h place = rw place.1 (h.are i place.0)
