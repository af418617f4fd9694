-- A `Summary` of many runs, counted survey by survey: with what is left to count it makes the summary of all.
use Rattle.std.proofs.Common.{◌≡◌, ℕ, suc, ◌+◌, ◌<◌, Bool, List, ◌∷◌, length, max, if◌then◌else◌}
use Rattle.std.proofs.Common.{drop, get_or, ◌∙◌, arith}
use Rattle.std.proofs.lemmas.List.{drop_more}
use Rattle.snap_survey.specs.Summary.{AreFewer, summary_of, with_survey}
use Rattle.snap_survey.specs.declared.summary.Summary.{Summary}
use Rattle.snap_survey.specs.declared.findings.JudgedSurvey.{JudgedSurvey}

-- two summaries side by side
abbrev pub together : Summary → Summary → Summary
together a b = record {
  schedules = a.schedules + b.schedules;
  answering = a.answering + b.answering;
  without_point = a.without_point + b.without_point;
  most_collects = max a.most_collects b.most_collects;
  updating = a.updating + b.updating;
  unfinished = a.unfinished + b.unfinished;
  trapping = a.trapping + b.trapping;
  crashing = a.crashing + b.crashing;
  skipping = a.skipping + b.skipping;
  linearizable = a.linearizable + b.linearizable;
  not_linearizable = a.not_linearizable + b.not_linearizable;
  undecided = a.undecided + b.undecided;
}

-- of these surveys some are counted, and the others are left
pub record Counting (all : List JudgedSurvey) (m : Summary) (k : ℕ) (left : List JudgedSurvey) : Type 0 where
  pub total : together m (summary_of left) ≡ summary_of all
  pub number : m.schedules ≡ k
  pub fewer : AreFewer m (k + 1)

-- one that is counted is no longer left
moved : (b : Bool) (x y : ℕ) → (if b then x + 1 else x) + y ≡ x + (if b then suc y else y)
moved b x y = grind arith

moved_one : (x y : ℕ) → (x + 1) + y ≡ x + suc y
moved_one x y = omega arith

most_moved : (a b c : ℕ) → max (max b a) c ≡ max a (max b c)
most_moved a b c = omega arith

-- one more at most
one_more : (b : Bool) (x k : ℕ) → x < k → (if b then x + 1 else x) < k + 1
one_more b x k h = grind arith

-- the sum stays the same with one survey counted
same_total : (m : Summary) (s : JudgedSurvey) (left : List JudgedSurvey) →
    together (with_survey m s) (summary_of left) ≡ together m (summary_of (s ∷ left))
same_total m s left = simp (moved, moved_one, most_moved)

-- with the next one counted, the others are left
pub counts_next : (all : List JudgedSurvey) (m m' : Summary) (k : ℕ) (d : JudgedSurvey) → k < length all →
    m' ≡ with_survey m (get_or all k d) → Counting all m k (drop k all) → Counting all m' (k + 1) (drop (k + 1) all)
counts_next all m m' k d lt is h =
    let f = h.fewer in
    let n = h.number in
    rw is (record {
      total = same_total m (get_or all k d) (drop (k + 1) all) ∙ (rw (drop_more all k d lt) at h.total);
      number = omega arith;
      fewer = search one_more;
    })
