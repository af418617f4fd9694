-- The runs of M without crashes: the invariant at each state.
use Rattle.std.specs.Prelude.{◌≡◌, ℕ, zero, suc, ◌-◌, ◌<◌, ◌≤◌, max, List, [], length, replicate, slice_index, refl}
use Rattle.std.proofs.Common.{sym, ◌∙◌, ap, subst, arith}
use Rattle.std.proofs.lemmas.List.{get_or-replicate, length-replicate}
use Rattle.snap_runs.proofs.Common.{IsOneOf, Word, no_word, Item}
use Rattle.snap_runs.proofs.Algorithm.{Mode, Idle, At, when_busy, first_process}
use Rattle.snap_runs.proofs.Algorithm.{first_state, typed_at, item_at, typed_state}
use Rattle.snap_runs.proofs.Embedding as embed
use Rattle.snap_runs.proofs.Held.{word_at}
use Rattle.snap_runs.proofs.Scans as scans
use Rattle.snap_runs_of_m.specs.Promises.{run_of}
use Rattle.snap_runs_of_m.proofs.Algorithm.{lines, Registers, Process, first_word, first_memory, Control, State}
use Rattle.snap_runs_of_m.proofs.Algorithm.{Variables, ProgramCounter, L28, bit, IsLineOf, algorithm}
use Rattle.snap_runs_of_m.proofs.Basics.{Square}
use Rattle.snap_runs_of_m.proofs.Control.{ControlWell, Keeps, NamedAt28, does}
use Rattle.snap_runs_of_m.proofs.Count.{Count}
use Rattle.snap_runs_of_m.proofs.Flows.{flows}
use Rattle.snap_runs_of_m.proofs.History.{Now, Since, Laws, since_itself}
use Rattle.snap_runs_of_m.proofs.Collect.{seen_by_words}
use Rattle.snap_runs_of_m.proofs.Stage.{Stage}
use Rattle.snap_runs_of_m.proofs.Invariant.{ProcessInvariant, Invariant, StageAt, CountAt}
use Rattle.snap_runs_of_m.proofs.Preserve.{happens_inv}
use Rattle.snap_runs.proofs.Steady.{Steady}

abbrev pub state_at : ℕ → ℕ → List Item → ℕ → State
state_at n w items t = typed_state (algorithm n w) items t

abbrev pub registers_at : ℕ → ℕ → List Item → ℕ → Registers
registers_at n w items t = (state_at n w items t).memory

-- the registers at the start
first_word_at : (w k : ℕ) → IsOneOf w k → word_at (replicate w first_word) k ≡ first_word
first_word_at w k h = get_or-replicate w (k - 1) first_word no_word (omega arith)

first_square : (n : ℕ) → Square n (replicate n (replicate n 0))
first_square n = (
  length-replicate n (replicate n 0),
  λ i h. ap length (get_or-replicate n (i - 1) (replicate n 0) [] (omega arith)) ∙ length-replicate n 0,
)

first_bit : (n c i : ℕ) → IsOneOf n c → IsOneOf n i → bit (replicate n (replicate n 0)) c i ≡ 0
first_bit n c i h j =
    ap (λ (row : List ℕ). slice_index row (i - 1)) (get_or-replicate n (c - 1) (replicate n 0) [] (omega arith))
    ∙ get_or-replicate n (i - 1) 0 0 (omega arith)

now0 : (n w : ℕ) → Now n w (first_memory n w)
now0 n w = record {
  size = length-replicate w first_word;
  square_q = first_square n;
  square_p = first_square n;
  views = length-replicate n (replicate w 0);
  named =
      λ k h pos. absurd (omega (arith, ap (λ (x : Word). x.seq) (first_word_at w k h)));
  toggle =
      λ k h named. absurd (omega (arith, ap (λ (x : Word). x.id) (first_word_at w k h)));
  bits = λ c i h j. omega (arith, first_bit n c i h j);
  answers_from = λ c i h j. omega arith;
  answers_to = λ c i h j. omega arith;
  puts_from = λ c h. omega arith;
  puts_to = λ c i h j. omega arith;
}

module _ (n w : ℕ) (items : List Item) where
  laws0 : Laws n w (registers_at n w items) 0
  laws0 = record {
    now = now0 n w;
    since =
        λ u le. subst (λ y. (Since n w (registers_at n w items) y 0)) (let e : 0 ≡ u = omega arith in e)
        (since_itself n w (registers_at n w items) 0 (now0 n w));
    answered = λ c i low value h j asks more. absurd (omega arith);
  }

  own0 : (i : ℕ) → ProcessInvariant n w 0 (registers_at n w items) i (first_process (algorithm n w))
  own0 i = record {
    well = tt;
    long = record {
      a = length-replicate (max n w) first_word;
      b = length-replicate (max n w) first_word;
      g = length-replicate (max n w) 0;
      h = length-replicate (max n w) 0;
      tog = length-replicate (max n w) 0;
      d = subst (λ v. n ≤ v) (sym (length-replicate (max n w) 0)) (let le : n ≤ max n w = omega arith in le);
    };
    opened = omega arith;
    round_le = omega arith;
    stage = tt;
    counts = tt;
    wrote = tt;
    books = record {
      answers_are = λ c o. refl;
      puts_are = refl;
      toggles_are = λ y o. get_or-replicate (max n w) (y - 1) 0 0 (omega arith);
    };
  }

  inv0 : Invariant n w 0 (registers_at n w items) (first_state (algorithm n w))
  inv0 = record {
    laws = λ u le. subst (Laws n w (registers_at n w items)) (let e : 0 ≡ u = omega arith in e) laws0;
    each =
        λ i h. subst (λ (q : Process). ProcessInvariant n w 0 (registers_at n w items) i q)
        (sym (embed.first_process_is (algorithm n w) i h)) (own0 i);
  }

  pub inv : 0 < w → Steady (run_of n w items) → (t : ℕ) → t ≤ length items →
      Invariant n w t (registers_at n w items) (state_at n w items t)
  inv some fits zero h = inv0
  inv some fits (suc t) h =
      happens_inv n w t (registers_at n w items) (state_at n w items t) (item_at items t) some
      (embed.count (algorithm n w) items t)
      (embed.one_at (algorithm n w) items fits t (omega arith)) refl (inv some fits t (omega arith)) refl

  pub own : 0 < w → Steady (run_of n w items) → (t i : ℕ) → t ≤ length items → IsOneOf n i →
      ProcessInvariant n w t (registers_at n w items) i (typed_at (algorithm n w) (state_at n w items t) i)
  own some fits t i h one = (inv some fits t h).each i one

-- line 28 marks a process
named_28 : (n w i : ℕ) (history : ℕ → Registers) (t since round : ℕ) (p : Variables) (control : Control) → IsOneOf n i →
    ((u : ℕ) → u ≤ t → Laws n w history u) →
    ControlWell n w p control → StageAt n w i history t since round p control → NamedAt28 n p control
named_28 n w i history t since round p Idle one laws well h = tt
named_28 n w i history t since round p (At d k) one laws well h = λ e.
    let at28 : Stage n w i history t since round p L28 = subst (Stage n w i history t since round p) e h in
    let keeps = (subst (λ y. ControlWell n w p (At d y)) e well).1 in
    subst (IsOneOf n) (sym at28.4)
    (seen_by_words n w i history round t p.g p.a p.b p.h one laws at28.1 p.k keeps.1 at28.3).0

module _ (n w : ℕ) (items : List Item) (some : 0 < w) (fits : Steady (run_of n w items)) where
  pub all_do : embed.AllDo (algorithm n w) items
  all_do t i h one =
      let v = inv n w items some fits t (omega arith) in
      let o = v.each i one in
      let q = typed_at (algorithm n w) (state_at n w items t) i in
      does n w i (registers_at n w items t) q.variables q.control
      (record { one = one; some = some; bits = λ c k. (v.laws t (omega arith)).now.bits c i k one; long = o.long }) o.well
      (named_28 n w i (registers_at n w items) t q.auxiliary.since q.auxiliary.round q.variables
      q.control one v.laws o.well o.stage)

  -- the run, with what is known of its lines
  abbrev pub execution : scans.Execution (algorithm n w) lines
  execution = record {
    items = items;
    fits = fits;
    does = all_do;
    flows = λ t i h one.
        let q = typed_at (algorithm n w) (state_at n w items t) i in
        when_busy _ _ (λ d k well. flows n w i d (registers_at n w items t) q.variables k well.0) q.control
        (own n w items some fits t i (omega arith) one).well;
    wrote = λ t i h one. (own n w items some fits t i h one).wrote;
  }

module _ (n w : ℕ) (items : List Item) (some : 0 < w) (fits : Steady (run_of n w items)) (t i : ℕ) (d : Mode)
    (k : ProgramCounter) (le : t ≤ length items) (one : IsOneOf n i)
    (e : (typed_at (algorithm n w) (state_at n w items t) i).control ≡ At d k) where
  -- what a process at a line keeps there
  pub well_of : IsLineOf w d k × Keeps n w d (typed_at (algorithm n w) (state_at n w items t) i).variables k
  well_of =
      let q = typed_at (algorithm n w) (state_at n w items t) i in
      subst (ControlWell n w q.variables) e (own n w items some fits t i le one).well

  -- a busy process is at the stage of its line
  pub stage_of : Stage n w i (registers_at n w items) t
      (typed_at (algorithm n w) (state_at n w items t) i).auxiliary.since
      (typed_at (algorithm n w) (state_at n w items t) i).auxiliary.round
      (typed_at (algorithm n w) (state_at n w items t) i).variables k
  stage_of =
      let q = typed_at (algorithm n w) (state_at n w items t) i in
      subst (StageAt n w i (registers_at n w items) t q.auxiliary.since q.auxiliary.round q.variables) e
      (own n w items some fits t i le one).stage

  -- the counts of a process at a line are those of the line
  pub counts_of : Count n w (typed_at (algorithm n w) (state_at n w items t) i).variables
      (typed_at (algorithm n w) (state_at n w items t) i).auxiliary.own
      (typed_at (algorithm n w) (state_at n w items t) i).auxiliary.collects
      (typed_at (algorithm n w) (state_at n w items t) i).auxiliary.tested k
  counts_of =
      let q = typed_at (algorithm n w) (state_at n w items t) i in
      subst (CountAt n w q.variables q.auxiliary.own q.auxiliary.collects q.auxiliary.tested) e
      (own n w items some fits t i le one).counts
