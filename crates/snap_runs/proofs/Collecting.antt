-- The reads of a double collect, for any algorithm: the copies of a process
-- are the words that it read at items of the first and of the second collect.
use Rattle.std.proofs.Common.{◌≡◌, ℕ, zero, suc, ◌+◌, ◌-◌, ◌<◌, ◌≤◌, ◌⊎◌, Bool, false, List, length, slice_set}
use Rattle.std.proofs.Common.{if◌then◌else◌, refl, sym, ◌∙◌, ap, subst, arith, inl, inr}
use Rattle.std.proofs.lemmas.Bool.{cases_eq}
use Rattle.std.proofs.lemmas.Grind.{get_or-set_at}
use Rattle.std.proofs.lemmas.List.{get_or-set_other}
use Rattle.snap_runs.proofs.Common.{IsOneOf, Word, no_word, Item, Step, Op, Scan, Update}
use Rattle.snap_runs.proofs.Algorithm.{Mode, Control, Idle, At, WhenBusy, Move, To, Begin}
use Rattle.snap_runs.proofs.Algorithm.{TypedProcess, Algorithm, typed_at, item_at, typed_state, called_auxiliary}
use Rattle.snap_runs.proofs.Computing.{either}
use Rattle.snap_runs.proofs.Embedding as embed
use Rattle.snap_runs.proofs.Held.{word_at}
use Rattle.snap_runs.proofs.ItemCases as cases
use Rattle.snap_runs.proofs.Steady.{Steady}

-- what a line is in a double collect: it reads a word into the first copies, or has read it; the same of the second
-- ones; or all copies are there
pub data Phase : Type 0 where
  Away : Phase
  ReadsFirst : Phase
  HasFirst : Phase
  ReadsSecond : Phase
  HasSecond : Phase
  Collected : Phase

-- where an algorithm has its copies, and the place at which a collect is
pub record Copies (V P M : Type 0) : Type 0 where
  pub words : M → List Word
  pub places : ℕ
  pub index : V → ℕ
  pub first : V → List Word
  pub second : V → List Word
  pub phase : P → Phase

module _ {V P M : Type 0} (a : Algorithm V P M) (c : Copies V P M) where
  -- what a line that leads from one phase to another does to the copies
  abbrev pub Reached : Phase → M → V → Phase → V → Type 0
  Reached Away m p from p' = Unit {0}
  Reached ReadsFirst m p from p' =
      (c.index p' ≡ 1) ⊎ ((from ≡ HasFirst) × (c.index p' ≡ c.index p + 1) × (c.first p' ≡ c.first p))
  Reached HasFirst m p from p' =
      (from ≡ ReadsFirst) × (c.index p' ≡ c.index p) × IsOneOf c.places (c.index p) × (c.places ≤ length (c.first p))
      × (c.first p' ≡ slice_set (c.first p) (c.index p - 1) (word_at (c.words m) (c.index p)))
  Reached ReadsSecond m p from p' =
      (c.first p' ≡ c.first p)
      × (((from ≡ HasFirst) × (c.places ≤ c.index p) × (c.index p' ≡ 1))
      ⊎ ((from ≡ HasSecond) × (c.index p' ≡ c.index p + 1) × (c.second p' ≡ c.second p)))
  Reached HasSecond m p from p' =
      (c.first p' ≡ c.first p) × (from ≡ ReadsSecond) × (c.index p' ≡ c.index p) × IsOneOf c.places (c.index p)
      × (c.places ≤ length (c.second p))
      × (c.second p' ≡ slice_set (c.second p) (c.index p - 1) (word_at (c.words m) (c.index p)))
  Reached Collected m p from p' =
      (c.first p' ≡ c.first p) × (c.second p' ≡ c.second p)
      × (((from ≡ HasSecond) × (c.places ≤ c.index p)) ⊎ (from ≡ Collected))

  abbrev pub Reaches : M → V → P → Move V P M → Type 0
  Reaches m p k (To d' m' p' k') = Reached (c.phase k') m p (c.phase k) p'
  Reaches m p k (Begin d' p' k') = c.phase k' ≡ Away
  Reaches m p k _ = Unit {0}

  module _ (items : List Item) (fits : Steady (embed.run_of a items)) (does : embed.AllDo a items)
      (reaches : (t i : ℕ) → t < length items → IsOneOf a.shape.n i →
      WhenBusy (λ d k. Reaches (typed_state a items t).memory (typed_at a (typed_state a items t) i).variables k
      (a.move i d (typed_state a items t).memory (typed_at a (typed_state a items t) i).variables k))
      (typed_at a (typed_state a items t) i).control)
      (quiet : (k : P) → (c.phase k ≡ Away) ⊎ (a.restarts k ≡ false)) (away : (op : Op) → c.phase (a.counter op) ≡ Away)
      (i : ℕ) (one : IsOneOf a.shape.n i) where
    abbrev pub his : ℕ → TypedProcess V P M
    his t = typed_at a (typed_state a items t) i

    abbrev pub words : ℕ → List Word
    words t = c.words (typed_state a items t).memory

    -- item suc t is a step of the process at a line of this phase, at this place
    pub record Reading (phase : Phase) (k t : ℕ) : Type 0 where
      pub item : item_at items t ≡ Step i
      pub mode : Mode
      pub line : P
      pub control : (his t).control ≡ At mode line
      pub is : c.phase line ≡ phase
      pub place : c.index (his t).variables ≡ k

    -- the copy of word k is what the process read between states s and t
    pub record Read (phase : Phase) (s t : ℕ) (copies : List Word) (k : ℕ) : Type 0 where
      pub time : ℕ
      pub after : s ≤ time
      pub before : time < t
      pub reading : Reading phase k time
      pub copy : word_at copies k ≡ word_at (words time) k

    read_on : (phase : Phase) (s t t' : ℕ) (x y : List Word) (k : ℕ) → t ≤ t' → word_at y k ≡ word_at x k →
        Read phase s t x k → Read phase s t' y k
    read_on phase s t t' x y k le same h =
        record { time = h.time; after = h.after; before = omega arith; reading = h.reading; copy = same ∙ h.copy }

    abbrev pub FirstTo : ℕ → ℕ → V → ℕ → Type 0
    FirstTo s t p j = (k : ℕ) → IsOneOf c.places k → k < j → Read ReadsFirst s t (c.first p) k

    -- all first copies were read before state `middle`, and the second ones up to place j after it
    pub record Both (s t : ℕ) (p : V) (j : ℕ) : Type 0 where
      pub middle : ℕ
      pub from : s ≤ middle
      pub to : middle ≤ t
      pub first : (k : ℕ) → IsOneOf c.places k → Read ReadsFirst s middle (c.first p) k
      pub second : (k : ℕ) → IsOneOf c.places k → k < j → Read ReadsSecond middle t (c.second p) k

    abbrev pub Progress : ℕ → ℕ → V → Phase → Type 0
    Progress s t p Away = Unit {0}
    Progress s t p ReadsFirst = FirstTo s t p (c.index p)
    Progress s t p HasFirst = FirstTo s t p (c.index p + 1)
    Progress s t p ReadsSecond = Both s t p (c.index p)
    Progress s t p HasSecond = Both s t p (c.index p + 1)
    Progress s t p Collected = Both s t p (c.places + 1)

    -- more time, with the copies as they are
    first_on : (s t : ℕ) (p p' : V) (j j' : ℕ) → c.first p' ≡ c.first p → j' ≤ j →
        FirstTo s t p j → FirstTo s (suc t) p' j'
    first_on s t p p' j j' same le h k one_k lt =
        read_on ReadsFirst s t (suc t) (c.first p) (c.first p') k (omega arith)
        (ap (λ x. word_at x k) same) (h k one_k (omega arith))

    both_on : (s t : ℕ) (p p' : V) (j j' : ℕ) → c.first p' ≡ c.first p → c.second p' ≡ c.second p →
        ((k : ℕ) → IsOneOf c.places k → k < j' → k < j) → Both s t p j → Both s (suc t) p' j'
    both_on s t p p' j j' same same2 less h =
        record {
          middle = h.middle;
          from = h.from;
          to = omega arith;
          first =
              λ k one_k. read_on ReadsFirst s h.middle h.middle (c.first p) (c.first p') k (omega arith)
              (ap (λ x. word_at x k) same) (h.first k one_k);
          second = λ k one_k lt.
              read_on ReadsSecond h.middle t (suc t) (c.second p) (c.second p') k (omega arith)
              (ap (λ x. word_at x k) same2) (h.second k one_k (less k one_k lt));
        }

    longer : (s t : ℕ) (p : V) (phase : Phase) → Progress s t p phase → Progress s (suc t) p phase
    longer s t p Away h = tt
    longer s t p ReadsFirst h = first_on s t p p (c.index p) (c.index p) refl (omega arith) h
    longer s t p HasFirst h = first_on s t p p (c.index p + 1) (c.index p + 1) refl (omega arith) h
    longer s t p ReadsSecond h = both_on s t p p (c.index p) (c.index p) refl refl (λ k o lt. lt) h
    longer s t p HasSecond h = both_on s t p p (c.index p + 1) (c.index p + 1) refl refl (λ k o lt. lt) h
    longer s t p Collected h = both_on s t p p (c.places + 1) (c.places + 1) refl refl (λ k o lt. lt) h

    -- a copy that is read now
    read_now : (phase : Phase) (s t : ℕ) (d : Mode) (l : P) (x x' : List Word) (k : ℕ) →
        s ≤ t → item_at items t ≡ Step i → (his t).control ≡ At d l →
        c.phase l ≡ phase → IsOneOf c.places (c.index (his t).variables) → c.places ≤ length x →
        x' ≡ slice_set x (c.index (his t).variables - 1) (word_at (words t) (c.index (his t).variables)) →
        (IsOneOf c.places k → k < c.index (his t).variables → Read phase s t x k) → IsOneOf c.places k →
        k < c.index (his t).variables + 1 → Read phase s (suc t) x' k
    read_now phase s t d l x x' k le is at its inside len set old one_k lt =
        let j = c.index (his t).variables in
        elim (cases_eq k j) [
          | inl same ↦ record {
            time = t;
            after = le;
            before = omega arith;
            reading = record { item = is; mode = d; line = l; control = at; is = its; place = sym same };
            copy = ap (λ y. word_at y k) set
                ∙ get_or-set_at x (j - 1) (k - 1) (word_at (words t) j) no_word (ap (λ y. y - 1) same) (omega arith)
                ∙ ap (word_at (words t)) (sym same);
          }
          | inr other ↦ read_on phase s t (suc t) x x' k (omega arith)
              (ap (λ y. word_at y k) set
              ∙ get_or-set_other x (j - 1) (k - 1) (word_at (words t) j) no_word (λ same. other (omega arith)))
              (old one_k (omega arith))
        ]

    -- a step at a line
    advance : (s t : ℕ) (d : Mode) (l : P) (p' : V) (to : Phase) → s ≤ t → item_at items t ≡ Step i →
        (his t).control ≡ At d l → Reached to (typed_state a items t).memory (his t).variables (c.phase l) p' →
        Progress s t (his t).variables (c.phase l) → Progress s (suc t) p' to
    advance s t d l p' Away le is at r h = tt
    advance s t d l p' ReadsFirst le is at r h =
        elim r [
          | inl first ↦ (λ k one_k lt. absurd (let e : c.index p' ≡ 1 = first in omega arith))
          | inr next ↦ (first_on s t (his t).variables p' (c.index (his t).variables + 1) (c.index p') next.2
              (omega arith)
              (subst (Progress s t (his t).variables) next.0 h))
        ]
    advance s t d l p' HasFirst le is at r h =
        let g : FirstTo s t (his t).variables (c.index (his t).variables) =
        subst (Progress s t (his t).variables) r.0 h in
        λ k one_k lt.
        read_now ReadsFirst s t d l (c.first (his t).variables)
        (c.first p') k le is at r.0 r.2 r.3 r.4 (g k) one_k (omega arith)
    advance s t d l p' ReadsSecond le is at r h =
        let p = (his t).variables in
        elim r.1 [
          | inl start ↦ (let g : FirstTo s t p (c.index p + 1) = subst (Progress s t p) start.0 h in
              record {
                middle = t;
                from = le;
                to = omega arith;
                first =
                    λ k one_k. read_on ReadsFirst s t t (c.first p) (c.first p') k (omega arith)
                    (ap (λ x. word_at x k) r.0) (g k one_k (omega arith));
                second = λ k one_k lt. absurd (omega arith);
              })
          | inr next ↦ (both_on s t p p' (c.index p + 1) (c.index p') r.0 next.2 (λ k o lt. omega arith)
              (subst (Progress s t p) next.0 h))
        ]
    advance s t d l p' HasSecond le is at r h =
        let p = (his t).variables in
        let g : Both s t p (c.index p) = subst (Progress s t p) r.1 h in
        record {
          middle = g.middle;
          from = g.from;
          to = omega arith;
          first =
              λ k one_k. read_on ReadsFirst s g.middle g.middle (c.first p) (c.first p') k (omega arith)
              (ap (λ x. word_at x k) r.0) (g.first k one_k);
          second = λ k one_k lt.
              read_now ReadsSecond g.middle t d l (c.second p) (c.second p') k g.to is at r.1 r.3 r.4 r.5
              (g.second k) one_k (omega arith);
        }
    advance s t d l p' Collected le is at r h =
        let p = (his t).variables in
        elim r.2 [
          | inl done ↦ (both_on s t p p' (c.index p + 1) (c.places + 1) r.0 r.1 (λ k o lt. omega arith)
              (subst (Progress s t p) done.0 h))
          | inr on ↦ both_on s t p p' (c.places + 1) (c.places + 1) r.0 r.1 (λ k o lt. lt) (subst (Progress s t p) on h)
        ]

    -- from a line that is away nothing is known, and nothing is asked
    anew : (s t : ℕ) (p' : V) (m : M) (p : V) (to : Phase) → Reached to m p Away p' → Progress s t p' to
    anew s t p' m p Away r = tt
    anew s t p' m p ReadsFirst r =
        elim r [
          | inl first ↦ (λ k one_k lt. absurd (let e : c.index p' ≡ 1 = first in omega arith))
          | inr next ↦ absurd (let e : Away ≡ HasFirst = next.0 in cc)
        ]
    anew s t p' m p HasFirst r = absurd (let e : Away ≡ ReadsFirst = r.0 in cc)
    anew s t p' m p ReadsSecond r =
        elim r.1 [
          | inl start ↦ absurd (let e : Away ≡ HasFirst = start.0 in cc)
          | inr next ↦ absurd (let e : Away ≡ HasSecond = next.0 in cc)
        ]
    anew s t p' m p HasSecond r = absurd (let e : Away ≡ ReadsSecond = r.1 in cc)
    anew s t p' m p Collected r =
        elim r.2 [
          | inl done ↦ absurd (let e : Away ≡ HasSecond = done.0 in cc)
          | inr on ↦ absurd (let e : Away ≡ Collected = on in cc)
        ]

    -- the process at state t
    abbrev pub Tracked : ℕ → TypedProcess V P M → Type 0
    Tracked t q =
        (q.auxiliary.round ≤ t) × WhenBusy (λ d k. Progress q.auxiliary.round t q.variables (c.phase k)) q.control

    kept : (t s : ℕ) (p : V) (control : Control P) → WhenBusy (λ d k. Progress s t p (c.phase k)) control →
        WhenBusy (λ d k. Progress s (suc t) p (c.phase k)) control
    kept t s p Idle h = tt
    kept t s p (At d k) h = longer s t p (c.phase k) h

    round_le : (t s : ℕ) (b : Bool) → s ≤ t → (if b then suc t else s) ≤ suc t
    round_le t s b le = either (λ x. x ≤ suc t) b (suc t) s (λ is. omega arith) (λ is. omega arith)

    stepped : (t : ℕ) (d : Mode) (k : P) (v : Move V P M) → item_at items t ≡ Step i → (his t).control ≡ At d k →
        Reaches (typed_state a items t).memory (his t).variables k v → (his t).auxiliary.round ≤ t →
        Progress (his t).auxiliary.round t (his t).variables (c.phase k) →
        Tracked (suc t) (cases.moved a (suc t) (his t) k v)
    stepped t d k (To d' m' p' k') is at r le h =
        let s = (his t).auxiliary.round in (
          round_le t s (a.restarts k) le,
          elim (quiet k) [
            | inl gone ↦
                anew (if a.restarts k then suc t else s) (suc t) p' (typed_state a items t).memory
                (his t).variables (c.phase k')
                (subst (λ y. Reached (c.phase k') (typed_state a items t).memory (his t).variables y p') gone r)
            | inr still ↦ subst (λ b. Progress (if b then suc t else s) (suc t) p' (c.phase k')) (sym still)
                (advance s t d k p' (c.phase k') le is at r h)
          ],
        )
    stepped t d k (Begin d' p' k') is at r le h = (omega arith, subst (Progress (suc t) (suc t) p') (sym r) tt)
    stepped t d k _ is at r le h = (round_le t (his t).auxiliary.round (a.restarts k) le, tt)

    called_round : (t : ℕ) (op : Op) (q : TypedProcess V P M) → q.auxiliary.round ≤ t →
        (called_auxiliary (suc t) op q.auxiliary).round ≤ suc t
    called_round t Scan q le = omega arith
    called_round t (Update word value) q le = omega arith

    pub tracked : (t : ℕ) → t ≤ length items → Tracked t (his t)
    tracked zero short = subst (Tracked 0) (sym (embed.first_process_is a i one)) (omega arith, tt)
    tracked (suc t) short =
        let h = tracked t (omega arith) in
        elim (cases.item_case a items fits does i one t (omega arith)) [
          | inl stays ↦ subst (Tracked (suc t)) (sym stays.same) (
            omega arith,
            kept t (his t).auxiliary.round (his t).variables (his t).control h.1,
          )
          | inr busy_or_called ↦ elim busy_or_called [
            | inl s ↦ subst (Tracked (suc t)) (sym s.after)
                (stepped t s.mode s.counter
                (a.move i s.mode (typed_state a items t).memory (his t).variables s.counter) s.item s.control
                (subst (WhenBusy (λ d k. Reaches (typed_state a items t).memory (his t).variables k
                (a.move i d (typed_state a items t).memory (his t).variables k)))
                s.control (reaches t i (omega arith) one))
                h.0
                (subst (WhenBusy (λ d k. Progress (his t).auxiliary.round t (his t).variables (c.phase k)))
                s.control h.1))
            | inr k ↦ subst (Tracked (suc t)) (sym k.after) (
              called_round t k.op (his t) h.0,
              subst (Progress (called_auxiliary (suc t) k.op (his t).auxiliary).round (suc t) (his t).variables)
                  (sym (away k.op)) tt,
            )
          ]
        ]
