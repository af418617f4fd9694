-- How control passes from line to line of any `Algorithm`: a
-- scan stays a scan until it returns, and an update writes once.
use Rattle.std.specs.Prelude.{◌≡◌, ℕ, ◌+◌, ◌⊎◌, Bool, true, false, List, Option, Some, None, refl}
use Rattle.std.proofs.Common.{sym, ◌∙◌, ap, subst, arith, inl, inr}
use Rattle.snap_semantics.specs.declared.process.Op.TheVariants.{Scan, Update}
use Rattle.snap_semantics.specs.Source.{instr_at}
use Rattle.snap_runs.specs.Scan.{IsCallLine, ReturnsView}
use Rattle.snap_runs.proofs.Algorithm.{Mode, Scanning, Embedded, Updating, op_of, Control, Idle, At, Move, To, Begin}
use Rattle.snap_runs.proofs.Algorithm.{Answer, Finish, Algorithm, returning}
use Rattle.snap_runs.proofs.ScanSpan as span
use Rattle.snap_runs.proofs.UpdateSpan as called

-- in a scan, called or embedded
abbrev pub IsInScan : Mode → Type 0
IsInScan (Updating word value) = ⊥
IsInScan _ = Unit {0}

abbrev pub InScan : {P : Type 0} → Control P → Type 0
InScan Idle = ⊥
InScan (At d k) = IsInScan d

-- an update of such a word outside its scan, and a scan, called or embedded in an update of such a word
abbrev pub IsUpdateOf : (ℕ → Type 0) → Mode → Type 0
IsUpdateOf Owned (Updating word value) = Owned word
IsUpdateOf Owned _ = ⊥

abbrev pub IsScanOf : (ℕ → Type 0) → Mode → Type 0
IsScanOf Owned Scanning = Unit {0}
IsScanOf Owned (Embedded word value) = Owned word
IsScanOf Owned (Updating word value) = ⊥

pub scan_inside : (Owned : ℕ → Type 0) (d : Mode) → IsScanOf Owned d → IsInScan d
scan_inside Owned (Updating word value) s = s
scan_inside Owned _ s = tt

pub not_update : (Owned : ℕ → Type 0) (d : Mode) → IsInScan d → IsUpdateOf Owned d → ⊥
not_update Owned (Updating word value) inside u = inside
not_update Owned _ inside u = u

-- a line of an update outside its scan, where it is one, and else a line of a scan
abbrev pub IsLine : (ℕ → Type 0) → Bool → Mode → Type 0
IsLine Owned true d = IsUpdateOf Owned d
IsLine Owned false d = IsScanOf Owned d

abbrev pub IsScanLine : Bool → Type 0
IsScanLine true = ⊥
IsScanLine false = Unit {0}

-- a scan is at one of its lines
pub scan_line : (Owned : ℕ → Type 0) (update : Bool) (d : Mode) → IsInScan d → IsLine Owned update d → IsScanLine update
scan_line Owned true d inside line = not_update Owned d inside line
scan_line Owned false d inside line = tt

pub update_of : (Owned : ℕ → Type 0) (d : Mode) → IsUpdateOf Owned d →
    (word : ℕ) × (value : ℕ) × Owned word × (d ≡ Updating word value)
update_of Owned (Updating word value) u = (word, value, u, refl)
update_of Owned _ u = absurd u

-- what holds of each update of such a word holds of a process in one
pub in_update_of : (Owned : ℕ → Type 0) (Holds : Mode → Type 0) (d : Mode) → IsUpdateOf Owned d →
    ((word value : ℕ) → Owned word → Holds (Updating word value)) → Holds d
in_update_of Owned Holds (Updating word value) u each = each word value u
in_update_of Owned Holds _ u each = absurd u

-- what the lines of a listing are for
pub record Lines (V P M : Type 0) : Type 1 where
  -- what each line but those that write keeps of the memory
  pub Kept : M → M → Type 0
  -- a line that returns a view, the view, a line that writes, and the last line of an update
  pub IsReturn : P → Type 0
  pub answer : V → List ℕ
  pub IsWrite : P → Type 0
  pub IsLast : P → Type 0
  -- a line of an update at which its view is made and not yet written
  pub IsLate : P → Type 0
  -- the writes of an update before a line
  pub written : P → ℕ

module _ {V P M : Type 0} (lines : Lines V P M) where
  -- each line but those that write keeps the memory
  abbrev pub KeepsMemory : M → Move V P M → Type 0
  KeepsMemory m (To d m' p k) = lines.Kept m m'
  KeepsMemory m _ = Unit {0}

  -- no line but `call` leads into a scan
  abbrev pub KeepsOut : Mode → Move V P M → Type 0
  KeepsOut d (To d' m p k') = IsInScan d' → IsInScan d
  KeepsOut d _ = Unit {0}

  -- a process makes a view from the call of its embedded scan until it has written
  abbrev pub IsMaking : Mode → P → Type 0
  IsMaking Scanning k = ⊥
  IsMaking (Embedded word value) k = Unit {0}
  IsMaking (Updating word value) k = lines.IsLate k

  abbrev pub Making : Control P → Type 0
  Making Idle = ⊥
  Making (At d k) = IsMaking d k

  -- no line but `call` begins to make a view
  abbrev pub MakesNoMore : Mode → P → Move V P M → Type 0
  MakesNoMore d k (To d' m' p k') = IsMaking d' k' → IsMaking d k
  MakesNoMore d k _ = Unit {0}

  -- the writes of an update so far
  abbrev pub HasWritten : Control P → ℕ → Type 0
  HasWritten (At (Embedded word value) k) w = w ≡ 0
  HasWritten (At (Updating word value) k) w = w ≡ lines.written k
  HasWritten _ w = Unit {0}

  -- what an update makes and has written at a line
  pub late_makes : (Owned : ℕ → Type 0) (d : Mode) (k : P) → IsUpdateOf Owned d → lines.IsLate k → Making (At d k)
  late_makes Owned (Updating word value) k up late = late
  late_makes Owned _ k up late = absurd up

  pub makes_late : (Owned : ℕ → Type 0) (d : Mode) (k : P) → IsUpdateOf Owned d → Making (At d k) → lines.IsLate k
  makes_late Owned (Updating word value) k up made = made
  makes_late Owned _ k up made = absurd up

  pub writes_more : (Owned : ℕ → Type 0) (d : Mode) (k k' : P) (w : ℕ) → IsUpdateOf Owned d →
      lines.written k' ≡ lines.written k + 1 → HasWritten (At d k) w → HasWritten (At d k') (w + 1)
  writes_more Owned Scanning k k' w up more h = tt
  writes_more Owned (Embedded word value) k k' w up more h = absurd up
  writes_more Owned (Updating word value) k k' w up more h = ap (λ y. y + 1) h ∙ sym more

  abbrev pub CountsWrites : ℕ → Move V P M → Type 0
  CountsWrites w (To d m p k) = HasWritten (At d k) w
  CountsWrites w (Begin d p k) = HasWritten (At d k) w
  CountsWrites w _ = Unit {0}

  -- an answer is that of a line that returns
  abbrev pub AnswersAt : V → P → Move V P M → Type 0
  AnswersAt p k (Answer v) = lines.IsReturn k × (v ≡ lines.answer p)
  AnswersAt p k _ = Unit {0}

  module _ (a : Algorithm V P M) where
    -- what a line does to the mode of a process, to its embedded scan and to the view that it makes
    abbrev pub Flows : Mode → M → V → P → Move V P M → Type 0
    Flows Scanning m p k (To d' m' p' k') = (d' ≡ Scanning) × lines.Kept m m'
    Flows Scanning m p k (Answer v) = lines.IsReturn k × (v ≡ lines.answer p)
    Flows (Embedded word value) m p k (To d' m' p' k') =
        lines.Kept m m' × (a.writes k ≡ 0)
        × (((d' ≡ Embedded word value) × (lines.IsReturn k → ⊥))
        ⊎ ((d' ≡ Updating word value) × lines.IsReturn k × (lines.written k' ≡ 0)
        × (lines.answer p' ≡ lines.answer p)))
    Flows (Updating word value) m p k (To d' m' p' k') =
        (lines.Kept m m' ⊎ lines.IsWrite k) × (d' ≡ Updating word value)
        × (lines.written k' ≡ lines.written k + a.writes k)
        × (lines.IsLate k' → lines.IsLate k × (lines.answer p' ≡ lines.answer p))
    Flows (Updating word value) m p k (Begin d' p' k') =
        (d' ≡ Embedded word value) × (lines.written k + a.writes k ≡ 0)
        × IsCallLine (instr_at a.source.lines (a.number k))
    Flows (Updating word value) m p k Finish = lines.IsLast k
    Flows _ m p k _ = ⊥

    -- a line that goes on, writes nothing, and leads to no view that is to be written
    pub goes_on : (Owned : ℕ → Type 0) (update : Bool) (d : Mode) (m m' : M) (p p' : V) (k k' : P) →
        IsLine Owned update d → lines.Kept m m' → lines.written k' ≡ lines.written k + a.writes k → a.writes k ≡ 0 →
        (lines.IsReturn k → ⊥) → (lines.IsLate k' → ⊥) → Flows d m p k (To d m' p' k')
    goes_on Owned update Scanning m m' p p' k k' line kept same quiet none early = (refl, kept)
    goes_on Owned update (Embedded word value) m m' p p' k k' line kept same quiet none early =
        (kept, quiet, inl (refl, none))
    goes_on Owned update (Updating word value) m m' p p' k k' line kept same quiet none early =
        (inl kept, refl, same, λ late. absurd (early late))

    -- a line that returns the view
    pub returns : (Owned : ℕ → Type 0) (d : Mode) (m : M) (p : V) (k back : P) → IsScanOf Owned d → lines.IsReturn k →
        lines.Kept m m → a.writes k ≡ 0 → lines.written back ≡ 0 →
        Flows d m p k (returning (lines.answer p) back d m p)
    returns Owned Scanning m p k back line is kept quiet none = (is, refl)
    returns Owned (Embedded word value) m p k back line is kept quiet none =
        (kept, quiet, inr (refl, is, none, refl))
    returns Owned (Updating word value) m p k back line is kept quiet none = absurd line

    pub keeps_memory : (d : Mode) (m : M) (p : V) (k : P) (v : Move V P M) → Flows d m p k v →
        KeepsMemory m v ⊎ lines.IsWrite k
    keeps_memory Scanning m p k (To d' m' p' k') h = inl h.1
    keeps_memory Scanning m p k (Answer v) h = inl tt
    keeps_memory (Embedded word value) m p k (To d' m' p' k') h = inl h.0
    keeps_memory (Updating word value) m p k (To d' m' p' k') h = h.0
    keeps_memory (Updating word value) m p k (Begin d' p' k') h = inl tt
    keeps_memory (Updating word value) m p k Finish h = inl tt
    keeps_memory _ m p k _ h = absurd h

    pub keeps_out : (d : Mode) (m : M) (p : V) (k : P) (v : Move V P M) → Flows d m p k v → KeepsOut d v
    keeps_out Scanning m p k (To d' m' p' k') h = λ inside. tt
    keeps_out (Embedded word value) m p k (To d' m' p' k') h = λ inside. tt
    keeps_out (Updating word value) m p k (To d' m' p' k') h = λ inside. subst IsInScan h.1 inside
    keeps_out d m p k _ h = tt

    pub makes_no_more : (d : Mode) (m : M) (p : V) (k : P) (v : Move V P M) → Flows d m p k v → MakesNoMore d k v
    makes_no_more Scanning m p k (To d' m' p' k') h = subst (λ x. IsMaking x k' → ⊥) (sym h.0) (λ made. made)
    makes_no_more (Embedded word value) m p k (To d' m' p' k') h = λ made. tt
    makes_no_more (Updating word value) m p k (To d' m' p' k') h =
        subst (λ x. IsMaking x k' → lines.IsLate k) (sym h.1) (λ late. (h.3 late).0)
    makes_no_more d m p k _ h = tt

    pub counts_writes : (d : Mode) (m : M) (p : V) (k : P) (v : Move V P M) (w : ℕ) → Flows d m p k v →
        HasWritten (At d k) w → CountsWrites (w + a.writes k) v
    counts_writes Scanning m p k (To d' m' p' k') w h is =
        subst (λ x. HasWritten (At x k') (w + a.writes k)) (sym h.0) tt
    counts_writes (Embedded word value) m p k (To d' m' p' k') w h is =
        let none : w + a.writes k ≡ 0 = omega arith in
        elim h.2 [
          | inl same ↦ subst (λ x. HasWritten (At x k') (w + a.writes k)) (sym same.0) none
          | inr back ↦ subst (λ x. HasWritten (At x k') (w + a.writes k)) (sym back.0) (none ∙ sym back.2)
        ]
    counts_writes (Updating word value) m p k (To d' m' p' k') w h is =
        subst (λ x. HasWritten (At x k') (w + a.writes k)) (sym h.1) (ap (λ y. y + a.writes k) is ∙ sym h.2)
    counts_writes (Updating word value) m p k (Begin d' p' k') w h is =
        subst (λ x. HasWritten (At x k') (w + a.writes k)) (sym h.0) (ap (λ y. y + a.writes k) is ∙ h.1)
    counts_writes d m p k (Answer v) w h is = tt
    counts_writes d m p k Finish w h is = tt
    counts_writes _ m p k (Begin d' p' k') w h is = absurd h

    pub answers_at : (d : Mode) (m : M) (p : V) (k : P) (v : Move V P M) → Flows d m p k v → AnswersAt p k v
    answers_at Scanning m p k (Answer v) h = h
    answers_at _ m p k (Answer v) h = absurd h
    answers_at d m p k _ h = tt

    -- an update never answers
    pub never_answers : (d : Mode) (m : M) (p : V) (k : P) (v : Move V P M) (word value : ℕ) →
        op_of d ≡ Update word value → Flows d m p k v → called.NoAnswer a v
    never_answers Scanning m p k (Answer v) word value is h = absurd (cc)
    never_answers _ m p k (Answer v) word value is h = absurd h
    never_answers d m p k _ word value is h = tt

    -- a scan stays in itself or returns
    pub in_scan : (link : Option ℕ) (d : Mode) → span.Inside a link d → IsInScan d
    in_scan None (Updating word value) h = absurd (let e : Update word value ≡ Scan = h.1 in cc)
    in_scan (Some l) (Updating word value) h = absurd (let e : ◌≡◌ {A = Option ℕ} None (Some l) = h in cc)
    in_scan link _ h = tt

    pub stays : (link : Option ℕ) (d : Mode) (m : M) (p : V) (k : P) (v : Move V P M) →
        (lines.IsReturn k → ReturnsView (instr_at a.source.lines (a.number k)) (a.locals_of p) (lines.answer p)) →
        Flows d m p k v → span.Inside a link d → span.Stays a link k p v
    stays link Scanning m p k (To d' m' p' k') returns h inside = inl (subst (span.Inside a link) (sym h.0) inside)
    stays None Scanning m p k (Answer v) returns h inside = tt
    stays (Some l) Scanning m p k (Answer v) returns h inside =
        absurd (let e : ◌≡◌ {A = Option ℕ} None (Some l) = inside in cc)
    stays None (Embedded word value) m p k v returns h inside =
        absurd (cc)
    stays (Some l) (Embedded word value) m p k (To d' m' p' k') returns h inside =
        elim h.2 [
          | inl same ↦ inl (subst (span.Inside a (Some l)) (sym same.0) inside)
          | inr back ↦ inr (lines.answer p, returns back.1)
        ]
    stays link (Updating word value) m p k v returns h inside = absurd (in_scan link (Updating word value) inside)
    stays _ _ m p k _ returns h inside = absurd h
