-- The view in a local is the one that was written where it is said to come from.
use Rattle.std.proofs.Common.{◌≡◌, ℕ, zero, suc, ◌+◌, ◌-◌, ◌<◌, ◌≤◌, Bool, true, false, ◌&&◌, List}
use Rattle.std.proofs.Common.{Option, Some, None, bytes_eq, nat_eq, nat_lt, nat_le, length}
use Rattle.std.proofs.Common.{refl, sym, subst, ap, ◌∙◌, inl, inr, arith}
use Rattle.std.proofs.lemmas.Bool.{and_parts, cases_Bool, cases_eq, cases_lt, eqb-false, eqb-true, le-leb, ltb-true}
use Rattle.std.proofs.lemmas.Slice.Eq.{bytes_eq-Decides}
use Rattle.snap_words.specs.Shape.{IsOneOf}
use Rattle.snap_words.specs.Word.{Word}
use Rattle.snap_semantics.specs.IsListing.{IsListing}
use Rattle.snap_semantics.specs.Source.{Name}
use Rattle.snap_semantics.specs.State.{Locals, Memory, Process, process_at}
use Rattle.snap_runs.specs.Run.{IsValidRun, Run, state}
use Rattle.snap_runs.specs.Scan.{FinishedScan}
use Rattle.snap_acts.specs.Trace.{trace_of}
use Rattle.snap_acts.specs.Loans.{handed_on, lender_at, scan_around, scan_from, scan_to, set_before, set_for}
use Rattle.snap_acts.specs.Loans.{set_if_named, source_at, source_by, step_at, taken_from}
use Rattle.snap_acts.specs.Loans.{view_taken, view_taken_at, word_read, write_before, write_read}
use Rattle.snap_acts.specs.Searches.{first_within, is_leave, last_before, meets, publishes, reads_into, sets_view}
use Rattle.snap_acts.specs.Searches.{takes_view, writes_word}
use Rattle.snap_acts.specs.declared.act.Act.{Act}
use Rattle.snap_acts.specs.declared.act.Act.TheVariants as act
use Rattle.snap_acts.specs.declared.act.Spot.{Spot}
use Rattle.snap_acts.specs.declared.act.TraceStep.{TraceStep}
use Rattle.snap_acts.specs.declared.loans.Borrowed.{Borrowed}
use Rattle.snap_acts.specs.declared.loans.ScanPlaces.{ScanPlaces}
use Rattle.snap_acts.specs.declared.searches.StepPattern.{StepPattern}
use Rattle.snap_acts.specs.declared.searches.StepPattern.TheVariants as wanted
use Rattle.snap_reading_laws.specs.loans.Held.{HasHandedOn, IsFollowed, data_in, handed_view, held, held_if_named}
use Rattle.snap_reading_laws.proofs.loans.Items.{told}
use Rattle.snap_reading_laws.proofs.loans.Scans.{found, is_around, is_first, scan_is}
use Rattle.snap_reading_laws.proofs.loans.Went.{Tells, data_of, named_view, register, view_in, view_register}
use Rattle.snap_reading_laws.proofs.loans.Went.{word_in}

first_below : (w : StepPattern) (ss : List TraceStep) (k count e : ℕ) → first_within w ss k count ≡ Some e →
    e < k + count
first_below w ss k zero e is = absurd cc
first_below w ss k (suc count) e is = grind (arith, first_below w ss (k + 1) count e)

-- what only such items change stays from the last of them on
module _ {A : Type 0} (F : ℕ → A) (w : StepPattern) (ss : List TraceStep) (most : ℕ)
    (frame : (k : ℕ) → k < most → meets w (step_at ss k) ≡ false → F (suc k) ≡ F k) where
  since : (k g : ℕ) → k ≤ most → last_before w ss k ≡ Some g → F k ≡ F (suc g)
  since zero g within e = absurd cc
  since (suc k) g within e = elim (cases_Bool (meets w (step_at ss k))) [
    | inl is ↦
        let here : Some k ≡ Some g = rw is at e in
        ap (λ j. F (suc j)) (let same : k ≡ g = cc in same)
    | inr other ↦ frame k (omega arith) other ∙ since k g (omega arith) (rw other at e)
  ]

  between : (k g e : ℕ) → k ≤ most → last_before w ss k ≡ Some g → g < e → e ≤ k → F e ≡ F (suc g)
  between zero g e within is later before = absurd cc
  between (suc k) g e within is later before = elim (cases_lt k e) [
    | inl last ↦
        subst (λ j. F j ≡ F (suc g)) (let same : suc k ≡ e = omega arith in same) (since (suc k) g within is)
    | inr less ↦ elim (cases_Bool (meets w (step_at ss k))) [
      | inl here ↦ absurd (let it : Some k ≡ Some g = rw here at is in let same : k ≡ g = cc in omega arith)
      | inr other ↦ between k g e (omega arith) (rw other at is) later less
    ]
  ]

  -- where there is none of such items from place e on, it is as it was at place e
  unchanged : (k e : ℕ) → k ≤ most → e ≤ k → ((g : ℕ) → last_before w ss k ≡ Some g → g < e) → F k ≡ F e
  unchanged zero e within from early = ap F (let same : zero ≡ e = omega (arith, from) in same)
  unchanged (suc k) e within from early = elim (cases_eq (suc k) e) [
    | inl same ↦ ap F same
    | inr apart ↦ elim (cases_Bool (meets w (step_at ss k))) [
      | inl here ↦
          absurd (let less : k < e = early k (rw here refl) in omega (arith, less, from, apart))
      | inr other ↦
          frame k (omega arith) other
          ∙ unchanged k e (omega arith) (omega (arith, from, apart)) (λ g is. early g (rw other is))
    ]
  ]

-- what is said of a view that was taken, and of a scan
abbrev written_in : Option Borrowed → Option ℕ
written_in None = None
written_in (Some b) = b.written

abbrev scan_of : (process from to : ℕ) → ScanPlaces
scan_of process from to = record { process = process; from = from; to = to }

-- what an item wrote beside a word
wrote_view : (j : ℕ) (l l' : Locals) (m m' : Memory) (a : Act) → writes_word j a ≡ true → Tells l m a m' l' →
    (register m' j).view ≡ named_view l (handed_on a)
wrote_view j l l' m m' (act.Write word values x) e h = rw (eqb-true word j e) at h
wrote_view j l l' m m' _ e h = absurd cc

-- an item that publishes writes into a register of views
wrote_register : (j : ℕ) (l l' : Locals) (m m' : Memory) (a : Act) → publishes j a ≡ true → Tells l m a m' l' →
    view_register m' j ≡ named_view l (handed_on a)
wrote_register j l l' m m' (act.Publish k x) e h = rw (eqb-true k j e) at h
wrote_register j l l' m m' _ e h = absurd cc

-- what an item read into a place
pub record HasRead (spot : Spot) (l' : Locals) (m : Memory) (a : Act) : Type 0 where
  pub word : ℕ
  pub is : word_read a ≡ Some word
  pub first : 0 < word
  pub has : word_in l' spot ≡ register m word

at_spot : (spot into : Spot) (l' : Locals) (word : Word) →
    (bytes_eq into.words spot.words && nat_eq into.place spot.place) ≡ true → word_in l' into ≡ word →
    word_in l' spot ≡ word
at_spot spot into l' word e h =
    let same = and_parts (bytes_eq into.words spot.words) (nat_eq into.place spot.place) e in
    rw ((bytes_eq-Decides into.words spot.words).0 same.0, eqb-true into.place spot.place same.1) at h

has_read : (spot : Spot) (l l' : Locals) (m m' : Memory) (a : Act) → reads_into spot a ≡ true → Tells l m a m' l' →
    HasRead spot l' m a
has_read spot l l' m m' (act.Read word into) e h =
    record { word = word; is = refl; first = h.0; has = at_spot spot into l' (register m word) e h.1 }
has_read spot l l' m m' _ e h = absurd cc

-- an item that sets a view and takes none makes it of words
collects : (x : Name) (l l' : Locals) (m m' : Memory) (a : Act) → sets_view x a ≡ true → takes_view a ≡ false →
    Tells l m a m' l' → (y : Name) × (view_in l' x ≡ data_of l y (length (view_in l' x)))
collects x l l' m m' (act.Collect z) e none h =
    subst (λ (q : Name). (y : Name) × (view_in l' q ≡ data_of l y (length (view_in l' q))))
    ((bytes_eq-Decides z x).0 e) h
collects x l l' m m' _ e none h = absurd cc

module _ (r : Run) (listing : IsListing r.source) (valid : IsValidRun r) where
  abbrev ss : List TraceStep
  ss = trace_of r

  abbrev most : ℕ
  most = length r.items

  abbrev locals : ℕ → ℕ → Locals
  locals k i = (process_at (state r k) i).locals

  abbrev process : ℕ → ℕ
  process k = (step_at ss k).process

  held_is : (i k : ℕ) (x : Option Name) → held_if_named r i x k ≡ named_view (locals k i) x
  held_is i k None = refl
  held_is i k (Some x) = refl

  -- what only an item of process i changes that does this
  of_process : {A : Type 0} (F : Locals → A) (i k : ℕ) (b : Bool) → IsOneOf r.shape.n i → k < most →
      (b ≡ false → F (locals (suc k) (process k)) ≡ F (locals k (process k))) →
      (nat_eq (process k) i && b) ≡ false → F (locals (suc k) i) ≡ F (locals k i)
  of_process F i k b one within h away = elim (cases_Bool (nat_eq (process k) i)) [
    | inl is ↦ rw (eqb-true (process k) i is) at (h (rw is at away))
    | inr is ↦
        ap (λ (q : Process). F q.locals)
        ((told r k listing valid within).others i one (λ same. eqb-false (process k) i is (sym same)))
  ]

  word_frame : (j k : ℕ) → 0 < j → k < most → meets (wanted.WriteOf j) (step_at ss k) ≡ false →
      register (state r (suc k)).memory j ≡ register (state r k).memory j
  word_frame j k one within away = (told r k listing valid within).went.words j one away

  view_frame : (j k : ℕ) → 0 < j → k < most → meets (wanted.Published j) (step_at ss k) ≡ false →
      view_register (state r (suc k)).memory j ≡ view_register (state r k).memory j
  view_frame j k one within away = (told r k listing valid within).went.views j one away

  held_frame : (i k : ℕ) (x : Name) → IsOneOf r.shape.n i → k < most →
      meets (wanted.Sets i x) (step_at ss k) ≡ false → held r i x (suc k) ≡ held r i x k
  held_frame i k x one within away =
      of_process (λ (l : Locals). view_in l x) i k (sets_view x (step_at ss k).act) one within
      (λ stays. (told r k listing valid within).went.local_views x stays) away

  spot_frame : (i k : ℕ) (spot : Spot) → 0 < spot.place → IsOneOf r.shape.n i → k < most →
      meets (wanted.ReadInto i spot) (step_at ss k) ≡ false →
      word_in (locals (suc k) i) spot ≡ word_in (locals k i) spot
  spot_frame i k spot first one within away =
      of_process (λ (l : Locals). word_in l spot) i k (reads_into spot (step_at ss k).act) one within
      (λ stays. (told r k listing valid within).went.local_words spot first stays) away

  -- the view beside a word is what was written last
  word_written : (j k w : ℕ) → 0 < j → k ≤ most → last_before (wanted.WriteOf j) ss k ≡ Some w →
      (register (state r k).memory j).view ≡ handed_view r w
  word_written j k w one within e =
      let at = found (wanted.WriteOf j) ss k w e in
      let less : w < most = (let before = at.0 in omega (arith, before, within)) in
      ap (λ (x : Word). x.view) (since (λ (t : ℕ). register (state r t).memory j) (wanted.WriteOf j) ss most
      (λ t before away. word_frame j t one before away) k w within e)
      ∙ wrote_view j (locals w (process w)) (locals (suc w) (process w)) (state r w).memory (state r (suc w)).memory
      (step_at ss w).act at.1 (told r w listing valid less).went.tells
      ∙ sym (held_is (process w) w (handed_on (step_at ss w).act))

  -- a register of views has the view that was written last
  view_written : (j k w : ℕ) → 0 < j → k ≤ most → last_before (wanted.Published j) ss k ≡ Some w →
      view_register (state r k).memory j ≡ handed_view r w
  view_written j k w one within e =
      let at = found (wanted.Published j) ss k w e in
      let less : w < most = (let before = at.0 in omega (arith, before, within)) in
      since (λ (t : ℕ). view_register (state r t).memory j) (wanted.Published j) ss most
      (λ t before away. view_frame j t one before away) k w within e
      ∙ wrote_register j (locals w (process w)) (locals (suc w) (process w)) (state r w).memory (state r (suc w)).memory
      (step_at ss w).act at.1 (told r w listing valid less).went.tells
      ∙ sym (held_is (process w) w (handed_on (step_at ss w).act))

  before_of : (g w word : ℕ) (o : Option ℕ) → write_before ss g o ≡ Some w → o ≡ Some word →
      last_before (wanted.WriteOf word) ss g ≡ Some w
  before_of g w word o e is = subst (λ (p : Option ℕ). write_before ss g p ≡ Some w) is e

  -- the view beside a word that was read is what had been written with it
  spot_written : (i d w : ℕ) (spot : Spot) (o : Option ℕ) → 0 < spot.place → IsOneOf r.shape.n i → d ≤ most →
      last_before (wanted.ReadInto i spot) ss d ≡ o → write_read ss o ≡ Some w →
      (word_in (locals d i) spot).view ≡ handed_view r w
  spot_written i d w spot None first one within is e = absurd cc
  spot_written i d w spot (Some g) first one within is e =
      let at = found (wanted.ReadInto i spot) ss d g is in
      let mine = and_parts (nat_eq (process g) i) (reads_into spot (step_at ss g).act) at.1 in
      let less : g < most = (let before = at.0 in omega (arith, before, within)) in
      let so = has_read spot (locals g (process g)) (locals (suc g) (process g)) (state r g).memory
      (state r (suc g)).memory (step_at ss g).act mine.1 (told r g listing valid less).went.tells in
      ap (λ (x : Word). x.view) (since (λ (t : ℕ). word_in (locals t i) spot) (wanted.ReadInto i spot) ss most
      (λ t before away. spot_frame i t spot first one before away) d g within is
      ∙ subst (λ (j : ℕ). word_in (locals (suc g) j) spot ≡ register (state r g).memory so.word)
      (eqb-true (process g) i mine.0) so.has)
      ∙ word_written so.word g w so.first (omega (arith, less))
      (before_of g w so.word (word_read (step_at ss g).act) e so.is)

  -- a view that an item sets is what was written at its source
  set_is : (d w : ℕ) (x : Name) (a : Act) → d < most → sets_view x a ≡ true →
      source_by ss d (process d) a ≡ Some w →
      Tells (locals d (process d)) (state r d).memory a (state r (suc d)).memory (locals (suc d) (process d)) →
      view_in (locals (suc d) (process d)) x ≡ handed_view r w
  set_is d w x (act.Look k y) within e from h =
      subst (λ (z : Name). view_in (locals (suc d) (process d)) z ≡ view_register (state r d).memory k)
      ((bytes_eq-Decides y x).0 e) h.1
      ∙ view_written k d w h.0 (omega (arith, within)) from
  set_is d w x (act.Borrow into y) within e from h =
      subst (λ (z : Name). view_in (locals (suc d) (process d)) z ≡ (word_in (locals d (process d)) into).view)
      ((bytes_eq-Decides y x).0 e) h.1
      ∙ spot_written (process d) d w into (last_before (wanted.ReadInto (process d) into) ss d) h.0
      (told r d listing valid within).one (omega (arith, within)) refl from
  set_is d w x _ within e from h = absurd cc

  -- the view in a local is
  from_set : (i k w : ℕ) (x : Name) (o : Option ℕ) → IsOneOf r.shape.n i → k ≤ most → set_before ss i x k ≡ o →
      source_at ss o ≡ Some w → held r i x k ≡ handed_view r w
  from_set i k w x None one within is e = absurd cc
  from_set i k w x (Some d) one within is e =
      let at = found (wanted.Sets i x) ss k d is in
      let mine = and_parts (nat_eq (process d) i) (sets_view x (step_at ss d).act) at.1 in
      let less : d < most = (let before = at.0 in omega (arith, before, within)) in
      since (λ (t : ℕ). held r i x t) (wanted.Sets i x) ss most (λ t before away. held_frame i t x one before away) k d
      within is
      ∙ subst (λ (j : ℕ). held r j x (suc d) ≡ handed_view r w) (eqb-true (process d) i mine.0)
      (set_is d w x (step_at ss d).act less mine.1 e (told r d listing valid less).went.tells)

  -- what an item hands on is
  from_named : (i k w : ℕ) (x : Option Name) → IsOneOf r.shape.n i → k ≤ most →
      source_at ss (set_if_named ss i x k) ≡ Some w → held_if_named r i x k ≡ handed_view r w
  from_named i k w None one within e = absurd cc
  from_named i k w (Some x) one within e = from_set i k w x (set_before ss i x k) one within refl e

  written_of : (o : Option ℕ) (a w : ℕ) (b : Borrowed) → view_taken_at ss (taken_from ss a o) ≡ Some b →
      b.written ≡ Some w → source_at ss o ≡ Some w
  written_of None a w b e h = absurd cc
  written_of (Some k) a w b e h = elim (cases_Bool (nat_le a k && takes_view (step_at ss k).act)) [
    | inl is ↦ ap written_in (rw is at e) ∙ h
    | inr is ↦ absurd (let none : view_taken_at ss None ≡ Some b = rw is at e in cc)
  ]

  taken_is : (s : ScanPlaces) (b : Borrowed) (w : ℕ) → s.to < most → view_taken ss s ≡ Some b → b.written ≡ Some w →
      handed_view r s.to ≡ handed_view r w
  unfolding view_taken
  taken_is s b w within e h =
      from_named (process s.to) s.to w (handed_on (step_at ss s.to).act) (told r s.to listing valid within).one
      (omega (arith, within)) (written_of (set_for ss s.to) s.from w b e h)

  -- the scan within which a place lies began before that place, and ended after it and before the other one
  pub record Around (i d k : ℕ) (s : ScanPlaces) : Type 0 where
    pub process : s.process ≡ i
    pub begun : last_before (wanted.Enter i) ss d ≡ Some s.from
    pub ended : first_within (wanted.Leave i) ss s.from (k - s.from) ≡ Some s.to
    pub after : d < s.to
    pub before : s.to < k

  around_to : (i a d k : ℕ) (o : Option ℕ) (s : ScanPlaces) → last_before (wanted.Enter i) ss d ≡ Some a →
      first_within (wanted.Leave i) ss a (k - a) ≡ o → ((e : ℕ) → o ≡ Some e → e < k) → scan_to i a d o ≡ Some s →
      Around i d k s
  around_to i a d k None s from to below is = absurd cc
  around_to i a d k (Some e) s from to below is = elim (cases_Bool (nat_lt d e)) [
    | inl later ↦
        let scan : Some (scan_of i a e) ≡ Some s = rw later at is in
        subst (Around i d k) (let same : scan_of i a e ≡ s = cc in same) (record {
          process = refl;
          begun = from;
          ended = to;
          after = ltb-true d e later;
          before = below e refl;
        })
    | inr later ↦ absurd (let none : None ≡ Some s = rw later at is in cc)
  ]

  around_from : (i d k : ℕ) (o : Option ℕ) (s : ScanPlaces) → d < k → last_before (wanted.Enter i) ss d ≡ o →
      scan_from ss i d k o ≡ Some s → Around i d k s
  around_from i d k None s less from is = absurd cc
  around_from i d k (Some a) s less from is =
      let at = (found (wanted.Enter i) ss d a from).0 in
      around_to i a d k (first_within (wanted.Leave i) ss a (k - a)) s from refl
      (λ e h. let below = first_below (wanted.Leave i) ss a (k - a) e h in omega (arith, below, at, less)) is

  from_lender : (i w : ℕ) (x : Name) (o : Option ℕ) (s : ScanPlaces) → IsOneOf r.shape.n i → w ≤ most →
      set_before ss i x w ≡ o → scan_around ss i w o ≡ Some s →
      (s.process ≡ i) × (s.to < w) × (held r i x w ≡ held r i x s.to)
  from_lender i w x None s one within set is = absurd cc
  from_lender i w x (Some d) s one within set is =
      let at = (found (wanted.Sets i x) ss w d set).0 in
      let scan = around_from i d w (last_before (wanted.Enter i) ss d) s at refl is in
      let stays = λ (t : ℕ) (before : t < most) (away : meets (wanted.Sets i x) (step_at ss t) ≡ false).
      held_frame i t x one before away in (
        scan.process,
        scan.before,
        since (λ (t : ℕ). held r i x t) (wanted.Sets i x) ss most stays w d within set
            ∙ sym (between (λ (t : ℕ). held r i x t) (wanted.Sets i x) ss most stays w d s.to within set scan.after
            (let before = scan.before in omega (arith, before))),
      )

  lender_around : (i w : ℕ) (x : Option Name) (s : ScanPlaces) →
      scan_around ss i w (set_if_named ss i x w) ≡ Some s → (d : ℕ) × Around i d w s
  lender_around i w None s is = absurd cc
  lender_around i w (Some x) s is = by_place (set_before ss i x w) refl is
    where
      by_place : (o : Option ℕ) → set_before ss i x w ≡ o → scan_around ss i w o ≡ Some s → (d : ℕ) × Around i d w s
      by_place None set is = absurd cc
      by_place (Some d) set is =
          (d, around_from i d w (last_before (wanted.Enter i) ss d) s (found (wanted.Sets i x) ss w d set).0 refl is)

  -- the lender's scan is a whole one
  lender_scans : (w : ℕ) (s : ScanPlaces) → w < most → lender_at ss (Some w) ≡ Some s →
      (link : ℕ) × FinishedScan r s.process (Some link) (suc s.from) (suc s.to) (handed_view r s.to)
  lender_scans w s within is =
      let near = lender_around (process w) w (handed_on (step_at ss w).act) s is in
      let scan = near.1 in
      let before = scan.before in
      subst (λ (j : ℕ). (link : ℕ) × FinishedScan r j (Some link) (suc s.from) (suc s.to) (handed_view r s.to))
      (sym scan.process)
      (scan_is r listing valid (process w) (told r w listing valid within).one near.0 s.from s.to (w - s.from)
      scan.begun scan.ended scan.after (omega (arith, before, within)))

  lender_named : (i w : ℕ) (x : Option Name) (s : ScanPlaces) → IsOneOf r.shape.n i → w ≤ most →
      scan_around ss i w (set_if_named ss i x w) ≡ Some s →
      (s.process ≡ i) × (s.to < w) × (held_if_named r i x w ≡ held_if_named r i x s.to)
  lender_named i w None s one within is = absurd cc
  lender_named i w (Some x) s one within is = from_lender i w x (set_before ss i x w) s one within refl is

  -- the lender's scan may end with the view that was written
  lender_returned : (w : ℕ) (s : ScanPlaces) → w < most → lender_at ss (Some w) ≡ Some s →
      handed_on (step_at ss s.to).act ≡ handed_on (step_at ss w).act → handed_view r w ≡ handed_view r s.to
  lender_returned w s within is same =
      let scan = (lender_around (process w) w (handed_on (step_at ss w).act) s is).1 in
      let last = is_first (wanted.Leave (process w)) ss s.from (w - s.from) s.to scan.ended in
      let his = and_parts (nat_eq (process s.to) (process w)) (is_leave (step_at ss s.to).act) last.there in
      (lender_named (process w) w (handed_on (step_at ss w).act) s (told r w listing valid within).one
      (omega (arith, within)) is).2
      ∙ ap (λ (x : Option Name). held_if_named r (process w) x s.to) (sym same)
      ∙ ap (λ (j : ℕ). held_if_named r j (handed_on (step_at ss s.to).act) s.to)
      (sym (eqb-true (process s.to) (process w) his.0))

  -- an item hands on the view in its local
  handed_of : (k : ℕ) (a : Act) → a ≡ (step_at ss k).act →
      Tells (locals k (process k)) (state r k).memory a (state r (suc k)).memory (locals (suc k) (process k)) →
      HasHandedOn r k a
  handed_of k (act.Answer view x) is h =
      h ∙ sym (held_is (process k) k x) ∙ ap (λ (a : Act). held_if_named r (process k) (handed_on a) k) is
  handed_of k (act.Write word values x) is h =
      h ∙ sym (held_is (process k) k x) ∙ ap (λ (a : Act). held_if_named r (process k) (handed_on a) k) is
  handed_of k (act.Publish j x) is h =
      h ∙ ap (λ (a : Act). held_if_named r (process k) (handed_on a) k) is
  handed_of k _ is h = tt

  -- a scan that took no view set its own by an item that takes none
  not_taken : (o : Option ℕ) (a k : ℕ) → o ≡ Some k → view_taken_at ss (taken_from ss a o) ≡ None → a ≤ k →
      takes_view (step_at ss k).act ≡ false
  not_taken None a k same none from = absurd cc
  not_taken (Some j) a k same none from =
      let is : j ≡ k = cc in
      elim (cases_Bool (nat_le a j && takes_view (step_at ss j).act)) [
        | inl takes ↦ absurd (let wrong = rw takes at none in cc)
        | inr takes ↦
            let within : nat_le a j ≡ true = le-leb a j (omega (arith, is, from)) in
            rw (← is) (rw within at takes)
      ]

  made_named : (i to k : ℕ) (x : Option Name) → IsOneOf r.shape.n i → to ≤ most → set_if_named ss i x to ≡ Some k →
      takes_view (step_at ss k).act ≡ false →
      (y : Name) × (held_if_named r i x to ≡ data_in r i y k (length (held_if_named r i x to)))
  made_named i to k None one within set none = absurd cc
  made_named i to k (Some x) one within set none =
      let at = found (wanted.Sets i x) ss to k set in
      let mine = and_parts (nat_eq (process k) i) (sets_view x (step_at ss k).act) at.1 in
      let less : k < most = (let before = at.0 in omega (arith, before, within)) in
      let stays : held r i x to ≡ held r i x (suc k) = since (λ (t : ℕ). held r i x t) (wanted.Sets i x) ss most
      (λ t before away. held_frame i t x one before away) to k within set in
      subst (λ (v : List ℕ). (y : Name) × (v ≡ data_in r i y k (length v))) (sym stays)
      (subst (λ (j : ℕ). (y : Name) × (held r j x (suc k) ≡ data_in r j y k (length (held r j x (suc k)))))
      (eqb-true (process k) i mine.0)
      (collects x (locals k (process k)) (locals (suc k) (process k)) (state r k).memory (state r (suc k)).memory
      (step_at ss k).act mine.1 none (told r k listing valid less).went.tells))

  made_is : (s : ScanPlaces) (k : ℕ) → s.to < most → set_for ss s.to ≡ Some k → s.from ≤ k → view_taken ss s ≡ None →
      (y : Name) × (handed_view r s.to ≡ data_in r (process s.to) y k (length (handed_view r s.to)))
  unfolding view_taken
  made_is s k within set from none =
      made_named (process s.to) s.to k (handed_on (step_at ss s.to).act) (told r s.to listing valid within).one
      (omega (arith, within)) set (not_taken (set_for ss s.to) s.from k set none from)

  kept_named : (i to from : ℕ) (x : Option Name) → IsOneOf r.shape.n i → to ≤ most → from ≤ to →
      ((k : ℕ) → set_if_named ss i x to ≡ Some k → k < from) → held_if_named r i x to ≡ held_if_named r i x from
  kept_named i to from None one within order early = refl
  kept_named i to from (Some x) one within order early =
      unchanged (λ (t : ℕ). held r i x t) (wanted.Sets i x) ss most (λ t before away. held_frame i t x one before away)
      to from within order early

  alone_is : (w d link a b : ℕ) (view : List ℕ) → w < most → lender_at ss (Some w) ≡ None → set_for ss w ≡ Some d →
      FinishedScan r (process w) (Some link) (suc a) (suc b) view → a < d → d < b → b < w → ⊥
  alone_is w d link a b view within none set scan from to before =
      let around = is_around r listing valid (process w) (told r w listing valid within).one link a b view scan d w from
      to before in
      let nowhere : scan_around ss (process w) w (Some d) ≡ None = rw set at none in
      absurd (let wrong : Some (scan_of (process w) a b) ≡ None = sym around ∙ nowhere in cc)

-- in every run of any listing
pub followed : (r : Run) → IsListing r.source → IsValidRun r → IsFollowed r
followed r listing valid = record {
  handed = λ k within. handed_of r listing valid k (step_at (trace_of r) k).act refl
      (told r k listing valid within).went.tells;
  sourced = λ i x k w one within e. from_set r listing valid i k w x (set_before (trace_of r) i x k) one within refl e;
  taken = taken_is r listing valid;
  lent = λ w s within e.
      lender_named r listing valid (step_at (trace_of r) w).process w (handed_on (step_at (trace_of r) w).act) s
      (told r w listing valid within).one (omega (arith, within)) e;
  scans = lender_scans r listing valid;
  returned = lender_returned r listing valid;
  made = made_is r listing valid;
  kept = λ s order within early.
      kept_named r listing valid (step_at (trace_of r) s.to).process s.to s.from
      (handed_on (step_at (trace_of r) s.to).act) (told r s.to listing valid within).one (omega (arith, within)) order
      early;
  alone = alone_is r listing valid;
}
