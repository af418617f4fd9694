-- A borrowed view of a scan of M is that of an embedded scan of the lender within it.
use Rattle.std.specs.Prelude.{◌≡◌, ◌≢◌, ℕ, zero, suc, ◌+◌, ◌-◌, ◌<◌, ◌≤◌, ◌⊎◌, List, [], length, Option, Some, refl}
use Rattle.std.proofs.Common.{sym, ◌∙◌, ap, subst, arith, inl, inr}
use Rattle.std.proofs.lemmas.Bool.{cases_eq, cases_lt}
use Rattle.std.proofs.lemmas.Grind.{get_or-set_at}
use Rattle.std.proofs.lemmas.List.{get_or-set_other}
use Rattle.std.proofs.Math.Nat.{eq-or-lt_of_le}
use Rattle.snap_runs.proofs.Common.{IsOneOf, Item, Step, Op, Scan, Update}
use Rattle.snap_runs.specs.Scan.{FinishedScan}
use Rattle.snap_runs.specs.Promises.{LentView}
use Rattle.snap_runs.proofs.Algorithm.{Mode, Updating, At, typed_at, item_at}
use Rattle.snap_runs.proofs.EmbeddedScans as embedded
use Rattle.snap_runs.proofs.Executing as executing
use Rattle.snap_runs.proofs.Flow.{IsUpdateOf, update_of}
use Rattle.snap_runs.proofs.Flow as flow
use Rattle.snap_runs.proofs.Scans as scans
use Rattle.snap_runs.proofs.Every as every
use Rattle.snap_runs_of_m.specs.Promises.{run_of, BorrowedViewsAreLent}
use Rattle.snap_runs_of_m.proofs.Algorithm.{Registers, Process, L37, L52, L55, L57, view_at, after_55, counter}
use Rattle.snap_runs_of_m.proofs.Algorithm.{IsLate, lines, algorithm}
use Rattle.snap_runs_of_m.proofs.Counters.{item_counters}
use Rattle.snap_runs_of_m.proofs.Flows.{listed}
use Rattle.snap_runs_of_m.proofs.Invariant.{Books, BooksAt}
use Rattle.snap_runs_of_m.proofs.Kept.{frame, calm_kept}
use Rattle.snap_runs_of_m.proofs.Runs.{state_at, registers_at, inv, own, well_of, execution, stage_of}
use Rattle.snap_runs_of_m.proofs.Stage.{Shown}
use Rattle.snap_runs_of_m.proofs.Writes.{raised_here, raised_there}
use Rattle.snap_runs.proofs.Steady.{Steady}
use Rattle.snap_runs.proofs.Calm.{calm_list}

not_late : (op : Op) → IsLate (counter op) → ⊥
not_late Scan late = late
not_late (Update word value) late = late

module _ (n w : ℕ) (items : List Item) (some : 0 < w) (fits : Steady (run_of n w items)) where
  abbrev at : ℕ → ℕ → Process
  at t i = typed_at (algorithm n w) (state_at n w items t) i

  abbrev run : scans.Execution (algorithm n w) lines
  run = execution n w items some fits

  abbrev history : ℕ → Registers
  history = registers_at n w items

  abbrev view : ℕ → ℕ → List ℕ
  view t j = view_at (history t).views j

  -- item suc t puts the view of process j
  record Putting (t j : ℕ) : Type 0 where
    mode : Mode
    item : item_at items t ≡ Step j
    control : (at t j).control ≡ At mode L55
    puts : (history (suc t)).puts j ≡ (history t).puts j + 1
    is : view (suc t) j ≡ (at t j).variables.s

  -- a step at line 55 puts that of its process, and leaves the others
  line_55 : (t a j : ℕ) (d : Mode) → t < length items → IsOneOf n j →
      item_at items t ≡ Step a → (at t a).control ≡ At d L55 →
      Putting t j ⊎ (((history (suc t)).puts j ≡ (history t).puts j) × (view (suc t) j ≡ view t j))
  line_55 t a j d short one is there =
      let m = history t in
      let p = (at t a).variables in
      let after : history (suc t) ≡ after_55 a m p =
      executing.memory_next (algorithm n w) items fits run.does t a d L55 is there in
      let size : length m.views ≡ n = ((inv n w items some fits t (omega arith)).laws t (omega arith)).now.views in
      elim (cases_eq j a) [
        | inl same ↦ inl (subst (Putting t) (sym same) (record {
          mode = d;
          item = is;
          control = there;
          puts = ap (λ (x : Registers). x.puts a) after ∙ raised_here m.puts a;
          is = ap (λ (x : Registers). view_at x.views a) after
              ∙ (let inside : IsOneOf n a = subst (IsOneOf n) same one in
              get_or-set_at m.views (a - 1) (a - 1) p.s [] refl (omega arith));
        }))
        | inr other ↦ (
            let one_a : IsOneOf n a = executing.one_of (algorithm n w) items fits run.does t a short is in
            inr (
              ap (λ (x : Registers). x.puts j) after ∙ raised_there m.puts a j other,
              ap (λ (x : Registers). view_at x.views j) after
                  ∙ get_or-set_other m.views (a - 1) (j - 1) p.s [] (λ same. other (omega arith)),
            ))
      ]

  -- each item puts it, or leaves it
  item_puts : (t j : ℕ) → t < length items → IsOneOf n j →
      Putting t j ⊎ (((history (suc t)).puts j ≡ (history t).puts j) × (view (suc t) j ≡ view t j))
  item_puts t j short one =
      let next = executing.memory_next (algorithm n w) items fits run.does t in
      elim (item_counters n w (suc t) (state_at n w items t) (item_at items t)) [
        | inl same ↦ inr (ap (λ (f : ℕ → ℕ). f j) same.2, ap (λ v. view_at v j) same.3)
        | inr r ↦ elim r.special [
          | inl at52 ↦ (let after = next r.process r.mode L52 r.item (r.control ∙ ap (λ y. At r.mode y) at52) in
              inr (ap (λ (x : Registers). x.puts j) after, ap (λ (x : Registers). view_at x.views j) after))
          | inr behind ↦ elim behind [
            | inl at55 ↦ line_55 t r.process j r.mode short one r.item (r.control ∙ ap (λ y. At r.mode y) at55)
            | inr at57 ↦ (let after = next r.process r.mode L57 r.item (r.control ∙ ap (λ y. At r.mode y) at57) in
                inr (ap (λ (x : Registers). x.puts j) after, ap (λ (x : Registers). view_at x.views j) after))
          ]
        ]
      ]

  -- the last time that a view was put
  record LastPut (j from u : ℕ) : Type 0 where
    time : ℕ
    after : from ≤ time
    before : time < u
    putting : Putting time j
    puts : (history u).puts j ≡ (history (suc time)).puts j
    is : view u j ≡ view (suc time) j

  last_put : (j from u : ℕ) → IsOneOf n j → from ≤ u → u ≤ length items →
      (history from).puts j < (history u).puts j → LastPut j from u
  last_put j from zero one le short more =
      absurd (let e : (history 0).puts j ≡ (history from).puts j =
      ap (λ y. (history y).puts j) (let z : 0 ≡ from = omega arith in z) in omega arith)
  last_put j from (suc u) one le short more =
      elim (eq-or-lt_of_le le) [
        | inl same ↦
            absurd (let e : (history from).puts j ≡ (history (suc u)).puts j = ap (λ y. (history y).puts j) same in
            omega arith)
        | inr less ↦ elim (item_puts u j (omega arith) one) [
          | inl puts ↦
              record { time = u; after = omega arith; before = omega arith; putting = puts; puts = refl; is = refl }
          | inr same ↦ (let e : (history (suc u)).puts j ≡ (history u).puts j = same.0 in
              let rest : LastPut j from u = last_put j from u one (omega arith) (omega arith) (omega arith) in
              let before : rest.time < u = rest.before in
              record {
                time = rest.time;
                after = rest.after;
                before = omega arith;
                putting = rest.putting;
                puts = same.0 ∙ rest.puts;
                is = same.1 ∙ rest.is;
              })
        ]
      ]

  lent_view : (i : ℕ) (link : Option ℕ) (c t : ℕ) (v : List ℕ) → FinishedScan (run_of n w items) i link c (suc t) v →
      Shown n i history t c v → LentView (run_of n w items) i c (suc t) v
  lent_view i link c t v ends shown =
      let one = ends.scan.process in
      let last : suc t ≤ length items = ends.scan.last in
      let j = shown.lender in
      let jone = shown.inside in
      let u = shown.time in
      let from : c ≤ u = shown.after in
      let to : u ≤ t = shown.before in
      let more : (history c).answers j i < (history u).puts j = shown.put in
      let laws_c = (inv n w items some fits c (omega arith)).laws c (omega arith) in
      let few : (history c).puts j ≤ (history c).answers j i = laws_c.now.puts_to j i jone one in
      let x : LastPut j c u = last_put j c u jone from (omega arith) (omega arith) in
      let y = x.time in
      let after : c ≤ y = x.after in
      let before : y < u = x.before in
      let put : Putting y j = x.putting in
      let up =
      update_of (IsOneOf w) put.mode (well_of n w items some fits y j put.mode L55 (omega arith) jone put.control).0 in
      let control : (at y j).control ≡ At (Updating up.0 up.1) L55 = put.control ∙ ap (λ d. At d L55) up.3 in
      let since = (at y j).auxiliary.since in
      let books : Books n w j (history since) (history y) (Updating up.0 up.1) (at y j).variables L55 =
      subst (BooksAt n w j (history since) (history y) (at y j).variables) control
      (own n w items some fits y j (omega arith) jone).books in
      let puts_are : (history y).puts j ≡ (history y).writes j + 0 = books.settled.puts_are in
      let made : (history y).writes j + 1 ≤ (history since).answers j i = books.made tt i one in
      let now : (history u).puts j ≡ (history (suc y)).puts j = x.puts in
      let one_more : (history (suc y)).puts j ≡ (history y).puts j + 1 = put.puts in
      let later : c < since = elim (cases_lt c since) [
        | inl lt ↦ lt
        | inr le ↦
            absurd (let back : (history since).answers j i ≤ (history c).answers j i =
            (laws_c.since since le).answers j i jone one in omega arith)
      ] in
      let lent = embedded.lending (algorithm n w) lines (listed n w) run
      not_late j jone y up.0 up.1 L55 (omega arith) control tt in
      let ended : lent.to ≤ y = lent.before in
      let its_view : (at y j).variables.s ≡ v = sym put.is ∙ sym x.is ∙ shown.is in
      let g = scans.goes (algorithm n w) lines (listed n w) run i one link c (suc t) y ends.scan after (omega arith) in
      let other : j ≢ i =
      λ same. flow.not_update (IsOneOf w) g.mode (flow.in_scan lines (algorithm n w) link g.mode g.inside)
      (subst (IsUpdateOf (IsOneOf w)) (let e : At put.mode L55 ≡ At g.mode g.counter =
      sym put.control ∙ ap (λ z. (at y z).control) same ∙ g.control in let f : put.mode ≡ g.mode = cc in f)
      (well_of n w items some fits y j put.mode L55 (omega arith) jone put.control).0) in
      record {
        lender = j;
        other = other;
        link = 55;
        from = since;
        to = lent.to;
        after_start = later;
        before_end = omega arith;
        scan = subst (λ z. FinishedScan (run_of n w items) j (Some 55) since lent.to z) its_view lent.scan;
      }

pub borrowed_views_are_lent_lem : BorrowedViewsAreLent
borrowed_views_are_lent_lem n w items some =
    every.borrowed_views_are_lent (frame n w) items (calm_kept n w items some) 37 L37 refl
    (λ steady i link c t view ends x.
    let last : suc t ≤ length (calm_list (run_of n w items)) = ends.scan.last in
    let history = registers_at n w (calm_list (run_of n w items)) in
    let stage = stage_of n w _ some steady t i x.mode L37 (omega arith) ends.scan.process x.control in
    let shown : Shown n i history t
    (typed_at (algorithm n w) (state_at n w (calm_list (run_of n w items)) t) i).auxiliary.since view =
    subst (Shown n i history t _) x.answers stage.1 in
    lent_view n w _ some steady i link c t view ends (subst (λ y. Shown n i history t y view) x.since shown))
