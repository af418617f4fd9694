-- What all workers of a live run did, put together: the first of them to stop, and the turns of each process in one
-- record.
use Rattle.std.proofs.Common.{◌≡◌, ◌⊎◌, ℕ, zero, suc, ◌+◌, ◌-◌, ◌*◌, ◌<◌, ◌≤◌, List, [], ◌∷◌, ◌++◌, length, map}
use Rattle.std.proofs.Common.{get_or, refl, sym, ap, ◌∙◌, inl, inr, arith, Bool, true, false, Option}
use Rattle.std.proofs.Common.{Some, None, add-one, eq-eqb, length-append}
use Rattle.std.specs.Prelude.{All, nat_eq}
use Rattle.std.proofs.lemmas.Bool.{cases_eq}
use Rattle.std.proofs.lemmas.List.{get_or_append_left, get_or_default, get_or_push, length-map}
use Rattle.std.specs.List.{AllByRecursion}
use Rattle.snap_semantics.specs.declared.process.Item.{Item}
use Rattle.snap_live.specs.declared.seat_state.Setting.{Setting}
use Rattle.snap_live.specs.declared.seat_state.OwnTurn.{OwnTurn}
use Rattle.snap_live.specs.declared.seat.Turn.{Turn}
use Rattle.snap_live.specs.declared.worker.Stop.{Stop}
use Rattle.snap_live.specs.declared.worker.Stop.TheVariants.{TurnLimit, Full, Memory}
use Rattle.snap_semantics.specs.declared.fault.Fault.{Fault}
use Rattle.snap_semantics.specs.declared.fault.Fault.TheVariants as fault
use Rattle.snap_semantics.specs.declared.refusal.LiveRefusal.{LiveRefusal}
use Rattle.snap_semantics.specs.declared.refusal.LiveRefusal.TheVariants as refusal
use Rattle.snap_semantics.specs.State.{State, initial}
use Rattle.snap_runs.specs.Run.{Run, IsValidRun}
use Rattle.snap_words.specs.Shape.{IsOneOf}
use Rattle.snap_semantics.specs.Table.{who, done}
use Rattle.snap_live.specs.Turns.{run_of, setting_of, own_turn, put_if, turns_of, turns_from}
use Rattle.snap_live.specs.Play.{IsPlay, IsBegun}
use Rattle.snap_sched.specs.ScriptText.{Script}
use Rattle.snap_live.specs.Script.{script_at}
use Rattle.snap_live.specs.Shown.{DeskView, SeatView, Keeps, seat_of, seats_of}
use Rattle.snap_live.specs.Closed.{HasSeat, IsLeastMissing, NamesMissing}
use Rattle.snap_live.specs.Worker.{shown, IsLetOn, MayGoOn, MayNotGoOn, Stopped, Ended, WorkedView, IsWorked}
use Rattle.snap_live.specs.LiveRun.{turns_at, Played, IsLive, IsPart, GivesUp, MayFault, or_first, first_stop}
use Rattle.snap_live.specs.LiveRun.{then_first, fault_of, AllWorked}
use Rattle.snap_live.proofs.Joins.{prefix_length}
use Rattle.snap_live.proofs.Gathered.{has_at}
use Rattle.snap_live.proofs.Handles.{map_at}

-- new seats

pub seats_length : (d : DeskView) (n : ℕ) → length (seats_of d n) ≡ n
seats_length d zero = refl
seats_length d (suc n) =
    length-append (seats_of d n) (seat_of d (suc n) ∷ []) ∙ (let e = seats_length d n in omega arith)

pub seats_at : (d : DeskView) (n k : ℕ) (s : SeatView) → k < n → get_or (seats_of d n) k s ≡ seat_of d (k + 1)
seats_at d zero k s lt = absurd (omega arith)
seats_at d (suc n) k s lt =
    let len = seats_length d n in
    elim (cases_eq k n) [
      | inl same ↦ rw (get_or_push (seats_of d n) (seat_of d (suc n)) s k (len ∙ sym same), same, add-one)
      | inr other ↦
          get_or_append_left (seats_of d n) (seat_of d (suc n) ∷ []) s k (omega arith) ∙ seats_at d n k s (omega arith)
    ]

-- what start_all asks of each seat
pub new_seats : (d : DeskView) (n : ℕ) (ss : List SeatView) → ss ≡ seats_of d n →
    All (λ (s : SeatView). (s ≡ seat_of d s.process) × IsOneOf n s.process) ss
new_seats d n ss e k s lt =
    let len : length ss ≡ n = ap (λ (l : List SeatView). length l) e ∙ seats_length d n in
    let at : get_or ss k s ≡ seat_of d (k + 1) =
    ap (λ (l : List SeatView). get_or l k s) e ∙ seats_at d n k s (omega arith) in
    rw at (refl, (omega arith, omega arith))

-- what the handles promise of all workers, as their handles' parts say it
pub workers_of : {H M : Type 0} (seat_in : H → SeatView) (script_in : H → Script) (gate_in : H → M) (limit_in : H → ℕ)
    (may : M → ℕ → ℕ → Bool → Type 0)
    (desk : DeskView) (scripts : List Script) (limit : ℕ) (gate : M) (ss : List SeatView)
    (hs : List H) (ws : List WorkedView)
    → ss ≡ seats_of desk (length scripts) → map seat_in hs ≡ ss →
    map script_in hs ≡ map (λ (s : SeatView). script_at scripts (s.process - 1)) ss
    → All (λ (h : H). gate_in h ≡ gate) hs → All (λ (h : H). limit_in h ≡ limit) hs
    → length ws ≡ length hs
    → ((k : ℕ) (w : WorkedView) → k < length hs → (h : H) × (h ≡ get_or hs k h)
    × IsWorked (may (gate_in h)) (seat_in h).desk (seat_in h).process (script_in h) (limit_in h) (get_or ws k w))
    → AllWorked (may gate) desk scripts limit ws
workers_of {H = H} {M = M} seat_in script_in gate_in limit_in may desk scripts limit gate ss hs ws new seats
    script gates limits len each =
    let n : ℕ = length scripts in
    let handles : length hs ≡ n =
    sym (length-map hs seat_in) ∙ ap (λ (l : List SeatView). length l) (seats ∙ new) ∙ seats_length desk n in
    record {
      each_process = len ∙ handles;
      worked = λ k w lt.
          let below : k < length hs = omega arith in
          let r = each k w below in
          let h = r.0 in
          let seat : seat_in h ≡ seat_of desk (k + 1) =
          ap seat_in r.1 ∙ sym (map_at seat_in hs k h)
          ∙ ap (λ (l : List SeatView). get_or l k (seat_in h)) (seats ∙ new) ∙ seats_at desk n k (seat_in h) lt in
          let of_script : SeatView → Script = λ s. script_at scripts (s.process - 1) in
          let in_seats : k < length (map of_script ss) =
          (let a = length-map ss of_script in let b =
          ap (λ (l : List SeatView). length l) new in let c = seats_length desk n in omega arith) in
          let x : SeatView = seat_of desk 0 in
          let same : (k + 1) - 1 ≡ k = omega arith in
          let script_is : script_in h ≡ script_at scripts k =
          ap script_in r.1 ∙ sym (map_at script_in hs k h) ∙ ap (λ (l : List Script). get_or l k (script_in h)) script
          ∙ get_or_default (map of_script ss) k (script_in h) (of_script x) in_seats
          ∙ map_at of_script ss k x
          ∙ ap of_script (ap (λ (l : List SeatView). get_or l k x) new ∙ seats_at desk n k x lt)
          ∙ ap (script_at scripts) same in
          let gate_is : gate_in h ≡ gate = ap gate_in r.1 ∙ gates k h below in
          let limit_is : limit_in h ≡ limit = ap limit_in r.1 ∙ limits k h below in
          rw (seat, script_is, limit_is, gate_is) at r.2;
    }

-- the first stop

or_then : (p q : ℕ) (o r : Option Stop) (l : Option (ℕ × Stop)) →
    or_first p o (then_first l q r) ≡ then_first (or_first p o l) q r
or_then p q o r l = grind arith

pub first-push : (ws : List WorkedView) (w : WorkedView) →
    first_stop (ws ++ w ∷ []) ≡ then_first (first_stop ws) w.seat.process w.stop
first-push [] w = refl
first-push (v ∷ vs) w =
    ap (or_first v.seat.process v.stop) (first-push vs w)
    ∙ or_then v.seat.process w.seat.process v.stop w.stop (first_stop vs)

none_first : (p : ℕ) (o : Option Stop) (l : Option (ℕ × Stop)) → or_first p o l ≡ None → (o ≡ None) × (l ≡ None)
none_first p o l e = grind arith

no_stop : (ws : List WorkedView) (k : ℕ) (d : WorkedView) → first_stop ws ≡ None →
    k < length ws → (get_or ws k d).stop ≡ None
no_stop [] k d e lt = absurd (omega arith)
no_stop (w ∷ ws) zero d e lt = (none_first w.seat.process w.stop (first_stop ws) e).0
no_stop (w ∷ ws) (suc k) d e lt = no_stop ws k d (none_first w.seat.process w.stop (first_stop ws) e).1 (omega arith)

-- whose stop it is, and that no worker before it stopped
record Stopping (ws : List WorkedView) (pf : ℕ × Stop) : Type 0 where
  at : ℕ
  there : at < length ws
  process : (d : WorkedView) → (get_or ws at d).seat.process ≡ pf.0
  stop : (d : WorkedView) → (get_or ws at d).stop ≡ Some pf.1
  before : (j : ℕ) (d : WorkedView) → j < at → (get_or ws j d).stop ≡ None

some_first : (p : ℕ) (o : Option Stop) (l : Option (ℕ × Stop)) (pf : ℕ × Stop) → or_first p o l ≡ Some pf →
    ((p ≡ pf.0) × (o ≡ Some pf.1)) ⊎ ((o ≡ None) × (l ≡ Some pf))
some_first p o l pf e = grind arith

none_before : (w : WorkedView) (ws : List WorkedView) (k : ℕ) → w.stop ≡ None →
    ((j : ℕ) (d : WorkedView) → j < k → (get_or ws j d).stop ≡ None)
    → (j : ℕ) (d : WorkedView) → j < suc k → (get_or (w ∷ ws) j d).stop ≡ None
none_before w ws k here more j d lt = grind arith

a_stop : (ws : List WorkedView) (pf : ℕ × Stop) → first_stop ws ≡ Some pf → Stopping ws pf
a_stop [] pf e = absurd (cc)
a_stop (w ∷ ws) pf e = elim (some_first w.seat.process w.stop (first_stop ws) pf e) [
  | inl here ↦ record {
    at = 0;
    there = omega arith;
    process = λ d. here.0;
    stop = λ d. here.1;
    before = λ j d lt. absurd (omega arith);
  }
  | inr later ↦ (let r = a_stop ws pf later.1 in record {
    at = suc r.at;
    there = omega (arith, r.there);
    process = r.process;
    stop = r.stop;
    before = none_before w ws r.at later.0 r.before;
  })
]

-- how often a process has an item

one_if : Bool → ℕ
one_if true = 1
one_if false = 0

times : ℕ → List Item → ℕ
times p [] = 0
times p (x ∷ xs) = times p xs + one_if (nat_eq p (who x))

put_length : (c : Bool) (t : OwnTurn) (ts : List OwnTurn) → length (put_if c t ts) ≡ length ts + one_if c
unfolding one_if
put_length true t ts = omega arith
put_length false t ts = omega arith

-- that is how many turns the process has, from any state on
turns_times : (base : Setting) (S : State) (k p : ℕ) (xs : List Item) →
    length (turns_from base S k p xs) ≡ times p xs
unfolding times
turns_times base S k p [] = refl
turns_times base S k p (x ∷ xs) =
    let d = done base.source base.shape S x in
    omega (
      arith,
      put_length (nat_eq p (who x)) (own_turn (k + 1) x d.1) (turns_from base d.0 (k + 1) p xs),
      turns_times base d.0 (k + 1) p xs,
    )

-- the items of processes 1 to n
counted : ℕ → List Item → ℕ
counted zero xs = 0
counted (suc n) xs = counted n xs + times (suc n) xs

hits : ℕ → ℕ → ℕ
hits zero w = 0
hits (suc n) w = hits n w + one_if (nat_eq (suc n) w)

counted-cons : (n : ℕ) (x : Item) (xs : List Item) → counted n (x ∷ xs) ≡ counted n xs + hits n (who x)
unfolding counted hits times
counted-cons zero x xs = refl
counted-cons (suc n) x xs = let more = counted-cons n x xs in omega arith

hit_one : (n w : ℕ) → IsOneOf n w → 1 ≤ hits n w
unfolding hits one_if
hit_one zero w b = absurd (omega arith)
hit_one (suc n) w b = elim (cases_eq (suc n) w) [
  | inl same ↦ omega (arith, ap one_if (eq-eqb (suc n) w same))
  | inr other ↦ omega (arith, hit_one n w (b.0, omega arith))
]

all_counted : (n : ℕ) (xs : List Item) → AllByRecursion (λ (x : Item). IsOneOf n (who x)) xs → length xs ≤ counted n xs
all_counted n [] all = omega arith
all_counted n (x ∷ xs) all = omega (arith, counted-cons n x xs, hit_one n (who x) all.0, all_counted n xs all.1)

-- where each process has at most so many, they are at most so many times n, and fewer where one has fewer
counted_few : (n limit q : ℕ) (xs : List Item) → ((p : ℕ) → IsOneOf n p → times p xs ≤ limit) →
    (counted n xs ≤ n * limit) × (IsOneOf n q → times q xs < limit → counted n xs < n * limit)
unfolding counted
counted_few zero limit q xs each = (omega arith, λ one few. absurd (omega arith))
counted_few (suc n) limit q xs each =
    let more = counted_few n limit q xs (λ p one. each p (one.0, omega arith)) in
    let here = each (suc n) (omega arith, omega arith) in (
      omega (arith, more.0),
      λ one few. elim (cases_eq q (suc n)) [
        | inl same ↦ (let fewer : times (suc n) xs < limit = rw same at few in omega (arith, more.0))
        | inr other ↦ omega (arith, more.1 (one.0, omega arith) few)
      ],
    )

pub few_items : (base : Setting) (limit q : ℕ) (xs : List Item) →
    AllByRecursion (λ (x : Item). IsOneOf base.shape.n (who x)) xs
    → ((p : ℕ) → IsOneOf base.shape.n p → length (turns_of base p xs) ≤ limit) → IsOneOf base.shape.n q →
    length (turns_of base q xs) < limit
    → length xs < base.shape.n * limit
few_items base limit q xs all each one few =
    let so_often : (p : ℕ) → length (turns_of base p xs) ≡ times p xs =
    λ p. turns_times base (initial base.source base.shape) 0 p xs in
    let counts = counted_few base.shape.n limit q xs (λ p is. rw (← so_often p) (each p is)) in
    omega (arith, all_counted base.shape.n xs all, counts.1 one (rw (← so_often q) few))

-- a worker's turns are a whole play of its script, or a begun one
whole_or_begun : (may : ℕ → ℕ → Bool → Type 0) (script : Script) (limit : ℕ) (seat : SeatView) (o : Option Stop) →
    Ended may script limit seat o → IsPlay script seat.own ⊎ IsBegun script seat.own
whole_or_begun may script limit seat None e = inl e
whole_or_begun may script limit seat (Some stop) e = inr e.begun

-- the seats that the workers hand back

abbrev idle : SeatView → WorkedView
idle s = record { seat = s; turns = []; stop = None }

abbrev seat_in : WorkedView → SeatView
seat_in w = w.seat

abbrev turns_told : WorkedView → List Turn
turns_told w = w.turns

module _ (may : ℕ → ℕ → Bool → Type 0) (desk : DeskView) (scripts : List Script) (limit : ℕ) (ws : List WorkedView)
    (workers_joined : AllWorked may desk scripts limit ws) where
  seat_at : (k : ℕ) (d : SeatView) → get_or (map seat_in ws) k d ≡ (get_or ws k (idle d)).seat
  seat_at k d = map_at seat_in ws k (idle d)

  seat_count : length (map seat_in ws) ≡ length scripts
  seat_count = length-map ws seat_in ∙ workers_joined.each_process

  pub at_desk : All (λ (s : SeatView). s.desk ≡ desk) (map seat_in ws)
  at_desk k d lt =
      let n = seat_count in rw (seat_at k d) (workers_joined.worked k (idle d) (omega arith)).kept.at_desk

  -- stands where there is no worker
  abbrev no_worker : WorkedView
  no_worker = idle (seat_of desk 0)

  abbrev worker : ℕ → WorkedView
  worker k = get_or ws k no_worker

  worked_at : (k : ℕ) → k < length scripts → IsWorked may desk (k + 1) (script_at scripts k) limit (worker k)
  worked_at k lt = workers_joined.worked k no_worker lt

  pub everybody : (p : ℕ) → IsOneOf (length scripts) p → HasSeat p (map seat_in ws)
  everybody p one =
      let k : ℕ = p - 1 in
      let n = seat_count in
      let a = one.0 in let b = one.1 in
      let same : k + 1 ≡ p = omega arith in
      has_at p k (map seat_in ws) (seat_of desk 0) (omega arith)
      (ap (λ (s : SeatView). s.process) (seat_at k (seat_of desk 0)) ∙ (worked_at k (omega arith)).kept.of_process
      ∙ same)

  module _ (items : List Item) (keeps : All (Keeps desk.base items) (map seat_in ws)) where
    kept_at : (k : ℕ) → k < length scripts → Keeps desk.base items (worker k).seat
    kept_at k lt = let n = seat_count in rw (seat_at k (seat_of desk 0)) at (keeps k (seat_of desk 0) (omega arith))

    -- the turns of worker k are the items of its process
    own_is : (k : ℕ) → k < length scripts → turns_of desk.base (k + 1) items ≡ (worker k).seat.own
    own_is k lt =
        ap (λ (p : ℕ). turns_of desk.base p items) (sym (worked_at k lt).kept.of_process) ∙ (kept_at k lt).1

    -- the turns of a worker that came to the end of its script
    whole_at : (k : ℕ) → k < length scripts → (worker k).stop ≡ None →
        IsPlay (script_at scripts k) (turns_of desk.base (k + 1) items)
    whole_at k lt none =
        let ended : Ended may (script_at scripts k) limit (worker k).seat None = rw none at (worked_at k lt).ended in
        rw (own_is k lt) ended

    let_on_at : (k : ℕ) → k < length scripts → IsLetOn may (k + 1) (length (turns_of desk.base (k + 1) items))
    let_on_at k lt = rw (own_is k lt) (worked_at k lt).kept.let_on

    few_at : (k : ℕ) → k < length scripts → length (turns_of desk.base (k + 1) items) ≤ limit
    few_at k lt = rw (own_is k lt) (worked_at k lt).kept.few

    few_own : (p : ℕ) → IsOneOf (length scripts) p → length (turns_of desk.base p items) ≤ limit
    few_own p one =
        let a = one.0 in let b = one.1 in
        let same : (p - 1) + 1 ≡ p = omega arith in
        rw same at (few_at (p - 1) (omega arith))

    pub plays_all : first_stop ws ≡ None → (k : ℕ) → k < length scripts →
        Played may desk.base items (k + 1) (script_at scripts k) limit (turns_at (map turns_told ws) k)
    plays_all none k lt =
        let n = workers_joined.each_process in record {
          told = map_at turns_told ws k no_worker ∙ (worked_at k lt).kept.told ∙ ap (map shown) (sym (own_is k lt));
          plays = whole_at k lt (no_stop ws k no_worker none (omega arith));
          few = few_at k lt;
          let_on = let_on_at k lt;
        }

    part_at : (k : ℕ) → k < length scripts → IsPart may desk.base items (k + 1) (script_at scripts k) limit
    part_at k lt =
        let w = worker k in record {
          plays =
              rw (own_is k lt) (whole_or_begun may (script_at scripts k) limit w.seat w.stop (worked_at k lt).ended);
          few = few_at k lt;
          let_on = let_on_at k lt;
        }

    module _ (pf : ℕ × Stop) (at : Stopping ws pf) where
      stop_below : at.at < length scripts
      stop_below = let n = workers_joined.each_process in let l = at.there in omega arith

      stop_process : pf.0 ≡ at.at + 1
      stop_process = sym (at.process no_worker) ∙ (worked_at at.at stop_below).kept.of_process

      -- how the worker at fault stopped
      stopped_at : Stopped may (script_at scripts at.at) limit (worker at.at).seat pf.1
      stopped_at = rw (at.stop no_worker) at (worked_at at.at stop_below).ended

      gives_up : length scripts ≡ desk.base.shape.n → IsValidRun (run_of desk.base items) → length items ≤ 1000000 →
          GivesUp may desk.base scripts limit pf.0 items
      gives_up n fits short =
          let many = workers_joined.each_process in
          let lt = stop_below in
          let process = stop_process in
          let back : pf.0 - 1 ≡ at.at = omega arith in
          let begun : IsBegun (script_at scripts at.at) (turns_of desk.base (at.at + 1) items) =
          rw (own_is at.at lt) stopped_at.begun in
          record {
            fits = fits;
            short = short;
            parts = λ j below. part_at j (omega arith);
            one = (omega arith, omega arith);
            begun = rw (back, process) begun;
            whole = λ j below. whole_at j (omega arith) (at.before j no_worker (omega arith));
          }

      -- what the worker at fault knows of its turns, said of those in the record
      of_record : (T : ℕ → ℕ → Type 0) → T (worker at.at).seat.process (length (worker at.at).seat.own) →
          T pf.0 (length (turns_of desk.base pf.0 items))
      of_record T h =
          let own : turns_of desk.base pf.0 items ≡ (worker at.at).seat.own =
          ap (λ (p : ℕ). turns_of desk.base p items) stop_process ∙ own_is at.at stop_below in
          rw own (rw (at.process no_worker) at h)

    pub limit_fault : length scripts ≡ desk.base.shape.n → IsValidRun (run_of desk.base items) → length items ≤ 1000000
        → (p : ℕ) → first_stop ws ≡ Some (p, TurnLimit) →
        MayFault may desk.base scripts limit (fault.Refused (refusal.TurnLimit p))
    limit_fault n fits short p e =
        let pf : ℕ × Stop = (p, TurnLimit) in
        let at = a_stop ws pf e in record {
          items = items;
          given_up = gives_up pf at n fits short;
          no_further = of_record pf at (λ q made. MayNotGoOn may q made limit) (stopped_at pf at).why;
        }

    pub full_fault : length scripts ≡ desk.base.shape.n → IsValidRun (run_of desk.base items) → length items ≤ 1000000
        → (p : ℕ) → first_stop ws ≡ Some (p, Full) →
        MayFault may desk.base scripts limit (fault.Refused (refusal.Full 1000000))
    full_fault n fits short p e =
        let pf : ℕ × Stop = (p, Full) in
        let at = a_stop ws pf e in
        let w = worker at.at in
        let longer : length w.seat.seen ≤ length items =
        prefix_length w.seat.seen items (kept_at at.at (stop_below pf at)).0 in
        let why = (stopped_at pf at).why in
        let seen = why.0 in
        let all : length items ≡ 1000000 = omega arith in
        let up = gives_up pf at n fits short in
        let goes_on : MayGoOn may p (length (turns_of desk.base p items)) limit =
        of_record pf at (λ q made. MayGoOn may q made limit) why.1 in
        let few = few_items desk.base limit p items fits.all (λ q one. few_own q (one.0, omega arith)) up.one
        goes_on.fewer in (
          refl,
          record { items = items; process = p; given_up = up; full = all; goes_on = goes_on; many = (omega arith) },
        )

-- the run, as its caller sees it

module _ (may : ℕ → ℕ → Bool → Type 0) (desk : DeskView) (base : Setting) (scripts : List Script) (limit : ℕ)
    (ws : List WorkedView) (workers_joined : AllWorked may desk scripts limit ws)
    (of_base : desk.base ≡ base) (n : length scripts ≡ base.shape.n) (ss : List SeatView)
    (seats : ss ≡ map seat_in ws) where
  many : length scripts ≡ desk.base.shape.n
  many = n ∙ sym (ap (λ (b : Setting). b.shape.n) of_base)

  nobody_least : (p : ℕ) → IsLeastMissing p desk.base.shape.n ss → ⊥
  nobody_least p m =
      m.missing (rw seats (everybody may desk scripts limit ws workers_joined p (rw many m.one)))

  pub nobody_missing : (f : Fault LiveRefusal) → NamesMissing f desk.base.shape.n ss → ⊥
  nobody_missing (fault.Refused (refusal.SeatMissing p)) m = nobody_least p m
  nobody_missing _ m = m

  module _ (kept : Run) (kept_base : setting_of kept ≡ desk.base) (keeps : All (Keeps desk.base kept.items) ss) where
    all_kept : All (Keeps desk.base kept.items) (map seat_in ws)
    all_kept = rw seats at keeps

    pub run_ends : (turns : List (List Turn)) → turns ≡ map turns_told ws → first_stop ws ≡ None →
        IsLive may base scripts limit kept turns
    run_ends turns told none =
        rw (← of_base) (record {
          of_base = kept_base;
          each_process =
              ap (λ (l : List (List Turn)). length l) told ∙ length-map ws turns_told
              ∙ workers_joined.each_process ∙ many;
          played = λ k lt.
              rw told (plays_all may desk scripts limit ws workers_joined kept.items all_kept none k (rw many lt));
        })

    same_run : kept ≡ run_of desk.base kept.items
    same_run = ap (λ (b : Setting). run_of b kept.items) kept_base

    pub run_faults : IsValidRun kept → length kept.items ≤ 1000000 → (p : ℕ) (f : Stop) →
        first_stop ws ≡ Some (p, f) → MayFault may base scripts limit (fault_of p f)
    run_faults valid short p Memory e = tt
    run_faults valid short p Full e =
        rw (← of_base)
        (full_fault may desk scripts limit ws workers_joined kept.items all_kept many (rw same_run at valid) short p e)
    run_faults valid short p TurnLimit e =
        rw (← of_base)
        (limit_fault may desk scripts limit ws workers_joined kept.items all_kept many (rw same_run at valid) short p e)
