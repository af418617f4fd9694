-- `Alone`: a process of any algorithm that steps alone, with the
-- memory and its count of double collects; what its steps lead to.
use Rattle.std.specs.Prelude.{◌≡◌, ◌≢◌, ℕ, zero, suc, ◌+◌, List, [], ◌∷◌, length, Option, None, replicate, refl}
use Rattle.std.proofs.Common.{◌∙◌, ap, arith}
use Rattle.snap_runs.proofs.Common.{IsOneOf, Item, Step, Call, Op, Scan, Update, Outcome, Called, Stepped, Answered}
use Rattle.snap_runs.proofs.Common.{Finished, Reason}
use Rattle.snap_semantics.specs.Table.{call_skip}
use Rattle.snap_runs.proofs.Algorithm.{Mode, Scanning, Updating, Control, Idle, At, Move, To, Begin}
use Rattle.snap_runs.proofs.Algorithm.{Answer, Finish, TypedProcess, TypedState, Algorithm, Change, New, by_move}
use Rattle.snap_runs.proofs.Algorithm.{by_step, by_admission, by_call, typed_at, changed, happens}
use Rattle.snap_runs.proofs.Embedding as embed

-- what a process is at, and how many double collects its scan has made
pub record Seat (V P : Type 0) : Type 0 where
  pub control : Control P
  pub variables : V
  pub collects : ℕ

pub record Alone (V P M : Type 0) : Type 0 where
  pub memory : M
  pub seat : Seat V P

abbrev pub seated : {V P : Type 0} → Control P → V → ℕ → Seat V P
seated control p c = record { control = control; variables = p; collects = c }

abbrev pub placed : {V P M : Type 0} → M → Seat V P → Alone V P M
placed m seat = record { memory = m; seat = seat }

abbrev pub seat_of : {V P M : Type 0} → TypedProcess V P M → Seat V P
seat_of q = seated q.control q.variables q.auxiliary.collects

abbrev pub standing : {V P M : Type 0} → Mode → M → V → P → ℕ → Alone V P M
standing d m p k c = placed m (seated (At d k) p c)

abbrev pub idling : {V P M : Type 0} → M → V → ℕ → Alone V P M
idling m p c = placed m (seated Idle p c)

-- a sum, in a form that computes
abbrev pub more : ℕ → ℕ → ℕ
more c zero = c
more c (suc t) = suc (more c t)

more_is : (c t : ℕ) → c + t ≡ more c t
more_is c zero = omega arith
more_is c (suc t) = omega (arith, more_is c t)

module _ {V P M : Type 0} (a : Algorithm V P M) where
  abbrev pub after_move : P → M → V → ℕ → Move V P M → Alone V P M
  after_move k m p c (To d m' p' k') = standing d m' p' k' (more c (a.tests k))
  after_move k m p c (Begin d p' k') = standing d m p' k' 0
  after_move k m p c (Answer view) = idling m p (more c (a.tests k))
  after_move k m p c Finish = idling m p (more c (a.tests k))

  abbrev pub after_step : ℕ → M → V → ℕ → Control P → Alone V P M
  after_step i m p c Idle = idling m p c
  after_step i m p c (At d k) = after_move k m p c (a.move i d m p k)

  -- a number of steps of process i alone
  abbrev pub walk : ℕ → ℕ → Alone V P M → Alone V P M
  walk i zero x = x
  walk i (suc s) x = walk i s (after_step i x.memory x.seat.variables x.seat.collects x.seat.control)

  -- a call that is admitted
  abbrev pub after_call : Op → Alone V P M → Alone V P M
  after_call Scan y = standing Scanning y.memory y.seat.variables (a.counter Scan) 0
  after_call (Update word value) y =
      standing (Updating word value) y.memory y.seat.variables (a.counter (Update word value)) y.seat.collects

  walk_on : (i s t : ℕ) (x : Alone V P M) → walk i (s + t) x ≡ walk i t (walk i s x)
  walk_on i zero t x = ap (λ u. walk i u x) (let e : zero + t ≡ t = omega arith in e)
  walk_on i (suc s) t x =
      ap (λ u. walk i u x) (let e : suc s + t ≡ suc (s + t) = omega arith in e)
      ∙ walk_on i s t (after_step i x.memory x.seat.variables x.seat.collects x.seat.control)

  -- one walk after another
  pub walks : (i s t u : ℕ) (x : Alone V P M) {y z : Alone V P M} → walk i s x ≡ y → walk i t y ≡ z → u ≡ s + t →
      walk i u x ≡ z
  walks i s t u x first second e = ap (λ v. walk i v x) e ∙ walk_on i s t x ∙ ap (walk i t) first ∙ second

  abbrev pub State : Type 0
  State = TypedState V P M

  abbrev pub alone_of : State → ℕ → Alone V P M
  alone_of x i = placed x.memory (seat_of (typed_at a x i))

  -- the state after these items, the first of which comes after so many
  abbrev pub run_from : ℕ → State → List Item → State
  run_from time x [] = x
  run_from time x (y ∷ ys) = run_from (suc time) (happens a (suc time) x y) ys

  -- An item of process i: another process is as before.
  pub record Turns (i : ℕ) (x x' : State) : Type 0 where
    pub count : length x'.processes ≡ a.shape.n
    pub others : (k : ℕ) → IsOneOf a.shape.n k → k ≢ i → typed_at a x' k ≡ typed_at a x k

  pub turns_on : (i : ℕ) (x y z : State) → Turns i x y → Turns i y z → Turns i x z
  turns_on i x y z h g = record { count = g.count; others = λ k one other. g.others k one other ∙ h.others k one other }

  module _ (i : ℕ) (one : IsOneOf a.shape.n i) where
    -- the process is set
    own_seat : (x : State) (m : M) (q : TypedProcess V P M) (o : Outcome) → length x.processes ≡ a.shape.n →
        alone_of (changed x i (New m q o)) i ≡ placed m (seat_of q)
    own_seat x m q o count =
        ap (λ (y : TypedProcess V P M). placed m (seat_of y)) (embed.own_process a x i m q o count one)

    move_seat : (time : ℕ) (x : State) (k : P) (v : Move V P M) → length x.processes ≡ a.shape.n →
        alone_of (changed x i (by_move a time x.memory (typed_at a x i) k v)) i
        ≡ after_move k x.memory (typed_at a x i).variables (typed_at a x i).auxiliary.collects v
    move_seat time x k (To d m' p' k') count =
        own_seat x m' _ Stepped count
        ∙ ap (standing d m' p' k') (more_is (typed_at a x i).auxiliary.collects (a.tests k))
    move_seat time x k (Begin d p' k') count = own_seat x x.memory _ Stepped count
    move_seat time x k (Answer view) count =
        own_seat x x.memory _ (Answered view) count
        ∙ ap (idling x.memory (typed_at a x i).variables) (more_is (typed_at a x i).auxiliary.collects (a.tests k))
    move_seat time x k Finish count =
        own_seat x x.memory _ Finished count
        ∙ ap (idling x.memory (typed_at a x i).variables) (more_is (typed_at a x i).auxiliary.collects (a.tests k))

    step_seat : (time : ℕ) (x : State) (control : Control P) →
        length x.processes ≡ a.shape.n → (typed_at a x i).control ≡ control →
        alone_of (changed x i (by_step a time x.memory i (typed_at a x i) control)) i
        ≡ after_step i x.memory (typed_at a x i).variables (typed_at a x i).auxiliary.collects control
    step_seat time x Idle count is =
        let q = typed_at a x i in
        ap (λ (c : Control P). placed x.memory (seated c q.variables q.auxiliary.collects)) is
    step_seat time x (At d k) count is = move_seat time x k (a.move i d x.memory (typed_at a x i).variables k) count

    changes : (x : State) (c : Change V P M) → length x.processes ≡ a.shape.n → Turns i x (changed x i c)
    changes x c count = record {
      count = embed.changed_count a x i c ∙ count;
      others = λ k at other. embed.other_process a x i k c one.0 at.0 other;
    }

    -- a number of steps of the process, and nothing else
    pub steps_alone : (time s : ℕ) (x : State) → length x.processes ≡ a.shape.n →
        Turns i x (run_from time x (replicate s (Step i)))
        × (alone_of (run_from time x (replicate s (Step i))) i ≡ walk i s (alone_of x i))
    steps_alone time zero x count = (record { count = count; others = λ k at other. refl }, refl)
    steps_alone time (suc s) x count =
        let y = happens a (suc time) x (Step i) in
        let t = changes x (by_step a (suc time) x.memory i (typed_at a x i) (typed_at a x i).control) count in
        let rest = steps_alone (suc time) s y t.count in
        (turns_on i x y _ t rest.0, rest.1 ∙ ap (walk i s) (step_seat (suc time) x (typed_at a x i).control count refl))

    admitted : (time : ℕ) (x : State) (op : Op) → length x.processes ≡ a.shape.n →
        alone_of (changed x i (by_admission a time x.memory (typed_at a x i) op None)) i ≡ after_call op (alone_of x i)
    admitted time x Scan count = own_seat x x.memory _ Called count
    admitted time x (Update word value) count = own_seat x x.memory _ Called count

    pub call_alone : (time : ℕ) (x : State) (op : Op) → length x.processes ≡ a.shape.n →
        (typed_at a x i).control ≡ Idle → call_skip a.source.kind a.shape i op ≡ None →
        Turns i x (run_from time x (Call i op ∷ []))
        × (alone_of (run_from time x (Call i op ∷ [])) i ≡ after_call op (alone_of x i))
    call_alone time x op count idle admit =
        let q = typed_at a x i in
        let becomes : happens a (suc time) x (Call i op) ≡ changed x i (by_admission a (suc time) x.memory q op None) =
        ap (λ (c : Control P). changed x i (by_call a (suc time) x.memory i op q c)) idle
        ∙ ap (λ (o : Option Reason). changed x i (by_admission a (suc time) x.memory q op o)) admit in (
          changes x (by_call a (suc time) x.memory i op q q.control) count,
          ap (λ (y : State). alone_of y i) becomes ∙ admitted (suc time) x op count,
        )
