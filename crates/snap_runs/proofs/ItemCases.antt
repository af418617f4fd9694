-- The cases of what an item of a run does to one typed process
-- of an `Algorithm`: nothing, a step at its line, or a call.
use Rattle.std.specs.Prelude.{◌≡◌, ℕ, suc, ◌<◌, ◌⊎◌, false, List, length, Option, Some, None, refl}
use Rattle.std.proofs.Common.{sym, ◌∙◌, ap, subst, inl, inr}
use Rattle.std.proofs.lemmas.Bool.{cases_eq}
use Rattle.snap_runs.proofs.Common.{IsOneOf, who, Item, Step, Call, Crash, Op, Skipped, Called, Stepped, Answered}
use Rattle.snap_runs.proofs.Common.{Finished, Reason, Run, outcome}
use Rattle.snap_semantics.specs.Table.{call_skip}
use Rattle.snap_semantics.specs.declared.process.Reason.TheVariants as reason
use Rattle.snap_runs.specs.Scan.{steps}
use Rattle.snap_runs.proofs.Algorithm.{Mode, mode_of, Control, Idle, At, Move, To, Begin, Answer, Finish}
use Rattle.snap_runs.proofs.Algorithm.{TypedProcess, TypedState, Algorithm, by_move, by_step, by_admission, by_call}
use Rattle.snap_runs.proofs.Algorithm.{typed_at, by_item, changed, outcome_of, happens, item_at, typed_state}
use Rattle.snap_runs.proofs.Algorithm.{stepped_auxiliary, begun_auxiliary, called_auxiliary, SameOp}
use Rattle.snap_runs.proofs.Computing.{other_number}
use Rattle.snap_runs.proofs.Embedding as embed
use Rattle.snap_runs.proofs.Steady.{Steady}

module _ {V P M : Type 0} (a : Algorithm V P M) where
  -- the process after a move at line k
  abbrev pub moved : ℕ → TypedProcess V P M → P → Move V P M → TypedProcess V P M
  moved time q k (To d m p k') =
      record { control = At d k'; variables = p; auxiliary = stepped_auxiliary a k time q.auxiliary }
  moved time q k (Begin d p k') =
      record { control = At d k'; variables = p; auxiliary = begun_auxiliary a k time q.auxiliary }
  moved time q k _ =
      record { control = Idle; variables = q.variables; auxiliary = stepped_auxiliary a k time q.auxiliary }

  -- the process after a call
  abbrev pub begun : ℕ → TypedProcess V P M → Op → TypedProcess V P M
  begun time q op =
      record {
        control = At (mode_of op) (a.counter op);
        variables = q.variables;
        auxiliary = called_auxiliary time op q.auxiliary;
      }

  module _ (items : List Item) (fits : Steady (embed.run_of a items)) (does : embed.AllDo a items) (i : ℕ)
      (one : IsOneOf a.shape.n i) where
    abbrev pub r : Run
    r = embed.run_of a items

    abbrev pub his : ℕ → TypedProcess V P M
    his t = typed_at a (typed_state a items t) i

    -- the move at a line, with the memory of state t
    abbrev pub move_at : ℕ → Mode → P → Move V P M
    move_at t d k = a.move i d (typed_state a items t).memory (his t).variables k

    -- nothing happens to the process: its step finds it idle, and its item is skipped
    pub record Stays (t : ℕ) : Type 0 where
      pub same : his (suc t) ≡ his t
      pub idle : item_at items t ≡ Step i → (his t).control ≡ Idle
      pub skipped : who (item_at items t) ≡ i → (why : Reason) × (outcome r (suc t) ≡ Skipped why)

    -- a step at a line
    pub record Steps (t : ℕ) : Type 0 where
      pub mode : Mode
      pub counter : P
      pub item : item_at items t ≡ Step i
      pub control : (his t).control ≡ At mode counter
      pub keeps : SameOp a mode (move_at t mode counter)
      pub after : his (suc t) ≡ moved (suc t) (his t) counter (move_at t mode counter)
      pub outcome_is : outcome r (suc t)
          ≡ outcome_of (by_move a (suc t) (typed_state a items t).memory (his t) counter (move_at t mode counter))

    -- a call that is admitted
    pub record Calls (t : ℕ) : Type 0 where
      pub op : Op
      pub item : item_at items t ≡ Call i op
      pub idle : (his t).control ≡ Idle
      pub after : his (suc t) ≡ begun (suc t) (his t) op
      pub outcome_is : outcome r (suc t) ≡ Called

    abbrev pub Case : ℕ → Type 0
    Case t = Stays t ⊎ (Steps t ⊎ Calls t)

    move_case : (t : ℕ) (k : P) (v : Move V P M) → typed_state a items (suc t)
        ≡ changed (typed_state a items t) i (by_move a (suc t) (typed_state a items t).memory (his t) k v) →
        his (suc t) ≡ moved (suc t) (his t) k v
    move_case t k (To d m p k') e = embed.process_next a items t i m _ Stepped one e
    move_case t k (Begin d p k') e = embed.process_next a items t i (typed_state a items t).memory _ Stepped one e
    move_case t k (Answer v) e = embed.process_next a items t i (typed_state a items t).memory _ (Answered v) one e
    move_case t k Finish e = embed.process_next a items t i (typed_state a items t).memory _ Finished one e

    step_case : (t : ℕ) (control : Control P) → t < length items →
        item_at items t ≡ Step i → (his t).control ≡ control →
        typed_state a items (suc t)
        ≡ changed (typed_state a items t) i (by_step a (suc t) (typed_state a items t).memory i (his t) control) →
        outcome r (suc t) ≡ outcome_of (by_step a (suc t) (typed_state a items t).memory i (his t) control) → Case t
    step_case t Idle short is at e out =
        inl (record {
          same = ap (λ (y : TypedState V P M). typed_at a y i) e;
          idle = λ h. at;
          skipped = λ w. (reason.Idle, out);
        })
    step_case t (At d k) short is at e out =
        inr (inl (record {
          mode = d;
          counter = k;
          item = is;
          control = at;
          keeps = (subst (embed.Does a i (typed_state a items t).memory (his t).variables) at (does t i short one)).1;
          after = move_case t k (move_at t d k) e;
          outcome_is = out;
        }))

    admission_case : (t : ℕ) (op : Op) (o : Option Reason) → item_at items t ≡ Call i op → (his t).control ≡ Idle →
        typed_state a items (suc t) ≡ changed (typed_state a items t) i
        (by_admission a (suc t) (typed_state a items t).memory (his t) op o) →
        outcome r (suc t) ≡ outcome_of (by_admission a (suc t) (typed_state a items t).memory (his t) op o) → Case t
    admission_case t op (Some why) is at e out =
        inl (record {
          same = ap (λ (y : TypedState V P M). typed_at a y i) e;
          idle = λ h. at;
          skipped = λ w. (why, out);
        })
    admission_case t op None is at e out =
        inr (inr (record {
          op = op;
          item = is;
          idle = at;
          after = embed.process_next a items t i (typed_state a items t).memory (begun (suc t) (his t) op) Called one e;
          outcome_is = out;
        }))

    call_case : (t : ℕ) (op : Op) (control : Control P) → item_at items t ≡ Call i op → (his t).control ≡ control →
        typed_state a items (suc t) ≡ changed (typed_state a items t) i
        (by_call a (suc t) (typed_state a items t).memory i op (his t) control) →
        outcome r (suc t) ≡ outcome_of (by_call a (suc t) (typed_state a items t).memory i op (his t) control) → Case t
    call_case t op Idle is at e out = admission_case t op (call_skip a.source.kind a.shape i op) is at e out
    call_case t op (At d k) is at e out =
        inl (record {
          same = ap (λ (y : TypedState V P M). typed_at a y i) e;
          idle = λ h. absurd (let f = sym is ∙ h in cc);
          skipped = λ w. (reason.Busy, out);
        })

    outcome_by : (t : ℕ) (y : Item) → t < length items → item_at items t ≡ y →
        outcome r (suc t) ≡ outcome_of (by_item a (suc t) (typed_state a items t) y)
    outcome_by t y short is =
        embed.outcome_is a items fits does t short
        ∙ ap (λ (x : Item). outcome_of (by_item a (suc t) (typed_state a items t) x)) is

    his_case : (t : ℕ) (y : Item) → t < length items → item_at items t ≡ y → who y ≡ i → Case t
    his_case t (Step k) short is w =
        let is2 : item_at items t ≡ Step i = is ∙ ap (λ u. Step u) w in
        step_case t (his t).control short is2 refl (ap (happens a (suc t) (typed_state a items t)) is2)
        (outcome_by t (Step i) short is2)
    his_case t (Call k op) short is w =
        let is2 : item_at items t ≡ Call i op = is ∙ ap (λ u. Call u op) w in
        call_case t op (his t).control is2 refl (ap (happens a (suc t) (typed_state a items t)) is2)
        (outcome_by t (Call i op) short is2)
    his_case t (Crash k) short is w =
        inl (record {
          same = ap (λ (y : TypedState V P M). typed_at a y i) (ap (happens a (suc t) (typed_state a items t)) is);
          idle = λ h. absurd (let f = sym is ∙ h in cc);
          skipped = λ w. (reason.Crashed, outcome_by t (Crash k) short is);
        })

    -- a step at a line, by the line
    pub after_step : (t : ℕ) (d : Mode) (k : P) → item_at items t ≡ Step i → (his t).control ≡ At d k →
        his (suc t) ≡ moved (suc t) (his t) k (move_at t d k)
    after_step t d k is at =
        move_case t k (move_at t d k)
        (ap (happens a (suc t) (typed_state a items t)) is
        ∙ ap (λ (p : Control P).
        changed (typed_state a items t) i (by_step a (suc t) (typed_state a items t).memory i (his t) p)) at)

    pub item_case : (t : ℕ) → t < length items → Case t
    item_case t short =
        elim (cases_eq (who (item_at items t)) i) [
          | inl his_item ↦ his_case t (item_at items t) short refl his_item
          | inr other ↦ (let one_who : IsOneOf a.shape.n (who (item_at items t)) = embed.one_at a items fits t short in
              inl (record {
                same =
                    embed.other_process a (typed_state a items t) (who (item_at items t)) i
                    (by_item a (suc t) (typed_state a items t) (item_at items t)) one_who.0 one.0
                    (λ same. other (sym same));
                idle = λ h. absurd (other (ap who h));
                skipped = λ w. absurd (other w);
              }))
        ]

    -- a call begins its operation
    pub called : (t : ℕ) (op : Op) → t < length items → item_at items t ≡ Call i op → outcome r (suc t) ≡ Called →
        his (suc t) ≡ begun (suc t) (his t) op
    called t op short is out =
        elim (item_case t short) [
          | inl stays ↦ absurd (let e = sym out ∙ (stays.skipped (ap who is)).1 in cc)
          | inr busy_or_called ↦ elim busy_or_called [
            | inl s ↦ absurd (let e = sym is ∙ s.item in cc)
            | inr call ↦ (let same : call.op ≡ op = (let e = sym call.item ∙ is in cc) in
                subst (λ (o : Op). his (suc t) ≡ begun (suc t) (his t) o) same call.after)
          ]
        ]

    -- where nothing happens to a busy process, the item is no step of it
    pub no_step : (t : ℕ) (d : Mode) (k : P) → Stays t → (his t).control ≡ At d k → steps i (item_at items t) ≡ false
    no_step t d k stays at = unstepped (item_at items t) refl
      where
        unstepped : (y : Item) → item_at items t ≡ y → steps i y ≡ false
        unstepped (Step j) is =
            elim (cases_eq j i) [
              | inl same ↦ absurd (let e = sym (stays.idle (is ∙ ap (λ u. Step u) same)) ∙ at in cc)
              | inr other ↦ other_number j i other
            ]
        unstepped (Call j op) is = refl
        unstepped (Crash j) is = refl

    -- where an item of a busy process is not skipped, it is a step at its line
    pub busy_step : (t : ℕ) (d : Mode) (k : P) → t < length items → (his t).control ≡ At d k →
        who (item_at items t) ≡ i → ((why : Reason) → outcome r (suc t) ≡ Skipped why → ⊥) →
        (item_at items t ≡ Step i)
        × (outcome r (suc t) ≡ outcome_of (by_move a (suc t) (typed_state a items t).memory (his t) k (move_at t d k)))
    busy_step t d k short at w happens =
        elim (item_case t short) [
          | inl stays ↦ absurd (happens (stays.skipped w).0 (stays.skipped w).1)
          | inr busy_or_called ↦ elim busy_or_called [
            | inl s ↦ (
              s.item,
              subst (λ (p : Control P). outcome r (suc t)
                  ≡ outcome_of (by_step a (suc t) (typed_state a items t).memory i (his t) p)) (sym s.control ∙ at)
                  s.outcome_is,
            )
            | inr call ↦ absurd (let e = sym call.idle ∙ at in cc)
          ]
        ]
