-- The invariant of an audit that goes through the events of a run (`Sweeps`): what it keeps of each process, and the
-- verdicts up to then.
use Rattle.std.proofs.Common.{◌≡◌, ℕ, suc, ◌+◌, ◌-◌, ◌<◌, ◌≤◌, List, [], ◌∷◌, ◌++◌, length, map}
use Rattle.std.proofs.Common.{drop, get_or, replicate, slice_index, slice_set, refl, sym, ap, subst, ◌∙◌}
use Rattle.std.proofs.Common.{append_assoc, arith, inl, inr}
use Rattle.std.proofs.lemmas.Bool.{cases_eq}
use Rattle.std.proofs.lemmas.Grind.{get_or-set_at}
use Rattle.std.proofs.lemmas.List.{get_or-map, get_or-set_other, length-set}
use Rattle.std.proofs.lemmas.List.{length-replicate, get_or-replicate, map-set}
use Rattle.std.specs.List.{AllByRecursion}
use Rattle.snap_words.specs.Shape.{IsOneOf}
use Rattle.snap_semantics.specs.declared.event.Event.{Event}
use Rattle.snap_semantics.specs.declared.event.Happening.{Happening}
use Rattle.snap_semantics.specs.declared.event.Happening.TheVariants.{Call, Answer}
use Rattle.snap_semantics.specs.declared.process.Op.{Op}
use Rattle.snap_runs.specs.Audit.{audit, verdict_of}
use Rattle.snap_runs.specs.Run.{Run, IsValidRun, events_of}
use Rattle.snap_runs.specs.Scan.{double_collects, ends_double_collect}
use Rattle.snap_runs.specs.declared.verdict.Verdict.{Verdict}
use Rattle.snap_runs.proofs.Embedding.{map_same}
use Rattle.snap_record.specs.History.{LeadsAlong, collects_at, values_by}
use Rattle.snap_record.specs.declared.history.Change.{Change}
use Rattle.snap_record.proofs.Counts.{count_split}
use Rattle.snap_record.proofs.Events.{all_events, all_within_run, rising_run}
use Rattle.snap_audit.specs.Sweep.{verdicts_at, calls_after, by_events, least_by, fresh, IsCaller, Sweeps}
use Rattle.snap_audit.specs.declared.caller.Caller.{Caller}
use Rattle.snap_audit.proofs.Points.{least_is}
use Rattle.snap_audit.proofs.Events.{audit_by_events}

-- the last calls
abbrev pub calls_of : List Caller → List ℕ
calls_of cs = map (λ (c : Caller). c.call) cs

-- no event is before the first item
all_past : (es : List Event) → AllByRecursion (λ (e : Event). 0 ≤ e.item) es
all_past [] = tt
all_past (e ∷ es) = (omega arith, all_past es)

-- at the start all events are left
pub started : (r : Run) (xs : List Change) (cs : List Caller) (es : List Event) → IsValidRun r → LeadsAlong r xs →
    cs ≡ replicate r.shape.n (fresh r.shape.w) → es ≡ events_of r (length r.items) → Sweeps r xs cs [] es
started r xs cs es fits leads new all = rw new (record {
  goes_on =
      ap (λ calls. by_events r calls es) (map_same (λ (c : Caller). c.call) r.shape.n (fresh r.shape.w))
      ∙ ap (by_events r (replicate r.shape.n 0)) all ∙ audit_by_events r fits;
  count = length-replicate r.shape.n (fresh r.shape.w);
  each = λ i one d.
      let here : IsCaller r xs es i (fresh r.shape.w) =
      record { follows = λ u le top. leads u top; past = all_past es; collects_are = refl } in
      rw (get_or-replicate r.shape.n (i - 1) (fresh r.shape.w) d (omega arith)) here;
  within = rw (all, all_events) (all_within_run r fits);
  rises = rw (all, all_events) (rising_run r);
})

-- the double collects at it
pub collects_left : (r : Run) (es : List Event) (ks : List ℕ) (k d : ℕ) (e : Event) → ks ≡ map (collects_at r) es →
    k < length es → e ≡ get_or es k e → get_or ks k d ≡ collects_at r e
collects_left r es ks k d e are lt is =
    ap (λ l. get_or l k d) are ∙ get_or-map (collects_at r) es k e d lt ∙ ap (collects_at r) (sym is)

module _ (r : Run) (xs : List Change) (cs : List Caller) (found : List Verdict) (e : Event) (left : List Event)
    (h : Sweeps r xs cs found (e ∷ left)) where
  -- the process of the event
  pub its_process : IsOneOf (length cs) e.process
  its_process = rw h.count h.within.0.0

  -- what is kept of it
  its_caller : (d : Caller) → IsCaller r xs (e ∷ left) e.process (get_or cs (e.process - 1) d)
  its_caller d = h.each e.process h.within.0.0 d

  -- the last call of the process is not after the event
  pub its_order : (d : Caller) → (get_or cs (e.process - 1) d).call ≤ e.item
  its_order d = (its_caller d).past.0

  -- the item of the event is one of the run's
  pub its_item : e.item ≤ length r.items
  its_item = h.within.0.1

  -- the double collects since
  since : (d : Caller) → double_collects r e.process 0 e.item
      ≡ double_collects r e.process 0 (get_or cs (e.process - 1) d).call
      + double_collects r e.process (get_or cs (e.process - 1) d).call e.item
  since d = count_split (ends_double_collect r e.process) (get_or cs (e.process - 1) d).call e.item (its_order d)

  -- no fewer double collects than at the last call
  pub its_collects : (k : ℕ) → k ≡ collects_at r e → (d : Caller) → (get_or cs (e.process - 1) d).collects ≤ k
  its_collects k is d = let all = since d in let before = (its_caller d).collects_are in omega arith

  -- what is kept of a process that the event leaves
  passed : (i : ℕ) (c : Caller) → IsCaller r xs (e ∷ left) i c → IsCaller r xs left i c
  passed i c k = record { follows = k.follows; past = k.past.1; collects_are = k.collects_are }

  -- what is found, with the event's own verdict
  remaining : (w : Happening) → e.what ≡ w →
      found ++ (verdicts_at r e.process (slice_index (calls_of cs) (e.process - 1)) e.item w
      ++ by_events r (calls_after (calls_of cs) e.process e.item w) left) ≡ audit r
  remaining w is = rw is at h.goes_on

  -- the item of the last call
  call_there : (d : Caller) → slice_index (calls_of cs) (e.process - 1) ≡ (get_or cs (e.process - 1) d).call
  call_there d = let one = its_process in get_or-map (λ (c : Caller). c.call) cs (e.process - 1) d 0 (omega arith)

  -- an answer
  pub answer_swept : (view : List ℕ) (v : Verdict) (k : ℕ) (d : Caller) → e.what ≡ Answer view → k ≡ collects_at r e →
      (let c = get_or cs (e.process - 1) d in
      v ≡ record {
        process = e.process;
        call = c.call;
        answer = e.item;
        point = least_by c.values (drop c.next xs) view c.call (suc (e.item - c.call));
        collects = k - c.collects;
      }) →
      Sweeps r xs cs (found ++ v ∷ []) left
  answer_swept view v k d is counted given =
      let c = get_or cs (e.process - 1) d in
      let mine = its_caller d in
      let order = its_order d in
      let last = its_item in
      let point = least_is r c.values (drop c.next xs) view c.call (suc (e.item - c.call))
      (λ u low high. mine.follows u low (omega arith)) in
      let collects : k - c.collects ≡ double_collects r e.process c.call e.item =
      (let all = since d in let before = mine.collects_are in omega arith) in
      let same : v ≡ verdict_of r e.process c.call e.item view = rw (point, collects) at given in
      record {
        goes_on =
            append_assoc found (v ∷ []) (by_events r (calls_of cs) left)
            ∙ ap (λ w. found ++ (w ∷ by_events r (calls_of cs) left))
            (same ∙ ap (λ t. verdict_of r e.process t e.item view) (sym (call_there d)))
            ∙ remaining (Answer view) is;
        count = h.count;
        each = λ i one b. passed i (get_or cs (i - 1) b) (h.each i one b);
        within = h.within.1;
        rises = h.rises.1;
      }

  -- once a process is called, what is kept of each
  set_caller : (c : Caller) (i : ℕ) (d : Caller) → IsOneOf r.shape.n i → IsCaller r xs left e.process c →
      IsCaller r xs left i (get_or (slice_set cs (e.process - 1) c) (i - 1) d)
  set_caller c i d one now =
      let there = its_process in
      elim (cases_eq e.process i) [
        | inl same ↦
            rw (get_or-set_at cs (e.process - 1) (i - 1) c d (omega arith) (omega arith))
            (subst (λ j. IsCaller r xs left j c) same now)
        | inr differ ↦
            rw (get_or-set_other cs (e.process - 1) (i - 1) c d (λ same. differ (omega arith)))
            (passed i (get_or cs (i - 1) d) (h.each i one d))
      ]

  -- a call
  pub call_swept : (op : Op) (c : Caller) (k : ℕ) (d : Caller) → e.what ≡ Call op → k ≡ collects_at r e →
      c.call ≡ e.item → c.collects ≡ k → ((u : ℕ) → e.item ≤ u → values_by c.values (drop c.next xs) u
      ≡ values_by (get_or cs (e.process - 1) d).values (drop (get_or cs (e.process - 1) d).next xs) u) →
      Sweeps r xs (slice_set cs (e.process - 1) c) found left
  call_swept op c k d is counted call collects later =
      let mine = its_caller d in
      let order = its_order d in
      let now : IsCaller r xs left e.process c = record {
        follows = λ u low top. mine.follows u (omega arith) top ∙ sym (later u (omega arith));
        past = rw call h.rises.0;
        collects_are = collects ∙ counted ∙ ap (double_collects r e.process 0) (sym call);
      } in
      record {
        goes_on =
            ap (λ calls. found ++ by_events r calls left) (map-set (λ (x : Caller). x.call) cs (e.process - 1) c
            ∙ ap (slice_set (calls_of cs) (e.process - 1)) call)
            ∙ remaining (Call op) is;
        count = length-set cs (e.process - 1) c ∙ h.count;
        each = λ i one b. set_caller c i b one now;
        within = h.within.1;
        rises = h.rises.1;
      }
