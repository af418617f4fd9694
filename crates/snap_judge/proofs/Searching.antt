-- What a search keeps of its nodes.
use Rattle.std.proofs.Common.{◌≡◌, ℕ, zero, suc, ◌<◌, ◌≤◌, ◌⊎◌, inl, inr, List, [], ◌∷◌, ◌++◌, length, get_or}
use Rattle.std.proofs.Common.{refl, sym, ◌∙◌, ap, subst, arith, map, take, drop, true, false, Bool}
use Rattle.std.specs.Prelude.{replicate}
use Rattle.std.specs.List.{All}
use Rattle.std.specs.HashSet.{HashSet, PutsKey}
use Rattle.std.proofs.lemmas.Bool.{cases_lt}
use Rattle.std.proofs.lemmas.List.{length-append, length-map, get_or_append_left, take-take, take_all, drop_all}
use Rattle.std.proofs.lemmas.List.{length-replicate}
use Rattle.std.proofs.Math.Seq.{get_or-append_seam}
use Rattle.std.proofs.lemmas.List.Sorted.{All-permutation}
use Rattle.std.proofs.lemmas.List.Elements.{All-cons, All-contains, All-push}
use Rattle.std.proofs.lemmas.List.Quantifiers.{all_pairs_push}
use Rattle.snap_judge.specs.declared.config.Step.{Step as KeptStep}
use Rattle.snap_judge.specs.declared.config.Step.TheVariants as kept_step
use Rattle.snap_judge.specs.declared.config.Slot.{Slot as KeptSlot}
use Rattle.snap_judge.specs.declared.config.Slot.TheVariants as kept_slot
use Rattle.snap_judge.specs.declared.config.Config.{Config}
use Rattle.snap_judge.specs.declared.config.Node.{Node}
use Rattle.snap_judge.specs.declared.config.Entered.{Entered}
use Rattle.snap_judge.specs.Steps.{Step, Slot, Free, CanBeExplained, Explains, Move, taken}
use Rattle.snap_judge.specs.Kept.{Can, GoesOn, IsConfig, IsReached, IsSettled, IsStuck, KeepsCounts, MayNotPass}
use Rattle.snap_judge.specs.Kept.{first, seen_as}
use Rattle.snap_judge.specs.Kept.{called_at, operation_of, rest_of, slot_of, slots_of, step_of_kept, steps_kept}
use Rattle.snap_judge.specs.Nodes.{AreNodes, FailsBehind, HasCounts, HasSame, HasTried, IsEntered, IsNode, IsTried, NothingExplains, OnlyNodesLeft}
use Rattle.snap_judge.proofs.ExplainedLists.{replicated}
use Rattle.snap_judge.proofs.SearchPass.{never_called}
use Rattle.snap_judge.proofs.Leading.{explains_led, same_parts}
use Rattle.snap_judge.proofs.Passing.{rest_at}
use Rattle.snap_judge.proofs.Goes.{kept_not_free, same_goes, same_turned}

one_longer : (front : List Node) (node : Node) → length (front ++ node ∷ []) ≡ suc (length front)
one_longer front node = omega (arith, length-append front (node ∷ []))

-- What is known behind a node is so whatever nodes come after it.
fails_same : (n w : ℕ) (steps : List KeptStep) (d : Node) (front more : List Node) (t : ℕ) → t ≤ length front →
    FailsBehind n w steps d (front ++ more) t ≡ FailsBehind n w steps d front t
fails_same n w steps d front more zero le = refl
fails_same n w steps d front more (suc t) le =
    ap (IsTried steps) (get_or_append_left front more d t (omega (arith, le)))

-- behind the last one it is what that one has tried
pub fails_last : (n w : ℕ) (steps : List KeptStep) (d : Node) (front : List Node) (node : Node) →
    FailsBehind n w steps d (front ++ node ∷ []) (length (front ++ node ∷ [])) ≡ IsTried steps node
fails_last n w steps d front node =
    ap (FailsBehind n w steps d (front ++ node ∷ [])) (one_longer front node)
    ∙ ap (IsTried steps) (get_or-append_seam front node [] d)

-- what holds of all nodes holds of the last one, where there is a node at all
left_of : (n w : ℕ) (steps : List KeptStep) (nodes : List Node) → Node →
    ((d : Node) → FailsBehind n w steps d nodes (length nodes)) → OnlyNodesLeft n w steps nodes
left_of n w steps nodes node behind =
    (λ none. subst (λ (l : List Node). FailsBehind n w steps node l (length l)) none (behind node), behind)

-- what holds of all nodes, of those before the last one and of that one
pub all_front : (P : Node → Type 0) (front : List Node) (node : Node) → All P (front ++ node ∷ []) →
    All P front × P node
all_front P front node all = (
  λ k d lt. subst P (get_or_append_left front (node ∷ []) d k lt)
      (all k d (let len = one_longer front node in omega (arith, lt, len))),
  subst P (get_or-append_seam front node [] node)
      (all (length front) node (let len = one_longer front node in omega (arith, len))),
)

-- The nodes before the last one.
module _ {n w : ℕ} {steps : List KeptStep} {order : List ℕ} (front : List Node) (node : Node)
    (are : AreNodes n w steps order (front ++ node ∷ [])) where
  before : (k : ℕ) → k < length front → k < length (front ++ node ∷ [])
  before k lt = let len = one_longer front node in omega (arith, lt, len)

  at_end : length front < length (front ++ node ∷ [])
  at_end = let len = one_longer front node in omega (arith, len)

  depth_before : (k : ℕ) (d : Node) → k < length front →
      (get_or (front ++ node ∷ []) k d).depth ≡ (get_or front k d).depth
  depth_before k d lt = ap (λ (x : Node). x.depth) (get_or_append_left front (node ∷ []) d k lt)

  pub are_front : AreNodes n w steps order front
  are_front = record {
    each = (all_front (IsNode n w steps order) front node are.each).0;
    rising = λ s t d le lt.
        (let below : s < length front = omega (arith, le, lt) in
        let up = are.rising s t d le (before t lt) in
        let one = depth_before s d below in
        let other = depth_before t d lt in
        omega (arith, up, one, other));
    behind = λ t d lt fails. rw (fails_same n w steps d front (node ∷ []) t (omega (arith, lt)))
        at (are.behind t d (before t lt) (rw (get_or_append_left front (node ∷ []) d t lt) fails));
  }

  pub last_is : IsNode n w steps order node
  last_is = (all_front (IsNode n w steps order) front node are.each).1

  pub below_last : (k : ℕ) (d : Node) → k < length front → (get_or front k d).depth < node.depth
  below_last k d lt =
      let up = are.rising k (length front) d lt at_end in
      let one = depth_before k d lt in
      let last : (get_or (front ++ node ∷ []) (length front) d).depth ≡ node.depth =
      ap (λ (x : Node). x.depth) (get_or-append_seam front node [] d) in
      omega (arith, up, one, last)

  pub behind_last : (Can steps node.config → ⊥) → OnlyNodesLeft n w steps front
  behind_last fails = left_of n w steps front node (λ d.
      rw (fails_same n w steps d front (node ∷ []) (length front) (omega arith))
      at (are.behind (length front) d at_end (rw (get_or-append_seam front node [] d) fails)))

-- One more node, that is at least as deep.
pub one_more : {n w : ℕ} {steps : List KeptStep} {order : List ℕ} (front : List Node) (node : Node) →
    AreNodes n w steps order front → IsNode n w steps order node →
    ((k : ℕ) (d : Node) → k < length front → (get_or front k d).depth < node.depth) →
    ((Can steps node.config → ⊥) → (d : Node) → FailsBehind n w steps d front (length front)) →
    AreNodes n w steps order (front ++ node ∷ [])
one_more {n} {w} {steps} {order} front node are is deeper behind = record {
  each = All-push (IsNode n w steps order) front node are.each is;
  rising = all_pairs_push (λ (a b : Node). a.depth < b.depth) front node are.rising deeper;
  behind = λ t d lt fails. behind_by t d lt fails (cases_lt t (length front));
}
  where
    behind_by : (t : ℕ) (d : Node) → t < length (front ++ node ∷ []) →
        (Can steps (get_or (front ++ node ∷ []) t d).config → ⊥) → (t < length front) ⊎ (length front ≤ t) →
        FailsBehind n w steps d (front ++ node ∷ []) t
    behind_by t d lt fails (inl below) =
        rw (fails_same n w steps d front (node ∷ []) t (omega (arith, below)))
        (are.behind t d below (rw (get_or_append_left front (node ∷ []) d t below) at fails))
    behind_by t d lt fails (inr past) =
        let len = one_longer front node in
        let same : t ≡ length front = omega (arith, lt, past, len) in
        let here : get_or (front ++ node ∷ []) t d ≡ node =
        ap (λ (k : ℕ). get_or (front ++ node ∷ []) k d) same ∙ get_or-append_seam front node [] d in
        rw (same, fails_same n w steps d front (node ∷ []) (length front) (omega arith))
        (behind (rw here at fails) d)

-- No node.
pub no_nodes : {n w : ℕ} {steps : List KeptStep} {order : List ℕ} → AreNodes n w steps order []
no_nodes = record {
  each = λ k d lt. absurd (omega (arith, lt));
  rising = λ s t d le lt. absurd (omega (arith, lt));
  behind = λ t d lt fails. absurd (omega (arith, lt));
}

-- The order has been cut where the nodes do not reach, and has grown.
other_order : {n w : ℕ} {steps : List KeptStep} {order : List ℕ} (order' : List ℕ) (D : ℕ) (nodes : List Node) →
    AreNodes n w steps order nodes → take D order' ≡ take D order → D ≤ length order' →
    ((k : ℕ) (d : Node) → k < length nodes → (get_or nodes k d).depth ≤ D) → AreNodes n w steps order' nodes
other_order {n} {w} {steps} {order} order' D nodes are same deep within = record {
  each = λ k d lt. each (get_or nodes k d) (within k d lt) (are.each k d lt);
  rising = are.rising;
  behind = are.behind;
}
  where
    prefix : (k : ℕ) → k ≤ D → take k order' ≡ take k order
    prefix k le = sym (take-take k D order' le) ∙ ap (take k) same ∙ take-take k D order le

    each : (node : Node) → node.depth ≤ D → IsNode n w steps order node → IsNode n w steps order' node
    each node le is = record {
      counts = is.counts;
      config = is.config;
      settled = is.settled;
      stuck = is.stuck;
      ending = is.ending;
      next = is.next;
      depth = omega (arith, le, deep);
      reached = rw (prefix node.depth le) is.reached;
    }

-- The last node has tried what was next.
module _ {n w : ℕ} {steps : List KeptStep} {order order' : List ℕ} {node node' : Node} {e : Entered}
    (front : List Node) (are : AreNodes n w steps order (front ++ node ∷ []))
    (has : HasTried steps node node' order order' e) where
  counts : HasCounts n w node.config
  counts = (last_is front node are).counts

  pub retried : AreNodes n w steps order' (front ++ node' ∷ [])
  retried =
      one_more front node'
      (other_order order' node.depth front (are_front front node are) has.prefix
      (let deep = has.deep in omega (arith, deep))
      (λ k d lt. let below = below_last front node are k d lt in omega (arith, below)))
      (rw (counts.0, counts.1) at has.is_node)
      (λ k d lt. let below = below_last front node are k d lt in
      let same = has.depth in omega (arith, below, same))
      (λ fails. (behind_last front node are (rw has.config at fails)).1)

  -- what it has come to is deeper than each node
  pub retried_deeper : All (λ (x : Node). x.depth < length order') (front ++ node' ∷ [])
  retried_deeper =
      let deep = has.deep in let depth = has.depth in
      All-push (λ (x : Node). x.depth < length order') front node'
      (λ k d lt. let below = below_last front node are k d lt in omega (arith, below, deep))
      (omega (arith, deep, depth))

  pub retried_entered : IsEntered n w steps order' e
  retried_entered = rw (counts.0, counts.1) at has.entered

  pub retried_left : (Can steps e.config → ⊥) → OnlyNodesLeft n w steps (front ++ node' ∷ [])
  retried_left fails =
      left_of n w steps (front ++ node' ∷ []) node' (λ d. rw (fails_last n w steps d front node') (has.tried fails))

-- One more key, of which the same holds.
pub put_key : {K S : Type 0} (P : K → Type 0) (s s' : HashSet K S) (k : K) (added : Bool) → PutsKey s s' k added →
    All P s.keys → P k → All P s'.keys
put_key P s s' k true puts all p = All-permutation P (k ∷ s.keys) s'.keys puts (All-cons P k s.keys p all)
put_key P s s' k false puts all p = subst (All P) (sym puts) all

-- Before a step that may not pass, and is no end, nothing explains the rest.
pub no_end : (steps : List KeptStep) (c : Config) → IsStuck steps c →
    ((i : ℕ) → get_or steps c.position kept_step.Waits ≡ kept_step.Ends i → ⊥) → Can steps c → ⊥
no_end steps c stuck none can = by_step (get_or steps c.position kept_step.Waits) refl
  where
    by_step : (x : KeptStep) → get_or steps c.position kept_step.Waits ≡ x → ⊥
    by_step (kept_step.Calls o) is =
        never_called can.0 (operation_of o) (drop (suc c.position) (steps_kept steps)) c.values.items (slots_of steps c)
        (rw is at stuck.1) (rw (rest_at steps c stuck.0, is) at can.1)
    by_step (kept_step.Ends i) is = none i is
    by_step kept_step.Waits is = rw is at stuck.1

-- What the search has come to becomes a node that has tried nothing.
pub entered_nodes : {n w : ℕ} {steps : List KeptStep} {order : List ℕ} {e : Entered} (front : List Node)
    (depth ending : ℕ) → AreNodes n w steps order front → IsEntered n w steps order e → e.at_end ≡ false →
    ((k : ℕ) (d : Node) → k < length front → (get_or front k d).depth < length order) → depth ≡ length order →
    get_or steps e.config.position kept_step.Waits ≡ kept_step.Ends (suc ending) →
    ((Can steps e.config → ⊥) → OnlyNodesLeft n w steps front) →
    AreNodes n w steps order
    (front ++ record { config = e.config; depth = depth; begun = false; next = 0; ending = ending } ∷ [])
entered_nodes {order = order} front depth ending are entered shut deeper whole ends left =
    one_more front _ are
    (record {
      counts = entered.counts;
      config = entered.config;
      settled = entered.settled;
      stuck = entered.stuck shut;
      ending = ends;
      next = omega arith;
      depth = omega (arith, whole);
      reached = rw (take_all depth order (omega (arith, whole))) entered.reached;
    })
    (λ k d lt. let below = deeper k d lt in omega (arith, below, whole)) (λ fails. (left fails).1)

-- Without nodes, nothing explains the history.
pub without_nodes : (n w n' w' : ℕ) (steps : List KeptStep) (nodes : List Node) → n' ≡ n → w' ≡ w →
    OnlyNodesLeft n' w' steps nodes → nodes ≡ [] → NothingExplains n w steps
without_nodes n w n' w' steps nodes count width left none = rw (count, width) at (left.0 none)

-- At the beginning nothing is open.
all_free : (steps : List KeptStep) (n : ℕ) → map (slot_of steps) (replicate n kept_slot.Free) ≡ replicate n Free
all_free steps zero = refl
all_free steps (suc n) = ap (λ (l : List Slot). Free ∷ l) (all_free steps n)

module _ (n w : ℕ) (steps : List KeptStep) (c : Config) (position : c.position ≡ 0)
    (values : c.values.items ≡ replicate w 0) (slots : c.slots.items ≡ replicate n kept_slot.Free) where
  pub first_config : IsConfig steps c
  first_config = record {
    within = omega (arith, position);
    placed = λ p j is. absurd (kept_not_free _ j is (free p));
    tells = λ p j h. absurd (rw (free p) at h);
  }
    where
      free : (p : ℕ) → get_or c.slots.items p kept_slot.Free ≡ kept_slot.Free
      free p = ap (λ (l : List KeptSlot). get_or l p kept_slot.Free) slots ∙ replicated kept_slot.Free n p

  first_slots : slots_of steps c ≡ replicate n Free
  first_slots = ap (map (slot_of steps)) slots ∙ all_free steps n

  first_rest : rest_of steps c ≡ steps_kept steps
  first_rest = ap (λ (m : ℕ). drop m (steps_kept steps)) position

  first_width : length c.values.items ≡ w
  first_width = ap length values ∙ length-replicate w 0

  first_count : length c.slots.items ≡ n
  first_count = ap length slots ∙ length-replicate n kept_slot.Free

  first_reached : IsReached steps [] c
  first_reached = (
    [],
    same_parts (first (length c.slots.items) (length c.values.items) steps) (seen_as steps c) (sym first_rest)
        (ap (λ (m : ℕ). replicate m 0) first_width ∙ sym values)
        (ap (λ (m : ℕ). replicate m Free) first_count ∙ sym first_slots),
    refl,
  )

  first_can : CanBeExplained (steps_kept steps) (replicate w 0) (replicate n Free) → Can steps c
  first_can can = rw (first_rest, values, first_slots) can

  module _ (c' : Config) (order : List ℕ) (goes : GoesOn steps [] c order c') where
    pub started : (at_end : Bool) → KeepsCounts c c' → IsSettled steps c' →
        (at_end ≡ true → c'.position ≡ length steps) → (at_end ≡ false → IsStuck steps c') →
        IsEntered n w steps order (record { config = c'; at_end = at_end })
    started ended kept settled end stuck = record {
      counts = (kept.slots ∙ first_count, kept.values ∙ first_width);
      config = goes.config first_config;
      settled = settled;
      reached = goes.reached first_config first_reached;
      at_end = end;
      stuck = stuck;
    }

    pub started_fails : (Can steps c' → ⊥) → NothingExplains n w steps
    started_fails fails can = fails (goes.explained first_config (first_can can))

-- At the end, the order explains the history.
pub explains_all : (n w n' w' : ℕ) (steps : List KeptStep) (order : List ℕ) (e : Entered) → n' ≡ n → w' ≡ w →
    IsEntered n' w' steps order e → e.at_end ≡ true →
    (moves : List Move) × Explains moves (steps_kept steps) (replicate w 0) (replicate n Free)
    × (taken moves ≡ map (called_at steps) order)
explains_all n w n' w' steps order e count width entered end = (
  entered.reached.0,
  rw (entered.counts.1, width, entered.counts.0, count)
      at (explains_led entered.reached.0
      (first (length e.config.slots.items) (length e.config.values.items) steps) (seen_as steps e.config)
      entered.reached.1 nothing_left),
  entered.reached.2,
)
  where
    nothing_left : rest_of steps e.config ≡ []
    nothing_left =
        drop_all e.config.position (steps_kept steps)
        (let len = length-map steps step_of_kept in let at = entered.at_end end in omega (arith, len, at))

-- among no configurations there is no same one
pub none_same : (failed : List Config) (c : Config) → length failed ≡ 0 → HasSame failed c → ⊥
none_same failed c none has = let lt = has.1.1 in omega (arith, none, lt)

-- from what is the same as what has failed nothing explains the rest
pub same_fails : (steps : List KeptStep) (configs : List Config) (c : Config) →
    All (λ (x : Config). Can steps x → ⊥) configs → HasSame configs c → IsConfig steps c → Can steps c → ⊥
same_fails steps configs c all has is can =
    All-contains (λ (x : Config). Can steps x → ⊥) configs has.0 all has.1
    ((same_goes steps [] c has.0 (same_turned has.0 c has.2)).explained is can)
