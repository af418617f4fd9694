-- The configurations that a search keeps are different ones.
use Rattle.std.proofs.Common.{◌≡◌, ℕ, suc, ◌+◌, ◌<◌, ◌≤◌, ◌⊎◌, inl, inr, List, [], ◌∷◌, ◌++◌, length, get_or}
use Rattle.std.proofs.Common.{refl, sym, ◌∙◌, ap, subst, arith, map, drop, take, true, false, Bool, not}
use Rattle.std.specs.List.{All, AllByRecursion, AllPairs, Contains, IsDistinct, list_any}
use Rattle.std.specs.Bool.{Decides}
use Rattle.std.proofs.lemmas.Bool.Decides.{Decides-and, Decides-eqb, Decides-like, Decides-or}
use Rattle.std.proofs.lemmas.Slice.Eq.{bytes_eq-Decides, slice_eq-Decides}
use Rattle.std.proofs.lemmas.List.{ext_get_or, length-append, length-drop, length-map, length-take-le}
use Rattle.std.specs.List.Sorted.{IsPermutation}
use Rattle.std.specs.HashSet.{HashSet, PutsKey}
use Rattle.std.proofs.lemmas.List.Sorted.{Contains-permutation, IsPermutation-sym}
use Rattle.snap_judge.proofs.Leading.{same_parts}
use Rattle.std.proofs.lemmas.List.Elements.{All-append, All-cons, All-contains, All-contains_itself}
use Rattle.std.proofs.lemmas.List.Elements.{All-head, All-map, All-tail, All-weaker}
use Rattle.std.proofs.lemmas.List.Kept.{AllPairs-cons}
use Rattle.snap_judge.specs.declared.config.Step.{Step as KeptStep}
use Rattle.snap_judge.specs.declared.config.Step.TheVariants as kept_step
use Rattle.snap_judge.specs.declared.config.Slot.{Slot as KeptSlot}
use Rattle.snap_judge.specs.declared.config.Slot.TheVariants as kept_slot
use Rattle.snap_judge.specs.declared.config.Config.{Config}
use Rattle.snap_judge.specs.declared.config.Node.{Node}
use Rattle.snap_judge.specs.contracts.config.ConfigPartialEq.TheImpl as config_eq
use Rattle.snap_judge.specs.contracts.config.SlotPartialEq.TheImpl as slot_eq
use Rattle.snap_runs.specs.Operation.{Operation}
use Rattle.snap_judge.specs.Steps.{Step, Calls, Ends, Waits, Slot, Free, MayPass}
use Rattle.snap_judge.specs.Configurations.{Configuration, HasToChoose, IsMetFrom, MeetsMoreThan}
use Rattle.snap_judge.specs.Kept.{AreNumbered, AreSteps, called_at, called_by, first, IsCallOf, IsConfig, IsSameConfig}
use Rattle.snap_judge.specs.Kept.{IsStuck, MayNotPass, operation_of, seen_as, slot_of, slots_of, step_of_kept, steps_kept, TellsOf, rest_of}
use Rattle.snap_judge.specs.Nodes.{AreNodes, HasSame, IsAt, IsMet, IsNode, IsTrail, kept_by}
use Rattle.snap_judge.specs.declared.config.Entered.{Entered}
use Rattle.snap_judge.specs.declared.search.Trail.{Trail}
use Rattle.snap_judge.proofs.SearchSlots.{one_open, one_taken, open_not_free, open_not_taken, taken_not_free}
use Rattle.snap_judge.proofs.ExplainedLists.{contains_cases, contains_head, contains_none, contains_tail, pairs_head, pairs_tail}
use Rattle.snap_judge.proofs.Counting.{led_from, same_length}
use Rattle.snap_judge.proofs.Passing.{rest_at}
use Rattle.snap_judge.proofs.Searching.{are_front, below_last, last_is}
use Rattle.snap_judge.proofs.Goes.{slot_at}

-- What `==` says of slots and of configurations.
slot_decides : (s s' : KeptSlot) → Decides ((slot_eq.ghosts).eq s s') (s ≡ s')
slot_decides kept_slot.Free kept_slot.Free = (λ e. refl, λ e. refl)
slot_decides kept_slot.Free (kept_slot.Open k) = (λ e. absurd cc, λ e. absurd cc)
slot_decides kept_slot.Free (kept_slot.Taken k) = (λ e. absurd cc, λ e. absurd cc)
slot_decides (kept_slot.Open j) kept_slot.Free = (λ e. absurd cc, λ e. absurd cc)
slot_decides (kept_slot.Open j) (kept_slot.Open k) =
    Decides-like _ (ap kept_slot.Open) (λ e. let same : j ≡ k = cc in same) (Decides-eqb j k)
slot_decides (kept_slot.Open j) (kept_slot.Taken k) = (λ e. absurd cc, λ e. absurd cc)
slot_decides (kept_slot.Taken j) kept_slot.Free = (λ e. absurd cc, λ e. absurd cc)
slot_decides (kept_slot.Taken j) (kept_slot.Open k) = (λ e. absurd cc, λ e. absurd cc)
slot_decides (kept_slot.Taken j) (kept_slot.Taken k) =
    Decides-like _ (ap kept_slot.Taken) (λ e. let same : j ≡ k = cc in same) (Decides-eqb j k)

pub config_decides : (c c' : Config) → Decides ((config_eq.ghosts).eq c c') (IsSameConfig c' c)
config_decides c c' =
    Decides-like _ (λ e. record { position = e.0; values = e.1.0; slots = e.1.1 })
    (λ same. (same.position, (same.values, same.slots)))
    (Decides-and _ _ (Decides-eqb c.position c'.position)
    (Decides-and _ _ (bytes_eq-Decides c.values.items c'.values.items)
    (slice_eq-Decides slot_decides c.slots.items c'.slots.items _ refl)))

-- what a set says of whether it has the same one
pub same_decides : (ks : List Config) (k : Config) → Decides (list_any ((config_eq.ghosts).eq k) ks) (HasSame ks k)
same_decides [] k = (λ e. absurd (let no : ⊥ = cc in no), λ h. absurd (contains_none h.0 h.1))
same_decides (x ∷ xs) k = Decides-like _ to from (Decides-or _ _ (config_decides k x) (same_decides xs k))
  where
    to : IsSameConfig x k ⊎ HasSame xs k → HasSame (x ∷ xs) k
    to (inl same) = (x, contains_head x xs, same)
    to (inr has) = (has.0, contains_tail x has.0 xs has.1, has.2)

    from : HasSame (x ∷ xs) k → IsSameConfig x k ⊎ HasSame xs k
    from has = elim (contains_cases x has.0 xs has.1) [
      | inl here ↦ inl (rw here has.2)
      | inr there ↦ inr (has.0, there, has.2)
    ]

-- Configurations that are seen as the same one are the same.
module _ (steps : List KeptStep) (numbered : AreNumbered steps) where
  number_at : (j p : ℕ) (call : IsCallOf steps j p) → (called_at steps j).call ≡ (call.0).call
  number_at j p call =
      let same : called_at steps j ≡ operation_of call.0 = ap (λ (x : KeptStep). called_by (step_of_kept x)) call.1 in
      ap (λ (o : Operation). o.call) same

  same_call : (j k p q : ℕ) → IsCallOf steps j p → IsCallOf steps k q → called_at steps j ≡ called_at steps k → j ≡ k
  same_call j k p q call call' same =
      numbered j k call.0 call'.0 call.1 call'.1
      (sym (number_at j p call) ∙ ap (λ (o : Operation). o.call) same ∙ number_at k q call')

  same_slot : (p : ℕ) (s s' : KeptSlot) → ((j : ℕ) → TellsOf s j → IsCallOf steps j p) →
      ((j : ℕ) → TellsOf s' j → IsCallOf steps j p) → slot_of steps s ≡ slot_of steps s' → s ≡ s'
  same_slot p kept_slot.Free kept_slot.Free calls calls' e = refl
  same_slot p kept_slot.Free (kept_slot.Open k) calls calls' e = absurd (open_not_free _ _ e refl)
  same_slot p kept_slot.Free (kept_slot.Taken k) calls calls' e = absurd (taken_not_free _ _ e refl)
  same_slot p (kept_slot.Open j) kept_slot.Free calls calls' e = absurd (open_not_free _ _ refl e)
  same_slot p (kept_slot.Open j) (kept_slot.Open k) calls calls' e =
      ap kept_slot.Open (same_call j k p p (calls j refl) (calls' k refl) (one_open _ _ _ refl e))
  same_slot p (kept_slot.Open j) (kept_slot.Taken k) calls calls' e = absurd (open_not_taken _ _ _ refl e)
  same_slot p (kept_slot.Taken j) kept_slot.Free calls calls' e = absurd (taken_not_free _ _ refl e)
  same_slot p (kept_slot.Taken j) (kept_slot.Open k) calls calls' e = absurd (open_not_taken _ _ _ e refl)
  same_slot p (kept_slot.Taken j) (kept_slot.Taken k) calls calls' e =
      ap kept_slot.Taken (same_call j k p p (calls j refl) (calls' k refl) (one_taken _ _ _ refl e))

  pub same_config : (c c' : Config) → IsConfig steps c → IsConfig steps c' → seen_as steps c ≡ seen_as steps c' →
      IsSameConfig c c'
  same_config c c' is is' same = record {
    position = (let left : length (rest_of steps c) ≡ length (rest_of steps c') =
        ap (λ (x : Configuration). length x.left) same in
        let one = length-drop c.position (steps_kept steps) in
        let other = length-drop c'.position (steps_kept steps) in
        let long = length-map steps step_of_kept in
        let low = is.within in let low' = is'.within in
        omega (arith, left, one, other, long, low, low'));
    values = ap (λ (x : Configuration). x.values) (sym same);
    slots = ext_get_or kept_slot.Free c'.slots.items c.slots.items (sym long) (λ p lt. sym (at_place p));
  }
    where
      slots : slots_of steps c ≡ slots_of steps c'
      slots = ap (λ (x : Configuration). x.slots) same

      long : length c.slots.items ≡ length c'.slots.items
      long = sym (length-map c.slots.items (slot_of steps)) ∙ ap length slots ∙ length-map c'.slots.items (slot_of steps)

      at_place : (p : ℕ) → get_or c.slots.items p kept_slot.Free ≡ get_or c'.slots.items p kept_slot.Free
      at_place p =
          same_slot p (get_or c.slots.items p kept_slot.Free) (get_or c'.slots.items p kept_slot.Free) (is.tells p)
          (is'.tells p)
          (sym (slot_at steps c.slots.items p) ∙ ap (λ (S : List Slot). get_or S p Free) slots
          ∙ slot_at steps c'.slots.items p)

-- configurations that are the same are seen as the same one
pub same_seen : (steps : List KeptStep) (c c' : Config) → IsSameConfig c c' → seen_as steps c ≡ seen_as steps c'
same_seen steps c c' same =
    same_parts (seen_as steps c) (seen_as steps c') (ap (λ (m : ℕ). drop m (steps_kept steps)) (sym same.position))
    (sym same.values) (ap (map (slot_of steps)) (sym same.slots))

-- Where a step may not pass, something has to be chosen.
may_not : (S : List Slot) (x : Step) → MayNotPass S x → MayPass S x → ⊥
may_not S (Calls o) never may = never may
may_not S (Ends i) never may = never may.0 may.1
may_not S Waits never may = never

chooses : (steps : List KeptStep) (c : Config) → IsStuck steps c → HasToChoose (seen_as steps c)
chooses steps c stuck =
    let x = step_of_kept (get_or steps c.position kept_step.Waits) in (
      x,
      drop (suc c.position) (steps_kept steps),
      rest_at steps c stuck.0,
      may_not (slots_of steps c) x stuck.1,
    )

abbrev pub node_met : {n w : ℕ} {steps : List KeptStep} {order : List ℕ} (node : Node) → IsNode n w steps order node →
    IsMet n w steps node.config
node_met {order = order} node is = record {
  counts = is.counts;
  config = is.config;
  stuck = is.stuck;
  order = take node.depth order;
  reached = is.reached;
}

abbrev pub Differ : Configuration → Configuration → Type 0
Differ c c' = c ≡ c' → ⊥

abbrev pub Deeper : Node → Node → Type 0
Deeper node node' = node.depth < node'.depth

module _ (n w : ℕ) (steps : List KeptStep) (are : AreSteps n w steps) (numbered : AreNumbered steps) where
  is_met : (c : Config) → IsMet n w steps c → IsMetFrom (first n w steps) (seen_as steps c)
  is_met c met = record {
    moves = met.reached.0;
    leads = led_from n w steps c met.reached.0 met.counts met.reached.1;
    chooses = chooses steps c met.stuck;
  }

  abbrev pub seen : Config → Configuration
  seen c = seen_as steps c

  abbrev pub seen_node : Node → Configuration
  seen_node node = seen_as steps node.config

  -- a configuration that has failed differs from the others that have
  from_one : (x : Config) (ys : List Config) → IsMet n w steps x → All (IsMet n w steps) ys →
      AllByRecursion (λ (y : Config). (config_eq.ghosts).eq x y ≡ false) ys → All (Differ (seen x)) (map seen ys)
  from_one x [] met all none = λ k d lt. absurd (omega (arith, lt))
  from_one x (y ∷ ys) met all none =
      All-cons (Differ (seen x)) (seen y) (map seen ys)
      (λ same. let also : (config_eq.ghosts).eq x y ≡ true = (config_decides x y).1
      (same_config steps numbered y x (All-head (IsMet n w steps) y ys all).config met.config (sym same)) in
      let no : ⊥ = cc in no)
      (from_one x ys met (All-tail (IsMet n w steps) y ys all) none.1)

  failed_pairs : (ks : List Config) → All (IsMet n w steps) ks → IsDistinct (config_eq.ghosts).eq ks →
      AllPairs Differ (map seen ks)
  unfolding IsDistinct
  failed_pairs [] all distinct = λ i j d lt past. absurd (omega (arith, past))
  failed_pairs (x ∷ xs) all distinct =
      AllPairs-cons Differ (seen x) (map seen xs)
      (from_one x xs (All-head (IsMet n w steps) x xs all) (All-tail (IsMet n w steps) x xs all) distinct.0)
      (failed_pairs xs (All-tail (IsMet n w steps) x xs all) distinct.1)

  -- the configurations of the nodes, before the others, differ pairwise
  nodes_pairs : (order : List ℕ) (nodes : List Node) (rest : List Configuration) → All (IsNode n w steps order) nodes →
      AllPairs Deeper nodes → ((node : Node) → Contains nodes node → All (Differ (seen_node node)) rest) →
      AllPairs Differ rest → AllPairs Differ (map seen_node nodes ++ rest)
  nodes_pairs order [] rest all rising out pairs = pairs
  nodes_pairs order (x ∷ xs) rest all rising out pairs =
      AllPairs-cons Differ (seen_node x) (map seen_node xs ++ rest)
      (All-append (Differ (seen_node x)) (map seen_node xs) rest
      (All-map (Differ (seen_node x)) seen_node xs
      (All-weaker (Contains xs) (λ (y : Node). Differ (seen_node x) (seen_node y)) later xs (All-contains_itself xs)))
      (out x (contains_head x xs)))
      (nodes_pairs order xs rest (All-tail (IsNode n w steps order) x xs all) (pairs_tail Deeper x xs rising)
      (λ node there. out node (contains_tail x node xs there)) pairs)
    where
      is_x : IsNode n w steps order x
      is_x = All-head (IsNode n w steps order) x xs all

      later : (y : Node) → Contains xs y → Differ (seen_node x) (seen_node y)
      later y there same =
          let is_y = All-contains (IsNode n w steps order) xs y (All-tail (IsNode n w steps order) x xs all) there in
          let equal = same_length are (node_met x is_x) (node_met y is_y) same in
          let one = length-take-le x.depth order is_x.depth in
          let other = length-take-le y.depth order is_y.depth in
          let less = pairs_head Deeper x y xs rising there in omega (arith, equal, one, other, less)

  -- What the search has come to, its nodes, and what has failed: these are different ones.
  module _ (order : List ℕ) (nodes : List Node) (failed : List Config) (c : Config)
      (are_nodes : All (IsNode n w steps order) nodes) (rising : AllPairs Deeper nodes)
      (are_failed : All (IsMet n w steps) failed) (distinct : IsDistinct (config_eq.ghosts).eq failed)
      (apart : All (λ (node : Node). HasSame failed node.config → ⊥) nodes) (met : IsMet n w steps c)
      (here : met.order ≡ order)
      (deeper : (t : ℕ) (d : Node) → t < length nodes → (get_or nodes t d).depth < length order)
      (fresh : HasSame failed c → ⊥) where
    abbrev pub all_met : List Configuration
    all_met = seen c ∷ (map seen_node nodes ++ map seen failed)

    new_to : (x : Config) → IsMet n w steps x → (HasSame failed x → ⊥) → All (Differ (seen x)) (map seen failed)
    new_to x is new =
        All-map (Differ (seen x)) seen failed
        (All-weaker (Contains failed) (λ (y : Config). Differ (seen x) (seen y)) (λ y there same. new (
          y,
          there,
          same_config steps numbered y x (All-contains (IsMet n w steps) failed y are_failed there).config
              is.config (sym same),
        )) failed (All-contains_itself failed))

    past_nodes : (y : Node) → Contains nodes y → Differ (seen c) (seen_node y)
    past_nodes y there same =
        let is_y = All-contains (IsNode n w steps order) nodes y are_nodes there in
        let equal = same_length are met (node_met y is_y) same in
        let other = length-take-le y.depth order is_y.depth in
        let whole : length met.order ≡ length order = ap length here in
        let less : (get_or nodes there.0 y).depth < length order = deeper there.0 y there.1 in
        let at_y = ap (λ (node : Node). node.depth) there.2 in
        omega (arith, equal, other, whole, less, at_y)

    pub all_differ : AllPairs (λ (x y : Configuration). x ≡ y → ⊥) all_met
    all_differ =
        AllPairs-cons Differ (seen c) (map seen_node nodes ++ map seen failed)
        (All-append (Differ (seen c)) (map seen_node nodes) (map seen failed)
        (All-map (Differ (seen c)) seen_node nodes
        (All-weaker (Contains nodes) (λ (y : Node). Differ (seen c) (seen_node y)) past_nodes nodes
        (All-contains_itself nodes)))
        (new_to c met fresh))
        (nodes_pairs order nodes (map seen failed) are_nodes rising
        (λ node there. new_to node.config
        (node_met node (All-contains (IsNode n w steps order) nodes node are_nodes there))
        (All-contains (λ (x : Node). HasSame failed x.config → ⊥) nodes node apart there))
        (failed_pairs failed are_failed distinct))

    each_met : All (IsMetFrom (first n w steps)) all_met
    each_met =
        All-cons (IsMetFrom (first n w steps)) (seen c) (map seen_node nodes ++ map seen failed) (is_met c met)
        (All-append (IsMetFrom (first n w steps)) (map seen_node nodes) (map seen failed)
        (All-map (IsMetFrom (first n w steps)) seen_node nodes
        (All-weaker (IsNode n w steps order) (λ (y : Node). IsMetFrom (first n w steps) (seen_node y))
        (λ y is. is_met y.config (node_met y is)) nodes are_nodes))
        (All-map (IsMetFrom (first n w steps)) seen failed
        (All-weaker (IsMet n w steps) (λ (y : Config). IsMetFrom (first n w steps) (seen y)) (λ y is. is_met y is) failed
        are_failed)))

    pub meets : (most : ℕ) → most ≤ length nodes + length failed → MeetsMoreThan most (first n w steps)
    meets most kept = record {
      configurations = all_met;
      more = (let one = length-append (map seen_node nodes) (map seen failed) in
          let other = length-map nodes seen_node in let third = length-map failed seen in
          omega (arith, one, other, third, kept));
      different = all_differ;
      met = each_met;
    }

-- A search that has come to one more configuration than it may keep.
pub search_meets : (most n w : ℕ) (steps : List KeptStep) (trail : Trail) (e : Entered) → trail.processes ≡ n →
    trail.words ≡ w → AreNumbered steps → IsTrail steps trail → IsAt steps trail e → e.at_end ≡ false →
    most ≤ kept_by trail → MeetsMoreThan most (first n w steps)
search_meets most n w steps trail e processes words numbered is at shut kept =
    subst (λ (m : ℕ). MeetsMoreThan most (first m w steps)) processes
    (subst (λ (m : ℕ). MeetsMoreThan most (first trail.processes m steps)) words
    (meets trail.processes trail.words steps is.are_steps numbered trail.order.items trail.nodes.items trail.failed.keys
    e.config is.nodes.each is.nodes.rising is.met is.unique is.apart met refl at.deeper (at.alive shut).0 most kept))
  where
    met : IsMet trail.processes trail.words steps e.config
    met = record {
      counts = at.entered.counts;
      config = at.entered.config;
      stuck = at.entered.stuck shut;
      order = trail.order.items;
      reached = at.entered.reached;
    }

-- A node that has failed is one more configuration that has, and another than those before it.
pub is_added : (ks : List Config) (k : Config) (added : Bool) → (HasSame ks k → ⊥) →
    added ≡ not (list_any ((config_eq.ghosts).eq k) ks) → added ≡ true
is_added ks k added new is = is ∙ ap not (absent (list_any ((config_eq.ghosts).eq k) ks) refl)
  where
    absent : (b : Bool) → list_any ((config_eq.ghosts).eq k) ks ≡ b → list_any ((config_eq.ghosts).eq k) ks ≡ false
    absent true e = absurd (new ((same_decides ks k).0 e))
    absent false e = e

pub moved_key : {S : Type 0} (s s' : HashSet Config S) (k k' : Config) (added : Bool) → k ≡ k' → PutsKey s s' k added →
    added ≡ not (list_any ((config_eq.ghosts).eq k) s.keys) → (HasSame s.keys k' → ⊥) →
    IsPermutation (k' ∷ s.keys) s'.keys
moved_key s s' k k' added e puts is new =
    subst (λ (x : Config). IsPermutation (x ∷ s.keys) s'.keys) e
    (rw (is_added s.keys k added (λ has. new (subst (HasSame s.keys) e has)) is) at puts)

-- no node before it is the same as it, or as what had failed
pub still_apart : {n w : ℕ} {steps : List KeptStep} {order : List ℕ} (front : List Node) (node : Node)
    (ks ks' : List Config) → AreSteps n w steps → AreNodes n w steps order (front ++ node ∷ []) →
    IsPermutation (node.config ∷ ks) ks' → All (λ (x : Node). HasSame ks x.config → ⊥) front →
    All (λ (x : Node). HasSame ks' x.config → ⊥) front
still_apart {steps = steps} {order} front node ks ks' are nodes moved apart t d lt has =
    elim (contains_cases node.config has.0 ks
    (Contains-permutation ks' (node.config ∷ ks) has.0 (IsPermutation-sym (node.config ∷ ks) ks' moved) has.1)) [
      | inr there ↦ apart t d lt (has.0, there, has.2)
      | inl same ↦ (let is_here = (are_front front node nodes).each t d lt in
          let is_last = last_is front node nodes in
          let equal = same_length are (node_met node is_last) (node_met (get_or front t d) is_here)
          (same_seen steps node.config (get_or front t d).config (rw same has.2)) in
          let one = length-take-le node.depth order is_last.depth in
          let other = length-take-le (get_or front t d).depth order is_here.depth in
          let below = below_last front node nodes t d lt in omega (arith, equal, one, other, below))
    ]
