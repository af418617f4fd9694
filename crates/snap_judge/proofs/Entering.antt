-- What a search has come to from a node.
use Rattle.std.proofs.Common.{◌≡◌, ℕ, suc, ◌-◌, ◌+◌, ◌<◌, ◌≤◌, List, ◌∷◌, ◌++◌, length, get_or, sym, ◌∙◌, ap}
use Rattle.std.proofs.Common.{subst, arith, Bool, if◌then◌else◌, take, drop, true, false, ◌⊎◌, inl, inr}
use Rattle.std.proofs.Math.Seq.{take-append_seam}
use Rattle.std.proofs.lemmas.List.{length-append, length-take-le}
use Rattle.snap_judge.specs.declared.config.Step.{Step as KeptStep}
use Rattle.snap_judge.specs.declared.config.Slot.TheVariants as kept_slot
use Rattle.snap_judge.specs.declared.config.Config.{Config}
use Rattle.snap_judge.specs.declared.config.Node.{Node}
use Rattle.snap_judge.specs.declared.config.Entered.{Entered}
use Rattle.snap_judge.specs.Steps.{CanBeExplained, Taken, Ends, Step, Open}
use Rattle.snap_judge.specs.Kept.{Can, GoesOn, Grows, IsConfig, IsReached, IsSameConfig, IsSettled, IsStuck, KeepsCounts}
use Rattle.snap_judge.specs.Kept.{called_at, rest_of, slots_of, steps_kept}
use Rattle.snap_judge.specs.Choices.{CanTaking, HasTaken, IsChoice, NotNow, NotNowAt}
use Rattle.snap_judge.specs.declared.config.OpenUpdate.{OpenUpdate}
use Rattle.snap_judge.specs.declared.config.Step.TheVariants as kept_step
use Rattle.snap_runs.specs.Operation.{Operation}
use Rattle.std.proofs.lemmas.Bool.{cases_eq, cases_lt}
use Rattle.snap_judge.proofs.Choosing.{kept_at}
use Rattle.snap_judge.proofs.SearchSlots.{at}
use Rattle.snap_judge.proofs.SearchLater.{Fails, nothing_explains}
use Rattle.snap_judge.proofs.Passing.{rest_at}
use Rattle.snap_judge.specs.Kept.{MayNotPass, step_of_kept}
use Rattle.snap_judge.specs.Nodes.{HasEntered, HasTried, IsEntered, IsNode, IsTried, IsTriedAt, tries_left}
use Rattle.snap_judge.proofs.Goes.{grown, same_goes}

-- what can be explained with it taken, of a copy
pub same_taking : (steps : List KeptStep) (c c' : Config) (p : ℕ) → IsSameConfig c c' → CanTaking steps c p →
    CanTaking steps c' p
same_taking steps c c' p same can =
    (can.0, rw same.slots can.1, rw (same.position, same.values, same.slots) can.2)

-- the beginning of an order that has been cut and has grown
pub same_prefix : (order order' : List ℕ) (d : ℕ) → d ≤ length order → Grows (take d order) order' →
    take d order' ≡ take d order
same_prefix order order' d le g =
    let cut : length (take d order) ≡ d = length-take-le d order le in
    ap (take d) g.1
    ∙ subst (λ (n : ℕ). take n (take d order ++ g.0) ≡ take d order) cut (take-append_seam (take d order) g.0)

-- From a copy of the node's configuration an update is taken, and then steps are passed.
pub has_entered : (steps : List KeptStep) (node : Node) (p : ℕ) (order mid order' : List ℕ) (copy taken c : Config)
    (shut : Bool) →
    IsNode (length node.config.slots.items) (length node.config.values.items) steps order node →
    IsSameConfig node.config copy → HasTaken steps p (take node.depth order) copy mid taken →
    GoesOn steps mid taken order' c → KeepsCounts copy taken → KeepsCounts taken c → IsSettled steps c →
    (shut ≡ true → c.position ≡ length steps) → (shut ≡ false → IsStuck steps c) →
    HasEntered steps node p order order' (record { config = c; at_end = shut })
has_entered steps node p order mid order' copy taken c shut is same took goes kept kept' settled end stuck = record {
  entered = record {
    counts = (kept'.slots ∙ kept.slots ∙ ap length same.slots, kept'.values ∙ kept.values ∙ ap length same.values);
    config = goes.config (took.config copied.0);
    settled = settled;
    reached = goes.reached (took.config copied.0) (took.reached copied.0 copied.1);
    at_end = end;
    stuck = stuck;
  };
  prefix = cut;
  deep = (let long : length order' ≡ length (mid ++ goes.grows.0) = ap length goes.grows.1 in
      let all = length-append mid goes.grows.0 in
      let more = took.longer in
      let cut_off = length-take-le node.depth order is.depth in omega (arith, long, all, more, cut_off));
  tried = λ can. goes.explained (took.config copied.0)
      (took.explained copied.0 (same_taking steps node.config copy p same can));
}
  where
    copied : IsConfig steps copy × IsReached steps (take node.depth order) copy
    copied =
        let goes = same_goes steps (take node.depth order) node.config copy same in
        (goes.config is.config, goes.reached is.config is.reached)

    cut : take node.depth order' ≡ take node.depth order
    cut = same_prefix order order' node.depth is.depth (grown (take node.depth order) mid order' took.grows goes.grows)

-- Where each place of a node has been tried, nothing explains the rest.
pub all_tried : (n w : ℕ) (steps : List KeptStep) (order : List ℕ) (node : Node) → IsNode n w steps order node →
    ((p : ℕ) → IsTriedAt steps node.config node.ending p) → Can steps node.config → ⊥
all_tried n w steps order node is_node tried can =
    nothing_explains (suc node.ending) (drop (suc c.position) (steps_kept steps)) c.values.items (slots_of steps c)
    (rw is_node.ending at is_node.stuck.1) each
    (subst (λ (xs : List Step). CanBeExplained xs c.values.items (slots_of steps c)) rest can)
  where
    c : Config
    c = node.config

    rest : rest_of steps c ≡ Ends (suc node.ending) ∷ drop (suc c.position) (steps_kept steps)
    rest =
        rest_at steps c is_node.stuck.0
        ∙ ap (λ (y : KeptStep). step_of_kept y ∷ drop (suc c.position) (steps_kept steps)) is_node.ending

    each : (p : ℕ) (o : Operation) → at (slots_of steps c) p ≡ Open o → o.process - 1 ≡ p →
        Fails (Ends (suc node.ending) ∷ drop (suc c.position) (steps_kept steps)) c.values.items (slots_of steps c) p o
        ⊎ NotNow (suc node.ending) c.values.items (slots_of steps c) p o
    each p o is place =
        let k = kept_at steps c.slots.items p o is in
        elim (tried p) [
          | inl fails ↦ inl (λ e. fails (k.0, k.1, rw (k.2, rest) e))
          | inr waits ↦ inr (subst (NotNow (suc node.ending) c.values.items (slots_of steps c) p) k.2 (waits k.0 k.1))
        ]

-- each place is tried, or waits
pub rest_waits : (steps : List KeptStep) (node : Node) → IsTried steps node →
    ((p : ℕ) → node.next ≤ p → NotNowAt steps node.config node.ending p) → (p : ℕ) →
    IsTriedAt steps node.config node.ending p
rest_waits steps node tried waits p = elim (cases_lt p node.next) [
  | inl lt ↦ tried p lt
  | inr le ↦ inr (waits p le)
]

-- whether the place that ends is left to try, as a number
abbrev left_at : Bool → ℕ
left_at begun = if begun then 0 else 1

-- The node is still one, however far it has tried.
module _ (steps : List KeptStep) (node node' : Node) (order order' : List ℕ) (p : ℕ) (e : Entered)
    (is_node : IsNode (length node.config.slots.items) (length node.config.values.items) steps order node)
    (config : node'.config ≡ node.config) (depth : node'.depth ≡ node.depth) (ending : node'.ending ≡ node.ending)
    (has : HasEntered steps node' p order order' e) where
  prefix : take node.depth order' ≡ take node.depth order
  prefix = subst (λ (k : ℕ). take k order' ≡ take k order) depth has.prefix

  deep : node.depth < length order'
  deep = subst (λ (k : ℕ). k < length order') depth has.deep

  still_node : node'.next ≤ length node.config.slots.items →
      IsNode (length node.config.slots.items) (length node.config.values.items) steps order' node'
  still_node next = record {
    counts = (ap (λ (x : Config). length x.slots.items) config, ap (λ (x : Config). length x.values.items) config);
    config = subst (IsConfig steps) (sym config) is_node.config;
    settled = subst (IsSettled steps) (sym config) is_node.settled;
    stuck = subst (IsStuck steps) (sym config) is_node.stuck;
    ending = ap (λ (x : Config). get_or steps x.position kept_step.Waits) config ∙ is_node.ending
        ∙ ap (λ (k : ℕ). kept_step.Ends (suc k)) (sym ending);
    next = next;
    depth = (let deep = has.deep in omega (arith, deep));
    reached = rw (config, depth, prefix) is_node.reached;
  }

  tried_more : node'.next ≤ length node.config.slots.items → tries_left node' < tries_left node →
      ((Can steps e.config → ⊥) → (q : ℕ) → q < node'.next → IsTriedAt steps node.config node.ending q) →
      HasTried steps node node' order order' e
  tried_more next less tried = record {
    is_node = still_node next;
    config = config;
    depth = depth;
    less = less;
    entered = subst (λ (x : Config). IsEntered (length x.slots.items) (length x.values.items) steps order' e) config has.entered;
    prefix = prefix;
    deep = deep;
    tried = λ fails q lt. rw (config, ending) (tried fails q lt);
  }

  same_slots : length node'.config.slots.items ≡ length node.config.slots.items
  same_slots = ap (λ (x : Config). length x.slots.items) config

-- The node, its next place moved on.
pub has_tried : (steps : List KeptStep) (node node' : Node) (order order' : List ℕ) (u : OpenUpdate) (e : Entered) →
    IsNode (length node.config.slots.items) (length node.config.values.items) steps order node → IsTried steps node →
    IsChoice steps node.config u → node.next ≤ u.place →
    ((q : ℕ) → node.next ≤ q → q < u.place → NotNowAt steps node.config node.ending q) →
    node'.config ≡ node.config → node'.depth ≡ node.depth → node'.ending ≡ node.ending → node'.next ≡ u.place + 1 →
    node'.begun ≡ true → HasEntered steps node' u.place order order' e → HasTried steps node node' order order' e
has_tried steps node node' order order' u e is_node tried choice le waits config depth ending next begun has =
    tried_more steps node node' order order' u.place e is_node config depth ending has
    (let lt = choice.within in omega (arith, lt, next))
    (let same = same_slots steps node node' order order' u.place e is_node config depth ending has in
    let none : left_at node'.begun ≡ 0 = ap left_at begun in
    let lt = choice.within in omega (arith, same, none, le, next, lt))
    (λ fails p below. elim (cases_lt p node.next) [
      | inl lt ↦ tried p lt
      | inr more ↦ elim (cases_eq p u.place) [
        | inl same ↦ inl (λ can. fails (has.tried (rw (config, ← same) can)))
        | inr differ ↦ inr (waits p more (omega (arith, below, next, differ)))
      ]
    ])
