-- How far a search is: the nodes at which it has to choose, each with what it has tried there. A node stands where the
-- next step is the end of an operation that has not taken place: that one, or any other that is open, may take place
-- first. A place is a process, counted from 0, and `ending` that of the node's next step. `d` is a node that stands for
-- one that is not there.
use Rattle.std.specs.Prelude.{◌≡◌, ℕ, zero, suc, ◌+◌, ◌-◌, if◌then◌else◌, ◌<◌, ◌≤◌, ◌⊎◌, true, false, List, [], ◌∷◌, ◌++◌, length, slice_index_or, take, map, replicate}
use Rattle.std.specs.List.{All, Contains, IsDistinct}
use Rattle.snap_judge.specs.contracts.config.ConfigPartialEq.TheImpl as config_eq
use Rattle.snap_judge.specs.declared.config.Step.{Step as KeptStep}
use Rattle.snap_judge.specs.declared.config.Step.TheVariants as kept_step
use Rattle.snap_judge.specs.declared.config.Config.{Config}
use Rattle.snap_judge.specs.declared.config.Node.{Node}
use Rattle.snap_judge.specs.declared.config.Entered.{Entered}
use Rattle.snap_judge.specs.declared.config.Found.{Found}
use Rattle.snap_judge.specs.declared.config.Found.TheVariants as found
use Rattle.snap_judge.specs.declared.search.Trail.{Trail}
use Rattle.snap_judge.specs.History.{History}
use Rattle.snap_judge.specs.Steps.{Free, CanBeExplained, Explains, Move, steps_of, taken}
use Rattle.snap_judge.specs.Configurations.{MeetsMoreThan}
use Rattle.snap_judge.specs.Kept.{AreSteps, Can, first, IsConfig, IsReached, IsSameConfig, IsSettled, IsStuck, called_at, steps_kept}
use Rattle.snap_judge.specs.Choices.{CanTaking, NotNowAt}

-- The number of processes and of words that a search goes on with.
abbrev pub HasCounts : (n w : ℕ) → Config → Type 0
HasCounts n w c = (length c.slots.items ≡ n) × (length c.values.items ≡ w)

-- What is open at this place has been tried, and then nothing explains the rest; or it need not take place now.
abbrev pub IsTriedAt : List KeptStep → Config → (ending p : ℕ) → Type 0
IsTriedAt steps c ending p = (CanTaking steps c p → ⊥) ⊎ NotNowAt steps c ending p

-- Each place before the next one of the node has been tried.
abbrev pub IsTried : List KeptStep → Node → Type 0
IsTried steps node = (p : ℕ) → p < node.next → IsTriedAt steps node.config node.ending p

-- A node stands before the end of what its process called, which has not taken place; it is reached by the first
-- operations of the order.
pub record IsNode (n w : ℕ) (steps : List KeptStep) (order : List ℕ) (node : Node) : Type 0 where
  pub counts : HasCounts n w node.config
  pub config : IsConfig steps node.config
  pub settled : IsSettled steps node.config
  pub stuck : IsStuck steps node.config
  pub ending : slice_index_or steps node.config.position kept_step.Waits ≡ kept_step.Ends (suc node.ending)
  pub next : node.next ≤ n
  pub depth : node.depth ≤ length order
  pub reached : IsReached steps (take node.depth order) node.config

-- From the beginning on, nothing explains the history.
abbrev pub NothingExplains : (n w : ℕ) → List KeptStep → Type 0
NothingExplains n w steps = CanBeExplained (steps_kept steps) (replicate w 0) (replicate n Free) → ⊥

-- What is known once nothing explains what is left behind the first t nodes: the place that the last of them tried is
-- tried; without nodes, nothing explains the history.
abbrev pub FailsBehind : (n w : ℕ) → List KeptStep → (d : Node) → List Node → ℕ → Type 0
FailsBehind n w steps d nodes zero = NothingExplains n w steps
FailsBehind n w steps d nodes (suc t) = IsTried steps (slice_index_or nodes t d)

-- A configuration that a search has come to by this order.
pub record IsEntered (n w : ℕ) (steps : List KeptStep) (order : List ℕ) (e : Entered) : Type 0 where
  pub counts : HasCounts n w e.config
  pub config : IsConfig steps e.config
  pub settled : IsSettled steps e.config
  pub reached : IsReached steps order e.config
  pub at_end : e.at_end ≡ true → e.config.position ≡ length steps
  pub stuck : e.at_end ≡ false → IsStuck steps e.config

-- What was open at this place of the node has been taken, and this is what the search has come to.
pub record HasEntered (steps : List KeptStep) (node : Node) (p : ℕ) (order order' : List ℕ) (e : Entered) :
    Type 0 where
  pub entered : IsEntered (length node.config.slots.items) (length node.config.values.items) steps order' e
  pub prefix : take node.depth order' ≡ take node.depth order
  pub deep : node.depth < length order'
  pub tried : CanTaking steps node.config p → Can steps e.config

-- how often a node can try an update yet: once at the place that ends, and once at each place that is left
abbrev pub tries_left : Node → ℕ
tries_left node = length node.config.slots.items - node.next + (if node.begun then 0 else 1)

-- A node has tried what was next: it is tried once nothing explains the rest from what it has come to.
pub record HasTried (steps : List KeptStep) (node node' : Node) (order order' : List ℕ) (e : Entered) : Type 0 where
  pub is_node : IsNode (length node.config.slots.items) (length node.config.values.items) steps order' node'
  pub config : node'.config ≡ node.config
  pub depth : node'.depth ≡ node.depth
  pub less : tries_left node' < tries_left node
  pub entered : IsEntered (length node.config.slots.items) (length node.config.values.items) steps order' e
  pub prefix : take node.depth order' ≡ take node.depth order
  pub deep : node.depth < length order'
  pub tried : (Can steps e.config → ⊥) → IsTried steps node'

-- The nodes of a search from the first on: their depths rise, and where nothing explains the rest from one of them,
-- what is known behind those before it follows.
pub record AreNodes (n w : ℕ) (steps : List KeptStep) (order : List ℕ) (nodes : List Node) : Type 0 where
  pub each : All (IsNode n w steps order) nodes
  pub rising : (s t : ℕ) (d : Node) → s < t → t < length nodes →
      (slice_index_or nodes s d).depth < (slice_index_or nodes t d).depth
  pub behind : (t : ℕ) (d : Node) → t < length nodes → (Can steps (slice_index_or nodes t d).config → ⊥) →
      FailsBehind n w steps d nodes t

-- The search has been there, by some order, before a step that may not pass.
pub record IsMet (n w : ℕ) (steps : List KeptStep) (c : Config) : Type 0 where
  pub counts : HasCounts n w c
  pub config : IsConfig steps c
  pub stuck : IsStuck steps c
  pub order : List ℕ
  pub reached : IsReached steps order c

-- One of these is the same as this configuration.
abbrev pub HasSame : List Config → Config → Type 0
HasSame configs c = (c' : Config) × Contains configs c' × IsSameConfig c' c

-- The nodes are those of a search of these steps; from what has failed nothing explains the rest, no two of it are the
-- same, and no node is the same as any of it.
pub record IsTrail (steps : List KeptStep) (trail : Trail) : Type 0 where
  pub are_steps : AreSteps trail.processes trail.words steps
  pub nodes : AreNodes trail.processes trail.words steps trail.order.items trail.nodes.items
  pub failed : All (λ (c : Config). Can steps c → ⊥) trail.failed.keys
  pub met : All (IsMet trail.processes trail.words steps) trail.failed.keys
  pub unique : IsDistinct (config_eq.ghosts).eq trail.failed.keys
  pub apart : All (λ (node : Node). HasSame trail.failed.keys node.config → ⊥) trail.nodes.items

-- how many configurations it keeps: those of its nodes, and those that have failed
abbrev pub kept_by : Trail → ℕ
kept_by trail = length trail.nodes.items + length trail.failed.keys

-- Nothing is left to try but what these nodes have not tried; without nodes, nothing explains the history.
abbrev pub OnlyNodesLeft : (n w : ℕ) → List KeptStep → List Node → Type 0
OnlyNodesLeft n w steps nodes =
    (nodes ≡ [] → NothingExplains n w steps) × ((d : Node) → FailsBehind n w steps d nodes (length nodes))

-- nothing but what the nodes of the trail have not tried
abbrev pub NothingLeft : List KeptStep → Trail → Type 0
NothingLeft steps trail = OnlyNodesLeft trail.processes trail.words steps trail.nodes.items

-- A search that goes on is at the end of the history, or at a configuration that is none of those that have failed and
-- at which an end comes next.
abbrev pub IsAlive : List KeptStep → (failed : List Config) → Entered → Type 0
IsAlive steps failed e = e.at_end ≡ false →
    (HasSame failed e.config → ⊥)
    × ((p : ℕ) × (slice_index_or steps e.config.position kept_step.Waits ≡ kept_step.Ends (suc p)))

-- The search has come to this by the order of the trail, for the first time; where nothing explains the rest from
-- there, nothing is left but what the nodes have not tried.
pub record IsAt (steps : List KeptStep) (trail : Trail) (e : Entered) : Type 0 where
  pub entered : IsEntered trail.processes trail.words steps trail.order.items e
  pub deeper : (t : ℕ) (d : Node) → t < length trail.nodes.items →
      (slice_index_or trail.nodes.items t d).depth < length trail.order.items
  pub alive : IsAlive steps trail.failed.keys e
  pub left : (Can steps e.config → ⊥) → NothingLeft steps trail

-- The node was the last one of the trail, what it has tried is known, and it is none of those that have failed.
pub record HasNode (steps : List KeptStep) (trail : Trail) (node : Node) : Type 0 where
  pub nodes : AreNodes trail.processes trail.words steps trail.order.items (trail.nodes.items ++ node ∷ [])
  pub tried : IsTried steps node
  pub apart : HasSame trail.failed.keys node.config → ⊥

-- The trail is of as many processes and words as before.
pub record KeepsTrailCounts (trail trail' : Trail) : Type 0 where
  pub processes : trail'.processes ≡ trail.processes
  pub words : trail'.words ≡ trail.words

-- What a search has found is so: the order explains the history, or nothing does, or there are more than `most`
-- configurations at which it has to choose.
abbrev pub IsFound : (most n w : ℕ) → List KeptStep → Found → Type 0
IsFound most n w steps (found.Explained order) =
    (moves : List Move) × Explains moves (steps_kept steps) (replicate w 0) (replicate n Free)
    × (taken moves ≡ map (called_at steps) order.items)
IsFound most n w steps (found.Unexplained passed) = NothingExplains n w steps
IsFound most n w steps found.Undecided = MeetsMoreThan most (first n w steps)

-- These are the steps of a history, and what a search has found of them is so.
pub record HasFound (most : ℕ) (h : History) (kept : List KeptStep) (f : Found) : Type 0 where
  pub steps : steps_kept kept ≡ steps_of h.events
  pub found : IsFound most h.shape.n h.shape.w kept f
