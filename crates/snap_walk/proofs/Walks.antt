-- A `Walk` keeps what it keeps (`IsWalking`), from the first item to the last.
use Rattle.std.proofs.Common.{◌≡◌, ℕ, zero, suc, ◌+◌, ◌-◌, ◌<◌, ◌≤◌, Bool, true, false, List, [], ◌∷◌, ◌++◌, length, drop}
use Rattle.std.proofs.Common.{replicate, Result, Ok, Some, if◌then◌else◌, refl, sym, ap, subst, ◌∙◌, arith}
use Rattle.std.specs.Prelude.{slice_get}
use Rattle.std.proofs.lemmas.Option.{get_or_from_slice_get, slice_get_within}
use Rattle.snap_words.specs.Shape.{Counts, IsOneOf}
use Rattle.snap_semantics.specs.declared.process.Activity.{Activity}
use Rattle.snap_semantics.specs.declared.process.Cause.{Cause}
use Rattle.snap_semantics.specs.declared.process.Item.{Item}
use Rattle.snap_semantics.specs.declared.process.Item.TheVariants.{Step}
use Rattle.snap_semantics.specs.declared.process.Outcome.{Outcome}
use Rattle.snap_semantics.specs.declared.process.Outcome.TheVariants.{Skipped}
use Rattle.snap_semantics.specs.declared.process.Reason.{Reason}
use Rattle.snap_semantics.specs.declared.process.Reason.TheVariants as reason
use Rattle.snap_semantics.specs.declared.process.Status.{Status}
use Rattle.snap_semantics.specs.declared.process.Status.TheVariants.{Idle, Busy, Trapped, Crashed}
use Rattle.snap_semantics.specs.Schedule.{Schedule}
use Rattle.snap_semantics.specs.Source.{Source, instr_at}
use Rattle.snap_semantics.specs.State.{Locals, State, process_at}
use Rattle.snap_semantics.specs.Table.{Effect, Goes, done, effect_at, leave, step, who}
use Rattle.snap_runs.specs.Run.{Run, item, outcome, run_over, state}
use Rattle.snap_runs.specs.Scan.{count}
use Rattle.snap_runs.proofs.Counting.{count_next}
use Rattle.snap_runs.proofs.Embedding.{all_index, next_state}
use Rattle.snap_machine.specs.Configuration.{Configuration}
use Rattle.snap_walk.specs.Walk.{IsUntold, PassesOver, Way, is_quiet, is_skip, is_skipped, is_untold, look, look_ahead}
use Rattle.snap_walk.specs.Walk.{look_at_step, way}
use Rattle.snap_walk.specs.Walking.{IsWalking, is_busy, skip_reason, skips_by}
use Rattle.snap_walk.specs.Glance.{Glance}
use Rattle.snap_walk.specs.Glance as glance

-- the next of the items that are left, and those behind it
behind_some : (xs : List Item) (k : ℕ) (x : Item) (ys : List Item) → drop k xs ≡ x ∷ ys →
    (slice_get xs k ≡ Some x) × (drop (suc k) xs ≡ ys)
behind_some [] zero x ys e = absurd cc
behind_some [] (suc k) x ys e = absurd cc
behind_some (z ∷ xs) zero x ys e = (cc, cc)
behind_some (z ∷ xs) (suc k) x ys e = behind_some xs k x ys e

by_skip : (b c : Bool) (j n : ℕ) → b ≡ c → j ≡ n → j + (if b then 1 else 0) ≡ (if c then suc n else n)
by_skip true true j n same is = omega (arith, is)
by_skip true false j n same is = absurd cc
by_skip false true j n same is = absurd cc
by_skip false false j n same is = omega (arith, is)

pub skips_few : (o : Outcome) → skips_by o ≤ 1
skips_few o = by (is_skip o) where
  by : (b : Bool) → (if b then 1 else 0) ≤ 1
  by true = omega arith
  by false = omega arith

-- no more items are skipped than there are
pub few_skips : (r : Run) (t : ℕ) → count (is_skipped r) 0 t ≤ t
few_skips r zero = omega arith
few_skips r (suc t) =
    at_most (is_skipped r (suc t)) (count (is_skipped r) 0 t) (count (is_skipped r) 0 (suc t)) (few_skips r t)
    (count_next (is_skipped r) 0 t (omega arith)) where
      at_most : (b : Bool) (x y : ℕ) → x ≤ t → y ≡ (if b then suc x else x) → y ≤ suc t
      at_most true x y h e = omega (arith, h, e)
      at_most false x y h e = omega (arith, h, e)

module _ (m : Configuration) (s : Schedule) (k j : ℕ) (ahead : List Item) (h : IsWalking m s k j ahead) where
  abbrev run : Run
  run = run_over m.source s

  -- an item that is left is the next of the run
  pub next_at : (x : Item) (ys : List Item) → ahead ≡ x ∷ ys → (k < length s.items) × (x ≡ item run (suc k))
  next_at x ys is =
      let b = behind_some s.items k x ys (sym h.left ∙ is) in
      (slice_get_within s.items k x b.0, sym (get_or_from_slice_get s.items k x (Step 0) b.0))

  -- an item of the run is of one of its processes
  pub own : k < length s.items → IsOneOf s.shape.n (who (item run (suc k)))
  own below = all_index (λ y. IsOneOf s.shape.n (who y)) s.items k (Step 0) h.schedule.processes below

  -- the item is done as the run does it
  done_is : (x : Item) → x ≡ item run (suc k) →
      done m.source m.shape m.state x ≡ done m.source s.shape (state run k) (item run (suc k))
  done_is x is =
      ap (λ (n : Counts). done m.source n m.state x) h.shape
      ∙ ap (λ (S : State). done m.source s.shape S x) h.state_is
      ∙ ap (λ (y : Item). done m.source s.shape (state run k) y) is

  one_more : suc k ≡ k + 1
  one_more = omega arith

  -- what comes of the item comes of that of the run
  pub came : (x : Item) (S : State) (o : Outcome) → x ≡ item run (suc k) → done m.source m.shape m.state x ≡ (S, o) →
      o ≡ outcome run (suc k)
  came x S o is did = ap (λ (d : State × Outcome). d.1) (sym did ∙ done_is x is)

  -- after the item, the machine is one item further
  pub more : (m' : Configuration) (o : Outcome) (x : Item) (y : Item) (ahead' : List Item) (j' : ℕ) →
      x ≡ item run (suc k) → ahead ≡ y ∷ ahead' → m'.source ≡ m.source → m'.shape ≡ m.shape →
      done m.source m.shape m.state x ≡ (m'.state, o) → j' ≡ j + skips_by o → IsWalking m' s (k + 1) j' ahead'
  more m' o x y ahead' j' is left source shape did skips =
      let below = (next_at y ahead' left).0 in
      let b = behind_some s.items k y ahead' (sym h.left ∙ left) in
      let counted : j' ≡ count (is_skipped run) 0 (suc k) =
      skips
      ∙ by_skip (is_skip o) (is_skipped run (suc k)) j (count (is_skipped run) 0 k) (ap is_skip (came x m'.state o is did)) h.skips
      ∙ sym (count_next (is_skipped run) 0 k (omega arith)) in
      subst (λ i. IsWalking m' s i j' ahead') one_more (record {
        schedule = h.schedule;
        shape = shape ∙ h.shape;
        state_is =
            ap (λ (d : State × Outcome). d.0) (sym did ∙ done_is x is) ∙ sym (next_state run k below)
            ∙ ap (λ (l : Source). state (run_over l s) (suc k)) (sym source);
        within = omega (arith, below);
        skips = counted ∙ ap (λ (l : Source). count (is_skipped (run_over l s)) 0 (suc k)) (sym source);
        left = sym b.1;
      })

-- Steps of a busy process.

left_done : (S : State) (i : ℕ) (a : Activity) (l : Locals) (e : Result Effect Cause) → is_skip (leave S i a l e).1 ≡ false
left_done S i a l (Ok (Goes m l' link line)) = refl
left_done S i a l _ = refl

busy_done : (s : Source) (n : Counts) (S : State) (i : ℕ) (a : Activity) → (process_at S i).status ≡ Busy a →
    is_skip (done s n S (Step i)).1 ≡ false
busy_done s n S i a busy =
    ap (λ (t : Status). is_skip (step s n S i (process_at S i) t).1) busy
    ∙ left_done S i a (process_at S i).locals (effect_at s
    (record { shape = n; me = i; op = a.op; locals = (process_at S i).locals; place = 0 }) S.memory a
    (instr_at s.lines a.line))

-- such a step is not skipped
pub not_skipped : (s : Source) (n : Counts) (S S' : State) (i : ℕ) (a : Activity) (o : Outcome) →
    (process_at S i).status ≡ Busy a → done s n S (Step i) ≡ (S', o) → is_skip o ≡ false
not_skipped s n S S' i a o busy did =
    ap (λ (d : State × Outcome). is_skip d.1) (sym did) ∙ busy_done s n S i a busy

pub none_more : (j : ℕ) (o : Outcome) → is_skip o ≡ false → j ≡ j + skips_by o
none_more j o is = (let none : j ≡ j + 0 = omega arith in none ∙ ap (λ (b : Bool). j + (if b then 1 else 0)) (sym is))

-- Steps of a process that is not busy.

-- such a step is skipped for the reason that its process gives
pub step_idle : (s : Source) (n : Counts) (S : State) (i : ℕ) (t : Status) → (process_at S i).status ≡ t →
    is_busy t ≡ false → done s n S (Step i) ≡ (S, Skipped (skip_reason t))
step_idle s n S i (Busy a) at is = absurd cc
step_idle s n S i _ at is = ap (step s n S i (process_at S i)) at

-- an item that is skipped leaves the state
abbrev pub Skips : Source → Counts → State → Item → Type 0
Skips s n S x = (r : Reason) × (done s n S x ≡ (S, Skipped r))

-- a step of a process that is not busy is skipped
step_skips : (quiet : List Bool) (s : Source) (n : Counts) (S : State) (i : ℕ) (t : Status) →
    (process_at S i).status ≡ t → look_at_step quiet t ≡ glance.Idle → Skips s n S (Step i)
step_skips quiet s n S i Idle at is = (reason.Idle, ap (step s n S i (process_at S i)) at)
step_skips quiet s n S i (Trapped cause a) at is = (reason.Trapped, ap (step s n S i (process_at S i)) at)
step_skips quiet s n S i (Crashed was) at is = (reason.Crashed, ap (step s n S i (process_at S i)) at)
step_skips quiet s n S i (Busy a) at is = by (is_quiet quiet a.line) is where
  by : (b : Bool) → (if b then glance.Quiet else glance.Line a) ≡ glance.Idle → Skips s n S (Step i)
  by true e = absurd cc
  by false e = absurd cc

idle_skips : (quiet : List Bool) (s : Source) (n : Counts) (S : State) (x : Item) →
    look quiet x (process_at S (who x)).status ≡ glance.Idle → Skips s n S x
idle_skips quiet s n S (Step i) is = step_skips quiet s n S i (process_at S i).status refl is
idle_skips quiet s n S _ is = absurd cc

-- what is seen of an item where a machine stands
abbrev pub look_in : List Bool → State → Item → Glance
look_in quiet S x = look quiet x (process_at S (who x)).status

-- the next item is skipped
skip_one : (m : Configuration) (s : Schedule) (k j : ℕ) (x : Item) (ys : List Item) → IsWalking m s k j (x ∷ ys) →
    Skips m.source m.shape m.state x → IsWalking m s (suc k) (suc j) ys
skip_one m s k j x ys h is =
    let n = next_at m s k j (x ∷ ys) h x ys refl in
    let once : suc j ≡ j + 1 = omega arith in
    let more_is = more m s k j (x ∷ ys) h m (Skipped is.0) x x ys (suc j) n.1 refl refl refl is.1 once in
    let same : k + 1 ≡ suc k = omega arith in
    subst (λ i. IsWalking m s i (suc j) ys) same more_is

-- and passed over, where skipped items are
skip_untold : (quiet : List Bool) (m : Configuration) (s : Schedule) (k j : ℕ) (x : Item) (ys : List Item) →
    IsWalking m s k j (x ∷ ys) → look_in quiet m.state x ≡ glance.Idle →
    IsUntold quiet false (way (run_over m.source s) k)
skip_untold quiet m s k j x ys h is =
    let r = run_over m.source s in
    let n = next_at m s k j (x ∷ ys) h x ys refl in
    let skips = idle_skips quiet m.source m.shape m.state x is in
    let seen : look_ahead quiet (way r k) ≡ glance.Idle =
    ap (λ (y : Item). look_in quiet (state r k) y) (sym n.1) ∙ ap (λ (S : State). look_in quiet S x) (sym h.state_is)
    ∙ is in
    let out : outcome r (suc k) ≡ Skipped skips.0 =
    sym (came m s k j (x ∷ ys) h x m.state (Skipped skips.0) n.1 skips.1) in
    record {
      left = n.0;
      process = own m s k j (x ∷ ys) h n.0;
      untold =
          ap (λ (g : Glance). is_untold g (outcome r (suc k)) false) seen
          ∙ ap (λ (o : Outcome). is_untold glance.Idle o false) out;
    }

-- as many of the next items as are alike
idle_on : (quiet : List Bool) (m : Configuration) (s : Schedule) (k j n : ℕ) (x : Item) (ys : List Item) →
    IsWalking m s k j (replicate n x ++ ys) → look_in quiet m.state x ≡ glance.Idle → IsWalking m s (k + n) (j + n) ys
idle_on quiet m s k j zero x ys h is =
    let none : k ≡ k + 0 = omega arith in
    let none' : j ≡ j + 0 = omega arith in
    subst (λ i. IsWalking m s i (j + 0) ys) none (subst (λ i. IsWalking m s k i ys) none' h)
idle_on quiet m s k j (suc n) x ys h is =
    let one = skip_one m s k j x (replicate n x ++ ys) h (idle_skips quiet m.source m.shape m.state x is) in
    let on = idle_on quiet m s (suc k) (suc j) n x ys one is in
    let there : suc k + n ≡ k + suc n = omega arith in
    let there' : suc j + n ≡ j + suc n = omega arith in
    subst (λ i. IsWalking m s i (j + suc n) ys) there (subst (λ i. IsWalking m s (suc k + n) i ys) there' on)

idle_at : (quiet : List Bool) (m : Configuration) (s : Schedule) (k j n i : ℕ) (x : Item) (ys : List Item) →
    IsWalking m s k j (replicate n x ++ ys) → look_in quiet m.state x ≡ glance.Idle → i < n →
    IsUntold quiet false (way (run_over m.source s) (k + i))
idle_at quiet m s k j zero i x ys h is below = absurd (omega (arith, below))
idle_at quiet m s k j (suc n) zero x ys h is below =
    let here : k ≡ k + 0 = omega arith in
    subst (λ t. IsUntold quiet false (way (run_over m.source s) t)) here
    (skip_untold quiet m s k j x (replicate n x ++ ys) h is)
idle_at quiet m s k j (suc n) (suc i) x ys h is below =
    let one = skip_one m s k j x (replicate n x ++ ys) h (idle_skips quiet m.source m.shape m.state x is) in
    let there : suc k + i ≡ k + suc i = omega arith in
    subst (λ t. IsUntold quiet false (way (run_over m.source s) t)) there
    (idle_at quiet m s (suc k) (suc j) n i x ys one is (omega (arith, below)))

-- are passed over
idle_over : (quiet : List Bool) (m : Configuration) (s : Schedule) (k j n : ℕ) (x : Item) (ys : List Item) →
    IsWalking m s k j (replicate n x ++ ys) → look_in quiet m.state x ≡ glance.Idle →
    PassesOver quiet false (way (run_over m.source s) k) (way (run_over m.source s) (k + n))
idle_over quiet m s k j n x ys h is = record {
  run = refl;
  order = omega arith;
  untold = λ t low high.
      let there : k + (t - k) ≡ t = omega (arith, low) in
      subst (λ u. IsUntold quiet false (way (run_over m.source s) u)) there
      (idle_at quiet m s k j n (t - k) x ys h is (omega (arith, low, high)));
}

-- the first of the items that are left is the next of the run
first_in : (quiet : List Bool) (m : Configuration) (s : Schedule) (k j n : ℕ) (x : Item) (ys : List Item) → 0 < n →
    IsWalking m s k j (replicate n x ++ ys) → look_ahead quiet (way (run_over m.source s) k) ≡ glance.Idle →
    look_in quiet m.state x ≡ glance.Idle
first_in quiet m s k j zero x ys some h is = absurd (omega (arith, some))
first_in quiet m s k j (suc n) x ys some h is =
    let r = run_over m.source s in
    let next = next_at m s k j (x ∷ (replicate n x ++ ys)) h x (replicate n x ++ ys) refl in
    ap (λ (S : State). look_in quiet S x) h.state_is ∙ ap (λ (y : Item). look_in quiet (state r k) y) next.1 ∙ is

-- all items at the front that are alike, where they are steps of a process that is not busy
module _ (quiet : List Bool) (m : Configuration) (s : Schedule) (k j n : ℕ) (ahead ys : List Item) (w : Way)
    (h : IsWalking m s k j ahead) (here : way (run_over m.source s) k ≡ w)
    (alike : (x : Item) × (ahead ≡ replicate n x ++ ys)) (some : 0 < n) (idle : look_ahead quiet w ≡ glance.Idle) where
  front : IsWalking m s k j (replicate n alike.0 ++ ys)
  front = subst (λ (xs : List Item). IsWalking m s k j xs) alike.1 h

  front_idle : look_in quiet m.state alike.0 ≡ glance.Idle
  front_idle =
      first_in quiet m s k j n alike.0 ys some front
      (subst (λ (v : Way). look_ahead quiet v ≡ glance.Idle) (sym here) idle)

  pub walks_idle : IsWalking m s (k + n) (j + n) ys
  walks_idle = idle_on quiet m s k j n alike.0 ys front front_idle

  pub passes_idle : PassesOver quiet false w (way (run_over m.source s) (k + n))
  passes_idle =
      subst (λ (v : Way). PassesOver quiet false v (way (run_over m.source s) (k + n))) here
      (idle_over quiet m s k j n alike.0 ys front front_idle)

  pub idle_within : k + n ≤ length w.run.items
  idle_within = subst (λ (v : Way). k + n ≤ length v.run.items) here walks_idle.within

  pub few_done : k + n ≤ 1000000
  few_done =
      let within = walks_idle.within in
      let most = h.schedule.few in
      omega (arith, within, most)

  pub few_skipped : j + n ≤ 1000000
  few_skipped =
      let few = few_skips (run_over m.source s) k in
      let skips = h.skips in
      let done = few_done in
      omega (arith, few, skips, done)
