-- `Turn`: what an item does to the link of its process. The scan of an update begins at a line `call N`, which leaves a
-- link, and ends at a line `return S`; in between the link stays, or the process stops for good.
use Rattle.std.proofs.Common.{◌≡◌, ℕ, false, Option, Some, ◌∙◌, ◌⊎◌, true, List, None, Err, inl, inr, ◌-◌, ◌<◌, Result}
use Rattle.std.proofs.Common.{Ok, length, slice_set, refl, sym, subst, ap, arith, []}
use Rattle.std.proofs.lemmas.List.{get_or-set_same}
use Rattle.snap_words.specs.Shape.{Counts, IsOneOf}
use Rattle.snap_semantics.specs.declared.process.Status.{Status}
use Rattle.snap_semantics.specs.declared.process.Status.TheVariants.{Trapped, Crashed, Idle, Busy}
use Rattle.snap_semantics.specs.declared.instr.Instr.{Instr}
use Rattle.snap_semantics.specs.declared.process.Item.{Item}
use Rattle.snap_semantics.specs.declared.process.Item.TheVariants as item
use Rattle.snap_semantics.specs.declared.process.Outcome.{Outcome}
use Rattle.snap_semantics.specs.declared.process.Outcome.TheVariants as outcome
use Rattle.snap_semantics.specs.declared.instr.Instr.TheVariants.{Call, Return}
use Rattle.snap_semantics.specs.declared.process.Cause.{Cause}
use Rattle.snap_semantics.specs.declared.process.Op.{Op}
use Rattle.snap_semantics.specs.declared.process.Activity.{Activity}
use Rattle.snap_semantics.specs.declared.process.Cause.TheVariants as cause
use Rattle.snap_semantics.specs.declared.process.Reason.{Reason}
use Rattle.snap_semantics.specs.Source.{Source, Name, instr_at}
use Rattle.snap_semantics.specs.State.{Locals, Memory, Process, State, nobody, process_at, value_at}
use Rattle.snap_semantics.specs.Table.{return_goes, Effect, Goes, call, call_skip, called, crash}
use Rattle.snap_semantics.specs.Table.{effect, effect_at, leave, step, done, who}
use Rattle.snap_semantics.specs.Value.{Context}
use Rattle.snap_acts.specs.Searches.{is_enter, is_leave}
use Rattle.snap_acts.specs.declared.act.Act.{Act}
use Rattle.snap_acts.specs.declared.act.Act.TheVariants as act
use Rattle.snap_reading_laws.proofs.Lines.{IsLinked, Links, links}
use Rattle.snap_runs.specs.Scan.{IsCallLine, line_in, link_in}
use Rattle.snap_acts.specs.Trace.{act_of, context_of, intent_in, intent_of, intent_of_instr, intent_of_line, stepped}
use Rattle.snap_acts.specs.Trace.{step_of}

-- a process that goes on nowhere
abbrev pub IsStuck : Status → Type 0
IsStuck (Trapped c a) = Unit {0}
IsStuck (Crashed was) = Unit {0}
IsStuck _ = ⊥

-- the link of a process stays where it does not leave
stays_of : (i : Instr) (k : ℕ) (b a : Option ℕ) (t : Act) → IsLinked i t b a → is_leave t ≡ false → b ≡ Some k →
    a ≡ Some k
stays_of i k b a act.Enter h stays has = let none = h.1 in absurd cc
stays_of i k b a (act.Leave x) h stays has = absurd cc
stays_of i k b a _ h stays has = h ∙ has

-- a scan of an update of process i begins by this item
pub record Begins (s : Source) (i : ℕ) (x : Item) (u : Status) (o : Outcome) (u' : Status) : Type 0 where
  pub item : x ≡ item.Step i
  pub line : IsCallLine (line_in s u)
  pub goes : o ≡ outcome.Stepped
  pub free : link_in u ≡ None
  pub link : ℕ
  pub has : link_in u' ≡ Some link

-- a scan of an update ends at an item
pub record Returns (s : Source) (i : ℕ) (x : Item) (u : Status) (y : Name) : Type 0 where
  pub item : x ≡ item.Step i
  pub line : line_in s u ≡ Some (Return y)
  pub link : ℕ
  pub has : link_in u ≡ Some link

-- what an item of process i, which did this, makes of its status
pub record Turn (s : Source) (i : ℕ) (x : Item) (u : Status) (t : Act) (o : Outcome) (u' : Status) : Type 0 where
  pub enters : t ≡ act.Enter → Begins s i x u o u'
  pub calls : IsCallLine (line_in s u) → o ≡ outcome.Stepped → is_enter t ≡ true
  pub leaves : (y : Name) → t ≡ act.Leave y → Returns s i x u y
  pub stays : (k : ℕ) → is_leave t ≡ false → link_in u ≡ Some k → (link_in u' ≡ Some k) ⊎ IsStuck u'
  pub stuck : IsStuck u → IsStuck u'
  pub returns : (y : Name) (k : ℕ) → x ≡ item.Step i → line_in s u ≡ Some (Return y) → link_in u ≡ Some k →
      is_leave t ≡ true

-- a line that calls is about to begin a scan
call_enters : (c : Context) (S : State) (i : ℕ) (j : Instr) → IsCallLine (Some j) →
    is_enter (stepped (intent_of_line c j) S i) ≡ true
call_enters c S i (Call target) h = refl
call_enters c S i _ h = absurd h

return_goes_on : (m : Memory) (l : Locals) (v : List ℕ) (o : Op) (link : Option ℕ) (k : ℕ) (c : Cause) →
    link ≡ Some k → return_goes m l v o link ≡ Err c → ⊥
return_goes_on m l v o (Some line) k c has e = absurd cc
return_goes_on m l v o None k c has e = absurd cc

module _ (s : Source) (shape : Counts) (i : ℕ) where
  -- an item that changes nothing
  rests : {x : Item} {u u' : Status} {o : Outcome} → u' ≡ u → (o ≡ outcome.Stepped → ⊥) →
      ((y : Name) → x ≡ item.Step i → line_in s u ≡ Some (Return y) → ⊥) → Turn s i x u act.Skip o u'
  rests {x} {u} {u'} {o} same idle none = subst (Turn s i x u act.Skip o) (sym same) (record {
    enters = λ is. absurd cc;
    calls = λ line goes. absurd (idle goes);
    leaves = λ y is. absurd cc;
    stays = λ k away has. inl has;
    stuck = λ h. h;
    returns = λ y k is line has. absurd (none y is line);
  })

  -- an operation that traps, ends or begins at a step or a call
  stops : {x : Item} {u : Status} {t : Act} {o : Outcome} {v : Status} (u' : Status) → u' ≡ v →
      (o ≡ outcome.Stepped → ⊥) → (t ≡ act.Enter → ⊥) →
      ((y : Name) → t ≡ act.Leave y → ⊥) → ((k : ℕ) → link_in u ≡ Some k → IsStuck u') → (IsStuck u → IsStuck u') →
      ((y : Name) (k : ℕ) → x ≡ item.Step i → line_in s u ≡ Some (Return y) → link_in u ≡ Some k → ⊥) →
      Turn s i x u t o v
  stops {x} {u} {t} {o} {v} u' same idle enters leaves stays stuck returns = subst (Turn s i x u t o) same (record {
    enters = λ is. absurd (enters is);
    calls = λ line goes. absurd (idle goes);
    leaves = λ y is. absurd (leaves y is);
    stays = λ k away has. inr (stays k has);
    stuck = stuck;
    returns = λ y k is line has. absurd (returns y k is line has);
  })

  none_some : (o : Option ℕ) (k : ℕ) → o ≡ None → o ≡ Some k → ⊥
  none_some o k none some = absurd cc

  own_status : (S : State) (m : Memory) (p : Process) → IsOneOf shape.n i → length S.processes ≡ shape.n →
      p.status ≡ (process_at (record { memory = m; processes = slice_set S.processes (i - 1) p }) i).status
  own_status S m p one count =
      let within : i - 1 < length S.processes =
      (let first = one.0 in let last = one.1 in omega (arith, first, last, count)) in
      ap (λ (q : Process). q.status) (sym (get_or-set_same S.processes (i - 1) p nobody within))

  leave_turn : (S : State) (a : Activity) (c : Context) (j : Instr) (e : Result Effect Cause) → IsOneOf shape.n i →
      length S.processes ≡ shape.n → instr_at s.lines a.line ≡ Some j →
      ((S' : State) → Links j (stepped (intent_of_line c j) S' i) a.link e) →
      ((y : Name) (k : ℕ) (w : Cause) → j ≡ Return y → a.link ≡ Some k → e ≡ Err w → ⊥) →
      (let r = leave S i a (process_at S i).locals e in
      Turn s i (item.Step i) (Busy a) (act_of (intent_of_line c j) r.0 i (item.Step i) r.1) r.1 (process_at r.0
      i).status)
  leave_turn S a c j (Ok (Goes m l link line)) one count there h fails =
      let q : Process = record { status = Busy (record { op = a.op; line = line; link = link }); locals = l } in
      let S' : State = record { memory = m; processes = slice_set S.processes (i - 1) q } in
      let t : Act = stepped (intent_of_line c j) S' i in
      subst (Turn s i (item.Step i) (Busy a) t outcome.Stepped) (own_status S m q one count) (record {
        enters = λ is. (let g = subst (λ (v : Act). IsLinked j v a.link link) is (h S') in record {
          item = refl;
          line = subst IsCallLine (sym there) g.0;
          goes = refl;
          free = g.1;
          link = g.2;
          has = g.3;
        });
        calls = λ line goes. call_enters c S' i j (subst IsCallLine there line);
        leaves = λ y is. (let g = subst (λ (v : Act). IsLinked j v a.link link) is (h S') in record {
          item = refl;
          line = there ∙ ap (λ (v : Instr). Some v) g.0;
          link = g.1;
          has = g.2;
        });
        stays = λ k away has. inl (stays_of j k a.link link t (h S') away has);
        stuck = λ none. absurd none;
        returns = λ y k is line has.
            let same : j ≡ Return y = (let both : Some j ≡ Some (Return y) = sym there ∙ line in cc) in
            ap (λ (v : Instr). is_leave (stepped (intent_of_line c v) S' i)) same;
      })
  leave_turn S a c j (Ok _) one count there h fails =
      stops Idle (own_status S S.memory (record { status = Idle; locals = (process_at S i).locals }) one count)
      (λ goes. absurd cc) (λ is. absurd cc) (λ y is. absurd cc) (λ k has. none_some a.link k (h S) has)
      (λ none. absurd none) (λ y k is line has. none_some a.link k (h S) has)
  leave_turn S a c j (Err w) one count there h fails =
      stops (Trapped w a)
      (own_status S S.memory (record { status = Trapped w a; locals = (process_at S i).locals }) one count)
      (λ goes. absurd cc) (λ is. absurd cc) (λ y is. absurd cc) (λ k has. tt) (λ none. tt)
      (λ y k is line has. fails y k w (let both : Some j ≡ Some (Return y) = sym there ∙ line in cc) has refl)

  busy_turn : (S : State) (a : Activity) (c : Context) (found : Option Instr) → IsOneOf shape.n i →
      length S.processes ≡ shape.n → instr_at s.lines a.line ≡ found → c.me ≡ i →
      (let r = leave S i a (process_at S i).locals (effect_at s c S.memory a found) in
      Turn s i (item.Step i) (Busy a) (act_of (intent_of_instr c found) r.0 i (item.Step i) r.1) r.1
      (process_at r.0 i).status)
  busy_turn S a c None one count there me =
      stops (Trapped cause.OffEnd a)
      (own_status S S.memory (record { status = Trapped cause.OffEnd a; locals = (process_at S i).locals }) one count)
      (λ goes. absurd cc) (λ is. absurd cc) (λ y is. absurd cc) (λ k has. tt) (λ none. tt)
      (λ y k is line has. absurd (let both : None ≡ Some (Return y) = sym there ∙ line in cc))
  busy_turn S a c (Some j) one count there me =
      leave_turn S a c j (effect s c S.memory a j) one count there
      (λ S'. subst (λ (k : ℕ). Links j (stepped (intent_of_line c j) S' k) a.link (effect s c S.memory a j)) me
      (links s S' c S.memory a j))
      (λ y k w is has e. return_goes_on S.memory c.locals (value_at y c.locals.views []) a.op a.link k w has
      (subst (λ (v : Instr). effect s c S.memory a v ≡ Err w) is e))

  step_turn : (S : State) (u : Status) → (process_at S i).status ≡ u → IsOneOf shape.n i →
      length S.processes ≡ shape.n → (let r = step s shape S i (process_at S i) u in
      Turn s i (item.Step i) u (act_of (intent_in s shape i (process_at S i) u) r.0 i (item.Step i) r.1) r.1
      (process_at r.0 i).status)
  step_turn S (Busy a) is one count =
      busy_turn S a (context_of shape i (process_at S i) a.op) (instr_at s.lines a.line) one count refl refl
  step_turn S _ is one count = rests is (λ goes. absurd cc) (λ y same line. absurd cc)

  called_turn : (S : State) (o : Op) (why : Option Reason) → (process_at S i).status ≡ Idle → IsOneOf shape.n i →
      length S.processes ≡ shape.n → (let r = called s S i (process_at S i) o why in
      Turn s i (item.Call i o) Idle (act_of (intent_of s shape S (item.Call i o)) r.0 i (item.Call i o) r.1) r.1
      (process_at r.0 i).status)
  called_turn S o (Some reason) is one count = rests is (λ goes. absurd cc) (λ y same line. absurd cc)
  called_turn S o None is one count =
      stops _ (own_status S S.memory _ one count) (λ goes. absurd cc) (λ e. absurd cc) (λ y e. absurd cc)
      (λ k has. absurd cc) (λ none. absurd none) (λ y k same line has. absurd cc)

  call_turn : (S : State) (o : Op) (u : Status) → (process_at S i).status ≡ u → IsOneOf shape.n i →
      length S.processes ≡ shape.n → (let r = call s shape S i o (process_at S i) u in
      Turn s i (item.Call i o) u (act_of (intent_of s shape S (item.Call i o)) r.0 i (item.Call i o) r.1) r.1
      (process_at r.0 i).status)
  call_turn S o Idle is one count = called_turn S o (call_skip s.kind shape i o) is one count
  call_turn S o _ is one count = rests is (λ goes. absurd cc) (λ y same line. absurd cc)

  crashed_turn : (S : State) (u : Status) (was : Option Activity) → IsOneOf shape.n i →
      length S.processes ≡ shape.n →
      Turn s i (item.Crash i) u act.Crash outcome.Crashed (process_at (record {
        memory = S.memory;
        processes =
            slice_set S.processes (i - 1) (record { status = Crashed was; locals = (process_at S i).locals });
      }) i).status
  crashed_turn S u was one count =
      stops (Crashed was)
      (own_status S S.memory (record { status = Crashed was; locals = (process_at S i).locals }) one count)
      (λ goes. absurd cc) (λ e. absurd cc) (λ y e. absurd cc) (λ k has. tt) (λ none. tt)
      (λ y k same line has. absurd cc)

  crash_turn : (S : State) (u : Status) → (process_at S i).status ≡ u → IsOneOf shape.n i →
      length S.processes ≡ shape.n → (let r = crash S i (process_at S i) u in
      Turn s i (item.Crash i) u (act_of (intent_of s shape S (item.Crash i)) r.0 i (item.Crash i) r.1) r.1
      (process_at r.0 i).status)
  crash_turn S (Busy a) is one count = crashed_turn S (Busy a) (Some a) one count
  crash_turn S Idle is one count = crashed_turn S Idle None one count
  crash_turn S _ is one count = rests is (λ goes. absurd cc) (λ y same line. absurd cc)

-- each item
pub done_turn : (s : Source) (shape : Counts) (S : State) (t : ℕ) (x : Item) → IsOneOf shape.n (who x) →
    length S.processes ≡ shape.n →
    Turn s (step_of s shape S t x).process x (process_at S (step_of s shape S t x).process).status
    (step_of s shape S t x).act (done s shape S x).1
    (process_at (done s shape S x).0 (step_of s shape S t x).process).status
unfolding step_of
done_turn s shape S t (item.Step i) one count = step_turn s shape i S (process_at S i).status refl one count
done_turn s shape S t (item.Call i o) one count = call_turn s shape i S o (process_at S i).status refl one count
done_turn s shape S t (item.Crash i) one count = crash_turn s shape i S (process_at S i).status refl one count
