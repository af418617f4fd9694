-- One step keeps a process within the lint's flow of control: it goes from a reached line to a reached line, ends the
-- operation, or traps where the lint warns of that.
use Rattle.std.specs.Prelude.{◌≡◌, ℕ, Bool, true, false, not, List, [], ◌∷◌, Option, Some, None}
use Rattle.std.specs.Prelude.{Result, Ok, Err, nat_eq, is_none, if◌then◌else◌, refl}
use Rattle.std.proofs.Common.{◌∙◌, ap, arith, inl, inr}
use Rattle.std.proofs.lemmas.Bool.{and_from, cases_Bool, eq-eqb}
use Rattle.std.proofs.lemmas.Bool.Decides.{nat_tests}
use Rattle.std.proofs.lemmas.List.Elements.{Contains-append_right}
use Rattle.std.specs.List.{AllByRecursion, Contains}
use Rattle.snap_words.specs.Kind.{may_write}
use Rattle.snap_words.specs.declared.address.Bank.{Bank}
use Rattle.snap_words.specs.declared.kind.KindTag.{KindTag}
use Rattle.snap_semantics.specs.declared.instr.Condition.{Condition}
use Rattle.snap_semantics.specs.declared.instr.Index.{Index}
use Rattle.snap_semantics.specs.declared.instr.Instr.{Instr}
use Rattle.snap_semantics.specs.declared.instr.Instr.TheVariants.{Let, Put, First, Call, Return, Finish}
use Rattle.snap_semantics.specs.declared.instr.Range.{Range}
use Rattle.snap_semantics.specs.declared.instr.Tuple.{Tuple}
use Rattle.snap_semantics.specs.declared.process.Activity.{Activity}
use Rattle.snap_semantics.specs.declared.process.Cause.{Cause}
use Rattle.snap_semantics.specs.declared.process.Cause.TheVariants as cause
use Rattle.snap_semantics.specs.declared.process.Op.{Op}
use Rattle.snap_semantics.specs.declared.process.Op.TheVariants as op
use Rattle.snap_semantics.specs.Answers.{◌>>=◌}
use Rattle.snap_semantics.specs.IsListing.{IsListing}
use Rattle.snap_semantics.specs.Listing.{has_line, instr_targets}
use Rattle.snap_semantics.specs.Source.{Name, Source, following, instr_at}
use Rattle.snap_semantics.specs.State.{Locals, Memory, value_at}
use Rattle.snap_semantics.specs.Table.{Effect, Goes, on, owned, first_goes, call_goes, return_goes, finish_goes, effect}
use Rattle.snap_semantics.specs.Value.{Context, index_value}
use Rattle.snap_lint.specs.declared.concern.Concern.TheVariants as concern
use Rattle.snap_lint.specs.declared.mode.Mode.{Mode}
use Rattle.snap_lint.specs.declared.mode.Mode.TheVariants as mode
use Rattle.snap_lint.specs.Flow.{callees, edge_to, edges, jump, line_after, line_edges, lines_in}
use Rattle.snap_lint.specs.Flow.{marked_callee, may_go_on, reach_of, way_of}
use Rattle.snap_lint.specs.Marks.{is_in, reached}
use Rattle.snap_lint.specs.Sound.{IsWarnedOf, concern_of}
use Rattle.snap_lint.specs.Warnings.{has_owners, is_own, may_write_others}
use Rattle.snap_lint.proofs.Lines.{any_of, found, following_there, in_flat, line_of, targets_of}
use Rattle.snap_lint.proofs.Marking.{edge_reached, line_reached, start_reached}
use Rattle.snap_lint.proofs.Quiet.{IsQuiet, quiet, quiet_fault}
use Rattle.snap_lint.proofs.Warned.{trap_warned}

-- what a process is at, by its operation and the line to which its call comes back
abbrev pub mode_of : Op → Option ℕ → Mode
mode_of op.Scan None = mode.Scan
mode_of op.Scan (Some link) = mode.ScanCall
mode_of (op.Update word value) None = mode.Update
mode_of (op.Update word value) (Some link) = mode.UpdateCall

-- an operation of a process is no update of a word of another one
abbrev pub OwnsWord : KindTag → (who : ℕ) → Op → Type 0
OwnsWord k who op.Scan = Unit {0}
OwnsWord k who (op.Update word value) = has_owners k ≡ true → word ≡ who

-- control may come to a line in a mode
abbrev pub Comes : Source → Mode → ℕ → Type 0
Comes s m k = is_in (lines_in (reach_of s) m) k ≡ true

-- control may come back to the line behind the call
abbrev pub ComesBack : Source → Op → Option ℕ → Type 0
ComesBack s o None = Unit {0}
ComesBack s o (Some link) = Comes s (mode_of o None) link

-- a process may stand so
pub record MayStand (s : Source) (o : Op) (link : Option ℕ) (line : ℕ) : Type 0 where
  pub here : Comes s (mode_of o link) line
  pub after_call : ComesBack s o link

-- what a step at line k leaves is as it may be
unfoldable pub Keeps : Source → ℕ → Op → Result Effect Cause → Type 0
Keeps s k o (Ok (Goes m l link line)) = MayStand s o link line
Keeps s k o (Err e) = IsWarnedOf s k e
Keeps s k o _ = Unit {0}

-- the lines at which control begins in a mode
abbrev starts : Source → Mode → List ℕ
starts s mode.Scan = s.scan ∷ []
starts s mode.ScanCall = callees s.lines (reach_of s).scan
starts s mode.Update = s.update ∷ []
starts s mode.UpdateCall = callees s.lines (reach_of s).update

reached_in : (s : Source) (m : Mode) → lines_in (reach_of s) m ≡ reached s.lines (edges s.lines (way_of m)) (starts s m)
reached_in s mode.Scan = refl
reached_in s _ = refl

module _ (s : Source) where
  -- control comes to where it begins
  pub begins : (m : Mode) (l : ℕ) → is_in (starts s m) l ≡ true → has_line s.lines l ≡ true → Comes s m l
  begins m l start is =
      rw (reached_in s m) (start_reached s.lines (edges s.lines (way_of m)) (starts s m) l start is)

  -- where control comes there is a line
  pub comes_to_line : (m : Mode) (l : ℕ) → Comes s m l → has_line s.lines l ≡ true
  comes_to_line m l is =
      line_reached s.lines (edges s.lines (way_of m)) (starts s m) l (rw (reached_in s m) at is)

module _ (s : Source) (k : ℕ) (i : Instr) (here : instr_at s.lines k ≡ Some i) where
  -- control goes on along the edges of the line
  along : (m : Mode) (l : ℕ) → Comes s m k →
      Contains (line_edges s.lines (way_of m) (line_of k i)) (record { from = k; to = l }) →
      has_line s.lines l ≡ true → Comes s m l
  along m l from edge is =
      rw (reached_in s m)
      (edge_reached s.lines (edges s.lines (way_of m)) (starts s m) k l (rw (reached_in s m) at from)
      (in_flat (line_edges s.lines (way_of m)) s.lines (line_of k i) _ (found s.lines k i here) edge) is)

  -- to the line behind
  goes_behind : (m : Mode) (l : ℕ) → Comes s m k → may_go_on (way_of m) i ≡ true →
      following s.lines k ≡ Some l → Comes s m l
  goes_behind m l from may is =
      along m l from (rw (may, is) (0, omega arith, refl)) (following_there s.lines k l is)

  -- to the line of a jump
  jumps : (m : Mode) (l : ℕ) → Comes s m k → jump i ≡ Some l → has_line s.lines l ≡ true → Comes s m l
  jumps m l from is there =
      along m l from
      (Contains-append_right (edge_to k (line_after s.lines (way_of m) (line_of k i))) (edge_to k (jump i)) _
      (rw is (0, omega arith, refl))) there

-- a process may write what the lint takes for its own
own_may : (k : KindTag) (c : Context) (o : Op) (link : Option ℕ) (b : Bank) (x : Index) → c.op ≡ o →
    OwnsWord k c.me o → is_own k (mode_of o link) b x ≡ true → may_write k c.me b (index_value c x) ≡ true
own_may k c o link b x same owns is = grind (arith, nat_tests)

-- no mode ends at a write
writes_on : (m : Mode) (x : Index) (t : Tuple) → may_go_on (way_of m) (Put x t) ≡ true
writes_on m x t = grind arith

module _ (s : Source) (k : ℕ) (o : Op) where
  -- where no line is behind one that goes on
  runs_off : (i : Instr) (link : Option ℕ) → instr_at s.lines k ≡ Some i → MayStand s o link k →
      may_go_on (way_of (mode_of o link)) i ≡ true → following s.lines k ≡ None → IsWarnedOf s k cause.OffEnd
  runs_off i link here stand may is =
      trap_warned s k i here (mode_of o link) stand.here cause.OffEnd concern.OffEnd refl
      (and_from (may_go_on (way_of (mode_of o link)) i) (is_none (following s.lines k)) may (ap is_none is))

  after_line : (i : Instr) (link : Option ℕ) (m : Memory) (l : Locals) (next : Option ℕ) →
      instr_at s.lines k ≡ Some i → MayStand s o link k → may_go_on (way_of (mode_of o link)) i ≡ true →
      following s.lines k ≡ next → Keeps s k o (on next (Goes m l link))
  unfolding Keeps
  after_line i link m l None here stand may is = runs_off i link here stand may is
  after_line i link m l (Some next) here stand may is =
      record { here = goes_behind s k i here (mode_of o link) next stand.here may is; after_call = stand.after_call }

module _ (s : Source) (listing : IsListing s) (a : Activity) where
  there : (i : Instr) → instr_at s.lines a.line ≡ Some i →
      AllByRecursion (λ n. has_line s.lines n ≡ true) (instr_targets i)
  there i here = targets_of (λ n. has_line s.lines n ≡ true) s.lines a.line i listing.targets.1.1 here

  -- a `call` leads into a call, from outside one alone
  callee_in : (target : ℕ) (marks : List ℕ) → instr_at s.lines a.line ≡ Some (Call target) →
      is_in marks a.line ≡ true → is_in (callees s.lines marks) target ≡ true
  callee_in target marks here is =
      any_of (nat_eq target) (callees s.lines marks) target
      (in_flat (marked_callee marks) s.lines (line_of a.line (Call target)) target
      (found s.lines a.line (Call target) here) (rw is (0, omega arith, refl)))
      (eq-eqb target target refl)

  called_in : (target link : ℕ) (o : Op) → instr_at s.lines a.line ≡ Some (Call target) →
      Comes s (mode_of o None) a.line → Comes s (mode_of o (Some link)) target
  called_in target link op.Scan here from =
      begins s mode.ScanCall target (callee_in target (reach_of s).scan here from) (there (Call target) here).0
  called_in target link (op.Update word value) here from =
      begins s mode.UpdateCall target (callee_in target (reach_of s).update here from) (there (Call target) here).0

  into_call : (target : ℕ) (o : Op) (m : Memory) (l : Locals) (next : Option ℕ) →
      instr_at s.lines a.line ≡ Some (Call target) → MayStand s o None a.line → following s.lines a.line ≡ next →
      Keeps s a.line o (on next (λ n. Goes m l (Some n) target))
  unfolding Keeps
  into_call target o m l None here stand is =
      runs_off s a.line o (Call target) None here stand (grind arith) is
  into_call target o m l (Some next) here stand is = record {
    here = called_in target next o here stand.here;
    after_call =
        goes_behind s a.line (Call target) here (mode_of o None) next stand.here (grind arith) is;
  }

  calls : (target : ℕ) (o : Op) (m : Memory) (l : Locals) (link : Option ℕ) →
      instr_at s.lines a.line ≡ Some (Call target) → MayStand s o link a.line →
      Keeps s a.line o (call_goes s a m l target link)
  unfolding Keeps
  calls target o m l (Some link) here stand =
      trap_warned s a.line (Call target) here (mode_of o (Some link)) stand.here cause.Nested concern.Nested refl
      (grind arith)
  calls target o m l None here stand = into_call target o m l (following s.lines a.line) here stand refl

  returns : (x : Name) (o : Op) (m : Memory) (l : Locals) (link : Option ℕ) →
      instr_at s.lines a.line ≡ Some (Return x) → MayStand s o link a.line →
      Keeps s a.line o (return_goes m l (value_at x l.views []) o link)
  unfolding Keeps
  returns x op.Scan m l None here stand = tt
  returns x (op.Update word value) m l None here stand =
      trap_warned s a.line (Return x) here mode.Update stand.here cause.BadEnd concern.BadEnd refl refl
  returns x _ m l (Some link) here stand = record { here = stand.after_call; after_call = tt }

  finishes : (o : Op) (link : Option ℕ) → instr_at s.lines a.line ≡ Some Finish → MayStand s o link a.line →
      Keeps s a.line o (finish_goes o link)
  unfolding Keeps
  finishes (op.Update word value) None here stand = tt
  finishes op.Scan None here stand =
      trap_warned s a.line Finish here mode.Scan stand.here cause.BadEnd concern.BadEnd refl refl
  finishes o link here stand =
      trap_warned s a.line Finish here (mode_of o link) stand.here cause.BadEnd concern.BadEnd refl refl

  module _ (c : Context) (m : Memory) (stand : MayStand s a.op a.link a.line) (same_op : c.op ≡ a.op)
      (owns : OwnsWord s.kind c.me a.op) where
    abbrev Here : Instr → Type 0
    Here i = instr_at s.lines a.line ≡ Some i

    -- a step at the line, whose instruction is i, leaves this
    Kept : Instr → Result Effect Cause → Type 0
    Kept i r = Keeps s a.line a.op r

    as_kept : (i : Instr) (r : Result Effect Cause) → Keeps s a.line a.op r → Kept i r
    unfolding Kept
    as_kept i r h = h

    operand : {A : Type 0} (i : Instr) (x : Result A Cause) (f : A → Result Effect Cause) → IsQuiet x →
        ((v : A) → Kept i (f v)) → Kept i (x >>= f)
    unfolding Keeps Kept
    operand i (Ok v) f q h = h v
    operand {A} i (Err e) f q h = λ d is. absurd (let none : concern_of e ≡ None = quiet_fault A e q in cc)

    either : (i : Instr) (b : Bool) (x y : Result Effect Cause) → Kept i x → Kept i y → Kept i (if b then x else y)
    either i true x y h j = h
    either i false x y h j = j

    behind : (i : Instr) (n : Memory) (l : Locals) → Here i → may_go_on (way_of (mode_of a.op a.link)) i ≡ true →
        Kept i (on (following s.lines a.line) (Goes n l a.link))
    unfolding Kept
    behind i n l here may = after_line s a.line a.op i a.link n l (following s.lines a.line) here stand may refl

    -- a line that jumps goes to its target
    to : (i : Instr) (n : Memory) (l : Locals) (target : ℕ) → Here i → jump i ≡ Some target →
        instr_targets i ≡ target ∷ [] → Kept i (Ok (Goes n l a.link target))
    unfolding Keeps Kept
    to i n l target here is only = record {
      here = jumps s a.line i here (mode_of a.op a.link) target stand.here is (rw only at (there i here)).0;
      after_call = stand.after_call;
    }

    first : (x : Name) (g : Range) (k : Condition) (target : ℕ) (p : Option ℕ) → Here (First x g k target) →
        Kept (First x g k target) (first_goes s a m c.locals x target p)
    first x g k target None here = behind (First x g k target) _ _ here refl
    first x g k target (Some p) here = to (First x g k target) _ _ target here refl refl

    own_then : {A : Type 0} (i : Instr) (b : Bank) (x : Index) (v : A) (f : A → Result Effect Cause) → Here i →
        may_write_others s.kind (mode_of a.op a.link) i ≡ not (is_own s.kind (mode_of a.op a.link) b x) →
        ((w : A) → Kept i (f w)) → Kept i (owned s.kind c b (index_value c x) v >>= f)
    unfolding Keeps Kept
    own_then {A} i b x v f here says h = elim (cases_Bool (is_own s.kind (mode_of a.op a.link) b x)) [
      | inl is ↦ rw (own_may s.kind c a.op a.link b x same_op owns is) (h v)
      | inr is ↦
          let warned : IsWarnedOf s a.line cause.Owner =
          trap_warned s a.line i here (mode_of a.op a.link) stand.here cause.Owner concern.Owner refl
          (says ∙ ap not is) in
          elim (may_write s.kind c.me b (index_value c x))
          as (λ t. Kept i (◌>>=◌ {A = A} (if t then Ok v else Err cause.Owner) f)) [ true ↦ h v | false ↦ warned ]
    ]

    ruleset keeping =
        (own_then, operand, either, behind, writes_on, to, first, as_kept, calls, returns, finishes, quiet)

    kept : (i : Instr) → Here i → Kept i (effect s c m a i)
    kept (Let x e) here = search keeping
    kept _ here = search keeping depth 9

    -- a step at a line of the flow
    pub line_keeps : (i : Instr) → Here i → Keeps s a.line a.op (effect s c m a i)
    unfolding Kept
    line_keeps i here = kept i here
