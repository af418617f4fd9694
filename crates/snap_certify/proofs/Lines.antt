-- An item that writes no word changes no value and does not execute the line at which updates write (`dry_line`); the
-- line that a certification chooses writes a word, where it is there (`changing_writes`, `putting_writes`).
use Rattle.std.specs.Prelude.{◌≡◌, ℕ, zero, suc, ◌+◌, ◌<◌, ◌≤◌, ◌⊎◌, Bool, true, false, List, [], ◌∷◌, length}
use Rattle.std.specs.Prelude.{Option, Some, None, if◌then◌else◌, option_map, refl}
use Rattle.std.proofs.Common.{sym, ◌∙◌, ap, arith, inl, inr}
use Rattle.std.proofs.lemmas.Bool.{cases_Bool, true_from_ne_false}
use Rattle.std.proofs.lemmas.Bool.Decides.{nat_tests}
use Rattle.snap_words.specs.Shape.{Counts}
use Rattle.snap_semantics.specs.IsListing.{AreRising}
use Rattle.snap_semantics.specs.Source.{Source, instr_at}
use Rattle.snap_semantics.specs.State.{Locals, State, process_at, values}
use Rattle.snap_semantics.specs.Table.{done, who}
use Rattle.snap_semantics.specs.declared.instr.Instr.{Instr}
use Rattle.snap_semantics.specs.declared.instr.Line.{Line}
use Rattle.snap_semantics.specs.declared.process.Activity.{Activity}
use Rattle.snap_semantics.specs.declared.process.Item.{Item}
use Rattle.snap_runs.specs.Run.{Run, item as item_at, state}
use Rattle.snap_runs.specs.StepRoles.{is_write, line_step_role, step_role_at, step_role_of}
use Rattle.snap_runs.specs.Update.{goes_on}
use Rattle.snap_runs.proofs.Embedding.{next_state}
use Rattle.snap_record.proofs.Recording.{stay_when}
use Rattle.snap_certify.specs.Certification.{at_line, changes, changing_line, executed, is_put, putting_line}
use Rattle.snap_certify.specs.Certification.{seen_item, stepping, write_line}
use Rattle.snap_certify.proofs.Findings.{found_at_step, values_kept}
use Rattle.snap_certify.specs.Finding.{WritesWord}

-- which lines write a word
put_is : (a : Activity) (l : Locals) (i : Instr) → is_write (line_step_role a l i) ≡ is_put i
put_is a l i = grind arith

-- a step at a line that writes no word executes another line, or traps where there is none
item_elsewhere : (s : Source) (line : ℕ) (n : Counts) (S : State) (x : Item) → WritesWord s line →
    is_write (step_role_of s S x) ≡ false →
    at_line line (if goes_on (done s n S x).1 then stepping x (process_at S (who x)).status else None) ≡ false
item_elsewhere s line n S x word dry = grind (arith, nat_tests, put_is)

-- an item that writes no word does not execute a line that writes one
pub dry_line : (r : Run) (line t : ℕ) → WritesWord r.source line →
    is_write (step_role_of r.source (state r t) (item_at r (suc t))) ≡ false →
    at_line line (executed (seen_item r (suc t))) ≡ false
dry_line r line t word dry = item_elsewhere r.source line r.shape (state r t) (item_at r (suc t)) word dry

-- an item that writes no word changes no value
pub dry_values : (r : Run) (t : ℕ) → t < length r.items →
    is_write (step_role_of r.source (state r t) (item_at r (suc t))) ≡ false → changes (seen_item r (suc t)) ≡ false
dry_values r t below dry =
    values_kept (seen_item r (suc t))
    (ap values (next_state r t below) ∙ stay_when r.source r.shape (state r t) (item_at r (suc t)) dry)

-- the role of a step by what it finds its process at
role_by : (s : Source) (S : State) (x : Item) (a : Activity) → stepping x (process_at S (who x)).status ≡ Some a →
    step_role_of s S x ≡ step_role_at a (process_at S (who x)).locals (instr_at s.lines a.line)
role_by s S x a at = grind arith

-- the line of an item that changes the values writes a word
executed_writes : (r : Run) (t : ℕ) → t < length r.items → changes (seen_item r (suc t)) ≡ true →
    (line : ℕ) (o : Option Activity) → executed (seen_item r (suc t)) ≡ o →
    option_map (λ (a : Activity). a.line) o ≡ Some line → WritesWord r.source line
executed_writes r t below changed line None is at = absurd cc
executed_writes r t below changed line (Some a) is at = λ i there.
    let same : a.line ≡ line = cc in
    let x = item_at r (suc t) in
    let l = (process_at (state r t) (who x)).locals in
    let role : is_write (step_role_of r.source (state r t) x) ≡ is_put i =
    ap is_write (role_by r.source (state r t) x a (found_at_step (seen_item r (suc t)) a is)
    ∙ ap (step_role_at a l) (ap (instr_at r.source.lines) same ∙ there)) ∙ put_is a l i in
    true_from_ne_false (is_put i) (λ none.
    let e : true ≡ false = sym changed ∙ dry_values r t below (role ∙ none) in cc)

-- the line of the first item that changes the values
pub changing_writes : (r : Run) (line t more : ℕ) → t + more ≤ length r.items → changing_line r t more ≡ Some line →
    WritesWord r.source line
changing_writes r line t zero le is = absurd cc
changing_writes r line t (suc more) le is = elim (cases_Bool (changes (seen_item r (suc t)))) [
  | inl changed ↦
      executed_writes r t (omega arith) changed line (executed (seen_item r (suc t))) refl (rw changed at is)
  | inr still ↦ changing_writes r line (suc t) more (omega arith) (rw still at is)
]

-- the first line that writes a word is behind the others, and that writes one
one_beyond : (b : Bool) (n m k : ℕ) → n < m → (k ≡ 0) ⊎ (m < k) →
    ((if b then m else k) ≡ 0) ⊎ (n < (if b then m else k))
one_beyond b n m k less later = grind arith

beyond : (n : ℕ) (lines : List Line) → AreRising n lines → (putting_line lines ≡ 0) ⊎ (n < putting_line lines)
beyond n [] rising = inl refl
beyond n (l ∷ lines) rising =
    one_beyond (is_put l.instr) n l.number (putting_line lines) rising.0 (beyond l.number lines rising.1)

one_writes : (n k : ℕ) (l : Line) (lines : List Line) (i : Instr) → n < l.number → (k ≡ 0) ⊎ (l.number < k) →
    (instr_at lines k ≡ Some i → is_put i ≡ true) →
    instr_at (l ∷ lines) (if is_put l.instr then l.number else k) ≡ Some i → is_put i ≡ true
one_writes n k l lines i less beyond later is = grind (arith, nat_tests)

first_writes : (n : ℕ) (lines : List Line) (i : Instr) → AreRising n lines →
    instr_at lines (putting_line lines) ≡ Some i → is_put i ≡ true
first_writes n [] i rising is = absurd cc
first_writes n (l ∷ lines) i rising is =
    one_writes n (putting_line lines) l lines i rising.0 (beyond l.number lines rising.1)
    (first_writes l.number lines i rising.1) is

pub putting_writes : (s : Source) → AreRising 0 s.lines → WritesWord s (putting_line s.lines)
putting_writes s rising = λ i is. first_writes 0 s.lines i rising is

-- the line that is chosen
pub chosen : (r : Run) (o : Option ℕ) (line : ℕ) → o ≡ Some line → o ≡ changing_line r 0 (length r.items) →
    line ≡ write_line r
chosen r o line is found = rw (← found, is)

pub chosen_writes : (r : Run) (o : Option ℕ) (line : ℕ) → o ≡ Some line →
    o ≡ changing_line r 0 (length r.items) → WritesWord r.source line
chosen_writes r o line is found = changing_writes r line 0 (length r.items) (omega arith) (sym found ∙ is)
