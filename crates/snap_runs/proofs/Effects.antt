-- What a line does, whatever its form: it traps, ends its operation, or goes on after it has written one register or
-- local at most. The one case analysis of the table that says so: a law that holds of each of these holds of each line.
use Rattle.std.proofs.Common.{◌≡◌, ℕ, Bool, true, false, ◌&&◌, List, [], Option, Some, None, Result, Ok, Err, refl}
use Rattle.std.proofs.Common.{nat_lt, if◌then◌else◌, slice_set, sym, ap, subst, ◌∙◌}
use Rattle.std.specs.List.{list_all}
use Rattle.snap_words.specs.Kind.{is_bit, may_write}
use Rattle.snap_words.specs.Shape.{places}
use Rattle.snap_words.specs.Word.{Word}
use Rattle.snap_words.specs.declared.address.Bank.TheVariants as bank
use Rattle.snap_semantics.specs.Answers.{◌>>=◌}
use Rattle.snap_semantics.specs.Source.{Name, Source, following}
use Rattle.snap_semantics.specs.State.{Locals, Memory, value_at, with_memory_words, with_row, with_scalar}
use Rattle.snap_semantics.specs.State.{with_view, with_words}
use Rattle.snap_semantics.specs.Table.{Effect, Goes, Answers, Finishes, all_true, bank_of, bit_value, bits_of}
use Rattle.snap_semantics.specs.Table.{call_goes, conditions, each_value, effect, finish_goes, first_goes}
use Rattle.snap_semantics.specs.Table.{first_true, on, owned, places_to, range_end, return_goes, tuple_word}
use Rattle.snap_semantics.specs.Table.{with_bit_at, with_bits, with_memory_bits, with_memory_views}
use Rattle.snap_semantics.specs.Value.{Context, at_place, condition_holds, each_of, expr_value, index_value, place_in}
use Rattle.snap_semantics.specs.declared.instr.BitBank.{BitBank}
use Rattle.snap_semantics.specs.declared.instr.Expr.{Expr}
use Rattle.snap_semantics.specs.declared.instr.Index.{Index}
use Rattle.snap_semantics.specs.declared.instr.Instr.{Instr}
use Rattle.snap_semantics.specs.declared.instr.Instr.TheVariants.{Let, LetPlace, Get, Bit, Look, Put, PutBit, PutView}
use Rattle.snap_semantics.specs.declared.instr.Instr.TheVariants.{ViewData, ViewOf, Each, First, Next, If, IfAll}
use Rattle.snap_semantics.specs.declared.instr.Instr.TheVariants.{Goto, Call, Return, Finish}
use Rattle.snap_semantics.specs.declared.instr.Tuple.{Tuple}
use Rattle.snap_semantics.specs.declared.process.Activity.{Activity}
use Rattle.snap_semantics.specs.declared.process.Cause.{Cause}
use Rattle.snap_semantics.specs.declared.process.Cause.TheVariants as cause
use Rattle.snap_semantics.specs.declared.process.Op.{Op}
use Rattle.snap_semantics.specs.declared.process.Op.TheVariants.{Scan, Update}

-- The registers and the locals behind a line that goes on. A word is that of the tuple of a line `put r`, which writes
-- no other; a bit is of a row that is there; and a view is that of the local which a line `put v` names.
pub data Writes (c : Context) (m : Memory) : Instr → Memory → Locals → Type 0 where
  nothing : (i : Instr) → Writes c m i m c.locals
  sets_scalar : (i : Instr) (x : Name) (v : ℕ) → Writes c m i m (with_scalar x v c.locals)
  sets_row : (i : Instr) (x : Name) (v : List ℕ) → Writes c m i m (with_row x v c.locals)
  sets_word : (i : Instr) (x : Name) (k : ℕ) (w : Word) →
      Writes c m i m (with_words x (slice_set (value_at x c.locals.words []) k w) c.locals)
  sets_view : (i : Instr) (x : Name) (v : List ℕ) → Writes c m i m (with_view x v c.locals)
  puts_word : (j : Index) (t : Tuple) (k : ℕ) (w : Word) → tuple_word c t ≡ Ok w →
      Writes c m (Put j t) (with_memory_words (slice_set m.words k w) m) c.locals
  puts_bit : (b : BitBank) (j i : Index) (e : Expr) (k p x : ℕ) → place_in c.shape.n (index_value c j) ≡ Ok k →
      Writes c m (PutBit b j i e) (with_memory_bits b (with_bit_at (bits_of b m) k p x) m) c.locals
  puts_view : (j : Index) (x : Name) (k : ℕ) →
      Writes c m (PutView j x) (with_memory_views (slice_set m.views k (value_at x c.locals.views [])) m) c.locals

-- what an instruction does in a process at this activity: only `return` answers, and only a scan; only an update
-- finishes
pub data Does (c : Context) (m : Memory) (a : Activity) : Instr → Result Effect Cause → Type 0 where
  traps : (i : Instr) (e : Cause) → Does c m a i (Err e)
  goes : (i : Instr) (m' : Memory) (l' : Locals) (link : Option ℕ) (line : ℕ) → Writes c m i m' l' →
      Does c m a i (Ok (Goes m' l' link line))
  answers : (x : Name) → a.op ≡ Scan → a.link ≡ None →
      Does c m a (Return x) (Ok (Answers (value_at x c.locals.views [])))
  finishes : (i : Instr) (word value : ℕ) → a.op ≡ Update word value → Does c m a i (Ok Finishes)

-- what a test lets through is as it was
let_through : {A : Type 0} (b : Bool) (e : Cause) (x y : A) →
    (let r : Result A Cause = if b then Ok x else Err e in r) ≡ Ok y → y ≡ x
let_through true e x y is = cc
let_through false e x y is = absurd cc

module _ (s : Source) (c : Context) (m : Memory) (a : Activity) where
  -- a value that may trap, and what is done with it
  bound : {A : Type 0} (i : Instr) (r : Result A Cause) (f : A → Result Effect Cause) →
      ((x : A) → r ≡ Ok x → Does c m a i (f x)) → Does c m a i (r >>= f)
  bound i (Ok x) f h = h x refl
  bound i (Err e) f h = traps i e

  -- on to the following line, where there is one
  onward : (i : Instr) (o : Option ℕ) (m' : Memory) (l' : Locals) (link : Option ℕ) → Writes c m i m' l' →
      Does c m a i (on o (Goes m' l' link))
  onward i None m' l' link h = traps i cause.OffEnd
  onward i (Some line) m' l' link h = goes i m' l' link line h

  next : (i : Instr) (m' : Memory) (l' : Locals) → Writes c m i m' l' →
      Does c m a i (on (following s.lines a.line) (Goes m' l' a.link))
  next i m' l' h = onward i (following s.lines a.line) m' l' a.link h

  -- to a line, or on to the following one
  either : (i : Instr) (b : Bool) (target : ℕ) (l₁ l₂ : Locals) → Writes c m i m l₁ → Writes c m i m l₂ →
      Does c m a i
      (if b then Ok (Goes m l₁ a.link target) else on (following s.lines a.line) (Goes m l₂ a.link))
  either i true target l₁ l₂ h k = goes i m l₁ a.link target h
  either i false target l₁ l₂ h k = next i m l₂ k

  first_does : (i : Instr) (x : Name) (target : ℕ) (o : Option ℕ) →
      Does c m a i (first_goes s a m c.locals x target o)
  first_does i x target None = next i m c.locals (nothing i)
  first_does i x target (Some p) = goes i m (with_scalar x p c.locals) a.link target (sets_scalar i x p)

  call_on : (i : Instr) (target : ℕ) (o : Option ℕ) → Does c m a i (on o (λ k. Goes m c.locals (Some k) target))
  call_on i target None = traps i cause.OffEnd
  call_on i target (Some k) = goes i m c.locals (Some k) target (nothing i)

  call_does : (i : Instr) (target : ℕ) (link : Option ℕ) → Does c m a i (call_goes s a m c.locals target link)
  call_does i target (Some k) = traps i cause.Nested
  call_does i target None = call_on i target (following s.lines a.line)

  return_does : (x : Name) (o : Op) (link : Option ℕ) → a.op ≡ o → a.link ≡ link →
      Does c m a (Return x) (return_goes m c.locals (value_at x c.locals.views []) o link)
  return_does x o (Some k) at is = goes (Return x) m c.locals None k (nothing (Return x))
  return_does x Scan None at is = answers x at is
  return_does x (Update word value) None at is = traps (Return x) cause.BadEnd

  finish_does : (i : Instr) (o : Op) (link : Option ℕ) → a.op ≡ o → Does c m a i (finish_goes o link)
  finish_does i (Update word value) None at = finishes i word value at
  finish_does i _ _ at = traps i cause.BadEnd

  -- each form of a line
  pub line_does : (i : Instr) → Does c m a i (effect s c m a i)
  line_does (Let x e) =
      let i = Let x e in bound i (expr_value c e) _ (λ v _. next i m _ (sets_scalar i x v))
  line_does (LetPlace x j e) =
      let i = LetPlace x j e in
      bound i (place_in (places c.shape) (index_value c j)) _ (λ k _.
      bound i (expr_value c e) _ (λ v _. next i m _ (sets_row i x _)))
  line_does (Get x j r) =
      let i = Get x j r in
      bound i (place_in (places c.shape) (index_value c j)) _ (λ k _.
      bound i (place_in c.shape.w (index_value c r)) _ (λ p _. next i m _ (sets_word i x k _)))
  line_does (Bit x b j k) =
      let i = Bit x b j k in
      bound i (place_in c.shape.n (index_value c j)) _ (λ p _.
      bound i (place_in c.shape.n (index_value c k)) _ (λ q _. next i m _ (sets_scalar i x _)))
  line_does (Look x j) =
      let i = Look x j in
      bound i (place_in c.shape.n (index_value c j)) _ (λ p _. next i m _ (sets_view i x _))
  line_does (Put j t) =
      let i = Put j t in
      bound i (place_in c.shape.w (index_value c j)) _ (λ p _. bound i (tuple_word c t) _ (λ parts is.
      bound i (with_bits parts) _ (λ w bits. bound i (owned s.kind c bank.R (index_value c j) w) _ (λ x own.
      let same : x ≡ parts =
      let_through (may_write s.kind c.me bank.R (index_value c j)) cause.Owner w x own
      ∙ let_through (is_bit parts.toggle && list_all is_bit parts.handshakes) cause.NotABit parts w bits in
      next i _ c.locals (puts_word j t p x (is ∙ ap (λ y. let r : Result Word Cause = Ok y in r) (sym same)))))))
  line_does (PutBit b j k e) =
      let i = PutBit b j k e in
      bound i (place_in c.shape.n (index_value c j)) _ (λ p there.
      bound i (place_in c.shape.n (index_value c k)) _ (λ q _. bound i (expr_value c e) _ (λ v _.
      bound i (bit_value v) _ (λ w _. bound i (owned s.kind c (bank_of b) (index_value c j) w) _ (λ x _.
      next i _ c.locals (puts_bit b j k e p q x there))))))
  line_does (PutView j x) =
      let i = PutView j x in
      let old = value_at x c.locals.views [] in
      bound i (place_in c.shape.n (index_value c j)) _ (λ p _.
      bound i (owned s.kind c bank.V (index_value c j) old) _ (λ v own.
      subst (λ u. Does c m a i (on (following s.lines a.line)
      (Goes (with_memory_views (slice_set m.views p u) m) c.locals a.link)))
      (sym (let_through (may_write s.kind c.me bank.V (index_value c j)) cause.Owner old v own))
      (next i _ c.locals (puts_view j x p))))
  line_does (ViewData x y) = let i = ViewData x y in next i m _ (sets_view i x _)
  line_does (ViewOf x y j) =
      let i = ViewOf x y j in
      bound i (place_in (places c.shape) (index_value c j)) _ (λ p _. next i m _ (sets_view i x _))
  line_does (Each g x e k) =
      let i = Each g x e k in
      bound i (each_of (λ p. each_value (at_place c p) x e k) (places_to (range_end c.shape g))) _ (λ vs _.
      next i m _ (sets_row i x _))
  line_does (First x g k target) =
      let i = First x g k target in
      bound i (conditions c (range_end c.shape g) k) _ (λ bs _. first_does i x target (first_true 1 bs))
  line_does (Next x g target) =
      let i = Next x g target in
      either i (nat_lt (value_at x c.locals.scalars 0) (range_end c.shape g)) target _ _ (sets_scalar i x _)
      (sets_scalar i x 1)
  line_does (If k target) =
      let i = If k target in
      bound i (condition_holds c k) _ (λ b _. either i b target _ _ (nothing i) (nothing i))
  line_does (IfAll g k target) =
      let i = IfAll g k target in
      bound i (conditions c (range_end c.shape g) k) _ (λ bs _.
      either i (all_true bs) target _ _ (nothing i) (nothing i))
  line_does (Goto target) = goes (Goto target) m c.locals a.link target (nothing (Goto target))
  line_does (Call target) = call_does (Call target) target a.link
  line_does (Return x) = return_does x a.op a.link refl refl
  line_does Finish = finish_does Finish a.op a.link refl
