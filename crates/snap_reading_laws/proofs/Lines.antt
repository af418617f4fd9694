-- What each form of a line does, form by form: what it leaves of the views and words is as its intent tells (`leaves`),
-- and so is the link of its process (`links`); and the operand at which it traps is the one that is told (`line_told`).
use Rattle.std.proofs.Common.{◌≡◌, ℕ, ◌-◌, ◌<◌, ◌≤◌, true, false, ◌&&◌, Result, Ok, Err, []}
use Rattle.std.proofs.Common.{if◌then◌else◌, refl, Bool, List, ap, ◌∙◌, Option, Some, None, length, slice_set}
use Rattle.std.proofs.Common.{sym, arith, ◌++◌, append_assoc, ◌∷◌, codes}
use Rattle.std.proofs.Common.{map, take}
use Rattle.std.specs.List.{list_all}
use Rattle.std.proofs.lemmas.Bool.Decides.{nat_tests}
use Rattle.std.proofs.lemmas.List.{length-map, length-take}
use Rattle.std.proofs.lemmas.List.Elements.{All-get_or}
use Rattle.snap_words.specs.Word.{Word, no_word}
use Rattle.snap_words.specs.Kind.{is_bit, is_sized, may_write}
use Rattle.snap_words.specs.Shape.{places, Counts}
use Rattle.snap_words.specs.declared.address.Bank.TheVariants as bank
use Rattle.snap_semantics.specs.declared.process.Cause.{Cause}
use Rattle.snap_semantics.specs.declared.process.Cause.TheVariants as cause
use Rattle.snap_semantics.specs.declared.instr.Tuple.{Tuple}
use Rattle.snap_semantics.specs.declared.instr.Tuple.TheVariants as tuple
use Rattle.snap_semantics.specs.declared.instr.BitBank.{BitBank}
use Rattle.snap_semantics.specs.declared.instr.BitBank.TheVariants as bits
use Rattle.snap_semantics.specs.declared.process.Activity.{Activity}
use Rattle.snap_semantics.specs.declared.process.Op.{Op}
use Rattle.snap_semantics.specs.declared.process.Op.TheVariants as op
use Rattle.snap_semantics.specs.declared.instr.Instr.{Instr}
use Rattle.snap_semantics.specs.declared.instr.Instr.TheVariants.{Let, LetPlace, Get, Bit, Look, Put, PutBit, PutView}
use Rattle.snap_semantics.specs.declared.instr.Instr.TheVariants.{ViewData, ViewOf, Each, First, Next, If, IfAll}
use Rattle.snap_semantics.specs.declared.instr.Instr.TheVariants.{Return}
use Rattle.snap_semantics.specs.Value.{place_in, Context, index_value, expr_value}
use Rattle.snap_semantics.specs.Answers.{◌>>=◌}
use Rattle.snap_semantics.specs.Table.{tuple_word, with_memory_bits, Effect, Goes, Answers, Finishes, call_goes}
use Rattle.snap_semantics.specs.Table.{finish_goes, first_goes, on, return_goes, bank_of, bit_value, effect, owned}
use Rattle.snap_semantics.specs.Table.{with_bits, with_memory_views}
use Rattle.snap_semantics.specs.State.{Memory, Locals, value_at, with_scalar, State, with_memory_words}
use Rattle.snap_semantics.specs.State.{process_at}
use Rattle.snap_semantics.specs.Source.{Name, Source, following}
use Rattle.snap_semantics.specs.RightUses.{HasRightUses}
use Rattle.snap_semantics.specs.Rules.{or_else}
use Rattle.snap_acts.specs.Trace.{view_beside, intent_of_line, returned, spot_of, stepped}
use Rattle.snap_reading_laws.proofs.loans.Went.{named_view, Went, kept, view_in, view_register, word_in, borrowed}
use Rattle.snap_reading_laws.proofs.loans.Went.{collected, got, looked, published, wrote}
use Rattle.snap_acts.specs.declared.act.Act.{Act}
use Rattle.snap_acts.specs.declared.act.Act.TheVariants as act
use Rattle.snap_asm_program.proofs.Declared.{is_view, is_words}
use Rattle.snap_machine.specs.Sizes.{AreSized}
use Rattle.snap_machine.proofs.Sizes.{view_sized}
use Rattle.snap_run_judge.proofs.Sizes.{HasSizes}
use Rattle.snap_runs.specs.Scan.{IsCallLine}
use Rattle.snap_why.specs.declared.trouble.Trouble.{Trouble}
use Rattle.snap_reading_laws.specs.traps.Told.{IsTold}
use Rattle.snap_reading_laws.proofs.traps.Values.{Takes, Gives, place_gives, takes, owner_gives, HaveOneSort, bit_gives}
use Rattle.snap_reading_laws.proofs.traps.Values.{condition_takes, expr_gives, expr_takes}
use Rattle.snap_why.specs.Troubles.{place_trouble, owner_trouble, bit_trouble, context_of, line_trouble, expr_number}
use Rattle.snap_why.specs.Troubles.{expr_trouble, tuple_trouble}
use Rattle.snap_why.specs.declared.taker.Taker.{Taker}
use Rattle.snap_reading_laws.proofs.traps.Places.{conditions_take, tuple_takes, values_take}
use Rattle.snap_semantics.specs.declared.text.Sort.TheVariants as sort
use Rattle.snap_semantics.specs.declared.text.Symbol.TheVariants as symbol
use Rattle.snap_semantics.specs.Spelling.{in_parentheses, in_brackets, spelled_index, spelled_place, spelled_expr}
use Rattle.snap_semantics.specs.Spelling.{spelled_condition, spelled_where, spelled_range, spelled_target, bank_keyword}
use Rattle.snap_semantics.specs.Spelling.{spelled_pair, spelled_instr}
use Rattle.snap_semantics.specs.Token.{Token, Identifier, Sign}
use Rattle.snap_semantics.specs.Uses.{Use, Named, BankUse, ViewUse, view, index_uses, expr_uses, where_uses, instr_uses}
use Rattle.snap_listing.proofs.Alls.{all_both}
use Rattle.snap_reading_laws.specs.RefusedForToken.{SpeaksName}
use Rattle.snap_explanation.specs.TokenUses.{token_uses}
use Rattle.snap_explanation.specs.declared.token_uses.Slot.TheVariants as slot
use Rattle.snap_reading_laws.proofs.SpokenTokens.{name_then, one_more, Spoken, first_of_both, second_of_both, close}
use Rattle.snap_reading_laws.proofs.SpokenTokens.{lone_value, name_as, whole, bracket_reads, place_reads}
use Rattle.snap_reading_laws.proofs.SpokenTokens.{inside_reads, value_open, expr_reads, where_open, where_reads}
use Rattle.snap_reading_laws.proofs.SpokenTokens.{pair_reads, some_behind, bank_reads, range_reads, range_open}
use Rattle.snap_reading_laws.proofs.SpokenTokens.{put_reads, last_expr, last_bracket, tested}

-- a place that a line takes is there
pub record IsThere (count k r : ℕ) : Type 0 where
  pub first : 0 < k
  pub last : k ≤ count
  pub is : k - 1 ≡ r

pub place_there : (count k r : ℕ) → place_in count k ≡ Ok r → IsThere count k r
place_there count k r e =
    record { first = grind (arith, nat_tests); last = grind (arith, nat_tests); is = grind (arith, nat_tests) }

-- what a test lets through is as it was
passed : {A : Type 0} (b : Bool) (c : Cause) (x y : A) →
    (let r : Result A Cause = if b then Ok x else Err c in r) ≡ Ok y → y ≡ x
passed b c x y e = grind arith

-- a word that a tuple makes has the view of the local that is named beside its value
HasView : List ℕ → Result Word Cause → Type 0
HasView v (Ok word) = word.view ≡ v
HasView v (Err c) = Unit {0}

made : {A : Type 0} (v : List ℕ) (r : Result A Cause) (f : A → Result Word Cause) → ((x : A) → HasView v (f x)) →
    HasView v (r >>= f)
unfolding HasView
made v (Ok x) f h = h x
made v (Err c) f h = tt

made_of : (v : List ℕ) (word : Word) → word.view ≡ v → HasView v (Ok word)
unfolding HasView
made_of v word e = e

tuple_view : (c : Context) (t : Tuple) → HasView (named_view c.locals (view_beside t)) (tuple_word c t)
tuple_view c (tuple.Seq d q x) = search (made, made_of)
tuple_view c _ = search (made, made_of)

view_of_made : (v : List ℕ) (r : Result Word Cause) (word : Word) → HasView v r → r ≡ Ok word → word.view ≡ v
unfolding HasView
view_of_made v (Ok w) word h e = ap (λ (x : Word). x.view) (let same : word ≡ w = cc in same) ∙ h
view_of_made v (Err c) word h e = absurd cc

-- bits are no words, and no views
bits_words : (b : BitBank) (rows : List (List ℕ)) (m : Memory) → (with_memory_bits b rows m).words ≡ m.words
bits_words bits.Q rows m = refl
bits_words bits.P rows m = refl

bits_views : (b : BitBank) (rows : List (List ℕ)) (m : Memory) → (with_memory_bits b rows m).views ≡ m.views
bits_views bits.Q rows m = refl
bits_views bits.P rows m = refl

-- of a line that does this where the process goes on, and returns this local
module _ (l : Locals) (m : Memory) where
  abbrev pub Leaves : Act → Option Name → Result Effect Cause → Type 0
  Leaves t back (Ok (Goes m' l' link line)) = Went l m t m' l'
  Leaves t back (Ok (Answers v)) = v ≡ named_view l back
  Leaves t back (Ok Finishes) = Unit {0}
  Leaves t back (Err c) = Unit {0}

  bound : {A : Type 0} (t : Act) (back : Option Name) (r : Result A Cause) (f : A → Result Effect Cause) →
      ((x : A) → r ≡ Ok x → Leaves t back (f x)) → Leaves t back (r >>= f)
  bound t back (Ok x) f h = h x refl
  bound t back (Err c) f h = tt

  onward : (t : Act) (o : Option ℕ) (m' : Memory) (l' : Locals) (link : Option ℕ) → Went l m t m' l' →
      Leaves t None (on o (Goes m' l' link))
  onward t None m' l' link h = tt
  onward t (Some line) m' l' link h = h

  choice : (t : Act) (back : Option Name) (b : Bool) (x y : Result Effect Cause) → Leaves t back x →
      Leaves t back y → Leaves t back (if b then x else y)
  choice t back true x y h k = h
  choice t back false x y h k = k

  -- a line that leaves all views and words
  other : (m' : Memory) (l' : Locals) → m'.words ≡ m.words → m'.views ≡ m.views → l'.views ≡ l.views →
      l'.words ≡ l.words → Went l m act.Other m' l'
  other m' l' words views local_views local_words =
      kept l l' m m' act.Other words views local_views local_words tt

  plain : Went l m act.Other m l
  plain = other m l refl refl refl refl

  test_leaves : (b : Bool) → Went l m (act.Test b) m l
  test_leaves b = kept l l m m (act.Test b) refl refl refl refl tt

  -- an item sets a scalar
  scalar : (x : Name) (v : ℕ) → Went l m act.Other m (with_scalar x v l)
  scalar x v = other m (with_scalar x v l) refl refl refl refl

  first_leaves : (s : Source) (a : Activity) (x : Name) (target : ℕ) (o : Option ℕ) →
      Leaves act.Other None (first_goes s a m l x target o)
  first_leaves s a x target None = onward act.Other (following s.lines a.line) m l a.link plain
  first_leaves s a x target (Some p) = scalar x p

  call_on : (o : Option ℕ) (target : ℕ) → Leaves act.Enter None (on o (λ k. Goes m l (Some k) target))
  call_on None target = tt
  call_on (Some line) target = kept l l m m act.Enter refl refl refl refl tt

  call_leaves : (s : Source) (a : Activity) (target : ℕ) (link : Option ℕ) →
      Leaves act.Enter None (call_goes s a m l target link)
  call_leaves s a target (Some line) = tt
  call_leaves s a target None = call_on (following s.lines a.line) target

  return_leaves : (x : Name) (o : Op) (link : Option ℕ) →
      Leaves (act.Leave x) (Some x) (return_goes m l (value_at x l.views []) o link)
  return_leaves x o (Some line) = kept l l m m (act.Leave x) refl refl refl refl tt
  return_leaves x op.Scan None = refl
  return_leaves x (op.Update word value) None = tt

  finish_leaves : (o : Op) (link : Option ℕ) → Leaves act.Other None (finish_goes o link)
  finish_leaves (op.Update word value) None = tt
  finish_leaves _ link = tt

-- a view that is made of words has a value for each word of memory
data_count : (f : Word → ℕ) (shape : Counts) (words : List Word) → length words ≡ places shape →
    length (map f (take shape.w words)) ≡ shape.w
data_count f shape words many =
    let all = length-map (take shape.w words) f in
    let some = length-take shape.w words in
    omega (arith, all, some, many)

ruleset leaving = (
  bound,
  onward,
  choice,
  plain,
  scalar,
  other,
  test_leaves,
  bits_words,
  bits_views,
  first_leaves,
  call_leaves,
  return_leaves,
  finish_leaves,
)

-- each form of a line
pub leaves : (s : Source) (S : State) (c : Context) (m : Memory) (a : Activity) (i : Instr) →
    AreSized s c.shape c.locals → HasSizes s c.shape m → HasRightUses s i →
    Leaves c.locals m (stepped (intent_of_line c i) S c.me) (returned (intent_of_line c i)) (effect s c m a i)
leaves s S c m a (Get x i j) h of right =
    let t : Act = stepped (intent_of_line c (Get x i j)) S c.me in
    let old : List Word = value_at x c.locals.words [] in
    bound c.locals m t None (place_in (places c.shape) (index_value c i)) _ (λ k there.
    bound c.locals m t None (place_in c.shape.w (index_value c j)) _ (λ r read.
    let to = place_there (places c.shape) (index_value c i) k there in
    let from = place_there c.shape.w (index_value c j) r read in
    let many : length old ≡ places c.shape = h.words x (is_words s x right.0) in
    let within : index_value c i - 1 < length old = omega (arith, to, many) in
    onward c.locals m t (following s.lines a.line) m _ a.link (rw (← to.is, ← from.is)
    (got c.locals m x (index_value c i) (index_value c j) to.first from.first within))))
leaves s S c m a (Look x i) h of right =
    let t : Act = stepped (intent_of_line c (Look x i)) S c.me in
    bound c.locals m t None (place_in c.shape.n (index_value c i)) _ (λ k there.
    let from = place_there c.shape.n (index_value c i) k there in
    let rows : length m.views ≡ c.shape.n = of.view_count ∙ ap (λ (b : Bool). if b then c.shape.n else 0) right.1.0 in
    let below : index_value c i - 1 < length m.views = omega (arith, from, rows) in
    let long : length (view_register m (index_value c i)) ≡ c.shape.w =
    All-get_or (λ (v : List ℕ). length v ≡ c.shape.w) m.views (index_value c i - 1) [] below of.view_places in
    let own : length (view_in c.locals x) ≡ c.shape.w = h.views x (is_view s x right.0) in
    onward c.locals m t (following s.lines a.line) m _ a.link
    (rw (← from.is) (looked c.locals m x (index_value c i) from.first (own ∙ sym long))))
leaves s S c m a (Put i parts_of) h of right =
    let t : Act = stepped (intent_of_line c (Put i parts_of)) S c.me in
    bound c.locals m t None (place_in c.shape.w (index_value c i)) _ (λ r there.
    bound c.locals m t None (tuple_word c parts_of) _ (λ parts is.
    bound c.locals m t None (with_bits parts) _ (λ word tested.
    bound c.locals m t None (owned s.kind c bank.R (index_value c i) word) _ (λ x own.
    let to = place_there c.shape.w (index_value c i) r there in
    let same : x ≡ parts =
    passed (may_write s.kind c.me bank.R (index_value c i)) cause.Owner word x own
    ∙ passed (is_bit parts.toggle && list_all is_bit parts.handshakes) cause.NotABit parts word tested in
    let beside : x.view ≡ named_view c.locals (view_beside parts_of) =
    ap (λ (w : Word). w.view) same ∙ view_of_made _ (tuple_word c parts_of) parts (tuple_view c parts_of) is in
    let many : length m.words ≡ c.shape.w = of.word_count in
    let within : index_value c i - 1 < length m.words = omega (arith, to, many) in
    onward c.locals m t (following s.lines a.line) (with_memory_words (slice_set m.words r x) m) c.locals a.link
    (rw (← to.is) (wrote c.locals m (index_value c i) _ (view_beside parts_of) x to.first within beside))))))
leaves s S c m a (PutView i x) h of right =
    let t : Act = stepped (intent_of_line c (PutView i x)) S c.me in
    bound c.locals m t None (place_in c.shape.n (index_value c i)) _ (λ k there.
    bound c.locals m t None (owned s.kind c bank.V (index_value c i) (value_at x c.locals.views [])) _ (λ v own.
    let to = place_there c.shape.n (index_value c i) k there in
    let same : v ≡ value_at x c.locals.views [] =
    passed (may_write s.kind c.me bank.V (index_value c i)) cause.Owner (value_at x c.locals.views []) v own in
    let rows : length m.views ≡ c.shape.n = of.view_count ∙ ap (λ (b : Bool). if b then c.shape.n else 0) right.0 in
    let within : index_value c i - 1 < length m.views = omega (arith, to, rows) in
    onward c.locals m t (following s.lines a.line) (with_memory_views (slice_set m.views k v) m) c.locals a.link
    (rw (← to.is, same) (published c.locals m (index_value c i) x to.first within))))
leaves s S c m a (ViewData x y) h of right =
    let words : List Word = value_at y c.locals.words [] in
    let datum : Word → ℕ = λ w. w.datum in
    let v : List ℕ = map datum (take c.shape.w words) in
    let many : length words ≡ places c.shape = h.words y (is_words s y right.1.0) in
    let long : length v ≡ c.shape.w = data_count datum c.shape words many in
    let own : length (view_in c.locals x) ≡ c.shape.w = h.views x (is_view s x right.0) in
    onward c.locals m (act.Collect x) (following s.lines a.line) m _ a.link
    (collected c.locals m x y v (own ∙ sym long) (ap (λ (n : ℕ). map datum (take n words)) (sym long)))
leaves s S c m a (ViewOf x y i) h of right =
    let t : Act = stepped (intent_of_line c (ViewOf x y i)) S c.me in
    bound c.locals m t None (place_in (places c.shape) (index_value c i)) _ (λ k there.
    let from = place_there (places c.shape) (index_value c i) k there in
    let words : List Word = value_at y c.locals.words [] in
    let many : length words ≡ places c.shape = h.words y (is_words s y right.1.1.0) in
    let below : index_value c i - 1 < length words = omega (arith, from, many) in
    let word : is_sized s.kind c.shape (word_in c.locals (spot_of c y i)) ≡ true =
    All-get_or (λ (w : Word). is_sized s.kind c.shape w ≡ true) words (index_value c i - 1) no_word below
    (h.words_sized y) in
    let long : length (word_in c.locals (spot_of c y i)).view ≡ c.shape.w =
    view_sized s.kind c.shape (word_in c.locals (spot_of c y i)) right.1.0 word in
    let own : length (view_in c.locals x) ≡ c.shape.w = h.views x (is_view s x right.0) in
    onward c.locals m t (following s.lines a.line) m _ a.link
    (rw (← from.is) (borrowed c.locals m x (spot_of c y i) from.first (own ∙ sym long))))
leaves s S c m a _ h of right = search leaving depth 11

-- the links before and after an instruction
abbrev pub IsLinked : Instr → Act → Option ℕ → Option ℕ → Type 0
IsLinked i act.Enter b a = IsCallLine (Some i) × (b ≡ None) × (k : ℕ) × (a ≡ Some k)
IsLinked i (act.Leave x) b a = (i ≡ Return x) × (k : ℕ) × (b ≡ Some k)
IsLinked i _ b a = a ≡ b

module _ (i : Instr) (t : Act) (b : Option ℕ) where
  abbrev pub Links : Result Effect Cause → Type 0
  Links (Ok (Goes m l link line)) = IsLinked i t b link
  Links (Ok (Answers v)) = b ≡ None
  Links (Ok Finishes) = b ≡ None
  Links (Err c) = Unit {0}

  after : {A : Type 0} (r : Result A Cause) (f : A → Result Effect Cause) → ((x : A) → Links (f x)) → Links (r >>= f)
  after (Ok x) f h = h x
  after (Err c) f h = tt

  passes : (o : Option ℕ) (m : Memory) (l : Locals) (link : Option ℕ) → IsLinked i t b link →
      Links (on o (Goes m l link))
  passes None m l link h = tt
  passes (Some line) m l link h = h

  branch : (c : Bool) (x y : Result Effect Cause) → Links x → Links y → Links (if c then x else y)
  branch true x y h k = h
  branch false x y h k = k

first_links : (i : Instr) (s : Source) (a : Activity) (m : Memory) (l : Locals) (x : Name) (target : ℕ) (o : Option ℕ) →
    Links i act.Other a.link (first_goes s a m l x target o)
first_links i s a m l x target o = grind arith

call_on_links : (i : Instr) (o : Option ℕ) (m : Memory) (l : Locals) (target : ℕ) → IsCallLine (Some i) →
    Links i act.Enter None (on o (λ k. Goes m l (Some k) target))
call_on_links i None m l target is = tt
call_on_links i (Some line) m l target is = (is, refl, line, refl)

call_links : (i : Instr) (s : Source) (a : Activity) (m : Memory) (l : Locals) (target : ℕ) (link : Option ℕ) →
    IsCallLine (Some i) → Links i act.Enter link (call_goes s a m l target link)
call_links i s a m l target (Some line) is = tt
call_links i s a m l target None is = call_on_links i (following s.lines a.line) m l target is

return_links : (x : Name) (m : Memory) (l : Locals) (o : Op) (link : Option ℕ) →
    Links (Return x) (act.Leave x) link (return_goes m l (value_at x l.views []) o link)
return_links x m l o (Some line) = (refl, line, refl)
return_links x m l op.Scan None = refl
return_links x m l (op.Update word value) None = tt

finish_links : (i : Instr) (o : Op) (link : Option ℕ) → Links i act.Other link (finish_goes o link)
finish_links i o link = grind arith

ruleset linking = (after, passes, branch, first_links, call_links, return_links, finish_links)

-- each form of a line
pub links : (s : Source) (S : State) (c : Context) (m : Memory) (a : Activity) (i : Instr) →
    Links i (stepped (intent_of_line c i) S c.me) a.link (effect s c m a i)
links s S c m a (Let x e) = search linking
links s S c m a _ = search linking depth 9

-- an operand, and what comes after it
tells_then : {A B : Type 0} (o p : Option Trouble) (found : Result A Cause) (f : A → Result B Cause) →
    Takes o found → ((v : A) → IsTold p (f v)) → IsTold (or_else o p) (found >>= f)
tells_then None p found f h k = rw h.1 (k h.0)
tells_then (Some t) p found f h k = ap (λ r. r >>= f) h

tells_last : {A B : Type 0} (o : Option Trouble) (found : Result A Cause) (f : A → Result B Cause) →
    Takes o found → ((v : A) → IsTold None (f v)) → IsTold o (found >>= f)
tells_last None found f h k = rw h.1 (k h.0)
tells_last (Some t) found f h k = ap (λ r. r >>= f) h

-- an operand whose value decides
tells_by : {A B : Type 0} (o p : Option Trouble) (v : A) (found : Result A Cause) (f : A → Result B Cause) →
    Gives o v found → IsTold p (f v) → IsTold (or_else o p) (found >>= f)
tells_by None p v found f h k = rw h k
tells_by (Some t) p v found f h k = ap (λ r. r >>= f) h

-- two steps that are one operand
tells_both : {A B C : Type 0} (o p : Option Trouble) (found : Result A Cause) (f : A → Result B Cause) (g : B →
    Result C Cause) →
    Takes o (found >>= f) → ((v : B) → IsTold p (g v)) → IsTold (or_else o p) (found >>= λ v. f v >>= g)
tells_both o p (Ok v) f g h k = tells_then o p (f v) g h k
tells_both None p (Err e) f g h k = absurd cc
tells_both (Some t) p (Err e) f g h k = ap (λ r. r >>= g) h

-- the following line, which is there or not
on_tells : (k : Option ℕ) (f : ℕ → Effect) → IsTold None (on k f)
on_tells k f = grind arith

goes_tells : (b : Bool) (e : Effect) (k : Option ℕ) (f : ℕ → Effect) → IsTold None (if b then Ok e else on k f)
goes_tells b e k f = grind arith

first_tells : (s : Source) (a : Activity) (m : Memory) (l : Locals) (x : Name) (target : ℕ) (p : Option ℕ) →
    IsTold None (first_goes s a m l x target p)
first_tells s a m l x target p = grind arith

call_tells : (s : Source) (a : Activity) (m : Memory) (l : Locals) (target : ℕ) (link : Option ℕ) →
    IsTold None (call_goes s a m l target link)
call_tells s a m l target link = grind arith

return_tells : (m : Memory) (l : Locals) (v : List ℕ) (o : Op) (link : Option ℕ) →
    IsTold None (return_goes m l v o link)
return_tells m l v o link = grind arith

finish_tells : (o : Op) (link : Option ℕ) → IsTold None (finish_goes o link)
finish_tells o link = grind arith

place_takes : (c : Context) (i : _) (count : ℕ) → Takes (place_trouble c i count) (place_in count (index_value c i))
place_takes c i count = takes (place_trouble c i count) (index_value c i - 1) _ (place_gives c i count)

owner_takes : {A : Type 0} (kind : _) (c : Context) (b : _) (i j : ℕ) (x : A) →
    Takes (owner_trouble kind c b i j) (owned kind c b i x)
owner_takes kind c b i j x = takes (owner_trouble kind c b i j) x _ (owner_gives kind c b i j x)

bit_takes : (x : ℕ) → Takes (bit_trouble x) (bit_value x)
bit_takes x = takes (bit_trouble x) x _ (bit_gives x)

ruleset telling = (
  tells_then,
  tells_last,
  on_tells,
  goes_tells,
  first_tells,
  call_tells,
  return_tells,
  finish_tells,
  place_takes,
  owner_takes,
  bit_takes,
  expr_takes,
  values_take,
  conditions_take,
  condition_takes,
)

-- each form of a line
pub line_told : (l : Source) (shape : Counts) (S : State) (t : Taker) (m : Memory) (a : Activity) (i : Instr) →
    HaveOneSort (process_at S t.process).locals →
    IsTold (line_trouble l.kind shape S t i) (effect l (context_of shape S t) m a i)
line_told l shape S t m a (Put i parts) h =
    let c = context_of shape S t in
    tells_then (place_trouble c i shape.w) _ _ _ (place_takes c i shape.w)
    (λ r. tells_both (tuple_trouble c parts) _ (tuple_word c parts) with_bits _ (tuple_takes c parts h)
    (λ word. search telling))
line_told l shape S t m a (PutBit b i j e) h =
    let c = context_of shape S t in
    tells_then (place_trouble c i shape.n) _ _ _ (place_takes c i shape.n)
    (λ k. tells_then (place_trouble c j shape.n) _ _ _ (place_takes c j shape.n)
    (λ r. tells_by (expr_trouble c e) _ (expr_number c e) (expr_value c e) _ (expr_gives c e h) (search telling)))
line_told l shape S t m a _ h = search telling depth 7

-- the tokens of an instruction speak of what it speaks of
pub instr_reads : (i : Instr) → Spoken (instr_uses i) → token_uses i slot.Value (spelled_instr i) ≡ instr_uses i
instr_reads (Let x e) n =
    name_then (Let x e) slot.Value x (Sign symbol.Equal ∷ spelled_expr e) sort.Scalar n.0 refl
    (last_expr (Let x e) e n.1 (λ us. refl) (λ f. refl))
instr_reads (LetPlace x j e) n =
    let p = LetPlace x j e in
    place_reads p slot.Value x j (Sign symbol.Equal ∷ spelled_expr e) sort.Row n.0
    (first_of_both (index_uses j) (expr_uses e) n.1) (λ us. refl) refl
    ∙ one_more (Named sort.Row x) (ap (λ (us : List Use). index_uses j ++ us)
    (last_expr p e (second_of_both (index_uses j) (expr_uses e) n.1) (λ us. refl) (λ f. refl)))
instr_reads (Get x j k) n =
    let p = Get x j k in
    place_reads p slot.Words x j
    (Sign symbol.Equal ∷ Identifier (codes "r") ∷ in_brackets (spelled_index k)) sort.Words n.0
    (first_of_both (index_uses j) (index_uses k) n.1) (λ us. refl) refl
    ∙ one_more (Named sort.Words x) (ap (λ (us : List Use). index_uses j ++ us)
    (last_bracket p k (second_of_both (index_uses j) (index_uses k) n.1) (λ us. refl)))
instr_reads (Bit x b j k) n =
    let p = Bit x b j k in
    let pair = spelled_pair j k in let both = index_uses j ++ index_uses k in
    name_then p slot.Value x (Sign symbol.Equal ∷ Identifier (bank_keyword b) ∷ pair) sort.Scalar n.0 refl
    (bank_reads p slot.Value b pair ∙ one_more (BankUse (bank_of b))
    (whole p slot.Value pair both (pair_reads p slot.Value j k [] n.1.1 (λ us. refl))))
instr_reads (Look x j) n =
    name_then (Look x j) slot.View x
    (Sign symbol.Equal ∷ Identifier (codes "v") ∷ in_brackets (spelled_index j)) sort.View n.0 refl
    (one_more (BankUse bank.V) (last_bracket (Look x j) j n.1.1 (λ us. refl)))
instr_reads (Put j t) n = put_reads j t n
instr_reads (PutBit b j k e) n =
    let p = PutBit b j k e in
    let uj = index_uses j in let uk = index_uses k in let ue = expr_uses e in
    let later = second_of_both uj (uk ++ ue) n.1 in
    let both = all_both SpeaksName uj uk (first_of_both uj (uk ++ ue) n.1) (first_of_both uk ue later) in
    bank_reads p slot.Value b (spelled_pair j k ++ Sign symbol.Equal ∷ spelled_expr e)
    ∙ one_more (BankUse (bank_of b))
    (pair_reads p slot.Value j k (Sign symbol.Equal ∷ spelled_expr e) both (λ us. refl)
    ∙ ap (λ (us : List Use). (uj ++ uk) ++ us) (last_expr p e (second_of_both uk ue later) (λ us. refl) (λ f. refl))
    ∙ append_assoc uj uk ue)
instr_reads (PutView j x) n =
    let p = PutView j x in
    let ux : List Use = view x ∷ [] in let last : List Token = Identifier x ∷ [] in
    one_more (BankUse bank.V)
    (bracket_reads p slot.Value j (Sign symbol.Equal ∷ last) (first_of_both (index_uses j) ux n.1)
    (λ us. some_behind us (Sign symbol.Equal) last)
    ∙ ap (λ (us : List Use). index_uses j ++ us)
    (name_as p slot.Value x [] sort.View (second_of_both (index_uses j) ux n.1).0 refl))
instr_reads (ViewData x y) n =
    name_then (ViewData x y) slot.View x
    (Sign symbol.Equal ∷ Identifier (codes "data") ∷ in_parentheses (Identifier y ∷ [])) sort.View n.0 refl
    (name_as (ViewData x y) slot.Words y close sort.Words n.1.0 refl)
instr_reads (ViewOf x y j) n =
    let p = ViewOf x y j in
    let inside = spelled_place y j ++ close in
    name_then p slot.View x
    (Sign symbol.Equal ∷ Identifier (codes "view") ∷ Sign symbol.OpenParenthesis ∷ inside) sort.View n.0 refl
    (one_more ViewUse (whole p slot.Words inside (Named sort.Words y ∷ index_uses j)
    (inside_reads p y j [] n.1.1.0 n.1.1.1 (λ us. refl))))
instr_reads (Each g x e k) n =
    let p = Each g x e k in
    let ue = expr_uses e in let uk = where_uses k in let rest = spelled_expr e ++ spelled_where k in
    let place = Sign symbol.OpenBracket ∷ Sign symbol.At ∷ Sign symbol.CloseBracket ∷ Sign symbol.Equal ∷ rest in
    range_reads p g (Sign symbol.Colon ∷ Identifier x ∷ place) ∙ name_then p slot.Value x place sort.Row n.0 refl
    (expr_reads p slot.Value e (spelled_where k) (first_of_both ue uk n.1) (value_open p)
    (lone_value p (spelled_where k) (where_open k) (λ us. refl)) (where_open k) (λ us. refl) (λ f. refl)
    ∙ ap (λ (us : List Use). ue ++ us) (where_reads p k (second_of_both ue uk n.1) (λ us. refl) (λ f. refl)))
instr_reads (First x g k target) n =
    let p = First x g k target in
    let rest = Sign symbol.Colon ∷ (spelled_condition k ++ spelled_target target) in
    name_then p slot.Value x (spelled_range g ∷ rest) sort.Scalar n.0
    (lone_value p (spelled_range g ∷ rest) (range_open g rest) (λ us. refl))
    (range_reads p g rest ∙ tested p k target n.1 (λ us. refl) (λ f. refl))
instr_reads (Next x g target) n =
    let p = Next x g target in
    let rest = spelled_range g ∷ spelled_target target in
    name_then p slot.Value x rest sort.Scalar n.0
    (lone_value p rest (range_open g (spelled_target target)) (λ us. refl)) (range_reads p g (spelled_target target))
instr_reads (If k target) n = tested (If k target) k target n (λ us. refl) (λ f. refl)
instr_reads (IfAll g k target) n =
    range_reads (IfAll g k target) g (Sign symbol.Colon ∷ (spelled_condition k ++ spelled_target target))
    ∙ tested (IfAll g k target) k target n (λ us. refl) (λ f. refl)
instr_reads (Return x) n = name_as (Return x) slot.View x [] sort.View n.0 refl
instr_reads _ n = refl
