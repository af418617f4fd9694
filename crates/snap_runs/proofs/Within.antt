-- Lemmas about numbers that stay within `Limits`: lists of them,
-- words that are read and written, and the first state of a run.
use Rattle.std.proofs.Common.{◌≡◌, ℕ, zero, suc, ◌+◌, ◌<◌, ◌≤◌, List, [], ◌∷◌, ◌++◌, take, drop, map}
use Rattle.std.proofs.Common.{slice_index_or, slice_set, replicate, sym, subst, arith}
use Rattle.std.specs.List.{AllByRecursion, range_with_len}
use Rattle.std.proofs.lemmas.List.{map-set, length-set, length-take, length-drop}
use Rattle.std.proofs.lemmas.List.{length-append, length-map, length-replicate}
use Rattle.std.proofs.lemmas.List.FromFn.{length-map-range_with_len}
use Rattle.snap_words.specs.Kind.{initial_word}
use Rattle.snap_runs.proofs.Common.{Counts, IsOneOf, Word, no_word, Op, Scan, Update, places_to}
use Rattle.snap_words.specs.Shape.{places}
use Rattle.snap_words.specs.declared.kind.KindTag.{KindTag}
use Rattle.snap_words.specs.declared.kind.KindTag.TheVariants as kind
use Rattle.snap_semantics.specs.Source.{Name, Source}
use Rattle.snap_semantics.specs.State.{NameMap, Locals, Memory, value_at, all_at, initial_memory, initial_process}
use Rattle.snap_semantics.specs.Table.{bit_at, with_bit_at}
use Rattle.snap_runs.specs.Bounded.{Limits, IsBit, AtMost, IsWordWithin, IsMemoryWithin, IsLocalsWithin, IsOpWithin}
use Rattle.snap_runs.proofs.Held.{data_of}
use Rattle.snap_runs.proofs.Places.{for_each}
use Rattle.snap_runs.proofs.Plain.{plain_at, plain_copied}

-- what holds of each of a list
pub all_wider : {A : Type 0} (P Q : A → Type 0) → ((x : A) → P x → Q x) → (xs : List A) →
    AllByRecursion P xs → AllByRecursion Q xs
all_wider P Q gives [] h = tt
all_wider P Q gives (x ∷ xs) h = (gives x h.0, all_wider P Q gives xs h.1)

pub all_set : {A : Type 0} (P : A → Type 0) (xs : List A) (k : ℕ) (y : A) → AllByRecursion P xs → P y →
    AllByRecursion P (slice_set xs k y)
all_set P [] k y h new = tt
all_set P (x ∷ xs) zero y h new = (new, h.1)
all_set P (x ∷ xs) (suc k) y h new = (h.0, all_set P xs k y h.1 new)

pub all_read : {A : Type 0} (P : A → Type 0) (xs : List A) (k : ℕ) (none : A) → AllByRecursion P xs →
    P none → P (slice_index_or xs k none)
all_read P [] k none h other = other
all_read P (x ∷ xs) zero none h other = h.0
all_read P (x ∷ xs) (suc k) none h other = all_read P xs k none h.1 other

all_taken : {A : Type 0} (P : A → Type 0) (n : ℕ) (xs : List A) → AllByRecursion P xs → AllByRecursion P (take n xs)
all_taken P (suc n) (x ∷ xs) h = (h.0, all_taken P n xs h.1)
all_taken P _ _ h = tt

all_dropped : {A : Type 0} (P : A → Type 0) (n : ℕ) (xs : List A) → AllByRecursion P xs → AllByRecursion P (drop n xs)
all_dropped P zero xs h = h
all_dropped P (suc n) [] h = tt
all_dropped P (suc n) (x ∷ xs) h = all_dropped P n xs h.1

all_joined : {A : Type 0} (P : A → Type 0) (xs ys : List A) → AllByRecursion P xs →
    AllByRecursion P ys → AllByRecursion P (xs ++ ys)
all_joined P [] ys h more = more
all_joined P (x ∷ xs) ys h more = (h.0, all_joined P xs ys h.1 more)

pub all_same : {A : Type 0} (P : A → Type 0) (n : ℕ) (x : A) → P x → AllByRecursion P (replicate n x)
all_same P zero x h = tt
all_same P (suc n) x h = (h, all_same P n x h)

pub all_mapped : {A B : Type 0} (P : B → Type 0) (f : A → B) (xs : List A) →
    AllByRecursion (λ x. P (f x)) xs → AllByRecursion P (map f xs)
all_mapped P f [] h = tt
all_mapped P f (x ∷ xs) h = (h.0, all_mapped P f xs h.1)

all_in_range : (P : ℕ → Type 0) (f : ℕ → ℕ) (from count : ℕ) → ((k : ℕ) → from ≤ k → k < from + count → P (f k)) →
    AllByRecursion P (map f (range_with_len from count))
all_in_range P f from zero each = tt
all_in_range P f from (suc count) each = (
  each from (omega arith) (omega arith),
  all_in_range P f (from + 1) count (λ k low high. each k (omega arith) (omega arith)),
)

-- at most so many
pub set_within : {A : Type 0} (count : ℕ) (P : A → Type 0) (xs : List A) (k : ℕ) (y : A) → AtMost count P xs → P y →
    AtMost count P (slice_set xs k y)
set_within count P xs k y h new =
    (let same = length-set xs k y in omega arith, all_set P xs k y h.1 new)

pub taken_within : {A : Type 0} (n : ℕ) (P : A → Type 0) (xs : List A) → AllByRecursion P xs → AtMost n P (take n xs)
taken_within n P xs h = (let e = length-take n xs in omega arith, all_taken P n xs h)

same_within : {A : Type 0} (n count : ℕ) (P : A → Type 0) (x : A) → n ≤ count → P x → AtMost count P (replicate n x)
same_within n count P x le h = (let e = length-replicate n x in omega arith, all_same P n x h)

-- a row after `each`
pub row_within : (n count most : ℕ) (f : ℕ → ℕ) (old : List ℕ) → n ≤ count → ((k : ℕ) → IsOneOf n k → f k ≤ most) →
    AtMost count (λ x. x ≤ most) old → AtMost count (λ x. x ≤ most) (for_each n f old)
row_within n count most f old le each h = (
  let all = length-append (map f (places_to n)) (drop n old) in
      let made = length-map-range_with_len f 1 n in let left = length-drop n old in omega arith,
  all_joined (λ x. x ≤ most) (map f (places_to n)) (drop n old)
      (all_in_range (λ x. x ≤ most) f 1 n (λ k low high. each k (omega arith, omega arith)))
      (all_dropped (λ x. x ≤ most) n old h.1),
)

-- bits that are set and read
pub bit_set_within : (n : ℕ) (rows : List (List ℕ)) (i j x : ℕ) → AtMost n (AtMost n IsBit) rows → IsBit x →
    AtMost n (AtMost n IsBit) (with_bit_at rows i j x)
bit_set_within n rows i j x h is =
    set_within n (AtMost n IsBit) rows i (slice_set (slice_index_or rows i []) j x) h
    (set_within n IsBit (slice_index_or rows i []) j x (all_read (AtMost n IsBit) rows i [] h.1 (omega arith, tt)) is)

pub bit_read_within : (n : ℕ) (rows : List (List ℕ)) (i j : ℕ) →
    AtMost n (AtMost n IsBit) rows → IsBit (bit_at rows i j)
bit_read_within n rows i j h =
    all_read IsBit (slice_index_or rows i []) j 0
    (all_read (AtMost n IsBit) rows i [] h.1 (omega arith, tt)).1 (omega arith)

-- limits that are no smaller
pub record Wider (m m' : Limits) : Type 0 where
  pub seq : m.seq ≤ m'.seq
  pub id : m.id ≤ m'.id
  pub scalars : (x : Name) → value_at x m.scalars 0 ≤ value_at x m'.scalars 0
  pub rows : (x : Name) → value_at x m.rows 0 ≤ value_at x m'.rows 0

pub as_wide : (m : Limits) → Wider m m
as_wide m = record { seq = omega arith; id = omega arith; scalars = λ x. omega arith; rows = λ x. omega arith }

-- what is within limits is within wider ones, where there are more values
module _ (m m' : Limits) (wide : Wider m m') (s : Counts) (V V' : ℕ → Type 0) (more : (x : ℕ) → V x → V' x) where
  values_wider : (count : ℕ) (v : List ℕ) → AtMost count V v → AtMost count V' v
  values_wider count v h = (h.0, all_wider V V' more v h.1)

  word_wider : (w : Word) → IsWordWithin m s V w → IsWordWithin m' s V' w
  word_wider w h = record {
    datum = more w.datum h.datum;
    seq = (let most : w.seq ≤ m.seq = h.seq in let le : m.seq ≤ m'.seq = wide.seq in omega arith);
    id = omega arith;
    toggle = h.toggle;
    handshakes = h.handshakes;
    view = values_wider s.w w.view h.view;
  }

  words_wider : (count : ℕ) (ws : List Word) → AtMost count (IsWordWithin m s V) ws →
      AtMost count (IsWordWithin m' s V') ws
  words_wider count ws h = (h.0, all_wider (IsWordWithin m s V) (IsWordWithin m' s V') word_wider ws h.1)

  pub memory_wider : (x : Memory) → IsMemoryWithin m s V x → IsMemoryWithin m' s V' x
  memory_wider x h = record {
    words = words_wider s.w x.words h.words;
    q = h.q;
    p = h.p;
    views = (h.views.0, all_wider (AtMost s.w V) (AtMost s.w V') (values_wider s.w) x.views h.views.1);
  }

  numbers_wider : (limits limits' : NameMap ℕ) →
      ((x : Name) → value_at x limits 0 ≤ value_at x limits' 0) → (x : Name) (row : List ℕ) →
      AtMost (places s) (λ y. y ≤ value_at x limits 0) row → AtMost (places s) (λ y. y ≤ value_at x limits' 0) row
  numbers_wider limits limits' le x row h = (
    h.0,
    all_wider (λ y. y ≤ value_at x limits 0) (λ y. y ≤ value_at x limits' 0)
        (λ y most. let b = le x in omega arith) row h.1,
  )

  pub locals_wider : (l : Locals) → IsLocalsWithin m s V l → IsLocalsWithin m' s V' l
  locals_wider l h = record {
    scalars = all_wider
        (λ (e : Name × ℕ). e.1 ≤ value_at e.0 m.scalars 0) (λ (e : Name × ℕ). e.1 ≤ value_at e.0 m'.scalars 0)
        (λ e most. let le = wide.scalars e.0 in omega arith) l.scalars h.scalars;
    rows = all_wider
        (λ (e : Name × List ℕ). AtMost (places s) (λ x. x ≤ value_at e.0 m.rows 0) e.1)
        (λ (e : Name × List ℕ). AtMost (places s) (λ x. x ≤ value_at e.0 m'.rows 0) e.1)
        (λ e row. numbers_wider m.rows m'.rows wide.rows e.0 e.1 row) l.rows h.rows;
    words = all_wider
        (λ (e : Name × List Word). AtMost (places s) (IsWordWithin m s V) e.1)
        (λ (e : Name × List Word). AtMost (places s) (IsWordWithin m' s V') e.1)
        (λ e ws. words_wider (places s) e.1 ws) l.words h.words;
    views = all_wider
        (λ (e : Name × List ℕ). AtMost s.w V e.1) (λ (e : Name × List ℕ). AtMost s.w V' e.1)
        (λ e v. values_wider s.w e.1 v) l.views h.views;
  }

  pub op_wider : (op : Op) → IsOpWithin s V op → IsOpWithin s V' op
  op_wider Scan h = tt
  op_wider (Update word value) h = (h.0, more value h.1)

-- words, where 0 is a value
module _ (m : Limits) (s : Counts) (V : ℕ → Type 0) (zeroed : V 0) where
  abbrev pub Within : Word → Type 0
  Within = IsWordWithin m s V

  pub none_within : Within no_word
  none_within = record {
    datum = zeroed;
    seq = omega arith;
    id = omega arith;
    toggle = omega arith;
    handshakes = (omega arith, tt);
    view = (omega arith, tt);
  }

  -- the data of words
  pub data_within : (ws : List Word) → AllByRecursion Within ws → AtMost s.w V (data_of (take s.w ws))
  data_within ws h = (
    let few = length-take s.w ws in
        let e = length-map (take s.w ws) (λ (w : Word). w.datum) in omega arith,
    all_mapped V (λ (w : Word). w.datum) (take s.w ws)
        (all_wider Within (λ w. V w.datum) (λ w is. is.datum) (take s.w ws) (all_taken Within s.w ws h)),
  )

  -- what a word says
  pub handshake_within : (w : Word) (k : ℕ) → Within w → IsBit (slice_index_or w.handshakes k 0)
  handshake_within w k h = all_read IsBit w.handshakes k 0 h.handshakes.1 (omega arith)

  -- words of the proof, and as the machine has them
  module _ (plain : Word → Word) (none : plain no_word ≡ no_word) where
    pub read_within : (ws : List Word) (k : ℕ) → AllByRecursion Within (map plain ws) →
        Within (plain (slice_index_or ws k no_word))
    read_within ws k h =
        subst Within (plain_at plain none ws k) (all_read Within (map plain ws) k no_word h none_within)

    pub copied_within : (count : ℕ) (a ws : List Word) (k r : ℕ) →
        AtMost count Within (map plain a) → AllByRecursion Within (map plain ws) →
        AtMost count Within (map plain (slice_set a k (slice_index_or ws r no_word)))
    copied_within count a ws k r old h =
        subst (AtMost count Within) (plain_copied plain none a ws k r)
        (set_within count Within (map plain a) k (slice_index_or (map plain ws) r no_word) old
        (all_read Within (map plain ws) r no_word h none_within))

    pub written_within : (count : ℕ) (ws : List Word) (k : ℕ) (w : Word) → AtMost count Within (map plain ws) →
        Within (plain w) → AtMost count Within (map plain (slice_set ws k w))
    written_within count ws k w old h =
        subst (AtMost count Within) (sym (map-set plain ws k w))
        (set_within count Within (map plain ws) k (plain w) old h)

  -- the first state
  row_of_zeros : (n count most : ℕ) → n ≤ count → AtMost count (λ x. x ≤ most) (replicate n 0)
  row_of_zeros n count most le = same_within n count (λ x. x ≤ most) 0 le (omega arith)

  first_word_within : (k : KindTag) → Within (initial_word k s)
  first_word_within kind.Seq = record {
    datum = zeroed;
    seq = omega arith;
    id = omega arith;
    toggle = omega arith;
    handshakes = (omega arith, tt);
    view = same_within s.w s.w V 0 (omega arith) zeroed;
  }
  first_word_within kind.Bits = record {
    datum = zeroed;
    seq = omega arith;
    id = omega arith;
    toggle = omega arith;
    handshakes = row_of_zeros s.n s.n 1 (omega arith);
    view = same_within s.w s.w V 0 (omega arith) zeroed;
  }
  first_word_within kind.Multi = none_within

  first_words : (k : KindTag) (n count : ℕ) → n ≤ count → AtMost count Within (replicate n (initial_word k s))
  first_words k n count le = same_within n count Within (initial_word k s) le (first_word_within k)

  first_bits : AtMost s.n (AtMost s.n IsBit) (replicate s.n (replicate s.n 0))
  first_bits =
      same_within s.n s.n (AtMost s.n IsBit) (replicate s.n 0) (omega arith) (row_of_zeros s.n s.n 1 (omega arith))

  pub first_memory_within : (k : KindTag) → IsMemoryWithin m s V (initial_memory k s)
  first_memory_within kind.Seq =
      record {
        words = first_words kind.Seq s.w s.w (omega arith);
        q = (omega arith, tt);
        p = (omega arith, tt);
        views = (omega arith, tt);
      }
  first_memory_within kind.Bits =
      record {
        words = first_words kind.Bits s.w s.w (omega arith);
        q = first_bits;
        p = (omega arith, tt);
        views = (omega arith, tt);
      }
  first_memory_within kind.Multi = record {
    words = first_words kind.Multi s.w s.w (omega arith);
    q = first_bits;
    p = first_bits;
    views =
        same_within s.n s.n (AtMost s.w V) (replicate s.w 0) (omega arith)
        (same_within s.w s.w V 0 (omega arith) zeroed);
  }

  all_named : {A : Type 0} (P : Name × A → Type 0) (v : A) → ((x : Name) → P (x, v)) → (xs : List Name) →
      AllByRecursion P (all_at v xs)
  all_named P v each [] = tt
  all_named P v each (x ∷ xs) = (each x, all_named P v each xs)

  pub first_locals_within : (source : Source) → IsLocalsWithin m s V (initial_process source s).locals
  first_locals_within source = record {
    scalars = all_named (λ (e : Name × ℕ). e.1 ≤ value_at e.0 m.scalars 0) 0 (λ x. omega arith) source.scalars;
    rows = all_named
        (λ (e : Name × List ℕ). AtMost (places s) (λ x. x ≤ value_at e.0 m.rows 0) e.1) (replicate (places s) 0)
        (λ x. row_of_zeros (places s) (places s) (value_at x m.rows 0) (omega arith)) source.rows;
    words = all_named
        (λ (e : Name × List Word). AtMost (places s) Within e.1) (replicate (places s) (initial_word source.kind s))
        (λ x. first_words source.kind (places s) (places s) (omega arith)) source.words;
    views = all_named
        (λ (e : Name × List ℕ). AtMost s.w V e.1) (replicate s.w 0)
        (λ x. same_within s.w s.w V 0 (omega arith) zeroed) source.views;
  }
