-- `Store`: registers and their shape as the definitions see them; `IsOfShape`: the banks have the sizes of a kind and
-- shape.
use Rattle.std.specs.Prelude.{◌≡◌, ℕ, ◌-◌, true, List, length, slice_set, if◌then◌else◌}
use Rattle.std.specs.List.{All}
use Rattle.snap_words.specs.Kind.{has_bank, is_sized}
use Rattle.snap_words.specs.Shape.{Counts}
use Rattle.snap_words.specs.Word.{Word}
use Rattle.snap_words.specs.declared.address.Bank.{Bank}
use Rattle.snap_words.specs.declared.address.Bank.TheVariants as bank
use Rattle.snap_words.specs.declared.kind.KindTag.{KindTag}
use Rattle.snap_semantics.specs.State.{Memory, with_memory_words}
use Rattle.snap_semantics.specs.Table.{bits_of, with_bit_at, with_memory_bits, with_memory_views}
use Rattle.snap_semantics.specs.declared.instr.BitBank.{BitBank}

-- the registers and their shape
pub record Store : Type 0 where
  pub shape : Counts
  pub memory : Memory

-- the registers with another content of one of them; indices count from 1
abbrev pub with_word : ℕ → Word → Store → Store
with_word i x r = record { shape = r.shape; memory = with_memory_words (slice_set r.memory.words (i - 1) x) r.memory }

abbrev pub with_bit : BitBank → ℕ → ℕ → ℕ → Store → Store
with_bit b i j x r = record {
  shape = r.shape;
  memory = with_memory_bits b (with_bit_at (bits_of b r.memory) (i - 1) (j - 1) x) r.memory;
}

abbrev pub with_view : ℕ → List ℕ → Store → Store
with_view i v r = record { shape = r.shape; memory = with_memory_views (slice_set r.memory.views (i - 1) v) r.memory }

-- how many rows of bits, or views, a bank has
abbrev pub rows_in : KindTag → Counts → Bank → ℕ
rows_in k s b = if has_bank k b then s.n else 0

-- each of these rows has this many places
abbrev pub HasColumns : ℕ → List (List ℕ) → Type 0
HasColumns count rows = All (λ (row : List ℕ). length row ≡ count) rows

-- the banks are as long as the shape wants, and so are the handshake bits and the views of the words
pub record IsOfShape (k : KindTag) (s : Counts) (m : Memory) : Type 0 where
  pub word_count : length m.words ≡ s.w
  pub words_sized : All (λ (x : Word). is_sized k s x ≡ true) m.words
  pub q_rows : length m.q ≡ rows_in k s bank.Q
  pub q_columns : HasColumns s.n m.q
  pub p_rows : length m.p ≡ rows_in k s bank.P
  pub p_columns : HasColumns s.n m.p
  pub view_count : length m.views ≡ rows_in k s bank.V
  pub view_places : HasColumns s.w m.views
