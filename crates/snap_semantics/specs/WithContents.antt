-- `with_contents`: the memory in which one register has other contents, and all others are as they were.
use Rattle.std.specs.Prelude.{◌≡◌, ℕ, ◌-◌, List, [], Some, nat_eq, nat_lt, if◌then◌else◌, slice_index_or, slice_set, ⊤}
use Rattle.snap_words.specs.declared.address.Bank.{Bank}
use Rattle.snap_words.specs.declared.address.Bank.TheVariants as bank
use Rattle.snap_semantics.specs.declared.instr.BitBank.TheVariants as bits
use Rattle.snap_semantics.specs.Readers.{Contents, WordContents, BitContents, ViewContents, contents}
use Rattle.snap_semantics.specs.State.{Memory, with_memory_words}
use Rattle.snap_semantics.specs.Table.{with_memory_bits, with_memory_views}

-- the list with another element at place k, counted from 1, where it has one
abbrev pub with_nth : {A : Type 0} → ℕ → A → List A → List A
with_nth k x xs = if nat_lt 0 k then slice_set xs (k - 1) x else xs

-- the rows with another bit at place j of row i
abbrev pub with_bit_in : ℕ → ℕ → ℕ → List (List ℕ) → List (List ℕ)
with_bit_in i j x rows = with_nth i (with_nth j x (slice_index_or rows (i - 1) [])) rows

-- The memory where the register of this bank and these indices has these contents. All others are as they were, and
-- so is the memory where there is no such register, or where it does not have contents of this sort.
abbrev pub with_contents : Memory → Bank → ℕ → ℕ → Contents → Memory
with_contents m bank.R i j (WordContents x) = if nat_eq j 0 then with_memory_words (with_nth i x m.words) m else m
with_contents m bank.R i j (BitContents x) = m
with_contents m bank.R i j (ViewContents v) = m
with_contents m bank.Q i j (WordContents x) = m
with_contents m bank.Q i j (BitContents x) = with_memory_bits bits.Q (with_bit_in i j x m.q) m
with_contents m bank.Q i j (ViewContents v) = m
with_contents m bank.P i j (WordContents x) = m
with_contents m bank.P i j (BitContents x) = with_memory_bits bits.P (with_bit_in i j x m.p) m
with_contents m bank.P i j (ViewContents v) = m
with_contents m bank.V i j (WordContents x) = m
with_contents m bank.V i j (BitContents x) = m
with_contents m bank.V i j (ViewContents v) = if nat_eq j 0 then with_memory_views (with_nth i v m.views) m else m

-- a register of this bank has contents of this sort
abbrev pub IsOfBank : Bank → Contents → Type 0
IsOfBank bank.R (WordContents x) = ⊤
IsOfBank bank.R (BitContents x) = ⊥
IsOfBank bank.R (ViewContents v) = ⊥
IsOfBank bank.Q (WordContents x) = ⊥
IsOfBank bank.Q (BitContents x) = ⊤
IsOfBank bank.Q (ViewContents v) = ⊥
IsOfBank bank.P (WordContents x) = ⊥
IsOfBank bank.P (BitContents x) = ⊤
IsOfBank bank.P (ViewContents v) = ⊥
IsOfBank bank.V (WordContents x) = ⊥
IsOfBank bank.V (BitContents x) = ⊥
IsOfBank bank.V (ViewContents v) = ⊤

-- what is put where there is a register is there
abbrev pub PutIsThere : Type 0
PutIsThere = (m : Memory) (b : Bank) (i j : ℕ) (c old : Contents) → contents m b i j ≡ Some old → IsOfBank b c →
    contents (with_contents m b i j c) b i j ≡ Some c

-- a put leaves the registers of all other addresses as they were, and makes none
abbrev pub OthersStay : Type 0
OthersStay = (m : Memory) (b d : Bank) (i j k l : ℕ) (c : Contents) → ((b ≡ d) × (i ≡ k) × (j ≡ l) → ⊥) →
    contents (with_contents m b i j c) d k l ≡ contents m d k l
