-- Which bit and view registers there are of a kind and shape, and why a write is refused (`IsWordRefused`,
-- `IsBitRefused`, `IsViewRefused`).
use Rattle.std.specs.Prelude.{◌≡◌, ℕ, Bool, true, false, ◌&&◌}
use Rattle.snap_words.specs.Kind.{has_bank, is_bit, may_write}
use Rattle.snap_words.specs.Shape.{Counts, is_place}
use Rattle.snap_words.specs.declared.address.Bank.TheVariants as bank
use Rattle.snap_words.specs.declared.kind.KindTag.{KindTag}
use Rattle.snap_semantics.specs.Table.{bank_of}
use Rattle.snap_semantics.specs.declared.instr.BitBank.{BitBank}
use Rattle.snap_regs.specs.declared.fault.RegisterFault.{RegisterFault}
use Rattle.snap_regs.specs.declared.fault.RegisterFault.TheVariants.{Index, Owner, NotABit}

-- whether there is such a bit
abbrev pub is_bit_place : KindTag → Counts → BitBank → ℕ → ℕ → Bool
is_bit_place k s b i j = has_bank k (bank_of b) && (is_place s.n i && is_place s.n j)

-- whether there is such a view
abbrev pub is_view_place : KindTag → Counts → ℕ → Bool
is_view_place k s i = has_bank k bank.V && is_place s.n i

-- why a process does not put a word
abbrev pub IsWordRefused : KindTag → Counts → ℕ → ℕ → RegisterFault → Type 0
IsWordRefused k s who i Index = is_place s.w i ≡ false
IsWordRefused k s who i NotABit = ⊥
IsWordRefused k s who i Owner = (is_place s.w i ≡ true) × (may_write k who bank.R i ≡ false)

-- why a process does not put this bit
abbrev pub IsBitRefused : KindTag → Counts → ℕ → BitBank → ℕ → ℕ → ℕ → RegisterFault → Type 0
IsBitRefused k s who b i j x Index = is_bit_place k s b i j ≡ false
IsBitRefused k s who b i j x NotABit = (is_bit_place k s b i j ≡ true) × (is_bit x ≡ false)
IsBitRefused k s who b i j x Owner =
    (is_bit_place k s b i j ≡ true) × (is_bit x ≡ true) × (may_write k who (bank_of b) i ≡ false)

-- why a process does not put a view
abbrev pub IsViewRefused : KindTag → Counts → ℕ → ℕ → RegisterFault → Type 0
IsViewRefused k s who i Index = is_view_place k s i ≡ false
IsViewRefused k s who i NotABit = ⊥
IsViewRefused k s who i Owner = (is_view_place k s i ≡ true) × (may_write k who bank.V i ≡ false)
