-- The printed text of a `Trouble`, the operand at which a line traps.
use Rattle.std.specs.Prelude.{ℕ, List, ◌++◌, codes, decimal, nat_eq, if◌then◌else◌}
use Rattle.snap_words.specs.declared.address.Bank.{Bank}
use Rattle.snap_semantics.specs.declared.instr.Index.{Index}
use Rattle.snap_semantics.specs.declared.instr.Index.TheVariants as index
use Rattle.snap_report.specs.ReportLines.{bank_text}
use Rattle.snap_why.specs.declared.trouble.Trouble.{Trouble}
use Rattle.snap_why.specs.declared.trouble.Trouble.TheVariants.{NoPlace, LargeSum, NoBit, NotOwn}

-- an index as it stands in a listing
abbrev pub index_text : Index → List ℕ
index_text (index.Number k) = decimal k
index_text index.Processes = codes "n"
index_text index.Words = codes "w"
index_text index.Me = codes "me"
index_text index.Word = codes "word"
index_text index.Place = codes "@"
index_text (index.Scalar x) = x

-- a second index, where there is one
abbrev pub second_text : ℕ → List ℕ
second_text j = if nat_eq j 0 then codes "" else codes " " ++ decimal j

-- an index with its value
unfoldable pub valued_index : Index → ℕ → List ℕ
valued_index i value = codes "the index " ++ index_text i ++ codes " is " ++ decimal value

-- a register
abbrev pub register_text : Bank → ℕ → ℕ → List ℕ
register_text b i j = codes "the register " ++ bank_text b ++ codes " " ++ decimal i ++ second_text j

abbrev pub trouble_text : Trouble → List ℕ
trouble_text (NoPlace i value count) =
    valued_index i value ++ codes ", and its places are 1 to " ++ decimal count ++ codes "\n"
trouble_text (LargeSum x y) =
    codes "the sum " ++ decimal x ++ codes " + " ++ decimal y ++ codes " is above 18446744073709551615\n"
trouble_text (NoBit x) = codes "the value to be written is " ++ decimal x ++ codes ", which is no bit\n"
trouble_text (NotOwn b i j) =
    register_text b i j ++ codes " is written by process " ++ decimal i ++ codes " alone\n"
