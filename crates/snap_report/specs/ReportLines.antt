-- Single lines of a machine's report: its first line, the line of a register, and the lines of locals.
use Rattle.std.specs.Prelude.{ℕ, List, [], ◌++◌, Option, Some, None, codes, decimal}
use Rattle.snap_words.specs.declared.address.Bank.{Bank}
use Rattle.snap_words.specs.declared.address.Bank.TheVariants as bank
use Rattle.snap_words.specs.declared.kind.KindTag.{KindTag}
use Rattle.snap_semantics.specs.declared.text.Sort.{Sort}
use Rattle.snap_semantics.specs.declared.text.Sort.TheVariants as sort
use Rattle.snap_semantics.specs.Readers.{Contents, WordContents, BitContents, ViewContents, LocalValue, NumberValue}
use Rattle.snap_semantics.specs.Readers.{RowValue, WordsValue, ViewValue, nth}
use Rattle.snap_semantics.specs.Report.{word_line, bit_line, view_line, number_local}
use Rattle.snap_semantics.specs.Report.{list_local, words_local, locals_lines}
use Rattle.snap_semantics.specs.Source.{Name}
use Rattle.snap_semantics.specs.State.{Locals, Memory}

-- the first line of a report
abbrev pub first_line : ℕ → ℕ → List ℕ
first_line t total = codes "report at " ++ decimal t ++ codes " of " ++ decimal total ++ codes "\n"

abbrev pub bank_text : Bank → List ℕ
bank_text bank.R = codes "r"
bank_text bank.Q = codes "q"
bank_text bank.P = codes "p"
bank_text bank.V = codes "v"

-- the line of a register that has this; there is none where there is no such register
abbrev pub register_line : KindTag → Bank → ℕ → ℕ → Option Contents → List ℕ
register_line g b i j None = []
register_line g b i j (Some (WordContents x)) = word_line g i x
register_line g b i j (Some (BitContents x)) = bit_line (bank_text b) i j x
register_line g b i j (Some (ViewContents v)) = view_line i v

-- the rows of a bank of bits
abbrev pub rows_of : Bank → Memory → List (List ℕ)
rows_of bank.Q m = m.q
rows_of bank.P m = m.p
rows_of _ m = []

-- row i of a bank of bits, without bits where there is none
abbrev pub bits_in : Option (List ℕ) → List ℕ
bits_in None = []
bits_in (Some row) = row

abbrev pub row_at : Bank → ℕ → Memory → List ℕ
row_at b i m = bits_in (nth i (rows_of b m))

-- a place of a `words` local, up to its `=`
abbrev pub place_text : Name → ℕ → List ℕ
place_text x p = codes "  " ++ x ++ codes " " ++ decimal p ++ codes " = "

-- the lines of a local
abbrev pub local_lines : KindTag → Name → LocalValue → List ℕ
local_lines g x (NumberValue v) = number_local x v
local_lines g x (RowValue vs) = list_local x vs
local_lines g x (WordsValue vs) = words_local g x 1 vs
local_lines g x (ViewValue vs) = list_local x vs

-- the lines of the locals of a sort
abbrev pub sort_lines : KindTag → Sort → Locals → List ℕ
sort_lines g sort.Scalar l = locals_lines number_local l.scalars
sort_lines g sort.Row l = locals_lines list_local l.rows
sort_lines g sort.Words l = locals_lines (λ x vs. words_local g x 1 vs) l.words
sort_lines g sort.View l = locals_lines list_local l.views
