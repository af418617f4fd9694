-- Pieces of JSON: what stands before an element of a list, lists of numbers, and the fields of an object behind the
-- first one.
use Rattle.std.specs.Prelude.{ℕ, zero, suc, Bool, List, [], ◌∷◌, ◌++◌, length, codes, decimal}
use Rattle.std.specs.Prelude.{Option, Some, None, if◌then◌else◌, nat_eq, slice_index}
use Rattle.snap_acts.specs.Loans.{step_at}
use Rattle.snap_acts.specs.declared.act.TraceStep.{TraceStep}
use Rattle.snap_anatomy.specs.declared.memory.Span.{Span}

-- what stands before element k of a list, counted from 0
abbrev pub separator : ℕ → List ℕ
separator k = if nat_eq k 0 then [] else codes ","

-- the first k of these numbers
abbrev pub numbers_to : List ℕ → ℕ → List ℕ
numbers_to xs zero = []
numbers_to xs (suc k) = numbers_to xs k ++ separator k ++ decimal (slice_index xs k)

unfoldable pub list_json : List ℕ → List ℕ
list_json xs = codes "[" ++ numbers_to xs (length xs) ++ codes "]"

abbrev pub bool_json : Bool → List ℕ
bool_json b = if b then codes "true" else codes "false"

-- the item of the step at a place, if there is one
abbrev pub place_json : List TraceStep → Option ℕ → List ℕ
place_json ss None = codes "null"
place_json ss (Some k) = decimal (step_at ss k).item

-- the process of the step at a place, if there is one
abbrev pub process_json : List TraceStep → Option ℕ → List ℕ
process_json ss None = codes "null"
process_json ss (Some k) = decimal (step_at ss k).process

unfoldable pub span_json : Span → List ℕ
span_json a = codes "[" ++ decimal a.from ++ codes "," ++ decimal a.to ++ codes "]"

-- the name of a field behind another one
unfoldable pub field : List ℕ → List ℕ
field name = codes ",\"" ++ name ++ codes "\":"

unfoldable pub number_field : List ℕ → ℕ → List ℕ
number_field name x = field name ++ decimal x

unfoldable pub text_field : List ℕ → List ℕ → List ℕ
text_field name text = field name ++ codes "\"" ++ text ++ codes "\""

unfoldable pub list_field : List ℕ → List ℕ → List ℕ
list_field name xs = field name ++ list_json xs

unfoldable pub place_field : List ℕ → List TraceStep → Option ℕ → List ℕ
place_field name ss k = field name ++ place_json ss k
