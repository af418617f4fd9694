-- Lines that are calls.
use Rattle.std.specs.Prelude.{◌≡◌, ℕ, true, not, nat_eq, List, [], ◌∷◌, ◌++◌, Option, Some, None}
use Rattle.std.specs.List.{list_all}
use Rattle.snap_semantics.specs.declared.process.Op.{Op}
use Rattle.snap_semantics.specs.ScheduleForms.{spelled_call}
use Rattle.snap_semantics.specs.Token.{Token, Number, TextLine, front_of}
use Rattle.snap_text.specs.declared.lines.CallLine.{CallLine}

-- An operation at the front, as it stands behind its process: it begins with no letter or digit, and no line feed
-- stands in it. With the number of a process before its tokens, they are a call. The rest stands behind it.
pub record BeginsWithOp (bytes : List ℕ) (op : Op) (rest : List ℕ) : Type 0 where
  pub text : List ℕ
  pub spelled : bytes ≡ text ++ rest
  pub one_line : list_all (λ (b : ℕ). not (nat_eq b 10)) text ≡ true
  pub tokens : List Token
  pub front : front_of text ≡ Some ([], tokens)
  pub call : (process : ℕ) → spelled_call process op ≡ Number process ∷ tokens

abbrev pub view_call : CallLine → TextLine
view_call line = record { number = line.number; tokens = Some (spelled_call line.process line.op) }

-- the next of the lines, where it was taken, and those behind it; else all of them are left
abbrev pub IsNextCall : Option CallLine → List TextLine → List TextLine → Type 0
IsNextCall None old new = new ≡ old
IsNextCall (Some line) old new = old ≡ view_call line ∷ new
