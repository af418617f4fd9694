-- A listing that is strongly linearizable: one word, which every process may set and see. Each operation takes place
-- at its first step.
use Rattle.std.specs.Prelude.{ℕ, [], ◌∷◌, None}
use Rattle.snap_words.specs.Shape.{Counts}
use Rattle.snap_words.specs.declared.kind.KindTag.TheVariants.{Multi}
use Rattle.snap_semantics.specs.declared.instr.Expr.TheVariants.{Term}
use Rattle.snap_semantics.specs.declared.instr.Index.TheVariants.{Me, Number}
use Rattle.snap_semantics.specs.declared.instr.Instr.TheVariants.{Get, Put, ViewData, Return, Finish}
use Rattle.snap_semantics.specs.declared.instr.Term.TheVariants.{Index, Arg}
use Rattle.snap_semantics.specs.declared.instr.Tuple.TheVariants as tuple
use Rattle.snap_semantics.specs.Source.{Source}
use Rattle.snap_runs_of_u.specs.ListingU.{a, s, at, number}
use Rattle.snap_strong.specs.StrongLinearization.{IsStronglyLinearizable}

-- A scan reads the word and answers it; an update writes it.
abbrev pub one_word : Source
one_word = record {
  kind = Multi;
  scalars = [];
  rows = [];
  words = a ∷ [];
  views = s ∷ [];
  scan = 10;
  update = 20;
  lines =
      at 10 (Get a (Number 1) (Number 1))
      ∷ at 11 (ViewData s a)
      ∷ at 12 (Return s)
      ∷ at 20 (Put (Number 1) (tuple.Multi (Term Arg) (Term (Index Me)) (Term (number 0))))
      ∷ at 21 Finish
      ∷ [];
}

-- the shape of n processes and one word
abbrev pub shared_by : ℕ → Counts
shared_by n = record { n = n; w = 1 }

-- The listing of one word is strongly linearizable, for every number of processes and in runs of any length.
abbrev pub OneWordIsStronglyLinearizable : Type 0
OneWordIsStronglyLinearizable = (n : ℕ) → IsStronglyLinearizable one_word (shared_by n) None
