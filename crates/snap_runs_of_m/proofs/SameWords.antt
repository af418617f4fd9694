-- Words that a test of M takes for the same have the same id and the same toggle.
use Rattle.std.specs.Prelude.{◌≡◌, true}
use Rattle.snap_words.specs.Word.{Word}
use Rattle.snap_runs.proofs.Computing.{both, same_from}
use Rattle.snap_runs_of_m.proofs.Algorithm.{same_words}

-- two words have the same writer and the same toggle
pub record Alike (x y : Word) : Type 0 where
  pub ids : x.id ≡ y.id
  pub toggles : x.toggle ≡ y.toggle

pub alike_of : (x y : Word) → same_words x y ≡ true → Alike x y
alike_of x y same =
    let parts = both _ _ same in
    record {
      ids = same_from x.id y.id parts.0;
      toggles = same_from x.toggle y.toggle parts.1;
    }
