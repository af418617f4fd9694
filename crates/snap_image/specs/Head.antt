-- How an image begins (`opened`): with its signature and its version; and the names of the tables before one.
use Rattle.std.specs.Prelude.{ℕ, List, ◌++◌}
use Rattle.snap_image.specs.declared.image.ImageVersion.{ImageVersion}
use Rattle.snap_semantics.specs.Answers.{◌>>=◌}
use Rattle.snap_image.specs.ImageForms.{Read}
use Rattle.snap_image.specs.ImageListing.{signature_in, version_in}
use Rattle.snap_semantics.specs.Source.{Name}
use Rattle.snap_image.specs.declared.head.EarlierNames.{EarlierNames}

-- the version of an image, and what stands behind it, or why bytes do not begin as an image
abbrev pub opened : List ℕ → Read ImageVersion
opened bytes = signature_in bytes >>= version_in

-- the names of the tables before one
abbrev pub known_names : EarlierNames → List Name
known_names k = k.scalars.now ++ (k.rows.now ++ k.words.now)
