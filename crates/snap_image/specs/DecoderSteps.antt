-- The steps of the decoder of images, as definitions: the
-- lines that were read with their comments, and one line more.
use Rattle.std.specs.Prelude.{ℕ, List, [], ◌∷◌, ◌++◌, map, Result, Ok, Err}
use Rattle.snap_image.specs.declared.image.ImageVersion.{ImageVersion}
use Rattle.snap_semantics.specs.declared.instr.Line.{Line}
use Rattle.snap_semantics.specs.declared.refusal.ImageRefusal.{ImageRefusal}
use Rattle.snap_semantics.specs.Answers.{◌>>=◌}
use Rattle.snap_semantics.specs.Comments.{Comment}
use Rattle.snap_image.specs.ImageForms.{Rest, Read}
use Rattle.snap_image.specs.ImageListing.{behind_line_in, line_in}
use Rattle.snap_semantics.specs.Source.{Source}
use Rattle.snap_listing_core.specs.Fields.{seen_comment}
use Rattle.snap_image.specs.declared.lines.CommentedLines.{CommentedLines}

-- what was read before, and what is read behind it
abbrev pub onto : {A : Type 0} → List A → Read (List A) → Read (List A)
onto xs (Ok x) = Ok (xs ++ x.0, x.1)
onto xs (Err e) = Err e

-- lines, and their comments
abbrev pub CommentedList : Type 0
CommentedList = List Line × List Comment

-- what is kept of lines and their comments, as lists
abbrev pub listed : CommentedLines → CommentedList
listed read = (read.lines.items, map seen_comment read.comments.items)

-- one line more, with its comment
abbrev pub with_line : CommentedList → Line → Comment → CommentedList
with_line before line c = (before.0 ++ line ∷ [], before.1 ++ c ∷ [])

-- the lines that were read before, and those that are read behind them
abbrev pub onto_lines : CommentedList → Read CommentedList → Read CommentedList
onto_lines before (Ok x) = Ok ((before.0 ++ x.0.0, before.1 ++ x.0.1), x.1)
onto_lines before (Err e) = Err e

-- the number of the next line, the lines with it, and what is left
abbrev pub added_line : Source → ImageVersion → ℕ → ℕ → CommentedList → Rest →
    Result (ℕ × CommentedList × Rest) ImageRefusal
added_line s v line last before r =
    line_in s v line last r >>= λ x. behind_line_in v x.1 >>= λ c. Ok (x.0.number, with_line before x.0 c.0, c.1)
