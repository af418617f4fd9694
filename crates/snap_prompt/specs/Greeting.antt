-- `greeting_text`: what the debugger's prompt says before the first line.
use Rattle.std.specs.Prelude.{ℕ, List, ◌++◌, codes, decimal}
use Rattle.snap_words.specs.Shape.{Counts}
use Rattle.snap_debug.specs.Session.{Session}
use Rattle.snap_prompt.specs.Hints.{first_number, last_number, range_text}

abbrev pub shape_text : Counts → List ℕ
shape_text s = codes ", shape " ++ decimal s.n ++ codes " " ++ decimal s.w

-- the lines of the listing, the shape, and where help is
unfoldable pub greeting_text : Session → List ℕ
greeting_text s =
    codes "snapdb"
    ++ range_text (codes "lines") (first_number s.run.source.lines) (last_number 0 s.run.source.lines)
    ++ shape_text s.run.shape ++ codes "; `help` says what can be typed\n"
