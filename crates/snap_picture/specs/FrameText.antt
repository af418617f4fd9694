-- The SVG around what is drawn of a run: title, lanes, numbers of items, legend.
use Rattle.std.specs.Prelude.{ℕ, zero, suc, ◌+◌, ◌-◌, ◌*◌, ◌/◌, ◌%◌, List, [], ◌++◌, Option, Some, None, codes}
use Rattle.std.specs.Prelude.{decimal, nat_le, if◌then◌else◌}
use Rattle.snap_words.specs.declared.kind.KindTag.{KindTag}
use Rattle.snap_words.specs.declared.kind.KindTag.TheVariants as kind
use Rattle.snap_picture.specs.Elements.{line_text, words_head, edges_text}
use Rattle.snap_picture.specs.Escape.{escaped}
use Rattle.snap_picture.specs.Window.{Part, height, is_thin, x_of, y_end, y_of}
use Rattle.snap_picture.specs.declared.frame.Counts.{Counts}

abbrev pub kind_name : KindTag → List ℕ
kind_name kind.Seq = codes "seq"
kind_name kind.Bits = codes "bit"
kind_name kind.Multi = codes "multi"

unfoldable pub opening_of : ℕ → List ℕ
opening_of height =
    codes "<svg xmlns=\"http://www.w3.org/2000/svg\" role=\"img\" viewBox=\"0 0 1600 "
    ++ decimal height ++ codes "\">\n"

unfoldable pub opening : Part → List ℕ
opening p = opening_of (height p)

-- the kind and the shape of the listing, and which items of its run
unfoldable pub title_words : Part → Counts → List ℕ
title_words p c =
    codes "A listing of kind " ++ kind_name c.kind
    ++ codes ", shape " ++ decimal p.processes ++ codes " " ++ decimal c.words
    ++ codes ": items " ++ decimal (p.from + 1) ++ codes " to " ++ decimal p.to ++ codes " of " ++ decimal c.items

-- what is left out
abbrev pub thin_words : Part → List ℕ
thin_words p = if is_thin p then codes ". Thinned: reads, tests and scans of updates are left out" else []

unfoldable pub counts_words : Part → Counts → List ℕ
counts_words p c =
    codes "In the whole run: scans answered " ++ decimal c.scans
    ++ codes ", of these without a point " ++ decimal c.without_point
    ++ codes ", updates called " ++ decimal c.updates ++ thin_words p

-- the name of the picture
unfoldable pub name_text : Part → Counts → List ℕ
name_text p c = codes "<title>" ++ title_words p c ++ codes "</title>\n"

-- the titles of a picture, with what was counted
unfoldable pub titles : Part → Counts → List ℕ
titles p c =
    words_head (codes "title") 12 30 ++ title_words p c ++ codes "</text>\n"
    ++ words_head (codes "counts") 12 54 ++ counts_words p c ++ codes "</text>\n"

-- The input of the run, as it is given to `snaplab run`: a listing, where one is given, and a schedule.
unfoldable pub listing_part : Option (List ℕ) → List ℕ
listing_part None = []
listing_part (Some text) = escaped text ++ codes "\n%\n"

unfoldable pub input_text : Option (List ℕ) → List ℕ → List ℕ
input_text listing schedule = codes "<metadata>" ++ listing_part listing ++ escaped schedule ++ codes "</metadata>\n"

-- the lane of a process, with its name at a height
unfoldable pub lane_box : (i y name_y : ℕ) → List ℕ
lane_box i y name_y =
    codes "<rect class=\"lane\"" ++ edges_text 110 y 1460 56 ++ codes "/>" ++ words_head (codes "who") 12 name_y
    ++ codes "process " ++ decimal i
    ++ codes "</text>\n"

unfoldable pub lane_text : ℕ → List ℕ
lane_text i = lane_box i (y_of i) (y_of i + 34)

-- the lanes of so many processes
abbrev pub lanes_text : ℕ → List ℕ
lanes_text zero = []
lanes_text (suc k) = lanes_text k ++ lane_text (suc k)

-- how far apart the numbers of items stand, for so many items
abbrev pub step_of : ℕ → ℕ
step_of n =
    if nat_le n 24 then 2 else if nat_le n 60 then 5 else if nat_le n 120 then 10 else if nat_le n 240 then 20 else
    if nat_le n 600 then 50 else if nat_le n 1200 then 100 else if nat_le n 2400 then 200 else
    if nat_le n 6000 then 500 else if nat_le n 12000 then 1000 else 2000

-- the number of an item, below the lanes
unfoldable pub tick_text : Part → ℕ → List ℕ
tick_text p t =
    line_text (codes "tick") (x_of p t) (y_end p) (x_of p t) (y_end p + 6)
    ++ words_head (codes "number") (x_of p t) (y_end p + 22) ++ decimal t
    ++ codes "</text>\n"

-- the number of an item that is drawn
abbrev pub tick_or_none : Part → ℕ → List ℕ
tick_or_none p t = if nat_le t p.to then tick_text p t else []

-- a number of numbers, a step apart, from the first one on
abbrev pub ticks_text : Part → (step first count : ℕ) → List ℕ
ticks_text p step first zero = []
ticks_text p step first (suc k) = ticks_text p step first k ++ tick_or_none p (first + k * step)

-- the multiples of a step behind the first item
abbrev pub all_ticks : Part → ℕ → List ℕ
all_ticks p step = ticks_text p step (p.from - p.from % step + step) ((p.to - p.from) / step + 1)

-- the lanes, and the numbers of items below them
unfoldable pub all_lanes : Part → List ℕ
all_lanes p = lanes_text p.processes ++ all_ticks p (step_of (p.to - p.from))

-- what stands before the shapes; the style and the definitions of arrow and hatch are given
unfoldable pub head_text : Part → Counts → List ℕ → List ℕ
head_text p c style =
    opening p ++ name_text p c ++ style ++ titles p c ++ words_head (codes "who") 12 106
    ++ codes "values</text>\n" ++ all_lanes p

-- what stands behind them; the legend is given
unfoldable pub foot_text : Part → List ℕ → List ℕ
foot_text p legend =
    codes "<g class=\"legend\" transform=\"translate(12 " ++ decimal (y_end p + 50) ++ codes ")\">"
    ++ legend ++ codes "</g>\n</svg>\n"
