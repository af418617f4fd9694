-- The SVG elements of a picture as text: boxes, paths, dots and words, with their attributes.
use Rattle.std.specs.Prelude.{ℕ, List, ◌++◌, codes, decimal}

-- ` NAME="X"`
unfoldable pub attribute : List ℕ → ℕ → List ℕ
attribute name x = codes " " ++ name ++ codes "=\"" ++ decimal x ++ codes "\""

-- a place in a path
unfoldable pub place_text : ℕ → ℕ → List ℕ
place_text x y = decimal x ++ codes " " ++ decimal y

-- four edges
unfoldable pub edges_text : (x y width height : ℕ) → List ℕ
edges_text x y width height =
    attribute (codes "x") x ++ attribute (codes "y") y ++ attribute (codes "width") width
    ++ attribute (codes "height") height

-- an element of this class, up to what is said of it
unfoldable pub group_head : List ℕ → List ℕ
group_head class = codes "<g class=\"" ++ class ++ codes "\"><title>"

-- a box of a class, up to what is said of it
unfoldable pub box_head : List ℕ → (x y width height : ℕ) → List ℕ
box_head class x y width height =
    codes "<svg class=\"" ++ class ++ codes "\"" ++ edges_text x y width height ++ codes "><title>"

-- the rest of a box, without its words
abbrev pub box_body : List ℕ
box_body = codes "</title><rect width=\"100%\" height=\"100%\"/>"

-- a path of a class that begins here and goes so, up to what is said of it
unfoldable pub path_head : List ℕ → (x y : ℕ) → List ℕ → List ℕ
path_head class x y form =
    codes "<path class=\"" ++ class ++ codes "\" d=\"M" ++ place_text x y ++ form ++ codes "\"><title>"

-- a straight path
unfoldable pub line_text : List ℕ → (x y to_x to_y : ℕ) → List ℕ
line_text class x y to_x to_y =
    codes "<path class=\"" ++ class ++ codes "\" d=\"M" ++ place_text x y ++ codes "L"
    ++ place_text to_x to_y ++ codes "\"/>"

-- a dot
unfoldable pub dot_text : (x y : ℕ) → List ℕ
dot_text x y = codes "<circle r=\"5\"" ++ attribute (codes "cx") x ++ attribute (codes "cy") y ++ codes "/>"

-- words of a class at a place, up to the words
unfoldable pub words_head : List ℕ → (x y : ℕ) → List ℕ
words_head class x y =
    codes "<text class=\"" ++ class ++ codes "\"" ++ attribute (codes "x") x ++ attribute (codes "y") y ++ codes ">"
