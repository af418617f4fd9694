-- Which items are drawn, and where: in units of a picture that is 1,600 wide.
use Rattle.std.specs.Prelude.{ℕ, ◌+◌, ◌-◌, ◌*◌, ◌/◌, ◌<◌, ◌≤◌, Bool, ◌&&◌, nat_le, nat_lt, min, max}
use Rattle.snap_words.specs.Shape.{IsOneOf, max_count, max_items}

-- the items after `from` and up to `to`, of so many processes; whether reads lead to what they read
pub record Part : Type 0 where
  pub from : ℕ
  pub to : ℕ
  pub processes : ℕ
  pub reads : Bool

-- the most items that a picture has
abbrev pub most_items : ℕ
most_items = 20000

-- at least one item, and no more than that many
pub record IsPart (p : Part) : Type 0 where
  pub some : p.from < p.to
  pub few : p.to ≤ p.from + most_items
  pub counted : p.to ≤ max_items
  pub processes_are : IsOneOf max_count p.processes

-- where the state after an item stands: that of an item outside is at the edge
abbrev pub x_of : Part → ℕ → ℕ
x_of p t = 110 + (min (max t p.from) p.to - p.from) * 1460 / (p.to - p.from)

-- where what an item begins begins: with the state before it
abbrev pub x_before : Part → ℕ → ℕ
x_before p t = x_of p (t - 1)

-- how far it is from item to item; what is drawn is seen
abbrev pub width_of : ℕ → ℕ → ℕ
width_of left right = max (right - left) 2

-- the upper edge of the lane of a process
abbrev pub y_of : ℕ → ℕ
y_of i = 92 + 62 * i

-- where the lanes end
abbrev pub y_end : Part → ℕ
y_end p = y_of (p.processes + 1)

-- the height of the picture
abbrev pub height : Part → ℕ
height p = y_end p + 148

-- whether some of the items from one to another are drawn
abbrev pub is_near : Part → ℕ → ℕ → Bool
is_near p from to = nat_le from p.to && nat_lt p.from to

-- an item is drawn
abbrev pub is_here : Part → ℕ → Bool
is_here p t = is_near p t t

-- whether there are too many items to leave room for each of them
abbrev pub is_thin : Part → Bool
is_thin p = nat_lt 1000 (p.to - p.from)
