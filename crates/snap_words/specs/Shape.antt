-- The shape of the registers: how many processes and how many
-- words there are, 1 to 64 each; and places, counted from 1.
use Rattle.std.specs.Prelude.{ℕ, ◌<◌, ◌≤◌, ◌-◌, max, Bool, ◌&&◌, Result, Ok, Err, nat_lt, nat_le, if◌then◌else◌}

-- the numbers of processes and of words
pub record Counts : Type 0 where
  pub n : ℕ
  pub w : ℕ

-- a number from 1 to count
abbrev pub IsOneOf : ℕ → ℕ → Type 0
IsOneOf count i = (0 < i) × (i ≤ count)

-- the most processes, and the most words
abbrev pub max_count : ℕ
max_count = 64

-- the most items of a schedule, and of a run
abbrev pub max_items : ℕ
max_items = 1000000

-- a shape: the numbers of processes and of words are both 1 to `max_count`
abbrev pub IsShape : ℕ → ℕ → Type 0
IsShape n w = IsOneOf max_count n × IsOneOf max_count w

-- how many places a row or a `words` local has
abbrev pub places : Counts → ℕ
places s = max s.n s.w

-- whether k is one of this many places, counted from 1
abbrev pub is_place : ℕ → ℕ → Bool
is_place count k = nat_lt 0 k && nat_le k count

-- place k, counted from 1, as one counted from 0; the fault where there is none
abbrev pub place_in : {E : Type 0} → ℕ → ℕ → E → Result ℕ E
place_in count k fault = if is_place count k then Ok (k - 1) else Err fault
