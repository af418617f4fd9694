-- Rows of bit registers stored in one list (`rows_of`): bit j of row i is at place i * columns + j.
use Rattle.std.proofs.Common.{◌≡◌, ◌∙◌, ℕ, zero, suc, ◌+◌, ◌-◌, ◌*◌, ◌<◌, ◌≤◌, Bool, true, false, List, [], ◌∷◌, drop}
use Rattle.std.proofs.Common.{get_or, length, map, replicate, take, refl, sym, ap, subst, arith, nat_eq}
use Rattle.std.proofs.Math.ListN.{set, get_or-map}
use Rattle.std.proofs.Math.Nat.{mul-le-mul, mul-le-mul_right, suc-mul, zero-mul}
use Rattle.std.proofs.Math.Seq.{take-set-lt}
use Rattle.std.proofs.lemmas.List.{drop-drop, drop-replicate, drop-set-add, drop-set-lt, get_or-drop, get_or-take}
use Rattle.std.proofs.lemmas.List.{get_or_default, length-map, length-take, map-set, take-replicate, take-set-le}
use Rattle.std.specs.Prelude.{◌^◌}
use Rattle.snap_words.specs.Shape.{max_count}
use Rattle.snap_semantics.specs.Table.{bit_at, with_bit_at}
use Rattle.snap_regs.specs.Rows.{HasBits, bit_number, rows_of}

length-rows_of : (rows columns : ℕ) (bits : List Bool) → length (rows_of rows columns bits) ≡ rows
length-rows_of zero columns bits = refl
length-rows_of (suc rows) columns bits = ap suc (length-rows_of rows columns (drop columns bits))

-- row i
row_of : (rows columns i : ℕ) (bits : List Bool) → i < rows →
    get_or (rows_of rows columns bits) i [] ≡ map bit_number (take columns (drop (i * columns) bits))
row_of zero columns i bits h = absurd (omega arith)
row_of (suc rows) columns zero bits h = rw (zero-mul columns) refl
row_of (suc rows) columns (suc i) bits h =
    let e : columns + i * columns ≡ suc i * columns = omega (arith, suc-mul i columns) in
    row_of rows columns i (drop columns bits) (omega arith)
    ∙ ap (λ (bs : List Bool). map bit_number (take columns bs))
    (drop-drop (i * columns) columns bits ∙ ap (λ (k : ℕ). drop k bits) e)

-- bit j of row i
bit_of : (rows columns i j : ℕ) (bits : List Bool) → i < rows → j < columns →
    get_or (get_or (rows_of rows columns bits) i []) j 0 ≡ bit_number (get_or bits (i * columns + j) false)
bit_of rows columns i j bits h k =
    ap (λ (row : List ℕ). get_or row j 0) (row_of rows columns i bits h)
    ∙ get_or-map bit_number (take columns (drop (i * columns) bits)) j false
    ∙ ap bit_number (get_or-take columns (drop (i * columns) bits) j false k ∙ get_or-drop (i * columns) bits j false)

-- a row has no more places than there are columns
row_columns : (rows columns i : ℕ) (bits : List Bool) → i < rows →
    length (get_or (rows_of rows columns bits) i []) ≤ columns
row_columns rows columns i bits h =
    let e = ap (λ (row : List ℕ). length row) (row_of rows columns i bits h)
    ∙ length-map (take columns (drop (i * columns) bits)) bit_number ∙ length-take columns (drop (i * columns) bits) in
    omega (arith, e)

-- the place of bit j of row i is within the list
place_within : (rows columns i j : ℕ) → i < rows → j < columns → i * columns + j < rows * columns
place_within rows columns i j h k =
    let below : suc i ≤ rows = omega arith in
    let all : suc i * columns ≤ rows * columns = mul-le-mul_right columns below in
    omega (arith, suc-mul i columns)

-- Row i and column j exist, and the place of their bit is within the list and below 2^64.
pub record IsPlace (rows columns i j : ℕ) (bits : List Bool) : Type 0 where
  pub row : i < rows
  pub column : j < columns
  pub within : i * columns + j < length bits
  pub small : i * columns + j < 2 ^ 64

pub place_there : (rows columns i j : ℕ) (bits : List Bool) (now : List (List ℕ)) → HasBits rows columns bits →
    rows_of rows columns bits ≡ now → i < length now → j < length (get_or now i []) → IsPlace rows columns i j bits
place_there rows columns i j bits now has e h k =
    let count : length now ≡ rows = sym (ap (λ (rs : List (List ℕ)). length rs) e) ∙ length-rows_of rows columns bits in
    let row : i < rows = omega (arith, count) in
    let fits = row_columns rows columns i bits row in
    let same = ap (λ (rs : List (List ℕ)). length (get_or rs i [])) e in
    let column : j < columns = omega (arith, fits, same) in
    let within = place_within rows columns i j row column in
    let few : rows * columns ≤ max_count * max_count = mul-le-mul has.few_rows has.few_columns in
    record { row = row; column = column; within = omega (arith, within, has.all); small = omega (arith, within, few) }

-- one bit changed, and nothing else
rows_of-set : (rows columns i j : ℕ) (bits : List Bool) (b : Bool) → i < rows → j < columns →
    rows_of rows columns (set bits (i * columns + j) b)
    ≡ set (rows_of rows columns bits) i (set (get_or (rows_of rows columns bits) i []) j (bit_number b))
rows_of-set zero columns i j bits b h k = absurd (omega arith)
rows_of-set (suc rows) columns zero j bits b h k =
    let e : zero * columns + j ≡ j = omega (arith, zero-mul columns) in
    rw (e, take-set-lt columns bits j b k, map-set bit_number (take columns bits) j b, drop-set-lt columns bits j b k)
    refl
rows_of-set (suc rows) columns (suc i) j bits b h k =
    let e : suc i * columns + j ≡ columns + (i * columns + j) = omega (arith, suc-mul i columns) in
    rw (
      e,
      take-set-le columns bits (columns + (i * columns + j)) b (omega arith),
      drop-set-add columns bits (i * columns + j) b,
    )
    (ap (λ (rs : List (List ℕ)). map bit_number (take columns bits) ∷ rs)
    (rows_of-set rows columns i j (drop columns bits) b (omega arith) k))

number_of_bit : (x : ℕ) → x ≤ 1 → bit_number (nat_eq x 1) ≡ x
number_of_bit zero h = refl
number_of_bit (suc zero) h = refl
number_of_bit (suc (suc x)) h = absurd (omega arith)

-- one bit changed to a number that is 0 or 1, as `with_bit_at` says it
pub rows_of-put : (rows columns i j place x : ℕ) (bits : List Bool) (now : List (List ℕ)) →
    IsPlace rows columns i j bits → rows_of rows columns bits ≡ now → place ≡ i * columns + j → x ≤ 1 →
    rows_of rows columns (set bits place (nat_eq x 1)) ≡ with_bit_at now i j x
rows_of-put rows columns i j place x bits now is e at h =
    ap (λ (k : ℕ). rows_of rows columns (set bits k (nat_eq x 1))) at
    ∙ rows_of-set rows columns i j bits (nat_eq x 1) is.row is.column
    ∙ ap (λ (y : ℕ). with_bit_at (rows_of rows columns bits) i j y) (number_of_bit x h)
    ∙ ap (λ (rs : List (List ℕ)). with_bit_at rs i j x) e

-- what is read at the place of a bit is bit j of row i
pub bit_read : (rows columns i j place : ℕ) (bits : List Bool) (b : Bool) (now : List (List ℕ)) →
    IsPlace rows columns i j bits → rows_of rows columns bits ≡ now → place ≡ i * columns + j →
    b ≡ get_or bits place b → bit_number b ≡ bit_at now i j
bit_read rows columns i j place bits b now is e at read =
    ap bit_number (read ∙ ap (λ (k : ℕ). get_or bits k b) at ∙ get_or_default bits (i * columns + j) b false is.within)
    ∙ sym (bit_of rows columns i j bits is.row is.column)
    ∙ ap (λ (rs : List (List ℕ)). bit_at rs i j) e

-- a bit is 0 or 1
pub at_most_one : (b : Bool) (x : ℕ) → x ≡ bit_number b → x ≤ 1
at_most_one b x e = subst (λ (n : ℕ). n ≤ 1) (sym e) (small b) where
  small : (b : Bool) → bit_number b ≤ 1
  small true = omega arith
  small false = omega arith

zero_row : (columns : ℕ) → map bit_number (replicate columns false) ≡ replicate columns 0
zero_row zero = refl
zero_row (suc columns) = ap (λ (row : List ℕ). 0 ∷ row) (zero_row columns)

pub rows_of-zeros : (rows columns : ℕ) →
    rows_of rows columns (replicate (rows * columns) false) ≡ replicate rows (replicate columns 0)
rows_of-zeros zero columns = refl
rows_of-zeros (suc rows) columns =
    let rest : rows * columns + columns - columns ≡ rows * columns = omega arith in
    rw (
      suc-mul rows columns,
      take-replicate columns (rows * columns + columns) false (omega arith),
      drop-replicate columns (rows * columns + columns) false,
      rest,
      zero_row columns,
    )
    (ap (λ (rs : List (List ℕ)). replicate columns 0 ∷ rs) (rows_of-zeros rows columns))
