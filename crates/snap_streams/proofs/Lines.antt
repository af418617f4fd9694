-- A line that is typed at a console, kept byte by byte: `kept_on` for a byte, `line_at_end` for the line feed,
-- `line_at_input_end` for the end of the input.
use Rattle.std.proofs.Common.{◌≡◌, ◌≢◌, ℕ, ◌+◌, List, [], ◌∷◌, ◌++◌, Option, Some, None, Bool, true, false}
use Rattle.std.proofs.Common.{if◌then◌else◌, ◌==◌, length, take, sym, ap, ◌∙◌, subst}
use Rattle.std.proofs.Common.{append_assoc, IfSome, arith}
use Rattle.std.proofs.lemmas.Grind.{common_steps}
use Rattle.std.specs.Prelude.{nat_le}
use Rattle.std.specs.Io.BufRead.{take_through, drop_through}
use Rattle.snap_streams.specs.TypedLines.{kept, with_byte, GivesNext}
use Rattle.snap_streams.specs.Talks.{HasKept}

-- one byte more is kept where there is room
kept_more_in : (most : ℕ) (seen : List ℕ) (b : ℕ) → take (most + 1) (seen ++ b ∷ [])
    ≡ (if nat_le (length (take (most + 1) seen)) most then take (most + 1) seen ++ b ∷ [] else take (most + 1) seen)
kept_more_in most seen b = grind (arith, common_steps)

pub kept_more : (seen : List ℕ) (b : ℕ) → with_byte (kept seen) b ≡ kept (seen ++ b ∷ [])
kept_more seen b = sym (kept_more_in 1048576 seen b)

is_line_feed : (b : ℕ) → b ≡ 10 → (b == 10) ≡ true
is_line_feed b h = ap (λ x. x == 10) h

is_no_line_feed : (b : ℕ) → b ≢ 10 → (b == 10) ≡ false
is_no_line_feed b h = grind (arith, common_steps)

-- a byte that ends no line
pub kept_on : (first left next : Option (List ℕ)) (line now : List ℕ) (b : ℕ) → HasKept first left line →
    GivesNext (Some b) left next → now ≡ with_byte line b → b ≢ 10 → HasKept first next now
kept_on None left next line now b h g is_now off = tt
kept_on (Some all) left next line now b h g is_now other = go h.0 h.1 g h.2 h.3 h.4 h.5 where
  go : (rest : List ℕ) → left ≡ Some rest → GivesNext (Some b) left next →
      (seen : List ℕ) → take_through 10 all ≡ seen ++ take_through 10 rest →
      drop_through 10 all ≡ drop_through 10 rest → line ≡ kept seen → HasKept (Some all) next now
  go rest is_left g seen front back is_kept =
      let off : (b == 10) ≡ false = is_no_line_feed b other in
      let t : GivesNext (Some b) (Some rest) next = subst (λ o. GivesNext (Some b) o next) is_left g in
      let takes : take_through 10 rest ≡ b ∷ take_through 10 t.0 =
      ap (take_through 10) t.1 ∙ ap (λ (x : Bool). if x then b ∷ [] else b ∷ take_through 10 t.0) off in
      let drops : drop_through 10 rest ≡ drop_through 10 t.0 =
      ap (drop_through 10) t.1 ∙ ap (λ (x : Bool). if x then t.0 else drop_through 10 t.0) off in (
        t.0,
        t.2,
        seen ++ b ∷ [],
        front ∙ ap (λ xs. seen ++ xs) takes ∙ sym (append_assoc seen (b ∷ []) (take_through 10 t.0)),
        back ∙ drops,
        is_now ∙ ap (λ l. with_byte l b) is_kept ∙ kept_more seen b,
      )

-- a line feed
pub line_at_end : (first left next : Option (List ℕ)) (line now : List ℕ) (b : ℕ) →
    HasKept first left line → GivesNext (Some b) left next →
    now ≡ with_byte line b → b ≡ 10 → IfSome first (λ xs. now ≡ kept (take_through 10 xs))
line_at_end None left next line now b h g is_now on = tt
line_at_end (Some all) left next line now b h g is_now is_end =
    let on : (b == 10) ≡ true = is_line_feed b is_end in
    let t : GivesNext (Some b) (Some h.0) next = subst (λ o. GivesNext (Some b) o next) h.1 g in
    let takes : take_through 10 h.0 ≡ b ∷ [] =
    ap (take_through 10) t.1 ∙ ap (λ (x : Bool). if x then b ∷ [] else b ∷ take_through 10 t.0) on in
    is_now ∙ ap (λ l. with_byte l b) h.5 ∙ kept_more h.2 b ∙ ap kept (sym (h.3 ∙ ap (λ xs. h.2 ++ xs) takes))
