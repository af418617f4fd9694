-- Each numbered line of listing M has the effect of its move in
-- `Algorithm.antt`, and does not trap where it has what it needs.
use Rattle.snap_runs.proofs.Places.{bind_ok, place_ok, each_ok, sum_ok, owned_ok}
use Rattle.snap_runs.proofs.Computing.{if_true, le_true, same_number, if_of}
use Rattle.std.proofs.Common.{◌≡◌, ℕ, ◌+◌, ◌-◌, ◌<◌, ◌≤◌, max, true, ◌&&◌, [], ◌∷◌, map, Option, Some, None, Result, Ok}
use Rattle.std.proofs.Common.{Err, slice_index_or, nat_eq, nat_lt, nat_le, if◌then◌else◌, refl, sym, ◌∙◌, ap, arith}
use Rattle.std.proofs.lemmas.List.{map-set}
use Rattle.snap_runs.proofs.Common.{Counts, IsOneOf, Word, no_word, Activity, Op}
use Rattle.snap_semantics.specs.declared.instr.Index.TheVariants.{Place}
use Rattle.snap_semantics.specs.declared.instr.Term.TheVariants.{Row}
use Rattle.snap_semantics.specs.declared.process.Cause.{Cause}
use Rattle.snap_semantics.specs.declared.process.Cause.TheVariants.{Owner, NotABit}
use Rattle.snap_semantics.specs.Source.{Name, instr_at}
use Rattle.snap_semantics.specs.State.{Locals, value_at}
use Rattle.snap_semantics.specs.Value.{Context, at_place, term_value}
use Rattle.snap_semantics.specs.Table.{Goes, Effect, effect_at, first_goes}
use Rattle.snap_runs.proofs.Algorithm.{To, shown, Mode, Updating, op_of, link_of}
use Rattle.snap_runs.proofs.Held.{word_at}
use Rattle.snap_runs.proofs.Plain.{plain_at, plain_copied}
use Rattle.snap_runs_of_m.specs.ListingM as names
use Rattle.snap_runs_of_m.specs.ListingM.{listing_m}
use Rattle.snap_runs_of_m.specs.Promises.{counts}
use Rattle.snap_runs_of_m.proofs.Algorithm.{Words, Registers, plain, real, Variables, locals_of, context_of}
use Rattle.snap_runs_of_m.proofs.Algorithm.{ProgramCounter, L10, L13, L14, L15, L16, L17, L18, L19, L20, L21, L22, L23}
use Rattle.snap_runs_of_m.proofs.Algorithm.{L24, L25, L26, L27, L28, L29, L30, L31, L32, L34, L35, L36, L37, L51, L52}
use Rattle.snap_runs_of_m.proofs.Algorithm.{L53, L54, L55, L56, L57, L58, number, move, first_to, algorithm, Needs}
use Rattle.snap_runs_of_m.proofs.Algorithm.{IsLineOf, place, flip, same_words, same_at, marked, counted, all_still}
use Rattle.snap_runs_of_m.proofs.Algorithm.{third_move, limit, at_limit, borrows, back, written}
use Rattle.snap_runs_of_m.proofs.Basics.{flip_bit}

abbrev pub act : Op → Option ℕ → ℕ → Activity
act op link line = record { op = op; line = line; link = link }

-- what line number `line` does to a process with these locals
abbrev pub at_line : Counts → ℕ → Op → Registers → Option ℕ → ℕ → Variables → Result Effect Cause
at_line shape me op m link line p =
    effect_at listing_m (context_of shape me op p) (real m) (act op link line) (instr_at listing_m.lines line)

-- a number that is a place of a range is one of a row
process_place : (n w k : ℕ) → IsOneOf n k → IsOneOf (max n w) k
process_place n w k h = (h.0, omega arith)

word_place : (n w k : ℕ) → IsOneOf w k → IsOneOf (max n w) k
word_place n w k h = (h.0, omega arith)

in_range : (n w k : ℕ) → 1 ≤ k → k < 1 + n → IsOneOf (max n w) k
in_range n w k low high = (omega arith, omega arith)

abbrev here : ℕ → ℕ → ℕ → Mode → Variables → ℕ → Context
here n w me d p k = at_place (context_of (counts n w) me (op_of d) p) k

row_term : (n w me : ℕ) (d : Mode) (p : Variables) (k : ℕ) (row : Name) → IsOneOf (max n w) k →
    term_value (here n w me d p k) (Row row Place) ≡ Ok (place (value_at row (locals_of p).rows []) k)
row_term n w me d p k row h = bind_ok _ _ _ _ (place_ok (max n w) k h) refl

-- the id of a copy at place k
id_term : (xs : Words) (k : ℕ) → (slice_index_or (map plain xs) (k - 1) no_word).id ≡ (word_at xs k).id
id_term xs k = ap (λ (x : Word). x.id) (plain_at plain refl xs (k - 1))

same_is : (xs ys : Words) (k : ℕ) →
    same_words (slice_index_or (map plain xs) (k - 1) no_word) (slice_index_or (map plain ys) (k - 1) no_word)
    ≡ same_at xs ys k
same_is xs ys k =
    ap (λ (x : Word). same_words x (slice_index_or (map plain ys) (k - 1) no_word)) (plain_at plain refl xs (k - 1))
    ∙ ap (λ (y : Word). same_words (word_at xs k) y) (plain_at plain refl ys (k - 1))

first_shown : (n w : ℕ) (d : Mode) (m : Registers) (p : Variables) (o : Option ℕ) →
    first_goes listing_m (act (op_of d) (link_of (number back) d) 32) (real m) (locals_of p) names.j (number borrows) o
    ≡ shown (algorithm n w) m (first_to d m p o)
first_shown n w d m p None = refl
first_shown n w d m p (Some k) = refl

abbrev with_copies : Variables → Words → Words → Locals
with_copies p a b = record {
  scalars = (locals_of p).scalars;
  rows = (locals_of p).rows;
  words = (names.a, a) ∷ (names.b, b) ∷ [];
  views = (locals_of p).views;
}

pub lines : (n w me : ℕ) (d : Mode) (m : Registers) (p : Variables) (k : ProgramCounter) → IsLineOf w d k →
    Needs n w me d p k → at_line (counts n w) me (op_of d) m (link_of (number back) d) (number k) p
    ≡ shown (algorithm n w) m (move n w me d m p k)
lines n w me d m p L10 s h = bind_ok _ _ _ _ (each_ok _ (λ c. 0) 1 n (λ c low high. refl)) refl
lines n w me d m p L13 s h = bind_ok _ _ _ _ (place_ok n p.j h.0) (bind_ok _ _ _ _ (place_ok n me h.1) refl)
lines n w me d m p L14 s h = bind_ok _ _ _ _ (place_ok (max n w) p.j (process_place n w p.j h)) refl
lines n w me d m p L15 s h =
    bind_ok _ _ _ _ (place_ok n me h.1) (bind_ok _ _ _ _ (place_ok n p.j h.0)
    (bind_ok _ _ _ _ (if_true (nat_le p.x 1) (Ok p.x) (Err NotABit) (le_true p.x 1 h.2))
    (owned_ok (nat_eq me me) p.x Owner _ (same_number me))))
lines n w me d m p L16 s h = if_of (shown (algorithm n w) m) (nat_lt p.j n) _ _
lines n w me d m p L17 s h =
    bind_ok _ _ _ _ (place_ok (max n w) p.k (word_place n w p.k h)) (bind_ok _ _ _ _ (place_ok w p.k h)
    (ap (λ (xs : Words). Ok (Goes (real m) (with_copies p xs (map plain p.b)) (link_of (number back) d) 18))
    (plain_copied plain refl p.a m.words (p.k - 1) (p.k - 1))))
lines n w me d m p L18 s h = if_of (shown (algorithm n w) m) (nat_lt p.k w) _ _
lines n w me d m p L19 s h =
    bind_ok _ _ _ _ (place_ok (max n w) p.k (word_place n w p.k h)) (bind_ok _ _ _ _ (place_ok w p.k h)
    (ap (λ (xs : Words). Ok (Goes (real m) (with_copies p (map plain p.a) xs) (link_of (number back) d) 20))
    (plain_copied plain refl p.b m.words (p.k - 1) (p.k - 1))))
lines n w me d m p L20 s h = if_of (shown (algorithm n w) m) (nat_lt p.k w) _ _
lines n w me d m p L21 s h = bind_ok _ _ _ _ (place_ok n p.j h.0) (bind_ok _ _ _ _ (place_ok n me h.1) refl)
lines n w me d m p L22 s h = bind_ok _ _ _ _ (place_ok (max n w) p.j (process_place n w p.j h)) refl
lines n w me d m p L23 s h = if_of (shown (algorithm n w) m) (nat_lt p.j n) _ _
lines n w me d m p L24 s h = bind_ok _ _ _ _ (each_ok _ (λ c. 0) 1 n (λ c low high. refl)) refl
lines n w me d m p L25 s h =
    bind_ok _ _ _ _
    (each_ok _ (marked p) 1 n (λ c low high.
    let i : IsOneOf (max n w) c = in_range n w c low high in
    bind_ok _ _ _ _
    (bind_ok _ _ _ _ (row_term n w me d p c names.h i) (bind_ok _ _ _ _ (row_term n w me d p c names.g i) refl)) refl))
    refl
lines n w me d m p L26 s h =
    let i : IsOneOf (max n w) p.k = word_place n w p.k h in
    let test =
    same_words (slice_index_or (map plain p.a) (p.k - 1) no_word) (slice_index_or (map plain p.b) (p.k - 1) no_word) in
    bind_ok _ _ test _
    (bind_ok _ _ _ _ (bind_ok _ _ _ _ (bind_ok _ _ _ _ (place_ok (max n w) p.k i) refl)
    (bind_ok _ _ _ _ (bind_ok _ _ _ _ (place_ok (max n w) p.k i) refl) refl))
    (bind_ok _ _ _ _ (bind_ok _ _ _ _ (bind_ok _ _ _ _ (place_ok (max n w) p.k i) refl)
    (bind_ok _ _ _ _ (bind_ok _ _ _ _ (place_ok (max n w) p.k i) refl) refl)) refl))
    (ap (λ b. if b then shown (algorithm n w) m (To d m p L29) else shown (algorithm n w) m (To d m p L27))
    (same_is p.a p.b p.k)
    ∙ if_of (shown (algorithm n w) m) (same_at p.a p.b p.k) (To d m p L29) (To d m p L27))
lines n w me d m p L27 s h =
    bind_ok _ _ (word_at p.b p.k).id _
    (bind_ok _ _ _ _ (place_ok (max n w) p.k (word_place n w p.k h)) (ap (λ y. Ok y) (id_term p.b p.k))) refl
lines n w me d m p L28 s h = bind_ok _ _ _ _ (place_ok (max n w) p.x (process_place n w p.x h)) refl
lines n w me d m p L29 s h = if_of (shown (algorithm n w) m) (nat_lt p.k w) _ _
lines n w me d m p L30 s h =
    bind_ok _ _ _ _
    (each_ok _ (λ c. nat_eq (place p.d c) 0) 1 n
    (λ c low high. bind_ok _ _ _ _ (row_term n w me d p c names.d (in_range n w c low high)) refl))
    (if_of (shown (algorithm n w) m) (all_still n p) (To d m p L34) (To d m p L31))
lines n w me d m p L31 s h =
    bind_ok _ _ _ _
    (each_ok _ (counted p) 1 n (λ c low high.
    let i : IsOneOf (max n w) c = in_range n w c low high in
    let few : place p.moved c < limit = h c (omega arith, omega arith) in
    bind_ok _ _ _ _ (bind_ok _ _ _ _ (row_term n w me d p c names.moved i) (sum_ok (place p.moved c) 1 (omega arith)))
    (bind_ok _ _ _ _ (bind_ok _ _ _ _ (row_term n w me d p c names.d i) refl) refl)))
    refl
lines n w me d m p L32 s h =
    bind_ok _ _ _ _
    (each_ok _ (at_limit p) 1 n
    (λ c low high. bind_ok _ _ _ _ (row_term n w me d p c names.moved (in_range n w c low high)) refl))
    (first_shown n w d m p (third_move n p))
lines n w me (Updating y z) m p L35 s h = absurd s
lines n w me d m p L36 s h = bind_ok _ _ _ _ (place_ok n p.j h) refl
lines n w me (Updating y z) m p L37 s h = absurd s
lines n w me d m p L51 s h = bind_ok _ _ _ _ (place_ok n p.j h.0) (bind_ok _ _ _ _ (place_ok n me h.1) refl)
lines n w me d m p L52 s h =
    bind_ok _ _ _ _ (place_ok n me h.1) (bind_ok _ _ _ _ (place_ok n p.j h.0)
    (bind_ok _ _ _ _ (if_true (nat_le (flip p.x) 1) (Ok (flip p.x)) (Err NotABit) (le_true (flip p.x) 1 (flip_bit p.x)))
    (owned_ok (nat_eq me me) (flip p.x) Owner _ (same_number me))))
lines n w me d m p L53 s h = if_of (shown (algorithm n w) m) (nat_lt p.j n) _ _
lines n w me (Updating y z) m p L54 s h = refl
lines n w me d m p L54 s h = absurd s
lines n w me d m p L55 s h = bind_ok _ _ _ _ (place_ok n me h) (owned_ok (nat_eq me me) p.s Owner _ (same_number me))
lines n w me (Updating y z) m p L56 s h =
    bind_ok _ _ _ _ (place_ok (max n w) y (word_place n w y h))
    (bind_ok _ _ _ _ (bind_ok _ _ _ _ (bind_ok _ _ _ _ (place_ok (max n w) y (word_place n w y h)) refl) refl) refl)
lines n w me d m p L56 s h = absurd s
lines n w me (Updating y z) m p L57 s h =
    let word : Word = plain (written me (Updating y z) m p) in
    bind_ok _ _ _ _ (place_ok w y h.0)
    (bind_ok _ _ word _ (bind_ok _ _ _ _ (bind_ok _ _ _ _ (place_ok (max n w) y (word_place n w y h.0)) refl) refl)
    (bind_ok _ _ word _ (if_true (nat_le (place p.tog y) 1 && true) (Ok word) (Err NotABit)
    (ap (λ b. b && true) (le_true (place p.tog y) 1 h.1)))
    (ap (λ (xs : Words). Ok (Goes (record { words = xs; q = m.q; p = m.p; views = m.views }) (locals_of p) None 58))
    (sym (map-set plain m.words (y - 1) (written me (Updating y z) m p))))))
lines n w me d m p L57 s h = absurd s
lines n w me (Updating y z) m p L58 s h = refl
lines n w me d m p L58 s h = absurd s
lines n w me d m p k s h = refl
