-- Each numbered line of listing U has the effect of its move in
-- `Algorithm.antt`, and does not trap where it has what it needs.
use Rattle.std.proofs.Common.{◌≡◌, ℕ, ◌+◌, ◌-◌, ◌^◌, ◌<◌, ◌≤◌, max, map, Option, Some, None, Result, Ok, nat_eq, nat_lt}
use Rattle.std.proofs.Common.{slice_set, refl, arith}
use Rattle.snap_runs.proofs.Common.{Counts, IsOneOf, places_to, all_true, first_true, Activity, Op}
use Rattle.snap_semantics.specs.Source.{instr_at, following}
use Rattle.snap_semantics.specs.Table.{Effect, Goes, on, effect_at, first_goes}
use Rattle.snap_semantics.specs.Value.{Context, at_place, term_value}
use Rattle.snap_semantics.specs.declared.instr.Index.TheVariants.{Place}
use Rattle.snap_semantics.specs.declared.instr.Term.TheVariants.{Row}
use Rattle.snap_semantics.specs.declared.process.Cause.{Cause}
use Rattle.snap_semantics.specs.declared.process.Cause.TheVariants.{Owner}
use Rattle.snap_runs.proofs.Algorithm.{Mode, Updating, op_of, link_of, To, shown}
use Rattle.snap_runs.proofs.Computing.{same_number, if_of}
use Rattle.snap_runs.proofs.Held.{word_at}
use Rattle.snap_runs.proofs.Places.{bind_ok, place_ok, each_ok, sum_ok, owned_ok}
use Rattle.snap_runs_of_u.specs.ListingU as u
use Rattle.snap_runs_of_u.specs.ListingU.{listing_u}
use Rattle.snap_runs_of_u.specs.Promises.{square}
use Rattle.snap_runs_of_u.proofs.Algorithm.{Words, Variables, ProgramCounter, L10, L12, L13, L14, L15, L16, L17}
use Rattle.snap_runs_of_u.proofs.Algorithm.{L18, L21, L22, L23, L24, L30, L31, L32, L33, number, back, real}
use Rattle.snap_runs_of_u.proofs.Algorithm.{locals_of, compared, agree, limit, moved_at, counted, at_limit, borrows}
use Rattle.snap_runs_of_u.proofs.Algorithm.{first_to, word_put, move, algorithm, IsLineOf}

-- what a line needs so that it does not trap
abbrev pub Needs : ℕ → ℕ → Variables → ProgramCounter → Type 0
Needs n me p L12 = IsOneOf n p.j
Needs n me p L14 = IsOneOf n p.j
Needs n me p L17 = (k : ℕ) → IsOneOf n k → moved_at p k < limit
Needs n me p L23 = IsOneOf n p.j
Needs n me p L31 = p.c + 1 < 2 ^ 64
Needs n me p L32 = IsOneOf n me
Needs n me p _ = Unit {0}

abbrev pub context_of : Counts → ℕ → Op → Variables → Context
context_of shape me op p = record { shape = shape; me = me; op = op; locals = locals_of p; place = 0 }

abbrev pub activity : Op → Option ℕ → ℕ → Activity
activity op link line = record { op = op; line = line; link = link }

-- what the line with this number does to a process with these variables
abbrev pub at_line : Counts → ℕ → Op → Words → Option ℕ → ℕ → Variables → Result Effect Cause
at_line shape me op m link line p =
    effect_at listing_u (context_of shape me op p) (real m) (activity op link line) (instr_at listing_u.lines line)

-- each place of a quantifier is a place of the row and of the copies
in_range : (n k : ℕ) → 1 ≤ k → k < 1 + n → IsOneOf (max n n) k
in_range n k low high = (omega arith, omega arith)

-- a process at place k of a quantifier, and what the lines read there
abbrev pub at_k : ℕ → ℕ → Mode → Variables → ℕ → Context
at_k n me d p k = at_place (context_of (square n) me (op_of d) p) k

compared_a : (n me : ℕ) (d : Mode) (p : Variables) (k : ℕ) → IsOneOf (max n n) k →
    term_value (at_k n me d p k) u.seq_a ≡ Ok (compared (word_at p.a k))
compared_a n me d p k h = bind_ok _ _ _ _ (place_ok (max n n) k h) refl

compared_b : (n me : ℕ) (d : Mode) (p : Variables) (k : ℕ) → IsOneOf (max n n) k →
    term_value (at_k n me d p k) u.seq_b ≡ Ok (compared (word_at p.b k))
compared_b n me d p k h = bind_ok _ _ _ _ (place_ok (max n n) k h) refl

row_moved : (n me : ℕ) (d : Mode) (p : Variables) (k : ℕ) → IsOneOf (max n n) k →
    term_value (at_k n me d p k) (Row u.moved Place) ≡ Ok (moved_at p k)
row_moved n me d p k h = bind_ok _ _ _ _ (place_ok (max n n) k h) refl

first_shown : (n : ℕ) (d : Mode) (m : Words) (p : Variables) (o : Option ℕ) →
    first_goes listing_u (activity (op_of d) (link_of (number back) d) 18) (real m) (locals_of p) u.j (number borrows) o
    ≡ shown (algorithm n) m (first_to d m p o)
first_shown n d m p None = refl
first_shown n d m p (Some k) = refl

pub each_line : (n me : ℕ) (d : Mode) (m : Words) (p : Variables) (k : ProgramCounter) → IsLineOf me d k →
    Needs n me p k → at_line (square n) me (op_of d) m (link_of (number back) d) (number k) p
    ≡ shown (algorithm n) m (move n me d m p k)
each_line n me d m p L10 s h = bind_ok _ _ _ _ (each_ok _ (λ k. 0) 1 n (λ k low high. refl)) refl
each_line n me d m p L12 s h =
    bind_ok _ _ _ _ (place_ok (max n n) p.j (h.0, omega arith)) (bind_ok _ _ _ _ (place_ok n p.j h) refl)
each_line n me d m p L13 s h =
    if_of (shown (algorithm n) m) (nat_lt p.j n) (To d m (record p { j = p.j + 1 }) L12)
    (To d m (record p { j = 1 }) L14)
each_line n me d m p L14 s h =
    bind_ok _ _ _ _ (place_ok (max n n) p.j (h.0, omega arith)) (bind_ok _ _ _ _ (place_ok n p.j h) refl)
each_line n me d m p L15 s h =
    if_of (shown (algorithm n) m) (nat_lt p.j n) (To d m (record p { j = p.j + 1 }) L14)
    (To d m (record p { j = 1 }) L16)
each_line n me d m p L16 s h =
    bind_ok _ _ _ _
    (each_ok _ (agree p) 1 n (λ k low high.
    bind_ok _ _ _ _ (compared_a n me d p k (in_range n k low high))
    (bind_ok _ _ _ _ (compared_b n me d p k (in_range n k low high)) refl)))
    (if_of (shown (algorithm n) m) (all_true (map (agree p) (places_to n))) (To d m p L21) (To d m p L17))
each_line n me d m p L17 s h =
    bind_ok _ _ _ _
    (each_ok _ (counted p) 1 n (λ k low high.
    let i : IsOneOf (max n n) k = in_range n k low high in
    let less : moved_at p k < limit = h k (omega arith, omega arith) in
    bind_ok _ _ _ _ (bind_ok _ _ _ _ (row_moved n me d p k i) (sum_ok (moved_at p k) 1 (omega arith)))
    (bind_ok _ _ _ _
    (bind_ok _ _ _ _ (compared_a n me d p k i) (bind_ok _ _ _ _ (compared_b n me d p k i) refl)) refl)))
    refl
each_line n me d m p L18 s h =
    bind_ok _ _ _ _
    (each_ok _ (at_limit p) 1 n (λ k low high. bind_ok _ _ _ _ (row_moved n me d p k (in_range n k low high)) refl))
    (first_shown n d m p (first_true 1 (map (at_limit p) (places_to n))))
each_line n me (Updating word value) m p L22 s h = absurd s
each_line n me d m p L23 s h = bind_ok _ _ _ _ (place_ok (max n n) p.j (h.0, omega arith)) refl
each_line n me (Updating word value) m p L24 s h = absurd s
each_line n me (Updating word value) m p L30 s h = refl
each_line n me d m p L30 s h = absurd s
each_line n me d m p L31 s h = bind_ok _ _ _ _ (sum_ok p.c 1 h) refl
each_line n me (Updating word value) m p L32 s h =
    bind_ok _ _ _ _ (place_ok n me h)
    (owned_ok (nat_eq me me) (word_put (Updating word value) p) Owner
    (λ y. on (following listing_u.lines (number L32)) (Goes (real (slice_set m (me - 1) y)) (locals_of p) None))
    (same_number me))
each_line n me d m p L32 s h = absurd s
each_line n me (Updating word value) m p L33 s h = refl
each_line n me d m p L33 s h = absurd s
each_line n me d m p k s h = refl
