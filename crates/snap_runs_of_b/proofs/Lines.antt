-- Each numbered line of listing B has the effect of its move in
-- `Algorithm.antt`, and does not trap where it has what it needs.
use Rattle.std.proofs.Common.{◌≡◌, ℕ, zero, suc, ◌+◌, ◌-◌, ◌<◌, ◌≤◌, max, Bool, true, false, not, ◌&&◌, ◌||◌, List, []}
use Rattle.std.proofs.Common.{◌∷◌, take, map, Option, Some, None, Result, Ok, Err, slice_index, slice_index_or}
use Rattle.std.proofs.Common.{slice_set, nat_eq, nat_lt, if◌then◌else◌, refl, sym, ◌∙◌, ap, arith}
use Rattle.std.specs.List.{list_all}
use Rattle.std.proofs.lemmas.List.{map-set}
use Rattle.snap_runs.proofs.Common.{Counts, IsOneOf, Word, no_word, places_to, all_true, first_true, Activity, Op}
use Rattle.snap_semantics.specs.Answers.{◌>>=◌}
use Rattle.snap_semantics.specs.Source.{instr_at}
use Rattle.snap_semantics.specs.State.{Memory, NameMap}
use Rattle.snap_semantics.specs.Table.{Goes, Effect, effect_at, first_goes, bit_value, with_bits, with_bit_at}
use Rattle.snap_words.specs.Kind.{is_bit}
use Rattle.snap_semantics.specs.Value.{Context, at_place, place_in, term_value, relates}
use Rattle.snap_semantics.specs.Value.{comparison_holds, condition_holds}
use Rattle.snap_semantics.specs.declared.instr.Index.TheVariants.{Place}
use Rattle.snap_semantics.specs.declared.instr.Relation.{Relation}
use Rattle.snap_semantics.specs.declared.instr.Relation.TheVariants.{Equal, Different}
use Rattle.snap_semantics.specs.declared.instr.Term.TheVariants.{Row}
use Rattle.snap_semantics.specs.declared.process.Cause.{Cause}
use Rattle.snap_semantics.specs.declared.process.Cause.TheVariants.{Owner}
use Rattle.snap_runs.proofs.Algorithm.{Mode, Updating, op_of, link_of, To, shown}
use Rattle.snap_runs.proofs.Computing.{if_true, le_true, same_number, if_of}
use Rattle.snap_runs.proofs.Held.{word_at}
use Rattle.snap_runs.proofs.Plain.{plain_at, plain_copied, plain_taken}
use Rattle.snap_runs.proofs.Places.{bind_ok, place_ok, each_ok, sum_ok}
use Rattle.snap_runs_of_b.specs.ListingB as listing
use Rattle.snap_runs_of_b.specs.ListingB.{listing_b}
use Rattle.snap_runs_of_b.specs.Promises.{square}
use Rattle.snap_runs_of_b.proofs.Algorithm.{Words, Registers, Variables, ProgramCounter, L10, L12, L13, L14, L15}
use Rattle.snap_runs_of_b.proofs.Algorithm.{L16, L17, L18, L19, L20, L21, L22, L25, L26, L27, L28, L41, L42}
use Rattle.snap_runs_of_b.proofs.Algorithm.{L43, L44, L46, L47, number, back, plain, real, locals_of, place}
use Rattle.snap_runs_of_b.proofs.Algorithm.{handshake_at, agree, limit, moved_at, counted, at_limit, word_put, move}
use Rattle.snap_runs_of_b.proofs.Algorithm.{first_to, algorithm, IsLineOf}

-- a row of bits
abbrev pub Bits : ℕ → List ℕ → Type 0
Bits n row = (k : ℕ) → IsOneOf n k → place row k ≤ 1

-- what a process says to the others are bits
abbrev pub SaysBits : ℕ → Variables → Type 0
SaysBits n p = (p.t ≤ 1) × Bits n p.f

-- what a line needs so that it does not trap
abbrev pub Needs : ℕ → Variables → ProgramCounter → Type 0
Needs n p L12 = IsOneOf n p.j
Needs n p L13 = IsOneOf n p.j
Needs n p L14 = IsOneOf n p.j × (place p.g p.j ≤ 1)
Needs n p L16 = IsOneOf n p.j
Needs n p L18 = IsOneOf n p.j
Needs n p L21 = (k : ℕ) → IsOneOf n k → moved_at p k < limit
Needs n p L27 = IsOneOf n p.j
Needs n p L41 = IsOneOf n p.j
Needs n p L42 = IsOneOf n p.j
Needs n p L46 = SaysBits n p
Needs n p _ = Unit {0}

abbrev pub context_of : Counts → ℕ → Op → Variables → Context
context_of shape me op p = record { shape = shape; me = me; op = op; locals = locals_of p; place = 0 }

abbrev pub activity : Op → Option ℕ → ℕ → Activity
activity op link line = record { op = op; line = line; link = link }

-- what line number `line` does to a process with these locals
abbrev pub at_line : Counts → ℕ → Op → Registers → Option ℕ → ℕ → Variables → Result Effect Cause
at_line shape me op m link line p =
    effect_at listing_b (context_of shape me op p) (real m) (activity op link line) (instr_at listing_b.lines line)

-- in a place of the range each place is there
in_range : (n k : ℕ) → 1 ≤ k → k < 1 + n → IsOneOf (max n n) k
in_range n k low high = (omega arith, omega arith)

in_places : (n k : ℕ) → IsOneOf n k → IsOneOf (max n n) k
in_places n k h = (h.0, omega arith)

-- a process at place k of a quantifier
abbrev pub at_k : ℕ → ℕ → Mode → Variables → ℕ → Context
at_k n me d p k = at_place (context_of (square n) me (op_of d) p) k

-- operands at a place
handshake_ok : (n me : ℕ) (d : Mode) (p : Variables) (k : ℕ) (ws : Words) → IsOneOf (max n n) k → IsOneOf n me →
    (place_in (max n n) k >>= λ u. place_in n me >>= λ h.
    let r : Result ℕ Cause = Ok (slice_index (slice_index_or (map plain ws) u no_word).handshakes h) in r)
    ≡ Ok (handshake_at (word_at ws k) me)
handshake_ok n me d p k ws h one =
    bind_ok _ _ _ _ (place_ok (max n n) k h)
    (bind_ok _ _ _ _ (place_ok n me one) (ap (λ (w : Word).
    let r : Result ℕ Cause = Ok (slice_index w.handshakes (me - 1)) in r) (plain_at plain refl ws (k - 1))))

handshake_a : (n me : ℕ) (d : Mode) (p : Variables) (k : ℕ) → IsOneOf (max n n) k → IsOneOf n me →
    term_value (at_k n me d p k) listing.handshake_a ≡ Ok (handshake_at (word_at p.a k) me)
handshake_a n me d p k h one = handshake_ok n me d p k p.a h one

handshake_b : (n me : ℕ) (d : Mode) (p : Variables) (k : ℕ) → IsOneOf (max n n) k → IsOneOf n me →
    term_value (at_k n me d p k) listing.handshake_b ≡ Ok (handshake_at (word_at p.b k) me)
handshake_b n me d p k h one = handshake_ok n me d p k p.b h one

toggle_a : (n me : ℕ) (d : Mode) (p : Variables) (k : ℕ) → IsOneOf (max n n) k →
    term_value (at_k n me d p k) listing.toggle_a ≡ Ok (word_at p.a k).toggle
toggle_a n me d p k h =
    bind_ok _ _ _ _ (place_ok (max n n) k h)
    (ap (λ (w : Word). let r : Result ℕ Cause = Ok w.toggle in r) (plain_at plain refl p.a (k - 1)))

toggle_b : (n me : ℕ) (d : Mode) (p : Variables) (k : ℕ) → IsOneOf (max n n) k →
    term_value (at_k n me d p k) listing.toggle_b ≡ Ok (word_at p.b k).toggle
toggle_b n me d p k h =
    bind_ok _ _ _ _ (place_ok (max n n) k h)
    (ap (λ (w : Word). let r : Result ℕ Cause = Ok w.toggle in r) (plain_at plain refl p.b (k - 1)))

row_ok : (n me : ℕ) (d : Mode) (p : Variables) (k : ℕ) → IsOneOf (max n n) k →
    term_value (at_k n me d p k) (Row listing.moved Place) ≡ Ok (moved_at p k)
row_ok n me d p k h = bind_ok _ _ _ _ (place_ok (max n n) k h) refl

bit_ok : (n me : ℕ) (d : Mode) (p : Variables) (k : ℕ) → IsOneOf (max n n) k →
    term_value (at_k n me d p k) listing.bit ≡ Ok (place p.g k)
bit_ok n me d p k h = bind_ok _ _ _ _ (place_ok (max n n) k h) refl

owned_ok : {A : Type 0} (own : Bool) (word : A) (cause : Cause) (f : A → Result Effect Cause) → own ≡ true →
    ((if own then Ok word else Err cause) >>= f) ≡ f word
owned_ok own word cause f h = ap (λ b. (if b then Ok word else Err cause) >>= f) h

-- bits
bit_value_ok : (x : ℕ) → x ≤ 1 → bit_value x ≡ Ok x
bit_value_ok x h = if_true _ _ _ (le_true x 1 h)

both_true : (x y : Bool) → x ≡ true → y ≡ true → (x && y) ≡ true
both_true x y h e = rw (h, e) refl

bits_taken : (n : ℕ) (row : List ℕ) → Bits n row → list_all is_bit (take n row) ≡ true
bits_taken zero row h = refl
bits_taken (suc n) [] h = refl
bits_taken (suc n) (x ∷ row) h =
    both_true (is_bit x) (list_all is_bit (take n row)) (le_true x 1 (h 1 (omega arith, omega arith)))
    (bits_taken n row (λ k i. omega (arith, shifted x row k i.0, h (suc k) (omega arith, omega arith))))
  where
    shifted : (x : ℕ) (row : List ℕ) (k : ℕ) → 0 < k → place (x ∷ row) (suc k) ≡ place row k
    shifted x row zero pos = absurd (omega arith)
    shifted x row (suc k) pos =
        ap (slice_index (x ∷ row)) (let e : suc (suc k) - 1 ≡ suc k = omega arith in e)
        ∙ ap (slice_index row) (let e : k ≡ suc k - 1 = omega arith in e)

bits_ok : (w : Word) → w.toggle ≤ 1 → list_all is_bit w.handshakes ≡ true → with_bits w ≡ Ok w
bits_ok w h e = if_true _ _ _ (both_true (is_bit w.toggle) (list_all is_bit w.handshakes) (le_true w.toggle 1 h) e)

-- one comparison of the two copies at a place
handshakes_a : (n me : ℕ) (d : Mode) (p : Variables) (k : ℕ) (r : Relation) → IsOneOf (max n n) k → IsOneOf n me →
    comparison_holds (at_k n me d p k) (listing.compare listing.handshake_a r listing.bit)
    ≡ Ok (relates r (handshake_at (word_at p.a k) me) (place p.g k))
handshakes_a n me d p k r i one =
    bind_ok _ _ _ _ (handshake_a n me d p k i one) (bind_ok _ _ _ _ (bit_ok n me d p k i) refl)

handshakes_b : (n me : ℕ) (d : Mode) (p : Variables) (k : ℕ) (r : Relation) → IsOneOf (max n n) k → IsOneOf n me →
    comparison_holds (at_k n me d p k) (listing.compare listing.handshake_b r listing.bit)
    ≡ Ok (relates r (handshake_at (word_at p.b k) me) (place p.g k))
handshakes_b n me d p k r i one =
    bind_ok _ _ _ _ (handshake_b n me d p k i one) (bind_ok _ _ _ _ (bit_ok n me d p k i) refl)

toggles : (n me : ℕ) (d : Mode) (p : Variables) (k : ℕ) (r : Relation) → IsOneOf (max n n) k →
    comparison_holds (at_k n me d p k) (listing.compare listing.toggle_a r listing.toggle_b)
    ≡ Ok (relates r (word_at p.a k).toggle (word_at p.b k).toggle)
toggles n me d p k r i = bind_ok _ _ _ _ (toggle_a n me d p k i) (bind_ok _ _ _ _ (toggle_b n me d p k i) refl)

-- all of them, at line 20
agree_ok : (n me : ℕ) (d : Mode) (p : Variables) (k : ℕ) → IsOneOf (max n n) k → IsOneOf n me →
    condition_holds (at_k n me d p k) listing.agree ≡ Ok (agree me p k)
agree_ok n me d p k i one =
    bind_ok _ _ _ _ (handshakes_a n me d p k Equal i one)
    (bind_ok _ _ _ _ (handshakes_b n me d p k Equal i one)
    (bind_ok _ _ _ _ (toggles n me d p k Equal i) refl))

-- line 21 asks whether one of them differs
disagree : (x y : Bool) → (not x || not y) ≡ not (x && y)
disagree true y = refl
disagree false y = refl

some_differ : (x y z : Bool) → (not x || (not y || not z)) ≡ not (x && (y && z))
some_differ x y z = ap (λ b. not x || b) (disagree y z) ∙ disagree x (y && z)

differ_ok : (n me : ℕ) (d : Mode) (p : Variables) (k : ℕ) → IsOneOf (max n n) k → IsOneOf n me →
    condition_holds (at_k n me d p k) listing.differ ≡ Ok (not (agree me p k))
differ_ok n me d p k i one =
    let same_a = nat_eq (handshake_at (word_at p.a k) me) (place p.g k) in
    let same_b = nat_eq (handshake_at (word_at p.b k) me) (place p.g k) in
    let same_toggle = nat_eq (word_at p.a k).toggle (word_at p.b k).toggle in
    bind_ok _ _ _ _ (handshakes_a n me d p k Different i one)
    (bind_ok _ _ _ _ (handshakes_b n me d p k Different i one)
    (bind_ok _ _ _ _ (toggles n me d p k Different i)
    (ap (λ b. let r : Result Bool Cause = Ok b in r) (some_differ same_a same_b same_toggle))))

first_shown : (n : ℕ) (d : Mode) (m : Registers) (p : Variables) (o : Option ℕ) →
    first_goes listing_b (activity (op_of d) (link_of (number back) d) 22) (real m) (locals_of p) listing.j 27 o
    ≡ shown (algorithm n) m (first_to d m p o)
first_shown n d m p None = refl
first_shown n d m p (Some k) = refl

-- what a line leaves: these words among the locals, this view, these words or this bit among the registers
abbrev pub left_words : Registers → Variables → Mode → ℕ → NameMap Words → Result Effect Cause
left_words m p d line ws =
    Ok (Goes (real m) (record {
      scalars = (locals_of p).scalars;
      rows = (locals_of p).rows;
      words = ws;
      views = (locals_of p).views;
    }) (link_of (number back) d) line)

abbrev pub left_view : Registers → Variables → Mode → ℕ → List ℕ → Result Effect Cause
left_view m p d line v = Ok (Goes (real m) (locals_of (record p { s = v })) (link_of (number back) d) line)

abbrev pub real_with : Registers → Words → Memory
real_with m ws = record { words = ws; q = m.q; p = []; views = [] }

abbrev pub with_put_bit : ℕ → Registers → Variables → ℕ → Registers
with_put_bit me m p y = record { words = m.words; q = with_bit_at m.q (me - 1) (p.j - 1) y }

pub each_line : (n me : ℕ) (d : Mode) (m : Registers) (p : Variables) (k : ProgramCounter) →
    IsOneOf n me → IsLineOf me d k → Needs n p k →
    at_line (record { n = n; w = n }) me (op_of d) m (link_of (number back) d) (number k) p
    ≡ shown (algorithm n) m (move n me d m p k)
each_line n me d m p L10 one s h = bind_ok _ _ _ _ (each_ok _ (λ k. 0) 1 n (λ k low high. refl)) refl
each_line n me d m p L12 one s h =
    bind_ok _ _ _ _ (place_ok (max n n) p.j (in_places n p.j h)) (bind_ok _ _ _ _ (place_ok n p.j h)
    (ap (λ (ws : Words). left_words m p d 13 ((listing.a, ws) ∷ (listing.b, map plain p.b) ∷ []))
    (plain_copied plain refl p.a m.words (p.j - 1) (p.j - 1))))
each_line n me d m p L13 one s h =
    bind_ok _ _ _ _ (place_ok (max n n) p.j (in_places n p.j h))
    (bind_ok _ _ _ _ (handshake_ok n me d p p.j p.a (in_places n p.j h) one) refl)
each_line n me d m p L14 one s h =
    bind_ok _ _ _ _ (place_ok n me one)
    (bind_ok _ _ _ _ (place_ok n p.j h.0)
    (bind_ok _ _ _ _ (bind_ok _ _ _ _ (place_ok (max n n) p.j (in_places n p.j h.0)) refl)
    (bind_ok _ _ _ _ (bit_value_ok (place p.g p.j) h.1)
    (owned_ok (nat_eq me me) (place p.g p.j) Owner
    (λ y. Ok (Goes (real (with_put_bit me m p y)) (locals_of p) (link_of (number back) d) 15)) (same_number me)))))
each_line n me d m p L15 one s h =
    if_of (shown (algorithm n) m) (nat_lt p.j n) (To d m (record p { j = p.j + 1 }) L12)
    (To d m (record p { j = 1 }) L16)
each_line n me d m p L16 one s h =
    bind_ok _ _ _ _ (place_ok (max n n) p.j (in_places n p.j h)) (bind_ok _ _ _ _ (place_ok n p.j h)
    (ap (λ (ws : Words). left_words m p d 17 ((listing.a, ws) ∷ (listing.b, map plain p.b) ∷ []))
    (plain_copied plain refl p.a m.words (p.j - 1) (p.j - 1))))
each_line n me d m p L17 one s h =
    if_of (shown (algorithm n) m) (nat_lt p.j n) (To d m (record p { j = p.j + 1 }) L16)
    (To d m (record p { j = 1 }) L18)
each_line n me d m p L18 one s h =
    bind_ok _ _ _ _ (place_ok (max n n) p.j (in_places n p.j h)) (bind_ok _ _ _ _ (place_ok n p.j h)
    (ap (λ (ws : Words). left_words m p d 19 ((listing.a, map plain p.a) ∷ (listing.b, ws) ∷ []))
    (plain_copied plain refl p.b m.words (p.j - 1) (p.j - 1))))
each_line n me d m p L19 one s h =
    if_of (shown (algorithm n) m) (nat_lt p.j n) (To d m (record p { j = p.j + 1 }) L18)
    (To d m (record p { j = 1 }) L20)
each_line n me d m p L20 one s h =
    bind_ok _ _ _ _ (each_ok _ (agree me p) 1 n (λ k low high. agree_ok n me d p k (in_range n k low high) one))
    (if_of (shown (algorithm n) m) (all_true (map (agree me p) (places_to n))) (To d m p L25) (To d m p L21))
each_line n me d m p L21 one s h =
    bind_ok _ _ _ _
    (each_ok _ (counted me p) 1 n (λ k low high.
    let i : IsOneOf (max n n) k = in_range n k low high in
    let few : moved_at p k < limit = h k (omega arith, omega arith) in
    bind_ok _ _ _ _ (bind_ok _ _ _ _ (row_ok n me d p k i) (sum_ok (moved_at p k) 1 (omega arith)))
    (bind_ok _ _ _ _ (differ_ok n me d p k i one) refl)))
    refl
each_line n me d m p L22 one s h =
    bind_ok _ _ _ _
    (each_ok _ (at_limit p) 1 n (λ k low high. bind_ok _ _ _ _ (row_ok n me d p k (in_range n k low high)) refl))
    (first_shown n d m p (first_true 1 (map (at_limit p) (places_to n))))
each_line n me d m p L25 one s h = ap (left_view m p d 26) (plain_taken plain (λ w. refl) n p.b)
each_line n me (Updating w x) m p L26 one s h = absurd s
each_line n me d m p L27 one s h =
    bind_ok _ _ _ _ (place_ok (max n n) p.j (in_places n p.j h))
    (ap (λ (w : Word). left_view m p d 28 w.view) (plain_at plain refl p.b (p.j - 1)))
each_line n me (Updating w x) m p L28 one s h = absurd s
each_line n me d m p L41 one s h = bind_ok _ _ _ _ (place_ok n p.j h) (bind_ok _ _ _ _ (place_ok n me one) refl)
each_line n me d m p L42 one s h = bind_ok _ _ _ _ (place_ok (max n n) p.j (in_places n p.j h)) refl
each_line n me d m p L43 one s h =
    if_of (shown (algorithm n) m) (nat_lt p.j n) (To d m (record p { j = p.j + 1 }) L41)
    (To d m (record p { j = 1 }) L44)
each_line n me (Updating w x) m p L44 one s h = refl
each_line n me d m p L44 one s h = absurd s
each_line n me (Updating w x) m p L46 one s h =
    bind_ok _ _ _ _ (place_ok n me one)
    (bind_ok _ _ _ _ (bits_ok (plain (word_put n me (Updating w x) m p)) h.0 (bits_taken n p.f h.1))
    (owned_ok (nat_eq me me) (plain (word_put n me (Updating w x) m p)) Owner
    (λ y. Ok (Goes (real_with m (slice_set (map plain m.words) (me - 1) y)) (locals_of p) None 47)) (same_number me)
    ∙ ap (λ (ws : Words). let r : Result Effect Cause = Ok (Goes (real_with m ws) (locals_of p) None 47) in r)
    (sym (map-set plain m.words (me - 1) (word_put n me (Updating w x) m p)))))
each_line n me d m p L46 one s h = absurd s
each_line n me (Updating w x) m p L47 one s h = refl
each_line n me d m p L47 one s h = absurd s
each_line n me d m p k one s h = refl
