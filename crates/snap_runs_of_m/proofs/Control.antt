-- Which locals a process of M has at each line, and how long they are; and that no line traps.
use Rattle.snap_runs.proofs.Computing.{either, whether, lt_from, le_from, both, differs, raised_most, none_then}
use Rattle.snap_runs.proofs.Places.{for_each, for_each_at, first_found, first_none}
use Rattle.std.proofs.Common.{◌≡◌, ℕ, ◌-◌, ◌<◌, ◌≤◌, max, ◌&&◌, List, drop, length, map, Option, Some, None}
use Rattle.std.proofs.Common.{nat_eq, nat_lt, nat_le, refl, sym, ◌∙◌, subst, arith}
use Rattle.std.proofs.lemmas.List.{length-set, length-append}
use Rattle.std.proofs.lemmas.List.FromFn.{length-map-range_with_len}
use Rattle.snap_runs.proofs.Common.{IsOneOf, Op, Scan, Update, places_to}
use Rattle.snap_words.specs.declared.kind.KindTag.TheVariants as kind
use Rattle.snap_semantics.specs.declared.process.Reason.TheVariants.{NoSuchWord}
use Rattle.snap_semantics.specs.Table.{call_skip}
use Rattle.snap_runs.proofs.Algorithm.{mode_of, Idle, At, WhenBusy, To, Begin, Answer, Finish, Mode, Scanning}
use Rattle.snap_runs.proofs.Algorithm.{Embedded, Updating, op_of, LeadsTo, leads_to}
use Rattle.snap_runs.proofs.Embedding as embed
use Rattle.snap_runs.proofs.Held.{word_at}
use Rattle.snap_runs_of_m.specs.Promises.{counts}
use Rattle.snap_runs_of_m.proofs.Algorithm.{Registers, Control, Move, Variables, ProgramCounter, L10, L11, L12, L13}
use Rattle.snap_runs_of_m.proofs.Algorithm.{L14, L15, L16, L17, L18, L19, L20, L21, L22, L23, L24, L25, L26, L27, L28}
use Rattle.snap_runs_of_m.proofs.Algorithm.{L29, L30, L31, L32, L33, L35, L36, L37, L51, L52, L53, L54}
use Rattle.snap_runs_of_m.proofs.Algorithm.{L56, L57, L58, word_of, move, first_to, place, bit, flip, same_at, marked}
use Rattle.snap_runs_of_m.proofs.Algorithm.{counted, all_still, third_move, Needs, IsLineOf, IsScan, IsUpdate}
use Rattle.snap_runs_of_m.proofs.Algorithm.{algorithm, counter, limit, at_limit}
use Rattle.snap_runs_of_m.proofs.Basics.{flip_bit, set_here}
use Rattle.snap_runs_of_m.proofs.Lines.{lines}

-- no process has been seen to move up to the limit, or none beyond it
abbrev pub BelowLimit : ℕ → Variables → Type 0
BelowLimit n p = (c : ℕ) → IsOneOf n c → place p.moved c < limit

abbrev pub WithinLimit : ℕ → Variables → Type 0
WithinLimit n p = (c : ℕ) → IsOneOf n c → place p.moved c ≤ limit

-- At each line j and k are places and the moves are within the limit, where the line asks for it.
abbrev pub Keeps : ℕ → ℕ → Mode → Variables → ProgramCounter → Type 0
Keeps n w d p L11 = BelowLimit n p
Keeps n w d p L12 = (p.j ≡ 1) × BelowLimit n p
Keeps n w d p L13 = IsOneOf n p.j × (p.k ≡ 1) × BelowLimit n p
Keeps n w d p L14 = IsOneOf n p.j × (p.k ≡ 1) × BelowLimit n p × (p.x ≤ 1)
Keeps n w d p L15 = IsOneOf n p.j × (p.k ≡ 1) × BelowLimit n p × (p.x ≤ 1)
Keeps n w d p L16 = IsOneOf n p.j × (p.k ≡ 1) × BelowLimit n p
Keeps n w d p L17 = (p.j ≡ 1) × IsOneOf w p.k × BelowLimit n p
Keeps n w d p L18 = (p.j ≡ 1) × IsOneOf w p.k × BelowLimit n p
Keeps n w d p L19 = (p.j ≡ 1) × IsOneOf w p.k × BelowLimit n p
Keeps n w d p L20 = (p.j ≡ 1) × IsOneOf w p.k × BelowLimit n p
Keeps n w d p L21 = IsOneOf n p.j × (p.k ≡ 1) × BelowLimit n p
Keeps n w d p L22 = IsOneOf n p.j × (p.k ≡ 1) × BelowLimit n p
Keeps n w d p L23 = IsOneOf n p.j × (p.k ≡ 1) × BelowLimit n p
Keeps n w d p L24 = (p.j ≡ 1) × (p.k ≡ 1) × BelowLimit n p
Keeps n w d p L25 = (p.j ≡ 1) × (p.k ≡ 1) × BelowLimit n p
Keeps n w d p L26 = (p.j ≡ 1) × IsOneOf w p.k × BelowLimit n p
Keeps n w d p L27 = (p.j ≡ 1) × IsOneOf w p.k × BelowLimit n p
Keeps n w d p L28 = (p.j ≡ 1) × IsOneOf w p.k × BelowLimit n p
Keeps n w d p L29 = (p.j ≡ 1) × IsOneOf w p.k × BelowLimit n p
Keeps n w d p L30 = (p.j ≡ 1) × (p.k ≡ 1) × BelowLimit n p
Keeps n w d p L31 = (p.j ≡ 1) × (p.k ≡ 1) × BelowLimit n p
Keeps n w d p L32 = (p.j ≡ 1) × (p.k ≡ 1) × WithinLimit n p
Keeps n w d p L33 = (p.j ≡ 1) × (p.k ≡ 1) × BelowLimit n p
Keeps n w d p L36 = IsOneOf n p.j
Keeps n w d p L51 = IsOneOf n p.j
Keeps n w d p L52 = IsOneOf n p.j
Keeps n w d p L53 = IsOneOf n p.j
Keeps n w d p L57 = place p.tog (word_of d) ≤ 1
Keeps n w d p _ = Unit {0}

-- The locals have all places.
pub record Long (n w : ℕ) (p : Variables) : Type 0 where
  pub a : length p.a ≡ max n w
  pub b : length p.b ≡ max n w
  pub g : length p.g ≡ max n w
  pub h : length p.h ≡ max n w
  pub tog : length p.tog ≡ max n w
  pub d : n ≤ length p.d

abbrev pub LongMove : ℕ → ℕ → Move → Type 0
LongMove n w (To d m p k) = Long n w p
LongMove n w (Begin d p k) = Long n w p
LongMove n w (Answer v) = Unit {0}
LongMove n w Finish = Unit {0}

for_each_long : (n : ℕ) (f : ℕ → ℕ) (old : List ℕ) → n ≤ length (for_each n f old)
for_each_long n f old =
    omega (arith, length-append (map f (places_to n)) (drop n old), length-map-range_with_len f 1 n)

pub long_move : (n w me : ℕ) (d : Mode) (m : Registers) (p : Variables) (k : ProgramCounter) → Long n w p →
    LongMove n w (move n w me d m p k)
long_move n w me d m p L14 h = assumption (length-set p.g (p.j - 1) p.x ∙ h.g)
long_move n w me Scanning m p L54 h = tt
long_move n w me (Embedded y z) m p L54 h = tt
long_move n w me d m p L16 h = either (LongMove n w) (nat_lt p.j n) _ _ (λ t. assumption) (λ t. assumption)
long_move n w me d m p L17 h = assumption (length-set p.a (p.k - 1) (word_at m.words p.k) ∙ h.a)
long_move n w me d m p L18 h = either (LongMove n w) (nat_lt p.k w) _ _ (λ t. assumption) (λ t. assumption)
long_move n w me d m p L19 h = assumption (length-set p.b (p.k - 1) (word_at m.words p.k) ∙ h.b)
long_move n w me d m p L20 h = either (LongMove n w) (nat_lt p.k w) _ _ (λ t. assumption) (λ t. assumption)
long_move n w me d m p L22 h = assumption (length-set p.h (p.j - 1) p.x ∙ h.h)
long_move n w me d m p L23 h = either (LongMove n w) (nat_lt p.j n) _ _ (λ t. assumption) (λ t. assumption)
long_move n w me d m p L24 h = assumption (for_each_long n (λ c. 0) p.d)
long_move n w me d m p L25 h = assumption (for_each_long n (marked p) p.d)
long_move n w me d m p L26 h = either (LongMove n w) (same_at p.a p.b p.k) _ _ (λ t. assumption) (λ t. assumption)
long_move n w me d m p L28 h = omega (arith, length-set p.d (p.x - 1) 1)
long_move n w me d m p L29 h = either (LongMove n w) (nat_lt p.k w) _ _ (λ t. assumption) (λ t. assumption)
long_move n w me d m p L30 h = either (LongMove n w) (all_still n p) _ _ (λ t. assumption) (λ t. assumption)
long_move n w me d m p L32 h =
    whether (LongMove n w) (first_to d m p) (third_move n p) (λ e. assumption) (λ k e. assumption)
long_move n w me Scanning m p L35 h = tt
long_move n w me (Updating y z) m p L35 h = tt
long_move n w me Scanning m p L37 h = tt
long_move n w me (Updating y z) m p L37 h = tt
long_move n w me d m p L53 h = either (LongMove n w) (nat_lt p.j n) _ _ (λ t. assumption) (λ t. assumption)
long_move n w me d m p L56 h = assumption (length-set p.tog (word_of d - 1) (flip (place p.tog (word_of d))) ∙ h.tog)
long_move n w me d m p k h = assumption

abbrev pub MoveWell : Op → ℕ → ℕ → Move → Type 0
MoveWell op n w v = LeadsTo (λ d p k. IsLineOf w d k × Keeps n w d p k × (op_of d ≡ op)) v

first_well : (n w : ℕ) (d : Mode) (m : Registers) (p : Variables) (o : Option ℕ) → IsScan w d → (p.j ≡ 1) × (p.k ≡ 1) →
    ((k : ℕ) → o ≡ Some k → IsOneOf n k) → (o ≡ None → BelowLimit n p) → MoveWell (op_of d) n w (first_to d m p o)
first_well n w d m p None s h f g = (s, (h.0, h.1, g refl), refl)
first_well n w d m p (Some k) s h f g = (s, f k refl, refl)

-- what else a line may rest on: there is a process and a word, the bits that it reads are bits,
-- and its locals have all places
pub record Ground (n w me : ℕ) (m : Registers) (p : Variables) : Type 0 where
  pub one : IsOneOf n me
  pub some : 0 < w
  pub bits : (c : ℕ) → IsOneOf n c → bit m.p c me ≤ 1
  pub long : Long n w p

pub move_well : (n w me : ℕ) (d : Mode) (m : Registers) (p : Variables) (k : ProgramCounter) → Ground n w me m p →
    IsLineOf w d k → Keeps n w d p k → MoveWell (op_of d) n w (move n w me d m p k)
move_well n w me d m p L10 e s h = (s, λ c i. rw (for_each_at n (λ c. 0) p.moved c i) (omega arith), refl)
move_well n w me (Updating y z) m p L54 e s h = (s, tt, refl)
move_well n w me d m p L54 e s h = absurd s
move_well n w me d m p L13 e s h = (s, (h.0, h.1, h.2, e.bits p.j h.0), refl)
move_well n w me d m p L16 e s h =
    either (MoveWell (op_of d) n w) (nat_lt p.j n) _ _ (λ b. (s, omega (arith, lt_from p.j n b), refl))
    (λ b. (s, omega (arith, e.some), refl))
move_well n w me d m p L18 e s h =
    either (MoveWell (op_of d) n w) (nat_lt p.k w) _ _ (λ b. (s, omega (arith, lt_from p.k w b), refl))
    (λ b. (s, omega (arith, e.one, e.some), refl))
move_well n w me d m p L20 e s h =
    either (MoveWell (op_of d) n w) (nat_lt p.k w) _ _ (λ b. (s, omega (arith, lt_from p.k w b), refl))
    (λ b. (s, omega (arith, e.one, e.some), refl))
move_well n w me d m p L23 e s h =
    either (MoveWell (op_of d) n w) (nat_lt p.j n) _ _ (λ b. (s, omega (arith, lt_from p.j n b), refl))
    (λ b. (s, omega (arith, e.one, e.some), refl))
move_well n w me d m p L26 e s h =
    either (MoveWell (op_of d) n w) (same_at p.a p.b p.k) _ _ (λ b. (s, h, refl)) (λ b. (s, h, refl))
move_well n w me d m p L29 e s h =
    either (MoveWell (op_of d) n w) (nat_lt p.k w) _ _ (λ b. (s, omega (arith, lt_from p.k w b), refl))
    (λ b. (s, omega arith, refl))
move_well n w me d m p L30 e s h =
    either (MoveWell (op_of d) n w) (all_still n p) _ _ (λ b. (s, tt, refl)) (λ b. (s, h, refl))
move_well n w me d m p L31 e s h = (
  s,
  (
    h.0,
    h.1,
    λ c i. rw (for_each_at n (counted p) p.moved c i)
        (raised_most (nat_eq (place p.d c) 1) (place p.moved c) limit (h.2 c i)),
  ),
  refl,
)
move_well n w me d m p L32 e s h =
    first_well n w d m p (third_move n p) s (h.0, h.1) (λ k f. omega (arith, first_found 1 n (at_limit p) k f))
    (λ f k o. differs (place p.moved k) limit (first_none 1 n (at_limit p) f k (omega arith) (omega arith)) (h.2 k o))
move_well n w me Scanning m p L35 e s h = tt
move_well n w me (Updating y z) m p L35 e s h = absurd s
move_well n w me Scanning m p L37 e s h = tt
move_well n w me (Updating y z) m p L37 e s h = absurd s
move_well n w me d m p L53 e s h =
    either (MoveWell (op_of d) n w) (nat_lt p.j n) _ _ (λ b. (s, omega (arith, lt_from p.j n b), refl))
    (λ b. (s, tt, refl))
move_well n w me (Updating y z) m p L56 e s h = (
  s,
  subst (λ v. v ≤ 1) (sym (set_here p.tog y (flip (place p.tog y)) s.0 (omega (arith, e.long))))
      (flip_bit (place p.tog y)),
  refl,
)
move_well n w me d m p L56 e s h = absurd s
move_well n w me d m p L58 e s h = tt
move_well n w me d m p k e s h = (s, omega (arith, e.one, e.some), refl)

word_is : (w : ℕ) (d : Mode) → IsUpdate w d → IsOneOf w (word_of d)
word_is w (Updating y z) h = h
word_is w d h = absurd h

-- what a line needs is kept
pub needs : (n w me : ℕ) (d : Mode) (p : Variables) (k : ProgramCounter) → IsOneOf n me → IsLineOf w d k →
    Keeps n w d p k → (k ≡ L28 → IsOneOf n p.x) → Needs n w me d p k
needs n w me d p L28 i s h x = x refl
needs n w me d p L56 i s h x = word_is w d s
needs n w me d p L57 i s h x = (word_is w d s, h)
needs n w me d p k i s h x = assumption

-- an update that is not skipped is of a word that there is
allowed_word : (n w me word arg : ℕ) → call_skip kind.Multi (counts n w) me (Update word arg) ≡ None → IsOneOf w word
allowed_word n w me word arg h =
    let parts = both (nat_lt 0 word) (nat_le word w) (none_then (nat_lt 0 word && nat_le word w) None NoSuchWord h).0 in
    (lt_from 0 word parts.0, le_from word w parts.1)

abbrev pub ControlWell : ℕ → ℕ → Variables → Control → Type 0
ControlWell n w p control = WhenBusy (λ d k. IsLineOf w d k × Keeps n w d p k) control

pub called_well : (n w me : ℕ) (p : Variables) (op : Op) → call_skip kind.Multi (counts n w) me op ≡ None →
    ControlWell n w p (At (mode_of op) (counter op))
called_well n w me p Scan e = (tt, tt)
called_well n w me p (Update word arg) e = (allowed_word n w me word arg e, tt)

abbrev pub NamedAt28 : ℕ → Variables → Control → Type 0
NamedAt28 n p Idle = Unit {0}
NamedAt28 n p (At d k) = k ≡ L28 → IsOneOf n p.x

-- no line traps: each does its move
pub does : (n w me : ℕ) (m : Registers) (p : Variables) (control : Control) → Ground n w me m p →
    ControlWell n w p control → NamedAt28 n p control → embed.Does (algorithm n w) me m p control
does n w me m p Idle e h x = tt
does n w me m p (At d k) e h x = (
  lines n w me d m p k h.0 (needs n w me d p k e.one h.0 h.1 x),
  leads_to _ _ (λ d p k well. well.2) (move n w me d m p k) (move_well n w me d m p k e h.0 h.1),
)
