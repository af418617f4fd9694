-- Which variables a process of B has at each line, and that no line traps.
use Rattle.std.proofs.Common.{◌≡◌, ℕ, ◌-◌, ◌<◌, ◌≤◌, max, not, ◌&&◌, List, length, map, Some, None, nat_eq, nat_lt}
use Rattle.std.proofs.Common.{nat_le, if◌then◌else◌, slice_set, refl, sym, subst, arith}
use Rattle.std.proofs.lemmas.Grind.{get_or-set_at}
use Rattle.snap_runs.proofs.Common.{IsOneOf, Word, no_word, places_to, all_true, first_true, Op, Scan, Update}
use Rattle.snap_words.specs.declared.kind.KindTag.TheVariants as kind
use Rattle.snap_semantics.specs.Table.{call_skip}
use Rattle.snap_semantics.specs.declared.process.Reason.TheVariants.{NoSuchWord, NotOwner}
use Rattle.snap_runs.proofs.Algorithm.{Mode, Scanning, Updating, mode_of, op_of, Idle, At, WhenBusy, LeadsTo, leads_to}
use Rattle.snap_runs.proofs.Computing.{lt_from, same_from, either, whether, differs, raised_most, none_then}
use Rattle.snap_runs.proofs.Embedding as embed
use Rattle.snap_runs.proofs.Held.{word_at}
use Rattle.snap_runs.proofs.Places.{for_each_at, first_found, first_none}
use Rattle.snap_runs_of_b.specs.Promises.{square}
use Rattle.snap_runs_of_b.proofs.Algorithm.{Words, Registers, Move, Control, Variables, ProgramCounter, L10, L11, L12}
use Rattle.snap_runs_of_b.proofs.Algorithm.{L13, L14, L15, L16, L17, L18, L19, L20, L21, L22, L23, L26, L27, L28}
use Rattle.snap_runs_of_b.proofs.Algorithm.{L41, L42, L43, L44, L46, L47, place, handshake_at, agree, limit}
use Rattle.snap_runs_of_b.proofs.Algorithm.{moved_at, counted, at_limit, move, first_to, counter, algorithm, IsLineOf}
use Rattle.snap_runs_of_b.proofs.Lines.{SaysBits, Needs, each_line}

-- no process has been seen to move up to the limit, or none beyond it
abbrev pub BelowLimit : ℕ → Variables → Type 0
BelowLimit n p = (k : ℕ) → IsOneOf n k → moved_at p k < limit

abbrev pub WithinLimit : ℕ → Variables → Type 0
WithinLimit n p = (k : ℕ) → IsOneOf n k → moved_at p k ≤ limit

-- what the words say is a bit
abbrev pub BitWords : ℕ → Words → Type 0
BitWords n words = (k i : ℕ) → IsOneOf n k → IsOneOf n i → handshake_at (word_at words k) i ≤ 1

-- the copies and the rows have all places
abbrev pub Sized : ℕ → Variables → Type 0
Sized n p =
    (length p.a ≡ max n n) × (length p.b ≡ max n n) × (length p.g ≡ max n n)
    × (length p.f ≡ max n n) × (length p.marks ≡ max n n)

-- At each line j is a place, the moves are within the limit, and what will be put is a bit, where the line asks for it.
abbrev pub VariablesAt : ℕ → ℕ → Variables → ProgramCounter → Type 0
VariablesAt n me p L11 = BelowLimit n p
VariablesAt n me p L12 = IsOneOf n p.j × BelowLimit n p
VariablesAt n me p L13 = IsOneOf n p.j × BelowLimit n p × (handshake_at (word_at p.a p.j) me ≤ 1)
VariablesAt n me p L14 = IsOneOf n p.j × BelowLimit n p × (place p.g p.j ≤ 1)
VariablesAt n me p L15 = IsOneOf n p.j × BelowLimit n p
VariablesAt n me p L16 = IsOneOf n p.j × BelowLimit n p
VariablesAt n me p L17 = IsOneOf n p.j × BelowLimit n p
VariablesAt n me p L18 = IsOneOf n p.j × BelowLimit n p
VariablesAt n me p L19 = IsOneOf n p.j × BelowLimit n p
VariablesAt n me p L20 = (p.j ≡ 1) × BelowLimit n p
VariablesAt n me p L21 = (p.j ≡ 1) × BelowLimit n p
VariablesAt n me p L22 = (p.j ≡ 1) × WithinLimit n p
VariablesAt n me p L23 = (p.j ≡ 1) × BelowLimit n p
VariablesAt n me p L27 = IsOneOf n p.j
VariablesAt n me p L41 = IsOneOf n p.j
VariablesAt n me p L42 = IsOneOf n p.j
VariablesAt n me p L43 = IsOneOf n p.j
VariablesAt n me p _ = Unit {0}

abbrev pub MoveWell : Op → ℕ → ℕ → Move → Type 0
MoveWell op n me v = LeadsTo (λ d p k. IsLineOf me d k × VariablesAt n me p k × (op_of d ≡ op)) v

-- what a line puts at place j of a row or of the copies
pub put_place : (row : List ℕ) (j v : ℕ) → 0 < j → j ≤ length row → place (slice_set row (j - 1) v) j ≡ v
put_place row j v pos le = get_or-set_at row (j - 1) (j - 1) v 0 refl (omega arith)

pub put_word : (ws : Words) (j : ℕ) (w : Word) → 0 < j → j ≤ length ws → word_at (slice_set ws (j - 1) w) j ≡ w
put_word ws j w pos le = get_or-set_at ws (j - 1) (j - 1) w no_word refl (omega arith)

pub move_well : (n me : ℕ) (d : Mode) (m : Registers) (p : Variables) (k : ProgramCounter) →
    IsOneOf n me → BitWords n m.words → Sized n p → IsLineOf me d k → VariablesAt n me p k →
    MoveWell (op_of d) n me (move n me d m p k)
move_well n me d m p L10 i bits sized s h = (s, λ k e. rw (for_each_at n (λ k. 0) p.moved k e) (omega arith), refl)
move_well n me (Updating word value) m p L44 i bits sized s h = (s, tt, refl)
move_well n me d m p L44 i bits sized s h = absurd s
move_well n me d m p L12 i bits sized s h = (
  s,
  (
    h.0,
    h.1,
    subst (λ (w : Word). handshake_at w me ≤ 1)
        (sym (put_word p.a p.j (word_at m.words p.j) (omega arith) (omega (arith, sized.0)))) (bits p.j me h.0 i),
  ),
  refl,
)
move_well n me d m p L13 i bits sized s h = (
  s,
  (
    h.0,
    h.1,
    subst (λ x. x ≤ 1)
        (sym (put_place p.g p.j (handshake_at (word_at p.a p.j) me) (omega arith) (omega (arith, sized.2)))) h.2,
  ),
  refl,
)
move_well n me d m p L15 i bits sized s h =
    either (MoveWell (op_of d) n me) (nat_lt p.j n) _ _ (λ b. (s, omega (arith, lt_from p.j n b), refl))
    (λ b. (s, omega arith, refl))
move_well n me d m p L17 i bits sized s h =
    either (MoveWell (op_of d) n me) (nat_lt p.j n) _ _ (λ b. (s, omega (arith, lt_from p.j n b), refl))
    (λ b. (s, omega arith, refl))
move_well n me d m p L19 i bits sized s h =
    either (MoveWell (op_of d) n me) (nat_lt p.j n) _ _ (λ b. (s, omega (arith, lt_from p.j n b), refl))
    (λ b. (s, omega arith, refl))
move_well n me d m p L20 i bits sized s h =
    either (MoveWell (op_of d) n me) (all_true (map (agree me p) (places_to n))) _ _
    (λ b. (s, tt, refl)) (λ b. (s, h, refl))
move_well n me d m p L21 i bits sized s h = (
  s,
  (
    h.0,
    λ k e. rw (for_each_at n (counted me p) p.moved k e)
        (raised_most (not (agree me p k)) (moved_at p k) limit (h.1 k e)),
  ),
  refl,
)
move_well n me d m p L22 i bits sized s h =
    whether (MoveWell (op_of d) n me) (first_to d m p) (first_true 1 (map (at_limit p) (places_to n)))
    (λ e. (
      s,
      (
        h.0,
        λ k o. differs (moved_at p k) limit (first_none 1 n (at_limit p) e k (omega arith) (omega arith)) (h.1 k o),
      ),
      refl,
    ))
    (λ k e. (s, omega (arith, first_found 1 n (at_limit p) k e), refl))
move_well n me Scanning m p L26 i bits sized s h = tt
move_well n me (Updating word value) m p L26 i bits sized s h = absurd s
move_well n me Scanning m p L28 i bits sized s h = tt
move_well n me (Updating word value) m p L28 i bits sized s h = absurd s
move_well n me d m p L43 i bits sized s h =
    either (MoveWell (op_of d) n me) (nat_lt p.j n) _ _ (λ b. (s, omega (arith, lt_from p.j n b), refl))
    (λ b. (s, tt, refl))
move_well n me d m p L47 i bits sized s h = tt
move_well n me d m p k i bits sized s h = (s, omega arith, refl)

-- what a line needs is kept
pub needs : (n me : ℕ) (p : Variables) (k : ProgramCounter) → SaysBits n p → VariablesAt n me p k → Needs n p k
needs n me p L46 f h = f
needs n me p k f h = assumption

-- an update that is not skipped is of the caller's own word
pub own_word : (n i word value : ℕ) → call_skip kind.Bits (square n) i (Update word value) ≡ None → word ≡ i
own_word n i word value h =
    same_from word i (none_then (nat_eq word i) None NotOwner
    (none_then (nat_lt 0 word && nat_le word n) (if nat_eq word i then None else Some NotOwner) NoSuchWord h).1).0

abbrev pub ControlWell : ℕ → ℕ → Variables → Control → Type 0
ControlWell n me p control = WhenBusy (λ d k. IsLineOf me d k × VariablesAt n me p k) control

pub called_well : (n me : ℕ) (p : Variables) (op : Op) → call_skip kind.Bits (square n) me op ≡ None →
    ControlWell n me p (At (mode_of op) (counter op))
called_well n me p Scan e = (tt, tt)
called_well n me p (Update word value) e = (own_word n me word value e, tt)

-- no line traps: each does its move
pub does : (n me : ℕ) (m : Registers) (p : Variables) (control : Control) → IsOneOf n me → BitWords n m.words →
    Sized n p → SaysBits n p → ControlWell n me p control → embed.Does (algorithm n) me m p control
does n me m p Idle i bits sized f h = tt
does n me m p (At d k) i bits sized f h = (
  each_line n me d m p k i h.0 (needs n me p k f h.1),
  leads_to _ _ (λ d p k well. well.2) (move n me d m p k) (move_well n me d m p k i bits sized h.0 h.1),
)
