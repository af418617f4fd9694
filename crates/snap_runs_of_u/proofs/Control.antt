-- Which variables a process of U has at each line, and that no line traps.
use Rattle.std.proofs.Common.{◌≡◌, ℕ, ◌+◌, ◌^◌, ◌<◌, ◌≤◌, not, ◌&&◌, map, Some, None, nat_eq, nat_lt, nat_le}
use Rattle.std.proofs.Common.{if◌then◌else◌, refl, arith}
use Rattle.snap_runs.proofs.Common.{IsOneOf, places_to, all_true, first_true, Op, Scan, Update}
use Rattle.snap_words.specs.declared.kind.KindTag.TheVariants as kind
use Rattle.snap_semantics.specs.Table.{call_skip}
use Rattle.snap_semantics.specs.declared.process.Reason.TheVariants.{NoSuchWord, NotOwner}
use Rattle.snap_runs.proofs.Algorithm.{Mode, Scanning, Updating, mode_of, op_of, Idle, At, WhenBusy, LeadsTo, leads_to}
use Rattle.snap_runs.proofs.Computing.{lt_from, same_from, either, whether, differs, raised_most, none_then}
use Rattle.snap_runs.proofs.Embedding as embed
use Rattle.snap_runs.proofs.Places.{for_each_at, first_found, first_none}
use Rattle.snap_runs_of_u.specs.Promises.{square}
use Rattle.snap_runs_of_u.proofs.Algorithm.{Words, Move, Control, Variables, ProgramCounter, L10, L11, L12, L13, L14}
use Rattle.snap_runs_of_u.proofs.Algorithm.{L15, L16, L17, L18, L19, L22, L23, L24, L30, L31, L33, agree, limit}
use Rattle.snap_runs_of_u.proofs.Algorithm.{moved_at, counted, at_limit, move, first_to, counter, algorithm, IsLineOf}
use Rattle.snap_runs_of_u.proofs.Lines.{Needs, each_line}

-- no process has been seen to move up to the limit, or none beyond it
abbrev pub BelowLimit : ℕ → Variables → Type 0
BelowLimit n p = (k : ℕ) → IsOneOf n k → moved_at p k < limit

abbrev pub WithinLimit : ℕ → Variables → Type 0
WithinLimit n p = (k : ℕ) → IsOneOf n k → moved_at p k ≤ limit

-- At each line j is a place and the moves are within the limit, where the line asks for it.
abbrev pub VariablesAt : ℕ → Variables → ProgramCounter → Type 0
VariablesAt n p L11 = BelowLimit n p
VariablesAt n p L12 = IsOneOf n p.j × BelowLimit n p
VariablesAt n p L13 = IsOneOf n p.j × BelowLimit n p
VariablesAt n p L14 = IsOneOf n p.j × BelowLimit n p
VariablesAt n p L15 = IsOneOf n p.j × BelowLimit n p
VariablesAt n p L16 = (p.j ≡ 1) × BelowLimit n p
VariablesAt n p L17 = (p.j ≡ 1) × BelowLimit n p
VariablesAt n p L18 = (p.j ≡ 1) × WithinLimit n p
VariablesAt n p L19 = (p.j ≡ 1) × BelowLimit n p
VariablesAt n p L23 = IsOneOf n p.j
VariablesAt n p _ = Unit {0}

-- What a line leaves is at a line of its mode, with the variables that it asks for, and has kept the operation.
abbrev pub MoveWell : Op → ℕ → ℕ → Move → Type 0
MoveWell op n me v = LeadsTo (λ d p k. IsLineOf me d k × VariablesAt n p k × (op_of d ≡ op)) v

pub move_well : (n me : ℕ) (d : Mode) (m : Words) (p : Variables) (k : ProgramCounter) → IsOneOf n me →
    IsLineOf me d k → VariablesAt n p k → MoveWell (op_of d) n me (move n me d m p k)
move_well n me d m p L10 i s h = (s, λ k e. rw (for_each_at n (λ k. 0) p.moved k e) (omega arith), refl)
move_well n me (Updating word value) m p L30 i s h = (s, tt, refl)
move_well n me d m p L30 i s h = absurd s
move_well n me d m p L13 i s h =
    either (MoveWell (op_of d) n me) (nat_lt p.j n) _ _ (λ b. (s, omega (arith, lt_from p.j n b), refl))
    (λ b. (s, omega arith, refl))
move_well n me d m p L15 i s h =
    either (MoveWell (op_of d) n me) (nat_lt p.j n) _ _ (λ b. (s, omega (arith, lt_from p.j n b), refl))
    (λ b. (s, omega arith, refl))
move_well n me d m p L16 i s h =
    either (MoveWell (op_of d) n me) (all_true (map (agree p) (places_to n))) _ _
    (λ b. (s, tt, refl)) (λ b. (s, h, refl))
move_well n me d m p L17 i s h = (
  s,
  (
    h.0,
    λ k e.
        rw (for_each_at n (counted p) p.moved k e) (raised_most (not (agree p k)) (moved_at p k) limit (h.1 k e)),
  ),
  refl,
)
move_well n me d m p L18 i s h =
    whether (MoveWell (op_of d) n me) (first_to d m p) (first_true 1 (map (at_limit p) (places_to n)))
    (λ e. (
      s,
      (
        h.0,
        λ k o. differs (moved_at p k) limit (first_none 1 n (at_limit p) e k (omega arith) (omega arith)) (h.1 k o),
      ),
      refl,
    ))
    (λ k e. (s, omega (arith, first_found 1 n (at_limit p) k e), refl))
move_well n me Scanning m p L22 i s h = tt
move_well n me (Updating word value) m p L22 i s h = absurd s
move_well n me Scanning m p L24 i s h = tt
move_well n me (Updating word value) m p L24 i s h = absurd s
move_well n me d m p L33 i s h = tt
move_well n me d m p k i s h = (s, omega arith, refl)

-- what a line needs is kept; the number that line 31 raises is at most the number of items
needs : (n time me : ℕ) (p : Variables) (k : ProgramCounter) → IsOneOf n me → p.c ≤ time → time + 1 < 2 ^ 64 →
    VariablesAt n p k → Needs n me p k
needs n time me p L31 i c b h = omega arith
needs n time me p k i c b h = assumption

-- an update that is not skipped is of the caller's own word
own_word : (n i word value : ℕ) → call_skip kind.Seq (square n) i (Update word value) ≡ None → word ≡ i
own_word n i word value h =
    same_from word i (none_then (nat_eq word i) None NotOwner
    (none_then (nat_lt 0 word && nat_le word n) (if nat_eq word i then None else Some NotOwner) NoSuchWord h).1).0

-- A busy process is at a line of its mode, with the variables that the line asks for.
abbrev pub ControlWell : ℕ → ℕ → Variables → Control → Type 0
ControlWell n me p control = WhenBusy (λ d k. IsLineOf me d k × VariablesAt n p k) control

pub called_well : (n me : ℕ) (p : Variables) (op : Op) → call_skip kind.Seq (square n) me op ≡ None →
    ControlWell n me p (At (mode_of op) (counter op))
called_well n me p Scan e = (tt, tt)
called_well n me p (Update word value) e = (own_word n me word value e, tt)

-- no line traps: each does its move
pub does : (n time me : ℕ) (m : Words) (p : Variables) (control : Control) → IsOneOf n me → p.c ≤ time →
    time + 1 < 2 ^ 64 → ControlWell n me p control → embed.Does (algorithm n) me m p control
does n time me m p Idle i c b h = tt
does n time me m p (At d k) i c b h = (
  each_line n me d m p k h.0 (needs n time me p k i c b h.1),
  leads_to _ _ (λ d p k well. well.2) (move n me d m p k) (move_well n me d m p k i h.0 h.1),
)
