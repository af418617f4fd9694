-- The last line of a listing: no line has a greater number (`NoneBeyond`).
use Rattle.std.proofs.Common.{◌≡◌, ℕ, suc, ◌<◌, ◌≤◌, ◌+◌, ◌-◌, Bool, false, List, [], ◌∷◌, length, Some, None}
use Rattle.std.proofs.Common.{slice_get, nat_eq, if◌then◌else◌, refl, ap, ◌∙◌, arith}
use Rattle.snap_semantics.specs.declared.instr.Line.{Line}
use Rattle.snap_semantics.specs.IsListing.{AreRising, IsListing}
use Rattle.snap_semantics.specs.Source.{Source, instr_at}
use Rattle.snap_record.specs.Roles.{NoneBeyond}

-- the number of the last line, or else this one
abbrev last_number : ℕ → List Line → ℕ
last_number n [] = n
last_number n (line ∷ lines) = last_number line.number lines

-- numbers rise up to it
rises : (n : ℕ) (lines : List Line) → AreRising n lines → n ≤ last_number n lines
rises n [] h = let e : n ≤ n = omega (arith) in e
rises n (line ∷ lines) h =
    let more = rises line.number lines h.1 in
    let less = h.0 in
    let e : n ≤ last_number line.number lines = omega (arith, more, less) in e

-- no line has a greater number
none_after : (n k : ℕ) (lines : List Line) → AreRising n lines → last_number n lines < k → instr_at lines k ≡ None
none_after n k [] h lt = refl
none_after n k (line ∷ lines) h lt =
    let more = rises line.number lines h.1 in
    let other : nat_eq line.number k ≡ false = differ line.number k (omega (arith, more, lt)) in
    ap (λ (b : Bool). if b then Some line.instr else instr_at lines k) other
    ∙ none_after line.number k lines h.1 lt
  where
    differ : (n k : ℕ) → n < k → nat_eq n k ≡ false
    differ n k lt = grind arith

-- the largest number of a line is that of the line at the last place
last_there : (line l : Line) (lines : List Line) → Some l ≡ slice_get (line ∷ lines) (length lines) →
    l.number ≡ last_number line.number lines
last_there line l [] is = let same : l ≡ line = cc in ap (λ (x : Line). x.number) same
last_there line l (more ∷ lines) is = last_there more l lines is

-- no line has a number above that of the line at the last place
pub none_beyond : (s : Source) (l : Line) → IsListing s → Some l ≡ slice_get s.lines (length s.lines - 1) →
    NoneBeyond s (l.number + 1)
none_beyond s l rules is k far = last s.lines rules.rising is
  where
    last : (lines : List Line) → AreRising 0 lines → Some l ≡ slice_get lines (length lines - 1) → instr_at lines k ≡ None
    last [] h there = refl
    last (line ∷ lines) h there =
        let place : suc (length lines) - 1 ≡ length lines = omega (arith) in
        let at = last_there line l lines (there ∙ ap (slice_get (line ∷ lines)) place) in
        none_after 0 k (line ∷ lines) h (omega (arith, at, far))
