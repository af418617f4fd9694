-- The instruction of a line of a listing names only what the listing
-- declares, and needs only what its kind has (`HasRightUses`).
use Rattle.std.proofs.Common.{Bor, sym, subst}
use Rattle.std.specs.List.{AllByRecursion}
use Rattle.std.specs.Prelude.{◌≡◌, ℕ, Bool, true, false, IfSome, List, [], ◌∷◌, Option, Some, None, nat_eq}
use Rattle.std.specs.Prelude.{option_map, if◌then◌else◌}
use Rattle.snap_semantics.specs.declared.instr.Instr.{Instr}
use Rattle.snap_semantics.specs.declared.instr.Line.{Line}
use Rattle.snap_semantics.specs.IsListing.{IsLine, IsListing}
use Rattle.snap_semantics.specs.RightUses.{HasRightUses}
use Rattle.snap_semantics.specs.Source.{Source, instr_at}

some_is : (i k : Instr) → (let o : Option Instr = Some i in o) ≡ Some k → i ≡ k
some_is i k e = cc

instr_by : (P : Instr → Type 0) (i k : Instr) (rest : Option Instr) (b : Bool) → P i → (rest ≡ Some k → P k) →
    (if b then Some i else rest) ≡ Some k → P k
instr_by P i k rest true h g e = subst P (some_is i k e) h
instr_by P i k rest false h g e = g e

right_instr : (s : Source) (lines : List Line) → AllByRecursion (IsLine s) lines → (number : ℕ) (i : Instr) →
    instr_at lines number ≡ Some i → HasRightUses s i
right_instr s [] h number i e = absurd cc
right_instr s (line ∷ lines) h number i e =
    instr_by (HasRightUses s) line.instr i (instr_at lines number) (nat_eq line.number number) h.0.uses
    (right_instr s lines h.1 number i) e

-- an instruction that a line has speaks of what the listing has
pub right_of : (s : Source) (number : ℕ) (found : Option (Bor Instr)) → IsListing s →
    option_map (λ i. i.now) found ≡ instr_at s.lines number → IfSome found (λ i. HasRightUses s i.now)
right_of s number None listing found_is = tt
right_of s number (Some i) listing found_is = right_instr s s.lines listing.lines number i.now (sym found_is)
