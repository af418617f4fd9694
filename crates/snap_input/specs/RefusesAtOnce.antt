-- `RefusesAtOnce` and `IsRefusedAtOnce`: what a check of an input refuses is refused for the same reason by the call
-- that makes the check, whether or not there is memory.
use Rattle.std.specs.Prelude.{◌≡◌, Option, Some, Result, Err}
use Rattle.snap_semantics.specs.declared.fault.Fault.{Fault}
use Rattle.snap_semantics.specs.declared.fault.Fault.TheVariants.{Refused}

-- what this check refuses is refused so, even where memory runs out
abbrev pub RefusesAtOnce : {A X R : Type 0} → Result A R → Result X (Fault R) → Type 0
RefusesAtOnce {R = R} check result = (r : R) → check ≡ Err r → result ≡ Err (Refused r)

-- the refusal that was found, if there is one, is answered even where memory runs out
abbrev pub IsRefusedAtOnce : {X R : Type 0} → Option R → Result X (Fault R) → Type 0
IsRefusedAtOnce {R = R} found result = (r : R) → found ≡ Some r → result ≡ Err (Refused r)
