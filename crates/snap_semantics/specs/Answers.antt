-- `Answers`: a call that allocates answers what its definition gives, or that memory ran out.
use Rattle.std.specs.Prelude.{◌≡◌, Result, Ok, Err, ⊤}
use Rattle.snap_semantics.specs.declared.fault.Fault.{Fault}
use Rattle.snap_semantics.specs.declared.fault.Fault.TheVariants as fault

-- the next step on what the first one gave; a fault ends it
infixl 10 ◌>>=◌
abbrev pub ◌>>=◌ : {A B E : Type 0} → Result A E → (A → Result B E) → Result B E
(Ok x) >>= f = f x
(Err e) >>= f = Err e

-- a refusal as one of a larger kind
abbrev pub refused_as : {A E F : Type 0} → (E → F) → Result A E → Result A F
refused_as f (Ok x) = Ok x
refused_as f (Err e) = Err (f e)

-- a fault with its refusal as one of a larger kind
abbrev pub fault_as : {E F : Type 0} → (E → F) → Fault E → Fault F
fault_as f fault.Memory = fault.Memory
fault_as f (fault.Refused r) = fault.Refused (f r)

-- a refusal is the definition's; a want of memory is none
abbrev pub IsRefusal : {Y R : Type 0} → Fault R → Result Y R → Type 0
IsRefusal fault.Memory answer = ⊤
IsRefusal (fault.Refused r) answer = answer ≡ Err r

-- What was answered, seen by `view`, is what the definition gives; a want of memory may stand in its place.
abbrev pub Answers : {X Y R : Type 0} → (X → Y) → Result X (Fault R) → Result Y R → Type 0
Answers view (Ok x) answer = answer ≡ Ok (view x)
Answers view (Err fault) answer = IsRefusal fault answer

-- What was answered where no memory is taken, seen by `view`, is what the definition gives.
abbrev pub Gives : {X Y R : Type 0} → (X → Y) → Result X R → Result Y R → Type 0
Gives view (Ok x) answer = answer ≡ Ok (view x)
Gives view (Err r) answer = answer ≡ Err r
