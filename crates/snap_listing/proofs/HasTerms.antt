-- What holds of what rules find, where they find something.
use Rattle.std.proofs.Common.{◌≡◌, Option, Some, None, Bool, true, false, if◌then◌else◌, List, refl}
use Rattle.std.specs.List.{AllByRecursion}
use Rattle.snap_semantics.specs.Rules.{◌>>=◌, or_else}
use Rattle.snap_semantics.specs.Token.{Token}
use Rattle.snap_text.specs.Tokens.{IsSound}

-- what holds of what is found, where something is
abbrev pub Holds : {A : Type 0} → (A → Type 0) → Option A → Type 0
Holds P None = Unit {0}
Holds P (Some x) = P x

pub then_with : {A B : Type 0} (Q : A → Type 0) (P : B → Type 0) (o : Option A) (f : A → Option B) → Holds Q o →
    ((x : A) → Q x → Holds P (f x)) → Holds P (o >>= f)
then_with Q P None f g h = tt
then_with Q P (Some x) f g h = h x g

pub either : {A : Type 0} (P : A → Type 0) (o p : Option A) → Holds P o → Holds P p → Holds P (or_else o p)
either P None p g h = h
either P (Some x) p g h = g

-- the same as a record, which shows what is found and what holds of it
pub record Finds {A : Type 0} (P : A → Type 0) (o : Option A) : Type 0 where
  pub holds : Holds P o

pub found : {A : Type 0} {P : A → Type 0} {x : A} → P x → Finds P (Some x)
found h = record { holds = h }

pub missed : {A : Type 0} {P : A → Type 0} → Finds P None
missed = record { holds = tt }

-- a rule, and the rule behind it
pub on : {A B : Type 0} {Q : A → Type 0} {P : B → Type 0} {o : Option A} (f : A → Option B) → Finds Q o →
    ((x : A) → Q x → Finds P (f x)) → Finds P (o >>= f)
on {Q = Q} {P} {o} f g h = record { holds = then_with Q P o f g.holds (λ x q. (h x q).holds) }

pub first_of_two : {A : Type 0} {P : A → Type 0} {o p : Option A} → Finds P o → Finds P p → Finds P (or_else o p)
first_of_two {P = P} {o} {p} g h = record { holds = either P o p g.holds h.holds }

pub when : {A : Type 0} {P : A → Type 0} {o p : Option A} (b : Bool) → (b ≡ true → Finds P o) → Finds P p →
    Finds P (if b then o else p)
when true g h = g refl
when false g h = h

pub so : {A : Type 0} {Q P : A → Type 0} {o : Option A} → Finds Q o → ((x : A) → Q x → P x) → Finds P o
so {o = None} g f = missed
so {o = Some x} g f = found (f x g.holds)

-- tokens that can stand in a text
abbrev pub Sounds : List Token → Type 0
Sounds ts = AllByRecursion IsSound ts
