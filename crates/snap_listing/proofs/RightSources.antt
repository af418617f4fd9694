-- A line that passes the checks of the grammar has right uses:
-- its names are declared, and the kind has what it needs.
use Rattle.std.proofs.Common.{◌≡◌, ℕ, Bool, true, false, List, [], ◌∷◌, Option, Some, None, Result, Ok, Err}
use Rattle.std.proofs.Common.{if◌then◌else◌, refl, ap, subst}
use Rattle.std.specs.List.{AllByRecursion}
use Rattle.snap_semantics.specs.declared.instr.Line.{Line}
use Rattle.snap_semantics.specs.declared.refusal.ListingRefusal.{ListingRefusal}
use Rattle.snap_semantics.specs.declared.refusal.ListingRefusal.TheVariants as refusal
use Rattle.snap_semantics.specs.declared.text.Sort.{Sort}
use Rattle.snap_semantics.specs.declared.text.Sort.TheVariants as sort
use Rattle.snap_semantics.specs.Answers.{◌>>=◌}
use Rattle.snap_semantics.specs.Listing.{with_lines}
use Rattle.snap_semantics.specs.RightUses.{IsRight}
use Rattle.snap_semantics.specs.Source.{Source}
use Rattle.snap_semantics.specs.Uses.{Use, Named, BankUse, FieldUse, HandshakeUse, ViewUse, TupleUse, kind_has}
use Rattle.snap_semantics.specs.Uses.{sort_of, same_sort, use_of_sort, checked_use, checked_uses}

-- what holds of what is answered, where something is
abbrev pub HoldsOk : {A : Type 0} → (A → Type 0) → Result A ListingRefusal → Type 0
HoldsOk P (Ok x) = P x
HoldsOk P (Err e) = Unit {0}

pub ok_with : {A B : Type 0} (Q : A → Type 0) (P : B → Type 0) (r : Result A ListingRefusal)
    (f : A → Result B ListingRefusal) → HoldsOk Q r → ((x : A) → Q x → HoldsOk P (f x)) → HoldsOk P (r >>= f)
ok_with Q P (Ok x) f g h = h x g
ok_with Q P (Err e) f g h = tt

pub holds_ok : {A : Type 0} (P : A → Type 0) (r : Result A ListingRefusal) (x : A) → HoldsOk P r → r ≡ Ok x → P x
holds_ok P (Ok y) x h e = let p : y ≡ x = cc in subst P p h
holds_ok P (Err d) x h e = absurd cc

pub ok_same : {A : Type 0} (Q P : A → Type 0) (r : Result A ListingRefusal) → HoldsOk Q r →
    ((x : A) → Q x → P x) → HoldsOk P r
ok_same Q P (Ok x) h f = f x h
ok_same Q P (Err e) h f = tt

same_sorts : (a b : Sort) → same_sort a b ≡ true → b ≡ a
same_sorts sort.Scalar sort.Scalar e = refl
same_sorts sort.Row sort.Row e = refl
same_sorts sort.Words sort.Words e = refl
same_sorts sort.View sort.View e = refl
same_sorts _ _ e = absurd cc

abbrev pub WhenDone : Type 0 → Unit {0} → Type 0
WhenDone P done = P

sort_by : (line : ℕ) (wanted found : Sort) (b : Bool) → same_sort wanted found ≡ b →
    HoldsOk (WhenDone ((let o : Option Sort = Some found in o) ≡ Some wanted))
    (if b then Ok tt else Err (refusal.WrongKind line))
sort_by line wanted found true e = ap (λ (k : Sort). let o : Option Sort = Some k in o) (same_sorts wanted found e)
sort_by line wanted found false e = tt

sort_ok : (line : ℕ) (wanted : Sort) (o : Option Sort) →
    HoldsOk (WhenDone (o ≡ Some wanted)) (use_of_sort line wanted o)
sort_ok line wanted None = tt
sort_ok line wanted (Some found) = sort_by line wanted found (same_sort wanted found) refl

kind_ok : (line : ℕ) (b : Bool) → HoldsOk (WhenDone (b ≡ true)) (if b then Ok tt else Err (refusal.WrongKind line))
kind_ok line true = refl
kind_ok line false = tt

use_ok : (s : Source) (line : ℕ) (u : Use) → HoldsOk (WhenDone (IsRight s u)) (checked_use s line u)
use_ok s line (Named wanted x) = sort_ok line wanted (sort_of s x)
use_ok s line (BankUse b) = kind_ok line (kind_has s.kind (BankUse b))
use_ok s line (FieldUse f) = kind_ok line (kind_has s.kind (FieldUse f))
use_ok s line HandshakeUse = kind_ok line (kind_has s.kind HandshakeUse)
use_ok s line ViewUse = kind_ok line (kind_has s.kind ViewUse)
use_ok s line (TupleUse k) = kind_ok line (kind_has s.kind (TupleUse k))

pub uses_ok : (s : Source) (line : ℕ) (us : List Use) →
    HoldsOk (WhenDone (AllByRecursion (IsRight s) us)) (checked_uses s line us)
uses_ok s line [] = tt
uses_ok s line (u ∷ us) =
    ok_with (WhenDone (IsRight s u)) (WhenDone (AllByRecursion (IsRight s) (u ∷ us)))
    (checked_use s line u) _ (use_ok s line u) (λ done h.
    ok_same (WhenDone (AllByRecursion (IsRight s) us)) (WhenDone (AllByRecursion (IsRight s) (u ∷ us)))
    (checked_uses s line us) (uses_ok s line us)
    (λ x hs. (h, hs)))

-- a listing's lines don't say what it has
relined_use : (s : Source) (lines : List Line) (u : Use) → IsRight s u → IsRight (with_lines lines s) u
relined_use s lines (Named wanted x) h = h
relined_use s lines _ h = h

pub relined_uses : (s : Source) (lines : List Line) (us : List Use) → AllByRecursion (IsRight s) us →
    AllByRecursion (IsRight (with_lines lines s)) us
relined_uses s lines [] h = tt
relined_uses s lines (u ∷ us) h = (relined_use s lines u h.0, relined_uses s lines us h.1)
