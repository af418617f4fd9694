-- What an image says is read from it again: bytes, numbers, codes and slots.
use Rattle.std.proofs.Common.{◌≡◌, ℕ, ◌+◌, ◌<◌, ◌≤◌, ◌^◌, suc, Bool, true, false, ◌||◌, List, [], ◌∷◌, ◌++◌, length}
use Rattle.std.proofs.Common.{take, drop, Option, Some, Result, Ok, Err, bytes_eq, nat_le}
use Rattle.std.proofs.Common.{if◌then◌else◌, refl, sym, ap, ◌∙◌, subst, arith, append_assoc}
use Rattle.std.proofs.lemmas.List.{length-append}
use Rattle.std.proofs.lemmas.Nat.{from_be_bytes-to_be_bytes_2, from_be_bytes-to_be_bytes_8}
use Rattle.std.proofs.Math.Seq.{take-append_seam, drop-append_seam}
use Rattle.std.specs.Int.{w16, w64, to_be_bytes}
use Rattle.std.specs.List.{AllByRecursion, slice_get}
use Rattle.snap_semantics.specs.declared.refusal.ImageRefusal.{ImageRefusal}
use Rattle.snap_semantics.specs.declared.refusal.ImageRefusal.TheVariants.{Invalid}
use Rattle.snap_semantics.specs.declared.refusal.ListingRefusal.{ListingRefusal}
use Rattle.snap_semantics.specs.declared.text.Sort.{Sort}
use Rattle.snap_semantics.specs.declared.text.Sort.TheVariants as sort
use Rattle.snap_semantics.specs.Answers.{◌>>=◌, refused_as}
use Rattle.snap_image.specs.Image.{slot}
use Rattle.snap_image.specs.ImageCodes.{Codes, of_code}
use Rattle.snap_image.specs.ImageForms.{of_one, of_two, of_three, of_four, Rest, Read, byte_from, byte_in, bytes_in}
use Rattle.snap_image.specs.ImageForms.{short_in, long_in, known_code, code_in, known_name, slot_in, allowed}
use Rattle.snap_semantics.specs.RightUses.{IsRight}
use Rattle.snap_semantics.specs.Source.{Name, Source}
use Rattle.snap_semantics.specs.Uses.{Use, Named, is_among, use_of_sort, kind_has, checked_use, checked_uses, scalar}
use Rattle.snap_semantics.specs.Uses.{row, words, view}
use Rattle.snap_image.proofs.Slots.{same_name, sorted}

-- a rule that gives this value, with these bytes behind it
abbrev pub Gives : {A : Type 0} → Read A → A → List ℕ → Type 0
Gives {A} m x after = (r : Rest) × (m ≡ Ok (x, r)) × (r.bytes ≡ after)

pub then_gives : {A B : Type 0} (x : A) (mid : List ℕ) (m : Read A) (f : (A × Rest) → Read B) (y : B) (after : List ℕ) →
    Gives m x mid → ((r : Rest) → r.bytes ≡ mid → Gives (f (x, r)) y after) → Gives (m >>= f) y after
then_gives {A} x mid m f y after g h = subst (λ (n : Read A). Gives (n >>= f) y after) (sym g.1) (h g.0 g.2)

-- bytes behind two parts
pub regrouped : (x y after z : List ℕ) → z ≡ (x ++ y) ++ after → z ≡ x ++ (y ++ after)
regrouped x y after z e = e ∙ append_assoc x y after

-- a part that a rule reads again
pub record Again {A : Type 0} (x : A) (image : List ℕ) (read : Rest → Read A) : Type 0 where
  pub again : (after : List ℕ) (r : Rest) → r.bytes ≡ image ++ after → Gives (read r) x after

-- a part, and what stands behind it
pub part_then : {A B : Type 0} {x : A} {xs : List ℕ} {f : Rest → Read A} (g : (A × Rest) → Read B) (y : B)
    (ys after : List ℕ) (r : Rest) → Again x xs f → r.bytes ≡ (xs ++ ys) ++ after →
    ((t : Rest) → t.bytes ≡ ys ++ after → Gives (g (x, t)) y after) → Gives (f r >>= g) y after
part_then {x = x} {xs = xs} {f = f} g y ys after r h e k =
    then_gives x (ys ++ after) (f r) g y after (h.again (ys ++ after) r (regrouped xs ys after _ e)) k

-- a part, and one behind it that is read as the first one says
pub then_again : {A B : Type 0} {x : A} {y : B} {xs ys : List ℕ} {f : Rest → Read A} (g : A → Rest → Read B) →
    Again x xs f → Again y ys (g x) → Again y (xs ++ ys) (λ r. f r >>= λ a. g a.0 a.1)
then_again {y = y} {ys = ys} g h k =
    record { again = λ after r e. part_then _ y ys after r h e (k.again after) }

-- what no byte says
pub nothing_again : {A : Type 0} (x : A) → Again x [] (λ r. Ok (x, r))
nothing_again x = record { again = λ after r e. (r, refl, e) }

-- what is made of one part, and of so many that stand behind one another
pub one_again : {A X : Type 0} {x : A} {xs : List ℕ} {f : Rest → Read A} (make : A → X) → Again x xs f →
    Again (make x) xs (of_one f make)
one_again {A} {X} {x} {xs} {f} make h = record {
  again = λ after r e. then_gives x after (f r) _ (make x) after (h.again after r e) (λ t p. (t, refl, p));
}

pub two_again : {A B X : Type 0} {x : A} {y : B} {xs ys : List ℕ} {f : Rest → Read A} {g : Rest → Read B}
    (make : A → B → X) → Again x xs f → Again y ys g → Again (make x y) (xs ++ ys) (of_two f g make)
two_again {x = x} {g = g} make h k = then_again (λ a r. of_one g (make a) r) h (one_again (make x) k)

pub three_again : {A B C X : Type 0} {x : A} {y : B} {z : C} {xs ys zs : List ℕ} {f : Rest → Read A}
    {g : Rest → Read B} {i : Rest → Read C} (make : A → B → C → X) → Again x xs f → Again y ys g → Again z zs i →
    Again (make x y z) (xs ++ (ys ++ zs)) (of_three f g i make)
three_again {x = x} {g = g} {i = i} make h k l =
    then_again (λ a r. of_two g i (make a) r) h (two_again (make x) k l)

pub four_again : {A B C D X : Type 0} {x : A} {y : B} {z : C} {w : D} {xs ys zs ws : List ℕ} {f : Rest → Read A}
    {g : Rest → Read B} {i : Rest → Read C} {j : Rest → Read D} (make : A → B → C → D → X) → Again x xs f →
    Again y ys g → Again z zs i → Again w ws j →
    Again (make x y z w) (xs ++ (ys ++ (zs ++ ws))) (of_four f g i j make)
four_again {x = x} {g = g} {i = i} {j = j} make h k l o =
    then_again (λ a r. of_three g i j (make a) r) h (three_again (make x) k l o)

-- a test that is passed
pub then_done : {A B : Type 0} (x : A) (m : Result A ImageRefusal) (f : A → Read B) (y : B) (after : List ℕ) →
    m ≡ Ok x → Gives (f x) y after → Gives (m >>= f) y after
then_done {A} x m f y after e g = subst (λ (n : Result A ImageRefusal). Gives (n >>= f) y after) (sym e) g

-- a part behind a test that is passed
pub test_then : {A : Type 0} {x : A} {image : List ℕ} {f : Rest → Read A} (m : Result (Unit {0}) ImageRefusal) →
    m ≡ Ok tt → Again x image f → Again x image (λ r. m >>= λ done. f r)
test_then {x = x} m is h = record { again = λ after r e. then_done tt m _ x after is (h.again after r e) }

pub gives_if : {A : Type 0} (b : Bool) (m n : Read A) (x : A) (after : List ℕ) → b ≡ true → Gives m x after →
    Gives (if b then m else n) x after
gives_if true m n x after e g = g
gives_if false m n x after e g = absurd cc

pub byte_again : (b : ℕ) (after : List ℕ) (r : Rest) → r.bytes ≡ b ∷ after → Gives (byte_in r) b after
byte_again b after r e = subst (λ (z : List ℕ). Gives (byte_from r.passed z) b after) (sym e) (_, refl, refl)

pub a_byte : (b : ℕ) → Again b (b ∷ []) byte_in
a_byte b = record { again = byte_again b }

bytes_again : (n : ℕ) (xs after : List ℕ) (r : Rest) → length xs ≡ n →
    r.bytes ≡ xs ++ after → Gives (bytes_in n r) xs after
bytes_again n xs after r l e =
    let all : length r.bytes ≡ length xs + length after = ap (λ (z : List ℕ). length z) e ∙ length-append xs after in
    let within : n ≤ length r.bytes = omega (arith, all, l) in
    let test : nat_le n (length r.bytes) ≡ true = grind (arith, within) in
    let taken : take n r.bytes ≡ xs =
    ap (λ (z : List ℕ). take n z) e ∙ ap (λ (k : ℕ). take k (xs ++ after)) (sym l) ∙ take-append_seam xs after in
    let left : drop n r.bytes ≡ after =
    ap (λ (z : List ℕ). drop n z) e ∙ ap (λ (k : ℕ). drop k (xs ++ after)) (sym l) ∙ drop-append_seam xs after in
    let behind : Rest = record { passed = r.passed + n; bytes = drop n r.bytes } in
    gives_if (nat_le n (length r.bytes)) _ _ xs after test
    (behind, ap (λ (z : List ℕ). let a : Read (List ℕ) = Ok (z, behind) in a) taken, left)

pub a_short : (k : ℕ) → k < 2 ^ 16 → Again k (to_be_bytes w16 k) short_in
unfolding short_in
a_short k small = record {
  again = λ after r e.
      then_gives (to_be_bytes w16 k) after (bytes_in 2 r) _ k after (bytes_again 2 (to_be_bytes w16 k) after r refl e)
      (λ t h. (t, ap (λ (n : ℕ). let a : Read ℕ = Ok (n, t) in a) (from_be_bytes-to_be_bytes_2 k small), h));
}

pub a_long : (k : ℕ) → k < 2 ^ 64 → Again k (to_be_bytes w64 k) long_in
unfolding long_in
a_long k small = record {
  again = λ after r e.
      then_gives (to_be_bytes w64 k) after (bytes_in 8 r) _ k after (bytes_again 8 (to_be_bytes w64 k) after r refl e)
      (λ t h. (t, ap (λ (n : ℕ). let a : Read ℕ = Ok (n, t) in a) (from_be_bytes-to_be_bytes_8 k small), h));
}

pub known_again : {A : Type 0} (at : ℕ) (r : Rest) (o : Option A) (x : A) (after : List ℕ) → o ≡ Some x →
    r.bytes ≡ after → Gives (known_code at r o) x after
known_again {A} at r o x after e h = subst (λ (p : Option A). Gives (known_code at r p) x after) (sym e) (r, refl, h)

pub code_again : {A : Type 0} (codes : Codes A) (x : A) → of_code codes (codes.code x) ≡ Some x →
    (after : List ℕ) (r : Rest) → r.bytes ≡ codes.code x ∷ after → Gives (code_in codes r) x after
unfolding code_in
code_again codes x coded after r e =
    then_gives (codes.code x) after (byte_in r) _ x after (byte_again (codes.code x) after r e)
    (λ t h. known_again r.passed t (of_code codes (codes.code x)) x after coded h)

pub a_code : {A : Type 0} (codes : Codes A) (x : A) → of_code codes (codes.code x) ≡ Some x →
    Again x (codes.code x ∷ []) (code_in codes)
a_code codes x coded = record { again = code_again codes x coded }

-- a part behind a code
pub coded_again : {A T : Type 0} (codes : Codes T) (t : T) (x : A) (image : List ℕ) (read : ℕ → T → Rest → Read A) →
    of_code codes (codes.code t) ≡ Some t → ((at : ℕ) → Again x image (read at t)) →
    Again x (codes.code t ∷ image) (λ r. code_in codes r >>= λ u. read r.passed u.0 u.1)
coded_again codes t x image read coded h = record {
  again = λ after r e.
      then_gives t (image ++ after) (code_in codes r) _ x after (code_again codes t coded (image ++ after) r e)
      ((h r.passed).again after);
}

slot_by : (n : Name) (ns : List Name) (x : Name) (b : Bool) → bytes_eq x n ≡ b → (b || is_among x ns) ≡ true →
    (is_among x ns ≡ true → slice_get ns (slot ns x) ≡ Some x) →
    slice_get (n ∷ ns) (if b then 0 else slot ns x + 1) ≡ Some x
slot_by n ns x true e t rest = ap (λ (y : Name). let o : Option Name = Some y in o) (sym (same_name x n e))
slot_by n ns x false e t rest =
    let next : slot ns x + 1 ≡ suc (slot ns x) = omega arith in ap (λ (k : ℕ). slice_get (n ∷ ns) k) next ∙ rest t

-- the slot of a name has that name
slot_named : (names : List Name) (x : Name) → is_among x names ≡ true → slice_get names (slot names x) ≡ Some x
slot_named [] x t = absurd cc
slot_named (n ∷ ns) x t = slot_by n ns x (bytes_eq x n) refl t (slot_named ns x)

a_slot : (names : List Name) (line : ℕ) (x : Name) → is_among x names ≡ true →
    Again x (slot names x ∷ []) (slot_in line names)
unfolding slot_in
a_slot names line x t = record {
  again = λ after r e.
      then_gives (slot names x) after (byte_in r) _ x after (byte_again (slot names x) after r e) (λ u h.
      subst (λ (o : Option Name). Gives (known_name line u o) x after) (sym (slot_named names x t)) (u, refl, h));
}

-- whether a name is of a sort, by whether it is among the names of each
abbrev is_of : Bool → Bool → Bool → Bool → Sort → Bool
is_of a b c d sort.Scalar = a
is_of a b c d sort.Row = b
is_of a b c d sort.Words = c
is_of a b c d sort.View = d

sorted_is : (a b c d : Bool) (k : Sort) → sorted a b c d ≡ Some k → is_of a b c d k ≡ true
sorted_is true b c d sort.Scalar e = refl
sorted_is false true c d sort.Row e = refl
sorted_is false false true d sort.Words e = refl
sorted_is false false false true sort.View e = refl
sorted_is a b c d k e = absurd cc

-- the names of each sort
module _ (g : Source) (line : ℕ) (x : Name) where
  is_among_its : (k : Sort) → IsRight g (Named k x) →
      is_of (is_among x g.scalars) (is_among x g.rows) (is_among x g.words) (is_among x g.views) k ≡ true
  is_among_its k right = sorted_is _ _ _ _ k right

  pub a_scalar : IsRight g (scalar x) → Again x (slot g.scalars x ∷ []) (slot_in line g.scalars)
  a_scalar right = a_slot g.scalars line x (is_among_its sort.Scalar right)

  pub a_row : IsRight g (row x) → Again x (slot g.rows x ∷ []) (slot_in line g.rows)
  a_row right = a_slot g.rows line x (is_among_its sort.Row right)

  pub some_words : IsRight g (words x) → Again x (slot g.words x ∷ []) (slot_in line g.words)
  some_words right = a_slot g.words line x (is_among_its sort.Words right)

  pub a_view : IsRight g (view x) → Again x (slot g.views x ∷ []) (slot_in line g.views)
  a_view right = a_slot g.views line x (is_among_its sort.View right)

-- what each line of a listing speaks of
abbrev pub Right : Source → List Use → Type 0
Right s us = AllByRecursion (IsRight s) us

abbrev Done : Type 0
Done = Result (Unit {0}) ListingRefusal

done_if : (b : Bool) (e : ListingRefusal) → b ≡ true → (let d : Done = if b then Ok tt else Err e in d) ≡ Ok tt
done_if true e h = refl
done_if false e h = absurd cc

named_checked : (line : ℕ) (wanted : Sort) → use_of_sort line wanted (Some wanted) ≡ Ok tt
named_checked line sort.Scalar = refl
named_checked line _ = refl

use_checked : (s : Source) (line : ℕ) (u : Use) → IsRight s u → checked_use s line u ≡ Ok tt
use_checked s line (Named wanted x) h =
    ap (λ (o : Option Sort). use_of_sort line wanted o) h ∙ named_checked line wanted
use_checked s line u h = done_if (kind_has s.kind u) _ h

uses_checked : (s : Source) (line : ℕ) (us : List Use) → Right s us → checked_uses s line us ≡ Ok tt
uses_checked s line [] h = refl
uses_checked s line (u ∷ us) h =
    ap (λ (d : Done). d >>= λ done. checked_uses s line us) (use_checked s line u h.0) ∙ uses_checked s line us h.1

allowed_again : (s : Source) (line : ℕ) (us : List Use) → Right s us → allowed s line us ≡ Ok tt
allowed_again s line us h =
    ap (λ (d : Done). let c : Result (Unit {0}) ImageRefusal = refused_as Invalid d in c) (uses_checked s line us h)

-- a part in front of which it is tested what it speaks of
pub allowed_then : {A : Type 0} {x : A} {image : List ℕ} {f : Rest → Read A} (s : Source) (line : ℕ) (us : List Use) →
    Right s us → Again x image f → Again x image (λ r. allowed s line us >>= λ done. f r)
allowed_then s line us right h = test_then (allowed s line us) (allowed_again s line us right) h
