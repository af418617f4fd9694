-- The name of a local as the list of its letters; the code keeps it in nine places, the rest of them 0.
use Rattle.std.specs.Prelude.{◌≡◌, ℕ, ◌≤◌, ◌-◌, List, ◌++◌, take, drop, length, replicate}
use Rattle.std.proofs.Common.{sym, ◌∙◌, ap, arith}
use Rattle.std.proofs.lemmas.List.{take-append-drop, length-take-le}
use Rattle.snap_semantics.specs.declared.name.Name.TheInside.{Inside}

abbrev pub letters_of : Inside → List ℕ
letters_of a = take a.len a.letters

-- the rest of the nine places is 0
pub record IsPadded (a : Inside) : Type 0 where
  pub short : a.len ≤ 9
  pub full : length a.letters ≡ 9
  pub rest : drop a.len a.letters ≡ replicate (9 - a.len) 0

abbrev pub padded : List ℕ → Inside
padded xs = record { letters = xs ++ replicate (9 - length xs) 0; len = length xs }

pub padded_again : (a : Inside) → IsPadded a → padded (letters_of a) ≡ a
padded_again a h =
    let len_is : length (take a.len a.letters) ≡ a.len = length-take-le a.len a.letters (omega arith) in
    let letters_are : take a.len a.letters ++ replicate (9 - length (take a.len a.letters)) 0 ≡ a.letters =
    ap (λ (k : ℕ). take a.len a.letters ++ replicate (9 - k) 0) len_is
    ∙ ap (λ r. take a.len a.letters ++ r) (sym h.rest) ∙ take-append-drop a.len a.letters in
    λ i. record { letters = letters_are i; len = len_is i }
