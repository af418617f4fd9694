-- Texts of whole lines (`IsWhole`): each has as many lines as line feeds, and two of them joined have the lines of
-- both.
use Rattle.std.proofs.Common.{◌≡◌, ℕ, suc, ◌+◌, ◌<◌, List, [], ◌∷◌, ◌++◌, length, nat_eq, codes}
use Rattle.std.proofs.Common.{if◌then◌else◌, refl, sym, ap, ◌∙◌, append_assoc, arith}
use Rattle.std.proofs.lemmas.List.{length-append}
use Rattle.snap_semantics.specs.Token.{lines_of, onto_line}

-- how many line feeds a text has
abbrev pub feeds : List ℕ → ℕ
feeds [] = 0
feeds (b ∷ bs) = if nat_eq b 10 then suc (feeds bs) else feeds bs

pub feeds_append : (a b : List ℕ) → feeds (a ++ b) ≡ feeds a + feeds b
feeds_append [] b = omega arith
feeds_append (x ∷ a) b = grind (arith, feeds_append a b)

pub feeds_both : (a a' b b' : List ℕ) → feeds a ≡ feeds a' → feeds b ≡ feeds b' → feeds (a ++ b) ≡ feeds (a' ++ b')
feeds_both a a' b b' e f = omega (arith, feeds_append a b, feeds_append a' b', e, f)

-- behind such a text a line begins, and each of its line feeds ends a line
pub record IsWhole (t : List ℕ) : Type 0 where
  pub apart : (rest : List ℕ) → lines_of (t ++ rest) ≡ lines_of t ++ lines_of rest
  pub count : length (lines_of t) ≡ feeds t

pub no_text : IsWhole []
no_text = record { apart = λ rest. refl; count = refl }

pub joined : {a b : List ℕ} → IsWhole a → IsWhole b → IsWhole (a ++ b)
joined {a} {b} h k = record {
  apart = λ rest.
      ap lines_of (append_assoc a b rest) ∙ h.apart (b ++ rest) ∙ ap (λ ls. lines_of a ++ ls) (k.apart rest)
      ∙ sym (append_assoc (lines_of a) (lines_of b) (lines_of rest)) ∙ ap (λ ls. ls ++ lines_of rest) (sym (h.apart b));
  count =
      ap length (h.apart b)
      ∙ omega (arith, length-append (lines_of a) (lines_of b), h.count, k.count, feeds_append a b);
}

-- a text has at least one line
pub record IsSome (t : List ℕ) : Type 0 where
  pub whole : IsWhole t
  pub some : 0 < feeds t

pub new_line : IsSome (codes "\n")
new_line = record { whole = record { apart = λ rest. refl; count = refl }; some = omega arith }

onto_more : (b : ℕ) (xs ys : List (List ℕ)) → 0 < length xs → onto_line b (xs ++ ys) ≡ onto_line b xs ++ ys
onto_more b [] ys h = absurd (omega (arith, h))
onto_more b (x ∷ xs) ys h = refl

onto_length : (b : ℕ) (xs : List (List ℕ)) → 0 < length xs → length (onto_line b xs) ≡ length xs
onto_length b [] h = absurd (omega (arith, h))
onto_length b (x ∷ xs) h = refl

byte_before : (b : ℕ) (t : List ℕ) → IsSome t → IsSome (b ∷ t)
byte_before b t h = record {
  whole = record {
    apart = λ rest. grind (arith, h.whole.apart rest, onto_more b (lines_of t) (lines_of rest));
    count = grind (arith, onto_length b (lines_of t));
  };
  some = grind arith;
}

-- any text before one that has a line feed
pub before : (a t : List ℕ) → IsSome t → IsSome (a ++ t)
before [] t h = h
before (b ∷ a) t h = byte_before b (a ++ t) (before a t h)
