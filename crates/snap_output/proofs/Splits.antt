-- Texts that have those of the elements of a list in order of their numbers (`IsInOrder`).
use Rattle.std.proofs.Common.{◌≡◌, ℕ, ◌+◌, List, [], ◌∷◌, ◌++◌, refl, sym, subst}
use Rattle.std.specs.List.{AllByRecursion}
use Rattle.snap_words.specs.declared.kind.KindTag.{KindTag}
use Rattle.snap_semantics.specs.Report.{bank_lines, bit_line, event_line, event_lines, locals_lines, process_lines}
use Rattle.snap_semantics.specs.Report.{processes_lines, row_lines, view_line, view_lines, word_line, word_lines}
use Rattle.snap_semantics.specs.Report.{word_local, words_local}
use Rattle.snap_semantics.specs.Source.{Name}

-- texts of a sort, of which two can be joined
pub record AreJoined (P : List ℕ → Type 0) : Type 0 where
  pub none : P []
  pub join : {a b : List ℕ} → P a → P b → P (a ++ b)

-- F n, the text of a list, has the texts f of its elements, the first of which has number n
pub record IsInOrder {A : Type 0} (f : ℕ → A → List ℕ) (F : ℕ → List A → List ℕ) : Type 0 where
  pub none : (n : ℕ) → F n [] ≡ []
  pub more : (n : ℕ) (x : A) (xs : List A) → F n (x ∷ xs) ≡ f n x ++ F (n + 1) xs

-- the lists of a report
pub words_order : (g : KindTag) → IsInOrder (word_line g) (word_lines g)
words_order g = record { none = λ n. refl; more = λ n x xs. refl }

pub views_order : IsInOrder view_line view_lines
views_order = record { none = λ n. refl; more = λ n x xs. refl }

pub row_order : (bank : List ℕ) (i : ℕ) → IsInOrder (bit_line bank i) (row_lines bank i)
row_order bank i = record { none = λ n. refl; more = λ n x xs. refl }

pub bank_order : (bank : List ℕ) → IsInOrder (λ i row. row_lines bank i 1 row) (bank_lines bank)
bank_order bank = record { none = λ n. refl; more = λ n x xs. refl }

pub processes_order : (g : KindTag) → IsInOrder (process_lines g) (processes_lines g)
processes_order g = record { none = λ n. refl; more = λ n x xs. refl }

pub events_order : IsInOrder (λ n e. event_line e) (λ n es. event_lines es)
events_order = record { none = λ n. refl; more = λ n x xs. refl }

pub places_order : (g : KindTag) (x : Name) → IsInOrder (word_local g x) (words_local g x)
places_order g x = record { none = λ n. refl; more = λ n v vs. refl }

pub entries_order : {A : Type 0} (f : Name → A → List ℕ) →
    IsInOrder (λ n (e : Name × A). f e.0 e.1) (λ n es. locals_lines f es)
entries_order f = record { none = λ n. refl; more = λ n x xs. refl }

-- each element will do
pub any : {A : Type 0} (xs : List A) → AllByRecursion (λ x. Unit {0}) xs
any [] = tt
any (x ∷ xs) = (tt, any xs)

module _ {A : Type 0} {P : List ℕ → Type 0} (joins : AreJoined P) {f : ℕ → A → List ℕ} {F : ℕ → List A → List ℕ}
    (order : IsInOrder f F) (Good : A → Type 0) (each : (n : ℕ) (x : A) → Good x → P (f n x)) where
  pub all_are : (n : ℕ) (xs : List A) → AllByRecursion Good xs → P (F n xs)
  all_are n [] h = subst P (sym (order.none n)) joins.none
  all_are n (x ∷ xs) h =
      subst P (sym (order.more n x xs)) (joins.join (each n x h.0) (all_are (n + 1) xs h.1))

-- where each element will do
pub each_is : {A : Type 0} {P : List ℕ → Type 0} → AreJoined P → {f : ℕ → A → List ℕ} {F : ℕ → List A → List ℕ} →
    IsInOrder f F → ((n : ℕ) (x : A) → P (f n x)) → (n : ℕ) (xs : List A) → P (F n xs)
each_is joins order each n xs = all_are joins order (λ x. Unit {0}) (λ k x good. each k x) n xs (any xs)
