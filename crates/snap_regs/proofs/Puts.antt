-- A word written to a register that exists: `with_word` is `with_contents` at the register's address.
use Rattle.std.proofs.Common.{◌≡◌, ◌∙◌, ℕ, ◌-◌, Bool, true, false, List, nat_lt, nat_le, if◌then◌else◌, refl, ap}
use Rattle.std.proofs.lemmas.Bool.{and_parts}
use Rattle.std.specs.Prelude.{slice_set}
use Rattle.snap_words.specs.Shape.{Counts, is_place}
use Rattle.snap_words.specs.Word.{Word}
use Rattle.snap_words.specs.declared.address.Bank.TheVariants as bank
use Rattle.snap_semantics.specs.WithContents.{with_nth, with_contents}
use Rattle.snap_semantics.specs.Readers.{WordContents}
use Rattle.snap_semantics.specs.State.{with_memory_words}
use Rattle.snap_regs.specs.Store.{Store, with_word}

nth_by : {A : Type 0} (v : Bool) (k : ℕ) (x : A) (xs : List A) → v ≡ true →
    slice_set xs (k - 1) x ≡ (if v then slice_set xs (k - 1) x else xs)
nth_by true k x xs e = refl
nth_by false k x xs e = absurd cc

-- a place that is there counts from 1
set_nth : {A : Type 0} (count k : ℕ) (x : A) (xs : List A) → is_place count k ≡ true →
    slice_set xs (k - 1) x ≡ with_nth k x xs
set_nth count k x xs there = nth_by (nat_lt 0 k) k x xs (and_parts (nat_lt 0 k) (nat_le k count) there).0

pub word_put : (s : Counts) (k : ℕ) (x : Word) (old new : Store) → is_place s.w k ≡ true → new ≡ with_word k x old →
    new.memory ≡ with_contents old.memory bank.R k 0 (WordContents x)
word_put s k x old new there is =
    ap (λ (r : Store). r.memory) is
    ∙ ap (λ (xs : List Word). with_memory_words xs old.memory) (set_nth s.w k x old.memory.words there)
