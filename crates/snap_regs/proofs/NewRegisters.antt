-- New registers, their words unwritten and their bits and views zeros, have the sizes of their shape (`IsOfShape`).
use Rattle.std.proofs.Common.{◌≡◌, ◌∙◌, ℕ, List, true, length, replicate, ap, sym, subst}
use Rattle.std.proofs.lemmas.List.{length-replicate}
use Rattle.std.proofs.lemmas.List.Elements.{All-replicate}
use Rattle.std.specs.List.{All}
use Rattle.snap_words.proofs.Words.{is_sized-initial_word}
use Rattle.snap_words.specs.Kind.{initial_word, is_sized}
use Rattle.snap_words.specs.Shape.{Counts}
use Rattle.snap_words.specs.Word.{Word}
use Rattle.snap_words.specs.declared.address.Bank.TheVariants as bank
use Rattle.snap_words.specs.declared.kind.KindTag.{KindTag}
use Rattle.snap_semantics.specs.State.{Memory}
use Rattle.snap_regs.specs.Store.{HasColumns, IsOfShape, rows_in}

row_count : (rows columns : ℕ) (xs : List (List ℕ)) → xs ≡ replicate rows (replicate columns 0) → length xs ≡ rows
row_count rows columns xs e =
    ap (λ (ys : List (List ℕ)). length ys) e ∙ length-replicate {A = List ℕ} rows (replicate columns 0)

row_columns : (rows columns : ℕ) (xs : List (List ℕ)) →
    xs ≡ replicate rows (replicate columns 0) → HasColumns columns xs
row_columns rows columns xs e =
    subst (HasColumns columns) (sym e) (All-replicate (λ (row : List ℕ). length row ≡ columns) rows
    (replicate columns 0) (length-replicate {A = ℕ} columns 0))

pub IsOfShape-new : (k : KindTag) (s : Counts) (m : Memory) → m.words ≡ replicate s.w (initial_word k s) →
    m.q ≡ replicate (rows_in k s bank.Q) (replicate s.n 0) → m.p ≡ replicate (rows_in k s bank.P) (replicate s.n 0) →
    m.views ≡ replicate (rows_in k s bank.V) (replicate s.w 0) → IsOfShape k s m
IsOfShape-new k s m words q p views = record {
  word_count = ap (λ (xs : List Word). length xs) words ∙ length-replicate {A = Word} s.w (initial_word k s);
  words_sized =
      subst (All (λ (x : Word). is_sized k s x ≡ true)) (sym words)
      (All-replicate (λ (x : Word). is_sized k s x ≡ true) s.w (initial_word k s) (is_sized-initial_word k s));
  q_rows = row_count (rows_in k s bank.Q) s.n m.q q;
  q_columns = row_columns (rows_in k s bank.Q) s.n m.q q;
  p_rows = row_count (rows_in k s bank.P) s.n m.p p;
  p_columns = row_columns (rows_in k s bank.P) s.n m.p p;
  view_count = row_count (rows_in k s bank.V) s.w m.views views;
  view_places = row_columns (rows_in k s bank.V) s.w m.views views;
}
