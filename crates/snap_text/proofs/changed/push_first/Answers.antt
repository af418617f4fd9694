-- `push_first` of snap_text (src/changed.rt): the proof of what its contract says.
use Rattle.std.proofs.Common.{◌≡◌, ℕ, List, [], ◌∷◌, length, refl, sym, ap, ◌∙◌, arith}
use Rattle.std.proofs.lemmas.Bool.Decides.{Decides-eqb}
use Rattle.std.specs.Prelude.{codes, true, ◌==◌}
use Rattle.snap_semantics.specs.Token.{lines_of}
use Rattle.snap_text.specs.Changes.{line_with, replaced_text, text_between}
use Rattle.snap_text.proofs.Printing.{one_added, one_removed, one_replaced, then_added}
use Rattle.snap_text.proofs.changed.push_first.Goals as goal

-- no bytes, and so no lines
no_lines : (text : List ℕ) → true ≡ (length text == 0) → lines_of text ≡ []
no_lines [] e = refl
no_lines (b ∷ bytes) e =
    let h : length (b ∷ bytes) ≡ 0 = (Decides-eqb (length (b ∷ bytes)) 0).0 (sym e) in
    absurd (omega (arith, h))

pub returns-then-is_empty-clause-text : goal.returns-then-is_empty-clause-text
returns-then-is_empty-clause-text c = λ well.
    let added = c.push_line.ensures well in
    let line = c.split_line.result.0.now in
    let rest = lines_of c.split_line.result.1.now in
    let none : lines_of c.args.before.now ≡ [] = no_lines c.args.before.now c.if-is_empty.ensures in (
      added.0,
      then_added c.args.out.now.text c.push_line.new.out.text (text_between (lines_of c.args.before.now) rest) _
          (line_with (codes "+ ") line) (text_between [] rest)
          added.1
          (ap (λ xs. text_between xs (lines_of c.args.after.now)) none
          ∙ ap (λ ys. text_between [] ys) c.split_line.ensures.lines ∙ one_added rest line)
          (ap (λ xs. text_between xs rest) none),
    )

pub returns-then-is_empty-2-clause-text : goal.returns-then-is_empty-2-clause-text
returns-then-is_empty-2-clause-text c = λ well.
    let added = c.push_line-then-is_empty-2.ensures well in
    let line = c.split_line-then-is_empty-2.result.0.now in
    let rest = lines_of c.split_line-then-is_empty-2.result.1.now in
    let none : lines_of c.args.after.now ≡ [] = no_lines c.args.after.now c.if-is_empty-2.ensures in (
      added.0,
      then_added c.args.out.now.text c.push_line-then-is_empty-2.new.out.text
          (text_between rest (lines_of c.args.after.now)) _ (line_with (codes "- ") line) (text_between rest [])
          added.1
          (ap (λ ys. text_between (lines_of c.args.before.now) ys) none
          ∙ ap (λ xs. text_between xs []) c.split_line-then-is_empty-2.ensures.lines ∙ one_removed rest line)
          (ap (λ ys. text_between rest ys) none),
    )

pub returns-clause-text : goal.returns-clause-text
returns-clause-text c = λ well.
    let added = c.push_replaced.ensures well in
    let old = c.split_line-2.result in
    let new = c.split_line-3.result in (
      added.0,
      then_added c.args.out.now.text c.push_replaced.new.out.text
          (text_between (lines_of old.1.now) (lines_of new.1.now)) _ (replaced_text old.0.now new.0.now) _
          added.1
          (ap (λ xs. text_between xs (lines_of c.args.after.now)) c.split_line-2.ensures.lines
          ∙ ap (λ ys. text_between (old.0.now ∷ lines_of old.1.now) ys) c.split_line-3.ensures.lines
          ∙ one_replaced (lines_of old.1.now) (lines_of new.1.now) old.0.now new.0.now)
          refl,
    )
