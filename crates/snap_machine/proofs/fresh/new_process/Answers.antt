-- `new_process` of snap_machine (src/fresh.rt): the proof of what its contract says.
use Rattle.std.proofs.Common.{List, length, replicate, refl, sym, ap, ◌∙◌}
use Rattle.snap_words.specs.Kind.{initial_word}
use Rattle.snap_words.specs.Shape.{places}
use Rattle.snap_words.specs.declared.kind.KindTag.{KindTag}
use Rattle.snap_semantics.specs.Source.{Name}
use Rattle.snap_machine.proofs.Replicas.{begun}
use Rattle.snap_machine.proofs.fresh.new_process.Goals as goal

pub returns : goal.returns
returns g c =
    let k = c.args.shape in
    begun {K = g.row.K.Denot} g.K.Kind.as_word c.args.listing.now k (record {
      status = _;
      scalars = c.in_ok-zeros.field-0;
      rows = c.in_ok-new_rows.field-0;
      words = c.in_ok-new_word_rows.field-0;
      views = c.in_ok-new_views.field-0;
    }) refl
    (c.in_ok-zeros.ensures ∙ ap (λ (xs : List Name). replicate (length xs) 0) c.scalars.ensures)
    (c.in_ok-new_rows.ensures ∙ ap (λ (xs : List Name). replicate (length xs) (replicate (places k) 0)) c.rows.ensures)
    (c.in_ok-new_word_rows.ensures ∙ ap
    (λ (xs : List Name). replicate (length xs) (replicate (places k) (initial_word g.K.Kind.TAG k))) c.words.ensures
    ∙ ap (λ (t : KindTag). replicate (length c.args.listing.now.words) (replicate (places k) (initial_word t k)))
    (sym c.requires))
    (c.in_ok-new_views.ensures ∙ ap (λ (xs : List Name). replicate (length xs) (replicate k.w 0)) c.views.ensures)
