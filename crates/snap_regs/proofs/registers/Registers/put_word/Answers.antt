-- `Registers::put_word` keeps its promises: the word is at its place, the rest is as it was, and the sizes are those
-- of the shape.
use Rattle.std.proofs.Common.{◌≡◌, ◌∙◌, ℕ, ap, map, subst, true}
use Rattle.std.proofs.lemmas.List.{map-set}
use Rattle.snap_words.specs.Kind.{is_sized}
use Rattle.snap_words.specs.Shape.{is_place}
use Rattle.snap_regs.specs.Store.{Store}
use Rattle.snap_regs.proofs.Puts.{word_put}
use Rattle.snap_regs.proofs.Words.{IsOfShape-set_word, with_word-as_word}
use Rattle.snap_regs.proofs.registers.Registers.put_word.Goals as goal

pub invariant_of-self : goal.invariant_of-self
invariant_of-self g c =
    let sized : is_sized g.K.Kind.TAG c.self.inside.shape (g.K.Kind.as_word c.args.word) ≡ true =
    rw (ap (λ (r : Store). r.shape) c.self.view_is) c.requires in
    rw (map-set g.K.Kind.as_word c.self.inside.words.items c.in_ok-place.place c.args.word)
    (IsOfShape-set_word g.K.Kind.TAG c.self.inside.shape (record {
      words = map g.K.Kind.as_word c.self.inside.words.items;
      q = c.self.inside.q;
      p = c.self.inside.p;
      views = c.self.inside.views.items;
    }) c.in_ok-place.place (g.K.Kind.as_word c.args.word) c.self.invariant sized)

pub returns-clause-put : goal.returns-clause-put
returns-clause-put g c =
    let count = c.w.ensures ∙ ap (λ (r : Store). r.shape.w) c.self.view_is in (
      subst (λ (n : ℕ). is_place n c.args.k ≡ true) count c.in_ok-place.ensures.place.0,
      c.in_ok-check_owner.ensures,
      with_word-as_word g.K.Kind.as_word c.self.inside.words.items c.self.inside.shape c.self.inside.q c.self.inside.p
          c.self.inside.views.items c.in_ok-place.place c.args.k c.args.word c.args.self.now c.self.view_is
          c.in_ok-place.ensures.place.1,
    )

pub returns-clause-place : goal.returns-clause-place
returns-clause-place g c =
    let put = returns-clause-put g c in
    word_put c.args.self.now.shape c.args.k (g.K.Kind.as_word c.args.word) c.args.self.now _ put.0 put.2
