-- `Registers::word` keeps its promise: the word that is read has the sizes of the shape.
use Rattle.std.proofs.Common.{◌≡◌, ◌<◌, ap, arith, length, true}
use Rattle.std.proofs.lemmas.List.{length-map}
use Rattle.snap_words.specs.Kind.{is_sized}
use Rattle.snap_words.specs.Word.{Word}
use Rattle.snap_regs.specs.Store.{Store}
use Rattle.snap_regs.proofs.Words.{word_at}
use Rattle.snap_regs.proofs.registers.Registers.word.Goals as goal

pub returns-clause-sized : goal.returns-clause-sized
returns-clause-sized g c =
    let within : c.in_ok-place.place < length c.self.inside.words.items = omega (
      arith,
      length-map c.self.inside.words.items g.K.Kind.as_word,
      c.self.invariant.word_count,
      c.in_ok-place.ensures.place.2,
    ) in
    rw (← ap (λ (r : Store). r.shape) c.self.view_is)
    (word_at g.K.Kind.as_word
    (λ (x : Word). is_sized g.K.Kind.TAG c.self.inside.shape x ≡ true) c.self.inside.words.items c.in_ok-place.place
    c.index.result.now c.self.invariant.words_sized within c.index.ensures)
