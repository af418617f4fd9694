-- `handshake_of` of snap_words (src/contents.rt): the proof of what its contract says.
use Rattle.std.proofs.Common.{◌∙◌, ℕ, ap, arith}
use Rattle.std.specs.Prelude.{Option, unwrap_or}
use Rattle.snap_words.proofs.HandshakeLists.{handshake_at_place}
use Rattle.snap_words.proofs.contents.handshake_of.Goals as goal

pub returns-then-place-handshake_count : goal.returns-then-place-handshake_count
returns-then-place-handshake_count g c =
    c.unwrap_or.ensures ∙ ap (λ (o : Option ℕ). unwrap_or o 0) c.handshake.ensures
    ∙ handshake_at_place g.K.Kind.TAG (g.K.Kind.as_word c.args.word.now) c.args.place (λ lack.
    let none = c.handshake_count.ensures.lack lack in omega arith)
