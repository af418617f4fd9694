-- `Machine::values` of snap_machine (src/machine.rt): the proof of what its contract says.
use Rattle.std.proofs.Common.{◌≡◌, ℕ, ◌+◌, ◌-◌, List, length, get_or, arith, sym, ap, ◌∙◌}
use Rattle.snap_words.specs.Shape.{Counts}
use Rattle.snap_words.specs.Word.{Word, no_word}
use Rattle.snap_machine.specs.Configuration.{Configuration}
use Rattle.snap_machine.proofs.Passed.{one_passed, all_passed}
use Rattle.snap_machine.proofs.machine.Machine.values.Goals as goal

pub loop-k-preserved : goal.loop-k-preserved
loop-k-preserved g c =
    let words = c.args.self.now.state.memory.words in
    let k = c.loop-k.k in
    let words_are : c.self.inside.registers.memory.words ≡ words =
    ap (λ (m : Configuration). m.state.memory.words) c.self.view_is in
    let count : length words ≡ c.shape.result.w =
    sym (ap (λ (ws : List Word). length ws) words_are) ∙ c.shape.ensures.of_shape.word_count
    ∙ ap (λ (s : Counts). s.w) (sym c.shape.ensures.value) in
    let place : k + 1 - 1 ≡ k = omega arith in
    one_passed (λ (x : Word). x.datum) c.push.new.self.items c.loop-k.values.items words c.field_of.result k no_word
    c.in_ok-push.ensures.items (omega (arith, count)) c.loop-k.invariant
    (c.field_of.ensures ∙ ap (λ (x : Word). x.datum) (c.in-Ok.ensures.place.1
    ∙ ap (λ (ws : List Word). get_or ws (k + 1 - 1) no_word) words_are
    ∙ ap (λ (n : ℕ). get_or words n no_word) place))

pub returns : goal.returns
returns g c =
    let words = c.args.self.now.state.memory.words in
    let words_are : c.self.inside.registers.memory.words ≡ words =
    ap (λ (m : Configuration). m.state.memory.words) c.self.view_is in
    let count : length words ≡ c.shape.result.w =
    sym (ap (λ (ws : List Word). length ws) words_are) ∙ c.shape.ensures.of_shape.word_count
    ∙ ap (λ (s : Counts). s.w) (sym c.shape.ensures.value) in
    c.of.ensures ∙ all_passed (λ (x : Word). x.datum) c.loop-k.values.items words c.loop-k.k
    (omega (arith, count)) c.loop-k.invariant
