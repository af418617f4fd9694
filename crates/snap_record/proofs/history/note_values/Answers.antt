-- `note_values` of snap_record (src/history.rt): the proof of what its contract says.
use Rattle.std.proofs.Common.{◌≡◌, length, refl, sym, ap, ◌∙◌, arith}
use Rattle.std.proofs.lemmas.List.{length-map}
use Rattle.snap_words.specs.Shape.{Counts}
use Rattle.snap_words.specs.Word.{Word}
use Rattle.snap_semantics.specs.State.{values}
use Rattle.snap_record.proofs.Values.{one_noted, all_noted, noted_length}
use Rattle.snap_record.proofs.history.note_values.Goals as goal

pub loop-k-init : goal.loop-k-init
loop-k-init g c =
    let count = c.w-count.ensures ∙ ap (λ (s : Counts). s.w) c.shape.ensures.shape in
    let room = c.requires.room in (
      omega arith,
      omega (arith, count, room),
      λ len. record { now_is = refl; changes_are = refl },
    )

pub note_value-requires-clause-place : goal.note_value-requires-clause-place
note_value-requires-clause-place g c =
    let new = values c.args.machine.now.state in
    let count = c.w-count.ensures ∙ ap (λ (s : Counts). s.w) c.shape.ensures.shape in
    let size : length new ≡ c.args.machine.now.shape.w =
    length-map c.args.machine.now.state.memory.words (λ (x : Word). x.datum) ∙ c.shape.ensures.registers.word_count in
    let len : length c.args.now.now ≡ length new = c.requires.count ∙ sym size in
    let h = c.loop-k.invariant in
    let same =
    noted_length c.args.item c.args.now.now new len c.loop-k.k c.loop-k.now c.loop-k.changes.items
    c.args.changes.now.items (let le = h.0 in omega (arith, size, le, count)) (h.2 len) in
    let lt = c.loop-k-test.true in
    omega (arith, lt, same, len, size, count)

pub loop-k-preserved : goal.loop-k-preserved
loop-k-preserved g c =
    let new = values c.args.machine.now.state in
    let count = c.w-count.ensures ∙ ap (λ (s : Counts). s.w) c.shape.ensures.shape in
    let size : length new ≡ c.args.machine.now.shape.w =
    length-map c.args.machine.now.state.memory.words (λ (x : Word). x.datum) ∙ c.shape.ensures.registers.word_count in
    let h = c.loop-k.invariant in
    let lt = c.loop-k-test.true in
    let room = h.1 in
    let grew = c.note_value.ensures.room.0 in
    let same = c.note_value.ensures.room.1 in (
      omega (arith, lt),
      omega (arith, lt, room, grew, same),
      λ len.
          one_noted c.args.item c.args.now.now new len c.loop-k.k c.value_of.result c.loop-k.now c.note_value.new.now
          c.loop-k.changes.items c.note_value.new.changes.items c.args.changes.now.items
          (omega (arith, lt, len, size, count)) c.value_of.ensures c.note_value.ensures.now
          c.note_value.ensures.changes (h.2 len),
    )

pub returns : goal.returns
returns g c =
    let new = values c.args.machine.now.state in
    let count = c.w-count.ensures ∙ ap (λ (s : Counts). s.w) c.shape.ensures.shape in
    let size : length new ≡ c.args.machine.now.shape.w =
    length-map c.args.machine.now.state.memory.words (λ (x : Word). x.datum) ∙ c.shape.ensures.registers.word_count in
    let len : length c.args.now.now ≡ length new = c.requires.count ∙ sym size in
    let h = c.loop-k.invariant in
    let past = c.loop-k-test.false in
    let all =
    all_noted c.args.item c.args.now.now new len c.loop-k.k c.loop-k.now c.loop-k.changes.items c.args.changes.now.items
    (omega (arith, past, size, count)) (h.2 len) in
    record { now = all.0; changes = all.1; count = ap length all.0 ∙ size }
