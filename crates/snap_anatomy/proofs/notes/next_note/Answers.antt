-- `next_note` of snap_anatomy (src/notes.rt): the proof of what its contract says.
use Rattle.std.proofs.Common.{◌≡◌, ◌<◌, length, ap, ◌∙◌, arith, refl}
use Rattle.std.proofs.lemmas.List.{get_or_read}
use Rattle.snap_semantics.specs.Table.{who}
use Rattle.snap_walk.specs.Walk.{Way}
use Rattle.snap_runs.specs.Run.{state}
use Rattle.snap_acts.specs.Trace.{trace_of}
use Rattle.snap_acts.specs.Searches.{no_step}
use Rattle.snap_anatomy.proofs.Noted.{as_many}
use Rattle.snap_anatomy.proofs.notes.next_note.Goals as goal

pub bounds-steps-place : goal.bounds-steps-place
bounds-steps-place g c =
    let w = c.args.walk.now in
    let is = rw c.in-Some.is at c.in_ok-passed.ensures.passed in
    let same : length c.args.steps.now ≡ length (trace_of w.run) = ap length c.requires in
    omega (arith, as_many w.run, same, is.left, c.done-place.ensures.done)

pub returns : goal.returns
returns g c =
    let w = c.args.walk.now in
    let ss = c.args.steps.now in
    let is = rw c.in-Some.is at c.in_ok-passed.ensures.passed in
    let same : length ss ≡ length (trace_of w.run) = ap length c.requires in
    let inside : c.done-place.result < length ss =
    omega (arith, as_many w.run, same, is.left, c.done-place.ensures.done) in
    let m = c.machine.ensures in
    let source = m.source ∙ ap (λ (v : Way). v.run.source) is.way in
    let shape = m.shape ∙ ap (λ (v : Way). v.run.shape) is.way in
    let after = m.state ∙ ap (λ (v : Way). state v.run v.at) is.way in
    let i = c.who-process.ensures ∙ ap who is.item in
    let step = get_or_read ss c.done-place.result c.index-steps-place.result inside c.index-steps-place.is no_step in
    record {
      left = is.left;
      note = rw (c.in_ok-note.ensures, source, shape, after, i, step, c.done-place.ensures.done) refl;
      way = is.way;
    }
