-- `sort_lines` of snap_report (src/process_text.rt): the proof of what its contract says.
use Rattle.std.proofs.Common.{◌++◌, ◌∙◌, ap}
use Rattle.snap_words.specs.declared.kind.KindTag.{KindTag}
use Rattle.snap_semantics.specs.Source.{Source}
use Rattle.snap_semantics.specs.State.{process_at}
use Rattle.snap_machine.specs.SeenContents.{seen_named}
use Rattle.snap_report.specs.ReportLines.{local_lines}
use Rattle.snap_report.proofs.Lines.{local_pushed, no_local_left}
use Rattle.snap_report.proofs.process_text.sort_lines.Goals as goal

pub loop-local-preserved : goal.loop-local-preserved
loop-local-preserved g c = λ well.
    let m = c.args.machine.now in
    let added = c.local_lines.ensures well in
    let held = c.loop-local.invariant added.0 in
    let e = seen_named {K = g.row.K.Denot} g.K.Kind.as_word c.in-Some.local in
    let kind = c.kind-kind.ensures ∙ ap (λ (s : Source). s.kind) c.program.ensures.value in (
      held.0,
      local_pushed m.source.kind c.args.sort
          (process_at m.state c.args.i).locals c.loop-local.k e.0 e.1 c.args.out.now.text
          c.loop-local.out.text c.local_lines.new.out.text c.in-Some.ensures.value
          (added.1 ∙ ap (λ (t : KindTag). c.loop-local.out.text ++ local_lines t e.0 e.1) kind)
          held.1,
    )

pub returns : goal.returns
returns g c = λ well.
    let m = c.args.machine.now in
    let held = c.loop-local.invariant well in (
      held.0,
      no_local_left m.source.kind c.args.sort (process_at m.state c.args.i).locals c.loop-local.k c.args.out.now.text
          c.loop-local.out.text c.in_default.ensures.value held.1,
    )
