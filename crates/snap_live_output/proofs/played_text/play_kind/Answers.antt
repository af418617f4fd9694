-- `play_kind` of snap_live_output (src/played_text.rt): the proof of what its contract says.
use Rattle.std.proofs.Common.{◌∙◌, ap}
use Rattle.snap_live_output.specs.Uncalled.{uncalled_calls, uncalled_text}
use Rattle.snap_live_output.proofs.Lives.{live_output}
use Rattle.snap_live_output.proofs.played_text.play_kind.Goals as goal

pub returns-clause-text : goal.returns-clause-text
returns-clause-text g c =
    live_output (g.G.Gate.may_answer c.args.gate.now) c.args.setup.now c.args.limit c.program.result.now
    c.scripts.result.now c.in_ok-live.live.kept c.in_ok-live.live.turns.items c.in_ok-text.text.items
    c.in_ok-uncalled.uncalled.items c.program.ensures c.scripts.ensures.scripts c.scripts.ensures.there
    c.in_ok-live.ensures.ok c.items-items.ensures.fits c.items-items.ensures.few c.in_ok-text.ensures
    (c.in_ok-uncalled.ensures
    ∙ ap (λ xs. uncalled_text (uncalled_calls c.args.setup.now xs)) c.items-items.ensures.items)
