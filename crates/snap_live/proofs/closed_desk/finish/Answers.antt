-- `finish` of snap_live (src/closed_desk.rt): the proof of what its contract says.
use Rattle.std.proofs.Common.{subst, sym, refl, ap, ◌∙◌, Option, Some}
use Rattle.std.specs.Prelude.{IsSome}
use Rattle.snap_runs.specs.Run.{Run}
use Rattle.snap_live.proofs.Ends.{settles, kept_is}
use Rattle.snap_live.proofs.closed_desk.finish.Goals as goal

pub unwrap-kept-requires : goal.unwrap-kept-requires
unwrap-kept-requires g c =
    let st =
    settles _ c.args.table_seat.id c.args.table_seat.me.0 _ _ _ c.requires.table_seat.0.1 c.requires.table_seat.1
    c.close_with-closed.ensures.values.2 c.take.ensures.value in
    subst (λ (o : Option Run). IsSome o) (sym st.1) refl

pub returns : goal.returns
returns g c =
    let kept =
    kept_is _ c.args.table_seat.id c.args.table_seat.me.0 _ _ _ c.into_record.result c.requires.table_seat.0.1
    c.requires.table_seat.1 c.close_with-closed.ensures.values.2 c.take.ensures.value
    (c.unwrap-kept.ensures ∙ ap (λ (r : Run). Some r) (sym c.into_record.ensures)) in
    record { base = kept.0; seen = kept.1; turns = kept.2 }
