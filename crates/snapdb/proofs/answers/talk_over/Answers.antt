-- `talk_over` of snapdb (src/answers.rt): the proof of what its contract says.
use Rattle.std.proofs.Common.{inl, inr, ap, refl, sym, ◌∙◌}
use Rattle.snapdb.specs.Talk.{Devices, listing_in}
use Rattle.snapdb.proofs.Talked.{talked, unlisted}
use Rattle.snapdb.proofs.answers.talk_over.Goals as goal

pub returns-in-Ok : goal.returns-in-Ok
returns-in-Ok g c =
    let told = c.talk_about.ensures in
    let d : Devices = record {
      shows = c.args.shows;
      left = g.C.Console.left c.args.console.now;
      shown = g.C.Console.shown c.args.console.now;
      shown_after = g.C.Console.shown c.talk_about.new.console;
      kept = g.S.Folder.kept c.args.folder.now;
      kept_after = g.S.Folder.kept c.talk_about.new.folder;
      failed = g.C.Console.failure c.talk_about.new.console;
    } in
    inr (
      c.in-Ok.program,
      c.in-Ok.ensures,
      talked c.in-Ok.program c.args.schedule.now c.talk_about.result d told.shown
          (λ r is.
          let h = told.refused r is in (
            h.0,
            (ap (λ x. g.C.Console.shown x) (sym h.1), ap (λ x. g.S.Folder.kept x) h.2),
            ap (λ x. g.C.Console.failure x) h.1 ∙ c.requires,
          ))
          told.well told.fails told.shown_part,
    )

pub returns-in-Err : goal.returns-in-Err
returns-in-Err g c =
    let d : Devices = record {
      shows = c.args.shows;
      left = g.C.Console.left c.args.console.now;
      shown = g.C.Console.shown c.args.console.now;
      shown_after = g.C.Console.shown c.args.console.now;
      kept = g.S.Folder.kept c.args.folder.now;
      kept_after = g.S.Folder.kept c.args.folder.now;
      failed = g.C.Console.failure c.args.console.now;
    } in
    rw c.from.ensures
    (inl (unlisted c.in-Err.fault (listing_in c.args.listing.now) d (refl, refl) c.in-Err.ensures))
