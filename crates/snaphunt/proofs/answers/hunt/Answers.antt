-- `hunt` of snaphunt (src/answers.rt): the proof of what its contract says.
use Rattle.std.proofs.Common.{Err, []}
use Rattle.snaphunt.specs.Search.{view_listed}
use Rattle.snaphunt.proofs.Searches.{no_text}
use Rattle.snaphunt.proofs.answers.hunt.Goals as goal

pub returns-in-Err : goal.returns-in-Err
returns-in-Err g c =
    let files = g.F.FileSource.found c.args.resources.now.files.now in
    let asked = c.args.asked.now.request in (
      Err c.in-Err.fault,
      [],
      c.finish-in-Err.ensures.status,
      no_text files (view_listed asked.listed) asked.asked c.in-Err.fault []
          (g.S.ByteSink.state c.args.sink.now) c.in-Err.ensures,
      c.finish-in-Err.ensures.says,
    )
