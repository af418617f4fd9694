-- `certification_text` of snap_certify (src/text.rt): the proof of what its contract says.
use Rattle.std.proofs.Common.{refl}
use Rattle.snap_certify.proofs.Judging.{when_certified, when_missing}
use Rattle.snap_certify.proofs.text.certification_text.Goals as goal

pub returns-in-Certified : goal.returns-in-Certified
returns-in-Certified g c =
    when_certified c.args.history.now c.in_ok-certification.certification _ c.in_ok-text.text.items c.in-Certified.is
    c.in_ok-certification.ensures.exact c.in_ok-text.ensures

pub returns : goal.returns
returns g c =
    when_missing c.args.history.now c.args.history.now c.in_ok-certification.certification _ c.in_ok-text.text.items
    c.with_verdict.result refl c.in-Missing.is c.in_ok-certification.ensures.exact c.in_ok-text.ensures
    c.with_verdict.ensures
