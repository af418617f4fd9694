-- `first_missing` of snap_live (src/closed_desk.rt): the proof of what its contract says.
use Rattle.std.proofs.Common.{ℕ, arith}
use Rattle.snap_live.specs.Closed.{HasSeat}
use Rattle.snap_live.proofs.Gathered.{up_to}
use Rattle.snap_live.proofs.closed_desk.first_missing.Goals as goal

pub returns-then-not-has_seat : goal.returns-then-not-has_seat
returns-then-not-has_seat g c = record {
  one = (omega arith, omega arith);
  missing = c.if-not-has_seat.ensures;
  least = λ q a b. c.loop-process.invariant q a (omega arith);
}

pub loop-process-preserved : goal.loop-process-preserved
loop-process-preserved g c =
    up_to c.loop-process.process
    (λ (p : ℕ). HasSeat p c.args.seats.now) c.loop-process.invariant c.if-not-has_seat.ensures

pub returns : goal.returns
returns g c = λ p one. c.loop-process.invariant p one.0 (omega (arith, one.1))
