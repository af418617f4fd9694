-- `results_of` of snap_live (src/live_run.rt): what holds at the head of each of its loops.
use Rattle.std.proofs.Common.{◌≡◌, ◌+◌, ◌≤◌, map}
use Rattle.std.specs.Prelude.{vec_capacity, vec_len}
use Rattle.std.specs.Vec.Iter.{into_iter_len}
use Rattle.snap_live.specs.LiveRun.{first_stop}
use Rattle.snap_live.proofs.live_run.results_of.Given as goal

abbrev pub invariant-loop-one : goal.invariant-loop-one
invariant-loop-one g l = record {
  seats : l.seats.items ≡ map (λ w. w.seat) l.yielded;
  turns : l.turns.items ≡ map (λ w. w.turns) l.yielded;
  first : l.first ≡ first_stop l.yielded;
  room : (vec_len l.seats + into_iter_len l.one-iterator ≤ vec_capacity l.seats)
      × (vec_len l.turns + into_iter_len l.one-iterator ≤ vec_capacity l.turns);
}
