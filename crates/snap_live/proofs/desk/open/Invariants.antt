-- `open` of snap_live (src/desk.rt): what holds at the head of each of its loops.
use Rattle.std.proofs.Common.{◌≡◌, ◌≤◌, [], vec_len}
use Rattle.std.specs.Prelude.{vec_capacity}
use Rattle.snap_live.specs.declared.seat_state.Setting.{Setting}
use Rattle.snap_live.specs.SeatStates.{opener}
use Rattle.snap_live.specs.Shown.{seats_of}
use Rattle.snap_live.specs.Turns.{setting_of}
use Rattle.snap_live.proofs.desk.open.Given as goal

abbrev pub invariant-loop-i : goal.invariant-loop-i
invariant-loop-i g l =
    let z = l.table.shared.table_id in
    let base : Setting = record { source = l.program; shape = l.fn.shape } in record {
      table : (z.words ≡ 4) × (z.slots ≡ 1) × (setting_of l.table.shared.key.value ≡ base);
      seat : l.opener.table_id ≡ z;
      opener : l.opener.me ≡ (opener base l.i, []);
      room : l.count ≤ vec_capacity l.seats;
      many : vec_len l.seats ≡ l.i;
      seats : l.seats.items ≡ seats_of (record { id = z; base = base }) l.i;
    }
