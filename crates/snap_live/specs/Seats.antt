-- What the steps on the desk's table ask of a seat: that it is of this table, and between turns.
use Rattle.std.specs.Prelude.{◌≡◌, [], true}
use Rattle.atomic_table.specs.Seated.{TableId}
use Rattle.snap_live.specs.declared.seat_state.Stage.TheVariants.{Idle}
use Rattle.snap_live.specs.Rule.{Mine}

-- the table has four words and one slot, and the seat is of it
abbrev pub IsSeatOf : TableId → TableId → Type 0
IsSeatOf shared seat = (seat ≡ shared) × (shared.words ≡ 4) × (shared.slots ≡ 1)

abbrev pub IsSame : TableId → TableId → Type 0
IsSame before after = after ≡ before

-- the seat is between turns
abbrev pub IsIdle : Mine → Type 0
IsIdle m = (m.1 ≡ []) × (m.0.stage ≡ Idle) × (m.0.alive ≡ true)
