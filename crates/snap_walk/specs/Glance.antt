-- `Glance`: what is seen of an item before it is done, where some lines are quiet.
use Rattle.snap_semantics.specs.declared.process.Activity.{Activity}

-- The item is a step of a process that is not busy (`Idle`), a step at a quiet line (`Quiet`), a step at another line,
-- at which the process is so (`Line`), or no step (`Other`).
pub data Glance : Type 0 where
  Idle : Glance
  Quiet : Glance
  Line : (activity : Activity) → Glance
  Other : Glance
