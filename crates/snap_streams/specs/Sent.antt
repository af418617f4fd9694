-- `Sends`: what a sink has taken of a text that was written to it; `Says`: the same, where nobody asks whether all was
-- taken.
use Rattle.std.specs.Prelude.{◌≡◌, ℕ, ◌<◌, true, List, take, length, Result, Ok, Err, ◌⊎◌}
use Rattle.std.specs.Io.KnownBytes.{Appends}
use Rattle.snap_streams.specs.State.{SinkState}
use Rattle.snap_streams.specs.declared.sending.Unsent.{Unsent}

-- the first `count` bytes of a text were taken, and no more
abbrev pub unsent : ℕ → Unsent
unsent n = record { count = n }

-- Writing sent all of a text; or the first `count` bytes, and then the sink failed or took nothing. The fault
-- says how many.
abbrev pub Sends : {E : Type 0} → (ℕ → E) → Result (Unit {0}) E → List ℕ → (sink sink_after : SinkState) → Type 0
Sends fault (Ok done) text sink sink_after = Appends sink.taken sink_after.taken text
Sends fault (Err e) text sink sink_after =
    (count : ℕ) × (e ≡ fault count) × (count < length text) × Appends sink.taken sink_after.taken (take count text)
    × ((sink_after.failed ≡ true) ⊎ (sink_after.stalled ≡ true))

-- A text was sent to a sink: it has taken all of it, or what came before it failed or took nothing.
abbrev pub Says : List ℕ → (sink sink_after : SinkState) → Type 0
Says text sink sink_after = (done : Result (Unit {0}) Unsent) × Sends unsent done text sink sink_after
