-- `TrickleByteSource::read` of test_live (src/devices_of_memory.rt): the proof of what its contract says.
use Rattle.std.proofs.Common.{◌≡◌, ℕ, ◌<◌, length, List, [], ◌∷◌, ◌++◌, take, drop}
use Rattle.std.proofs.Common.{slice_index_or, slice_set, refl, arith}
use Rattle.snap_input.proofs.Splits.{some_left}
use Rattle.test_live.proofs.devices_of_memory.TrickleByteSource.read.Goals as goal

one_moved : (rest buffer : List ℕ) → 0 < length rest → 0 < length buffer →
    rest ≡ take 1 (slice_set buffer 0 (slice_index_or (take 1 rest) 0 0)) ++ drop 1 rest
one_moved [] buffer some room = absurd (omega (arith, some))
one_moved (b ∷ rest) [] some room = absurd (omega (arith, room))
one_moved (b ∷ rest) (x ∷ buffer) some room = refl

pub returns-clause-bytes : goal.returns-clause-bytes
returns-clause-bytes c =
    let some = some_left (length c.args.self.now.rest.now) c.is_empty.result c.is_empty.ensures c.if-is_empty.false in
    let room = some_left (length c.args.buffer.now) c.is_empty-else-is_empty.result
    c.is_empty-else-is_empty.ensures c.if-is_empty-2.false in
    let cut = c.split_at.ensures in (
      rw (cut.front, cut.back) (one_moved c.args.self.now.rest.now c.args.buffer.now some room),
      λ none has_room. absurd (omega (arith, none)),
    )
