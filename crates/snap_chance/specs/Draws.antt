-- `draws`: the random numbers for one turn of a schedule, one for each choice, and the stream that is left.
use Rattle.rand_core.specs.Stream.{Stream, next_u64}
use Rattle.snap_chance.specs.declared.draws.Draws.{Draws}

-- a number for each choice, and the stream that is left
abbrev pub draws : Stream → Draws × Stream
draws s =
    let process = next_u64 s in
    let crash = next_u64 process.1 in
    let call = next_u64 crash.1 in
    let scan = next_u64 call.1 in
    let word = next_u64 scan.1 in
    let value = next_u64 word.1 in
    let scale = next_u64 value.1 in
    let length = next_u64 scale.1 in (
      record {
        process = process.0;
        crash = crash.0;
        call = call.0;
        scan = scan.0;
        word = word.0;
        value = value.0;
        scale = scale.0;
        length = length.0;
      },
      length.1,
    )
