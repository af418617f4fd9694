-- `number_of` of snap_options (src/options.rt): the proof of what its contract says.
use Rattle.std.proofs.Common.{ℕ, List, Result}
use Rattle.std.specs.Str.Parse.{ExplainsUnsignedError, HasUnsignedDigitsIfOk, ParsesUnsigned}
use Rattle.std.specs.declared.num.ParseIntError.{ParseIntError}
use Rattle.snap_options.proofs.Read.{number_read}
use Rattle.snap_options.proofs.options.number_of.Goals as goal

pub returns : goal.returns
returns c =
    let gives : List ℕ → Result ℕ ParseIntError → Type 0 =
    λ t x. ParsesUnsigned 64 10 t x × ExplainsUnsignedError 10 t x × HasUnsignedDigitsIfOk t x in
    number_read gives (λ t x h. h.0) _ _ c.get_one.ensures.none c.get_one.ensures.value
