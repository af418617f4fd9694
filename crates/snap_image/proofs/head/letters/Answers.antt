-- `letters` of snap_image (src/head.rt): the proof of what its contract says.
use Rattle.std.proofs.Common.{◌≡◌, ◌-◌, ◌+◌, ◌<◌, length, take, Ok, Err, sym, ap, ◌∙◌, ℕ, List, arith}
use Rattle.std.proofs.lemmas.Grind.{common_steps}
use Rattle.std.proofs.lemmas.List.{take_more_set}
use Rattle.snap_image.specs.ImageListing.{letters_in}
use Rattle.snap_image.specs.DecoderSteps.{onto}
use Rattle.snap_image.proofs.Names.{letters_step, letters_stop, letters_bad, letters_end}
use Rattle.snap_image.proofs.head.letters.Goals as goal

pub returns-in_err-byte : goal.returns-in_err-byte
returns-in_err-byte c =
    let stop : letters_in c.args.count c.args.cursor.now ≡ Err c.in_err-byte.field-0.0 =
    sym c.loop-place.invariant.found
    ∙ letters_stop (take c.loop-place.place c.loop-place.letters) c.args.count c.loop-place.place c.loop-place.cursor
    _ c.loop-place-test.true c.in_err-byte.ensures in
    grind (arith, common_steps, stop)

pub returns-in_err-checked_letter : goal.returns-in_err-checked_letter
returns-in_err-checked_letter c =
    let stop : letters_in c.args.count c.args.cursor.now ≡ Err c.in_err-checked_letter.field-0.0 =
    sym c.loop-place.invariant.found
    ∙ letters_bad (take c.loop-place.place c.loop-place.letters) c.args.count c.loop-place.place c.in_ok-byte.byte
    c.loop-place.cursor _ _ c.loop-place-test.true
    c.in_ok-byte.ensures (sym c.in_err-checked_letter.ensures) in
    grind (arith, common_steps, stop)

pub loop-place-preserved : goal.loop-place-preserved
loop-place-preserved c =
    let within : c.loop-place.place < length c.loop-place.letters =
    omega (arith, c.loop-place.invariant.full, c.loop-place-test.true, c.requires) in
    record {
      full = grind (arith, common_steps);
      found =
          ap (λ (xs : List ℕ). onto xs (letters_in (c.args.count - (c.loop-place.place + 1)) c.byte.new.self))
          (take_more_set c.loop-place.letters c.loop-place.place c.in_ok-byte.byte within)
          ∙ sym (letters_step (take c.loop-place.place c.loop-place.letters) c.args.count c.loop-place.place
          c.in_ok-byte.byte c.loop-place.cursor _ c.loop-place-test.true
          c.in_ok-byte.ensures (sym c.in_ok-checked_letter.ensures))
          ∙ c.loop-place.invariant.found;
    }

pub returns : goal.returns
returns c =
    let all : c.loop-place.place ≡ c.args.count = omega arith in
    let end : letters_in c.args.count c.args.cursor.now
    ≡ Ok (take c.loop-place.place c.loop-place.letters, c.loop-place.cursor) =
    sym c.loop-place.invariant.found ∙ letters_end (take c.loop-place.place c.loop-place.letters) c.args.count
    c.loop-place.place c.loop-place.cursor (omega arith) in
    grind (arith, common_steps, end, all)
