-- `new_names` of snap_listing (src/header.rt): the proof of what its contract says.
use Rattle.std.proofs.Common.{◌≡◌, ◌<◌, length, map, Err, sym, ◌∙◌, arith}
use Rattle.std.proofs.lemmas.Grind.{common_steps}
use Rattle.snap_semantics.specs.Listing.{new_names}
use Rattle.snap_listing.specs.ReaderSteps.{letters_of}
use Rattle.snap_listing.proofs.Names.{names_step, names_stop, added_on}
use Rattle.snap_listing.proofs.header.new_names.Goals as goal

pub returns-in_err-name-clause-names : goal.returns-in_err-name-clause-names
returns-in_err-name-clause-names c =
    let within : c.loop-token.token-index < length c.args.words.now = omega arith in
    let stop : new_names c.args.line c.args.known.now.items (map letters_of c.args.words.now)
    ≡ Err c.in_err-name.field-0.0 =
    sym c.loop-token.invariant.found
    ∙ names_stop c.args.line c.loop-token.names.items c.loop-token.known.items c.args.words.now
    c.loop-token.token-index _ c.letters_of.result.now
    c.in_err-name.field-0.0 within c.letters_of.ensures (rw (← c.as_slice.ensures.value) c.in_err-name.ensures) in
    grind (arith, common_steps, stop)

pub loop-token-preserved : goal.loop-token-preserved
loop-token-preserved c =
    let within : c.loop-token.token-index < length c.args.words.now = omega arith in
    record {
      found =
          names_step c.args.line c.loop-token.names.items _ c.loop-token.known.items _ c.args.words.now
          c.loop-token.token-index _ c.letters_of.result.now
          c.in_ok-name.name within c.letters_of.ensures (rw (← c.as_slice.ensures.value) c.in_ok-name.ensures)
          c.in_ok-push-2.ensures.items c.in_ok-push.ensures.items
          ∙ c.loop-token.invariant.found;
      known =
          added_on c.loop-token.known.items _ c.args.known.now.items c.loop-token.names.items _
          c.in_ok-name.name c.loop-token.invariant.known
          c.in_ok-push.ensures.items c.in_ok-push-2.ensures.items;
    }
