-- `Listing::instr`: the instruction that is found is one of
-- the listing's lines, and so names only what the listing has.
use Rattle.std.proofs.Common.{◌≡◌, option_map}
use Rattle.snap_semantics.specs.Source.{instr_at}
use Rattle.snap_listing_core.specs.Fields.{source_of}
use Rattle.snap_listing_core.proofs.RightLines.{right_of}
use Rattle.snap_listing_core.proofs.listing.Listing.instr.Goals as goal

pub returns-clause-right : goal.returns-clause-right
returns-clause-right c =
    let found : option_map (λ i. i.now) c.find_instr.result ≡ instr_at (source_of c.self.inside).lines c.args.number =
    rw (← c.as_slice.ensures.value) c.find_instr.ensures in
    right_of c.args.self.now c.args.number c.find_instr.result
    (rw (← c.self.view_is) c.self.invariant) (rw (← c.self.view_is) found)
