-- `BitRows::get` of snap_regs (src/rows.rt): the proof of what its contract says.
use Rattle.std.proofs.Common.{◌∙◌, arith}
use Rattle.snap_regs.proofs.RowsOfBits.{at_most_one, bit_read, place_there}
use Rattle.snap_regs.proofs.rows.BitRows.get.Goals as goal

pub place_of-requires : goal.place_of-requires
place_of-requires c =
    (place_there c.self.inside.rows c.self.inside.columns c.args.row c.args.column c.self.inside.bits.items
    c.args.self.now c.self.invariant c.self.view_is c.requires.row_in c.requires.column_in).small

pub index-requires : goal.index-requires
index-requires c =
    let is =
    place_there c.self.inside.rows c.self.inside.columns c.args.row c.args.column c.self.inside.bits.items
    c.args.self.now c.self.invariant c.self.view_is c.requires.row_in c.requires.column_in in
    omega (arith, is.within, c.place_of.ensures)

pub returns : goal.returns
returns c =
    let is =
    place_there c.self.inside.rows c.self.inside.columns c.args.row c.args.column c.self.inside.bits.items
    c.args.self.now c.self.invariant c.self.view_is c.requires.row_in c.requires.column_in in
    record {
      bit =
          c.from.ensures ∙ bit_read c.self.inside.rows c.self.inside.columns c.args.row c.args.column
          c.place_of.result c.self.inside.bits.items c.index.result.now c.args.self.now is c.self.view_is
          c.place_of.ensures c.index.ensures;
      range = at_most_one c.index.result.now c.from.result c.from.ensures;
    }
