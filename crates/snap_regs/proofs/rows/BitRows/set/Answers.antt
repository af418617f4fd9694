-- `BitRows::set` of snap_regs (src/rows.rt): the proof of what its contract says.
use Rattle.std.proofs.Common.{arith}
use Rattle.snap_regs.proofs.RowsOfBits.{rows_of-put, place_there}
use Rattle.snap_regs.proofs.rows.BitRows.set.Goals as goal

pub place_of-place-requires : goal.place_of-place-requires
place_of-place-requires c =
    (place_there c.self.inside.rows c.self.inside.columns c.args.row c.args.column c.self.inside.bits.items
    c.args.self.now c.self.invariant c.self.view_is c.requires.row_in c.requires.column_in).small

pub index_mut-requires : goal.index_mut-requires
index_mut-requires c =
    let is =
    place_there c.self.inside.rows c.self.inside.columns c.args.row c.args.column c.self.inside.bits.items
    c.args.self.now c.self.invariant c.self.view_is c.requires.row_in c.requires.column_in in
    omega (arith, is.within, c.place_of-place.ensures)

pub returns : goal.returns
returns c =
    let is =
    place_there c.self.inside.rows c.self.inside.columns c.args.row c.args.column c.self.inside.bits.items
    c.args.self.now c.self.invariant c.self.view_is c.requires.row_in c.requires.column_in in
    rows_of-put c.self.inside.rows c.self.inside.columns c.args.row c.args.column c.place_of-place.result c.args.bit
    c.self.inside.bits.items c.args.self.now is c.self.view_is c.place_of-place.ensures c.requires.bit
