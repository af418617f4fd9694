-- `Registers::new` of snap_regs (src/registers.rt): the proof of what its contract says.
use Rattle.std.proofs.Common.{◌≡◌, ◌∙◌, map, replicate}
use Rattle.snap_words.specs.declared.address.Bank.TheVariants as bank
use Rattle.snap_regs.specs.Store.{rows_in}
use Rattle.snap_regs.proofs.NewRegisters.{IsOfShape-new}
use Rattle.snap_regs.proofs.registers.Registers.new.Goals as goal

pub invariant_of-result : goal.invariant_of-result
invariant_of-result g c =
    let columns : c.from-columns.result ≡ c.args.shape.n = c.from-columns.ensures ∙ c.process_count.ensures.value in
    let q : c.in_ok-zeros.field-0 ≡ replicate (rows_in g.K.Kind.TAG c.args.shape bank.Q) (replicate c.args.shape.n 0) =
    cc (columns, c.in_ok-zeros.ensures, c.rows_in.ensures.value) in
    let p : c.in_ok-zeros-2.field-0
    ≡ replicate (rows_in g.K.Kind.TAG c.args.shape bank.P) (replicate c.args.shape.n 0) =
    cc (columns, c.in_ok-zeros-2.ensures, c.rows_in-2.ensures.value) in
    let views : c.in_ok-zero_views.field-0.items
    ≡ replicate (rows_in g.K.Kind.TAG c.args.shape bank.V) (replicate c.args.shape.w 0) =
    cc (c.w.ensures, c.in_ok-zero_views.ensures, c.rows_in-3.ensures.value) in
    IsOfShape-new g.K.Kind.TAG c.args.shape
    (record {
      words = map g.K.Kind.as_word c.in_ok-initial_words.field-0.items;
      q = c.in_ok-zeros.field-0;
      p = c.in_ok-zeros-2.field-0;
      views = c.in_ok-zero_views.field-0.items;
    })
    c.in_ok-initial_words.ensures q p views
