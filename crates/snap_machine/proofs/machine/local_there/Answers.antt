-- `local_there` of snap_machine (src/machine.rt): the proof of what its contract says.
use Rattle.std.proofs.Common.{map}
use Rattle.snap_semantics.specs.Readers.{NumberValue, RowValue, WordsValue}
use Rattle.snap_machine.proofs.There.{none_there, one_there}
use Rattle.snap_machine.proofs.machine.local_there.Goals as goal

pub returns-in_err-get-in-Scalar : goal.returns-in_err-get-in-Scalar
returns-in_err-get-in-Scalar g c =
    rw (c.from_residual.ensures, c.in-Scalar.is)
    (none_there (λ v. NumberValue v) c.args.process.now.scalars.items c.deref.result.now c.args.k
    c.deref.ensures.value c.in_err-get-in-Scalar.ensures.lookup.3)

pub returns-in_err-get-in-Row : goal.returns-in_err-get-in-Row
returns-in_err-get-in-Row g c =
    rw (c.from_residual-in_err-get-in-Row.ensures, c.in-Row.is)
    (none_there (λ v. RowValue v.items) c.args.process.now.rows.items c.deref-in-Row.result.now c.args.k
    c.deref-in-Row.ensures.value c.in_err-get-in-Row.ensures.lookup.3)

pub returns-in_err-get-in-Words : goal.returns-in_err-get-in-Words
returns-in_err-get-in-Words g c =
    rw (c.from_residual-in_err-get-in-Words.ensures, c.in-Words.is)
    (none_there (λ v. WordsValue (map g.K.Kind.as_word v.items)) c.args.process.now.words.items
    c.deref-in-Words.result.now c.args.k
    c.deref-in-Words.ensures.value c.in_err-get-in-Words.ensures.lookup.3)

pub returns-in_ok-get-in-Scalar : goal.returns-in_ok-get-in-Scalar
returns-in_ok-get-in-Scalar g c =
    rw c.in-Scalar.is
    (one_there (λ v. NumberValue v) c.args.process.now.scalars.items c.deref.result.now c.args.k
    c.in_ok-get-in-Scalar.field-0.now c.deref.ensures.value
    c.in_ok-get-in-Scalar.ensures.lookup.3.0 c.in_ok-get-in-Scalar.ensures.lookup.1)

pub returns-in_ok-get-in-Row : goal.returns-in_ok-get-in-Row
returns-in_ok-get-in-Row g c =
    rw (c.as_slice.ensures.value, c.in-Row.is)
    (one_there (λ v. RowValue v.items) c.args.process.now.rows.items c.deref-in-Row.result.now c.args.k
    c.in_ok-get-in-Row.field-0.now c.deref-in-Row.ensures.value
    c.in_ok-get-in-Row.ensures.lookup.3.0 c.in_ok-get-in-Row.ensures.lookup.1)

pub returns-in_ok-get-in-Words : goal.returns-in_ok-get-in-Words
returns-in_ok-get-in-Words g c =
    rw (c.as_slice-in-Words.ensures.value, c.in-Words.is)
    (one_there (λ v. WordsValue (map g.K.Kind.as_word v.items)) c.args.process.now.words.items
    c.deref-in-Words.result.now c.args.k
    c.in_ok-get-in-Words.field-0.now c.deref-in-Words.ensures.value
    c.in_ok-get-in-Words.ensures.lookup.3.0 c.in_ok-get-in-Words.ensures.lookup.1)
