-- `line_put` of snap_machine (src/register_lines.rt): the proof of what its contract says.
use Rattle.std.proofs.Common.{◌≡◌, ap, sym, subst, Ok}
use Rattle.snap_words.specs.declared.kind.KindTag.{KindTag}
use Rattle.snap_semantics.specs.Table.{tuple_word}
use Rattle.snap_semantics.specs.Value.{Context}
use Rattle.snap_asm_program.specs.NamedLines.{named_index, named_tuple}
use Rattle.snap_machine.specs.TupleValues.{given_word, word_in}
use Rattle.snap_machine.specs.SeenProcesses.{seen_context}
use Rattle.snap_machine.proofs.Tuples.{Suits, word_suits}
use Rattle.snap_machine.proofs.register_lines.line_put.Goals as goal

pub built-requires-clause-sized : goal.built-requires-clause-sized
built-requires-clause-sized g c κs lives =
    let context : Context = seen_context g.K.Kind.as_word c.args.context.now c.args.process.now in
    let is : tuple_word context (named_tuple c.args.context.now.program.now c.args.tuple.now)
    ≡ Ok (given_word c.in_ok-given.given) = sym c.in_ok-given.ensures in
    (subst (λ (k : KindTag). Suits k context.shape (given_word c.in_ok-given.given)) c.requires.ready.kind
    (word_suits c.args.context.now.program.now context (named_index c.args.context.now.program.now c.args.index.now)
    (named_tuple c.args.context.now.program.now c.args.tuple.now)
    (given_word c.in_ok-given.given) c.requires.ready.locals c.requires.right is)).0

pub built-requires-clause-kept : goal.built-requires-clause-kept
built-requires-clause-kept g c κs lives =
    let context : Context = seen_context g.K.Kind.as_word c.args.context.now c.args.process.now in
    let is : tuple_word context (named_tuple c.args.context.now.program.now c.args.tuple.now)
    ≡ Ok (given_word c.in_ok-given.given) = sym c.in_ok-given.ensures in
    (subst (λ (k : KindTag). Suits k context.shape (given_word c.in_ok-given.given)) c.requires.ready.kind
    (word_suits c.args.context.now.program.now context (named_index c.args.context.now.program.now c.args.index.now)
    (named_tuple c.args.context.now.program.now c.args.tuple.now)
    (given_word c.in_ok-given.given) c.requires.ready.locals c.requires.right is)).1

pub put_word-requires-after_bounds : goal.put_word-requires-after_bounds
put_word-requires-after_bounds g c κs lives =
    let context : Context = seen_context g.K.Kind.as_word c.args.context.now c.args.process.now in
    let is : tuple_word context (named_tuple c.args.context.now.program.now c.args.tuple.now)
    ≡ Ok (given_word c.in_ok-given.given) = sym c.in_ok-given.ensures in
    let sized =
    (subst (λ (k : KindTag). Suits k context.shape (given_word c.in_ok-given.given)) c.requires.ready.kind
    (word_suits c.args.context.now.program.now context (named_index c.args.context.now.program.now c.args.index.now)
    (named_tuple c.args.context.now.program.now c.args.tuple.now)
    (given_word c.in_ok-given.given) c.requires.ready.locals c.requires.right is)).0 in
    let word_is : g.K.Kind.as_word c.in_ok-word.word ≡ given_word c.in_ok-given.given =
    ap word_in c.in_ok-word.ensures in
    rw (c.requires.ready.shape_is, word_is) sized
