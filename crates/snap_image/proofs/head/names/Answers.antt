-- `names` of snap_image (src/head.rt): the proof of what its contract says.
use Rattle.std.proofs.Common.{◌≡◌, ◌≤◌, ◌<◌, ◌-◌, ◌++◌, length, Err, sym, ap, ◌∙◌, List, arith}
use Rattle.std.proofs.lemmas.Grind.{common_steps}
use Rattle.snap_image.specs.ImageListing.{names_in}
use Rattle.snap_semantics.specs.Source.{Name}
use Rattle.snap_image.specs.Head.{known_names}
use Rattle.snap_image.specs.DecoderSteps.{onto}
use Rattle.snap_image.proofs.Names.{names_step, names_stop, names_end}
use Rattle.snap_image.proofs.head.names.Goals as goal

pub returns-in_err-name : goal.returns-in_err-name
returns-in_err-name c =
    let within : length c.loop-known.names.items < c.args.count = omega arith in
    let stop : names_in c.args.count (known_names c.args.known) c.args.cursor.now ≡ Err c.in_err-name.field-0.0 =
    sym c.loop-known.invariant
    ∙ names_stop (known_names c.args.known) c.loop-known.names.items c.args.count c.loop-known.cursor _ within
    (rw (← c.as_slice.ensures.value) c.in_err-name.ensures) in
    grind (arith, common_steps, stop)

pub loop-known-preserved : goal.loop-known-preserved
loop-known-preserved c =
    let within : length c.loop-known.names.items < c.args.count = omega arith in
    ap (λ (ys : List Name).
    onto ys (names_in (c.args.count - length ys) (known_names c.args.known ++ ys) c.name.new.cursor))
    c.in_ok-push.ensures.items
    ∙ names_step (known_names c.args.known) c.loop-known.names.items c.in_ok-name.name c.args.count
    c.loop-known.cursor c.name.new.cursor within
    (rw (← c.as_slice.ensures.value) c.in_ok-name.ensures)
    ∙ c.loop-known.invariant

pub returns : goal.returns
returns c =
    let all : c.args.count ≤ length c.loop-known.names.items = omega arith in
    sym c.loop-known.invariant
    ∙ names_end (known_names c.args.known) c.loop-known.names.items c.args.count c.loop-known.cursor all
