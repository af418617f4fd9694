-- `op_front` of snap_text (src/calls.rt): the proof of what its contract says.
use Rattle.snap_text.proofs.CallLines.{scan_begins, update_begins}
use Rattle.snap_text.proofs.calls.op_front.Goals as goal

pub returns-in-Some : goal.returns-in-Some
returns-in-Some c =
    let bytes = c.args.bytes.now in
    let rest = c.in-Some.rest.now in
    scan_begins bytes rest c.in-Some.ensures

pub returns : goal.returns
returns c =
    let bytes = c.args.bytes.now in
    let words = c.in_ok-words.words.now in
    let behind = c.in_ok-word.behind.now in
    let values = c.in_ok-values.values.now in
    update_begins bytes words behind values c.in_ok-value.rest.now c.in_ok-word.word c.in_ok-value.value
    c.in_ok-words.ensures c.in_ok-word.ensures
    c.in_ok-values.ensures c.in_ok-value.ensures
