-- `Machine::values` of snap_machine (src/machine.rt): what holds at the head of each of its loops.
use Rattle.std.proofs.Common.{◌≡◌, map, take}
use Rattle.snap_words.specs.Word.{Word}
use Rattle.snap_machine.proofs.machine.Machine.values.Given as goal

abbrev pub invariant-loop-k : goal.invariant-loop-k
invariant-loop-k g l = l.values.items ≡ map (λ (x : Word). x.datum) (take l.k l.self.state.memory.words)
