-- `SeqWord`, `BitsWord` and `MultiWord`, each as a `Word` of any kind: what the kind lacks is 0 or empty.
use Rattle.std.specs.Prelude.{[]}
use Rattle.snap_words.specs.Word.{Word}
use Rattle.snap_words.specs.declared.kinds.seq.SeqWord.{SeqWord}
use Rattle.snap_words.specs.declared.kinds.bits.BitsWord.{BitsWord}
use Rattle.snap_words.specs.declared.kinds.multi.MultiWord.{MultiWord}

abbrev pub seq_as_word : SeqWord → Word
seq_as_word w = record { datum = w.datum; seq = w.seq; id = 0; toggle = 0; handshakes = []; view = w.view }

abbrev pub bits_as_word : BitsWord → Word
bits_as_word w =
    record { datum = w.datum; seq = 0; id = 0; toggle = w.toggle; handshakes = w.handshakes; view = w.view }

abbrev pub multi_as_word : MultiWord → Word
multi_as_word w = record { datum = w.datum; seq = 0; id = w.id; toggle = w.toggle; handshakes = []; view = [] }
