-- An `AnyWord` of the code as a `Word` of the definitions, field by field.
use Rattle.snap_words.specs.Word.{Word}
use Rattle.snap_words.specs.declared.any_word.AnyWord.{AnyWord}

abbrev pub word_of_any : AnyWord → Word
word_of_any p =
    record { datum = p.datum; seq = p.seq; id = p.id; toggle = p.toggle; handshakes = p.handshakes; view = p.view }
