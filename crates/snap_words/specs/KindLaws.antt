-- Laws of the kinds of registers: two words of one kind are equal if they
-- are the same `Word`, and the toggle of a word of kind multi is a bit.
use Rattle.std.specs.Prelude.{◌≡◌, Bool, true, ◌&&◌}
use Rattle.std.specs.List.{list_all}
use Rattle.std.proofs.Common.{ap}
use mathlib.Core.Bool.{Bool-set}
use mathlib.Core.HLevel.{Σ_prop_path}
use Rattle.snap_words.specs.Kind.{has_bits, is_bit}
use Rattle.snap_words.specs.KindWords.{seq_as_word, bits_as_word, multi_as_word}
use Rattle.snap_words.specs.Word.{Word}
use Rattle.snap_words.specs.declared.kind.KindTag.TheVariants as tag
use Rattle.snap_words.specs.declared.kinds.seq.SeqWord.{SeqWord}
use Rattle.snap_words.specs.declared.kinds.bits.BitsWord.{BitsWord}
use Rattle.snap_words.specs.declared.kinds.multi.MultiWord.{MultiWord}

pub seq_equal : (x y : SeqWord) → seq_as_word x ≡ seq_as_word y → x ≡ y
seq_equal x y e = ap (λ (p : Word). let w : SeqWord = record { datum = p.datum; seq = p.seq; view = p.view } in w) e

-- words that pass a test
abbrev Checked : (Word → Bool) → Type 0
Checked test = (p : Word) × (test p ≡ true)

same_checked : (test : Word → Bool) (c d : Checked test) → c.0 ≡ d.0 → c ≡ d
same_checked test c d e = Σ_prop_path (λ (p : Word). Bool-set (test p) true) e

abbrev bits_checked : Word → Bool
bits_checked p = is_bit p.toggle && list_all is_bit p.handshakes

bits_word : Checked bits_checked → BitsWord
bits_word c =
    record { datum = c.0.datum; toggle = c.0.toggle; handshakes = c.0.handshakes; view = c.0.view; bits = c.1 }

pub bits_equal : (x y : BitsWord) → bits_as_word x ≡ bits_as_word y → x ≡ y
unfolding bits_word
bits_equal x y e = ap bits_word (same_checked bits_checked (bits_as_word x, x.bits) (bits_as_word y, y.bits) e)

abbrev multi_checked : Word → Bool
multi_checked p = is_bit p.toggle

multi_word : Checked multi_checked → MultiWord
multi_word c = record { datum = c.0.datum; id = c.0.id; toggle = c.0.toggle; bits = c.1 }

pub multi_equal : (x y : MultiWord) → multi_as_word x ≡ multi_as_word y → x ≡ y
unfolding multi_word
multi_equal x y e = ap multi_word (same_checked multi_checked (multi_as_word x, x.bits) (multi_as_word y, y.bits) e)

pub multi_has_bits : (x : MultiWord) → has_bits tag.Multi (multi_as_word x) ≡ true
multi_has_bits x = ap (λ (b : Bool). b && true) x.bits
