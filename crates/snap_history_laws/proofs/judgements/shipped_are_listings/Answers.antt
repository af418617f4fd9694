-- `shipped_are_listings` of snap_history_laws (src/judgements.rt): the proof of what its contract says.
use Rattle.snap_words.specs.declared.kind.KindTag.TheVariants as kind
use Rattle.snap_history_laws.proofs.judgements.shipped_are_listings.Goals as goal

pub returns : goal.returns
returns c kind.Seq = (c.what_is_read_is_spelled.ensures _ _ c.text_u-u.ensures).0
returns c kind.Bits = (c.what_is_read_is_spelled.ensures _ _ c.text_b-b.ensures).0
returns c kind.Multi = (c.what_is_read_is_spelled.ensures _ _ c.text_m-m.ensures).0
