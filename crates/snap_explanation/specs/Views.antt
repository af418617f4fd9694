-- The parts and names of the code that explains refusals, viewed as those of its definitions.
use Rattle.std.specs.Prelude.{map}
use Rattle.snap_semantics.specs.Source.{Source}
use Rattle.snap_semantics.specs.Uses.{Use, Named, BankUse, FieldUse, HandshakeUse, ViewUse, TupleUse}
use Rattle.snap_explanation.specs.Steps.{view_placed_token}
use Rattle.snap_explanation.specs.declared.part.Part as code
use Rattle.snap_explanation.specs.declared.sorts.Names as names
use Rattle.snap_explanation.specs.declared.token_uses.Use as spoken
use Rattle.snap_explanation.specs.declared.token_uses.Use.TheVariants as given
use Rattle.snap_explanation.specs.declared.misuse.Misuse as found
use Rattle.snap_explanation.specs.declared.names.Declared as line
use Rattle.snap_explanation.specs.Misuse.{Misuse}
use Rattle.snap_explanation.specs.Names.{Declared}
use Rattle.snap_explanation.specs.Part.{Part}
use Rattle.snap_explanation.specs.Sorts.{source_in}

abbrev pub view_part : code.Part → Part
view_part p = record { name = p.name; before = p.before; text = p.text.now }

-- a kind and the words of header lines as a listing without lines
abbrev pub view_names : names.Names → Source
view_names n = source_in n.kind (map (λ w. w.now) n.words.now)

abbrev pub view_use : spoken.Use → Use
view_use (given.Named sort word) = Named sort word.now
view_use (given.Bank bank) = BankUse bank
view_use (given.Field field) = FieldUse field
view_use given.Handshake = HandshakeUse
view_use given.View = ViewUse
view_use (given.Tuple kind) = TupleUse kind

abbrev pub view_misuse : found.Misuse → Misuse
view_misuse m = record { token = view_placed_token m.token; spoken = view_use m.spoken }

abbrev pub view_declared : line.Declared → Declared
view_declared d = record { line = d.line; keyword = d.keyword.now }
