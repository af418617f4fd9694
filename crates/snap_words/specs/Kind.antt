-- The kinds of registers: which shapes fit, how a word begins, and who may write what.
use Rattle.std.specs.Prelude.{ℕ, ◌-◌, Bool, true, false, ◌&&◌, List, [], length, Option, Some, None, nat_eq, nat_lt}
use Rattle.std.specs.Prelude.{nat_le, replicate, slice_get, if◌then◌else◌}
use Rattle.std.specs.List.{list_all}
use Rattle.snap_words.specs.Shape.{Counts}
use Rattle.snap_words.specs.Word.{Word}
use Rattle.snap_words.specs.declared.kind.KindTag.{KindTag}
use Rattle.snap_words.specs.declared.kind.KindTag.TheVariants.{Seq, Bits, Multi}
use Rattle.snap_words.specs.declared.kind.Field.{Field}
use Rattle.snap_words.specs.declared.kind.Field.TheVariants as field
use Rattle.snap_words.specs.declared.address.Bank.{Bank}
use Rattle.snap_words.specs.declared.address.Bank.TheVariants.{R, Q, P, V}

-- single-writer kinds have a word for each process
abbrev pub fits : KindTag → Counts → Bool
fits Seq s = nat_eq s.w s.n
fits Bits s = nat_eq s.w s.n
fits Multi s = true

-- a word that nobody has written
abbrev pub initial_word : KindTag → Counts → Word
initial_word Seq s = record { datum = 0; seq = 0; id = 0; toggle = 0; handshakes = []; view = replicate s.w 0 }
initial_word Bits s =
    record { datum = 0; seq = 0; id = 0; toggle = 0; handshakes = replicate s.n 0; view = replicate s.w 0 }
initial_word Multi s = record { datum = 0; seq = 0; id = 0; toggle = 0; handshakes = []; view = [] }

-- whether a process may write the register of this bank whose first index is i
abbrev pub may_write : KindTag → ℕ → Bank → ℕ → Bool
may_write Seq who bank i = nat_eq i who
may_write Bits who bank i = nat_eq i who
may_write Multi who R i = true
may_write Multi who Q i = nat_eq i who
may_write Multi who P i = nat_eq i who
may_write Multi who V i = nat_eq i who

-- a field of a word
abbrev pub field_of : Field → Word → ℕ
field_of field.Datum w = w.datum
field_of field.Seq w = w.seq
field_of field.Id w = w.id
field_of field.Toggle w = w.toggle

-- which banks there are
abbrev pub has_bank : KindTag → Bank → Bool
has_bank k R = true
has_bank Seq Q = false
has_bank Seq P = false
has_bank Seq V = false
has_bank Bits Q = true
has_bank Bits P = false
has_bank Bits V = false
has_bank Multi Q = true
has_bank Multi P = true
has_bank Multi V = true

-- which fields of one number a word has
abbrev pub has_field : KindTag → Field → Bool
has_field k field.Datum = true
has_field Seq field.Seq = true
has_field Seq field.Id = false
has_field Seq field.Toggle = false
has_field Bits field.Seq = false
has_field Bits field.Id = false
has_field Bits field.Toggle = true
has_field Multi field.Seq = false
has_field Multi field.Id = true
has_field Multi field.Toggle = true

abbrev pub has_handshakes : KindTag → Bool
has_handshakes Seq = false
has_handshakes Bits = true
has_handshakes Multi = false

abbrev pub has_view : KindTag → Bool
has_view Seq = true
has_view Bits = true
has_view Multi = false

-- a field that the kind has
abbrev pub field_in : KindTag → Field → Word → Option ℕ
field_in k f w = if has_field k f then Some (field_of f w) else None

-- handshake bit i, counted from 1, where the kind has handshake bits and there is one
abbrev pub handshake_in : KindTag → ℕ → Word → Option ℕ
handshake_in k i w = if has_handshakes k && nat_lt 0 i then slice_get w.handshakes (i - 1) else None

-- the view, where the kind has one
abbrev pub view_in : KindTag → Word → Option (List ℕ)
view_in k w = if has_view k then Some w.view else None

abbrev pub is_bit : ℕ → Bool
is_bit x = nat_le x 1

-- what the kind keeps of a word
abbrev pub kept : KindTag → Word → Word
kept Seq w = record { datum = w.datum; seq = w.seq; id = 0; toggle = 0; handshakes = []; view = w.view }
kept Bits w = record { datum = w.datum; seq = 0; id = 0; toggle = w.toggle; handshakes = w.handshakes; view = w.view }
kept Multi w = record { datum = w.datum; seq = 0; id = w.id; toggle = w.toggle; handshakes = []; view = [] }

-- whether the toggle and the handshake bits that the kind has are bits
abbrev pub has_bits : KindTag → Word → Bool
has_bits k w = is_bit (kept k w).toggle && list_all is_bit (kept k w).handshakes

-- whether the handshake bits and the view that the kind has are as long as the shape wants
abbrev pub is_sized : KindTag → Counts → Word → Bool
is_sized Seq s w = nat_eq (length w.view) s.w
is_sized Bits s w = nat_eq (length w.handshakes) s.n && nat_eq (length w.view) s.w
is_sized Multi s w = true
