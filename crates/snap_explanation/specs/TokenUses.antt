-- What each token of a numbered line speaks of, as the tokens beside it decide: one by one the uses of the line's
-- instruction.
use Rattle.std.specs.Prelude.{ℕ, Bool, false, ◌&&◌, ◌||◌, List, [], ◌∷◌, length, take, Option, Some, None, nat_eq}
use Rattle.std.specs.Prelude.{nat_lt, bytes_eq, codes, if◌then◌else◌}
use Rattle.snap_words.specs.declared.address.Bank.TheVariants as bank
use Rattle.snap_words.specs.declared.kind.Field.{Field}
use Rattle.snap_words.specs.declared.kind.KindTag.{KindTag}
use Rattle.snap_words.specs.declared.kind.KindTag.TheVariants as kind
use Rattle.snap_semantics.specs.declared.instr.Instr.{Instr}
use Rattle.snap_semantics.specs.declared.instr.Instr.TheVariants.{Put, PutView, ViewData}
use Rattle.snap_semantics.specs.declared.instr.Tuple.{Tuple}
use Rattle.snap_semantics.specs.declared.instr.Tuple.TheVariants as tuple
use Rattle.snap_semantics.specs.declared.text.Sort.{Sort}
use Rattle.snap_semantics.specs.declared.text.Sort.TheVariants as sort
use Rattle.snap_semantics.specs.declared.text.Symbol.{Symbol}
use Rattle.snap_semantics.specs.declared.text.Symbol.TheVariants as symbol
use Rattle.snap_semantics.specs.ListingForms.{is_reserved, field_of_keyword}
use Rattle.snap_semantics.specs.Token.{Token, Identifier, Number, Sign}
use Rattle.snap_semantics.specs.Uses.{Use, Named, BankUse, FieldUse, HandshakeUse, ViewUse, TupleUse}
use Rattle.snap_explanation.specs.Tests.{is_symbol}
use Rattle.snap_explanation.specs.declared.token_uses.Slot.{Slot}
use Rattle.snap_explanation.specs.declared.token_uses.Slot.TheVariants as slot

-- whether the first token is this symbol
abbrev pub opens_with : Symbol → List Token → Bool
opens_with m [] = false
opens_with m (t ∷ ts) = is_symbol m t

-- whether so many tokens stand behind the view that ends an instruction
abbrev pub ends_with_view : Instr → ℕ → Bool
ends_with_view (Put i (tuple.Seq d q s)) k = nat_eq k 1
ends_with_view (Put i (tuple.Bits d h t s)) k = nat_eq k 1
ends_with_view (PutView i x) k = nat_eq k 0
ends_with_view _ k = false

-- whether so many tokens may stand behind the row of a tuple: more than a comma, the view and the bracket
abbrev pub has_row : Instr → ℕ → Bool
has_row (Put i (tuple.Bits d h t s)) k = nat_lt 3 k
has_row _ k = false

-- the sort of a name alone
abbrev pub lone_sort : Instr → ℕ → Sort
lone_sort i k = if ends_with_view i k then sort.View else sort.Scalar

-- the sort that a name has to have, with these tokens behind it
abbrev pub sort_at : Instr → Slot → List Token → Sort
sort_at i slot.Words ts = sort.Words
sort_at i slot.View ts = sort.View
sort_at i slot.Value ts = if opens_with symbol.OpenBracket ts then sort.Row else lone_sort i (length ts)
sort_at i slot.Part ts =
    if opens_with symbol.OpenBracket ts || (opens_with symbol.Comma ts && has_row i (length ts))
    then sort.Row else lone_sort i (length ts)

-- a field, but for the `data` of a view
abbrev pub field_use : Option Field → Instr → Option Use
field_use None i = None
field_use (Some f) (ViewData x y) = None
field_use (Some f) _ = Some (FieldUse f)

abbrev pub word_use : Instr → List ℕ → List Token → Option Use
word_use i w ts =
    if bytes_eq w (codes "q") then Some (BankUse bank.Q) else
    if bytes_eq w (codes "p") then Some (BankUse bank.P) else
    if bytes_eq w (codes "v") then Some (BankUse bank.V) else
    if bytes_eq w (codes "hand") then Some HandshakeUse else
    if bytes_eq w (codes "view") then (if opens_with symbol.OpenParenthesis ts then Some ViewUse else None)
    else field_use (field_of_keyword w) i

abbrev pub tuple_kind : Tuple → KindTag
tuple_kind (tuple.Seq d q s) = kind.Seq
tuple_kind (tuple.Bits d h t s) = kind.Bits
tuple_kind (tuple.Multi d i t) = kind.Multi

-- what a round bracket speaks of that opens a tuple
abbrev pub tuple_use : Slot → Instr → Option Use
tuple_use slot.Value (Put i t) = Some (TupleUse (tuple_kind t))
tuple_use _ _ = None

-- what a token speaks of, with these behind it
abbrev pub use_at : Instr → Slot → Token → List Token → Option Use
use_at i s (Identifier w) ts = if is_reserved w then word_use i w ts else Some (Named (sort_at i s ts) (take 9 w))
use_at i s (Number k) ts = None
use_at i s (Sign symbol.OpenParenthesis) ts = tuple_use s i
use_at i s (Sign m) ts = None

-- the words before a view
abbrev pub is_view_word : List ℕ → Bool
is_view_word w = bytes_eq w (codes "look") || (bytes_eq w (codes "return") || bytes_eq w (codes "view"))

-- the words before a `words` local
abbrev pub is_words_word : List ℕ → Bool
is_words_word w =
    bytes_eq w (codes "get") || (bytes_eq w (codes "data") || (bytes_eq w (codes "seq")
    || (bytes_eq w (codes "toggle") || (bytes_eq w (codes "id") || bytes_eq w (codes "hand")))))

abbrev pub slot_of_word : List ℕ → Slot
slot_of_word w = if is_view_word w then slot.View else if is_words_word w then slot.Words else slot.Value

-- what is behind a round bracket: in `view(` and in a field a `words` local
abbrev pub slot_inside : Slot → Slot
slot_inside slot.Value = slot.Value
slot_inside slot.Part = slot.Value
slot_inside slot.Words = slot.Words
slot_inside slot.View = slot.Words

-- what the next name is, behind a token
abbrev pub slot_after : Slot → Token → Slot
slot_after s (Identifier w) = if is_reserved w then slot_of_word w else slot.Value
slot_after s (Number k) = slot.Value
slot_after s (Sign symbol.OpenParenthesis) = slot_inside s
slot_after s (Sign symbol.Comma) = slot.Part
slot_after s (Sign m) = slot.Value

abbrev pub with_use : Option Use → List Use → List Use
with_use None us = us
with_use (Some u) us = u ∷ us

-- what the tokens of a line with this instruction speak of, from left to right
abbrev pub token_uses : Instr → Slot → List Token → List Use
token_uses i s [] = []
token_uses i s (t ∷ ts) = with_use (use_at i s t ts) (token_uses i (slot_after s t) ts)
