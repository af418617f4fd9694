-- The first token of a numbered line that is not as the kind and the declared names of the listing have it, and what is
-- said of it.
use Rattle.std.specs.Prelude.{ℕ, Bool, List, [], ◌∷◌, ◌++◌, Option, Some, None, Result, Ok, Err, if◌then◌else◌}
use Rattle.snap_words.specs.declared.kind.KindTag.{KindTag}
use Rattle.snap_words.specs.declared.kind.KindTag.TheVariants as kind
use Rattle.snap_semantics.specs.declared.instr.Instr.{Instr}
use Rattle.snap_semantics.specs.declared.instr.Line.{Line}
use Rattle.snap_semantics.specs.declared.text.Sort.{Sort}
use Rattle.snap_semantics.specs.declared.text.Sort.TheVariants as sort
use Rattle.snap_semantics.specs.ListingForms.{line_form}
use Rattle.snap_semantics.specs.Rules.{or_else}
use Rattle.snap_semantics.specs.Source.{Source}
use Rattle.snap_semantics.specs.Uses.{Use, Named, BankUse, TupleUse, kind_has, sort_of}
use Rattle.snap_explanation.specs.Pieces.{PlacedToken}
use Rattle.snap_explanation.specs.Names.{letters_of, nearest, tokens_of_placed}
use Rattle.snap_explanation.specs.Sorts.{is_sort, of_sort}
use Rattle.snap_explanation.specs.TokenUses.{use_at, slot_after}
use Rattle.snap_explanation.specs.declared.wording.TheConstants.{A_SCALAR, A_ROW, A_LIST, A_VIEW, NOT_DECLARED}
use Rattle.snap_explanation.specs.declared.wording.TheConstants.{ROW_USE, WORDS_USE, VIEW_USE, NONE_DECLARED, BELONGS}
use Rattle.snap_explanation.specs.declared.wording.TheConstants.{IS_ONE, QUOTE, IS, WHILE, SEQ_BANKS, BIT_BANKS}
use Rattle.snap_explanation.specs.declared.wording.TheConstants.{MULTI_BANKS, SEQ_FIELDS, BIT_FIELDS, MULTI_FIELDS}
use Rattle.snap_explanation.specs.declared.wording.TheConstants.{SEQ_TUPLE, BIT_TUPLE, MULTI_TUPLE, QUOTE_END}
use Rattle.snap_explanation.specs.declared.token_uses.Slot.{Slot}
use Rattle.snap_explanation.specs.declared.token_uses.Slot.TheVariants as slot

-- a name that is declared and of its sort; a bank, a field or a tuple that the kind has
abbrev pub is_right : Source → Use → Bool
is_right s (Named wanted x) = is_sort wanted (sort_of s x)
is_right s u = kind_has s.kind u

-- a token, and what it speaks of
pub record Misuse : Type 0 where
  pub token : PlacedToken
  pub spoken : Use

-- what the next name is, or a token that speaks of what is not right
abbrev pub right_or : Source → PlacedToken → Slot → Option Use → Result Slot Misuse
right_or s t next None = Ok next
right_or s t next (Some u) = if is_right s u then Ok next else Err (record { token = t; spoken = u })

-- what the next name is behind a token, with the tokens behind it
unfoldable pub step_at : Source → Instr → Slot → PlacedToken → List PlacedToken → Result Slot Misuse
step_at s i here t ts = right_or s t (slot_after here t.token) (use_at i here t.token (tokens_of_placed ts))

abbrev pub goes_on : (Slot → Option Misuse) → Result Slot Misuse → Option Misuse
goes_on later (Ok next) = later next
goes_on later (Err m) = Some m

-- the first token of a line with this instruction that speaks of what is not right
abbrev pub first_wrong : Source → Instr → Slot → List PlacedToken → Option Misuse
first_wrong s i here [] = None
first_wrong s i here (t ∷ ts) = goes_on (λ next. first_wrong s i next ts) (step_at s i here t ts)

abbrev pub wrong_in_form : Source → List PlacedToken → Option Line → Option Misuse
wrong_in_form s ts None = None
wrong_in_form s ts (Some line) = first_wrong s line.instr slot.Value ts

-- the first token of a line that is not right in a listing
abbrev pub wrong_in_line : Source → List PlacedToken → Option Misuse
wrong_in_line s ts = wrong_in_form s ts (line_form s.kind (tokens_of_placed ts))

abbrev pub sort_words : Sort → List ℕ
sort_words sort.Scalar = A_SCALAR.now
sort_words sort.Row = A_ROW.now
sort_words sort.Words = A_LIST.now
sort_words sort.View = A_VIEW.now

abbrev pub declared_words : Option Sort → List ℕ
declared_words None = NOT_DECLARED.now
declared_words (Some found) = sort_words found

-- how names of a sort are used; nothing of a number
abbrev pub usage : Option Sort → List ℕ
usage (Some sort.Row) = ROW_USE.now
usage (Some sort.Words) = WORDS_USE.now
usage (Some sort.View) = VIEW_USE.now
usage _ = []

abbrev pub first_name : List (List ℕ) → Option (List ℕ)
first_name [] = None
first_name (w ∷ ws) = Some w

-- a name that is near, or else any
abbrev pub some_name : List ℕ → List (List ℕ) → Option (List ℕ)
some_name w names = or_else (nearest w names) (first_name names)

abbrev pub some_words : Option (List ℕ) → List ℕ
some_words None = NONE_DECLARED.now
some_words (Some x) = BELONGS.now ++ x ++ IS_ONE.now

-- a name that is of another sort, or of none
unfoldable pub name_text : Source → List ℕ → Sort → Option Sort → List ℕ
name_text s w wanted found =
    QUOTE.now ++ w ++ IS.now ++ declared_words found ++ WHILE.now ++ sort_words wanted
    ++ some_words (some_name w (of_sort s wanted)) ++ usage found

-- the registers of a kind, and that there is no other
abbrev pub banks_words : KindTag → List ℕ
banks_words kind.Seq = SEQ_BANKS.now
banks_words kind.Bits = BIT_BANKS.now
banks_words kind.Multi = MULTI_BANKS.now

-- the fields of the words of a kind, and that they have no other
abbrev pub fields_words : KindTag → List ℕ
fields_words kind.Seq = SEQ_FIELDS.now
fields_words kind.Bits = BIT_FIELDS.now
fields_words kind.Multi = MULTI_FIELDS.now

abbrev pub tuple_words : KindTag → List ℕ
tuple_words kind.Seq = SEQ_TUPLE.now
tuple_words kind.Bits = BIT_TUPLE.now
tuple_words kind.Multi = MULTI_TUPLE.now

-- what a kind has, and that it has not what a word says
abbrev pub lack_text : (have w : List ℕ) → List ℕ
lack_text have w = have ++ w ++ QUOTE_END.now

-- what is said of a word that speaks of what is not right
abbrev pub use_text : Source → List ℕ → Use → List ℕ
use_text s w (Named wanted x) = name_text s w wanted (sort_of s x)
use_text s w (BankUse b) = lack_text (banks_words s.kind) w
use_text s w (TupleUse k) = tuple_words s.kind
use_text s w _ = lack_text (fields_words s.kind) w

abbrev pub misuse_text : Source → Misuse → List ℕ
misuse_text s m = use_text s (letters_of m.token.token) m.spoken
