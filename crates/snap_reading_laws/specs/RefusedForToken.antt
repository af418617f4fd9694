-- The law of tokens that are not right.
use Rattle.std.specs.Prelude.{◌≡◌, ℕ, List, Option, Some, None, Result, Ok}
use Rattle.std.specs.List.{AllByRecursion}
use Rattle.snap_semantics.specs.declared.instr.Line.{Line}
use Rattle.snap_semantics.specs.declared.refusal.ListingRefusal.{ListingRefusal}
use Rattle.snap_semantics.specs.IsListing.{IsName}
use Rattle.snap_semantics.specs.ListingForms.{line_form}
use Rattle.snap_semantics.specs.Source.{Source}
use Rattle.snap_semantics.specs.Uses.{Use, Named, BankUse, FieldUse, HandshakeUse, ViewUse, TupleUse, instr_uses}
use Rattle.snap_semantics.specs.Uses.{checked_use, checked_uses}
use Rattle.snap_explanation.specs.Pieces.{PlacedToken}
use Rattle.snap_explanation.specs.Misuse.{Misuse, wrong_in_line}
use Rattle.snap_explanation.specs.Names.{tokens_of_placed}

-- where a name is spoken of, it is one to eight letters, and no reserved word
abbrev pub SpeaksName : Use → Type 0
SpeaksName (Named wanted x) = IsName x
SpeaksName (BankUse b) = Unit {0}
SpeaksName (FieldUse f) = Unit {0}
SpeaksName HandshakeUse = Unit {0}
SpeaksName ViewUse = Unit {0}
SpeaksName (TupleUse k) = Unit {0}

-- the check of what a token speaks of, where one is not right
abbrev pub check_of : Source → (at : ℕ) → Option Misuse → Result (Unit {0}) ListingRefusal
check_of s at None = Ok tt
check_of s at (Some m) = checked_use s at m.spoken

-- A line with a form and with names alone in the places of names is refused for the token that is found, and for no
-- other; where none is found, it is not refused.
abbrev pub RefusedForToken : Type 0
RefusedForToken = (s : Source) (at : ℕ) (ts : List PlacedToken) (line : Line) →
    line_form s.kind (tokens_of_placed ts) ≡ Some line → AllByRecursion SpeaksName (instr_uses line.instr) →
    checked_uses s at (instr_uses line.instr) ≡ check_of s at (wrong_in_line s ts)
