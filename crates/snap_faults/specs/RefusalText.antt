-- The text of a `Refusal` of an input (its listing, image or schedule): its code, its name and its number.
-- `refusal_line` is the line that is printed.
use Rattle.std.specs.Prelude.{ℕ, List, ◌++◌, codes, decimal}
use Rattle.snap_words.specs.declared.shape.WordFault.{WordFault}
use Rattle.snap_words.specs.declared.shape.WordFault.TheVariants as words
use Rattle.snap_semantics.specs.declared.refusal.ImageRefusal.{ImageRefusal}
use Rattle.snap_semantics.specs.declared.refusal.ImageRefusal.TheVariants as image
use Rattle.snap_semantics.specs.declared.refusal.ListingRefusal.{ListingRefusal}
use Rattle.snap_semantics.specs.declared.refusal.ListingRefusal.TheVariants as listing
use Rattle.snap_semantics.specs.declared.refusal.ScheduleRefusal.{ScheduleRefusal}
use Rattle.snap_semantics.specs.declared.refusal.ScheduleRefusal.TheVariants as schedule
use Rattle.snap_semantics.specs.declared.refusal.Refusal.{Refusal}
use Rattle.snap_semantics.specs.declared.refusal.Refusal.TheVariants as refusal
use Rattle.snap_debug_commands.specs.FaultText.{refusal_text as command_refusal_text}

-- a name and a number behind a space
abbrev pub numbered : List ℕ → ℕ → List ℕ
numbered name number = name ++ codes " " ++ decimal number

abbrev pub listing_refusal_text : ListingRefusal → List ℕ
listing_refusal_text listing.TooLong = codes "L1 TooLong"
listing_refusal_text (listing.BadHeader line) = numbered (codes "L2 BadHeader") line
listing_refusal_text (listing.BadLine line) = numbered (codes "L3 BadLine") line
listing_refusal_text (listing.NumberNotRising line) = numbered (codes "L4 NumberNotRising") line
listing_refusal_text (listing.UnknownName line) = numbered (codes "L5 UnknownName") line
listing_refusal_text (listing.NameTwice line) = numbered (codes "L6 NameTwice") line
listing_refusal_text (listing.WrongKind line) = numbered (codes "L7 WrongKind") line
listing_refusal_text (listing.NoSuchLine target) = numbered (codes "L8 NoSuchLine") target
listing_refusal_text (listing.TooMany line) = numbered (codes "L9 TooMany") line
listing_refusal_text (listing.BadName line) = numbered (codes "L10 BadName") line

-- a broken rule of listings is said as it is of a listing's text
abbrev pub image_refusal_text : ImageRefusal → List ℕ
image_refusal_text image.NotAnImage = codes "I1 NotAnImage"
image_refusal_text image.Version = codes "I2 Version"
image_refusal_text image.Truncated = codes "I3 Truncated"
image_refusal_text (image.BadCode offset) = numbered (codes "I4 BadCode") offset
image_refusal_text (image.Invalid r) = codes "I5 Invalid " ++ listing_refusal_text r
image_refusal_text image.Extra = codes "I6 Extra"

abbrev pub schedule_refusal_text : ScheduleRefusal → List ℕ
schedule_refusal_text schedule.TooLong = codes "S1 TooLong"
schedule_refusal_text schedule.BadShape = codes "S2 BadShape"
schedule_refusal_text (schedule.BadItem line) = numbered (codes "S3 BadItem") line
schedule_refusal_text (schedule.TooManyItems line) = numbered (codes "S4 TooManyItems") line
schedule_refusal_text (schedule.NoSuchProcess line) = numbered (codes "S5 NoSuchProcess") line

abbrev pub word_fault_text : WordFault → List ℕ
word_fault_text words.BadShape = codes "W1 BadShape"
word_fault_text words.NotABit = codes "W2 NotABit"

abbrev pub refusal_text : Refusal → List ℕ
refusal_text refusal.InputTooLong = codes "P1 InputTooLong"
refusal_text (refusal.WrongParts found) = numbered (codes "P2 WrongParts") found
refusal_text (refusal.Listing r) = listing_refusal_text r
refusal_text (refusal.Image r) = image_refusal_text r
refusal_text (refusal.Schedule r) = schedule_refusal_text r
refusal_text (refusal.Words r) = word_fault_text r
refusal_text (refusal.Commands r) = command_refusal_text r

-- what is said where an input is refused
abbrev pub refused_text : Refusal → List ℕ
refused_text r = codes "refused: " ++ refusal_text r

-- the line of a refused input
abbrev pub refusal_line : Refusal → List ℕ
refusal_line r = refused_text r ++ codes "\n"
