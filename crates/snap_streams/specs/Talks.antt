-- A dialog at a console between two of its turns: the lines so far, what has passed and what was shown.
use Rattle.std.specs.Prelude.{◌≡◌, ℕ, ◌+◌, ◌≤◌, List, ◌++◌, length, Bool, Option, Some, IfSome}
use Rattle.std.specs.Io.BufRead.{take_through, drop_through}
use Rattle.std.specs.Io.KnownBytes.{Appends}
use Rattle.snap_streams.specs.Dialog.{AreTurns, GoesOn, IsAnswered, IsTranscript, IsTranscriptPart, IsTurn}
use Rattle.snap_streams.specs.Dialog.{IsTurnPart, IsTurnTextPart, Next, SaysOrEnds, Turn}
use Rattle.snap_streams.specs.Event.{Event, PassesAll}
use Rattle.snap_streams.specs.TypedLines.{kept, typed_lines}

-- What was kept of a line so far: of the input `first` there is `left`, and what follows in the line follows there.
abbrev pub HasKept : Option (List ℕ) → Option (List ℕ) → List ℕ → Type 0
HasKept first left line = IfSome first (λ all. (rest : List ℕ) × (left ≡ Some rest) × (seen : List ℕ)
    × (take_through 10 all ≡ seen ++ take_through 10 rest)
    × (drop_through 10 all ≡ drop_through 10 rest) × (line ≡ kept seen))

-- A number of turns, or of bytes of a line, have taken at least as many bytes of the input `first`, of which there is
-- `left`.
abbrev pub HasTaken : ℕ → Option (List ℕ) → Option (List ℕ) → Type 0
HasTaken count first left =
    IfSome first (λ all. (rest : List ℕ) × (left ≡ Some rest) × (count + length rest ≤ length all))

module _ {S : Type 0} (prompt : S → List ℕ) (says : S → List ℕ → List ℕ → Type 0)
    (next : S → (line answer : List ℕ) → Next S) where
  -- What has passed are turns after which the respondent is so.
  abbrev pub HasPassed : S → S → Option (List Event) → Option (List Event) → Type 0
  HasPassed s now before after = (turns : List Turn) × GoesOn next s turns now
      × (events : List Event) × AreTurns prompt says next s turns events × PassesAll before after events

  -- What was shown so far, with a transcript of the rest of the input, is one of the whole input, and with a beginning
  -- of one it is a beginning: of the input `first` there is `left`.
  abbrev pub HasShown : S → S → Option (List ℕ) → Option (List ℕ) → Option (List ℕ) → Option (List ℕ) → Type 0
  HasShown s now first left before after = IfSome first (λ all. (rest : List ℕ) × (left ≡ Some rest)
      × (text : List ℕ) × Appends before after text
      × ((more : List ℕ) (last : S) → IsTranscript prompt says next now (typed_lines rest) last more →
      IsTranscript prompt says next s (typed_lines all) last (text ++ more))
      × ((more : List ℕ) → IsTranscriptPart prompt says next now (typed_lines rest) more →
      IsTranscriptPart prompt says next s (typed_lines all) (text ++ more)))

  -- A turn has passed, after which the respondent is so.
  abbrev pub TurnPassed : S → S → Bool → Option (List Event) → Option (List Event) → Type 0
  TurnPassed now later more before after = (t : Turn) × IsAnswered next now t.line t.answer later more
      × (events : List Event) × IsTurn prompt says now t events × PassesAll before after events

  -- a turn of the first line of what is left was shown
  abbrev pub TurnShown : S → S → Bool → Option (List ℕ) → Option (List ℕ) → Option (List ℕ) → Type 0
  TurnShown now later more left before after = IfSome left (λ xs. (answer : List ℕ)
      × IsAnswered next now (kept (take_through 10 xs)) answer later more
      × SaysOrEnds says now (kept (take_through 10 xs)) answer × Appends before after (prompt now ++ answer))

-- a part of a turn has passed
abbrev pub PartPassed : {S : Type 0} → (S → List ℕ) → S → Option (List Event) → Option (List Event) → Type 0
PartPassed prompt now before after = (line : List ℕ) × (events : List Event) × IsTurnPart prompt now line events
    × PassesAll before after events

-- a part of a turn of the first line of what is left was shown
abbrev pub PartShown : {S : Type 0} → (S → List ℕ) → (S → List ℕ → List ℕ → Type 0) → S → Option (List ℕ) →
    Option (List ℕ) → Option (List ℕ) → Type 0
PartShown prompt says now left before after = IfSome left (λ xs. (text : List ℕ)
    × IsTurnTextPart prompt says now (kept (take_through 10 xs)) text × Appends before after text)
