-- `IsDialog`: what passes in a dialog, where before each line a prompt is shown, and after it an answer; `IsTranscript`
-- is what is shown in all. An answer is one of the texts that the respondent `says` to a line, which may be many; what the
-- respondent is from there on depends on which of them it was.
use Rattle.std.specs.Prelude.{◌≡◌, ◌⊎◌, ℕ, List, [], ◌∷◌, ◌++◌, Bool, true, false, Option}
use Rattle.std.specs.Io.KnownBytes.{Appends}
use Rattle.snap_streams.specs.Event.{Event, PassesAll, said, typed}

-- what the respondent is after a line and its answer, and whether the dialog goes on
pub record Next (S : Type 0) : Type 0 where
  pub state : S
  pub goes_on : Bool

-- a line, and what was answered to it
pub record Turn : Type 0 where
  pub line : List ℕ
  pub answer : List ℕ

module _ {S : Type 0} (next : S → (line answer : List ℕ) → Next S) where
  -- the end of the input, where a line is empty, ends the dialog
  abbrev pub next_or_end : S → (line answer : List ℕ) → Next S
  next_or_end s [] answer = record { state = s; goes_on = false }
  next_or_end s (b ∷ bs) answer = next s (b ∷ bs) answer

  -- this is what comes of a line and its answer: the respondent from there on, and whether the dialog goes on
  abbrev pub IsAnswered : S → (line answer : List ℕ) → S → Bool → Type 0
  IsAnswered s line answer after more =
      (after ≡ (next_or_end s line answer).state) × (more ≡ (next_or_end s line answer).goes_on)

  -- after these turns, none of which ends the dialog, the respondent is so
  abbrev pub GoesOn : S → List Turn → S → Type 0
  GoesOn s [] now = now ≡ s
  GoesOn s (t ∷ ts) now = ((next_or_end s t.line t.answer).goes_on ≡ true)
      × GoesOn (next_or_end s t.line t.answer).state ts now

  -- the last turn, and no turn before it, ends the dialog, and the respondent is so then
  abbrev pub EndsAtLast : S → List Turn → S → Type 0
  EndsAtLast s [] last = ⊥
  EndsAtLast s (t ∷ []) last = IsAnswered s t.line t.answer last false
  EndsAtLast s (t ∷ follow ∷ ts) last = ((next_or_end s t.line t.answer).goes_on ≡ true)
      × EndsAtLast (next_or_end s t.line t.answer).state (follow ∷ ts) last

-- An answer to a line was added behind a text, and this is what comes of it: the respondent from there on, and whether
-- the dialog goes on.
abbrev pub Replies : {S : Type 0} → (S → List ℕ → List ℕ → Type 0) → (S → (line answer : List ℕ) → Next S) → S →
    (line old new : List ℕ) → S → Bool → Type 0
Replies says next s line old new after more = (answer : List ℕ) × says s line answer × (new ≡ old ++ answer)
    × (after ≡ (next s line answer).state) × (more ≡ (next s line answer).goes_on)

-- what is behind an answer: nothing, where it ends the dialog
abbrev pub IsBehind : (goes_on : Bool) → (List ℕ → Type 0) → (ends : Type 0) → List ℕ → Type 0
IsBehind true IsRest ends text = IsRest text
IsBehind false IsRest ends text = (text ≡ []) × ends

-- nothing is answered to the end of the input
abbrev pub SaysOrEnds : {S : Type 0} → (S → List ℕ → List ℕ → Type 0) → S → List ℕ → List ℕ → Type 0
SaysOrEnds says s [] text = text ≡ []
SaysOrEnds says s (b ∷ bs) text = says s (b ∷ bs) text

-- what passes of a turn that is broken off: a beginning of it, before its answer
abbrev pub IsTurnPart : {S : Type 0} → (S → List ℕ) → S → List ℕ → List Event → Type 0
IsTurnPart prompt s line events = (rest : List Event) × (events ++ rest ≡ said (prompt s) ∷ typed line ∷ [])

module _ {S : Type 0} (prompt : S → List ℕ) (says : S → List ℕ → List ℕ → Type 0) where
  -- what passes in a turn: the prompt, the line, and an answer
  abbrev pub IsTurn : S → Turn → List Event → Type 0
  IsTurn s t events = SaysOrEnds says s t.line t.answer
      × (events ≡ said (prompt s) ∷ typed t.line ∷ said t.answer ∷ [])

  -- what is shown of a turn that is broken off: a beginning of the prompt, or the prompt and a beginning of an answer
  abbrev pub IsTurnTextPart : S → List ℕ → List ℕ → Type 0
  IsTurnTextPart s line shown = ((rest : List ℕ) × (shown ++ rest ≡ prompt s))
      ⊎ ((part rest : List ℕ) × SaysOrEnds says s line (part ++ rest) × (shown ≡ prompt s ++ part))

  module _ (next : S → (line answer : List ℕ) → Next S) where
    -- what passes in these turns, one after the other
    abbrev pub AreTurns : S → List Turn → List Event → Type 0
    AreTurns s [] events = events ≡ []
    AreTurns s (t ∷ ts) events = (turn rest : List Event) × IsTurn s t turn
        × AreTurns (next_or_end next s t.line t.answer).state ts rest × (events ≡ turn ++ rest)

    -- a dialog has passed, after which the respondent is so: its turns
    abbrev pub IsDialog : S → (last : S) → (before after : Option (List Event)) → Type 0
    IsDialog s last before after = (turns : List Turn) × EndsAtLast next s turns last
        × (events : List Event) × AreTurns s turns events × PassesAll before after events

    -- a beginning of a dialog has passed: some turns, and a part of one more
    abbrev pub IsBrokenOff : S → (before after : Option (List Event)) → Type 0
    IsBrokenOff s before after = (turns : List Turn) × (now : S) × GoesOn next s turns now
        × (events : List Event) × AreTurns s turns events × (line : List ℕ) × (part : List Event)
        × IsTurnPart prompt now line part × PassesAll before after (events ++ part)

    -- What is shown for the lines of an input, after which the respondent is so: to each the prompt and its answer, up
    -- to the one that ends the dialog; and where no line does, one more prompt.
    abbrev pub IsTranscript : S → List (List ℕ) → (last : S) → List ℕ → Type 0
    IsTranscript s [] last text = (text ≡ prompt s) × (last ≡ s)
    IsTranscript s (line ∷ lines) last text = (answer rest : List ℕ) × SaysOrEnds says s line answer
        × IsBehind (next_or_end next s line answer).goes_on
        (IsTranscript (next_or_end next s line answer).state lines last)
        (last ≡ (next_or_end next s line answer).state) rest
        × (text ≡ (prompt s ++ answer) ++ rest)

    -- A beginning of that: the turns of some lines, and a part of the next one.
    abbrev pub IsTranscriptPart : S → List (List ℕ) → List ℕ → Type 0
    IsTranscriptPart s [] text = IsTurnTextPart s [] text
    IsTranscriptPart s (line ∷ lines) text = IsTurnTextPart s line text
        ⊎ ((answer rest : List ℕ) × SaysOrEnds says s line answer
        × ((next_or_end next s line answer).goes_on ≡ true)
        × IsTranscriptPart (next_or_end next s line answer).state lines rest
        × (text ≡ (prompt s ++ answer) ++ rest))

    -- a transcript of these lines was shown, and a beginning of one
    abbrev pub ShowsTranscript : S → List (List ℕ) → (last : S) → (before after : Option (List ℕ)) → Type 0
    ShowsTranscript s lines last before after =
        (text : List ℕ) × IsTranscript s lines last text × Appends before after text

    abbrev pub ShowsTranscriptPart : S → List (List ℕ) → (before after : Option (List ℕ)) → Type 0
    ShowsTranscriptPart s lines before after =
        (text : List ℕ) × IsTranscriptPart s lines text × Appends before after text
