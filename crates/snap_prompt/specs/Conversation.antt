-- What comes of a dialog at the debugger's prompt: what passes at its console and is shown there, and what its folder has
-- kept then.
use Rattle.std.specs.Prelude.{◌≡◌, ℕ, List, Option}
use Rattle.snap_streams.specs.Dialog.{IsDialog, ShowsTranscript, ShowsTranscriptPart}
use Rattle.snap_streams.specs.Event.{Event}
use Rattle.snap_streams.specs.Folder.{Kept}
use Rattle.snap_prompt.specs.Prompt.{Prompt, Says, next_line, prompt_text}

-- A dialog that begins so has passed, and what the folder has kept is what the prompt at its end says: what was kept
-- before, and behind it the text of the schedule then for each line that saved it, under the name in that line.
abbrev pub Passes : Prompt → (passed passed_after : Option (List Event)) → (kept_after : Option (List Kept)) → Type 0
Passes p passed passed_after kept_after = (last : Prompt)
    × IsDialog prompt_text Says next_line p last passed passed_after × (kept_after ≡ last.kept)

-- A transcript of these lines was shown, of a dialog that begins so, and the folder has kept what that says.
abbrev pub ShowsAll : Prompt → (lines : List (List ℕ)) → (shown shown_after : Option (List ℕ)) →
    (kept_after : Option (List Kept)) → Type 0
ShowsAll p lines shown shown_after kept_after = (last : Prompt)
    × ShowsTranscript prompt_text Says next_line p lines last shown shown_after × (kept_after ≡ last.kept)

-- A beginning of a transcript was shown.
abbrev pub ShowsSome : Prompt → (lines : List (List ℕ)) → (shown shown_after : Option (List ℕ)) → Type 0
ShowsSome p lines shown shown_after = ShowsTranscriptPart prompt_text Says next_line p lines shown shown_after
