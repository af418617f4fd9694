-- `typed_text`: what is said behind the line that refuses a line at the prompt, where that is no request: of the prompt's
-- own words their forms, and else what `snaplab debug --explain` says of the command.
use Rattle.std.specs.Prelude.{ℕ, List, [], ◌∷◌, ◌++◌, Option, Some, None, nat_eq, if◌then◌else◌}
use Rattle.snap_semantics.specs.declared.refusal.CommandRefusal.{CommandRefusal}
use Rattle.snap_semantics.specs.declared.refusal.CommandRefusal.TheVariants as refusal
use Rattle.snap_semantics.specs.declared.refusal.Refusal.TheVariants as input
use Rattle.snap_explanation.specs.Advice.{first_word}
use Rattle.snap_explanation.specs.Explanation.{explanation, tokens_in}
use Rattle.snap_explanation.specs.Lost.{Place, lost_in}
use Rattle.snap_explanation.specs.Names.{tokens_of_placed}
use Rattle.snap_explanation.specs.Pieces.{PlacedToken, placed_of}
use Rattle.snap_explanation.specs.Said.{by_word, rows}
use Rattle.snap_explanation.specs.declared.layout.Layout.TheVariants as layout
use Rattle.snap_explanation.specs.declared.line_sorts.LineSort.TheVariants as line
use Rattle.snap_prompt.specs.Ask.{spelled_out}
use Rattle.snap_prompt.specs.declared.typed.TheConstants.{FORMS, OWN_WORDS}

-- what stands behind the first line of a text
abbrev pub behind_line : List ℕ → List ℕ
behind_line [] = []
behind_line (b ∷ bs) = if nat_eq b 10 then bs else behind_line bs

-- What is said of a refused command: the line, with a mark under the place where it is lost, what was expected there, and
-- advice. The first line of an explanation says where in an input that is, and a line that was typed is in none; so it is
-- explained as an input of its own, and that line is left out.
unfoldable pub command_text : List ℕ → List ℕ
command_text text = behind_line (explanation layout.NamedSchedule text (input.Commands (refusal.BadCommand 1)))

-- the prompt's own words, where the first token begins no command
abbrev pub own_words : Option Place → List ℕ
own_words None = []
own_words (Some at) = if nat_eq at.before 0 then OWN_WORDS.now else []

abbrev pub words_text : List PlacedToken → List ℕ
words_text [] = []
words_text (t ∷ ts) = own_words (lost_in line.Command (tokens_of_placed (t ∷ ts)))

-- the form of one of the prompt's own words, where there is one; and else what is said of a command
abbrev pub form_or_command : (form text : List ℕ) → List ℕ
form_or_command [] text = command_text text ++ words_text (tokens_in (placed_of text))
form_or_command (b ∷ bs) text = b ∷ bs

-- the form of one of the prompt's own words; nothing of another one
abbrev pub own_form : List ℕ → List ℕ
own_form word = by_word (rows FORMS.now) [] word

-- what is said of a line that is no request
unfoldable pub unread_text : List ℕ → List ℕ
unread_text typed = form_or_command (own_form (first_word (tokens_in (placed_of typed)))) (spelled_out typed)

-- what is said behind the line that refuses a line that was typed
abbrev pub typed_text : List ℕ → CommandRefusal → List ℕ
typed_text typed (refusal.BadCommand number) = unread_text typed
typed_text typed _ = []
