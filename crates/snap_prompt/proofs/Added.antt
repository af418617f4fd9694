-- What the prompt has added is said, and what comes of it is what the definitions give.
use Rattle.std.proofs.Common.{◌≡◌, ◌+◌, ◌-◌, ◌^◌, ℕ, Bool, true, min, List, None, Some, IfOk, OnOk}
use Rattle.std.proofs.Common.{Option, Result, Ok, Err, ap, option_map, refl, sym, ◌∙◌}
use Rattle.snap_text.specs.Drafted.{Adds, Drafted}
use Rattle.snap_semantics.specs.declared.refusal.CommandRefusal.{CommandRefusal}
use Rattle.snap_prompt.specs.Ask.{ask_of}
use Rattle.snap_prompt.specs.SaveForm.{saving_of}
use Rattle.snap_prompt.specs.declared.ask.Ask.{Ask}
use Rattle.snap_prompt.specs.Prompt.{AddsReply, Prompt, SavesPrompt, answer_line, asked, counted, next_line}
use Rattle.snap_prompt.specs.Prompt.{next_where, saves_under, says}
use Rattle.snap_prompt.specs.Said.{IsAdded, IsSaid, Said, saved, text, why}
use Rattle.snap_prompt.specs.declared.question.Question.{Question}

-- something that is said
it_is_said : (s : Said) (old new : Drafted) → IsAdded s old new → (it : List ℕ) × IsSaid s it × Adds old new it
it_is_said (text x) old new adds = (x, refl, adds)
it_is_said (why r t) old new adds = adds
it_is_said (saved name) old new adds = adds

-- what was found is what is wanted: whether a line names a file
pub named : {A : Type 0} (view : A → List ℕ × Bool) (found o : Option A) (wanted : Option (List ℕ × Bool)) →
    option_map view found ≡ wanted → found ≡ o → wanted ≡ option_map view o
named view found o wanted e is = sym e ∙ ap (option_map view) is

-- the number of lines that were read
abbrev pub with_lines : ℕ → Prompt → Prompt
with_lines n p = record p { lines = n }

-- of a prompt v that is p: what it is with one line more
counts_line : (p v : Prompt) (n : ℕ) → v ≡ p → n ≡ min (v.lines + 1) (2 ^ 64 - 1) → counted p ≡ with_lines n v
counts_line p v n is counts = rw (← is, counts) refl

-- a line that names a file
pub saving_adds : (p v : Prompt) (line : List ℕ) (n : ℕ) (file : List ℕ × Bool) (old new : Drafted)
    (after : Prompt) (more : Bool) → v ≡ p → n ≡ min (v.lines + 1) (2 ^ 64 - 1) → v.question ≡ None →
    saving_of line ≡ Some file → SavesPrompt (with_lines n v) file.0 old new after → more ≡ true →
    AddsReply p line old new after more
unfolding answer_line
saving_adds p v line n file old new after more is counts none names saves on =
    let counted_so = counts_line p v n is counts in
    let unasked : p.question ≡ None = rw (← is) none in
    let says_so : answer_line p line ≡ says (counted p) (saved file.0) = cc in
    let next : next_line p line saves.0 ≡ next_where p (Some file.0) line saves.0 = cc in
    (saves.0, rw says_so saves.1, saves.2, rw (next, counted_so) saves.3, rw next on)

-- any other line
pub asked_adds : {E : Type 0} (done : Result Bool E) (p v : Prompt) (line : List ℕ) (n : ℕ)
    (r : Result Ask CommandRefusal) (old new : Drafted) (after : Prompt) → v ≡ p → n ≡ min (v.lines + 1) (2 ^ 64 - 1) →
    v.question ≡ None → saving_of line ≡ None → ask_of n line ≡ r →
    OnOk done (IsAdded (asked (with_lines n v) line r).said old new) →
    OnOk done (after ≡ (asked (with_lines n v) line r).state) →
    IfOk done (λ more. more ≡ (asked (with_lines n v) line r).goes_on) →
    IfOk done (λ more. AddsReply p line old new after more)
unfolding answer_line
asked_adds (Ok more) p v line n r old new after is counts none unnamed asks adds state on =
    let it = it_is_said (asked (with_lines n v) line r).said old new adds in
    let counted_so = counts_line p v n is counts in
    let unasked : p.question ≡ None = rw (← is) none in
    let asked_so : answer_line p line ≡ asked (with_lines n v) line r = cc in
    let under : saves_under p.question line ≡ None =
    ap (λ (o : Option Question). saves_under o line) unasked
    ∙ ap (λ (file : Option (List ℕ × Bool)). option_map (λ x. x.0) file) unnamed in
    let next : next_line p line it.0 ≡ next_where p None line it.0 =
    ap (λ (o : Option (List ℕ)). next_where p o line it.0) under in
    (it.0, rw asked_so it.1, it.2, rw (next, asked_so) state, rw (next, asked_so) on)
asked_adds (Err e) p v line n r old new after is counts none unnamed asks adds state on = tt
