-- What was shown, and what has passed, of a dialog that was broken off.
use Rattle.std.proofs.Common.{◌≡◌, ℕ, ◌+◌, ◌-◌, ◌≤◌, List, [], ◌∷◌, ◌++◌, Option, Some, None, Bool, true, false}
use Rattle.std.proofs.Common.{Result, Ok, Err, length, take, drop, refl, sym, ap, ◌∙◌, subst, IfSome, arith}
use Rattle.std.proofs.Common.{append-nil, ◌==◌, if◌then◌else◌, inl, inr}
use Rattle.std.specs.Prelude.{IsErr, IsErrAnd, OnErr}
use Rattle.std.specs.Io.BufRead.{take_through, drop_through, DropsThrough}
use Rattle.std.specs.Io.KnownBytes.{Appends}
use Rattle.std.proofs.lemmas.Bool.{true≢false}
use Rattle.std.proofs.lemmas.List.{take-append-drop}
use Rattle.snap_streams.specs.Dialog.{IsBrokenOff, Next, SaysOrEnds, ShowsTranscriptPart}
use Rattle.snap_streams.specs.Event.{Event, said, typed, Passes, PassesAll, Shows, ShowsPart}
use Rattle.snap_streams.specs.Talks.{HasPassed, HasShown, HasTaken, PartPassed, PartShown, TurnShown}
use Rattle.snap_streams.specs.TypedLines.{GivesNext, kept, typed_lines}
use Rattle.snap_streams.specs.declared.dialog_fault.DialogFault.{DialogFault}
use Rattle.snap_streams.specs.declared.dialog_fault.DialogFault.TheVariants as fault
use Rattle.snap_streams.proofs.Dialogs.{all_pass, appends_nothing, appends_then, nothing_passes, one_passes}
use Rattle.snap_streams.proofs.Dialogs.{part_of_first}
use Rattle.snap_streams.specs.Sent.{Sends, unsent}
use Rattle.snap_streams.specs.State.{SinkState}
use Rattle.snap_streams.specs.declared.sending.Unsent.{Unsent}

-- what a sink has taken of a text that it did not take whole
pub sent_in_part : (answer : Result (Unit {0}) DialogFault) (e : Unsent) (text : List ℕ) (sink sink_after : SinkState)
    (P : DialogFault → Type 0) → IsErr answer × IsErrAnd answer P →
    Sends unsent (Err e) text sink sink_after → Shows answer sink.taken sink_after.taken text
sent_in_part (Ok done) e text sink sink_after P h sent = absurd h.1
sent_in_part (Err fault) e text sink sink_after P h sent =
    (take sent.0 text, drop sent.0 text, take-append-drop sent.0 text, sent.3)

-- one byte more
pub byte_taken : (count b : ℕ) (first left next : Option (List ℕ)) → HasTaken count first left →
    GivesNext (Some b) left next → HasTaken (count + 1) first next
byte_taken count b None left next h gives = tt
byte_taken count b (Some all) left next h gives =
    let t : GivesNext (Some b) (Some h.0) next = subst (λ o. GivesNext (Some b) o next) h.1 gives in
    let one : length h.0 ≡ length t.0 + 1 = ap length t.1 ∙ omega arith in
    (t.0, t.2, omega (arith, h.2, one))

-- a text that was put into an empty one
pub into_empty : (text empty added : List ℕ) → text ≡ empty ++ added → empty ≡ [] → text ≡ added
into_empty text empty added is none = is ∙ ap (λ t. t ++ added) none

-- what holds anyway holds of an error
pub on_err : {A : Type 0} {P : Type 0} (answer : Result A DialogFault) → P → OnErr answer P
on_err (Ok found) p = tt
on_err (Err fault) p = p

-- a turn of which nothing has passed, one whose prompt alone has passed, and one whose answer alone has not
pub none_passed : {S : Type 0} (prompt : S → List ℕ) (s : S) (u w : Option (List Event)) → w ≡ u →
    PartPassed prompt s u w
none_passed prompt s u w same =
    ([], [], (said (prompt s) ∷ typed [] ∷ [], refl), subst (λ o. PassesAll u o []) (sym same) (nothing_passes u))

pub prompt_alone : {S : Type 0} (prompt : S → List ℕ) (s : S) (u v w : Option (List Event)) (asked : List ℕ) →
    Passes u v (said asked) → w ≡ v → asked ≡ prompt s → PartPassed prompt s u w
prompt_alone prompt s u v w asked first same is_prompt = (
  [],
  said (prompt s) ∷ [],
  (typed [] ∷ [], refl),
  subst (λ o. PassesAll u o (said (prompt s) ∷ [])) (sym same)
      (one_passes u v (said (prompt s)) (subst (λ t. Passes u v (said t)) is_prompt first)),
)

pub answer_left : {S : Type 0} (prompt : S → List ℕ) (s : S) (u v w x : Option (List Event)) (asked line : List ℕ) →
    Passes u v (said asked) → Passes v w (typed line) → x ≡ w → asked ≡ prompt s → PartPassed prompt s u x
answer_left prompt s u v w x asked line first second same is_prompt = (
  line,
  said (prompt s) ∷ typed line ∷ [],
  ([], refl),
  subst (λ o. PassesAll u o (said (prompt s) ∷ typed line ∷ [])) (sym same)
      (all_pass u v w (said (prompt s) ∷ []) (typed line ∷ [])
      (one_passes u v (said (prompt s)) (subst (λ t. Passes u v (said t)) is_prompt first))
      (one_passes v w (typed line) second)),
)

module _ {S : Type 0} (prompt : S → List ℕ) (says : S → List ℕ → List ℕ → Type 0) where
  -- what a turn shows before its prompt, with a part of it, with all of it, and with a part of its answer
  pub shows_nothing : (s : S) (left u : Option (List ℕ)) → PartShown prompt says s left u u
  shows_nothing s None u = tt
  shows_nothing s (Some xs) u = ([], inl (prompt s, refl), appends_nothing u)

  pub shows_of_prompt : (s : S) (left u v : Option (List ℕ)) (asked : List ℕ) → ShowsPart u v asked →
      asked ≡ prompt s → PartShown prompt says s left u v
  shows_of_prompt s None u v asked h is_prompt = tt
  shows_of_prompt s (Some xs) u v asked h is_prompt = (h.0, inl (h.1, h.2 ∙ is_prompt), h.3)

  pub shows_prompt : (s : S) (left u v w : Option (List ℕ)) (asked : List ℕ) → Appends u v asked → w ≡ v →
      asked ≡ prompt s → PartShown prompt says s left u w
  shows_prompt s left u v w asked first same is_prompt =
      shows_of_prompt s left u w asked (asked, [], append-nil asked, subst (λ o. Appends u o asked) (sym same) first)
      is_prompt

  pub shows_of_answer : (s : S) (left after u v still w : Option (List ℕ)) (asked line same told blank : List ℕ) →
      Appends u v asked → asked ≡ prompt s → after ≡ left → IfSome after (λ xs. line ≡ kept (take_through 10 xs)) →
      still ≡ v → same ≡ line → ShowsPart still w told → blank ≡ [] → (answer : List ℕ) →
      SaysOrEnds says s same answer → told ≡ blank ++ answer → PartShown prompt says s left u w
  shows_of_answer s None after u v still w asked line same told blank first is_prompt at read is_still is_line second
      nothing answer says_so is_told = tt
  shows_of_answer s (Some xs) after u v still w asked line same told blank first is_prompt at read is_still is_line
      second nothing answer says_so is_told =
      let e : same ≡ kept (take_through 10 xs) =
      is_line ∙ subst (λ o. IfSome o (λ ys. line ≡ kept (take_through 10 ys))) at read in
      let is_text : answer ≡ second.0 ++ second.1 =
      sym (second.2 ∙ into_empty told blank answer is_told nothing) in
      let says_it : SaysOrEnds says s (kept (take_through 10 xs)) (second.0 ++ second.1) =
      subst (λ t. SaysOrEnds says s (kept (take_through 10 xs)) t) is_text
      (subst (λ l. SaysOrEnds says s l answer) e says_so) in (
        prompt s ++ second.0,
        inr (second.0, second.1, says_it, refl),
        appends_then u v w (prompt s) second.0 (subst (λ t. Appends u v t) is_prompt first)
            (subst (λ o. Appends o w second.0) is_still second.3),
      )

module _ {S : Type 0} (prompt : S → List ℕ) (says : S → List ℕ → List ℕ → Type 0)
    (next : S → List ℕ → List ℕ → Next S) where
  -- a dialog that is broken off within a turn, and between two turns
  pub within_turn : (s now : S) (u v w : Option (List Event)) → HasPassed prompt says next s now u v →
      PartPassed prompt now v w → IsBrokenOff prompt says next s u w
  within_turn s now u v w h t = (h.0, now, h.1, h.2, h.3, t.0, t.1, t.2, all_pass u v w h.2 t.1 h.4 t.3)

  pub between_turns : (s now : S) (u v : Option (List Event)) → HasPassed prompt says next s now u v →
      IsBrokenOff prompt says next s u v
  between_turns s now u v h = within_turn s now u v v h (none_passed prompt now v v refl)

  -- what is shown of a transcript within a turn, and between two turns
  pub shown_within : (s now : S) (first left u v w : Option (List ℕ)) →
      HasShown prompt says next s now first left u v → PartShown prompt says now left v w →
      IfSome first (λ input. ShowsTranscriptPart prompt says next s (typed_lines input) u w)
  shown_within s now None left u v w h shows = tt
  shown_within s now (Some all) left u v w h shows =
      let t : PartShown prompt says now (Some h.0) v w = subst (λ o. PartShown prompt says now o v w) h.1 shows in (
        h.2 ++ t.0,
        h.5 t.0 (part_of_first prompt says next now h.0 t.0 t.1),
        appends_then u v w h.2 t.0 h.3 t.2,
      )

  pub shown_between : (s now : S) (first left u v : Option (List ℕ)) → HasShown prompt says next s now first left u v →
      IfSome first (λ input. ShowsTranscriptPart prompt says next s (typed_lines input) u v)
  shown_between s now first left u v h = shown_within s now first left u v v h (shows_nothing prompt says now left v)

-- a turn that goes on takes one byte at least: only the end of the input is an empty line
one_of_two : (t : Bool) (xs ys : List ℕ) (n : ℕ) → length xs ≤ n → length ys ≤ n → length (if t then xs else ys) ≤ n
one_of_two true xs ys n p q = p
one_of_two false xs ys n p q = q

no_longer : (xs : List ℕ) → length (drop_through 10 xs) ≤ length xs
no_longer [] = omega arith
no_longer (x ∷ xs) =
    let less = one_of_two (x == 10) xs (drop_through 10 xs) (length xs) (omega arith) (no_longer xs) in
    let same : length (drop_through 10 (x ∷ xs)) ≡ length (if x == 10 then xs else drop_through 10 xs) = refl in
    omega (arith, less, same)

a_byte_less : (x : ℕ) (xs : List ℕ) → length (drop_through 10 (x ∷ xs)) ≤ length xs
a_byte_less x xs =
    let less = one_of_two (x == 10) xs (drop_through 10 xs) (length xs) (omega arith) (no_longer xs) in
    let same : length (drop_through 10 (x ∷ xs)) ≡ length (if x == 10 then xs else drop_through 10 xs) = refl in
    omega (arith, less, same)

pub turn_taken : {S : Type 0} (prompt : S → List ℕ) (says : S → List ℕ → List ℕ → Type 0)
    (next : S → List ℕ → List ℕ → Next S) (now later : S) (count : ℕ) (first left rest v w : Option (List ℕ)) (more : Bool) → HasTaken count first left →
    DropsThrough left rest 10 → TurnShown prompt says next now later more left v w → more ≡ true →
    HasTaken (count + 1) first rest
turn_taken prompt says next now later count None left rest v w more h drops shows on = tt
turn_taken {S} prompt says next now later count (Some all) left rest v w more h drops shows on =
    go h.0 h.2 (subst (λ o. DropsThrough o rest 10) h.1 drops)
    (subst (λ o. TurnShown prompt says next now later more o v w) h.1 shows) where
      go : (xs : List ℕ) → count + length xs ≤ length all → DropsThrough (Some xs) rest 10 →
          TurnShown prompt says next now later more (Some xs) v w → HasTaken (count + 1) (Some all) rest
      go [] fits drops shows = absurd (true≢false (sym on ∙ shows.1.1))
      go (b ∷ bs) fits drops shows =
          let less = a_byte_less b bs in (drop_through 10 (b ∷ bs), drops, omega (arith, fits, less))
