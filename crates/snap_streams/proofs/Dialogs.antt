-- Turns, one after the other, are a dialog, and what is shown in them is a transcript of it.
use Rattle.std.proofs.Common.{◌≡◌, ℕ, List, [], ◌∷◌, ◌++◌, Option, Some, None, Bool, true, false, if◌then◌else◌, ◌==◌}
use Rattle.std.proofs.Common.{refl, sym, ap, ◌∙◌, subst, append_assoc, append-nil, IfSome, inl, inr}
use Rattle.std.specs.Prelude.{map}
use Rattle.std.specs.Io.KnownBytes.{Appends}
use Rattle.std.specs.Io.BufRead.{take_through, drop_through, DropsThrough}
use Rattle.std.proofs.lemmas.Bool.{true≢false}
use Rattle.snap_streams.specs.Dialog.{Replies, AreTurns, EndsAtLast, GoesOn, IsAnswered, IsBehind, IsDialog, IsTranscript}
use Rattle.snap_streams.specs.Dialog.{IsTranscriptPart, IsTurn, IsTurnTextPart, Next, SaysOrEnds}
use Rattle.snap_streams.specs.Dialog.{ShowsTranscript, Turn, next_or_end}
use Rattle.snap_streams.specs.Event.{Event, said, typed, Passes, PassesAll}
use Rattle.snap_streams.specs.Talks.{HasPassed, HasShown, TurnPassed, TurnShown}
use Rattle.snap_streams.specs.TypedLines.{kept, onto_first, typed_lines, whole_lines}

-- texts shown one after the other
pub appends_then : (u v w : Option (List ℕ)) (a b : List ℕ) → Appends u v a → Appends v w b → Appends u w (a ++ b)
appends_then None v w a b x y = tt
appends_then (Some xs) None w a b x y = absurd x
appends_then (Some xs) (Some ys) None a b x y = absurd y
appends_then (Some xs) (Some ys) (Some zs) a b x y = y ∙ ap (λ (t : List ℕ). t ++ b) x ∙ append_assoc xs a b

pub appends_nothing : (u : Option (List ℕ)) → Appends u u []
appends_nothing None = tt
appends_nothing (Some xs) = sym (append-nil xs)

-- events that passed one after the other
pub one_passes : (u v : Option (List Event)) (e : Event) → Passes u v e → PassesAll u v (e ∷ [])
one_passes None v e h = tt
one_passes (Some xs) None e h = absurd h
one_passes (Some xs) (Some ys) e h = h

pub all_pass : (u v w : Option (List Event)) (a b : List Event) → PassesAll u v a → PassesAll v w b → PassesAll u w
    (a ++ b)
all_pass None v w a b x y = tt
all_pass (Some xs) None w a b x y = absurd x
all_pass (Some xs) (Some ys) None a b x y = absurd y
all_pass (Some xs) (Some ys) (Some zs) a b x y = y ∙ ap (λ (t : List Event). t ++ b) x ∙ append_assoc xs a b

pub nothing_passes : (u : Option (List Event)) → PassesAll u u []
nothing_passes None = tt
nothing_passes (Some xs) = sym (append-nil xs)

-- three events
three_pass : (u v w x : Option (List Event)) (p l r : List ℕ) → Passes u v (said p) → Passes v w (typed l) →
    Passes w x (said r) → PassesAll u x (said p ∷ typed l ∷ said r ∷ [])
three_pass u v w x p l r a b c =
    all_pass u v x (said p ∷ []) (typed l ∷ said r ∷ []) (one_passes u v (said p) a)
    (all_pass v w x (typed l ∷ []) (said r ∷ []) (one_passes v w (typed l) b) (one_passes w x (said r) c))

-- the first line, and the lines of the rest
first_of_lines : (b : ℕ) (bs : List ℕ) →
    whole_lines (b ∷ bs) ≡ take_through 10 (b ∷ bs) ∷ whole_lines (drop_through 10 (b ∷ bs))
first_of_lines b [] =
    elim (b == 10) as (λ (t : Bool). (if t then (b ∷ []) ∷ [] else onto_first b [])
    ≡ (if t then b ∷ [] else b ∷ []) ∷ whole_lines (if t then [] else [])) [ true ↦ refl | false ↦ refl ]
first_of_lines b (c ∷ cs) = elim (b == 10)
    as (λ (t : Bool). (if t then (b ∷ []) ∷ whole_lines (c ∷ cs) else onto_first b (whole_lines (c ∷ cs)))
    ≡ (if t then b ∷ [] else b ∷ take_through 10 (c ∷ cs))
    ∷ whole_lines (if t then c ∷ cs else drop_through 10 (c ∷ cs))) [
      | true ↦ refl
      | false ↦ ap (onto_first b) (first_of_lines c cs)
    ]

-- what was added to a text, said of a copy of it
pub of_copy : {S : Type 0} (says : S → List ℕ → List ℕ → Type 0) (next : S → List ℕ → List ℕ → Next S)
    (now later : S) (line told written blank : List ℕ) (more : Bool) → told ≡ written →
    Replies (SaysOrEnds says) (next_or_end next) now line blank written later more →
    Replies (SaysOrEnds says) (next_or_end next) now line blank told later more
of_copy says next now later line told written blank more is h = (h.0, h.1, is ∙ h.2, h.3, h.4)

-- what holds of a first line and the lines of the rest holds of the typed lines
by_first_line : (P : List (List ℕ) → Type 0) (b : ℕ) (bs : List ℕ) →
    P (kept (take_through 10 (b ∷ bs)) ∷ typed_lines (drop_through 10 (b ∷ bs))) → P (typed_lines (b ∷ bs))
by_first_line P b bs h = subst (λ lines. P (map kept lines)) (sym (first_of_lines b bs)) h

module _ {S : Type 0} (prompt : S → List ℕ) (says : S → List ℕ → List ℕ → Type 0)
    (next : S → List ℕ → List ℕ → Next S) where
  -- a turn that goes on, before a transcript of the rest
  turn_then : (now later last : S) (xs answer more : List ℕ) →
      IsAnswered next now (kept (take_through 10 xs)) answer later true →
      SaysOrEnds says now (kept (take_through 10 xs)) answer →
      IsTranscript prompt says next later (typed_lines (drop_through 10 xs)) last more →
      IsTranscript prompt says next now (typed_lines xs) last ((prompt now ++ answer) ++ more)
  turn_then now later last [] answer more a told rest = absurd (true≢false a.1)
  turn_then now later last (b ∷ bs) answer more a told rest =
      let after = next_or_end next now (kept (take_through 10 (b ∷ bs))) answer in
      let lines = typed_lines (drop_through 10 (b ∷ bs)) in
      let behind : IsTranscript prompt says next after.state lines last more =
      subst (λ x. IsTranscript prompt says next x lines last more) a.0 rest in
      by_first_line (λ all. IsTranscript prompt says next now all last ((prompt now ++ answer) ++ more)) b bs (
        answer,
        more,
        told,
        subst (λ (g : Bool).
            IsBehind g (IsTranscript prompt says next after.state lines last) (last ≡ after.state) more) a.1 behind,
        refl,
      )

  -- before a beginning of one
  turn_then_part : (now later : S) (xs answer more : List ℕ) →
      IsAnswered next now (kept (take_through 10 xs)) answer later true →
      SaysOrEnds says now (kept (take_through 10 xs)) answer →
      IsTranscriptPart prompt says next later (typed_lines (drop_through 10 xs)) more →
      IsTranscriptPart prompt says next now (typed_lines xs) ((prompt now ++ answer) ++ more)
  turn_then_part now later [] answer more a told rest = absurd (true≢false a.1)
  turn_then_part now later (b ∷ bs) answer more a told rest =
      let lines = typed_lines (drop_through 10 (b ∷ bs)) in
      by_first_line (λ all. IsTranscriptPart prompt says next now all ((prompt now ++ answer) ++ more)) b bs (inr (
        answer,
        more,
        told,
        sym a.1,
        subst (λ x. IsTranscriptPart prompt says next x lines more) a.0 rest,
        refl,
      ))

  -- a turn that does not go on
  turn_last : (now later : S) (xs answer : List ℕ) →
      IsAnswered next now (kept (take_through 10 xs)) answer later false →
      SaysOrEnds says now (kept (take_through 10 xs)) answer →
      IsTranscript prompt says next now (typed_lines xs) later (prompt now ++ answer)
  turn_last now later [] answer a told = (ap (λ t. prompt now ++ t) told ∙ append-nil (prompt now), a.0)
  turn_last now later (b ∷ bs) answer a told =
      let after = next_or_end next now (kept (take_through 10 (b ∷ bs))) answer in
      let lines = typed_lines (drop_through 10 (b ∷ bs)) in
      by_first_line (λ all. IsTranscript prompt says next now all later (prompt now ++ answer)) b bs (
        answer,
        [],
        told,
        subst (λ (g : Bool).
            IsBehind g (IsTranscript prompt says next after.state lines later) (later ≡ after.state) []) a.1
            (refl, a.0),
        sym (append-nil (prompt now ++ answer)),
      )

  -- a part of a turn
  pub part_of_first : (now : S) (xs text : List ℕ) →
      IsTurnTextPart prompt says now (kept (take_through 10 xs)) text →
      IsTranscriptPart prompt says next now (typed_lines xs) text
  part_of_first now [] text h = h
  part_of_first now (b ∷ bs) text h =
      by_first_line (λ all. IsTranscriptPart prompt says next now all text) b bs (inl h)

  -- before the first turn
  pub shown_first : (s : S) (first before : Option (List ℕ)) →
      HasShown prompt says next s s first first before before
  shown_first s None before = tt
  shown_first s (Some all) before = (all, refl, [], appends_nothing before, λ more last h. h, λ more h. h)

  -- a turn that goes on, and one that does not
  pub shown_more : (s now later : S) (first left rest u v w : Option (List ℕ)) (more : Bool) →
      HasShown prompt says next s now first left u v → DropsThrough left rest 10 →
      TurnShown prompt says next now later more left v w → more ≡ true →
      HasShown prompt says next s later first rest u w
  shown_more s now later None left rest u v w more h drops shows on = tt
  shown_more s now later (Some all) left rest u v w more h drops shows on =
      let t : TurnShown prompt says next now later true (Some h.0) v w =
      subst (λ b. TurnShown prompt says next now later b (Some h.0) v w) on
      (subst (λ o. TurnShown prompt says next now later more o v w) h.1 shows) in
      let turn = prompt now ++ t.0 in (
        drop_through 10 h.0,
        subst (λ o. DropsThrough o rest 10) h.1 drops,
        h.2 ++ turn,
        appends_then u v w h.2 turn h.3 t.3,
        λ x last is.
            subst (λ y. IsTranscript prompt says next s (typed_lines all) last y) (sym (append_assoc h.2 turn x))
            (h.4 (turn ++ x) last (turn_then now later last h.0 t.0 x t.1 t.2 is)),
        λ x is. subst (λ y. IsTranscriptPart prompt says next s (typed_lines all) y) (sym (append_assoc h.2 turn x))
            (h.5 (turn ++ x) (turn_then_part now later h.0 t.0 x t.1 t.2 is)),
      )

  pub shown_all : (s now later : S) (first left u v w : Option (List ℕ)) (more : Bool) →
      HasShown prompt says next s now first left u v → TurnShown prompt says next now later more left v w →
      more ≡ false → IfSome first (λ input. ShowsTranscript prompt says next s (typed_lines input) later u w)
  shown_all s now later None left u v w more h shows off = tt
  shown_all s now later (Some all) left u v w more h shows off =
      let t : TurnShown prompt says next now later false (Some h.0) v w =
      subst (λ b. TurnShown prompt says next now later b (Some h.0) v w) off
      (subst (λ o. TurnShown prompt says next now later more o v w) h.1 shows) in
      let turn = prompt now ++ t.0 in
      (h.2 ++ turn, h.4 turn later (turn_last now later h.0 t.0 t.1 t.2), appends_then u v w h.2 turn h.3 t.3)

  -- some turns and one more
  turns_more : (s now : S) (turns : List Turn) (t : Turn) (events turn : List Event) →
      GoesOn next s turns now → AreTurns prompt says next s turns events → IsTurn prompt says now t turn →
      AreTurns prompt says next s (turns ++ t ∷ []) (events ++ turn)
  turns_more s now [] t events turn h are is = (
    turn,
    [],
    subst (λ x. IsTurn prompt says x t turn) h is,
    refl,
    ap (λ es. es ++ turn) are ∙ sym (append-nil turn),
  )
  turns_more s now (first ∷ turns) t events turn h are is = (
    are.0,
    are.1 ++ turn,
    are.2,
    turns_more (next_or_end next s first.line first.answer).state now turns t are.1 turn h.1 are.3 is,
    ap (λ es. es ++ turn) are.4 ∙ append_assoc are.0 are.1 turn,
  )

  goes_on_more : (s now later : S) (turns : List Turn) (t : Turn) → GoesOn next s turns now →
      IsAnswered next now t.line t.answer later true → GoesOn next s (turns ++ t ∷ []) later
  goes_on_more s now later [] t h a = subst (λ x. GoesOn next x (t ∷ []) later) h (sym a.1, a.0)
  goes_on_more s now later (first ∷ turns) t h a =
      (h.0, goes_on_more (next_or_end next s first.line first.answer).state now later turns t h.1 a)

  ends_at_last : (s now later : S) (turns : List Turn) (t : Turn) → GoesOn next s turns now →
      IsAnswered next now t.line t.answer later false → EndsAtLast next s (turns ++ t ∷ []) later
  ends_at_last s now later [] t h a = subst (λ x. EndsAtLast next x (t ∷ []) later) h a
  ends_at_last s now later (first ∷ []) t h a =
      (h.0, ends_at_last (next_or_end next s first.line first.answer).state now later [] t h.1 a)
  ends_at_last s now later (first ∷ follow ∷ turns) t h a = (
    h.0,
    ends_at_last (next_or_end next s first.line first.answer).state now later (follow ∷ turns) t h.1 a,
  )

  pub passed_first : (s : S) (u : Option (List Event)) → HasPassed prompt says next s s u u
  passed_first s u = ([], refl, [], refl, nothing_passes u)

  pub passed_more : (s now later : S) (u v w : Option (List Event)) (more : Bool) →
      HasPassed prompt says next s now u v → TurnPassed prompt says next now later more v w → more ≡ true →
      HasPassed prompt says next s later u w
  passed_more s now later u v w more h t on = (
    h.0 ++ t.0 ∷ [],
    goes_on_more s now later h.0 t.0 h.1 (subst (λ b. IsAnswered next now t.0.line t.0.answer later b) on t.1),
    h.2 ++ t.2,
    turns_more s now h.0 t.0 h.2 t.2 h.1 h.3 t.3,
    all_pass u v w h.2 t.2 h.4 t.4,
  )

  pub passed_all : (s now later : S) (u v w : Option (List Event)) (more : Bool) →
      HasPassed prompt says next s now u v → TurnPassed prompt says next now later more v w → more ≡ false →
      IsDialog prompt says next s later u w
  passed_all s now later u v w more h t off = (
    h.0 ++ t.0 ∷ [],
    ends_at_last s now later h.0 t.0 h.1 (subst (λ b. IsAnswered next now t.0.line t.0.answer later b) off t.1),
    h.2 ++ t.2,
    turns_more s now h.0 t.0 h.2 t.2 h.1 h.3 t.3,
    all_pass u v w h.2 t.2 h.4 t.4,
  )

  -- one turn: the prompt, and an answer to the line that was read, each put into an empty text
  pub turn_passed : (now later : S) (more : Bool) (u v w x : Option (List Event))
      (asked line same told empty blank : List ℕ) → empty ≡ [] → blank ≡ [] → asked ≡ empty ++ prompt now →
      same ≡ line → Passes u v (said asked) → Passes v w (typed line) → Passes w x (said told) →
      Replies (SaysOrEnds says) (next_or_end next) now same blank told later more →
      TurnPassed prompt says next now later more u x
  turn_passed now later more u v w x asked line same told empty blank none nothing is_prompt is_line first second third
      adds =
      let p : asked ≡ prompt now = is_prompt ∙ ap (λ t. t ++ prompt now) none in
      let a : told ≡ adds.0 = adds.2 ∙ ap (λ t. t ++ adds.0) nothing in (
        record { line = line; answer = adds.0 },
        subst (λ l. IsAnswered next now l adds.0 later more) is_line (adds.3, adds.4),
        said (prompt now) ∷ typed line ∷ said adds.0 ∷ [],
        (subst (λ l. SaysOrEnds says now l adds.0) is_line adds.1, refl),
        three_pass u v w x (prompt now) line adds.0 (subst (λ t. Passes u v (said t)) p first) second
            (subst (λ t. Passes w x (said t)) a third),
      )

  pub turn_shown : (now later : S) (more : Bool) (left after u v still w : Option (List ℕ))
      (asked line same told empty blank : List ℕ) → empty ≡ [] → blank ≡ [] → asked ≡ empty ++ prompt now →
      same ≡ line → Appends u v asked → after ≡ left → IfSome after (λ xs. line ≡ kept (take_through 10 xs)) →
      still ≡ v → Appends still w told →
      Replies (SaysOrEnds says) (next_or_end next) now same blank told later more →
      TurnShown prompt says next now later more left u w
  turn_shown now later more None after u v still w asked line same told empty blank none nothing is_prompt is_line
      first at read is_still second adds = tt
  turn_shown now later more (Some xs) after u v still w asked line same told empty blank none nothing is_prompt is_line
      first at read is_still second adds =
      let e : same ≡ kept (take_through 10 xs) =
      is_line ∙ subst (λ o. IfSome o (λ ys. line ≡ kept (take_through 10 ys))) at read in
      let p : asked ≡ prompt now = is_prompt ∙ ap (λ t. t ++ prompt now) none in
      let a : told ≡ adds.0 = adds.2 ∙ ap (λ t. t ++ adds.0) nothing in
      let shown : Appends v w adds.0 =
      subst (λ o. Appends o w adds.0) is_still (subst (λ t. Appends still w t) a second) in (
        adds.0,
        subst (λ l. IsAnswered next now l adds.0 later more) e (adds.3, adds.4),
        subst (λ l. SaysOrEnds says now l adds.0) e adds.1,
        appends_then u v w (prompt now) adds.0 (subst (λ t. Appends u v t) p first) shown,
      )
