-- A line that has the form of a debugger command is not lost (`lost_in` finds no place).
use Rattle.std.proofs.Common.{◌≡◌, ℕ, List, [], ◌∷◌, None, codes}
use Rattle.snap_words.specs.declared.address.Address.{Address}
use Rattle.snap_semantics.specs.Rules.{number_at, keyword_at, end_at}
use Rattle.snap_semantics.specs.Token.{Token, Identifier, Number}
use Rattle.snap_debug_commands.specs.CommandForms.{keyword_form, number_form, numbers_form, place_form, bit_form}
use Rattle.snap_debug_commands.specs.CommandForms.{address_form, breakpoint_form, register_form, moving_form}
use Rattle.snap_debug_commands.specs.CommandForms.{marking_form, showing_form, command_form}
use Rattle.snap_debug_commands.specs.declared.command.Breakpoint.{Breakpoint}
use Rattle.snap_debug_commands.specs.declared.command.Command.{Command}
use Rattle.snap_listing.proofs.HasTerms.{Holds, then_with, either}
use Rattle.snap_listing.proofs.SpelledTerms.{NumberIs, number_is, KeywordIs, keyword_is, EndIs, end_is}
use Rattle.snap_explanation.specs.declared.line_sorts.LineSort.TheVariants as line
use Rattle.snap_explanation.specs.Grammar.{singles, values, written, instructions, commands, class_forms, fronts}
use Rattle.snap_explanation.specs.Grammar.{options}
use Rattle.snap_explanation.specs.Lost.{lost_in}
use Rattle.snap_reading_laws.proofs.Forms.{mapped, holds_more}

-- what holds of all tokens that a form finds, holds of those where it finds something
module _ (P : List Token → Type 0) where
  keyword_goes : (w : List ℕ) → P (Identifier w ∷ []) → (ts : List Token) →
      Holds (λ (x : Unit {0}). P ts) (keyword_form w ts)
  unfolding keyword_form
  keyword_goes w h ts =
      let Q = λ (x : Unit {0}). P ts in
      then_with (KeywordIs w ts) Q (keyword_at w ts) _ (keyword_is w ts) (λ a e.
      holds_more (EndIs a) Q (end_at a) (end_is a) (λ z g. rw (e, g) h))

  number_goes : (w : List ℕ) → ((k : ℕ) → P (Identifier w ∷ Number k ∷ [])) → (ts : List Token) →
      Holds (λ (k : ℕ). P ts) (number_form w ts)
  unfolding number_form
  number_goes w h ts =
      let Q = λ (k : ℕ). P ts in
      then_with (KeywordIs w ts) Q (keyword_at w ts) _ (keyword_is w ts) (λ a e.
      then_with (NumberIs a) Q (number_at a) _ (number_is a) (λ k f.
      then_with (EndIs k.1) Q (end_at k.1) _ (end_is k.1) (λ z g. rw (e, f, g) (h k.0))))

  numbers_go : (w : List ℕ) → ((i j : ℕ) → P (Identifier w ∷ Number i ∷ Number j ∷ [])) → (ts : List Token) →
      Holds (λ (k : ℕ × ℕ). P ts) (numbers_form w ts)
  unfolding numbers_form
  numbers_go w h ts =
      let Q = λ (k : ℕ × ℕ). P ts in
      then_with (KeywordIs w ts) Q (keyword_at w ts) _ (keyword_is w ts) (λ a e.
      then_with (NumberIs a) Q (number_at a) _ (number_is a) (λ i f.
      then_with (NumberIs i.1) Q (number_at i.1) _ (number_is i.1) (λ j g.
      then_with (EndIs j.1) Q (end_at j.1) _ (end_is j.1) (λ z u. rw (e, f, g, u) (h i.0 j.0)))))

  breakpoint_goes : (w : List ℕ) → ((i j : ℕ) → P (Identifier w ∷ Number i ∷ Number j ∷ [])) → (ts : List Token) →
      Holds (λ (b : Breakpoint). P ts) (breakpoint_form w ts)
  unfolding breakpoint_form
  breakpoint_goes w h ts =
      then_with (λ (k : ℕ × ℕ). P ts) (λ (b : Breakpoint). P ts) (numbers_form w ts) _ (numbers_go w h ts) (λ k g. g)

  address_goes : ((k : ℕ) → P (Identifier (codes "r") ∷ Number k ∷ [])) →
      ((i j : ℕ) → P (Identifier (codes "q") ∷ Number i ∷ Number j ∷ []))
      → ((i j : ℕ) → P (Identifier (codes "p") ∷ Number i ∷ Number j ∷ [])) →
      ((k : ℕ) → P (Identifier (codes "v") ∷ Number k ∷ []))
      → (ts : List Token) → Holds (λ (a : Address). P ts) (address_form ts)
  unfolding address_form place_form bit_form
  address_goes hr hq hp hv ts =
      let Q = λ (a : Address). P ts in
      either Q _ _
      (then_with (λ (k : ℕ). P ts) Q (number_form (codes "r") ts) _ (number_goes (codes "r") hr ts) (λ k g. g))
      (either Q _ _
      (then_with (λ (k : ℕ × ℕ). P ts) Q (numbers_form (codes "q") ts) _ (numbers_go (codes "q") hq ts) (λ k g. g))
      (either Q _ _
      (then_with (λ (k : ℕ × ℕ). P ts) Q (numbers_form (codes "p") ts) _ (numbers_go (codes "p") hp ts) (λ k g. g))
      (then_with (λ (k : ℕ). P ts) Q (number_form (codes "v") ts) _ (number_goes (codes "v") hv ts) (λ k g. g))))

abbrev CommandNotLost : List Token → Type 0
CommandNotLost ts = lost_in line.Command ts ≡ None

-- a register behind a word
register_goes : (w : List ℕ) → ((k : ℕ) → CommandNotLost (Identifier w ∷ Identifier (codes "r") ∷ Number k ∷ []))
    → ((i j : ℕ) → CommandNotLost (Identifier w ∷ Identifier (codes "q") ∷ Number i ∷ Number j ∷ []))
    → ((i j : ℕ) → CommandNotLost (Identifier w ∷ Identifier (codes "p") ∷ Number i ∷ Number j ∷ []))
    → ((k : ℕ) → CommandNotLost (Identifier w ∷ Identifier (codes "v") ∷ Number k ∷ []))
    → (ts : List Token) → Holds (λ (a : Address). CommandNotLost ts) (register_form w ts)
unfolding register_form
register_goes w hr hq hp hv ts =
    then_with (KeywordIs w ts) (λ (a : Address). CommandNotLost ts) (keyword_at w ts) _ (keyword_is w ts) (λ rest e.
    holds_more (λ (a : Address). CommandNotLost (Identifier w ∷ rest))
    (λ (a : Address). CommandNotLost ts) (address_form rest)
    (address_goes (λ (x : List Token). CommandNotLost (Identifier w ∷ x)) hr hq hp hv rest) (λ a h. rw e h))

pub command_goes : (ts : List Token) → Holds (λ (c : Command). CommandNotLost ts) (command_form ts)
unfolding command_form moving_form marking_form showing_form singles values written instructions commands class_forms
    fronts options
command_goes ts = search (
  either,
  mapped,
  keyword_goes CommandNotLost,
  number_goes CommandNotLost,
  breakpoint_goes CommandNotLost,
  register_goes,
) depth 9
