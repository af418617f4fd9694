-- A line is refused for the first token that is not right.
use Rattle.std.proofs.Common.{◌≡◌, ℕ, length, refl, sym, ap, ◌∙◌, subst, Bool, List, [], ◌∷◌, Option}
use Rattle.std.proofs.Common.{Some, None, Result, Ok, Err, nat_lt, if◌then◌else◌, arith, inl, inr}
use Rattle.std.proofs.lemmas.Bool.{cases_Bool, ltb-false, or_parts}
use Rattle.snap_semantics.specs.declared.instr.Instr.{Instr}
use Rattle.snap_semantics.specs.declared.instr.Line.{Line}
use Rattle.snap_semantics.specs.declared.refusal.ListingRefusal.{ListingRefusal}
use Rattle.snap_semantics.specs.declared.refusal.ListingRefusal.TheVariants as refusal
use Rattle.snap_semantics.specs.declared.text.Sort.{Sort}
use Rattle.snap_semantics.specs.Answers.{◌>>=◌}
use Rattle.snap_semantics.specs.ListingForms.{is_reserved, line_form}
use Rattle.snap_semantics.specs.Source.{Source}
use Rattle.snap_semantics.specs.Token.{Token}
use Rattle.snap_semantics.specs.Uses.{Use, Named, instr_uses}
use Rattle.snap_semantics.specs.Uses.{kind_has, sort_of, same_sort, use_of_sort, checked_use, checked_uses}
use Rattle.snap_listing.proofs.HasTerms.{Holds}
use Rattle.snap_listing.proofs.FoundForms.{LineIs, line_is}
use Rattle.snap_listing.proofs.SpelledTerms.{Shorts}
use Rattle.snap_explanation.specs.Pieces.{PlacedToken}
use Rattle.snap_reading_laws.specs.RefusedForToken.{check_of}
use Rattle.snap_explanation.specs.Misuse.{Misuse, is_right, right_or, step_at, goes_on}
use Rattle.snap_explanation.specs.Misuse.{first_wrong, wrong_in_form, wrong_in_line}
use Rattle.snap_explanation.specs.Names.{tokens_of_placed}
use Rattle.snap_explanation.specs.Sorts.{is_sort}
use Rattle.snap_explanation.specs.TokenUses.{use_at, slot_after, with_use, token_uses}
use Rattle.snap_explanation.specs.declared.token_uses.Slot.{Slot}
use Rattle.snap_explanation.specs.declared.token_uses.Slot.TheVariants as slot
use Rattle.snap_reading_laws.proofs.Lines.{instr_reads}
use Rattle.snap_reading_laws.proofs.SpokenTokens.{Spoken}

abbrev Done : Type 0
Done = Result (Unit {0}) ListingRefusal

-- a use that is not right ends the check
if_right : (b : Bool) (e : ListingRefusal) (later : Done) →
    (let r : Done = if b then Ok tt else Err e in (r >>= λ (done : Unit {0}). later) ≡ (if b then later else r))
if_right b e later = grind arith

sort_decides : (at : ℕ) (wanted : Sort) (o : Option Sort) (later : Done) →
    (use_of_sort at wanted o >>= λ (done : Unit {0}). later)
    ≡ (if is_sort wanted o then later else use_of_sort at wanted o)
sort_decides at wanted None later = refl
sort_decides at wanted (Some found) later = if_right (same_sort wanted found) (refusal.WrongKind at) later

use_decides : (s : Source) (at : ℕ) (u : Use) (later : Done) →
    (checked_use s at u >>= λ (done : Unit {0}). later) ≡ (if is_right s u then later else checked_use s at u)
use_decides s at (Named wanted x) later = sort_decides at wanted (sort_of s x) later
use_decides s at u later = if_right (kind_has s.kind u) (refusal.WrongKind at) later

-- one use before others
one_more : (s : Source) (at : ℕ) (t : PlacedToken) (next : Slot) (u : Option Use) (later : Slot → Option Misuse)
    (us : List Use) →
    checked_uses s at us ≡ check_of s at (later next) →
    checked_uses s at (with_use u us) ≡ check_of s at (goes_on later (right_or s t next u))
one_more s at t next None later us h = h
one_more s at t next (Some u) later us h =
    use_decides s at u (checked_uses s at us) ∙ elim (cases_Bool (is_right s u)) [
      | inl e ↦ rw e h
      | inr e ↦ rw e refl
    ]

-- what tokens speak of is refused for the first one that is not right
refused_for_first : (s : Source) (at : ℕ) (i : Instr) (here : Slot) (ts : List PlacedToken) →
    checked_uses s at (token_uses i here (tokens_of_placed ts)) ≡ check_of s at (first_wrong s i here ts)
unfolding step_at
refused_for_first s at i here [] = refl
refused_for_first s at i here (t ∷ ts) =
    one_more s at t (slot_after here t.token) (use_at i here t.token (tokens_of_placed ts))
    (λ next. first_wrong s i next ts)
    (token_uses i (slot_after here t.token) (tokens_of_placed ts))
    (refused_for_first s at i (slot_after here t.token) ts)

shorts : (us : List Use) → Spoken us → Shorts us
shorts [] n = tt
shorts (Named wanted x ∷ us) n =
    (ltb-false 8 (length x) (or_parts (nat_lt 8 (length x)) (is_reserved x) n.0.1).0, shorts us n.1)
shorts (u ∷ us) n = (tt, shorts us n.1)

found_line : (ts : List Token) (o : Option Line) (line : Line) → Holds (LineIs ts) o → o ≡ Some line → LineIs ts line
found_line ts o line h e = let P : Option Line → Type 0 = Holds (LineIs ts) in subst P e h

pub refused_for_token : (s : Source) (at : ℕ) (ts : List PlacedToken) (line : Line) →
    line_form s.kind (tokens_of_placed ts) ≡ Some line →
    Spoken (instr_uses line.instr) → checked_uses s at (instr_uses line.instr) ≡ check_of s at (wrong_in_line s ts)
refused_for_token s at ts line e n =
    let spelled =
    found_line (tokens_of_placed ts) (line_form s.kind (tokens_of_placed ts)) line
    (line_is s.kind (tokens_of_placed ts)) e (shorts (instr_uses line.instr) n) in
    let spoken : token_uses line.instr slot.Value (tokens_of_placed ts) ≡ instr_uses line.instr =
    ap (λ (us : List Token). token_uses line.instr slot.Value us) spelled ∙ instr_reads line.instr n in
    ap (λ (us : List Use). checked_uses s at us) (sym spoken) ∙ refused_for_first s at line.instr slot.Value ts
    ∙ ap (λ (o : Option Line). check_of s at (wrong_in_form s ts o)) (sym e)
