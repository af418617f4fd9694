-- `CirclesRefute`: in a linearization each operation of a circle of reasons would stand before the next one, and so
-- before itself.
use Rattle.std.proofs.Common.{◌≡◌, ℕ, ◌-◌, ◌<◌, ◌≤◌, List, [], ◌∷◌, refl, ap, sym, arith}
use Rattle.std.proofs.Common.{inl, inr, ◌∙◌, Option, Some, None, replicate}
use Rattle.std.proofs.lemmas.Bool.{cases_lt}
use Rattle.std.proofs.lemmas.List.{get_or_default}
use Rattle.std.specs.List.{All}
use Rattle.snap_semantics.specs.declared.event.Event.{Event}
use Rattle.snap_semantics.specs.declared.event.Happening.TheVariants as what
use Rattle.snap_semantics.specs.declared.process.Op.TheVariants as op
use Rattle.snap_runs.specs.Operation.{Action, EndedBefore, HasEnded, Operation, Sees, Sets}
use Rattle.snap_runs.proofs.Computing.{neither_less}
use Rattle.snap_judge.specs.History.{History, IsHistory}
use Rattle.snap_judge.specs.Linearizable.{CameToEnd, IsLinearizationOf, IsOperationOf, called_as, event}
use Rattle.snap_judge.specs.Kept.{operation_of}
use Rattle.snap_judge.proofs.ExplainedEvents.{are_sound}
use Rattle.snap_judge.proofs.ExplainedLists.{replicated}
use Rattle.snap_judge_reasons.specs.declared.reason.Grounds.{Grounds}
use Rattle.snap_judge_reasons.specs.declared.reason.Grounds.TheVariants as grounds
use Rattle.snap_judge_reasons.specs.declared.reason.Reason.{Reason}
use Rattle.snap_judge_reasons.specs.Reasons.{AreGrounds, CirclesRefute, FromAnUpdate, FromTheBeginning, HasMissed}
use Rattle.snap_judge_reasons.specs.Reasons.{IsCircle, IsSetOnlyAt, IsChain, Shows, ShowsUnset}
use Rattle.snap_judge_reasons.specs.Reasons.{StoodBefore}
use Rattle.std.proofs.lemmas.List.Elements.{All-contains}
use Rattle.snap_judge_reasons.proofs.Origins.{IsAt, LastSet, comes}

-- A scan that a history tells of has ended.
scan_ended : (h : History) (s : Operation) (view : List ℕ) → IsOperationOf h s → s.action ≡ Sees view → HasEnded s
scan_ended h s view is sees = decided s.end refl (rw sees at is.came)
  where
    decided : (end : Option ℕ) → s.end ≡ end → CameToEnd h.events s.process s.call end (Sees view) → HasEnded s
    decided (Some t) stands came = (t, stands)
    decided None stands came = absurd came

module _ (h : History) (is : IsHistory h) (os : List Operation) (l : IsLinearizationOf h os) where
  told : (k : ℕ) (o : Operation) → IsAt os k o → IsOperationOf h o
  told k o stands = rw stands.1 at (l.took_place k o stands.0)

  once : (j k : ℕ) (o : Operation) → IsAt os j o → IsAt os k o → j < k → ⊥
  once j k o stands stands' lt = l.once j k o lt stands'.0 (ap (λ (z : Operation). z.call) (stands.1 ∙ sym stands'.1))

  one_place : (j k : ℕ) (o : Operation) → IsAt os j o → IsAt os k o → j ≡ k
  one_place j k o stands stands' = neither_less j k (once j k o stands stands') (once k j o stands' stands)

  in_order : (j k : ℕ) (a b : Operation) → IsAt os j a → IsAt os k b → EndedBefore a b → j < k
  in_order j k a b stands stands' ended =
      l.order j k a stands.0 stands'.0 (rw (stands.1, get_or_default os k a b stands'.0, stands'.1) ended)

  -- What holds of the call of each update of the word to the value holds of one that took place.
  of_setter : (Q : ℕ → Type 0) (m : ℕ) (o : Operation) (word value : ℕ) → IsAt os m o → o.action ≡ Sets word value →
      All (λ (e : Event). e.what ≡ what.Call (op.Update word value) → Q e.item) h.events → Q o.call
  of_setter Q m o word value stands sets all =
      All-contains (λ (e : Event). e.what ≡ what.Call (op.Update word value) → Q e.item) h.events
      (event o.process o.call (what.Call (called_as o.action))) all (told m o stands).called
      (ap (λ (a : Action). what.Call (called_as a)) sets)

  -- The one operation that sets the word to the value.
  only_setter : (m : ℕ) (o u : Operation) (word value : ℕ) → IsAt os m o → o.action ≡ Sets word value →
      IsOperationOf h u → IsSetOnlyAt h.events u.call word value → o ≡ u
  only_setter m o u word value stands sets its only =
      (are_sound h is).same_call o u (told m o stands) its (of_setter (λ c. c ≡ u.call) m o word value stands sets only)

  -- What a scan shows in a word, and is not 0, was set before it.
  set_before : (k : ℕ) (s : Operation) (view : List ℕ) (word value : ℕ) → IsAt os k s → s.action ≡ Sees view →
      Shows view word value → (value ≡ 0 → ⊥) → LastSet os k word value
  set_before k s view word value stands sees shows not_first =
      elim (comes (replicate h.shape.w 0) os k s view word value l.runs stands sees shows) [
        | inl last ↦ last
        | inr never ↦ absurd (not_first (sym never.1 ∙ replicated 0 h.shape.w (word - 1)))
      ]

  -- No scan shows a value that is never set.
  never_shown : (word value : ℕ) (s : Operation) → IsOperationOf h s → ShowsUnset h.events word value s → ⊥
  never_shown word value s its shown =
      let here = l.complete s its (scan_ended h s shown.view its shown.sees) in
      let last =
      set_before here.0 s shown.view word value (here.1, here.2) shown.sees shown.shows shown.not_first in
      of_setter (λ c. ⊥) last.place last.setter word value last.at last.sets shown.never

  -- The value that stood in the word before the update is not set behind it.
  not_again : (word value k : ℕ) (u : Operation) (j : ℕ) → IsAt os k u → StoodBefore h word value u →
      (last : LastSet os j word value) → k ≤ last.place → ⊥
  not_again word value k u j stands (FromTheBeginning none never) last le =
      of_setter (λ c. ⊥) last.place last.setter word 0 last.at (last.sets ∙ ap (Sets word) none) never
  not_again word value k u j stands (FromAnUpdate earlier its sets ended only) last le =
      let same : last.setter ≡ earlier =
      only_setter last.place last.setter earlier word value last.at last.sets its only in
      let before : last.place < k = in_order last.place k earlier u (rw same at last.at) stands ended in omega arith

  -- An update that was not seen does not stand before the scan.
  not_before : (s u : Operation) (j k : ℕ) → HasMissed h s u → IsAt os j s → IsAt os k u → k < j → ⊥
  not_before s u j k missed stands stands' lt =
      elim (comes (replicate h.shape.w 0) os j s missed.view missed.word missed.seen l.runs stands missed.sees missed.shows) [
        | inl last ↦ elim (cases_lt last.place k) [
          | inl less ↦ last.last k u missed.value less lt stands' missed.sets
          | inr le ↦ not_again missed.word missed.seen k u j stands' missed.stood last le
        ]
        | inr never ↦ never.0 k u missed.value (omega arith) lt stands' missed.sets
      ]

  missed_before : (s u : Operation) (j k : ℕ) → HasMissed h s u → IsAt os j s → IsAt os k u → j < k
  missed_before s u j k missed stands stands' =
      let other : j ≡ k → ⊥ = λ same. cc (get_or_default os k s u stands'.0) in
      let not_more : k < j → ⊥ = not_before s u j k missed stands stands' in
      omega arith

  -- The first operation of a reason stands somewhere, before the second one.
  reason_stands : (g : Grounds) (a b : Operation) → IsOperationOf h a → IsOperationOf h b → AreGrounds h g a b →
      (j : ℕ) × IsAt os j a × ((k : ℕ) → IsAt os k b → j < k)
  reason_stands grounds.Ended a b its its' ended =
      let here = l.complete a its (ended.0, ended.1) in
      (here.0, (here.1, here.2), λ k stands. in_order here.0 k a b (here.1, here.2) stands ended)
  reason_stands grounds.Saw a b its its' seen =
      let here = l.complete b its' (scan_ended h b seen.view its' seen.sees) in
      let last =
      set_before here.0 b seen.view seen.word seen.value (here.1, here.2) seen.sees seen.shows seen.not_first in (
        last.place,
        rw (only_setter last.place last.setter a seen.word seen.value last.at last.sets its seen.only) at last.at,
        λ k stands. let same : here.0 ≡ k = one_place here.0 k b (here.1, here.2) stands in omega (arith, last.before),
      )
  reason_stands grounds.Missed a b its its' missed =
      let here = l.complete a its (scan_ended h a missed.view its missed.sees) in
      (here.0, (here.1, here.2), λ k stands. missed_before a b here.0 k missed (here.1, here.2) stands)
  reason_stands (grounds.Unset word value) a b its its' shown = absurd (never_shown word value a its shown.1)

  -- The operation at which a chain begins stands before the one at which it ends, or is it.
  chained_from : (from : Operation) (rs : List Reason) (to : Operation) (k : ℕ) → IsChain h from rs to → IsAt os k to →
      (j : ℕ) × IsAt os j from × (j ≤ k)
  chained_from from [] to k chain stands = (k, rw chain stands, omega arith)
  chained_from from (r ∷ rs) to k chain stands =
      let reason = chain.1 in
      let rest = chained_from (operation_of r.second) rs to k chain.2 stands in
      let here = reason_stands r.grounds (operation_of r.first) (operation_of r.second) reason.first reason.second
      reason.grounds in
      let before : here.0 < rest.0 = here.2 rest.0 rest.1 in
      (here.0, rw (← chain.0) here.1, omega (arith, rest.2))

  no_circle : (rs : List Reason) → IsCircle h rs → ⊥
  no_circle [] circle = circle
  no_circle (r ∷ rs) circle =
      let reason = circle.1 in
      let here = reason_stands r.grounds (operation_of r.first) (operation_of r.second) reason.first reason.second
      reason.grounds in
      let rest = chained_from (operation_of r.second) rs (operation_of r.first) here.0 circle.2 here.1 in
      omega (arith, rest.2, here.2 rest.0 rest.1)

pub circles_refute : CirclesRefute
circles_refute h rs is circle linearizable = no_circle h is linearizable.0 linearizable.1 rs circle
