-- `HistoriesAreExplained`: from what holds along the events to linearizations of the whole history.
use Rattle.std.proofs.Common.{◌≡◌, ◌-◌, ◌<◌, List, sym, arith, inl, inr, ◌∙◌, replicate}
use Rattle.std.specs.List.{AllByRecursion}
use Rattle.std.proofs.lemmas.List.Elements.{All-from_recursion, recursion_from_All}
use Rattle.snap_runs.specs.Operation.{EndedBefore, Operation}
use Rattle.snap_runs.proofs.Order.{Apart, all_pairs, keeps_order}
use Rattle.snap_judge.specs.History.{History, IsHistory}
use Rattle.snap_judge.specs.Linearizable.{IsLinearizationOf, IsOperationOf}
use Rattle.snap_judge.specs.Steps.{ExplainsHistory, Free, HistoriesAreExplained, Move, Taken, steps_of, taken}
use Rattle.snap_judge.proofs.ExplainedLists.{each_weaker, pairs_apart, pairs_by_recursion, replicated}
use Rattle.snap_judge.proofs.ExplainedTurns.{AreSound, first_slots}
use Rattle.snap_judge.proofs.ExplainedPasses.{MayBeTaken}
use Rattle.snap_judge.proofs.ExplainedEvents.{are_sound, goes}
use Rattle.snap_judge.proofs.SoundMoves.{sound_moves}
use Rattle.snap_judge.proofs.CompleteMoves.{complete_moves}

-- No operation ends before it is called.
not_before_itself : (h : History) → AreSound h → (o : Operation) → IsOperationOf h o → EndedBefore o o → ⊥
not_before_itself h sound o is ended =
    let late : o.call < ended.0 = sound.ends_later o ended.0 is ended.1 in
    let early : ended.0 < o.call = ended.2 in omega arith

-- What the moves of an explained history take is a linearization.
pub sound : (h : History) → IsHistory h → (moves : List Move) → ExplainsHistory h moves →
    IsLinearizationOf h (taken moves)
sound h is moves e =
    let laws = are_sound h is in
    let r = sound_moves h laws moves (steps_of h.events) 0 (replicate h.shape.w 0) (replicate h.shape.n Free)
    (goes h is) (first_slots h) e in
    let each : AllByRecursion (IsOperationOf h) (taken moves) =
    each_weaker (MayBeTaken h 0 (replicate h.shape.n Free)) (IsOperationOf h) (taken moves) (λ o m. m.0) r.fits.each in
    record {
      took_place = All-from_recursion (IsOperationOf h) (taken moves) each;
      once = λ i j d lt short. (all_pairs Apart (taken moves) r.pairs i j d lt short).0;
      complete = λ o its ended. elim (r.fits.has o ended.0 its ended.1 (omega arith)) [
        | inl held ↦ absurd (let no : Free ≡ Taken o = sym (replicated Free h.shape.n (o.process - 1)) ∙ held in cc)
        | inr has ↦ has
      ];
      order = keeps_order (taken moves)
          (each_weaker (IsOperationOf h) (λ o. EndedBefore o o → ⊥) (taken moves) (not_before_itself h laws) each)
          r.pairs;
      runs = r.runs;
    }

-- Each linearization is taken by moves that explain the history.
pub complete : (h : History) → IsHistory h → (os : List Operation) → IsLinearizationOf h os →
    (moves : List Move) × ExplainsHistory h moves × (taken moves ≡ os)
complete h is os l =
    let laws = are_sound h is in
    complete_moves h laws (steps_of h.events) 0 (goes h is) (replicate h.shape.w 0) (replicate h.shape.n Free) os
    (first_slots h)
    (record {
      fits = record {
        each = each_weaker (IsOperationOf h) (MayBeTaken h 0 (replicate h.shape.n Free)) os
            (λ o its. (its, inl (omega arith))) (recursion_from_All (IsOperationOf h) os l.took_place);
        has = λ y t its end le. inr (l.complete y its (t, end));
      };
      pairs = pairs_by_recursion Apart os (pairs_apart os l.once l.order);
      runs = l.runs;
    })

pub histories_are_explained : HistoriesAreExplained
histories_are_explained h is = record { sound = sound h is; complete = complete h is }
