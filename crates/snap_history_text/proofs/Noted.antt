-- What the processes are at: as the code keeps it, and one process after another.
use Rattle.std.proofs.Common.{◌≡◌, ℕ, ◌+◌, ◌-◌, List, [], ◌∷◌, ◌++◌, length, replicate, sym, ap, ◌∙◌, slice_set}
use Rattle.std.proofs.lemmas.List.{length-map, length-set, map-append, map-set, replicate-append-replicate}
use Rattle.snap_semantics.specs.declared.event.Event.{Event}
use Rattle.snap_judge.specs.History.{Caller, caller_after}
use Rattle.snap_history_text.specs.HistoryText.{callers_behind}
use Rattle.snap_history_text.specs.ReaderSteps.{view_caller, view_callers}
use Rattle.snap_history_text.specs.declared.callers.Caller as code

-- one process more
pub one_more : (xs : List code.Caller) (y : code.Caller) (k : ℕ) (a : Caller) → view_callers xs ≡ replicate k a →
    view_caller y ≡ a → view_callers (xs ++ y ∷ []) ≡ replicate (k + 1) a
one_more xs y k a h e =
    map-append view_caller xs (y ∷ []) ∙ ap (λ ys. ys ++ view_caller y ∷ []) h ∙ ap (λ z. replicate k a ++ z ∷ []) e
    ∙ replicate-append-replicate k 1 a

-- one of them is noted anew
pub noted : (xs : List code.Caller) (y : code.Caller) (e : Event) → view_caller y ≡ caller_after e.what →
    view_callers (slice_set xs (e.process - 1) y) ≡ callers_behind (view_callers xs) e
noted xs y e is =
    map-set view_caller xs (e.process - 1) y ∙ ap (slice_set (view_callers xs) (e.process - 1)) is

-- there are as many processes as before the event
pub still_as_many : (xs ys : List code.Caller) (e : Event) → view_callers ys ≡ callers_behind (view_callers xs) e →
    length ys ≡ length xs
still_as_many xs ys e h =
    sym (length-map ys view_caller) ∙ ap length h
    ∙ length-set (view_callers xs) (e.process - 1) (caller_after e.what) ∙ length-map xs view_caller
