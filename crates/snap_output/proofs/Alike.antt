-- The program refuses to trace an input exactly where it refuses to run it, and for the same reason
-- (`RefusesTracesAsRuns`).
use Rattle.std.proofs.Common.{ℕ, Bool, true, false, List, Result, Ok, Err, length, nat_lt, if◌then◌else◌, sym, subst}
use Rattle.snap_semantics.specs.Answers.{◌>>=◌}
use Rattle.snap_semantics.specs.Source.{Source}
use Rattle.snap_semantics.specs.declared.refusal.Refusal.{Refusal}
use Rattle.snap_semantics.specs.declared.refusal.Refusal.TheVariants as refusal
use Rattle.snap_runs.specs.Run.{run_over}
use Rattle.snap_input.specs.Input.{checked_parts, listing_for, parted, texts_for}
use Rattle.snap_input.specs.Parts.{part, parts_of}
use Rattle.snap_input.specs.Schedules.{schedule_for}
use Rattle.snap_output.specs.RunOutput.{end_text, run_listing}
use Rattle.snap_output.specs.Trace.{trace_text}
use Rattle.snap_output.specs.Traces.{trace_listing, traces_text}
use Rattle.snap_output.specs.Output.{output_of, run_text}
use Rattle.snap_output.specs.Refusals.{AreRefusedAlike, RefusesTracesAsRuns}
use Rattle.snap_output.proofs.Ended.{of_listing}

-- behind what both rest on
behind : {A : Type 0} (x : Result A Refusal) (f g : A → Result (List ℕ) Refusal) →
    ((a : A) → AreRefusedAlike (f a) (g a)) → AreRefusedAlike (x >>= f) (x >>= g)
behind (Ok a) f g h = h a
behind (Err e) f g h = λ r. (λ same. same, λ same. same)

either : (b : Bool) (e : Refusal) (x y : Result (List ℕ) Refusal) → AreRefusedAlike x y →
    AreRefusedAlike (if b then Err e else x) (if b then Err e else y)
either true e x y h = λ r. (λ same. same, λ same. same)
either false e x y h = h

texts_alike : (l : Source) (texts : List (List ℕ)) → AreRefusedAlike (traces_text l texts) (run_text l texts)
unfolding trace_listing run_listing
texts_alike l texts =
    subst (AreRefusedAlike (trace_listing l (part 0 texts))) (sym (of_listing l texts))
    (behind (schedule_for l (part 0 texts)) (λ s. Ok (trace_text (run_over l s))) (λ s. Ok (end_text l s))
    (λ s r. (λ e. absurd cc, λ e. absurd cc)))

pub traces_as_runs : RefusesTracesAsRuns
unfolding output_of parted
traces_as_runs s input =
    let parts = parts_of input in
    either (nat_lt 16777216 (length input)) refusal.InputTooLong
    (parted s 1 parts traces_text) (parted s 1 parts run_text)
    (behind (checked_parts s 1 parts) (λ there. listing_for s parts >>= λ l. traces_text l (texts_for s parts))
    (λ there. listing_for s parts >>= λ l. run_text l (texts_for s parts))
    (λ there.
    behind (listing_for s parts) (λ l. traces_text l (texts_for s parts)) (λ l. run_text l (texts_for s parts))
    (λ l. texts_alike l (texts_for s parts))))
