-- The text that is written of a live run in which all workers played their scripts is one that may be written
-- (`IsGatedText`).
use Rattle.std.proofs.Common.{◌≡◌, ℕ, ◌≤◌, Bool, List, length, ◌∙◌, ap}
use Rattle.snap_semantics.specs.Source.{Source}
use Rattle.snap_sched.specs.ScriptText.{AreScripts, Scripts}
use Rattle.snap_runs.specs.Run.{IsValidRun, Run}
use Rattle.snap_live.specs.declared.seat_state.Setting.{Setting}
use Rattle.snap_live.specs.declared.seat.Turn.{Turn}
use Rattle.snap_live.specs.LiveRun.{IsLive}
use Rattle.snap_live.specs.Turns.{run_of}
use Rattle.snap_live_output.specs.LiveOutput.{Setup, history_text, setting}
use Rattle.snap_live_output.specs.Uncalled.{IsGatedOutput, uncalled_calls, uncalled_text}

-- what all workers did is such a text, and what is said of it is so
pub live_output : (may : ℕ → ℕ → Bool → Type 0) (g : Setup) (limit : ℕ) (l : Source) (s : Scripts) (kept : Run)
    (turns : List (List Turn)) (text told : List ℕ) → l ≡ g.source → s ≡ g.scripts → AreScripts g.scripts →
    IsLive may (let b : Setting = record { source = l; shape = s.shape } in b) s.scripts limit kept turns →
    IsValidRun kept → length kept.items ≤ 1000000 → text ≡ history_text kept →
    told ≡ uncalled_text (uncalled_calls g kept.items) → IsGatedOutput may g limit text told
live_output may g limit l s kept turns text told is_source are_scripts there live fits short written tells =
    let of_setup : IsLive may (setting g) g.scripts.scripts limit kept turns = rw (← is_source, ← are_scripts) live in
    let same : kept ≡ run_of (setting g) kept.items = ap (λ (b : Setting). run_of b kept.items) of_setup.of_base in (
      record {
        live = record {
          items = kept.items;
          there = there;
          fits = rw (← same) fits;
          short = short;
          plays = λ k below. (of_setup.played k below).plays;
          few = λ k below. (of_setup.played k below).few;
          written = written ∙ ap history_text same;
        };
        let_on = λ k below. (of_setup.played k below).let_on;
      },
      tells,
    )
