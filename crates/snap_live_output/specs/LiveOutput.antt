-- What a live run writes for an input, or why it writes nothing: `AnswersLive`. Threads take turns as it happens: so
-- the output is one of many, each the history of one list of items.
use Rattle.std.specs.Prelude.{◌≡◌, ℕ, ◌+◌, ◌<◌, ◌≤◌, List, ◌++◌, length, nat_lt, Bool, Result, Ok, Err, if◌then◌else◌}
use Rattle.snap_words.specs.Shape.{max_items}
use Rattle.snap_words.specs.Kind.{fits}
use Rattle.snap_words.specs.declared.shape.WordFault.TheVariants.{BadShape}
use Rattle.snap_semantics.specs.declared.fault.Fault.TheVariants as inner
use Rattle.snap_semantics.specs.declared.process.Item.{Item}
use Rattle.snap_semantics.specs.declared.refusal.Refusal.{Refusal}
use Rattle.snap_semantics.specs.declared.refusal.Refusal.TheVariants as refusal
use Rattle.snap_semantics.specs.Answers.{◌>>=◌, refused_as}
use Rattle.snap_semantics.specs.Schedule.{Schedule}
use Rattle.snap_semantics.specs.ScheduleText.{schedule_text}
use Rattle.snap_semantics.specs.Source.{Source}
use Rattle.snap_sched.specs.ScriptText.{AreScripts, Scripts, scripts_of}
use Rattle.snap_runs.specs.Run.{Run, IsValidRun}
use Rattle.snap_report.specs.RunReport.{report_at}
use Rattle.snap_tasks.specs.declared.subject.Subject.{Subject}
use Rattle.snap_input.specs.Input.{parted}
use Rattle.snap_input.specs.Parts.{part, parts_of, max_input}
use Rattle.snap_live.specs.declared.seat_state.Setting.{Setting}
use Rattle.snap_semantics.specs.declared.refusal.LiveRefusal.{LiveRefusal}
use Rattle.snap_live.specs.LiveRun.{MayFault}
use Rattle.snap_live.specs.Play.{IsPlay}
use Rattle.snap_live.specs.Script.{script_at}
use Rattle.snap_live.specs.Worker.{IsLetOn}
use Rattle.snap_live.specs.Turns.{run_of, turns_of}

-- what a live run plays: a listing, and a script for each process
pub record Setup : Type 0 where
  pub source : Source
  pub scripts : Scripts

-- the listing and the shape
abbrev pub setting : Setup → Setting
setting g = record { source = g.source; shape = g.scripts.shape }

-- scripts whose shape fits the kind of the listing
abbrev pub fitting : Source → Scripts → Result Scripts Refusal
fitting l s = if fits l.kind s.shape then Ok s else Err (refusal.Words BadShape)

-- the scripts that a text is, for this listing
unfoldable pub scripts_for : Source → List ℕ → Result Scripts Refusal
scripts_for l text = do
  s ← refused_as refusal.Schedule (scripts_of text)
  fitting l s

-- a listing and the scripts that a text is
unfoldable pub setup_text : Source → List (List ℕ) → Result Setup Refusal
setup_text l texts = do
  scripts ← scripts_for l (part 0 texts)
  Ok (record { source = l; scripts = scripts })

-- what the parts of an input say to play: a listing, or the shipped one, and scripts
abbrev pub setup_for : Subject → List (List ℕ) → Result Setup Refusal
setup_for s parts = parted s 1 parts setup_text

-- what an input says to play, or the first reason why it says nothing
abbrev pub setup_of : Subject → List ℕ → Result Setup Refusal
setup_of s input = if nat_lt max_input (length input) then Err refusal.InputTooLong else setup_for s (parts_of input)

-- a run as the text of a schedule, and the report of its end
abbrev pub history_text : Run → List ℕ
history_text r =
    schedule_text (let s : Schedule = record { shape = r.shape; items = r.items } in s) ++ report_at r (length r.items)

-- The text is that of a run of at most a million items, which are of the processes that are there; those of each are
-- a play of its script, of at most so many turns.
pub record IsLiveText (g : Setup) (limit : ℕ) (text : List ℕ) : Type 0 where
  pub items : List Item
  pub there : AreScripts g.scripts
  pub fits : IsValidRun (run_of (setting g) items)
  pub short : length items ≤ max_items
  pub plays : (k : ℕ) → k < g.scripts.shape.n →
      IsPlay (script_at g.scripts.scripts k) (turns_of (setting g) (k + 1) items)
  pub few : (k : ℕ) → k < g.scripts.shape.n → length (turns_of (setting g) (k + 1) items) ≤ limit
  pub written : text ≡ history_text (run_of (setting g) items)

-- The text of a live run whose gate may have let each process on to each of its turns.
pub record IsGatedText (may : ℕ → ℕ → Bool → Type 0) (g : Setup) (limit : ℕ) (text : List ℕ) : Type 0 where
  pub live : IsLiveText g limit text
  pub let_on : (k : ℕ) → k < g.scripts.shape.n → IsLetOn may (k + 1) (length (turns_of (setting g) (k + 1) live.items))

-- a text that a live run may write for an input
abbrev pub IsLiveOutput : Subject → (limit : ℕ) → (input text : List ℕ) → Type 0
IsLiveOutput s limit input text = (g : Setup) × (setup_of s input ≡ Ok g) × IsLiveText g limit text

-- a text that a live run may write for an input, at a gate that may answer so
abbrev pub MayWrite : (may : ℕ → ℕ → Bool → Type 0) → Subject → (limit : ℕ) → (input text : List ℕ) → Type 0
MayWrite may s limit input text = (g : Setup) × (setup_of s input ≡ Ok g) × IsGatedText may g limit text

-- when a live run may be given up
abbrev pub MayGiveUp : (may : ℕ → ℕ → Bool → Type 0) → Subject → (limit : ℕ) → (input : List ℕ) → LiveRefusal → Type 0
MayGiveUp may s limit input r =
    (g : Setup) × (setup_of s input ≡ Ok g) × MayFault may (setting g) g.scripts.scripts limit (inner.Refused r)
