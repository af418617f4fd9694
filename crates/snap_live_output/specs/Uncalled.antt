-- The calls that items of a live run skipped: their word is not there, or it is another process's.
use Rattle.std.specs.Prelude.{◌≡◌, ℕ, ◌+◌, ◌-◌, Bool, List, [], ◌∷◌, ◌++◌, Option, Some, None, Ok, codes, decimal}
use Rattle.std.specs.Prelude.{length, nat_eq, option_map, take, if◌then◌else◌}
use Rattle.snap_words.specs.declared.kind.KindTag.{KindTag}
use Rattle.snap_words.specs.Shape.{Counts}
use Rattle.snap_semantics.specs.Report.{op_text}
use Rattle.snap_semantics.specs.Table.{call_skip}
use Rattle.snap_semantics.specs.declared.process.Item.{Item}
use Rattle.snap_semantics.specs.declared.process.Item.TheVariants.{Call}
use Rattle.snap_semantics.specs.declared.process.Op.{Op}
use Rattle.snap_sched.specs.ScriptText.{Script}
use Rattle.snap_report.specs.OutcomeText.{reason_text}
use Rattle.snap_tasks.specs.declared.subject.Subject.{Subject}
use Rattle.snap_live_output.specs.LiveOutput.{IsGatedText, Setup, setup_of}
use Rattle.snap_live_output.specs.declared.uncalled.UncalledCall.{UncalledCall}

-- an operation of process i, where it calls nothing
abbrev pub uncalled : KindTag → Counts → ℕ → Op → Option UncalledCall
uncalled k shape i o = option_map (λ reason. record { process = i; op = o; reason = reason }) (call_skip k shape i o)

-- a call that calls nothing comes first, if there is one
abbrev pub listed : Option UncalledCall → List UncalledCall → List UncalledCall
listed None later = later
listed (Some call) later = call ∷ later

-- the call of an item, where it calls nothing
abbrev pub uncalled_item : KindTag → Counts → Item → Option UncalledCall
uncalled_item k shape (Call i o) = uncalled k shape i o
uncalled_item k shape _ = None

-- the calls that items of a run skipped, in order
abbrev pub skipped_calls : KindTag → Counts → List Item → List UncalledCall
skipped_calls k shape [] = []
skipped_calls k shape (x ∷ xs) = listed (uncalled_item k shape x) (skipped_calls k shape xs)

-- those of process i
abbrev pub calls_of : ℕ → List UncalledCall → List UncalledCall
calls_of i [] = []
calls_of i (c ∷ cs) = if nat_eq c.process i then c ∷ calls_of i cs else calls_of i cs

-- those of the processes of scripts, from process i on, process by process
abbrev pub by_process : ℕ → List Script → List UncalledCall → List UncalledCall
by_process i [] cs = []
by_process i (s ∷ ss) cs = calls_of i cs ++ by_process (i + 1) ss cs

-- the calls that the items of a live run skipped, process by process
abbrev pub uncalled_calls : Setup → List Item → List UncalledCall
uncalled_calls g items = by_process 1 g.scripts.scripts (skipped_calls g.source.kind g.scripts.shape items)

-- the front of each line
unfoldable pub line_front : List ℕ
line_front = codes "not called: "

-- a line for one of them
unfoldable pub uncalled_line : UncalledCall → List ℕ
uncalled_line c =
    line_front ++ codes "process " ++ decimal c.process ++ codes " " ++ op_text c.op ++ codes " "
    ++ reason_text c.reason ++ codes "\n"

abbrev pub uncalled_lines : List UncalledCall → List ℕ
uncalled_lines [] = []
uncalled_lines (c ∷ cs) = uncalled_line c ++ uncalled_lines cs

-- a line for k others
unfoldable pub others_text : ℕ → List ℕ
others_text k = line_front ++ decimal k ++ codes " more\n"

-- where there are any
abbrev pub others_line : ℕ → List ℕ
others_line k = if nat_eq k 0 then [] else others_text k

-- a line for each of the first eight, and one for the others
unfoldable pub uncalled_text : List UncalledCall → List ℕ
uncalled_text cs = uncalled_lines (take 8 cs) ++ others_line (length cs - 8)

-- A text that a live run may write, at a gate that may answer so, and what is said of the calls that its items skipped.
-- An operation that no item asks for, as behind a crash, is none of them.
abbrev pub IsGatedOutput : (may : ℕ → ℕ → Bool → Type 0) → Setup → (limit : ℕ) → (text told : List ℕ) → Type 0
IsGatedOutput may g limit text told =
    (t : IsGatedText may g limit text) × (told ≡ uncalled_text (uncalled_calls g t.live.items))

-- the same, where an input says what to play
abbrev pub MayTell : (may : ℕ → ℕ → Bool → Type 0) → Subject → (limit : ℕ) → (input text told : List ℕ) → Type 0
MayTell may s limit input text told = (g : Setup) × (setup_of s input ≡ Ok g) × IsGatedOutput may g limit text told
