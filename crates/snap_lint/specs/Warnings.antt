-- `warnings` of a listing, line by line: where a line may trap (`may_trap`), is never reached, leads to no end or
-- lets an update finish without a write.
use Rattle.std.specs.Prelude.{Bool, true, false, not, ◌&&◌, ◌||◌, List, [], ◌∷◌, if◌then◌else◌}
use Rattle.std.specs.List.{flat_map, list_any}
use Rattle.snap_words.specs.declared.address.Bank.{Bank}
use Rattle.snap_words.specs.declared.address.Bank.TheVariants as bank
use Rattle.snap_words.specs.declared.kind.KindTag.{KindTag}
use Rattle.snap_words.specs.declared.kind.KindTag.TheVariants as kind
use Rattle.snap_lint.specs.declared.concern.Concern.{Concern}
use Rattle.snap_lint.specs.declared.concern.Concern.TheVariants as concern
use Rattle.snap_lint.specs.declared.concern.Warning.{Warning}
use Rattle.snap_lint.specs.declared.mode.Mode.{Mode}
use Rattle.snap_lint.specs.declared.mode.Mode.TheVariants as mode
use Rattle.snap_semantics.specs.declared.instr.Index.{Index}
use Rattle.snap_semantics.specs.declared.instr.Index.TheVariants as index
use Rattle.snap_semantics.specs.declared.instr.Instr.{Instr}
use Rattle.snap_semantics.specs.declared.instr.Instr.TheVariants.{Put, PutBit, PutView, Call, Return, Finish}
use Rattle.snap_semantics.specs.declared.instr.Line.{Line}
use Rattle.snap_semantics.specs.Source.{Source}
use Rattle.snap_semantics.specs.Table.{bank_of}
use Rattle.snap_lint.specs.Marks.{is_in}
use Rattle.snap_lint.specs.Flow.{Reach, reach_of, is_within, lines_in, may_run_off, out_in, way_of}

-- a call within a call
abbrev pub may_nest : Mode → Instr → Bool
may_nest m (Call target) = is_within (way_of m)
may_nest m _ = false

-- an update, outside its calls
abbrev pub is_update : Mode → Bool
is_update mode.Scan = false
is_update mode.ScanCall = false
is_update mode.Update = true
is_update mode.UpdateCall = false

-- `return` ends a scan or a call, and `finish` an update alone
abbrev pub may_end_badly : Mode → Instr → Bool
may_end_badly m (Return x) = is_update m
may_end_badly m Finish = not (is_update m)
may_end_badly m _ = false

-- a bank whose registers every process may write
abbrev pub is_shared : KindTag → Bank → Bool
is_shared kind.Multi bank.R = true
is_shared k b = false

abbrev pub is_me : Index → Bool
is_me index.Me = true
is_me i = false

abbrev pub is_word : Index → Bool
is_word index.Word = true
is_word i = false

-- kinds in which a process is asked for updates of its own word alone
abbrev pub has_owners : KindTag → Bool
has_owners kind.Seq = true
has_owners kind.Bits = true
has_owners kind.Multi = false

-- an update, outside its calls and within them
abbrev pub is_in_update : Mode → Bool
is_in_update mode.Scan = false
is_in_update mode.ScanCall = false
is_in_update mode.Update = true
is_in_update mode.UpdateCall = true

-- the word of an update, which is its process's own
abbrev pub is_own_word : KindTag → Mode → Index → Bool
is_own_word k m i = has_owners k && (is_in_update m && is_word i)

-- a register that its process may write, as its first index is written
abbrev pub is_own : KindTag → Mode → Bank → Index → Bool
is_own k m b i = is_shared k b || (is_me i || is_own_word k m i)

-- a write of a register that may be another process's
abbrev pub may_write_others : KindTag → Mode → Instr → Bool
may_write_others k m (Put i t) = not (is_own k m bank.R i)
may_write_others k m (PutBit b i j e) = not (is_own k m (bank_of b) i)
may_write_others k m (PutView i x) = not (is_own k m bank.V i)
may_write_others k m _ = false

-- a line may trap so in this mode; the other concerns are of no trap
abbrev pub may_trap : Source → Concern → Mode → Line → Bool
may_trap s concern.OffEnd m line = may_run_off s.lines (way_of m) line
may_trap s concern.Nested m line = may_nest m line.instr
may_trap s concern.BadEnd m line = may_end_badly m line.instr
may_trap s concern.Owner m line = may_write_others s.kind m line.instr
may_trap s _ m line = false

abbrev pub modes : List Mode
modes = mode.Scan ∷ mode.ScanCall ∷ mode.Update ∷ mode.UpdateCall ∷ []

-- control may come to the line in a mode that passes the test
abbrev pub is_reached_in : Reach → (Mode → Bool) → Line → Bool
is_reached_in f test line = list_any (λ m. is_in (lines_in f m) line.number && test m) modes

abbrev pub is_finish : Instr → Bool
is_finish Finish = true
is_finish _ = false

-- a line is warned of
abbrev pub is_warned_of : Source → Reach → Line → Concern → Bool
is_warned_of s f line concern.Unreached = not (list_any (λ m. is_in (lines_in f m) line.number) modes)
is_warned_of s f line concern.Endless = is_reached_in f (λ m. not (is_in (out_in f m) line.number)) line
is_warned_of s f line concern.NoWrite = is_finish line.instr && is_in f.unwritten line.number
is_warned_of s f line c = is_reached_in f (λ m. may_trap s c m line) line

-- what a line can be warned of, in the order of the warnings
abbrev pub concerns : List Concern
concerns =
    concern.OffEnd ∷ concern.Nested ∷ concern.BadEnd ∷ concern.Owner ∷ concern.Unreached
    ∷ concern.Endless ∷ concern.NoWrite ∷ []

abbrev pub warning_of : Source → Reach → Line → Concern → List Warning
warning_of s f line c = if is_warned_of s f line c then record { line = line.number; concern = c } ∷ [] else []

abbrev pub line_warnings : Source → Reach → Line → List Warning
line_warnings s f line = flat_map (warning_of s f line) concerns

abbrev pub warnings_by : Source → Reach → List Warning
warnings_by s f = flat_map (line_warnings s f) s.lines

-- the warnings of a listing, in the order of its lines
unfoldable pub warnings : Source → List Warning
warnings s = warnings_by s (reach_of s)
