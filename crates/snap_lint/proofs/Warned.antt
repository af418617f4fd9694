-- If control reaches a line in a mode in which the line may trap (`may_trap`), then `warnings` of the lint has a
-- warning of it.
use Rattle.std.specs.Prelude.{◌≡◌, ℕ, Bool, true, ◌&&◌, [], ◌∷◌, Some, if◌then◌else◌, refl}
use Rattle.std.proofs.Common.{arith}
use Rattle.std.proofs.lemmas.Bool.{and_from}
use Rattle.std.specs.List.{Contains}
use Rattle.snap_semantics.specs.declared.instr.Instr.{Instr}
use Rattle.snap_semantics.specs.declared.process.Cause.{Cause}
use Rattle.snap_semantics.specs.Source.{Source, instr_at}
use Rattle.snap_lint.specs.declared.concern.Concern.{Concern}
use Rattle.snap_lint.specs.declared.concern.Concern.TheVariants as concern
use Rattle.snap_lint.specs.declared.concern.Warning.{Warning}
use Rattle.snap_lint.specs.declared.mode.Mode.{Mode}
use Rattle.snap_lint.specs.declared.mode.Mode.TheVariants as mode
use Rattle.snap_lint.specs.Flow.{lines_in, reach_of}
use Rattle.snap_lint.specs.Marks.{is_in}
use Rattle.snap_lint.specs.Sound.{IsWarnedOf, concern_of}
use Rattle.snap_lint.specs.Warnings.{concerns, is_warned_of, line_warnings, may_trap, modes, warning_of, warnings}
use Rattle.snap_lint.proofs.Lines.{any_of, found, in_flat, line_of}

each_mode : (m : Mode) → Contains modes m
each_mode mode.Scan = (0, omega arith, refl)
each_mode mode.ScanCall = (1, omega arith, refl)
each_mode mode.Update = (2, omega arith, refl)
each_mode mode.UpdateCall = (3, omega arith, refl)

each_concern : (c : Concern) → Contains concerns c
each_concern concern.OffEnd = (0, omega arith, refl)
each_concern concern.Nested = (1, omega arith, refl)
each_concern concern.BadEnd = (2, omega arith, refl)
each_concern concern.Owner = (3, omega arith, refl)
each_concern concern.Unreached = (4, omega arith, refl)
each_concern concern.Endless = (5, omega arith, refl)
each_concern concern.NoWrite = (6, omega arith, refl)

abbrev pub warning_at : ℕ → Concern → Warning
warning_at k c = record { line = k; concern = c }

if_so : (b : Bool) (w : Warning) → b ≡ true → Contains (if b then w ∷ [] else []) w
if_so b w is = rw is (0, omega arith, refl)

module _ (s : Source) (k : ℕ) (i : Instr) (here : instr_at s.lines k ≡ Some i) where
  listed : (c : Concern) → is_warned_of s (reach_of s) (line_of k i) c ≡ true → Contains (warnings s) (warning_at k c)
  unfolding warnings
  listed c is =
      in_flat (line_warnings s (reach_of s)) s.lines (line_of k i) (warning_at k c) (found s.lines k i here)
      (in_flat (warning_of s (reach_of s) (line_of k i)) concerns c (warning_at k c) (each_concern c)
      (if_so (is_warned_of s (reach_of s) (line_of k i) c) (warning_at k c) is))

  module _ (m : Mode) (in' : is_in (lines_in (reach_of s) m) k ≡ true) where
    traps_there : (c : Concern) → may_trap s c m (line_of k i) ≡ true →
        is_warned_of s (reach_of s) (line_of k i) c ≡ true
    traps_there concern.Unreached may = absurd cc
    traps_there concern.Endless may = absurd cc
    traps_there concern.NoWrite may = absurd cc
    traps_there c may =
        any_of (λ n. is_in (lines_in (reach_of s) n) k && may_trap s c n (line_of k i)) modes m (each_mode m)
        (and_from (is_in (lines_in (reach_of s) m) k) (may_trap s c m (line_of k i)) in' may)

    -- a trap that may come at the line, for a cause that is a concern
    pub trap_warned : (why : Cause) (c : Concern) → concern_of why ≡ Some c → may_trap s c m (line_of k i) ≡ true →
        IsWarnedOf s k why
    trap_warned why c is may d same = rw (let e : c ≡ d = cc in e) at (listed c (traps_there c may))
