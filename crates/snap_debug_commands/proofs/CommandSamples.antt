-- Sample texts of debugger commands: as which commands they are read, or why they are refused, by computing.
use Rattle.std.specs.Fmt.{digits}
use Rattle.std.specs.Prelude.{◌≡◌, ℕ, List, [], ◌∷◌, ◌++◌, Ok, Err, codes, refl, replicate}
use Rattle.std.specs.List.{flat_map}
use Rattle.snap_words.specs.declared.address.Address.{Address}
use Rattle.snap_words.specs.declared.address.Bank.TheVariants as bank
use Rattle.snap_semantics.specs.Layout.{line_text}
use Rattle.snap_semantics.specs.declared.fault.Fault.TheVariants as fault
use Rattle.snap_semantics.specs.declared.refusal.CommandRefusal.TheVariants as refusal
use Rattle.snap_debug_commands.specs.CommandForms.{spelled_command}
use Rattle.snap_debug_commands.specs.Commands.{commands_of}
use Rattle.snap_debug_commands.specs.FaultText.{fault_text}
use Rattle.snap_debug_commands.specs.declared.command.Breakpoint.{Breakpoint}
use Rattle.snap_debug_commands.specs.declared.command.Command.TheVariants as command
use Rattle.snap_debug_commands.proofs.OnLiterals.{commands_on_literals}

abbrev word_at : ℕ → Address
word_at k = record { bank = bank.R; i = k; j = 0 }

abbrev view_at : ℕ → Address
view_at i = record { bank = bank.V; i = i; j = 0 }

abbrev line_of : ℕ → ℕ → Breakpoint
line_of process line = record { process = process; line = line }

-- lines with comments, without tokens and without a last line feed
moves_read : commands_of (codes "watch r 2\nrun # on\n\n rrun\nback 1\r\n\tgoto 0\nstep 18446744073709551615")
    ≡ Ok (command.Watch (word_at 2) ∷ command.Run ∷ command.ReverseRun ∷ command.Back 1 ∷ command.Goto 0
    ∷ command.Step 18446744073709551615 ∷ [])
unfolding commands_on_literals
moves_read = refl

-- what is shown, and marks; nothing need be there
marks_read : commands_of (codes
    "show 1\nshow v 3\nshow r 0\nvalues\nevents\nwhere\nbreak 1 23\nclear 17 0\nwatch q 1 2\nunwatch p 2 1\nstep 0")
    ≡ Ok (command.ShowProcess 1 ∷ command.ShowRegister (view_at 3) ∷ command.ShowRegister (word_at 0) ∷ command.Values
    ∷ command.Events ∷ command.Where
    ∷ command.Break (line_of 1 23) ∷ command.Clear (line_of 17 0)
    ∷ command.Watch (record { bank = bank.Q; i = 1; j = 2 })
    ∷ command.Unwatch (record { bank = bank.P; i = 2; j = 1 }) ∷ command.Step 0 ∷ [])
unfolding commands_on_literals
marks_read = refl

none_read : (commands_of [] ≡ Ok []) × (commands_of (codes "\n # run\n\n") ≡ Ok [])
none_read = (refl, refl)

-- identifiers and numbers are apart, and a number has no zero before it
no_tokens :
    (commands_of (codes "run\nstep1\n") ≡ Err (refusal.BadCommand 2))
    × (commands_of (codes "step 007") ≡ Err (refusal.BadCommand 1))
    × (commands_of (codes "goto 18446744073709551616") ≡ Err (refusal.BadCommand 1))
    × (commands_of (codes "\nrun\n$\n") ≡ Err (refusal.BadCommand 3))
    × (commands_of (codes "run $ # on") ≡ Err (refusal.BadCommand 1))
unfolding commands_on_literals
no_tokens = (refl, refl, refl, refl, refl)

-- tokens that fit no form
no_form :
    (commands_of (codes "hello\n") ≡ Err (refusal.BadCommand 1))
    × (commands_of (codes "step") ≡ Err (refusal.BadCommand 1))
    × (commands_of (codes "run 1") ≡ Err (refusal.BadCommand 1))
    × (commands_of (codes "step 1 2") ≡ Err (refusal.BadCommand 1))
    × (commands_of (codes "watch 1") ≡ Err (refusal.BadCommand 1))
    × (commands_of (codes "watch r 1 2") ≡ Err (refusal.BadCommand 1))
    × (commands_of (codes "watch q 1") ≡ Err (refusal.BadCommand 1))
    × (commands_of (codes "show s 1") ≡ Err (refusal.BadCommand 1))
    × (commands_of (codes "break 1") ≡ Err (refusal.BadCommand 1))
    × (commands_of (codes "break 1, 10") ≡ Err (refusal.BadCommand 1))
    × (commands_of (codes "where\nrun run\n") ≡ Err (refusal.BadCommand 2))
unfolding commands_on_literals
no_form = (refl, refl, refl, refl, refl, refl, refl, refl, refl, refl, refl)

-- how commands are written
written : flat_map (λ c. line_text (spelled_command c))
    (command.Step 7 ∷ command.ReverseRun ∷ command.Break (line_of 1 23) ∷ command.Watch (word_at 2)
    ∷ command.Unwatch (record { bank = bank.Q; i = 1; j = 2 }) ∷ command.ShowRegister (view_at 3)
    ∷ command.ShowProcess 16 ∷ command.Where ∷ [])
    ≡ codes "step 7\nrrun\nbreak 1 23\nwatch r 2\nunwatch q 1 2\nshow v 3\nshow 16\nwhere\n"
unfolding digits
written = refl

-- how it is said why there is no reply
refused : (fault_text (fault.Refused refusal.NoSuchProcess) ≡ codes "refused: G3 NoSuchProcess\n")
    × (fault_text (fault.Refused (refusal.BadCommand 10)) ≡ codes "refused: G1 BadCommand 10\n")
    × (fault_text fault.Memory ≡ codes "refused: Memory\n")
unfolding digits
refused = (refl, refl, refl)

-- a text of so many commands, and of a line behind them
abbrev runs_and : ℕ → List ℕ → List ℕ
runs_and count line = flat_map (λ (k : ℕ). codes "run\n") (replicate count 0) ++ line

-- the 10,001st line with tokens is one too many, whatever it is; what stands behind 9,999 commands is told by its form
too_many :
    (commands_of (runs_and 10000 (codes "$")) ≡ Err refusal.TooLong)
    × (commands_of (runs_and 10000 (codes "where")) ≡ Err refusal.TooLong)
    × (commands_of (runs_and 9999 (codes "$")) ≡ Err (refusal.BadCommand 10000))
    × (commands_of (runs_and 10000 (codes "# $\n\n")) ≡ Ok (replicate 10000 command.Run))
unfolding commands_on_literals
too_many = (refl, refl, refl, refl)
