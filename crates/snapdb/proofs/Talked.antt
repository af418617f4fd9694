-- What came of a dialog about the texts of files, by what came of one about a listing.
use Rattle.std.proofs.Common.{◌≡◌, inl, inr, ℕ, List, None, Result, Ok, Err, refl}
use Rattle.std.specs.Prelude.{IfErr, OnErr, OnOk}
use Rattle.snap_faults.specs.Faults.{of_input_fault}
use Rattle.snap_faults.specs.declared.fault.ProgramFault.{ProgramFault}
use Rattle.snap_faults.specs.declared.fault.ProgramFault.TheVariants as fault
use Rattle.snap_input.specs.Schedules.{schedule_for}
use Rattle.snap_semantics.specs.Answers.{IsRefusal}
use Rattle.snap_semantics.specs.Schedule.{Schedule}
use Rattle.snap_semantics.specs.Source.{Source}
use Rattle.snap_semantics.specs.declared.fault.Fault.{Fault}
use Rattle.snap_semantics.specs.declared.fault.Fault.TheVariants as given
use Rattle.snap_semantics.specs.declared.refusal.Refusal.{Refusal}
use Rattle.snapdb.specs.Start.{EndsFor}
use Rattle.snapdb.specs.Talk.{Devices, IsSilent, IsUnlisted, Talks, TellsAll, TellsSome}

-- there is no listing to talk about
pub unlisted : (f : Fault Refusal) (listing : Result Source Refusal) (d : Devices) → IsSilent d →
    IsRefusal f listing → IsUnlisted listing (Err (of_input_fault f)) d
unlisted given.Memory listing d silent h = (inr refl, silent)
unlisted (given.Refused r) listing d silent h = (inl (r, h, refl), silent)

-- the clauses of a dialog about a listing, as one
pub talked : (l : Source) (schedule : List ℕ) (done : Result (Unit {0}) ProgramFault) (d : Devices) →
    OnOk done ((s : Schedule) × (schedule_for l schedule ≡ Ok s) × TellsAll l s d) →
    ((r : Refusal) → done ≡ Err (fault.Refused r) →
    (schedule_for l schedule ≡ Err r) × IsSilent d × (d.failed ≡ None)) →
    OnOk done (d.failed ≡ None) → IfErr done (λ f. EndsFor f d.failed d.left) →
    OnErr done ((s : Schedule) → schedule_for l schedule ≡ Ok s → TellsSome l s d) → Talks l schedule done d
talked l schedule (Ok done) d all refused well fails some = (all.0, all.1, all.2, well)
talked l schedule (Err (fault.Refused r)) d all refused well fails some = refused r refl
talked l schedule (Err f) d all refused well fails some = (fails, some)
