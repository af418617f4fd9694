-- How a hunt's output is right: a schedule whose run fails is one to be made small, what is printed is the text of a
-- small one, and a hunt of a text is one of its listing (`IsHunted`).
use Rattle.std.proofs.Common.{◌≡◌, ℕ, List, Option, Some, None, Ok, sym, subst}
use Rattle.snap_hunt_output.specs.Hunted.{IsDue, IsFaultOf, IsFirstOf, IsFound, IsHunted, IsHuntedOf, IsNoRefusal}
use Rattle.snap_hunt_output.specs.Hunted.{IsPrinted, Says, asked_source}
use Rattle.snap_hunt_output.specs.HuntRequest.{owned}
use Rattle.snap_hunt_output.specs.Check.{run_in_input}
use Rattle.snap_hunt_output.specs.Input.{input_text}
use Rattle.snap_faults.specs.declared.fault.ProgramFault.{ProgramFault}
use Rattle.snap_faults.specs.declared.fault.ProgramFault.TheVariants.{Memory, Unsaid}
use Rattle.snap_hunt_output.specs.declared.hunt_request.HuntRequest.{HuntRequest}
use Rattle.snap_hunt_output.specs.declared.hunted.Hunted.{Hunted}
use Rattle.snap_semantics.specs.Schedule.{Schedule}
use Rattle.snap_semantics.specs.ScheduleText.{IsSchedule}
use Rattle.snap_semantics.specs.Source.{Source}
use Rattle.snap_runs.specs.Run.{run_over}
use Rattle.snap_chance.specs.Chance.{schedule_of}
use Rattle.snap_chance.specs.Plan.{Plan}
use Rattle.snap_hunt.specs.Finding.{Finds}
use Rattle.snap_hunt.specs.Kinds.{kind_of, with_only}
use Rattle.snap_hunt.specs.declared.failures.Failure.{Failure}
use Rattle.snap_hunt.specs.declared.failures.FailureKind.{FailureKind}
use Rattle.snap_hunt.specs.declared.failures.Wanted.{Wanted}
use Rattle.snap_hunt.proofs.Alike.{alike}
use Rattle.snap_hunt.specs.Hunt.{IsFirst, run_of}
use Rattle.snap_hunt.specs.Shrinking.{Fails, FailsWith, IsShrunk}
use Rattle.snap_hunt.specs.declared.found.Found.{Found}

over : (l : Source) (p : Plan) (w : Wanted) (seed k : ℕ) (s : Schedule) (f : Failure) → s ≡ schedule_of seed k p →
    Finds w (run_of l p seed k) (Some f) → FailsWith l w s.shape s.items
unfolding run_of FailsWith
over l p w seed k s f is h = rw is (f, h)

-- the schedule of a run that fails, where nothing of another kind is wanted
pub fails_over : (l : Source) (p : Plan) (w one : Wanted) (seed k : ℕ) (s : Schedule) (f : Failure) (g : FailureKind) →
    s ≡ schedule_of seed k p → IsSchedule s → g ≡ kind_of f → one ≡ with_only g w →
    Finds w (run_of l p seed k) (Some f) → Fails l one s.shape s.items
fails_over l p w one seed k s f g is h kind only found = record {
  schedule = h;
  fails = rw (only, kind) (over l p (with_only (kind_of f) w) seed k s f is (alike w (run_of l p seed k) f found));
}

-- an input is the text of a small schedule whose run fails so
pub printed_by : (l : Source) (p : Plan) (text : List ℕ) (a : HuntRequest) (k : ℕ) (kind g : FailureKind) (f : Failure)
    (input : List ℕ) (w : Wanted) (s small : Schedule) → g ≡ kind → w ≡ with_only g a.wanted → s ≡ schedule_of a.seed k p
    → IsShrunk l w s small → Finds w (run_over l small) (Some f) → input ≡ input_text text a.seed k f small →
    IsPrinted l p text a k kind f input
printed_by l p text a k kind g f input w s small same only is small_enough fails printed =
    let e : with_only kind a.wanted ≡ w = cc in
    record { small = small; shrunk = rw (e, ← is) small_enough; fails = rw e fails; printed = printed }

-- an input that is read says what is found in its run
pub said : (w : Wanted) (input : List ℕ) (l : Source) (s : Schedule) (f : Failure) →
    run_in_input input ≡ Ok (run_over l s) → Finds w (run_over l s) (Some f) → Says w input f
said w input l s f is h = (run_over l s, is, h)

-- a run that was found, with the input of a small one
pub found_by : (l : Source) (text : List ℕ) (a : HuntRequest) (x : Found) (f : Failure) (input : List ℕ) (p : Plan)
    (g : FailureKind) (w : Wanted) → p ≡ owned l.kind a.plan → IsFirst l p a.wanted a.seed 0 a.runs (Some x) →
    kind_of f ≡ kind_of x.failure → g ≡ kind_of x.failure → w ≡ with_only g a.wanted →
    IsPrinted l p text a x.run (kind_of x.failure) f input → Says w input f → IsFound l text a x.run f input
found_by l text a x f input p g w plan first same kind only printed says = record {
  found = x.failure;
  first = rw (← plan) first;
  alike = sym same;
  printed = rw (← plan, same) printed;
  says = rw (same, ← kind, ← only) says;
}

-- what a hunt of a program comes to is what one of its listing does
pub hunted_by : (text : List ℕ) (a : HuntRequest) (l : Source) (h : Hunted) →
    asked_source text a ≡ Ok l → IsHuntedOf l text a h → IsHunted text a h
hunted_by text a l h is hunted = record { listing = l; is = is; hunted = hunted }

-- none of the runs fails
pub none_by : (l : Source) (a : HuntRequest) (p : Plan) (r : Option Found) → p ≡ owned l.kind a.plan →
    IsFirst l p a.wanted a.seed 0 a.runs r → r ≡ None → IsFirstOf l a None
none_by l a p r plan first none =
    subst (λ o. IsFirstOf l a o) none (subst (λ q. IsFirst l q a.wanted a.seed 0 a.runs r) plan first)

-- a fault that refuses nothing, where a run fails
pub fault_by : (l : Source) (a : HuntRequest) (p : Plan) (x : Found) (e : ProgramFault) → p ≡ owned l.kind a.plan →
    IsFirst l p a.wanted a.seed 0 a.runs (Some x) → IsNoRefusal e → IsFaultOf l a e
fault_by l a p x Memory plan first h = tt
fault_by l a p x Unsaid plan first h = (x, rw (← plan) first)
fault_by l a p x e plan first h = h

-- a fault of a hunt of the listing that is asked for
pub due_by : (text : List ℕ) (a : HuntRequest) (l : Source) (e : ProgramFault) → asked_source text a ≡ Ok l →
    IsFaultOf l a e → IsDue text a e
due_by text a l Memory is h = tt
due_by text a l Unsaid is h = (l, is, h)
due_by text a l e is h = absurd h
