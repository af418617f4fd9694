-- From what a search has found to what is said of a history.
use Rattle.std.proofs.Common.{◌≡◌, ℕ, ◌≤◌, List, Vec, Global, ap, length, map, sym, subst}
use Rattle.std.proofs.lemmas.List.{take_all}
use Rattle.snap_semantics.specs.declared.event.Event.{Event}
use Rattle.snap_judge.specs.declared.config.Step.{Step as KeptStep}
use Rattle.snap_judge.specs.declared.judgements.Failing.{Failing}
use Rattle.snap_judge.specs.declared.judgements.Failing.TheVariants as failing
use Rattle.snap_judge.specs.declared.judgements.Judgement.{Judgement}
use Rattle.snap_judge.specs.declared.judgements.Judgement.TheVariants as judgement
use Rattle.snap_judge.specs.History.{History, IsHistory}
use Rattle.snap_judge.specs.declared.config.Found.{Found}
use Rattle.snap_judge.specs.declared.config.Found.TheVariants as found
use Rattle.snap_judge.specs.Judgement.{IsFailing, IsJudgement, NamesEvent, failing_of}
use Rattle.snap_judge.specs.Configurations.{beginning, MeetsMoreThan}
use Rattle.snap_judge.specs.Kept.{AreNumbered, AreSteps, called_at, operation_of}
use Rattle.snap_judge.specs.Linearizable.{IsLinearizationOf, IsLinearizableHistory, up_to}
use Rattle.snap_judge.specs.Nodes.{HasFound, IsFound}
use Rattle.snap_judge.proofs.ExplainedHistories.{histories_are_explained}

-- The operations of an order that explains the steps of a history are a linearization of it.
pub explained_decides : (most : ℕ) (h : History) (steps : List KeptStep) (order : Vec ℕ Global) → IsHistory h →
    HasFound most h steps (found.Explained order) → IsLinearizationOf h (map (called_at steps) order.items)
explained_decides most h steps order is f =
    rw f.found.2 at ((histories_are_explained h is).sound f.found.0 (rw f.steps at f.found.1))

-- A history whose steps nothing explains is not linearizable.
pub unexplained_decides : (most passed : ℕ) (h : History) (steps : List KeptStep) → IsHistory h →
    HasFound most h steps (found.Unexplained passed) → IsLinearizableHistory h → ⊥
unexplained_decides most passed h steps is f l =
    let m = (histories_are_explained h is).complete l.0 l.1 in f.found (m.0, rw f.steps m.1)

-- What is known of equal steps.
pub same_steps : (n m w v : ℕ) (xs ys : List KeptStep) → m ≡ n → v ≡ w → ys ≡ xs → AreSteps n w xs → AreSteps m v ys
same_steps n m w v xs ys en ew ex are = rw (en, ew, ex) are

pub same_numbered : (xs ys : List KeptStep) → ys ≡ xs → AreNumbered xs → AreNumbered ys
same_numbered xs ys ex are = subst AreNumbered (sym ex) are

pub same_found : (most n m w v : ℕ) (xs ys : List KeptStep) (f g : Found) → m ≡ n → v ≡ w → ys ≡ xs → f ≡ g →
    IsFound most m v ys f → IsFound most n w xs g
same_found most n m w v xs ys f g en ew ex ef is =
    rw (en, ew, ex, ef) at is

-- What is met of the steps of a history is met of it.
pub undecided_decides : (most : ℕ) (h : History) (steps : List KeptStep) → HasFound most h steps found.Undecided →
    MeetsMoreThan most (beginning h)
undecided_decides most h steps f = rw f.steps at f.found

-- A judgement that is so says where the history fails.
pub fails_so : (most : ℕ) (h : History) (j : Judgement) → IsJudgement most h j → IsFailing most h (failing_of j)
fails_so most h (judgement.Linearizable order) is = (map operation_of order.items, is)
fails_so most h (judgement.NotLinearizable k) is = is
fails_so most h (judgement.Undecided k) is = is

-- The event at which a history is said to fail is one of it.
pub names_event : (most : ℕ) (h : History) (f : Failing) → IsFailing most h f → NamesEvent h f
names_event most h failing.Nowhere is = tt
names_event most h (failing.At k) is = is.is_event
names_event most h (failing.Undecided k) is = is.0

-- Up to its last event, or further, a history is all of it.
pub up_to_whole : (k : ℕ) (h : History) → length h.events ≤ k → up_to k h ≡ h
up_to_whole k h few =
    ap (λ (es : List Event). record { shape = h.shape; events = es }) (take_all k h.events few)
