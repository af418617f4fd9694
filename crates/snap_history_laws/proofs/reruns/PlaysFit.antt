-- The numbers of the items of a play have 64 bits, as those of its script have.
use Rattle.std.proofs.Common.{◌≡◌, ℕ, zero, suc, ◌+◌, Bool, List, [], ◌∷◌, Option, MatchBool, arith}
use Rattle.std.specs.List.{AllByRecursion}
use Rattle.snap_semantics.specs.ScheduleText.{FitsItem, FitsWords}
use Rattle.snap_sched.specs.ScriptText.{Script}
use Rattle.snap_live.specs.declared.seat_state.OwnTurn.{OwnTurn}
use Rattle.snap_live.specs.Play.{Due, Does, IsCrash, IsDue, IsPlay, Plays, busy, over, rest}
use Rattle.snap_live.specs.Script.{crashes_behind, script_at}
use Rattle.snap_history_laws.proofs.reruns.ScriptsFit.{FitsScript}

-- what is due of operations whose numbers have 64 bits
abbrev FitsDue : Due → Type 0
FitsDue (rest os) = AllByRecursion FitsWords os
FitsDue (busy os) = AllByRecursion FitsWords os
FitsDue over = Unit {0}

moves_fit : (b : Bool) (d e : Due) (t : OwnTurn) → FitsDue d →
    MatchBool b (IsDue d × IsCrash t.item × (e ≡ over)) (Does d t e) → FitsItem t.item × FitsDue e
moves_fit b d e t fits h = grind arith

plays_fit : (crash : Option ℕ) (k : ℕ) (d e : Due) (ts : List OwnTurn) → FitsDue d → Plays crash k d ts e →
    AllByRecursion (λ t. FitsItem t.item) ts
plays_fit crash k d e [] fits h = tt
plays_fit crash k d e (t ∷ ts) fits h =
    let one = moves_fit (crashes_behind crash k) d h.0 t fits h.1 in
    (one.0, plays_fit crash (k + 1) h.0 e ts one.1 h.2)

pub play_fits : (script : Script) (ts : List OwnTurn) → FitsScript script → IsPlay script ts →
    AllByRecursion (λ t. FitsItem t.item) ts
play_fits script ts fits h = plays_fit script.crash 0 (rest script.operations) h.0 ts fits h.1

-- the script of each process
pub script_fits : (scripts : List Script) (k : ℕ) → AllByRecursion FitsScript scripts → FitsScript (script_at scripts k)
script_fits [] k h = tt
script_fits (s ∷ scripts) zero h = h.0
script_fits (s ∷ scripts) (suc k) h = script_fits scripts k h.1
