-- A play of a script is known from what its process is told of it: the numbers and outcomes of its turns.
use Rattle.std.proofs.Common.{◌≡◌, ℕ, ◌+◌, Bool, List, [], ◌∷◌, Option, map, refl, sym, ap, arith}
use Rattle.std.specs.Prelude.{MatchBool}
use Rattle.std.specs.List.{Contains}
use Rattle.snap_semantics.specs.Table.{who}
use Rattle.snap_sched.specs.ScriptText.{Script}
use Rattle.snap_judge.proofs.ExplainedLists.{contains_head, contains_tail}
use Rattle.snap_live.specs.declared.seat.Turn.{Turn}
use Rattle.snap_live.specs.declared.seat_state.OwnTurn.{OwnTurn}
use Rattle.snap_live.specs.Play.{Does, Due, IsCrash, IsDue, IsPlay, Plays, over, rest}
use Rattle.snap_live.specs.Script.{crashes_behind}
use Rattle.snap_live.specs.Worker.{shown}

-- each of these turns is one of process p
abbrev pub AreOf : ℕ → List OwnTurn → Type 0
AreOf p ts = (t : OwnTurn) → Contains ts t → who t.item ≡ p

-- Two turns of a process at the same place of a play, of which the same came, are of the same item, and leave the same
-- due.
agree : (crashes : Bool) (p : ℕ) (d m v : Due) (t u : OwnTurn) → who t.item ≡ p → who u.item ≡ p →
    t.outcome ≡ u.outcome → MatchBool crashes (IsDue d × IsCrash t.item × (m ≡ over)) (Does d t m) →
    MatchBool crashes (IsDue d × IsCrash u.item × (v ≡ over)) (Does d u v) → (t.item ≡ u.item) × (m ≡ v)
agree crashes p d m v t u mine his same moves also = grind arith

one_play : (crash : Option ℕ) (k p : ℕ) (d e f : Due) (ts us : List OwnTurn) → AreOf p ts → AreOf p us →
    Plays crash k d ts e → Plays crash k d us f → map shown ts ≡ map shown us → ts ≡ us
one_play crash k p d e f (t ∷ ts) (u ∷ us) of also plays played same =
    let first : ◌≡◌ {A = Turn} (shown t) (shown u) = cc in
    let others : map shown ts ≡ map shown us = cc in
    let came = ap (λ (x : Turn). x.outcome) first in
    let both = agree (crashes_behind crash k) p d plays.0 played.0 t u (of t (contains_head t ts))
    (also u (contains_head u us)) came plays.1 played.1 in
    let here : t ≡ u = λ j. record { number = (first j).number; item = both.0 j; outcome = came j } in
    let more : ts ≡ us =
    one_play crash (k + 1) p plays.0 e f ts us (λ x has. of x (contains_tail t x ts has))
    (λ x has. also x (contains_tail u x us has)) plays.2 (rw (sym both.1) at played.2) others in
    cc
one_play crash k p d e f [] [] of also plays played same = refl
one_play crash k p d e f ts us of also plays played same = absurd (cc)

pub one_told : (s : Script) (p : ℕ) (ts us : List OwnTurn) → AreOf p ts → AreOf p us → IsPlay s ts → IsPlay s us →
    map shown ts ≡ map shown us → ts ≡ us
one_told s p ts us of also plays played same =
    one_play s.crash 0 p (rest s.operations) plays.0 played.0 ts us of also plays.1 played.1 same
