-- The moves that a scan of U sees are writes since its start, with at most one double collect ended since.
use Rattle.std.proofs.Common.{◌≡◌, ℕ, ◌+◌, ◌<◌, ◌≤◌, not, List, length, refl, subst, arith}
use Rattle.snap_runs.proofs.Common.{IsOneOf, Item}
use Rattle.snap_runs.proofs.Algorithm.{Mode, At}
use Rattle.snap_runs.proofs.Computing.{differs, not_true, raised_only}
use Rattle.snap_runs.proofs.Held.{word_at, seq_at, before_seq}
use Rattle.snap_runs.proofs.Places.{for_each_at}
use Rattle.snap_runs.proofs.Single as single
use Rattle.snap_runs_of_u.specs.ListingU as u
use Rattle.snap_runs_of_u.specs.Promises.{MovesAreWrites}
use Rattle.snap_runs_of_u.proofs.Algorithm.{L17, L18, agree, moved_at, counted}
use Rattle.snap_runs_of_u.proofs.Collect.{Second, Between}
use Rattle.snap_runs_of_u.proofs.Count.{Count, counted_row}
use Rattle.snap_runs_of_u.proofs.Kept.{frame, calm_kept}
use Rattle.snap_runs_of_u.proofs.Ready.{Ready, ready}
use Rattle.snap_runs_of_u.proofs.Runs.{words_at, process_after, stage_of, counts_of}
use Rattle.snap_runs_of_u.proofs.Stage.{copies_grow}

-- what line 17 counts of process j, has been written since the double collect began
written_since : (n : ℕ) (items : List Item) (fits : Ready n items) → (t i j : ℕ) (d : Mode) →
    t < length items → IsOneOf n i → IsOneOf n j → (process_after n items t i).control ≡ At d L17 →
    moved_at (process_after n items t i).variables j
    < moved_at (counted_row n (process_after n items t i).variables) j →
    ((process_after n items t i).auxiliary.tested ≤ 1)
    × (seq_at (words_at n items (process_after n items t i).auxiliary.round) j < seq_at (words_at n items t) j)
written_since n items fits t i j d short one jone at more =
    let q = process_after n items t i in
    let p = q.variables in
    let since = q.auxiliary.since in
    let round = q.auxiliary.round in
    let stage = stage_of n items fits t i d L17 (omega arith) one at in
    let between : Between n (words_at n items) t since round (words_at n items t) p.moved p.a p.b (n + 1) = stage.1 in
    let second : Second n (words_at n items) t since round (words_at n items t) p.moved p.a p.b (n + 1)
    (words_at n items between.0) = between.3 in
    let grows : moved_at p j < counted p j =
    subst (λ y. moved_at p j < y) (for_each_at n (counted p) p.moved j jone) more in
    let differ : seq_at p.a j < seq_at p.b j =
    differs (seq_at p.a j) (seq_at p.b j) (not_true (agree p j) (raised_only (not (agree p j)) (moved_at p j) grows))
    (copies_grow n (words_at n items) t since round (words_at n items t) p between j jone) in
    let fresh : seq_at (words_at n items round) j ≤ seq_at p.a j = (second.first j jone).fresh in
    let later : seq_at p.b j ≤ seq_at (words_at n items t) j =
    before_seq (word_at p.b j) (word_at (words_at n items t) j) (second.read j jone (omega (arith, jone))).1 in
    let counts : Count n p q.auxiliary.own q.auxiliary.collects q.auxiliary.tested L17 =
    counts_of n items fits t i d L17 (omega arith) one at in
    (counts.3, omega arith)

pub moves_are_writes_lem : MovesAreWrites
moves_are_writes_lem n items suffice =
    single.moves_are_writes (frame n) (λ i word is. is) items (calm_kept n items suffice) 17 L17 L18
    (λ me p. counted_row n p) u.moved refl refl
    (λ me d m p. refl) (λ steady t i j d short one jone at more.
    written_since n _ (ready n items suffice steady) t i j d short one jone at more)
