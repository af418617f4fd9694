-- The moves that a scan of B sees are writes since its start, with at most one double collect ended since.
use Rattle.std.proofs.Common.{◌≡◌, ℕ, ◌+◌, ◌<◌, ◌≤◌, not, List, length, refl, subst, arith}
use Rattle.snap_runs.proofs.Common.{IsOneOf, Item}
use Rattle.snap_runs.proofs.Algorithm.{Mode, At}
use Rattle.snap_runs.proofs.Computing.{not_true, raised_only}
use Rattle.snap_runs.proofs.Held.{word_at, seq_at}
use Rattle.snap_runs.proofs.Places.{for_each_at}
use Rattle.snap_runs.proofs.Steady.{Steady}
use Rattle.snap_runs.proofs.Single as single
use Rattle.snap_runs_of_b.specs.ListingB as listing
use Rattle.snap_runs_of_b.specs.Promises.{run_of, MovesAreWrites}
use Rattle.snap_runs_of_b.proofs.Algorithm.{L21, L22, agree, moved_at, counted}
use Rattle.snap_runs_of_b.proofs.Collect.{Second, Between, moved_since}
use Rattle.snap_runs_of_b.proofs.Count.{Count, counted_row}
use Rattle.snap_runs_of_b.proofs.Follow.{follows_seq}
use Rattle.snap_runs_of_b.proofs.Kept.{frame, calm_kept}
use Rattle.snap_runs_of_b.proofs.Runs.{words_at, process_after, stage_of, counts_of}

-- what line 21 counts of process j, has been written since the double collect began
written_since : (n : ℕ) (items : List Item) (fits : Steady (run_of n items)) →
    (t i j : ℕ) (d : Mode) → t < length items → IsOneOf n i → IsOneOf n j →
    (process_after n items t i).control ≡ At d L21 → moved_at (process_after n items t i).variables j
    < moved_at (counted_row n i (process_after n items t i).variables) j →
    ((process_after n items t i).auxiliary.tested ≤ 1)
    × (seq_at (words_at n items (process_after n items t i).auxiliary.round) j < seq_at (words_at n items t) j)
written_since n items fits t i j d short one jone at more =
    let q = process_after n items t i in
    let p = q.variables in
    let since = q.auxiliary.since in
    let round = q.auxiliary.round in
    let stage = stage_of n items fits t i d L21 (omega arith) one at in
    let between : Between n i (words_at n items) t since round (words_at n items t) p.g p.marks p.a p.b (n + 1) =
    stage.1 in
    let second : Second n i (words_at n items) t since round (words_at n items t) p.g p.marks p.a p.b (n + 1)
    (words_at n items between.0) = between.3 in
    let grows : moved_at p j < counted i p j =
    subst (λ y. moved_at p j < y) (for_each_at n (counted i p) p.moved j jone) more in
    let newer : seq_at (words_at n items round) j < seq_at p.b j =
    moved_since n i (words_at n items) t since round (words_at n items t) p between j jone
    (not_true (agree i p j) (raised_only (not (agree i p j)) (moved_at p j) grows)) in
    let later : seq_at p.b j ≤ seq_at (words_at n items t) j =
    follows_seq (word_at p.b j) (word_at (words_at n items t) j)
    (second.read j jone (omega (arith, jone))).before in
    let counts : Count n i p q.auxiliary.own q.auxiliary.collects q.auxiliary.tested L21 =
    counts_of n items fits t i d L21 (omega arith) one at in
    (counts.3, omega arith)

pub moves_are_writes_lem : MovesAreWrites
moves_are_writes_lem n items =
    single.moves_are_writes (frame n) (λ i word is. is) items (calm_kept n items) 21 L21 L22
    (λ me p. counted_row n me p) listing.moved refl refl
    (λ me d m p. refl) (λ steady t i j d short one jone at more.
    written_since n _ steady t i j d short one jone at more)
