-- The first lines of the processes (`head_texts`), where one process moves.
use Rattle.std.proofs.Common.{◌≡◌, ℕ, zero, suc, ◌+◌, ◌-◌, ◌<◌, List, [], ◌∷◌, length, get_or, slice_index_or}
use Rattle.std.proofs.Common.{slice_set, refl, ap, arith}
use Rattle.snap_words.specs.Shape.{Counts}
use Rattle.snap_semantics.specs.declared.process.Item.{Item}
use Rattle.snap_semantics.specs.declared.process.Outcome.{Outcome}
use Rattle.snap_semantics.specs.Report.{head_line}
use Rattle.snap_semantics.specs.Source.{Source}
use Rattle.snap_semantics.specs.State.{Process, State, nobody, process_at}
use Rattle.snap_semantics.specs.Table.{done, who}
use Rattle.snap_output.specs.Touched.{head_texts}
use Rattle.snap_output.proofs.Kept.{moves, process_behind}

pub head_count : (k : ℕ) (ps : List Process) → length (head_texts k ps) ≡ length ps
head_count k [] = refl
head_count k (p ∷ ps) = ap suc (head_count (k + 1) ps)

head_at : (k j i : ℕ) (ps : List Process) → j < length ps → k + j ≡ i →
    get_or (head_texts k ps) j [] ≡ head_line i (slice_index_or ps j nobody).status
head_at k j i [] h e = absurd (omega (arith, h))
head_at k zero i (p ∷ ps) h e = let first : k ≡ i = omega (arith, e) in rw first refl
head_at k (suc j) i (p ∷ ps) h e = head_at (k + 1) j i ps (omega (arith, h)) (omega (arith, e))

head_set : (k j i : ℕ) (ps : List Process) (q : Process) → k + j ≡ i →
    head_texts k (slice_set ps j q) ≡ slice_set (head_texts k ps) j (head_line i q.status)
head_set k j i [] q e = refl
head_set k zero i (p ∷ ps) q e =
    let first : k ≡ i = omega (arith, e) in ap (λ n. head_line n q.status ∷ head_texts (k + 1) ps) first
head_set k (suc j) i (p ∷ ps) q e =
    ap (λ ls. head_line k p.status ∷ ls) (head_set (k + 1) j i ps q (omega (arith, e)))

-- the line of a process
pub head_of : (S : State) (i : ℕ) → 0 < i → i - 1 < length S.processes →
    get_or (head_texts 1 S.processes) (i - 1) [] ≡ head_line i (process_at S i).status
head_of S i one there = head_at 1 (i - 1) i S.processes there (omega (arith, one))

-- an item changes the line of its process alone
pub heads_after : (s : Source) (n : Counts) (S S' : State) (x : Item) (o : Outcome) → done s n S x ≡ (S', o) →
    0 < who x → who x - 1 < length S.processes →
    head_texts 1 S'.processes
    ≡ slice_set (head_texts 1 S.processes) (who x - 1) (head_line (who x) (process_at S' (who x)).status)
heads_after s n S S' x o is one there =
    let m = moves s.kind s n S x in
    let after : (done s n S x).0 ≡ S' = ap (λ (r : State × Outcome). r.0) is in
    rw (← after, process_behind m there, m.processes)
    (head_set 1 (who x - 1) (who x) S.processes m.process (omega (arith, one)))
