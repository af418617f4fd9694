-- The counters of writes, answers and puts of views that the proof of M keeps beside the
-- registers, and the views: an item keeps all of them unless it is a step at line 52, 55 or 57.
use Rattle.std.proofs.Common.{◌≡◌, ℕ, ◌⊎◌, refl, sym, subst, inl, inr}
use Rattle.snap_semantics.specs.declared.process.Item.{Item}
use Rattle.snap_runs.proofs.Algorithm.{Mode, memory_after, happens}
use Rattle.snap_runs.proofs.Keeping as keeping
use Rattle.snap_runs_of_m.proofs.Algorithm.{Registers, Move, State, Variables, ProgramCounter, L15, L52, L55, L57}
use Rattle.snap_runs_of_m.proofs.Algorithm.{move, algorithm}
use Rattle.snap_runs_of_m.proofs.Preserve.{kept}

abbrev pub SameCounters : Registers → Registers → Type 0
SameCounters m m' = (m'.writes ≡ m.writes) × (m'.answers ≡ m.answers) × (m'.puts ≡ m.puts) × (m'.views ≡ m.views)

abbrev pub Raises : ProgramCounter → Type 0
Raises k = (k ≡ L52) ⊎ ((k ≡ L55) ⊎ (k ≡ L57))

-- Every other line keeps them.
abbrev pub KeepsCounters : Registers → Move → Type 0
KeepsCounters m v = SameCounters m (memory_after m v)

pub counters_kept : (n w me : ℕ) (d : Mode) (m : Registers) (p : Variables) (k : ProgramCounter) →
    KeepsCounters m (move n w me d m p k) ⊎ Raises k
counters_kept n w me d m p L15 = inl (refl, refl, refl, refl)
counters_kept n w me d m p L52 = inr (inl refl)
counters_kept n w me d m p L55 = inr (inr (inl refl))
counters_kept n w me d m p L57 = inr (inr (inr refl))
counters_kept n w me d m p k =
    inl (subst (SameCounters m) (sym (kept n w me m p d k tt)) (refl, refl, refl, refl))

-- an item keeps them, or is a step at one of these lines
abbrev pub Does : ℕ → ℕ → State → Item → Type 0
Does n w = keeping.Does (algorithm n w) SameCounters (λ m. (refl, refl, refl, refl)) Raises (counters_kept n w)

pub item_counters : (n w t : ℕ) (x : State) (y : Item) →
    SameCounters x.memory (happens (algorithm n w) t x y).memory ⊎ Does n w x y
item_counters n w =
    keeping.item_keeps (algorithm n w) SameCounters (λ m. (refl, refl, refl, refl)) Raises (counters_kept n w)
