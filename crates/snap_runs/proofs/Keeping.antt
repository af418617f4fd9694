-- An item keeps a part of the memory, or is a step at one of the few lines of the algorithm that do not keep it.
use Rattle.std.proofs.Common.{◌≡◌, ℕ, ◌⊎◌, refl, sym, subst, inl, inr}
use Rattle.snap_runs.proofs.Common.{Item, Step, Call, Crash}
use Rattle.snap_runs.proofs.Algorithm.{Mode, Control, Idle, At, TypedState, Algorithm, by_step, memory_after}
use Rattle.snap_runs.proofs.Algorithm.{typed_at, changed, happens}
use Rattle.snap_runs.proofs.Embedding as embed

module _ {V P M : Type 0} (a : Algorithm V P M) (Same : M → M → Type 0) (same : (m : M) → Same m m)
    (Special : P → Type 0)
    (kept : (i : ℕ) (d : Mode) (m : M) (p : V) (k : P) → Same m (memory_after m (a.move i d m p k)) ⊎ Special k) where
  -- a step at one of those lines
  pub record Does (x : TypedState V P M) (y : Item) : Type 0 where
    pub process : ℕ
    pub mode : Mode
    pub counter : P
    pub item : y ≡ Step process
    pub control : (typed_at a x process).control ≡ At mode counter
    pub special : Special counter

  step_keeps : (t : ℕ) (x : TypedState V P M) (i : ℕ) (control : Control P) → (typed_at a x i).control ≡ control →
      Same x.memory (changed x i (by_step a t x.memory i (typed_at a x i) control)).memory ⊎ Does x (Step i)
  step_keeps t x i Idle is = inl (same x.memory)
  step_keeps t x i (At d k) is =
      elim (kept i d x.memory (typed_at a x i).variables k) [
        | inl keeps ↦ (let v = a.move i d x.memory (typed_at a x i).variables k in
            inl (subst (Same x.memory) (sym (embed.move_memory a t x i k v)) keeps))
        | inr special ↦
            inr (record { process = i; mode = d; counter = k; item = refl; control = is; special = special })
      ]

  pub item_keeps : (t : ℕ) (x : TypedState V P M) (y : Item) → Same x.memory (happens a t x y).memory ⊎ Does x y
  item_keeps t x (Step i) = step_keeps t x i (typed_at a x i).control refl
  item_keeps t x (Call i op) =
      inl (subst (Same x.memory) (sym (embed.call_memory a t x i op (typed_at a x i).control)) (same x.memory))
  item_keeps t x (Crash i) = inl (same x.memory)
