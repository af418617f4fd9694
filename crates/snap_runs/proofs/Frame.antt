-- An item changes one typed process of an `Algorithm`, and perhaps the
-- memory: what holds of each process and of each pair of them afterwards.
use Rattle.std.proofs.Common.{◌≡◌, ◌≢◌, ℕ, length, sym, ◌∙◌, ap, subst, inl, inr}
use Rattle.std.proofs.lemmas.Bool.{cases_eq}
use Rattle.snap_runs.proofs.Common.{IsOneOf, Outcome}
use Rattle.snap_runs.proofs.Algorithm.{TypedProcess, TypedState, Algorithm, New, typed_at, changed}
use Rattle.snap_runs.proofs.Embedding as embed

module _ {V P M : Type 0} (a : Algorithm V P M) (x : TypedState V P M) (i : ℕ) (m : M)
    (q' : TypedProcess V P M) (o : Outcome)
    (count : length x.processes ≡ a.shape.n) (one : IsOneOf a.shape.n i) where
  abbrev pub next : TypedState V P M
  next = changed x i (New m q' o)

  changes : (k : ℕ) → k ≡ i → typed_at a next k ≡ q'
  changes k e = ap (typed_at a next) e ∙ embed.own_process a x i m q' o count one

  stays : (k : ℕ) → IsOneOf a.shape.n k → k ≢ i → typed_at a next k ≡ typed_at a x k
  stays k j other = embed.other_process a x i k (New m q' o) one.0 j.0 other

  -- what holds of the new process and went on holding of the others holds of each
  pub each_next : (Each : ℕ → TypedProcess V P M → Type 0) → Each i q' →
      ((k : ℕ) → IsOneOf a.shape.n k → k ≢ i → Each k (typed_at a x k)) →
      (k : ℕ) → IsOneOf a.shape.n k → Each k (typed_at a next k)
  each_next Each own others k j =
      elim (cases_eq k i) [
        | inl same ↦ subst (Each k) (sym (changes k same)) (subst (λ y. Each y q') (sym same) own)
        | inr other ↦ subst (Each k) (sym (stays k j other)) (others k j other)
      ]

  -- a claim of pairs of processes; a pair has the number of its second process
  pub record Pairs (Pair : TypedProcess V P M → TypedProcess V P M → ℕ → Type 0) : Type 0 where
    pub own : Pair q' q' i
    pub first : (k : ℕ) → IsOneOf a.shape.n k → k ≢ i → Pair q' (typed_at a x k) k
    pub second : (k : ℕ) → IsOneOf a.shape.n k → k ≢ i → Pair (typed_at a x k) q' i
    pub others : (k l : ℕ) → IsOneOf a.shape.n k → IsOneOf a.shape.n l → k ≢ i → l ≢ i →
        Pair (typed_at a x k) (typed_at a x l) l

  pub pairs_next : (Pair : TypedProcess V P M → TypedProcess V P M → ℕ → Type 0) → Pairs Pair → (k l : ℕ) →
      IsOneOf a.shape.n k → IsOneOf a.shape.n l → Pair (typed_at a next k) (typed_at a next l) l
  pairs_next Pair h k l jk jl =
      elim (cases_eq k i) [
        | inl same ↦ subst (λ (q : TypedProcess V P M). Pair q (typed_at a next l) l) (sym (changes k same))
            (each_next (λ y q. Pair q' q y) h.own (λ y j other. h.first y j other) l jl)
        | inr other ↦ subst (λ (q : TypedProcess V P M). Pair q (typed_at a next l) l) (sym (stays k jk other))
            (each_next (λ y q. Pair (typed_at a x k) q y) (h.second k jk other)
            (λ y j away. h.others k y jk j other away) l jl)
      ]
