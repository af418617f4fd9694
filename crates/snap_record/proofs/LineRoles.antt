-- The table of line roles of a record (`AreRoles`), made line by line (`AreFirstRoles`).
use Rattle.std.proofs.Common.{◌≡◌, ◌⊎◌, inl, inr, ℕ, suc, ◌<◌, ◌≤◌, List, [], ◌∷◌, ◌++◌}
use Rattle.std.proofs.Common.{length, get_or, sym, ap, subst, ◌∙◌, arith}
use Rattle.std.proofs.Math.ListN.{get_or-append}
use Rattle.std.proofs.Math.Nat.{eq-or-lt_of_le}
use Rattle.std.proofs.Math.Seq.{get_or-append_seam}
use Rattle.std.proofs.lemmas.List.{length-append}
use Rattle.snap_semantics.specs.Source.{Source, instr_at}
use Rattle.snap_record.specs.Roles.{role_of}
use Rattle.snap_record.specs.declared.roles.LineRole.{LineRole}

-- roles of the first numbers, which are those of their lines
abbrev pub AreFirstRoles : Source → List LineRole → Type 0
AreFirstRoles s ms = (k : ℕ) → k < length ms → (d : LineRole) → get_or ms k d ≡ role_of (instr_at s.lines k)

-- one line more
pub roles_more : (s : Source) (ms new : List LineRole) (m : LineRole) (k : ℕ) → AreFirstRoles s ms → k ≡ length ms →
    new ≡ ms ++ m ∷ [] → m ≡ role_of (instr_at s.lines k) → AreFirstRoles s new
roles_more s ms new m k h at is right =
    subst (AreFirstRoles s) (sym is) (λ j lt d. by_place j d
    (eq-or-lt_of_le (let longer = length-append ms (m ∷ []) in let e : j ≤ length ms = omega (arith, lt, longer) in e)))
  where
    by_place : (j : ℕ) (d : LineRole) → (j ≡ length ms) ⊎ (suc j ≤ length ms) →
        get_or (ms ++ m ∷ []) j d ≡ role_of (instr_at s.lines j)
    by_place j d (inl same) =
        ap (λ i. get_or (ms ++ m ∷ []) i d) same ∙ get_or-append_seam ms m [] d ∙ right
        ∙ ap (λ i. role_of (instr_at s.lines i)) (at ∙ sym same)
    by_place j d (inr less) = get_or-append ms (m ∷ []) d j less ∙ h j less d
