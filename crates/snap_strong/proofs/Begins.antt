-- A list of operations that begins with another one (`BeginsWith`)
-- has the same process, call and action at each of its places.
use Rattle.std.proofs.Common.{◌≡◌, ℕ, ◌<◌, List, map, length, slice_index_or, sym, ◌∙◌, ap, arith}
use Rattle.std.proofs.lemmas.List.{length-map, length-append, get_or-map, get_or_append_left}
use Rattle.snap_runs.specs.Operation.{Operation}
use Rattle.snap_strong.specs.StrongLinearization.{without_end, BeginsWith}

-- but for its end, the operation at a place is the same
pub begins_at : (longer shorter : List Operation) → BeginsWith longer shorter → (k : ℕ) (d : Operation) →
    k < length shorter →
    (k < length longer) × (without_end (slice_index_or longer k d) ≡ without_end (slice_index_or shorter k d))
begins_at longer shorter begins k d lt =
    let front = map without_end shorter in
    let size = ap length begins.1 ∙ length-append front begins.0 in
    let short : k < length front = omega (arith, length-map shorter without_end) in
    let there : k < length longer = omega (arith, length-map longer without_end) in (
      there,
      sym (get_or-map without_end longer k d (without_end d) there)
          ∙ ap (λ os. slice_index_or os k (without_end d)) begins.1
          ∙ get_or_append_left front begins.0 (without_end d) k short
          ∙ get_or-map without_end shorter k d (without_end d) lt,
    )
