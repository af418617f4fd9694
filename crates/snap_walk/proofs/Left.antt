-- The items that are left of a schedule, segment by segment (`IsAhead`): behind the first of them, and behind all that
-- are alike.
use Rattle.std.proofs.Common.{◌≡◌, ℕ, zero, suc, ◌<◌, List, ◌∷◌, ◌++◌, length, replicate, Option, Some}
use Rattle.std.proofs.Common.{None, MatchOption, refl, sym, ap, subst, ◌∙◌, arith}
use Rattle.std.specs.Iterator.{YieldsFirst}
use Rattle.std.specs.List.{AllByRecursion}
use Rattle.snap_semantics.specs.declared.process.Item.{Item}
use Rattle.snap_sched.specs.ItemsLeft.{IsSome}
use Rattle.snap_sched.specs.Segments.{items_of_segments, segment_items}
use Rattle.snap_sched.specs.declared.segments.Segment.{Segment}
use Rattle.snap_sched.specs.declared.segments.Segment.TheVariants as segments
use Rattle.snap_walk.specs.Walking.{IsAhead}

-- a segment has an item
has_some : (r : Segment) (x : Item) (k : ℕ) → IsSome r → replicate k x ≡ segment_items r → 0 < k
has_some r x (suc k) some is = omega arith
has_some (segments.Steps i zero) x zero some is = absurd (omega (arith, some))
has_some _ x zero some is = absurd cc

-- the item of the next segment, and how often the segment has it, and the segments behind it
pub refilled : (rs rs' : List Segment) (o : Option Segment) (x : Item) (k : ℕ) → AllByRecursion IsSome rs →
    YieldsFirst (λ s. s) rs o rs' → MatchOption o (k ≡ 0) (λ r. replicate k x ≡ segment_items r) →
    (replicate k x ++ items_of_segments rs' ≡ items_of_segments rs) × IsAhead k rs'
refilled rs rs' None x k some gave is = (
  rw (is, gave.0, gave.1) refl,
  record {
    some = subst (AllByRecursion IsSome) (sym gave.1) tt;
    end = λ none. gave.1;
  },
)
refilled rs rs' (Some r) x k some gave is =
    let all : AllByRecursion IsSome (r ∷ rs') = subst (AllByRecursion IsSome) gave some in (
      ap (λ xs. xs ++ items_of_segments rs') is ∙ ap items_of_segments (sym gave),
      record {
        some = all.1;
        end = λ none. absurd (let has = has_some r x k all.0 is in omega (arith, has, none));
      },
    )

-- if there is one, it comes once at least
pub comes : (x : Item) (k : ℕ) (rs : List Segment) → IsAhead k rs → 0 < length (replicate k x ++ items_of_segments rs) →
    0 < k
comes x zero rs h some =
    let none : length (items_of_segments rs) ≡ 0 = ap (λ l. length (items_of_segments l)) (h.end refl) in
    absurd (omega (arith, some, none))
comes x (suc k) rs h some = omega arith

-- it comes once
pub last_one : (x : Item) (k : ℕ) (xs : List Item) → k ≡ 1 → replicate k x ++ xs ≡ x ∷ xs
last_one x k xs is = rw is refl
