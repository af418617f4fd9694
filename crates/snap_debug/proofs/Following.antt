-- A `Followed` does one more item: the state and the events that it keeps are those of the longer run.
use Rattle.std.proofs.Common.{◌≡◌, ℕ, suc, ◌<◌, List, [], ◌∷◌, ◌++◌, refl, arith}
use Rattle.snap_words.specs.Shape.{Counts, IsOneOf, max_items}
use Rattle.snap_words.specs.declared.kind.KindTag.{KindTag}
use Rattle.snap_semantics.specs.Run.{event_of}
use Rattle.snap_semantics.specs.Source.{Source}
use Rattle.snap_semantics.specs.State.{State, initial}
use Rattle.snap_semantics.specs.Table.{done, who}
use Rattle.snap_semantics.specs.declared.event.Event.{Event}
use Rattle.snap_semantics.specs.declared.process.Item.{Item}
use Rattle.snap_semantics.specs.declared.process.Outcome.{Outcome}
use Rattle.snap_machine.specs.Configuration.{Configuration}
use Rattle.snap_runs.specs.Run.{Run, state}
use Rattle.snap_record.specs.Longer.{with_item}
use Rattle.snap_record.proofs.Longer.{size, longer, state_last, events_last, join_all}
use Rattle.snap_debug.specs.Followed.{IsFollowed}

-- before the first item
pub started : (s : Source) (n : Counts) (k : KindTag) (m : Configuration) (items : List Item) (es : List Event) →
    s.kind ≡ k → m ≡ record { source = s; shape = n; state = initial s n } → items ≡ [] → es ≡ [] →
    IsFollowed (record { source = m.source; shape = m.shape; items = items }) k m.state es
started s n k m items es kind is none e =
    rw (is, none, e) (record {
      kind = kind;
      state_is = refl;
      fits = record { all = tt };
      few = omega arith;
      events_are = refl;
    })

-- one item more
pub followed_on : (r : Run) (k : KindTag) (S S' : State) (x : Item) (o : Outcome) (es es0 es' : List Event) (t : ℕ) →
    IsFollowed r k S es → IsOneOf r.shape.n (who x) → size r < max_items → t ≡ suc (size r) →
    done r.source r.shape S x ≡ (S', o) → es0 ≡ es → es' ≡ es0 ++ event_of t x o → IsFollowed (with_item r x) k S' es'
followed_on r k S S' x o es es0 es' t h one few number is_done same more =
    let items = longer r x in
    record {
      kind = h.kind;
      state_is = rw (items, state_last r x, ← h.state_is, is_done) refl;
      fits = record { all = join_all (λ (y : Item). IsOneOf r.shape.n (who y)) r.items (x ∷ []) h.fits.all (one, tt) };
      few = omega (arith, items, few);
      events_are = rw (more, same, number, h.events_are, items, events_last r x, ← h.state_is, is_done) refl;
    }
