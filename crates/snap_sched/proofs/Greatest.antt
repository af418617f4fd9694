-- Steps, a call or a crash added to a schedule's segments: these are still the greatest ones (`AreGreatest`), no two
-- neighbours steps of one process.
use Rattle.std.proofs.Common.{◌≡◌, ℕ, suc, ◌+◌, ◌<◌, List, [], ◌∷◌, ◌++◌, length, map, replicate, set, Some, None}
use Rattle.std.proofs.Common.{sym, ap, ◌∙◌, append-nil, subst}
use Rattle.std.proofs.lemmas.List.{map-set, map-append, length-map}
use Rattle.std.proofs.lemmas.List.Folds.{flat_map-map}
use Rattle.std.proofs.lemmas.Grind.{flat_map-append}
use Rattle.std.specs.List.{flat_map}
use Rattle.snap_semantics.specs.declared.process.Item.{Item}
use Rattle.snap_semantics.specs.declared.process.Item.TheVariants as item
use Rattle.snap_semantics.specs.declared.process.Op.{Op}
use Rattle.snap_semantics.specs.Schedule.{form_items}
use Rattle.snap_semantics.specs.ScheduleText.{forms_of}
use Rattle.snap_sched.specs.declared.segments.Segment.{Segment}
use Rattle.snap_sched.specs.declared.segments.Segment.TheVariants as segments
use Rattle.snap_sched.specs.Segments.{segment_form, segment_items, items_of_segments, last_count, AreGreatest}
use Rattle.snap_sched.proofs.Apart.{AreApart, forms_apart, apart_forms, steps_added, call_added, crash_added}
use Rattle.snap_sched.proofs.Apart.{steps_grown, items_grown}

-- the items of segments are those of their forms
pub form_items_of : (rs : List Segment) → flat_map form_items (map segment_form rs) ≡ items_of_segments rs
form_items_of rs = flat_map-map form_items segment_form rs

pub greatest_apart : (rs : List Segment) → AreGreatest rs → AreApart (map segment_form rs)
greatest_apart rs h = subst AreApart h (forms_apart (items_of_segments rs))

apart_greatest : (rs : List Segment) → AreApart (map segment_form rs) → AreGreatest rs
apart_greatest rs h = ap forms_of (sym (form_items_of rs)) ∙ apart_forms (map segment_form rs) h

-- one segment more
segment_added : (old new : List Segment) (r : Segment) → new ≡ old ++ r ∷ [] →
    AreApart (map segment_form old ++ segment_form r ∷ []) → AreGreatest new
segment_added old new r is h =
    apart_greatest new (subst AreApart (sym (ap (map segment_form) is ∙ map-append segment_form old (r ∷ []))) h)

pub call_greatest : (old new : List Segment) (p : ℕ) (op : Op) → new ≡ old ++ segments.Call p op ∷ [] →
    AreGreatest old → AreGreatest new
call_greatest old new p op is h =
    segment_added old new (segments.Call p op) is (call_added (map segment_form old) p op (greatest_apart old h))

pub crash_greatest : (old new : List Segment) (p : ℕ) → new ≡ old ++ segments.Crash p ∷ [] →
    AreGreatest old → AreGreatest new
crash_greatest old new p is h =
    segment_added old new (segments.Crash p) is (crash_added (map segment_form old) p (greatest_apart old h))

pub steps_greatest : (old new : List Segment) (p c : ℕ) → new ≡ old ++ segments.Steps p c ∷ [] → 0 < c →
    last_count p (map segment_form old) ≡ None → AreGreatest old → AreGreatest new
steps_greatest old new p c is some none h =
    segment_added old new (segments.Steps p c) is
    (steps_added (map segment_form old) p c (greatest_apart old h) some none)

pub grown_greatest : (old new : List Segment) (k p a b : ℕ) → new ≡ set old k (segments.Steps p b) →
    suc k ≡ length old → last_count p (map segment_form old) ≡ Some a → 0 < b → AreGreatest old → AreGreatest new
grown_greatest old new k p a b is last found some h =
    apart_greatest new
    (subst AreApart (sym (ap (map segment_form) is ∙ map-set segment_form old k (segments.Steps p b)))
    (steps_grown (map segment_form old) k p a b (last ∙ sym (length-map old segment_form))
    (greatest_apart old h) found some))

pub grown_items : (old new : List Segment) (k p a c : ℕ) → new ≡ set old k (segments.Steps p (a + c)) →
    suc k ≡ length old → last_count p (map segment_form old) ≡ Some a →
    items_of_segments new ≡ items_of_segments old ++ replicate c (item.Step p)
grown_items old new k p a c is last found =
    sym (form_items_of new)
    ∙ ap (flat_map form_items) (ap (map segment_form) is ∙ map-set segment_form old k (segments.Steps p (a + c)))
    ∙ items_grown (map segment_form old) k p a c (last ∙ sym (length-map old segment_form)) found
    ∙ ap (λ (xs : List Item). xs ++ replicate c (item.Step p)) (form_items_of old)

-- the items of one segment more
pub added_items : (old new : List Segment) (r : Segment) → new ≡ old ++ r ∷ [] →
    items_of_segments new ≡ items_of_segments old ++ segment_items r
added_items old new r is =
    ap items_of_segments is ∙ flat_map-append segment_items old (r ∷ [])
    ∙ ap (λ (xs : List Item). items_of_segments old ++ xs) (append-nil (segment_items r))
