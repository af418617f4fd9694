-- `LinearizableFromTheBeginning`: of a linearization the operations up to the first one that is called later, without
-- the scans that have not been answered yet, and without the ends that come later.
use Rattle.std.proofs.Common.{◌≡◌, ℕ, zero, suc, ◌<◌, ◌≤◌, ◌⊎◌, List, [], ◌∷◌, refl, ap, sym, subst, arith, ◌∙◌, inl}
use Rattle.std.proofs.Common.{inr, Option, Some, None, max, replicate, take}
use Rattle.std.specs.List.{AllByRecursion, AllPairs, Contains}
use Rattle.std.proofs.lemmas.Bool.{cases_lt}
use Rattle.std.proofs.lemmas.List.Elements.{All-from_recursion, recursion_from_All}
use Rattle.snap_semantics.specs.declared.event.Event.{Event}
use Rattle.snap_semantics.specs.declared.event.Happening.TheVariants as what
use Rattle.snap_runs.specs.Operation.{Action, EndedBefore, Operation, Sees, Sets}
use Rattle.snap_runs.specs.Linearization.{RunsFrom, after}
use Rattle.snap_runs.proofs.Order.{Apart, Pairs, all_pairs, keeps_order}
use Rattle.snap_judge.specs.History.{History}
use Rattle.snap_judge.specs.Linearizable.{CameToEnd, IsOperationOf, called_as}
use Rattle.snap_judge.specs.Linearizable.{LinearizableFromTheBeginning, ends_as, event, up_to}
use Rattle.snap_judge.proofs.ExplainedLists.{contains_cases, contains_head, contains_none, contains_tail}
use Rattle.snap_judge.proofs.ExplainedLists.{each_contained}
use Rattle.snap_judge.proofs.ExplainedLists.{each_weaker, pairs_apart, pairs_by_recursion, pairs_head, pairs_tail}
use Rattle.snap_judge.proofs.ExplainedNext.{Rises}
use Rattle.snap_judge.proofs.ExplainedEvents.{ends_later}

-- The first k events are those below number p.
record IsCut (es : List Event) (k p : ℕ) : Type 0 where
  below : (e : Event) → Contains (take k es) e → Contains es e × (e.item < p)
  within : (e : Event) → Contains es e → e.item < p → Contains (take k es) e

cut : (es : List Event) (k : ℕ) → AllPairs Rises es → (p : ℕ) × IsCut es k p
cut es zero rising = (
  0,
  record {
    below = λ e has. absurd (contains_none e has);
    within = λ e has lt. absurd (omega arith);
  },
)
cut [] (suc k) rising = (
  0,
  record {
    below = λ e has. absurd (contains_none e has);
    within = λ e has lt. absurd (omega arith);
  },
)
cut (x ∷ es) (suc k) rising =
    let rest = cut es k (pairs_tail Rises x es rising) in (
      max rest.0 (suc x.item),
      record {
        below = λ e has. elim (contains_cases x e (take k es) has) [
          | inl same ↦ (let one : x.item ≡ e.item = ap (λ (y : Event). y.item) same in
              (subst (Contains (x ∷ es)) same (contains_head x es), omega arith))
          | inr later ↦ (let b = rest.1.below e later in let lt : e.item < rest.0 = b.1 in
              (contains_tail x e es b.0, omega arith))
        ];
        within = λ e has lt. elim (contains_cases x e es has) [
          | inl same ↦ subst (Contains (x ∷ take k es)) same (contains_head x (take k es))
          | inr later ↦ (let up : x.item < e.item = pairs_head Rises x e es rising later in
              contains_tail x e (take k es) (rest.1.within e later (omega arith)))
        ];
      },
    )

-- Operation y is what the first k events tell of operation o, which was called below number p.
record IsKept (h : History) (k p : ℕ) (o y : Operation) : Type 0 where
  operation : IsOperationOf (up_to k h) y
  call : y.call ≡ o.call
  action : y.action ≡ o.action
  end : (t : ℕ) → y.end ≡ Some t → o.end ≡ Some t
  same : (t : ℕ) → o.end ≡ Some t → t < p → o ≡ y

-- The operation is a scan that has no answer below number p.
record IsLate (p : ℕ) (o : Operation) : Type 0 where
  view : List ℕ
  sees : o.action ≡ Sees view
  later : (t : ℕ) → o.end ≡ Some t → p ≤ t

-- Operation y has the call of one of os, and the end of that one, if any.
abbrev IsFrom : List Operation → Operation → Type 0
IsFrom os y = (o : Operation) × Contains os o × (y.call ≡ o.call) × ((t : ℕ) → y.end ≡ Some t → o.end ≡ Some t)

from_more : (o : Operation) (os ys : List Operation) → AllByRecursion (IsFrom os) ys →
    AllByRecursion (IsFrom (o ∷ os)) ys
from_more o os ys from =
    each_weaker (IsFrom os) (IsFrom (o ∷ os)) ys (λ y f. (f.0, contains_tail o f.0 os f.1, f.2, f.3)) from

-- The operations ys are the first ones of os, as the first k events tell of them.
record IsBeginning (h : History) (k p : ℕ) (values : List ℕ) (os ys : List Operation) : Type 0 where
  each : AllByRecursion (IsOperationOf (up_to k h)) ys
  pairs : Pairs Apart ys
  runs : RunsFrom values ys
  from : AllByRecursion (IsFrom os) ys
  has : (o : Operation) (t : ℕ) → Contains os o → o.end ≡ Some t → t < p → Contains ys o

module _ (h : History) (k p : ℕ) (c : IsCut h.events k p) where
  abbrev KeptOrLate : Operation → Type 0
  KeptOrLate o = ((y : Operation) × IsKept h k p o y) ⊎ IsLate p o

  called_there : (o : Operation) → IsOperationOf h o → o.call < p →
      Contains (take k h.events) (event o.process o.call (what.Call (called_as o.action)))
  called_there o is before = c.within (event o.process o.call (what.Call (called_as o.action))) is.called before

  kept_whole : (o : Operation) → IsOperationOf h o → o.call < p →
      CameToEnd (take k h.events) o.process o.call o.end o.action → KeptOrLate o
  kept_whole o is before came = inl (
    o,
    record {
      operation = record { called = called_there o is before; came = came };
      call = refl;
      action = refl;
      end = λ t e. e;
      same = λ t e lt. refl;
    },
  )

  -- An operation that ends later is kept without its end, if it is no scan.
  ended_later : (i n t : ℕ) (a : Action) →
      IsOperationOf h (record { process = i; call = n; end = Some t; action = a }) → n < p → p ≤ t →
      KeptOrLate (record { process = i; call = n; end = Some t; action = a })
  ended_later i n t (Sees view) is before later = inr (record {
    view = view;
    sees = refl;
    later = λ u end. let both : Some t ≡ Some u = end in let one : t ≡ u = cc in omega arith;
  })
  ended_later i n t (Sets word value) is before later = inl (
    record { process = i; call = n; end = None; action = Sets word value },
    record {
      operation = record {
        called = called_there _ is before;
        came = λ e has its after. let b = c.below e has in let lt : e.item < p = b.1 in
            absurd (is.came.2 e b.0 its after (omega arith));
      };
      call = refl;
      action = refl;
      end = λ u e. absurd (let no : ◌≡◌ {A = Option ℕ} None (Some u) = e in cc);
      same = λ u e lt. let both : Some t ≡ Some u = e in let one : t ≡ u = cc in absurd (omega arith);
    },
  )

  kept_or_late : (i n : ℕ) (end : Option ℕ) (a : Action) →
      IsOperationOf h (record { process = i; call = n; end = end; action = a }) → n < p →
      KeptOrLate (record { process = i; call = n; end = end; action = a })
  kept_or_late i n (Some t) a is before = elim (cases_lt t p) [
    | inl less ↦ kept_whole _ is before (
      is.came.0,
      c.within (event i t (ends_as a)) is.came.1 less,
      λ e has its after early. is.came.2 e (c.below e has).0 its after early,
    )
    | inr later ↦ ended_later i n t a is before later
  ]
  kept_or_late i n None (Sets word value) is before =
      kept_whole _ is before (λ e has its after. is.came e (c.below e has).0 its after)
  kept_or_late i n None (Sees view) is before = absurd is.came

  -- An operation that is called later, and all behind it, are left out.
  none_left : (values : List ℕ) (o : Operation) (os : List Operation) → IsOperationOf h o → p ≤ o.call →
      AllByRecursion (Apart o) os → IsBeginning h k p values (o ∷ os) []
  none_left values o os is le apart = record {
    each = tt;
    pairs = tt;
    runs = tt;
    from = tt;
    has = λ x t has end lt. elim (contains_cases o x os has) [
      | inl same ↦ (let late : x.call < t =
          ends_later h x t (subst (IsOperationOf h) same is) end in
          let one : o.call ≡ x.call = ap (λ (z : Operation). z.call) same in absurd (omega arith))
      | inr later ↦ absurd ((each_contained (Apart o) x os apart later).1 (t, end, omega arith))
    ];
  }

  -- A scan that is answered later is left out.
  scan_left : (values : List ℕ) (o : Operation) (os ys : List Operation) → IsLate p o →
      IsBeginning h k p (after values o.action) os ys → IsBeginning h k p values (o ∷ os) ys
  scan_left values o os ys late b = record {
    each = b.each;
    pairs = b.pairs;
    runs = subst (λ (a : Action). RunsFrom (after values a) ys) late.sees b.runs;
    from = from_more o os ys b.from;
    has = λ x t has end lt. elim (contains_cases o x os has) [
      | inl same ↦ (let le : p ≤ t = late.later t (subst (λ (z : Operation). z.end ≡ Some t) (sym same) end) in
          absurd (omega arith))
      | inr later ↦ b.has x t later end lt
    ];
  }

  -- An operation that is called below number p, and is no such scan, is kept.
  one_kept : (values : List ℕ) (o y : Operation) (os ys : List Operation) → IsKept h k p o y →
      AllByRecursion (Apart o) os → RunsFrom values (o ∷ os) →
      IsBeginning h k p (after values o.action) os ys → IsBeginning h k p values (o ∷ os) (y ∷ ys)
  one_kept values o y os ys kept apart runs b = record {
    each = (kept.operation, b.each);
    pairs = (
      each_weaker (IsFrom os) (Apart y) ys
          (λ z f. let a = each_contained (Apart o) f.0 os apart f.1 in (
            λ same. a.0 (sym kept.call ∙ same ∙ f.2),
            λ ended. let lt : ended.0 < y.call = ended.2 in let one : y.call ≡ o.call = kept.call in
                a.1 (ended.0, f.3 ended.0 ended.1, omega arith),
          )) b.from,
      b.pairs,
    );
    runs = subst (λ (a : Action). RunsFrom values (record y { action = a } ∷ ys)) (sym kept.action) (runs.0, b.runs);
    from = ((o, contains_head o os, kept.call, kept.end), from_more o os ys b.from);
    has = λ x t has end lt. elim (contains_cases o x os has) [
      | inl same ↦ (let one : o ≡ y =
          kept.same t (subst (λ (z : Operation). z.end ≡ Some t) (sym same) end) lt in
          subst (Contains (y ∷ ys)) (sym one ∙ same) (contains_head y ys))
      | inr later ↦ contains_tail y x ys (b.has x t later end lt)
    ];
  }

  beginning : (values : List ℕ) (os : List Operation) → AllByRecursion (IsOperationOf h) os → Pairs Apart os →
      RunsFrom values os → (ys : List Operation) × IsBeginning h k p values os ys
  beginning values [] each pairs runs = (
    [],
    record {
      each = tt;
      pairs = tt;
      runs = tt;
      from = tt;
      has = λ x t has end lt. absurd (contains_none x has);
    },
  )
  beginning values (o ∷ os) each pairs runs =
      let rest = beginning (after values o.action) os each.1 pairs.1 runs.1 in
      elim (cases_lt o.call p) [
        | inr le ↦ ([], none_left values o os each.0 le pairs.0)
        | inl before ↦ elim (kept_or_late o.process o.call o.end o.action each.0 before) [
          | inl kept ↦ (kept.0 ∷ rest.0, one_kept values o kept.0 os rest.0 kept.1 pairs.0 runs rest.1)
          | inr late ↦ (rest.0, scan_left values o os rest.0 late rest.1)
        ]
      ]

  -- An operation of the first k events that has ended there is one of the whole history.
  of_whole : (o : Operation) (t : ℕ) → IsOperationOf (up_to k h) o → o.end ≡ Some t → IsOperationOf h o × (t < p)
  of_whole o t is end =
      let came = rw end at is.came in
      let at = c.below (event o.process t (ends_as o.action)) came.1 in
      let lt : t < p = at.1 in (
        record {
          called = (c.below (event o.process o.call (what.Call (called_as o.action))) is.called).0;
          came = rw end (
            came.0,
            at.0,
            λ e has its after early. came.2 e (c.within e has (omega arith)) its after early,
          );
        },
        lt,
      )

pub linearizable_from_the_beginning : LinearizableFromTheBeginning
linearizable_from_the_beginning h k is l =
    let os = l.0 in
    let c = cut h.events k is.rising in
    let b = beginning h k c.0 c.1 (replicate h.shape.w 0) os (recursion_from_All (IsOperationOf h) os l.1.took_place)
    (pairs_by_recursion Apart os (pairs_apart os l.1.once l.1.order)) l.1.runs in (
      b.0,
      record {
        took_place = All-from_recursion (IsOperationOf (up_to k h)) b.0 b.1.each;
        once = λ i j d lt short. (all_pairs Apart b.0 b.1.pairs i j d lt short).0;
        complete = λ o its ended.
            let w = of_whole h k c.0 c.1 o ended.0 its ended.1 in
            b.1.has o ended.0 (l.1.complete o w.0 ended) ended.1 w.1;
        order = keeps_order b.0
            (each_weaker (IsOperationOf (up_to k h)) (λ o. EndedBefore o o → ⊥) b.0
            (λ o its ended. let late : o.call < ended.0 = ends_later (up_to k h) o ended.0 its ended.1 in
            let early : ended.0 < o.call = ended.2 in omega arith) b.1.each) b.1.pairs;
        runs = b.1.runs;
      },
    )
