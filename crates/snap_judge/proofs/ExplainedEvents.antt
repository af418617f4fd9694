-- The events of a history are turns: at each event, its step tells which operation begins, or that one ends.
use Rattle.std.proofs.Common.{◌≡◌, ℕ, suc, ◌<◌, ◌≤◌, List, [], ◌∷◌, refl, ap, sym, subst, arith, inl, inr, ◌∙◌}
use Rattle.std.proofs.Common.{Option, Some, None}
use Rattle.std.specs.List.{AllPairs, Contains}
use Rattle.std.proofs.lemmas.Bool.{cases_eq, cases_lt}
use Rattle.snap_semantics.specs.declared.event.Event.{Event}
use Rattle.snap_semantics.specs.declared.event.Happening.{Happening}
use Rattle.snap_semantics.specs.declared.event.Happening.TheVariants as what
use Rattle.snap_semantics.specs.declared.process.Op.{Op}
use Rattle.snap_semantics.specs.declared.process.Op.TheVariants as op
use Rattle.snap_runs.specs.Operation.{Action, Operation, Sees, Sets}
use Rattle.snap_judge.specs.History.{Busy, Caller, Free, History, IsHistory, MayCome, MayFollow, caller_after}
use Rattle.snap_judge.specs.History.{with_caller}
use Rattle.snap_judge.specs.Linearizable.{CameToEnd, IsOperationOf, called_as, ends_as, event}
use Rattle.snap_judge.specs.Steps.{Calls, Ends, Step, Waits, answered_step, end_number, next_of, scan_step, step_of}
use Rattle.snap_judge.specs.Steps.{steps_of, update_end}
use Rattle.snap_judge.proofs.ExplainedLists.{contains_cases, contains_head, contains_none, contains_tail, pairs_head}
use Rattle.snap_judge.proofs.ExplainedLists.{pairs_tail}
use Rattle.snap_judge.proofs.ExplainedNext.{Rises, answers_scan, busy_after_call, done_update, next_is, next_none}
use Rattle.snap_judge.proofs.ExplainedNext.{next_some, process_of, update_next, with_other, with_same}
use Rattle.snap_judge.proofs.ExplainedTurns.{AreSound, Begins, Goes, IsOver, Stops, Turned}

-- Process i has called operation o, and has come to nothing since, up to number p.
pub record OpenCall (h : History) (p i : ℕ) (o : Op) : Type 0 where
  pub call : ℕ
  pub before : call < p
  pub called : Contains h.events (event i call (what.Call o))
  pub quiet : (e : Event) → Contains h.events e → e.process ≡ i → call < e.item → p ≤ e.item

-- The events from number p on, and what the processes are at then.
pub record Suffix (h : History) (p : ℕ) (callers : ℕ → Caller) (es : List Event) : Type 0 where
  pub inside : (e : Event) → Contains es e → Contains h.events e × (p ≤ e.item)
  pub all : (e : Event) → Contains h.events e → p ≤ e.item → Contains es e
  pub rising : AllPairs Rises es
  pub follow : MayFollow h.shape callers es
  pub busy : (i : ℕ) (o : Op) → callers i ≡ Busy o → OpenCall h p i o

-- All events are those from number 0 on.
first_suffix : (h : History) → IsHistory h → Suffix h 0 (λ i. Free) h.events
first_suffix h is = record {
  inside = λ e has. (has, omega arith);
  all = λ e has le. has;
  rising = is.rising;
  follow = is.follow;
  busy = λ i o busy. absurd (let no : Free ≡ Busy o = busy in cc);
}

-- No end is a call, and the step of an end is that end.
no_call : (a : Action) (o : Op) → ends_as a ≡ what.Call o → ⊥
no_call a o is = grind arith

end_step : (i t : ℕ) (a : Action) (es : List Event) → step_of i t (ends_as a) es ≡ Ends i
end_step i t (Sets word value) es = refl
end_step i t (Sees view) es = refl

-- the step of a call is no end
answered_not_end : (i c t j : ℕ) (w : Happening) → answered_step i c t w ≡ Ends j → ⊥
answered_not_end i c t j w is = grind arith

scan_not_end : (i c j : ℕ) (n : Option Event) → scan_step i c n ≡ Ends j → ⊥
scan_not_end i c j n is = grind (arith, answered_not_end)

-- The operation is the one that such an event of process i calls.
record IsCalled (h : History) (i c : ℕ) (w : Happening) (o : Operation) : Type 0 where
  process : o.process ≡ i
  call : o.call ≡ c
  called : w ≡ what.Call (called_as o.action)
  came : CameToEnd h.events i c o.end o.action

-- Between its call and its end, or after its call without an end, the process of an operation comes to no call.
not_after_call : (h : History) (i c : ℕ) (end : Option ℕ) (a : Action) (x : Event) (o : Op) →
    CameToEnd h.events i c end a → Contains h.events x → x.process ≡ i → c < x.item → x.what ≡ what.Call o →
    ((t : ℕ) → end ≡ Some t → x.item < t) → ⊥
not_after_call h i c (Some t) a x o came has its after call before = came.2 x has its after (before t refl)
not_after_call h i c None (Sets word value) x o came has its after call before =
    let no : what.Call o ≡ what.Crash = sym call ∙ came x has its after in cc
not_after_call h i c None (Sees view) x o came has its after call before = came

module _ (h : History) (p : ℕ) (callers : ℕ → Caller) (e : Event) (es : List Event)
    (s : Suffix h p callers (e ∷ es)) where
  at_most : p ≤ e.item
  at_most = (s.inside e (contains_head e es)).1

  among : Contains h.events e
  among = (s.inside e (contains_head e es)).0

  -- the event at hand is the only one up to its number
  here : (x : Event) → Contains h.events x → p ≤ x.item → x.item < suc e.item → e ≡ x
  here x has le lt = elim (contains_cases e x es (s.all x has le)) [
    | inl same ↦ same
    | inr later ↦ absurd (let up : e.item < x.item = pairs_head Rises e x es s.rising later in omega arith)
  ]

  behind : (x : Event) → Contains h.events x → e.item < x.item → Contains es x
  behind x has lt =
      let le : p ≤ e.item = at_most in
      elim (contains_cases e x es (s.all x has (omega arith))) [
        | inl same ↦ absurd (let one : e.item ≡ x.item = ap (λ (y : Event). y.item) same in omega arith)
        | inr later ↦ later
      ]

  from_behind : (x : Event) → Contains es x → Contains h.events x × (e.item < x.item)
  from_behind x has = ((s.inside x (contains_tail e x es has)).0, pairs_head Rises e x es s.rising has)

  tail_rises : AllPairs Rises es
  tail_rises = pairs_tail Rises e es s.rising

  next_suffix : Suffix h (suc e.item) (with_caller callers e.process (caller_after e.what)) es
  next_suffix = record {
    inside = from_behind;
    all = λ x has le. behind x has le;
    rising = tail_rises;
    follow = s.follow.2;
    busy = λ i o is. elim (cases_eq i e.process) [
      | inl same ↦ (let call : e.what ≡ what.Call o = busy_after_call e.what o
          (sym (with_same callers e.process i (caller_after e.what) same) ∙ is) in
          record {
            call = e.item;
            before = omega arith;
            called = rw (same, ← call) among;
            quiet = λ x has its lt. lt;
          })
      | inr other ↦ (let b = s.busy i o (sym (with_other callers e.process i (caller_after e.what) other) ∙ is) in
          let le : p ≤ e.item = at_most in let before : b.call < p = b.before in
          record {
            call = b.call;
            before = omega arith;
            called = b.called;
            quiet = λ x has its lt. elim (cases_lt e.item x.item) [
              | inl less ↦ less
              | inr more ↦ absurd (other (sym (ap (λ (y : Event). y.process)
                  (here x has (b.quiet x has its lt) (omega arith)) ∙ its)))
            ];
          })
    ];
  }

  -- An operation that is called here is told by the step.
  next_end : (i t : ℕ) (w : Happening) → Contains h.events (event i t w) → e.item < t →
      ((z : Event) → Contains h.events z → z.process ≡ i → e.item < z.item → z.item < t → ⊥) →
      next_of i es ≡ Some (event i t w)
  next_end i t w has lt none =
      next_is i es (event i t w) tail_rises (behind (event i t w) has lt) refl
      (λ z hz its less. let x = from_behind z hz in none z x.0 its x.1 less)

  call_step : (i : ℕ) (end : Option ℕ) (a : Action) → CameToEnd h.events i e.item end a →
      step_of i e.item (what.Call (called_as a)) es
      ≡ Calls (record { process = i; call = e.item; end = end; action = a })
  call_step i (Some t) (Sets word value) came =
      ap (λ (n : Option Event).
      Calls (record { process = i; call = e.item; end = update_end n; action = Sets word value }))
      (next_end i t what.Done came.1 came.0 came.2)
  call_step i (Some t) (Sees view) came =
      ap (scan_step i e.item) (next_end i t (what.Answer view) came.1 came.0 came.2)
  call_step i None (Sets word value) came =
      ap (λ (n : Option ℕ). Calls (record { process = i; call = e.item; end = n; action = Sets word value }))
      (none (next_of i es) refl)
    where
      none : (n : Option Event) → next_of i es ≡ n → update_end n ≡ None
      none None is = refl
      none (Some x) is =
          let next = next_some i es x tail_rises is in let f = from_behind x next.there in
          ap (end_number x.item) (came x f.0 next.its f.1)
  call_step i None (Sees view) came = absurd came

  -- The operation that the step calls is one of the history.
  came_to : (i : ℕ) (x : Event) (a : Action) → next_of i es ≡ Some x → x.what ≡ ends_as a →
      CameToEnd h.events i e.item (Some x.item) a
  came_to i x a is w =
      let next = next_some i es x tail_rises is in
      let f = from_behind x next.there in (
        f.1,
        rw (← next.its, ← w) f.0,
        λ z has its lt less. next.first z (behind z has lt) its less,
      )

  scan_called : (i : ℕ) (o : Operation) (n : Option Event) → next_of i es ≡ n → scan_step i e.item n ≡ Calls o →
      IsCalled h i e.item (what.Call op.Scan) o
  scan_called i o None is it = absurd (let no : Waits ≡ Calls o = it in cc)
  scan_called i o (Some x) is it = answered x.what refl it
    where
      answered : (w : Happening) → x.what ≡ w → answered_step i e.item x.item w ≡ Calls o →
          IsCalled h i e.item (what.Call op.Scan) o
      answered (what.Call o') w it = absurd (let no : Waits ≡ Calls o = it in cc)
      answered (what.Answer view) w it =
          let o' : Operation = record { process = i; call = e.item; end = Some x.item; action = Sees view } in
          let both : Calls o' ≡ Calls o = it in
          let same : o' ≡ o = cc in
          subst (IsCalled h i e.item (what.Call op.Scan)) same
          (record { process = refl; call = refl; called = refl; came = came_to i x (Sees view) is w })
      answered what.Done w it = absurd (let no : Waits ≡ Calls o = it in cc)
      answered what.Crash w it = absurd (let no : Waits ≡ Calls o = it in cc)

  update_came : (word value : ℕ) → e.what ≡ what.Call (op.Update word value) → (n : Option Event) →
      next_of e.process es ≡ n → CameToEnd h.events e.process e.item (update_end n) (Sets word value)
  update_came word value call None is =
      λ z has its lt. absurd (next_none e.process es is z (behind z has lt) its)
  update_came word value call (Some x) is =
      elim (update_next h.shape (with_caller callers e.process (caller_after e.what)) es e.process word value x
      (with_same callers e.process e.process (caller_after e.what) refl ∙ ap caller_after call) s.follow.2 is) [
        | inl done ↦ rw done (came_to e.process x (Sets word value) is done)
        | inr crash ↦ rw crash.0 (λ z has its lt. crash.1 z (behind z has lt) its)
      ]

  is_called : (w : Happening) (o : Operation) → e.what ≡ w → step_of e.process e.item w es ≡ Calls o →
      IsCalled h e.process e.item w o
  is_called (what.Call op.Scan) o w it = scan_called e.process o (next_of e.process es) refl it
  is_called (what.Call (op.Update word value)) o w it =
      let o' : Operation = record {
        process = e.process;
        call = e.item;
        end = update_end (next_of e.process es);
        action = Sets word value;
      } in
      let both : Calls o' ≡ Calls o = it in
      let same : o' ≡ o = cc in
      subst (IsCalled h e.process e.item (what.Call (op.Update word value))) same
      (record {
        process = refl;
        call = refl;
        called = refl;
        came = update_came word value w (next_of e.process es) refl;
      })
  is_called (what.Answer view) o w it = absurd (let no : Ends e.process ≡ Calls o = it in cc)
  is_called what.Done o w it = absurd (let no : Ends e.process ≡ Calls o = it in cc)
  is_called what.Crash o w it = absurd (let no : Waits ≡ Calls o = it in cc)

  begins : (o : Operation) → step_of e.process e.item e.what es ≡ Calls o → Begins h p (suc e.item) o
  begins o it =
      let c = is_called e.what o refl it in
      let le : p ≤ e.item = at_most in
      let at : o.call ≡ e.item = c.call in
      record {
        operation = record {
          called = rw (c.process, c.call, ← c.called) among;
          came = rw (c.process, c.call) c.came;
        };
        from = omega arith;
        before = omega arith;
        alone = λ y l same. let early : y.call < p = l.called in
            not_after_call h y.process y.call y.end y.action e (called_as o.action) l.operation.came among
            (sym (same ∙ c.process)) (omega arith) c.called
            (λ t end. let le' : p ≤ t = l.going t end in elim (cases_lt e.item t) [
              | inl less ↦ less
              | inr more ↦ absurd (let came = rw end at l.operation.came in
                  let one = here (event y.process t (ends_as y.action)) came.1 le' (omega arith) in
                  no_call y.action (called_as o.action)
                  (sym (ap (λ (z : Event). z.what) one) ∙ c.called))
            ]);
      }

  -- The operation that ends here had been called.
  stops_as : (i : ℕ) (o : Op) (a : Action) → called_as a ≡ o → e.what ≡ ends_as a → callers e.process ≡ Busy o →
      e.process ≡ i → Stops h p (suc e.item) i
  stops_as i o a same w busy its =
      let b = s.busy e.process o busy in
      let le : p ≤ e.item = at_most in
      let before : b.call < p = b.before in
      record {
        operation = record { process = e.process; call = b.call; end = Some e.item; action = a };
        live = record {
          operation = record {
            called = subst (λ (x : Op). Contains h.events (event e.process b.call (what.Call x))) (sym same) b.called;
            came = (
              omega arith,
              subst (λ (y : Happening). Contains h.events (event e.process e.item y)) w among,
              λ z has its after less. let one : e.item ≡ z.item = ap (λ (y : Event). y.item)
                  (here z has (b.quiet z has its after) (omega arith)) in omega arith,
            );
          };
          called = b.before;
          going = λ t end. let both : Some e.item ≡ Some t = end in let one : e.item ≡ t = cc in omega arith;
        };
        process = its;
        at = e.item;
        end = refl;
        before = omega arith;
      }

  stops : (i : ℕ) (w : Happening) → e.what ≡ w → step_of e.process e.item w es ≡ Ends i → Stops h p (suc e.item) i
  stops i (what.Call op.Scan) w it = absurd (scan_not_end e.process e.item i (next_of e.process es) it)
  stops i (what.Call (op.Update word value)) w it = absurd (let no : Calls (record {
    process = e.process;
    call = e.item;
    end = update_end (next_of e.process es);
    action = Sets word value;
  }) ≡ Ends i = it in cc)
  stops i (what.Answer view) w it =
      stops_as i op.Scan (Sees view) refl w
      (answers_scan h.shape (callers e.process) view
      (subst (λ (y : Happening). MayCome h.shape (callers e.process) y) w s.follow.1))
      (let both : Ends e.process ≡ Ends i = it in cc)
  stops i what.Done w it =
      let u = done_update h.shape (callers e.process)
      (subst (λ (y : Happening). MayCome h.shape (callers e.process) y) w s.follow.1) in
      stops_as i (op.Update u.0 u.1) (Sets u.0 u.1) refl w u.2 (let both : Ends e.process ≡ Ends i = it in cc)
  stops i what.Crash w it = absurd (let no : Waits ≡ Ends i = it in cc)

  turned : Turned h p (suc e.item) (step_of e.process e.item e.what es)
  turned =
      let le : p ≤ e.item = at_most in
      record {
        later = omega arith;
        calls = λ y is from lt.
            let one = here (event y.process y.call (what.Call (called_as y.action))) is.called from lt in
            let number : e.item ≡ y.call = ap (λ (z : Event). z.item) one in
            rw one (rw number at (call_step y.process y.end y.action (rw number is.came)));
        begins = begins;
        ends = λ y t is end from lt.
            let came = rw end at is.came in
            let one = here (event y.process t (ends_as y.action)) came.1 from lt in
            rw one (end_step y.process t y.action es);
        stops = λ i it. stops i e.what refl it;
      }

over : (h : History) (p : ℕ) (callers : ℕ → Caller) → Suffix h p callers [] → IsOver h p
over h p callers s = record {
  called = λ y is. elim (cases_lt y.call p) [
    | inl less ↦ less
    | inr le ↦ (let c = event y.process y.call (what.Call (called_as y.action)) in
        absurd (contains_none c (s.all c is.called le)))
  ];
  ended = λ y t is end. elim (cases_lt t p) [
    | inl less ↦ less
    | inr le ↦ (let came = rw end at is.came in
        let c = event y.process t (ends_as y.action) in absurd (contains_none c (s.all c came.1 le)))
  ];
}

goes_from : (h : History) (es : List Event) (p : ℕ) (callers : ℕ → Caller) → Suffix h p callers es →
    Goes h (steps_of es) p
goes_from h [] p callers s = over h p callers s
goes_from h (e ∷ es) p callers s = (
  suc e.item,
  turned h p callers e es s,
  goes_from h es (suc e.item) (with_caller callers e.process (caller_after e.what)) (next_suffix h p callers e es s),
)

pub goes : (h : History) → IsHistory h → Goes h (steps_of h.events) 0
goes h is = goes_from h h.events 0 (λ i. Free) (first_suffix h is)

-- An operation is known by its call.
same_from : (h : History) (xs : List Step) (p : ℕ) → Goes h xs p → (a b : Operation) → IsOperationOf h a →
    IsOperationOf h b → a.call ≡ b.call → p ≤ a.call → a ≡ b
same_from h [] p g a b ha hb same le = absurd (let lt : a.call < p = g.called a ha in omega arith)
same_from h (x ∷ xs) p g a b ha hb same le = elim (cases_lt a.call g.0) [
  | inl less ↦ (let both : Calls a ≡ Calls b =
      sym (g.1.calls a ha le less) ∙ g.1.calls b hb (omega arith) (omega arith) in cc)
  | inr more ↦ same_from h xs g.0 g.2 a b ha hb same more
]

-- An operation ends after its call.
pub ends_later : (h : History) (o : Operation) (t : ℕ) → IsOperationOf h o → o.end ≡ Some t → o.call < t
ends_later h o t its end = (rw end at its.came).0

pub are_sound : (h : History) → IsHistory h → AreSound h
are_sound h is = record {
  ends_later = ends_later h;
  of_process = λ o its.
      process_of h.shape (λ i. Free) h.events is.follow
      (event o.process o.call (what.Call (called_as o.action))) its.called;
  same_call = λ a b ha hb same. same_from h (steps_of h.events) 0 (goes h is) a b ha hb same (omega arith);
}
