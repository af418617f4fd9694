-- `is_stop` holds of the debugger's stops and of nothing else; so `run` goes to the first stop after a position, and
-- `rrun` back to the last one before it.
use Rattle.std.proofs.Common.{◌≡◌, ℕ, zero, suc, ◌+◌, ◌-◌, ◌<◌, ◌≤◌, inl, inr, true, false, not, List}
use Rattle.std.proofs.Common.{length, nat_eq, refl, sym, ap, subst, ◌∙◌, arith}
use Rattle.std.proofs.Math.Nat.{eq-or-lt_of_le}
use Rattle.std.proofs.lemmas.Bool.{and_from, cases_Bool, eq-eqb, eqb-true, or_cases, or_left, or_right}
use Rattle.std.proofs.lemmas.List.Folds.{Any-from_list_any, list_any-from_Any}
use Rattle.std.specs.List.{Any, list_any}
use Rattle.snap_words.specs.declared.address.Address.{Address}
use Rattle.snap_semantics.specs.declared.process.Status.{Status}
use Rattle.snap_semantics.specs.declared.process.Status.TheVariants.{Busy}
use Rattle.snap_semantics.specs.State.{process_at}
use Rattle.snap_semantics.specs.Table.{who}
use Rattle.snap_runs.specs.Run.{Run, state, before, item}
use Rattle.snap_runs.specs.Update.{is_at}
use Rattle.snap_debug_commands.specs.declared.command.Breakpoint.{Breakpoint}
use Rattle.snap_reading_laws.specs.stops.IsStop.{Changes, IsBusyAt, IsFirstStop, IsLastStop, IsStop, Reaches}
use Rattle.snap_reading_laws.specs.stops.IsStop.{ReverseRunGoesToTheLastStop, RunGoesToTheFirstStop}
use Rattle.snap_debug.specs.Marks.{Marks, changes, contents_at, is_stop, last_stop, next_stop, reaches, same_contents}
use Rattle.snap_debug.specs.Session.{total}
use Rattle.snap_debug.proofs.Contents.{both, contents_are, contents_same}

-- an element that satisfies one thing satisfies another
any_so : {X : Type 0} (P Q : X → Type 0) (xs : List X) → ((x : X) → P x → Q x) → Any P xs → Any Q xs
any_so P Q xs f h = (h.0, h.1, h.2, h.3, f h.1 h.4)

-- a process that is at a line
busy_is : (line : ℕ) (s : Status) → is_at line s ≡ true → IsBusyAt line s
busy_is line (Busy a) h = eqb-true a.line line h
busy_is line _ h = absurd cc

is_busy : (line : ℕ) (s : Status) → IsBusyAt line s → is_at line s ≡ true
is_busy line (Busy a) h = eq-eqb a.line line h
is_busy line _ h = absurd h

module _ (r : Run) (t : ℕ) where
  reached : (b : Breakpoint) → reaches r t b ≡ true → Reaches r t b
  reached b h =
      let parts =
      both (nat_eq (who (item r t)) b.process) (is_at b.line (process_at (state r t) (who (item r t))).status) h in (
        eqb-true (who (item r t)) b.process parts.0,
        busy_is b.line (process_at (state r t) (who (item r t))).status parts.1,
      )

  is_reached : (b : Breakpoint) → Reaches r t b → reaches r t b ≡ true
  is_reached b h =
      and_from _ _ (eq-eqb (who (item r t)) b.process h.0)
      (is_busy b.line (process_at (state r t) (who (item r t))).status h.1)

  changed : (a : Address) → changes r t a ≡ true → Changes r t a
  changed a h same =
      let equal : same_contents (contents_at (before r t) a) (contents_at (state r t) a) ≡ true =
      ap (λ x. same_contents (contents_at (before r t) a) x) (sym same) ∙ contents_same (contents_at (before r t) a) in
      (let found : true ≡ false = sym h ∙ ap not equal in cc)

  is_changed : (a : Address) → Changes r t a → changes r t a ≡ true
  is_changed a h = elim (cases_Bool (same_contents (contents_at (before r t) a) (contents_at (state r t) a))) [
    | inl e ↦ absurd (h (contents_are (contents_at (before r t) a) (contents_at (state r t) a) e))
    | inr e ↦ rw e refl
  ]

-- where the test finds a stop, there is one
stop_found : (r : Run) (m : Marks) (t : ℕ) → is_stop r m t ≡ true → IsStop r m t
stop_found r m t h = elim (or_cases (list_any (reaches r t) m.breaks) (list_any (changes r t) m.watches) h) [
  | inl e ↦
      inl (any_so (λ b. reaches r t b ≡ true) (Reaches r t) m.breaks (reached r t)
      (Any-from_list_any (reaches r t) m.breaks e))
  | inr e ↦
      inr (any_so (λ a. changes r t a ≡ true) (Changes r t) m.watches (changed r t)
      (Any-from_list_any (changes r t) m.watches e))
]

-- where there is a stop, the test finds it
finds_stop : (r : Run) (m : Marks) (t : ℕ) → IsStop r m t → is_stop r m t ≡ true
finds_stop r m t (inl h) =
    let met : list_any (reaches r t) m.breaks ≡ true =
    list_any-from_Any (reaches r t) m.breaks
    (any_so (Reaches r t) (λ b. reaches r t b ≡ true) m.breaks (is_reached r t) h) in
    or_left (list_any (reaches r t) m.breaks) (list_any (changes r t) m.watches) met
finds_stop r m t (inr h) =
    let met : list_any (changes r t) m.watches ≡ true =
    list_any-from_Any (changes r t) m.watches
    (any_so (Changes r t) (λ a. changes r t a ≡ true) m.watches (is_changed r t) h) in
    or_right (list_any (reaches r t) m.breaks) (list_any (changes r t) m.watches) met

-- where the test finds no stop, there is none
no_stop_there : (r : Run) (m : Marks) (t : ℕ) → is_stop r m t ≡ false → IsStop r m t → ⊥
no_stop_there r m t none h = (let found : true ≡ false = sym (finds_stop r m t h) ∙ none in cc)

-- the first stop of so many items after position t, and position e behind them where there is none
record IsFirstOf (r : Run) (m : Marks) (t e u : ℕ) : Type 0 where
  after : t < e → t < u
  order : t ≤ u
  within : u ≤ e
  none : (v : ℕ) → t < v → v < u → IsStop r m v → ⊥
  stops : u < e → IsStop r m u

-- an item that is no stop before them
one_before : (r : Run) (m : Marks) (t e u : ℕ) → is_stop r m (suc t) ≡ false →
    IsFirstOf r m (suc t) e u → IsFirstOf r m t e u
one_before r m t e u other h = record {
  after = λ lt. let le = h.order in omega (arith, le);
  order = (let le = h.order in omega (arith, le));
  within = h.within;
  none = λ v low high is. elim (eq-or-lt_of_le low) [
    | inl same ↦ no_stop_there r m (suc t) other (subst (IsStop r m) (sym same) is)
    | inr less ↦ h.none v less high is
  ];
  stops = h.stops;
}

-- what is searched for is the first
first_of : (r : Run) (m : Marks) (t more e : ℕ) → t + more ≡ e → IsFirstOf r m t e (next_stop r m t more)
first_of r m t zero e is = record {
  after = λ lt. absurd (omega (arith, lt, is));
  order = omega arith;
  within = omega (arith, is);
  none = λ v low high stop. absurd (omega (arith, low, high));
  stops = λ lt. absurd (omega (arith, lt, is));
}
first_of r m t (suc more) e is = elim (cases_Bool (is_stop r m (suc t))) [
  | inl met ↦ rw met (record {
    after = λ lt. omega arith;
    order = omega arith;
    within = omega (arith, is);
    none = λ v low high stop. absurd (omega (arith, low, high));
    stops = λ lt. stop_found r m (suc t) met;
  })
  | inr other ↦
      rw other (one_before r m t e (next_stop r m (suc t) more) other (first_of r m (suc t) more e (omega (arith, is))))
]

-- from a position of the run on
first_stop : (r : Run) (m : Marks) (p : ℕ) → p ≤ length r.items →
    IsFirstStop r m p (next_stop r m p (length r.items - p))
first_stop r m p le =
    let h = first_of r m p (length r.items - p) (length r.items) (omega (arith, le)) in
    record { order = h.order; within = h.within; goes_on = h.after; none_between = h.none; is_stop = h.stops }

-- `run` goes there
pub run_to_first : RunGoesToTheFirstStop
run_to_first s le =
    (next_stop s.run s.marks s.position (total s - s.position), refl, first_stop s.run s.marks s.position le)

-- an item that is no stop behind those before a position
one_behind : (r : Run) (m : Marks) (p t : ℕ) → is_stop r m p ≡ false → IsLastStop r m p t → IsLastStop r m (suc p) t
one_behind r m p t other h = record {
  order = (let le = h.order in omega (arith, le));
  goes_back = λ lt. let le = h.order in omega (arith, le);
  none_between = λ u low high is. elim (eq-or-lt_of_le (let le : u ≤ p = omega (arith, high) in le)) [
    | inl same ↦ no_stop_there r m p other (subst (IsStop r m) same is)
    | inr less ↦ h.none_between u low less is
  ];
  is_stop = h.is_stop;
}

-- back from a position
last_stop_is : (r : Run) (m : Marks) (p : ℕ) → IsLastStop r m p (last_stop r m p)
last_stop_is r m zero = record {
  order = omega arith;
  goes_back = λ lt. absurd (omega (arith, lt));
  none_between = λ u low high is. absurd (omega (arith, low, high));
  is_stop = λ lt. absurd (omega (arith, lt));
}
last_stop_is r m (suc p) = elim (cases_Bool (is_stop r m p)) [
  | inl met ↦ rw met (record {
    order = omega arith;
    goes_back = λ lt. omega arith;
    none_between = λ u low high is. absurd (omega (arith, low, high));
    is_stop = λ lt. stop_found r m p met;
  })
  | inr other ↦ rw other (one_behind r m p (last_stop r m p) other (last_stop_is r m p))
]

-- `rrun` goes there
pub reverse_run_to_last : ReverseRunGoesToTheLastStop
reverse_run_to_last s = (last_stop s.run s.marks s.position, refl, last_stop_is s.run s.marks s.position)
