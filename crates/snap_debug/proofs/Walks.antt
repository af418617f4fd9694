-- Machines that walk along a run find the debugger's stops: how `next_stop` and `last_stop` go on by one item, and
-- that the test between two machines, `stops_between`, is `is_stop`.
use Rattle.std.proofs.Common.{◌≡◌, ℕ, zero, suc, ◌+◌, ◌-◌, ◌<◌, Bool, true, false, List, [], ◌∷◌}
use Rattle.std.proofs.Common.{length, if◌then◌else◌, refl, sym, ap, ◌∙◌, arith}
use Rattle.std.proofs.lemmas.Bool.{not-false, or_parts}
use Rattle.std.specs.List.{list_any}
use Rattle.snap_words.specs.declared.address.Address.{Address}
use Rattle.snap_semantics.specs.State.{State, process_at}
use Rattle.snap_semantics.specs.Table.{who}
use Rattle.snap_machine.specs.Configuration.{Configuration}
use Rattle.snap_runs.specs.Run.{Run, state, item}
use Rattle.snap_debug.specs.Marks.{Marks, mark_count, contents_at, is_stop, next_stop, last_stop, same_contents}
use Rattle.snap_debug.specs.Stops.{differs, stands_at, stops_between}
use Rattle.snap_debug.proofs.Contents.{contents_are, contents_same}
use Rattle.snap_debug.specs.Recording.{IsCheckpoint}
use Rattle.snap_debug.specs.declared.checkpoint.Checkpoint.{Checkpoint}
use Rattle.snap_debug_commands.specs.declared.command.Breakpoint.{Breakpoint}

-- marks stop at the item that two machines stand before and after
pub stop_is : (r : Run) (m : Marks) (t : ℕ) (S T : State) (i : ℕ) → S ≡ state r t → T ≡ state r (t + 1) →
    i ≡ who (item r (t + 1)) → stops_between S T i m ≡ is_stop r m (t + 1)
stop_is r m t S T i before after process =
    let e : t + 1 ≡ suc t = omega arith in rw (before, after, process, e) refl

-- stops agree between a machine that was stepped and the one before it
pub stop_between : {K W : Type 0} (r : Run) (m : Marks) (before after next : Checkpoint K W) (i : ℕ) →
    IsCheckpoint r before → IsCheckpoint r next → next.position ≡ after.position + 1 →
    after.position ≡ before.position → i ≡ who (item r (after.position + 1)) →
    stops_between before.machine.state next.machine.state i m ≡ is_stop r m (before.position + 1)
stop_between r m before after next i here there at same process =
    stop_is r m before.position before.machine.state next.machine.state i
    (ap (λ (s : Configuration). s.state) here.machine) (rw (there.machine, at, same) refl) (rw same at process)

-- no marks
none_set : (bs : List Breakpoint) (ws : List Address) → length bs + length ws ≡ 0 → (bs ≡ []) × (ws ≡ [])
none_set [] [] h = (refl, refl)
none_set _ _ h = absurd (omega (arith, h))

-- no marks stop nowhere
no_stop : (r : Run) (m : Marks) (t : ℕ) → mark_count m ≡ 0 → is_stop r m t ≡ false
no_stop r m t h =
    let none = none_set m.breaks m.watches h in rw (none.0, none.1) refl

-- without marks a run goes to its end
pub no_next : (r : Run) (m : Marks) (t more : ℕ) → mark_count m ≡ 0 → next_stop r m t more ≡ t + more
no_next r m t zero h = omega arith
no_next r m t (suc more) h =
    rw (no_stop r m (suc t) h, no_next r m (suc t) more h) (omega arith)

-- without marks there is no last stop back to the beginning
pub no_last : (r : Run) (m : Marks) (t : ℕ) → mark_count m ≡ 0 → last_stop r m t ≡ 0
no_last r m zero h = refl
no_last r m (suc t) h = rw (no_stop r m t h) (no_last r m t h)

-- the next item is looked at
next_by : (r : Run) (m : Marks) (t e : ℕ) (stop : Bool) → t < e → stop ≡ is_stop r m (t + 1) →
    next_stop r m t (e - t) ≡ (if stop then t + 1 else next_stop r m (t + 1) (e - (t + 1)))
next_by r m t e stop lt is =
    let more : e - t ≡ suc (e - (t + 1)) = omega arith in
    let here : suc t ≡ t + 1 = omega arith in
    rw (more, here, ← is) refl

-- a state has the contents of itself
pub none_differs : (S : State) (ws : List Address) → list_any (differs S S) ws ≡ false
none_differs S [] = refl
none_differs S (a ∷ ws) = rw (contents_same (contents_at S a)) (none_differs S ws)

-- where two states have the same contents, a third differs from both or from neither
same_differs : (S T U : State) (ws : List Address) → list_any (differs S T) ws ≡ false →
    list_any (differs S U) ws ≡ list_any (differs T U) ws
same_differs S T U [] h = refl
same_differs S T U (a ∷ ws) h =
    let each = or_parts (differs S T a) (list_any (differs S T) ws) h in
    let one = contents_are (contents_at S a) (contents_at T a)
    (not-false (same_contents (contents_at S a) (contents_at T a)) each.0) in
    rw (one, same_differs S T U ws each.1) refl

-- marks stop at an item, by a machine since which the watched registers have not changed
pub stop_since : {K W : Type 0} (r : Run) (m : Marks) (start before after : Checkpoint K W) (i : ℕ) →
    IsCheckpoint r before → IsCheckpoint r after → after.position ≡ before.position + 1 →
    i ≡ who (item r (before.position + 1)) →
    list_any (differs start.machine.state before.machine.state) m.watches ≡ false →
    stops_between start.machine.state after.machine.state i m ≡ is_stop r m (before.position + 1)
stop_since r m start before after i here there at process unchanged =
    rw (same_differs start.machine.state before.machine.state after.machine.state m.watches unchanged)
    (stop_between r m before before after i here there at refl process)

-- no stop is no change
pub unchanged_still : (S T : State) (i : ℕ) (m : Marks) (stop : Bool) → stop ≡ stops_between S T i m → stop ≡ false →
    list_any (differs S T) m.watches ≡ false
unchanged_still S T i m stop is none =
    (or_parts (list_any (stands_at i (process_at T i).status) m.breaks) (list_any (differs S T) m.watches)
    (sym is ∙ none)).1

-- what comes of an item that a machine did, since which the watched registers have not changed
pub record Walked {K W : Type 0} (r : Run) (m : Marks)
    (start before after : Checkpoint K W) (stop : Bool) : Type 0 where
  pub stands : IsCheckpoint r after
  pub here : stop ≡ true → after.position ≡ next_stop r m before.position (length r.items - before.position)
  pub later : stop ≡ false → next_stop r m after.position (length r.items - after.position)
      ≡ next_stop r m before.position (length r.items - before.position)
  pub unchanged : stop ≡ false → list_any (differs start.machine.state after.machine.state) m.watches ≡ false

module _ {K W : Type 0} {r q : Run} {before after : Checkpoint K W} {i : ℕ} {stop : Bool} where
  pub walked : (m : Marks) (start : Checkpoint K W) → q ≡ r → IsCheckpoint r before →
      before.position < length r.items →
      list_any (differs start.machine.state before.machine.state) m.watches ≡ false → IsCheckpoint q after →
      after.position ≡ before.position + 1 → i ≡ who (item q (before.position + 1)) →
      stop ≡ stops_between start.machine.state after.machine.state i m → Walked r m start before after stop
  walked m start same stands lt unchanged there at process is =
      let next : IsCheckpoint r after = rw same at there in
      let one : i ≡ who (item r (before.position + 1)) = rw same at process in
      let met : stop ≡ is_stop r m (before.position + 1) =
      is ∙ stop_since r m start before after i stands next at one unchanged in
      let by_stop = next_by r m before.position (length r.items) stop lt met in
      record {
        stands = next;
        here = λ h. rw (at, by_stop, h) refl;
        later = λ h. rw (at, by_stop, h) refl;
        unchanged = λ h. unchanged_still start.machine.state after.machine.state i m stop is h;
      }
