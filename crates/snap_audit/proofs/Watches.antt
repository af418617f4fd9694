-- Laws of a `Watch`, what an audit has to know of the items that a machine has done: it goes on to tell of what comes
-- next on the way, item by item.
use Rattle.std.proofs.Common.{◌≡◌, ℕ, zero, suc, ◌-◌, ◌<◌, ◌≤◌, Bool, true, false, List, [], ◌∷◌, ◌++◌, length}
use Rattle.std.proofs.Common.{map, Option, None, inl, inr, slice_index, refl, sym, ap, ◌∙◌}
use Rattle.std.proofs.Common.{append-nil, length-set, length-take, arith}
use Rattle.snap_words.specs.Shape.{IsOneOf}
use Rattle.snap_semantics.specs.Run.{event_of}
use Rattle.snap_semantics.specs.Source.{Source}
use Rattle.snap_semantics.specs.State.{Locals, State, process_at, values}
use Rattle.snap_semantics.specs.Table.{done, who}
use Rattle.snap_semantics.specs.declared.event.Event.{Event}
use Rattle.snap_semantics.specs.declared.instr.Instr.{Instr}
use Rattle.snap_semantics.specs.declared.process.Activity.{Activity}
use Rattle.snap_semantics.specs.declared.process.Item.{Item}
use Rattle.snap_semantics.specs.declared.process.Outcome.{Outcome}
use Rattle.snap_runs.specs.Run.{run_of_items, state}
use Rattle.snap_runs.specs.StepRoles.{StepRole, is_test, is_write, step_role_at}
use Rattle.snap_runs.specs.StepRoles.{step_role_of}
use Rattle.snap_record.specs.Longer.{with_item}
use Rattle.snap_record.specs.History.{changes_to, counted}
use Rattle.snap_record.specs.Roles.{AreRoles, role_in, role_of}
use Rattle.snap_record.specs.declared.roles.LineRole.{LineRole}
use Rattle.snap_record.specs.declared.roles.LineRole.TheVariants as role
use Rattle.snap_record.proofs.Recording.{none_changed, recorded, stay_when}
use Rattle.snap_walk.specs.Walk.{Passes, PassesOver, Tells, TellsNone, Way, further, is_quiet, line_told, look}
use Rattle.snap_walk.specs.Walk.{look_ahead}
use Rattle.snap_walk.specs.Glance as glance
use Rattle.snap_walk.specs.declared.passed.Passed.{Passed}
use Rattle.snap_walk.proofs.Over.{Keeps, kept_over, looks_ahead, untold_cases}
use Rattle.snap_walk.proofs.Ways.{all_items, items_more, passed_state, skipped_nothing}
use Rattle.snap_audit.specs.Watch.{AreSilent, Watches, WatchesOn, is_silent, is_test_line, is_write_line, silent_lines}
use Rattle.snap_audit.specs.Watch.{so_far, told_role}
use Rattle.snap_audit.specs.declared.watch.Watch.{Watch}

-- what is told of a step of a process that stands so
abbrev pub Told : Source → State → Item → LineRole → Type 0
Told s S x m =
    (is_write (step_role_of s S x) ≡ is_write_line m) × (is_test (step_role_of s S x) ≡ is_test_line m)

-- what the role tells of a line that may be missing
write_told : (a : Activity) (l : Locals) (i : Option Instr) →
    is_write (step_role_at a l i) ≡ is_write_line (role_of i)
write_told a l i = grind arith

test_told : (a : Activity) (l : Locals) (i : Option Instr) → is_test (step_role_at a l i) ≡ is_test_line (role_of i)
test_told a l i = grind arith

-- What is told of a line, and where lines are quiet of which there is nothing to note.

-- as in a table of the lines that are
silent_at : (ms : List LineRole) (k : ℕ) → is_quiet (map is_silent ms) k ≡ true → is_silent (role_in ms k) ≡ true
silent_at [] k is = absurd cc
silent_at (m ∷ ms) zero is = is
silent_at (m ∷ ms) (suc k) is = silent_at ms k is

pub are_silent : (quiet : List Bool) (ms : List LineRole) → quiet ≡ map is_silent ms → AreSilent quiet ms
are_silent quiet ms is = λ k silent. silent_at ms k (ap (λ q. is_quiet q k) (sym is) ∙ silent)

-- or where no line is quiet
pub none_silent : (ms : List LineRole) → AreSilent [] ms
none_silent ms = λ k quiet. absurd cc

-- in each table of the roles of a listing
pub silent_too : (s : Source) (quiet : List Bool) (ms roles : List LineRole) → AreRoles s ms → AreRoles s roles →
    AreSilent quiet ms → AreSilent quiet roles
silent_too s quiet ms roles are also silent =
    λ k is. ap is_silent (also k ∙ sym (are k)) ∙ silent k is

-- what is told of an item
pub item_told : (s : Source) (quiet : List Bool) (ms : List LineRole) (S : State) (x : Item) (o : Option Activity) →
    AreRoles s ms → AreSilent quiet ms → o ≡ line_told (look quiet x (process_at S (who x)).status) →
    Told s S x (told_role ms o)
item_told s quiet ms S x o are silent told = grind (arith, write_told, test_told)

-- an item at a quiet line, of which nothing is told
pub quiet_told : (s : Source) (quiet : List Bool) (ms : List LineRole) (S : State) (x : Item) → AreRoles s ms →
    AreSilent quiet ms → look quiet x (process_at S (who x)).status ≡ glance.Quiet → Told s S x role.Nothing
quiet_told s quiet ms S x are silent seen = item_told s quiet ms S x None are silent (ap line_told (sym seen))

-- a way passes as many items as it says
so_many : (w : Way) → w.at ≤ length w.run.items → length (so_far w).items ≡ w.at
so_many w within = let l = length-take w.at w.run.items in omega arith

-- the run of the items that were passed, with one more
longer_way : (w w' : Way) (p : Passed) → Passes w p w' → with_item (so_far w) p.item ≡ so_far w'
longer_way w w' p d = rw (d.way, d.item, items_more w.run w.at d.left)

-- behind the last item it is the whole run
pub whole_way : (w : Way) → w.at ≡ length w.run.items → so_far w ≡ w.run
whole_way w end = ap (run_of_items w.run.source w.run.shape) (all_items w.run w.at end)

-- as many counts as before
counted_length : (d : StepRole) (o : Outcome) (i : ℕ) (counts : List ℕ) →
    length (counted d o i counts) ≡ length counts
counted_length d o i counts = grind (arith, length-set {A = ℕ})

-- what the next item did
done_next : (w w' : Way) (p : Passed) → Passes w p w' →
    done w.run.source w.run.shape (state w.run w.at) p.item ≡ (state w'.run w'.at, p.outcome)
done_next w w' p d = rw (passed_state w w' p d, d.outcome, d.item)

-- the values are those that were noted, where it writes none
pub values_stay : (w w' : Way) (p : Passed) (x : Watch) → Watches w x → Passes w p w' →
    is_write (step_role_of w.run.source (state w.run w.at) p.item) ≡ false → values (state w'.run w'.at) ≡ x.values
values_stay w w' p x h d dry =
    ap values (passed_state w w' p d) ∙ stay_when w.run.source w.run.shape (state w.run w.at) p.item dry
    ∙ ap values h.notes.state_is ∙ sym h.notes.tells.now_is

module _ (w w' : Way) (p : Passed) (x : Watch) (h : Watches w x) (d : Passes w p w') where
  -- what was noted before an item, and after it
  pub noted : (y : Watch) → y.shape ≡ x.shape → y.roles ≡ x.roles → y.silent.items ≡ x.silent.items →
      y.values ≡ values (state w'.run w'.at) → length y.values ≡ w.run.shape.w →
      y.changes.items ≡ x.changes.items ++ changes_to p.number 0 x.values (values (state w'.run w'.at)) →
      y.events.items ≡ x.events.items ++ event_of p.number p.item p.outcome →
      y.collects.items
      ≡ counted (step_role_of w.run.source (state w.run w.at) p.item) p.outcome (who p.item) x.collects.items →
      y.at_events.items ≡ x.at_events.items
      ++ map (λ (e : Event). slice_index y.collects.items (who p.item - 1)) (event_of p.number p.item p.outcome) →
      Watches w' y
  noted y shape roles silent now count changes events collects at =
      let left = d.left in
      let most = h.few in
      let many = so_many w (omega arith) in
      let number = d.number in
      let kept =
      recorded (so_far w) w.run.source.kind (state w.run w.at) (state w'.run w'.at) p.item p.outcome x.values y.values
      x.changes.items y.changes.items x.events.items y.events.items x.collects.items y.collects.items
      x.at_events.items y.at_events.items p.number h.notes d.process (omega arith) (omega arith) (done_next w w' p d)
      now count (rw (← now) at changes) events collects at in
      rw d.way (record {
        shape = shape ∙ h.shape;
        roles = rw roles h.roles;
        silent = rw roles (silent ∙ h.silent);
        notes = rw d.way at (rw (longer_way w w' p d) at kept);
        few = h.few;
      })

  -- an item of which nothing is to be noted
  nothing_noted : is_write (step_role_of w.run.source (state w.run w.at) p.item) ≡ false →
      is_test (step_role_of w.run.source (state w.run w.at) p.item) ≡ false →
      event_of p.number p.item p.outcome ≡ [] → Watches w' x
  nothing_noted dry tests_none unseen =
      let stay = values_stay w w' p x h d dry in
      noted x refl refl refl (sym stay) h.notes.tells.value_count (rw (stay, none_changed, append-nil))
      (rw (unseen, append-nil)) (rw tests_none) (rw (unseen, append-nil))

-- the lines that a watch tells to be silent are
pub silent_here : (w : Way) (x : Watch) → Watches w x → (quiet : List Bool) → quiet ≡ silent_lines x →
    AreSilent quiet x.roles.items
silent_here w x h quiet is = are_silent quiet x.roles.items (is ∙ h.silent)

-- an item that is passed over, where quiet lines are silent, leaves what was noted as it is
untold_kept : (quiet : List Bool) (skips : Bool) (x : Watch) → AreSilent quiet x.roles.items →
    Keeps quiet skips (λ w. Watches w x)
untold_kept quiet skips x silent w p d untold h =
    elim (untold_cases (look_ahead quiet w) p.outcome skips untold) [
      | inl stepped ↦
          let told =
          quiet_told w.run.source quiet x.roles.items (state w.run w.at) p.item h.roles silent
          (looks_ahead quiet w p d ∙ stepped.0) in
          nothing_noted w (further w) p x h d told.0 told.1 (ap (event_of p.number p.item) stepped.1)
      | inr skipped ↦
          let nothing = skipped_nothing w (further w) p d skipped.0 skipped.1 in
          nothing_noted w (further w) p x h d (ap is_write nothing) (ap is_test nothing)
          (ap (event_of p.number p.item) skipped.1)
    ]

-- nor do all that are passed over change what was noted
pub watched_over : (quiet : List Bool) (skips : Bool) (x : Watch) → AreSilent quiet x.roles.items → (w v : Way) →
    PassesOver quiet skips w v → Watches w x → Watches v x
watched_over quiet skips x silent w v over h =
    kept_over quiet skips (λ u. Watches u x) (untold_kept quiet skips x silent) w v over h

module _ (w w' : Way) (x : Watch) (p : Passed) (o : WatchesOn w x p w') where
  -- before the item that is told
  pub watched_before : Watches o.tells.between x
  watched_before = watched_over o.quiet o.tells_skips x o.silent w o.tells.between o.tells.over o.watches

  -- what its line does
  abbrev pub told_step : StepRole
  told_step = step_role_of o.tells.between.run.source (state o.tells.between.run o.tells.between.at) p.item

  -- what is told of its line
  told_line : (m : LineRole) → m ≡ told_role x.roles.items p.activity →
      Told o.tells.between.run.source (state o.tells.between.run o.tells.between.at) p.item m
  told_line m role =
      let v = o.tells.between in
      rw role (item_told v.run.source o.quiet x.roles.items (state v.run v.at) p.item p.activity
      watched_before.roles o.silent (o.tells.activity ∙ ap line_told (sym (looks_ahead o.quiet v p o.tells.passes))))

  pub told_test : (m : LineRole) → m ≡ told_role x.roles.items p.activity → is_test told_step ≡ is_test_line m
  told_test m role = (told_line m role).1

  -- the values stay, where it writes no word
  pub told_stay : (m : LineRole) → m ≡ told_role x.roles.items p.activity → is_write_line m ≡ false →
      values (state w'.run w'.at) ≡ x.values
  told_stay m role dry =
      values_stay o.tells.between w' p x watched_before o.tells.passes ((told_line m role).0 ∙ dry)

  -- its process is one of those whose double collects are counted
  pub told_process : IsOneOf (length (counted told_step p.outcome (who p.item) x.collects.items)) (who p.item)
  told_process =
      rw (counted_length told_step p.outcome (who p.item) x.collects.items, watched_before.notes.tells.process_count)
      o.tells.passes.process

-- behind the last item that is told it is the whole run
pub watched_all : (quiet : List Bool) (skips : Bool) (x : Watch) (w w' : Way) → quiet ≡ silent_lines x →
    TellsNone quiet skips w w' → Watches w x → Watches w' x
watched_all quiet skips x w w' is none h = watched_over quiet skips x (silent_here w x h quiet is) w w' none.over h

-- fewer items are left behind what is told
pub fewer_left : (quiet_lines : List Bool) (skips : Bool) (w w' : Way) (p : Passed) → Tells quiet_lines skips w p w' →
    length w'.run.items - w'.at < length w.run.items - w.at
fewer_left quiet_lines skips w w' p t =
    let left = rw t.over.run at t.passes.left in rw (t.passes.way, t.over.run) (omega arith)

-- what is told is of the same run
pub same_run : (quiet_lines : List Bool) (skips : Bool) (w w' : Way) (p : Passed) → Tells quiet_lines skips w p w' →
    w'.run ≡ w.run
same_run quiet_lines skips w w' p t = ap (λ (v : Way). v.run) t.passes.way ∙ t.over.run
