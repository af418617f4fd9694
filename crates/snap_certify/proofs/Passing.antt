-- What is found of the item that a walk passes (`note_seen`, `note_rest`), and the line that it executes, where it
-- changes the values.
use Rattle.std.specs.Prelude.{◌≡◌, ℕ, suc, ◌-◌, Bool, true, false, List, [], length, Option, Some, None}
use Rattle.std.specs.Prelude.{get_or, option_map, refl}
use Rattle.std.proofs.Common.{sym, ◌∙◌, ap, subst, arith, inl, inr}
use Rattle.snap_semantics.specs.State.{process_at, values}
use Rattle.snap_semantics.specs.Table.{who}
use Rattle.snap_semantics.specs.declared.process.Activity.{Activity}
use Rattle.snap_semantics.specs.declared.process.Item.{Item}
use Rattle.snap_semantics.specs.declared.process.Outcome.{Outcome}
use Rattle.snap_semantics.specs.declared.process.Outcome.TheVariants as outcome
use Rattle.snap_semantics.specs.declared.process.Status.{Status}
use Rattle.snap_runs.specs.Audit.{is_called}
use Rattle.snap_runs.specs.Run.{Run, item as item_at, state}
use Rattle.snap_runs.specs.StepRoles.{is_write, step_role_of}
use Rattle.snap_record.specs.Roles.{AreRoles}
use Rattle.snap_record.specs.declared.roles.LineRole.{LineRole}
use Rattle.snap_walk.specs.Glance.{Glance}
use Rattle.snap_walk.specs.Walk.{Passes, PassesOver, Way, further, is_untold, line_told, look, look_ahead}
use Rattle.snap_walk.specs.declared.passed.Passed.{Passed}
use Rattle.snap_certify.specs.Certification.{at_line, changes, changing_line, executed, seen_item, stepping}
use Rattle.snap_certify.specs.declared.found.Progress.{Progress}
use Rattle.snap_certify.specs.declared.found.SeenItem.{SeenItem}
use Rattle.snap_certify.proofs.Findings.{still_values}
use Rattle.snap_audit.specs.Watch.{AreSilent, Watches, is_write_line, silent_lines, told_role}
use Rattle.snap_audit.specs.declared.watch.Watch.{Watch}
use Rattle.snap_audit.proofs.Watches.{item_told, quiet_told, silent_here, silent_too}
use Rattle.snap_walk.proofs.Over.{Keeps, kept_over, looks_ahead, untold_cases}
use Rattle.snap_walk.proofs.Ways.{skipped_nothing}
use Rattle.snap_certify.specs.Finding.{Finds, FindsOn, Notes, all_of, changed_line, fresh, seen_write}
use Rattle.snap_certify.specs.declared.finder.Finder.{Finder}
use Rattle.snap_certify.proofs.FindingSteps.{finds_more, noted_nothing}
use Rattle.snap_certify.proofs.Lines.{dry_line, dry_values}

-- what a step finds its process at, where its line is told
told_at : (quiet : List Bool) (x : Item) (t : Status) (a : Activity) → line_told (look quiet x t) ≡ Some a →
    stepping x t ≡ Some a
told_at quiet x t a is = grind arith

module _ (w w' : Way) (p : Passed) (d : Passes w p w') where
  abbrev next : SeenItem
  next = seen_item w.run (suc w.at)

  -- how its process stands before it
  abbrev status_before : Status
  status_before = (process_at (state w.run w.at) (who p.item)).status

  -- what its process was at, where its line is told
  pub told_stepping : (quiet : List Bool) (a : Activity) → p.activity ≡ line_told (look_ahead quiet w) →
      p.activity ≡ Some a → stepping p.item status_before ≡ Some a
  told_stepping quiet a told some =
      told_at quiet p.item status_before a (ap line_told (looks_ahead quiet w p d) ∙ sym told ∙ some)

  -- an item that was passed is seen as the definitions see it
  seen_passed : (a : Activity) (vs ws : List ℕ) → stepping p.item status_before ≡ Some a →
      vs ≡ values (state w.run w.at) → ws ≡ values (state w.run (suc w.at)) →
      seen_write (who p.item) a p.outcome vs ws ≡ next
  seen_passed a vs ws at was left = rw (← at, d.outcome, was, left, d.item)

  -- an item that was passed writes no word
  abbrev pub IsDry : Type 0
  IsDry = is_write (step_role_of w.run.source (state w.run w.at) p.item) ≡ false

  -- as its role tells, where the line that it runs is told
  pub told_dry : (quiet : List Bool) (roles : List LineRole) → AreRoles w.run.source roles → AreSilent quiet roles →
      p.activity ≡ line_told (look_ahead quiet w) → is_write_line (told_role roles p.activity) ≡ false → IsDry
  told_dry quiet roles are silent told none =
      (item_told w.run.source quiet roles (state w.run w.at) p.item p.activity are silent
      (told ∙ ap line_told (sym (looks_ahead quiet w p d)))).0 ∙ none

  passed_dry : IsDry → is_write (step_role_of w.run.source (state w.run w.at) (item_at w.run (suc w.at))) ≡ false
  passed_dry dry = rw (← d.item) dry

  pub passed_still : IsDry → changes next ≡ false
  passed_still dry = dry_values w.run w.at d.left (passed_dry dry)

  module _ (f g : Finder) (h : Finds w.run w.at f) where
    found_by : Notes (suc w.at) next (get_or f.progress.items (next.process - 1) fresh) f g →
        g.values ≡ values (state w.run (suc w.at)) → Finds w'.run w'.at g
    found_by noted left = rw d.way (finds_more w.run w.at f g h d.left noted left)

    -- a step at a line that writes a word is noted
    pub note_seen : (i : ℕ) (a : Activity) (ws : List ℕ) → i ≡ who p.item →
        stepping p.item status_before ≡ Some a → ws ≡ values (state w'.run w'.at) → ((q : Progress) →
        Notes p.number (seen_write i a p.outcome f.values ws) (get_or f.progress.items (i - 1) q) f g) →
        g.values ≡ ws → Finds w'.run w'.at g
    note_seen i a ws process at left noted now =
        let here = rw d.way at left in
        found_by (subst (λ (x : SeenItem). Notes (suc w.at) x (get_or f.progress.items (x.process - 1) fresh) f g)
        (seen_passed a f.values ws at h.values here) (rw (process, d.number) at (noted fresh))) (now ∙ here)

    -- another item is noted
    pub note_rest : (i : ℕ) → i ≡ who p.item → IsDry →
        ((x : SeenItem) (q : Progress) → x.process ≡ i → x.outcome ≡ p.outcome → changes x ≡ false →
        at_line f.line (executed x) ≡ false → Notes p.number x (get_or f.progress.items (i - 1) q) f g) →
        g.values ≡ f.values → Finds w'.run w'.at g
    note_rest i process dry noted now =
        let still = passed_still dry in
        let here : next.process ≡ i = sym (process ∙ ap (λ (x : Item). who x) d.item) in
        let there = noted next fresh here (sym d.outcome) still (dry_line w.run f.line w.at h.word (passed_dry dry)) in
        found_by (rw (← here, d.number) at there) (now ∙ h.values ∙ sym (still_values next still))

-- an item that is passed over calls nothing, and ends no update
untold_outcome : (g : Glance) (o : Outcome) (skips : Bool) → is_untold g o skips ≡ true →
    (is_called o ≡ false) × (o ≡ outcome.Finished → ⊥)
untold_outcome g o skips untold = grind arith

-- it leaves what was found as it is
untold_found : (quiet : List Bool) (skips : Bool) (f : Finder) → AreSilent quiet f.roles.items →
    Keeps quiet skips (λ w. Finds w.run w.at f)
untold_found quiet skips f silent w p d untold h =
    let came = untold_outcome (look_ahead quiet w) p.outcome skips untold in
    let dry : IsDry w (further w) p d = elim (untold_cases (look_ahead quiet w) p.outcome skips untold) [
      | inl stepped ↦
          (quiet_told w.run.source quiet f.roles.items (state w.run w.at) p.item h.roles silent
          (looks_ahead quiet w p d ∙ stepped.0)).0
      | inr skipped ↦ ap is_write (skipped_nothing w (further w) p d skipped.0 skipped.1)
    ] in
    note_rest w (further w) p d f f h (who p.item) refl dry (λ x q process out still other.
    rw (← process) (noted_nothing p.number x f q still other (rw out came.0) (rw out came.1))) refl

pub found_over : (quiet : List Bool) (skips : Bool) (f : Finder) → AreSilent quiet f.roles.items → (w v : Way) →
    PassesOver quiet skips w v → Finds w.run w.at f → Finds v.run v.at f
found_over quiet skips f silent w v over h =
    kept_over quiet skips (λ u. Finds u.run u.at f) (untold_found quiet skips f silent) w v over h

-- before the item that is told
pub found_before : (w w' : Way) (f : Finder) (p : Passed) (on : FindsOn w f p w') →
    Finds on.tells.between.run on.tells.between.at f
found_before w w' f p on = found_over on.quiet on.tells_skips f on.silent w on.tells.between on.tells.over on.finds

-- the lines of which a watch notes nothing write no word
pub silent_for : (w : Way) (x : Watch) (f : Finder) → Watches w x → Finds w.run w.at f → (quiet : List Bool) →
    quiet ≡ silent_lines x → AreSilent quiet f.roles.items
silent_for w x f h found quiet is =
    silent_too w.run.source quiet x.roles.items f.roles.items h.roles found.roles (silent_here w x h quiet is)

-- where all items are passed, what is found is found of all
pub found_all : (r : Run) (w : Way) (f : Finder) → w.run ≡ r → Finds w.run w.at f → w.at ≡ length w.run.items →
    Finds r (length r.items) f
found_all r w f run found over = rw (← run, ← over) found

-- what an audit has to know is known at the end
pub watched_end : (r : Run) (w : Way) (x : Watch) → w.run ≡ r → Watches w x → w.at ≡ length w.run.items →
    Watches (all_of r) x
watched_end r w x run h over = rw (← run, ← over) h

-- an item that changes no value, and what is told of one that does, and of one that does not
pub unchanged : (x : SeenItem) → changes x ≡ false → None ≡ changed_line x
unchanged x still = rw still

change_told : (x : SeenItem) (l : Option ℕ) → Some l ≡ changed_line x →
    (changes x ≡ true) × (l ≡ option_map (λ (a : Activity). a.line) (executed x))
change_told x l is = grind arith

none_told : (x : SeenItem) → None ≡ changed_line x → changes x ≡ false
none_told x is = grind arith

-- No item passed so far has changed the values.
pub record Seeks (r : Run) (w : Way) (vs : List ℕ) : Type 0 where
  pub run : w.run ≡ r
  pub values : vs ≡ values (state w.run w.at)
  pub still : changing_line w.run w.at (length w.run.items - w.at) ≡ changing_line r 0 (length r.items)

module _ (r : Run) (w w' : Way) (p : Passed) (vs : List ℕ) (h : Seeks r w vs) (d : Passes w p w') where
  one_less : length w.run.items - w.at ≡ suc (length w.run.items - suc w.at)
  one_less = let below = d.left in omega arith

  -- what is told of the next one, where the roles of the lines are those of the run
  pub told_change : (o : Option (Option ℕ)) (us : List ℕ) (ms roles : List LineRole) → us ≡ vs → ms ≡ roles →
      AreRoles r.source roles → p.activity ≡ line_told (look_ahead [] w) →
      ((v : Way) → Passes v p w' → p.activity ≡ line_told (look_ahead [] v) → AreRoles v.run.source ms →
      us ≡ values (state v.run v.at) → o ≡ changed_line (seen_item v.run (suc v.at))) →
      o ≡ changed_line (seen_item w.run (suc w.at))
  told_change o us ms roles same rows are told says = says w d told (rw (h.run, rows) are) (same ∙ h.values)

  -- it changes them, or not
  pub sought : (l : Option ℕ) → Some l ≡ changed_line (seen_item w.run (suc w.at)) →
      l ≡ changing_line r 0 (length r.items)
  sought l is =
      let told = change_told (seen_item w.run (suc w.at)) l is in told.1 ∙ (rw (one_less, told.0) at h.still)

  pub seeks_on : None ≡ changed_line (seen_item w.run (suc w.at)) → Seeks r w' vs
  seeks_on is =
      let still = none_told (seen_item w.run (suc w.at)) is in
      rw d.way (record {
        run = h.run;
        values = h.values ∙ sym (still_values (seen_item w.run (suc w.at)) still);
        still = rw (one_less, still) at h.still;
      })
