-- What a `Finder` has found of a run it has found of the longer run, once the next item is noted (`finds_more`).
use Rattle.std.specs.Prelude.{◌≡◌, ℕ, suc, ◌-◌, ◌<◌, false, List, [], length, None, Result}
use Rattle.std.specs.Prelude.{get_or, replicate, slice_set, refl}
use Rattle.std.proofs.Common.{sym, ◌∙◌, ap, subst, arith, inl, inr}
use Rattle.std.proofs.lemmas.Bool.{cases_eq}
use Rattle.std.proofs.lemmas.Grind.{get_or-set_at}
use Rattle.std.proofs.lemmas.List.{get_or-set_other, length-set, length-replicate, get_or-replicate, set-get_or}
use Rattle.snap_words.specs.Shape.{IsOneOf}
use Rattle.snap_semantics.specs.State.{values}
use Rattle.snap_semantics.specs.Table.{who}
use Rattle.snap_semantics.specs.declared.process.Outcome.TheVariants as outcome
use Rattle.snap_runs.specs.Audit.{is_called}
use Rattle.snap_runs.specs.Run.{Run, IsValidRun, item as item_at, state}
use Rattle.snap_runs.proofs.Calls.{item_one}
use Rattle.snap_runs.proofs.Computing.{other_number, same_number}
use Rattle.snap_record.specs.Roles.{AreRoles}
use Rattle.snap_certify.specs.Certification.{at_line, changes, executed, found_at, progress, progress_after, seen_item}
use Rattle.snap_certify.specs.Certification.{writes}
use Rattle.snap_certify.specs.declared.found.Finding.TheVariants as finding
use Rattle.snap_certify.specs.declared.found.Missing.{Missing}
use Rattle.snap_certify.specs.declared.found.Progress.{Progress}
use Rattle.snap_certify.specs.declared.found.SeenItem.{SeenItem}
use Rattle.snap_certify.specs.declared.found.UpdateWrite.{UpdateWrite}
use Rattle.snap_certify.specs.Finding.{AreProgress, Finds, Notes, WritesWord, fresh, so_far, with_found}
use Rattle.snap_certify.specs.declared.finder.Finder.{Finder}
use Rattle.snap_certify.proofs.Findings.{IsQuiet, nothing_here}

-- before the first item
pub none_found : (r : Run) (f : Finder) → IsValidRun r → WritesWord r.source f.line → AreRoles r.source f.roles.items →
    f.values ≡ values (state r 0) → f.progress.items ≡ replicate r.shape.n fresh → f.writes.items ≡ [] →
    f.missing ≡ None → Finds r 0 f
none_found r f fits word roles zeros new empty whole = record {
  fits = fits;
  word = word;
  roles = roles;
  values = zeros;
  progress = rw new (record {
    count = length-replicate r.shape.n fresh;
    each = λ i one d. get_or-replicate r.shape.n (i - 1) fresh d (omega arith);
  });
  found = rw (empty, whole);
}

-- an item that calls nothing and does not execute the line leaves the progress
kept_progress : (line t : ℕ) (x : SeenItem) (p : Progress) → at_line line (executed x) ≡ false →
    is_called x.outcome ≡ false → progress_after line t x p ≡ p
kept_progress line t x p other none = grind arith

-- nothing more is found
with_nothing : (found : Result (List UpdateWrite) Missing) → with_found found finding.Nothing ≡ found
with_nothing found = grind arith

-- an item that does nothing that counts
pub noted_nothing : (t : ℕ) (x : SeenItem) (f : Finder) (d : Progress) → changes x ≡ false →
    at_line f.line (executed x) ≡ false → is_called x.outcome ≡ false → (x.outcome ≡ outcome.Finished → ⊥) →
    Notes t x (get_or f.progress.items (x.process - 1) d) f f
noted_nothing t x f d still other none unfinished =
    let past = get_or f.progress.items (x.process - 1) d in
    let quiet : IsQuiet f.line t x past =
    record { not_there = other; same = still; wrote = λ finished. absurd (unfinished finished) } in
    record {
      line = refl;
      roles = refl;
      progress = rw (kept_progress f.line t x past other none) (sym (set-get_or f.progress.items (x.process - 1) d));
      found = rw (nothing_here f.line t x past quiet) (sym (with_nothing (so_far f.missing f.writes.items)));
    }

-- how far each process is, once one of them is further
progress_more : (r : Run) (line t : ℕ) (ps : List Progress) → IsOneOf r.shape.n (who (item_at r (suc t))) →
    AreProgress r line t ps → (let k = who (item_at r (suc t)) in
    AreProgress r line (suc t)
    (slice_set ps (k - 1) (progress_after line (suc t) (seen_item r (suc t)) (progress r line k t))))
progress_more r line t ps one h =
    let k = who (item_at r (suc t)) in
    let now = progress_after line (suc t) (seen_item r (suc t)) (progress r line k t) in
    let count = h.count in
    record {
      count = length-set ps (k - 1) now ∙ count;
      each = λ i other d. elim (cases_eq k i) [
        | inl same ↦
            get_or-set_at ps (k - 1) (i - 1) now d (omega arith) (omega arith)
            ∙ subst (λ j. now ≡ progress r line j (suc t)) same (rw same_number)
        | inr not ↦
            get_or-set_other ps (k - 1) (i - 1) now d (λ same. not (omega arith)) ∙ h.each i other d
            ∙ rw (other_number k i not)
      ];
    }

-- the next item of a run is noted
pub finds_more : (r : Run) (t : ℕ) (f g : Finder) → Finds r t f → t < length r.items →
    (let next = seen_item r (suc t) in Notes (suc t) next (get_or f.progress.items (next.process - 1) fresh) f g) →
    g.values ≡ values (state r (suc t)) → Finds r (suc t) g
finds_more r t f g h below noted left =
    let next = seen_item r (suc t) in
    let i = who (item_at r (suc t)) in
    let one = item_one r h.fits t below in
    let past = h.progress.each i one fresh in
    record {
      fits = h.fits;
      word = rw noted.line h.word;
      roles = rw noted.roles h.roles;
      values = left;
      progress = rw (noted.line, noted.progress, past) (progress_more r f.line t f.progress.items one h.progress);
      found =
          ap (λ line. writes r line (suc t)) noted.line
          ∙ ap (λ ws. with_found ws (found_at f.line (suc t) next (progress r f.line i t))) h.found
          ∙ ap (λ p. with_found (so_far f.missing f.writes.items) (found_at f.line (suc t) next p)) (sym past)
          ∙ sym noted.found;
    }
