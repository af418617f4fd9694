-- What a trace prints of one item, made from the states before and after the item, is what the reports of the run
-- give.
use Rattle.std.proofs.Common.{◌≡◌, ℕ, suc, ◌+◌, ◌-◌, ◌<◌, List, [], ◌∷◌, ◌++◌, length, map, take, codes, decimal}
use Rattle.std.proofs.Common.{refl, ap, ◌∙◌, append_assoc, append-nil, arith, length-set}
use Rattle.std.proofs.lemmas.List.{length-take-le}
use Rattle.std.proofs.Math.Seq.{take-suc}
use Rattle.snap_words.specs.Shape.{Counts}
use Rattle.snap_semantics.specs.declared.process.Item.{Item}
use Rattle.snap_semantics.specs.declared.process.Item.TheVariants.{Step}
use Rattle.snap_semantics.specs.Report.{event_lines, processes_lines, register_lines, values_line}
use Rattle.snap_semantics.specs.Run.{event_of}
use Rattle.snap_semantics.specs.Source.{Source}
use Rattle.snap_semantics.specs.State.{State, initial, values}
use Rattle.snap_semantics.specs.Table.{done, who}
use Rattle.snap_semantics.specs.Token.{lines_of}
use Rattle.snap_runs.specs.Run.{Run, events_of, item, outcome, state}
use Rattle.snap_runs.proofs.Embedding.{next_state}
use Rattle.snap_record.proofs.Longer.{events_append}
use Rattle.snap_text.specs.Changes.{behind_first, changes_text}
use Rattle.snap_listing.specs.LineTexts.{written}
use Rattle.snap_report.specs.RunReport.{report_at}
use Rattle.snap_output.specs.Between.{between, process_text, state_text}
use Rattle.snap_output.specs.Step.{done_text}
use Rattle.snap_output.specs.Trace.{item_changes, item_line, item_text}
use Rattle.snap_output.proofs.Feeds.{decimal_plain}
use Rattle.snap_output.proofs.Kept.{moves}
use Rattle.snap_output.proofs.Parts.{narrowed}
use Rattle.snap_output.proofs.Wholes.{IsWhole, before, feeds, feeds_append, new_line}

-- the first line of a report, and those behind it
abbrev head : ℕ → ℕ → List ℕ
head t total = codes "report at " ++ decimal t ++ codes " of " ++ decimal total ++ codes "\n"

head_feeds : (t total : ℕ) → feeds (head t total) ≡ 1
head_feeds t total = simp (feeds_append, decimal_plain)

head_whole : (t total : ℕ) → IsWhole (head t total)
head_whole t total =
    (before (codes "report at " ++ decimal t ++ codes " of " ++ decimal total) (codes "\n") new_line).whole

behind_one : (xs ys : List (List ℕ)) → length xs ≡ 1 → behind_first (xs ++ ys) ≡ ys
behind_one (x ∷ []) ys e = refl
behind_one _ ys e = absurd (omega (arith, e))

regroup : (f v r p e : List ℕ) → (((f ++ v) ++ r) ++ p) ++ e ≡ f ++ (((v ++ r) ++ p) ++ e)
regroup f v r p e = simp append_assoc

lines_are : (r : Run) (t : ℕ) →
    behind_first (lines_of (report_at r t)) ≡ lines_of (state_text r.source.kind (state r t) (events_of r t))
lines_are r t =
    let g = r.source.kind in
    let S = state r t in
    let es = events_of r t in
    let total = length r.items in
    ap (λ text. behind_first (lines_of text))
    (regroup (head t total) (values_line (values S)) (register_lines g S.memory)
    (processes_lines g 1 S.processes) (event_lines es))
    ∙ ap behind_first ((head_whole t total).apart (state_text g S es))
    ∙ behind_one (lines_of (head t total)) (lines_of (state_text g S es))
    ((head_whole t total).count ∙ head_feeds t total)

-- the events of one item more
next_events : (r : Run) (t : ℕ) → t < length r.items →
    events_of r (suc t) ≡ events_of r t ++ event_of (suc t) (item r (suc t)) (outcome r (suc t))
next_events r t h =
    let s = r.source in
    let x = item r (suc t) in
    let number : 1 + length (take t r.items) ≡ suc t =
    (let l = length-take-le t r.items (omega (arith, h)) in omega (arith, l)) in
    rw (
      take-suc r.items t (Step 0) h,
      events_append s r.shape (initial s r.shape) 1 (take t r.items) (x ∷ []),
      number,
      append-nil,
    ) refl

-- what changed
changed : (r : Run) (t : ℕ) → t < length r.items → 0 < who (item r (suc t)) →
    who (item r (suc t)) - 1 < length (state r t).processes → changes_text (item_changes r (suc t))
    ≡ between (process_text r.source.kind (who (item r (suc t))) (state r t) [])
    (process_text r.source.kind (who (item r (suc t))) (done r.source r.shape (state r t) (item r (suc t))).0
    (event_of (suc t) (item r (suc t)) (outcome r (suc t))))
unfolding item_changes
changed r t h one there =
    let x = item r (suc t) in
    let S = state r t in
    rw (lines_are r t, lines_are r (suc t), next_state r t h, next_events r t h)
    (narrowed r.source.kind (who x) S (done r.source r.shape S x).0 (events_of r t)
    (event_of (suc t) x (outcome r (suc t))) one there (moves r.source.kind r.source r.shape S x))

-- what is said of an item is said of it as it is done
pub said : (r : Run) (t : ℕ) → t < length r.items → 0 < who (item r (suc t)) →
    who (item r (suc t)) - 1 < length (state r t).processes →
    done_text (map written r.source.lines) r.source r.shape (state r t) (suc t) (item r (suc t)) ≡ item_text r (suc t)
unfolding done_text item_line
said r t h one there = rw (changed r t h one there) refl

-- there are as many processes as before
pub processes_kept : (s : Source) (n : Counts) (S : State) (x : Item) →
    length (done s n S x).0.processes ≡ length S.processes
processes_kept s n S x =
    let m = moves s.kind s n S x in
    ap length m.processes ∙ length-set S.processes (who x - 1) m.process
