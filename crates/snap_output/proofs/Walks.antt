-- A trace is written by a machine that does the items of a run in turn: what holds after each of them.
use Rattle.std.proofs.Common.{◌≡◌, ℕ, suc, ◌+◌, ◌-◌, ◌<◌, ◌≤◌, List, [], ◌∷◌, ◌++◌, length, drop, map, refl, sym, ap}
use Rattle.std.proofs.Common.{◌∙◌, arith}
use Rattle.std.proofs.lemmas.List.{length-replicate}
use Rattle.std.proofs.Math.Seq.{drop-cons}
use Rattle.std.specs.List.{AllByRecursion}
use Rattle.snap_words.specs.Shape.{IsOneOf}
use Rattle.snap_semantics.specs.declared.process.Item.{Item}
use Rattle.snap_semantics.specs.declared.process.Item.TheVariants.{Step}
use Rattle.snap_semantics.specs.State.{State, initial, initial_process}
use Rattle.snap_semantics.specs.Table.{done, who}
use Rattle.snap_runs.specs.Run.{Run, item, state}
use Rattle.snap_runs.proofs.Embedding.{next_state}
use Rattle.snap_listing.specs.LineTexts.{NumberedText, written}
use Rattle.snap_machine.specs.Configuration.{Configuration}
use Rattle.snap_output.specs.Step.{done_text}
use Rattle.snap_output.specs.Trace.{trace_text, trace_to}
use Rattle.snap_output.proofs.Items.{processes_kept, said}

-- the first so many items are done and told, and the others are left
pub record Going (r : Run) (texts : List NumberedText) (m : Configuration) (number : ℕ) (out : List ℕ)
    (left : List Item) : Type 0 where
  pub texts_are : texts ≡ map written r.source.lines
  pub source : m.source ≡ r.source
  pub shape : m.shape ≡ r.shape
  pub state_is : m.state ≡ state r number
  pub processes : length (state r number).processes ≡ r.shape.n
  pub left_is : drop number r.items ≡ left
  pub count : number + length left ≡ length r.items
  pub few : length r.items ≤ 1000000
  pub fits : AllByRecursion (λ x. IsOneOf r.shape.n (who x)) left
  pub told : out ≡ trace_to r number

module _ {r : Run} {texts : List NumberedText} where
  -- before the first item
  pub begun : {m : Configuration} {out : List ℕ} {left : List Item} → texts ≡ map written r.source.lines →
      m.source ≡ r.source → m.shape ≡ r.shape → m.state ≡ initial r.source r.shape → left ≡ r.items →
      length r.items ≤ 1000000 → AllByRecursion (λ x. IsOneOf r.shape.n (who x)) r.items → out ≡ [] →
      Going r texts m 0 out left
  begun texts_are source shape state_is left_is few fits none = record {
    texts_are = texts_are;
    source = source;
    shape = shape;
    state_is = state_is;
    processes = length-replicate r.shape.n (initial_process r.source r.shape);
    left_is = sym left_is;
    count = (let e = ap length left_is in omega (arith, e));
    few = few;
    fits = rw left_is fits;
    told = none;
  }

  -- the next item may be done
  pub next_fits : {m : Configuration} {number : ℕ} {out : List ℕ} {left left' : List Item} {x : Item} →
      Going r texts m number out left → left ≡ x ∷ left' → IsOneOf m.shape.n (who x)
  next_fits h next = rw h.shape (rw next at h.fits).0

  -- one item more is done and told
  pub one_more : {m m' : Configuration} {number : ℕ} {out out' : List ℕ} {left left' : List Item} {x : Item} →
      Going r texts m number out left → left ≡ x ∷ left' → m'.source ≡ m.source → m'.shape ≡ m.shape →
      m'.state ≡ (done m.source m.shape m.state x).0 →
      out' ≡ out ++ done_text texts m.source m.shape m.state (number + 1) x → Going r texts m' (number + 1) out' left'
  one_more {m} {m'} {number} {out} {out'} {left} {left'} {x} h next source shape state_is told =
      let e : number + 1 ≡ suc number = omega arith in
      rw e (record {
        texts_are = h.texts_are;
        source = source ∙ h.source;
        shape = shape ∙ h.shape;
        state_is = rw (state_is, h.source, h.shape, h.state_is, next_state r number below, x_is) refl;
        processes =
            ap (λ (S : State). length S.processes) (next_state r number below)
            ∙ processes_kept r.source r.shape (state r number) (item r (suc number)) ∙ h.processes;
        left_is = cc (first, h.left_is, next);
        count = (let c = h.count in let l = ap length next in omega (arith, c, l));
        few = h.few;
        fits = own.1;
        told =
            let of_it = said r number below one there in
            rw (told, h.texts_are, h.source, h.shape, h.state_is, e, ← x_is, of_it, h.told) refl;
      })
    where
      below : number < length r.items
      below = let c = h.count in let l = ap length next in omega (arith, c, l)

      first : drop number r.items ≡ item r (suc number) ∷ drop (suc number) r.items
      first = drop-cons r.items number (Step 0) below

      x_is : item r (suc number) ≡ x
      x_is = cc (first, h.left_is, next)

      own : AllByRecursion (λ x. IsOneOf r.shape.n (who x)) (x ∷ left')
      own = rw next at h.fits

      one : 0 < who (item r (suc number))
      one = rw x_is own.0.0

      there : who (item r (suc number)) - 1 < length (state r number).processes
      there = rw x_is (omega (arith, own.0, h.processes))

  -- behind the last item all is told
  pub all_told : {m : Configuration} {number : ℕ} {out : List ℕ} {left : List Item} →
      Going r texts m number out left → left ≡ [] → out ≡ trace_text r
  unfolding trace_text
  all_told {number = number} h none =
      let e : number ≡ length r.items = (let c = h.count in let l = ap length none in omega (arith, c, l)) in
      h.told ∙ ap (trace_to r) e
