-- `LineListed`: what the proof about an algorithm asks of each line
-- of its listing (tests and writes), and so of all.
use Rattle.std.proofs.Common.{◌≡◌, ℕ, ◌+◌, ◌≤◌, ◌⊎◌, List, [], ◌∷◌, Option, Some, None, nat_eq, if◌then◌else◌, sym, ◌∙◌}
use Rattle.std.proofs.Common.{ap, inl, inr}
use Rattle.std.proofs.lemmas.Bool.{cases_eq}
use Rattle.snap_semantics.specs.Source.{instr_at}
use Rattle.snap_runs.specs.Scan.{IsCallLine, ReturnsView, is_if_all}
use Rattle.snap_runs.proofs.Algorithm.{Mode, Algorithm}
use Rattle.snap_runs.proofs.Computing.{same_number, other_number}
use Rattle.snap_runs.proofs.Executing.{Numbered, at_number}
use Rattle.snap_runs.proofs.Flow.{Lines}
use Rattle.snap_runs.proofs.ScanSpan as span
use Rattle.snap_runs.proofs.Scans.{Listed}
use Rattle.snap_runs.proofs.WritesOnce.{Once}

-- the program counter with this number, among these
abbrev pub counter_of : {P : Type 0} → (P → ℕ) → List P → ℕ → Option P
counter_of number [] line = None
counter_of number (k ∷ ks) line = if nat_eq (number k) line then Some k else counter_of number ks line

module _ {V P M : Type 0} (a : Algorithm V P M) (lines : Lines V P M) (line : ℕ) (counter_with : ℕ → Option P) where
  -- what the listing says of a line, where the line with this number writes
  pub record LineListed (k : P) : Type 0 where
    -- no other line has its number
    pub alone : counter_with (a.number k) ≡ Some k
    -- the `if all` line is the one that ends a double collect
    pub tested : (if is_if_all (instr_at a.source.lines (a.number k)) then 1 else 0) ≡ a.tests k
    -- the line that writes has that number
    pub wrote : (if nat_eq (a.number k) line then 1 else 0) ≡ a.writes k
    -- an update writes at most once up to the end of a line
    pub once : lines.written k + a.writes k ≤ 1

  abbrev pub numbered : ((k : P) → LineListed k) → Numbered a
  numbered each = record { counter_with = counter_with; alone = λ k. (each k).alone }

  -- a `call` line begins a scan, and a line that returns a view returns the answer
  pub listed : ((k : P) → LineListed k) →
      ((k : P) → IsCallLine (instr_at a.source.lines (a.number k)) → (me : ℕ) (d : Mode) (m : M) (p : V) →
      span.NotTo a (a.move me d m p k)) →
      ((p : V) (v : List ℕ) (k : P) → ReturnsView (instr_at a.source.lines (a.number k)) (a.locals_of p) v →
      lines.IsReturn k × (lines.answer p ≡ v)) →
      ((p : V) (k : P) → lines.IsReturn k →
      ReturnsView (instr_at a.source.lines (a.number k)) (a.locals_of p) (lines.answer p)) → Listed a lines
  listed each calls returns answers = record {
    tested = λ k. (each k).tested;
    calls = λ me d m p k call. calls k call me d m p;
    returns = λ p k v h. returns p v k h;
    answers = answers;
  }

  pub once : ((k : P) → LineListed k) →
      ((k : P) → lines.IsLast k → (lines.written k ≡ 1) × (a.writes k ≡ 0)) → Once a lines line
  once each last = record { writes_is = λ k. (each k).wrote; most = λ k. (each k).once; last = last }

  -- a line is the one that writes, or it writes nothing
  pub writes_or_not : ((k : P) → LineListed k) → (there k : P) → counter_with line ≡ Some there →
      (k ≡ there) ⊎ (a.writes k ≡ 0)
  writes_or_not each there k is =
      elim (cases_eq (a.number k) line) [
        | inl same ↦ inl (at_number a (numbered each) k line there is (ap (λ y. nat_eq y line) same ∙ same_number line))
        | inr other ↦ inr (sym (each k).wrote ∙ ap (λ b. if b then 1 else 0) (other_number (a.number k) line other))
      ]
