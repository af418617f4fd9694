-- How control passes from line to line of M, and what the listing says of each line.
use Rattle.std.proofs.Common.{◌≡◌, ℕ, ◌+◌, Bool, true, false, List, [], ◌∷◌, Option, if◌then◌else◌}
use Rattle.std.proofs.Common.{refl, ap, inr, arith}
use Rattle.snap_words.specs.Shape.{IsOneOf}
use Rattle.snap_semantics.specs.Source.{instr_at}
use Rattle.snap_runs.specs.Scan.{IsCallLine, ReturnsView}
use Rattle.snap_runs.proofs.Algorithm.{Mode, Updating, To}
use Rattle.snap_runs.proofs.Computing.{whether}
use Rattle.snap_runs.proofs.Executing.{Numbered}
use Rattle.snap_runs.proofs.Flow as flow
use Rattle.snap_runs.proofs.Flow.{in_update_of}
use Rattle.snap_runs.proofs.ListedLines as listed_lines
use Rattle.snap_runs.proofs.ListedLines.{LineListed, counter_of}
use Rattle.snap_runs.proofs.Plain.{plain_data}
use Rattle.snap_runs.proofs.ScanSpan as span
use Rattle.snap_runs.proofs.Scans as scans
use Rattle.snap_runs.proofs.WordWrites as word_writes
use Rattle.snap_runs.proofs.WritesOnce as writes_once
use Rattle.snap_runs_of_m.specs.ListingM.{listing_m}
use Rattle.snap_runs_of_m.proofs.Algorithm.{Registers, plain, written, Move, Variables, ProgramCounter, L10, L11, L12}
use Rattle.snap_runs_of_m.proofs.Algorithm.{L13, L14, L15, L16, L17, L18, L19, L20, L21, L22, L23, L24, L25, L26, L27}
use Rattle.snap_runs_of_m.proofs.Algorithm.{L28, L29, L30, L31, L32, L33, L34, L35, L36, L37, L50, L51, L52, L53, L54}
use Rattle.snap_runs_of_m.proofs.Algorithm.{L55, L56, L57, L58, number, locals_of, third_move, move, first_to}
use Rattle.snap_runs_of_m.proofs.Algorithm.{algorithm, in_update, IsUpdate, IsLineOf, IsLate, writes, written_at, lines}

abbrev pub Flows : ℕ → ℕ → Mode → Registers → Variables → ProgramCounter → Move → Type 0
Flows n w = flow.Flows lines (algorithm n w)

-- a line that goes on, keeps the words, and leads to no view that is to be put
on : (n w : ℕ) (d : Mode) (m m' : Registers) (p p' : Variables) (k k' : ProgramCounter) → IsLineOf w d k →
    m'.words ≡ m.words → written_at k' ≡ written_at k + writes k → writes k ≡ 0 → (lines.IsReturn k → ⊥) →
    (IsLate k' → ⊥) → Flows n w d m p k (To d m' p' k')
on n w d m m' p p' k k' = flow.goes_on lines (algorithm n w) (IsOneOf w) (in_update k) d m m' p p' k k'

-- a line that goes on at one of two lines
fork : (n w : ℕ) (d : Mode) (m : Registers) (p : Variables) (k : ProgramCounter) (b : Bool) (p' p'' : Variables)
    (k' k'' : ProgramCounter) → IsLineOf w d k → writes k ≡ 0 → (lines.IsReturn k → ⊥) →
    (written_at k' ≡ written_at k + writes k) × (IsLate k' → ⊥) →
    (written_at k'' ≡ written_at k + writes k) × (IsLate k'' → ⊥) →
    Flows n w d m p k (if b then To d m p' k' else To d m p'' k'')
fork n w d m p k true p' p'' k' k'' s quiet none one other = on n w d m m p p' k k' s refl one.0 quiet none one.1
fork n w d m p k false p' p'' k' k'' s quiet none one other = on n w d m m p p'' k k'' s refl other.0 quiet none other.1

-- a line of an update
own : (n w me : ℕ) (d : Mode) (m : Registers) (p : Variables) (k : ProgramCounter) → IsUpdate w d →
    ((word value : ℕ) → Flows n w (Updating word value) m p k (move n w me (Updating word value) m p k)) →
    Flows n w d m p k (move n w me d m p k)
own n w me d m p k s each =
    in_update_of (IsOneOf w) (λ d. Flows n w d m p k (move n w me d m p k)) d s (λ word value is. each word value)

pub flows : (n w me : ℕ) (d : Mode) (m : Registers) (p : Variables) (k : ProgramCounter) → IsLineOf w d k →
    Flows n w d m p k (move n w me d m p k)
flows n w me d m p L16 s = fork n w d m p L16 _ _ _ _ _ s refl (λ r. r) (refl, λ late. late) (refl, λ late. late)
flows n w me d m p L18 s = fork n w d m p L18 _ _ _ _ _ s refl (λ r. r) (refl, λ late. late) (refl, λ late. late)
flows n w me d m p L20 s = fork n w d m p L20 _ _ _ _ _ s refl (λ r. r) (refl, λ late. late) (refl, λ late. late)
flows n w me d m p L23 s = fork n w d m p L23 _ _ _ _ _ s refl (λ r. r) (refl, λ late. late) (refl, λ late. late)
flows n w me d m p L26 s = fork n w d m p L26 _ _ _ _ _ s refl (λ r. r) (refl, λ late. late) (refl, λ late. late)
flows n w me d m p L29 s = fork n w d m p L29 _ _ _ _ _ s refl (λ r. r) (refl, λ late. late) (refl, λ late. late)
flows n w me d m p L30 s = fork n w d m p L30 _ _ _ _ _ s refl (λ r. r) (refl, λ late. late) (refl, λ late. late)
flows n w me d m p L32 s =
    whether (Flows n w d m p L32) (first_to d m p) (third_move n p)
    (λ e. on n w d m m p _ L32 _ s refl refl refl (λ r. r) (λ late. late))
    (λ k e. on n w d m m p _ L32 _ s refl refl refl (λ r. r) (λ late. late))
flows n w me d m p L35 s = flow.returns lines (algorithm n w) (IsOneOf w) d m p L35 L55 s tt refl refl refl
flows n w me d m p L37 s = flow.returns lines (algorithm n w) (IsOneOf w) d m p L37 L55 s tt refl refl refl
flows n w me d m p L53 s = fork n w d m p L53 _ _ _ _ _ s refl (λ r. r) (refl, λ late. late) (refl, λ late. late)
flows n w me d m p L54 s = own n w me d m p L54 s (λ word value. (refl, refl, tt))
flows n w me d m p L57 s = own n w me d m p L57 s (λ word value. (inr refl, refl, refl, λ late. absurd late))
flows n w me d m p L58 s = own n w me d m p L58 s (λ word value. refl)
flows n w me d m p k s = on n w d m _ p _ k _ s refl refl refl (λ r. r) (λ late. late)

-- the line with this number
abbrev pub counter_with : ℕ → Option ProgramCounter
counter_with =
    counter_of number (L10 ∷ L11 ∷ L12 ∷ L13 ∷ L14 ∷ L15 ∷ L16 ∷ L17 ∷ L18 ∷ L19 ∷ L20 ∷ L21 ∷ L22 ∷ L23 ∷ L24 ∷ L25 ∷
    L26 ∷ L27 ∷ L28 ∷ L29 ∷ L30 ∷ L31 ∷ L32 ∷ L33 ∷ L34 ∷ L35 ∷ L36 ∷ L37 ∷ L50 ∷ L51 ∷ L52 ∷ L53 ∷ L54 ∷ L55 ∷ L56 ∷
    L57 ∷ L58 ∷ [])

pub line_listed : (n w : ℕ) (k : ProgramCounter) → LineListed (algorithm n w) lines 57 counter_with k
line_listed n w L10 = record { alone = refl; tested = refl; wrote = refl; once = omega arith }
line_listed n w k = record { alone = refl; tested = refl; wrote = refl; once = omega arith }

-- line 54 begins a scan
calls : (n w : ℕ) (k : ProgramCounter) → IsCallLine (instr_at listing_m.lines (number k)) → (me : ℕ) (d : Mode)
    (m : Registers) (p : Variables) → span.NotTo (algorithm n w) (move n w me d m p k)
calls n w L54 h me d m p = span.embeds (algorithm n w) L10 d p
calls n w k h me d m p = absurd h

-- lines 35 and 37 return s
answers : (p : Variables) (k : ProgramCounter) → lines.IsReturn k →
    ReturnsView (instr_at listing_m.lines (number k)) (locals_of p) p.s
answers p L35 is = refl
answers p L37 is = refl
answers p k is = absurd is

returns : (p : Variables) (v : List ℕ) (k : ProgramCounter) →
    ReturnsView (instr_at listing_m.lines (number k)) (locals_of p) v → lines.IsReturn k × (p.s ≡ v)
returns p v L35 h = (tt, h)
returns p v L37 h = (tt, h)
returns p v k h = absurd h

abbrev pub numbered : (n w : ℕ) → Numbered (algorithm n w)
numbered n w = listed_lines.numbered (algorithm n w) lines 57 counter_with (line_listed n w)

pub listed : (n w : ℕ) → scans.Listed (algorithm n w) lines
listed n w = listed_lines.listed (algorithm n w) lines 57 counter_with (line_listed n w) (calls n w) returns answers

pub once : (n w : ℕ) → writes_once.Once (algorithm n w) lines 57
once n w =
    listed_lines.once (algorithm n w) lines 57 counter_with (line_listed n w) (λ k is. (ap written_at is, ap writes is))

-- line 57 writes a word
abbrev pub writer : (n w : ℕ) → word_writes.Writer (algorithm n w) lines 57
writer n w = record {
  words = λ m. m.words;
  values_are = λ m. plain_data plain (λ x. refl) m.words;
  kept = λ m m' same. same;
  counter = L57;
  number_is = refl;
  only = λ k is. is;
  Owned = λ me word. IsOneOf w word;
  is_word = λ me word one is. is;
  put = λ me word value m p. written me (Updating word value) m p;
  datum_is = λ me word value m p. refl;
  puts = λ me word value m p is. refl;
}
