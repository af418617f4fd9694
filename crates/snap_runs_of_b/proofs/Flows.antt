-- How control passes from line to line of B, and what the listing says of each line.
use Rattle.std.proofs.Common.{◌≡◌, ℕ, ◌+◌, ◌-◌, List, [], ◌∷◌, map, Option, nat_lt, slice_set, refl, sym, ap}
use Rattle.std.proofs.Common.{subst, inl, inr, arith}
use Rattle.snap_runs.proofs.Common.{IsOneOf, places_to, all_true, first_true}
use Rattle.snap_semantics.specs.Source.{instr_at}
use Rattle.snap_runs.specs.Scan.{IsCallLine, ReturnsView}
use Rattle.snap_runs.proofs.Algorithm.{Mode, Updating, To}
use Rattle.snap_runs.proofs.Computing.{either, whether}
use Rattle.snap_runs.proofs.Executing.{Numbered}
use Rattle.snap_runs.proofs.Flow as flow
use Rattle.snap_runs.proofs.Flow.{in_update_of}
use Rattle.snap_runs.proofs.ListedLines as listed_lines
use Rattle.snap_runs.proofs.ListedLines.{LineListed, counter_of}
use Rattle.snap_runs.proofs.Plain.{plain_data}
use Rattle.snap_runs.proofs.ScanSpan as span
use Rattle.snap_runs.proofs.Scans as scans
use Rattle.snap_runs.proofs.WordWrites as word_writes
use Rattle.snap_runs.proofs.WritesOnce as writes_once
use Rattle.snap_runs_of_b.specs.ListingB.{listing_b}
use Rattle.snap_runs_of_b.proofs.Algorithm.{Registers, plain, Move, Control, Variables, ProgramCounter, L10, L11, L12}
use Rattle.snap_runs_of_b.proofs.Algorithm.{L13, L14, L15, L16, L17, L18, L19, L20, L21, L22, L23, L25, L26, L27, L28}
use Rattle.snap_runs_of_b.proofs.Algorithm.{L40, L41, L42, L43, L44, L45, L46, L47, number, locals_of, agree}
use Rattle.snap_runs_of_b.proofs.Algorithm.{at_limit, move, first_to, algorithm, in_update, IsUpdate, IsLineOf, IsLate, next_to, writes}
use Rattle.snap_runs_of_b.proofs.Algorithm.{written, word_put, lines}

abbrev pub Making : Control → Type 0
Making = flow.Making lines

abbrev pub HasWritten : Control → ℕ → Type 0
HasWritten = flow.HasWritten lines

abbrev pub Flows : ℕ → Mode → Registers → Variables → ProgramCounter → Move → Type 0
Flows n = flow.Flows lines (algorithm n)

-- a line that goes on, keeps the words, and leads to no view that is to be written
on : (n me : ℕ) (d : Mode) (m m' : Registers) (p p' : Variables) (k k' : ProgramCounter) → IsLineOf me d k →
    m'.words ≡ m.words → written k' ≡ written k + writes k → writes k ≡ 0 → (lines.IsReturn k → ⊥) → (IsLate k' → ⊥) →
    Flows n d m p k (To d m' p' k')
on n me d m m' p p' k k' = flow.goes_on lines (algorithm n) (λ word. word ≡ me) (in_update k) d m m' p p' k k'

-- a line of an update
own : (n me : ℕ) (d : Mode) (m : Registers) (p : Variables) (k : ProgramCounter) → IsUpdate me d →
    ((word value : ℕ) → Flows n (Updating word value) m p k (move n me (Updating word value) m p k)) →
    Flows n d m p k (move n me d m p k)
own n me d m p k s each =
    in_update_of (λ word. word ≡ me) (λ d. Flows n d m p k (move n me d m p k)) d s (λ word value is. each word value)

-- a line that goes on to the next place or, after the last one, to the next line
next : (n me : ℕ) (d : Mode) (m : Registers) (p : Variables) (k back onward : ProgramCounter) → IsLineOf me d k →
    writes k ≡ 0 → (lines.IsReturn k → ⊥) → (written back ≡ written k + writes k) × (IsLate back → ⊥) →
    (written onward ≡ written k + writes k) × (IsLate onward → ⊥) → Flows n d m p k (next_to n d m p back onward)
next n me d m p k back onward s quiet none one other =
    either (Flows n d m p k) (nat_lt p.j n) _ _ (λ b. on n me d m m p _ k back s refl one.0 quiet none one.1)
    (λ b. on n me d m m p _ k onward s refl other.0 quiet none other.1)

pub flows : (n me : ℕ) (d : Mode) (m : Registers) (p : Variables) (k : ProgramCounter) → IsLineOf me d k →
    Flows n d m p k (move n me d m p k)
flows n me d m p L15 s = next n me d m p L15 _ _ s refl (λ r. r) (refl, λ late. late) (refl, λ late. late)
flows n me d m p L17 s = next n me d m p L17 _ _ s refl (λ r. r) (refl, λ late. late) (refl, λ late. late)
flows n me d m p L19 s = next n me d m p L19 _ _ s refl (λ r. r) (refl, λ late. late) (refl, λ late. late)
flows n me d m p L20 s =
    either (Flows n d m p L20) (all_true (map (agree me p) (places_to n))) _ _
    (λ b. on n me d m m p _ L20 _ s refl refl refl (λ r. r) (λ late. late))
    (λ b. on n me d m m p _ L20 _ s refl refl refl (λ r. r) (λ late. late))
flows n me d m p L22 s =
    whether (Flows n d m p L22) (first_to d m p) (first_true 1 (map (at_limit p) (places_to n)))
    (λ e. on n me d m m p _ L22 _ s refl refl refl (λ r. r) (λ late. late))
    (λ k e. on n me d m m p _ L22 _ s refl refl refl (λ r. r) (λ late. late))
flows n me d m p L26 s = flow.returns lines (algorithm n) (λ word. word ≡ me) d m p L26 L45 s tt refl refl refl
flows n me d m p L28 s = flow.returns lines (algorithm n) (λ word. word ≡ me) d m p L28 L45 s tt refl refl refl
flows n me d m p L43 s = next n me d m p L43 _ _ s refl (λ r. r) (refl, λ late. late) (refl, λ late. late)
flows n me d m p L44 s = own n me d m p L44 s (λ word value. (refl, refl, tt))
flows n me d m p L45 s = own n me d m p L45 s (λ word value. (inl refl, refl, refl, λ late. (tt, refl)))
flows n me d m p L46 s = own n me d m p L46 s (λ word value. (inr refl, refl, refl, λ late. absurd late))
flows n me d m p L47 s = own n me d m p L47 s (λ word value. refl)
flows n me d m p k s = on n me d m _ p _ k _ s refl refl refl (λ r. r) (λ late. late)

-- the line with this number
abbrev pub counter_with : ℕ → Option ProgramCounter
counter_with =
    counter_of number (L10 ∷ L11 ∷ L12 ∷ L13 ∷ L14 ∷ L15 ∷ L16 ∷ L17 ∷ L18 ∷ L19 ∷ L20 ∷ L21 ∷ L22 ∷ L23 ∷ L25 ∷ L26 ∷
    L27 ∷ L28 ∷ L40 ∷ L41 ∷ L42 ∷ L43 ∷ L44 ∷ L45 ∷ L46 ∷ L47 ∷ [])

pub line_listed : (n : ℕ) (k : ProgramCounter) → LineListed (algorithm n) lines 46 counter_with k
line_listed n L10 = record { alone = refl; tested = refl; wrote = refl; once = omega arith }
line_listed n k = record { alone = refl; tested = refl; wrote = refl; once = omega arith }

-- line 44 begins a scan
calls : (n : ℕ) (k : ProgramCounter) → IsCallLine (instr_at listing_b.lines (number k)) → (me : ℕ) (d : Mode)
    (m : Registers) (p : Variables) → span.NotTo (algorithm n) (move n me d m p k)
calls n L44 h me d m p = span.embeds (algorithm n) L10 d p
calls n k h me d m p = absurd h

-- lines 26 and 28 return s
answers : (p : Variables) (k : ProgramCounter) → lines.IsReturn k →
    ReturnsView (instr_at listing_b.lines (number k)) (locals_of p) p.s
answers p L26 is = refl
answers p L28 is = refl
answers p k is = absurd is

returns : (p : Variables) (v : List ℕ) (k : ProgramCounter) →
    ReturnsView (instr_at listing_b.lines (number k)) (locals_of p) v → lines.IsReturn k × (p.s ≡ v)
returns p v L26 h = (tt, h)
returns p v L28 h = (tt, h)
returns p v k h = absurd h

abbrev pub numbered : (n : ℕ) → Numbered (algorithm n)
numbered n = listed_lines.numbered (algorithm n) lines 46 counter_with (line_listed n)

pub listed : (n : ℕ) → scans.Listed (algorithm n) lines
listed n = listed_lines.listed (algorithm n) lines 46 counter_with (line_listed n) (calls n) returns answers

pub once : (n : ℕ) → writes_once.Once (algorithm n) lines 46
once n = listed_lines.once (algorithm n) lines 46 counter_with (line_listed n) (λ k is. (ap written is, ap writes is))

-- line 46 writes the process's own word
abbrev pub writer : (n : ℕ) → word_writes.Writer (algorithm n) lines 46
writer n = record {
  words = λ m. m.words;
  values_are = λ m. plain_data plain (λ x. refl) m.words;
  kept = λ m m' same. same;
  counter = L46;
  number_is = refl;
  only = λ k is. is;
  Owned = λ me word. word ≡ me;
  is_word = λ me word one is. subst (IsOneOf n) (sym is) one;
  put = λ me word value m p. word_put n me (Updating word value) m p;
  datum_is = λ me word value m p. refl;
  puts = λ me word value m p is. ap (λ y. slice_set m.words (y - 1) (word_put n me (Updating word value) m p)) (sym is);
}
