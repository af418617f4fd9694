-- Listing B in its own words: its lines, its variables, and what each line does.
use Rattle.std.proofs.Common.{◌≡◌, ℕ, ◌+◌, ◌-◌, max, Bool, true, false, not, ◌&&◌, List, [], ◌∷◌, take, map}
use Rattle.std.proofs.Common.{Option, Some, None, nat_eq, nat_lt, nat_le, if◌then◌else◌, slice_index, slice_set}
use Rattle.std.proofs.Common.{replicate, refl, ap}
use Rattle.snap_words.specs.Kind.{initial_word}
use Rattle.snap_runs.proofs.Common.{Word, places_to, all_true, first_true, Op, Scan, Update}
use Rattle.snap_words.specs.declared.kind.KindTag.TheVariants as kind
use Rattle.snap_semantics.specs.State.{Locals, Memory}
use Rattle.snap_semantics.specs.Table.{bit_at, with_bit_at, entry}
use Rattle.snap_runs.proofs.Algorithm as typed
use Rattle.snap_runs.proofs.Algorithm.{Mode, value_of, To, Finish, Algorithm, returning, embedding}
use Rattle.snap_runs.proofs.Embedding.{map_same}
use Rattle.snap_runs.proofs.Flow.{Lines, IsUpdateOf, IsLine}
use Rattle.snap_runs.proofs.Held.{word_at, seq_at}
use Rattle.snap_runs.proofs.Places.{for_each}
use Rattle.snap_runs_of_b.specs.ListingB as listing
use Rattle.snap_runs_of_b.specs.ListingB.{listing_b}
use Rattle.snap_runs_of_b.specs.Promises.{square}

-- the line at which a process stands
pub data ProgramCounter : Type 0 where
  L10 : ProgramCounter
  L11 : ProgramCounter
  L12 : ProgramCounter
  L13 : ProgramCounter
  L14 : ProgramCounter
  L15 : ProgramCounter
  L16 : ProgramCounter
  L17 : ProgramCounter
  L18 : ProgramCounter
  L19 : ProgramCounter
  L20 : ProgramCounter
  L21 : ProgramCounter
  L22 : ProgramCounter
  L23 : ProgramCounter
  L25 : ProgramCounter
  L26 : ProgramCounter
  L27 : ProgramCounter
  L28 : ProgramCounter
  L40 : ProgramCounter
  L41 : ProgramCounter
  L42 : ProgramCounter
  L43 : ProgramCounter
  L44 : ProgramCounter
  L45 : ProgramCounter
  L46 : ProgramCounter
  L47 : ProgramCounter

abbrev pub number : ProgramCounter → ℕ
number L10 = 10
number L11 = 11
number L12 = 12
number L13 = 13
number L14 = 14
number L15 = 15
number L16 = 16
number L17 = 17
number L18 = 18
number L19 = 19
number L20 = 20
number L21 = 21
number L22 = 22
number L23 = 23
number L25 = 25
number L26 = 26
number L27 = 27
number L28 = 28
number L40 = 40
number L41 = 41
number L42 = 42
number L43 = 43
number L44 = 44
number L45 = 45
number L46 = 46
number L47 = 47

abbrev pub Words : Type 0
Words = List Word

-- The words of the proof have in `seq` how often their register has been written; those of the listing have 0 there.
abbrev pub plain : Word → Word
plain w = record { datum = w.datum; seq = 0; id = w.id; toggle = w.toggle; handshakes = w.handshakes; view = w.view }

-- the registers
pub record Registers : Type 0 where
  pub words : Words
  pub q : List (List ℕ)

abbrev pub real : Registers → Memory
real m = record { words = map plain m.words; q = m.q; p = []; views = [] }

-- the locals of B, and the proof's own marks: how often the word at a place had been written when its bit was put
pub record Variables : Type 0 where
  pub j : ℕ
  pub x : ℕ
  pub t : ℕ
  pub moved : List ℕ
  pub g : List ℕ
  pub f : List ℕ
  pub a : Words
  pub b : Words
  pub s : List ℕ
  pub marks : List ℕ

abbrev pub locals_of : Variables → Locals
locals_of p = record {
  scalars = (listing.j, p.j) ∷ (listing.x, p.x) ∷ (listing.t, p.t) ∷ [];
  rows = (listing.moved, p.moved) ∷ (listing.g, p.g) ∷ (listing.f, p.f) ∷ [];
  words = (listing.a, map plain p.a) ∷ (listing.b, map plain p.b) ∷ [];
  views = (listing.s, p.s) ∷ [];
}

abbrev pub Move : Type 0
Move = typed.Move Variables ProgramCounter Registers

abbrev pub Control : Type 0
Control = typed.Control ProgramCounter

abbrev pub Process : Type 0
Process = typed.TypedProcess Variables ProgramCounter Registers

abbrev pub State : Type 0
State = typed.TypedState Variables ProgramCounter Registers

abbrev pub Change : Type 0
Change = typed.Change Variables ProgramCounter Registers

-- place k of a row, and what a word says to process i
abbrev pub place : List ℕ → ℕ → ℕ
place row k = slice_index row (k - 1)

abbrev pub handshake_at : Word → ℕ → ℕ
handshake_at w i = place w.handshakes i

-- the bit that process i puts for process k
abbrev pub bit_for : List (List ℕ) → ℕ → ℕ → ℕ
bit_for q i k = bit_at q (i - 1) (k - 1)

abbrev pub opposite : ℕ → ℕ
opposite x = if nat_eq x 0 then 1 else 0

-- what line 42 answers to a bit, and what line 45 makes of a toggle
abbrev pub answer : ℕ → ℕ
answer x = opposite x

abbrev pub flipped : ℕ → ℕ
flipped t = opposite t

-- both copies of the word at place k say the bit that process `me` drew, and their toggles are equal
abbrev pub agree : ℕ → Variables → ℕ → Bool
agree me p k =
    nat_eq (handshake_at (word_at p.a k) me) (place p.g k)
    && (nat_eq (handshake_at (word_at p.b k) me) (place p.g k) && nat_eq (word_at p.a k).toggle (word_at p.b k).toggle)

-- the number of moves of one process that a scan has to see before it borrows a view
abbrev pub limit : ℕ
limit = 2

abbrev pub moved_at : Variables → ℕ → ℕ
moved_at p k = place p.moved k

-- the moves of process k once line 21 has counted them
abbrev pub counted : ℕ → Variables → ℕ → ℕ
counted me p k = if not (agree me p k) then moved_at p k + 1 else moved_at p k

abbrev pub at_limit : Variables → ℕ → Bool
at_limit p k = nat_eq (moved_at p k) limit

-- lines 15, 17, 19 and 43
abbrev pub next_to : ℕ → Mode → Registers → Variables → ProgramCounter → ProgramCounter → Move
next_to n d m p back on =
    if nat_lt p.j n then To d m (record p { j = p.j + 1 }) back else To d m (record p { j = 1 }) on

-- lines 26 and 28
abbrev pub return_to : Mode → Registers → Variables → Move
return_to d m p = returning p.s L45 d m p

-- line 44
abbrev pub embed_to : Mode → Registers → Variables → Move
embed_to d m p = embedding L10 d p

-- the line that borrows a view
abbrev pub borrows : ProgramCounter
borrows = L27

-- line 22
abbrev pub first_to : Mode → Registers → Variables → Option ℕ → Move
first_to d m p None = To d m p L23
first_to d m p (Some k) = To d m (record p { j = k }) borrows

-- the word that line 46 writes
abbrev pub word_put : ℕ → ℕ → Mode → Registers → Variables → Word
word_put n me d m p = record {
  datum = value_of d;
  seq = seq_at m.words me + 1;
  id = 0;
  toggle = p.t;
  handshakes = take n p.f;
  view = p.s;
}

-- the registers after lines 14 and 46
abbrev pub with_put : ℕ → Registers → Variables → Registers
with_put me m p = record { words = m.words; q = with_bit_at m.q (me - 1) (p.j - 1) (place p.g p.j) }

abbrev pub with_written : ℕ → ℕ → Mode → Registers → Variables → Registers
with_written n me d m p = record { words = slice_set m.words (me - 1) (word_put n me d m p); q = m.q }

-- what each line does to process `me` of n
abbrev pub move : ℕ → ℕ → Mode → Registers → Variables → ProgramCounter → Move
move n me d m p L10 = To d m (record p { moved = for_each n (λ k. 0) p.moved }) L11
move n me d m p L11 = To d m (record p { j = 1 }) L12
move n me d m p L12 = To d m (record p { a = slice_set p.a (p.j - 1) (word_at m.words p.j) }) L13
move n me d m p L13 = To d m (record p { g = slice_set p.g (p.j - 1) (handshake_at (word_at p.a p.j) me) }) L14
move n me d m p L14 = To d (with_put me m p) (record p { marks = slice_set p.marks (p.j - 1) (seq_at m.words p.j) }) L15
move n me d m p L15 = next_to n d m p L12 L16
move n me d m p L16 = To d m (record p { a = slice_set p.a (p.j - 1) (word_at m.words p.j) }) L17
move n me d m p L17 = next_to n d m p L16 L18
move n me d m p L18 = To d m (record p { b = slice_set p.b (p.j - 1) (word_at m.words p.j) }) L19
move n me d m p L19 = next_to n d m p L18 L20
move n me d m p L20 = if all_true (map (agree me p) (places_to n)) then To d m p L25 else To d m p L21
move n me d m p L21 = To d m (record p { moved = for_each n (counted me p) p.moved }) L22
move n me d m p L22 = first_to d m p (first_true 1 (map (at_limit p) (places_to n)))
move n me d m p L23 = To d m p L12
move n me d m p L25 = To d m (record p { s = map (λ (r : Word). r.datum) (take n p.b) }) L26
move n me d m p L26 = return_to d m p
move n me d m p L27 = To d m (record p { s = (word_at p.b p.j).view }) L28
move n me d m p L28 = return_to d m p
move n me d m p L40 = To d m (record p { j = 1 }) L41
move n me d m p L41 = To d m (record p { x = bit_for m.q p.j me }) L42
move n me d m p L42 = To d m (record p { f = slice_set p.f (p.j - 1) (answer p.x) }) L43
move n me d m p L43 = next_to n d m p L41 L44
move n me d m p L44 = embed_to d m p
move n me d m p L45 = To d m (record p { t = flipped p.t }) L46
move n me d m p L46 = To d (with_written n me d m p) p L47
move n me d m p L47 = Finish

-- the line at which an operation begins, and the line to which its embedded scan leads back
abbrev pub counter : Op → ProgramCounter
counter Scan = L10
counter (Update word value) = L40

abbrev pub back : ProgramCounter
back = L45

-- line 20 ends a double collect, line 23 starts another one, and line 46 writes
abbrev pub tests : ProgramCounter → ℕ
tests L20 = 1
tests _ = 0

abbrev pub restarts : ProgramCounter → Bool
restarts L23 = true
restarts _ = false

abbrev pub writes : ProgramCounter → ℕ
writes L46 = 1
writes _ = 0

pub entry_is : (op : Op) → number (counter op) ≡ entry listing_b op
entry_is Scan = refl
entry_is (Update word value) = refl

-- a word that nobody has written
abbrev pub first_word : ℕ → Word
first_word n = initial_word kind.Bits (square n)

abbrev pub first_words : ℕ → ℕ → Words
first_words n count = replicate count (first_word n)

abbrev pub first_variables : ℕ → Variables
first_variables n = record {
  j = 0;
  x = 0;
  t = 0;
  moved = replicate (max n n) 0;
  g = replicate (max n n) 0;
  f = replicate (max n n) 0;
  a = first_words n (max n n);
  b = first_words n (max n n);
  s = replicate n 0;
  marks = replicate (max n n) 0;
}

abbrev pub first_registers : ℕ → Registers
first_registers n = record { words = first_words n n; q = replicate n (replicate n 0) }

-- the locals at the start, with these words in a and b
abbrev pub locals_with : ℕ → Words → Locals
locals_with n ws = record {
  scalars = (listing.j, 0) ∷ (listing.x, 0) ∷ (listing.t, 0) ∷ [];
  rows =
      (listing.moved, replicate (max n n) 0) ∷ (listing.g, replicate (max n n) 0)
      ∷ (listing.f, replicate (max n n) 0) ∷ [];
  words = (listing.a, ws) ∷ (listing.b, ws) ∷ [];
  views = (listing.s, replicate n 0) ∷ [];
}

-- the algorithm for n processes
abbrev pub algorithm : ℕ → Algorithm Variables ProgramCounter Registers
algorithm n = record {
  source = listing_b;
  shape = square n;
  real = real;
  locals_of = locals_of;
  number = number;
  back = number back;
  move = move n;
  counter = counter;
  tests = tests;
  restarts = restarts;
  writes = writes;
  first_variables = first_variables n;
  first_memory = first_registers n;
  variables_is = ap (locals_with n) (map_same plain (max n n) (first_word n));
  memory_is =
      ap (λ (ws : Words).
      let m : Memory = record { words = ws; q = replicate n (replicate n 0); p = []; views = [] } in m)
      (map_same plain n (first_word n));
  entry_is = entry_is;
}

-- which mode a line belongs to; the word of an update is the process's own
abbrev pub IsUpdate : ℕ → Mode → Type 0
IsUpdate me d = IsUpdateOf (λ word. word ≡ me) d

-- the lines of an update outside its scan
abbrev pub in_update : ProgramCounter → Bool
in_update k = nat_le 40 (number k)

abbrev pub IsLineOf : ℕ → Mode → ProgramCounter → Type 0
IsLineOf me d k = IsLine (λ word. word ≡ me) (in_update k) d

-- What the lines are for.

-- the scan returns its view
abbrev pub IsReturn : ProgramCounter → Type 0
IsReturn L26 = Unit {0}
IsReturn L28 = Unit {0}
IsReturn _ = ⊥

-- the view is made and not yet written
abbrev pub IsLate : ProgramCounter → Type 0
IsLate L45 = Unit {0}
IsLate L46 = Unit {0}
IsLate _ = ⊥

-- the writes of an update before a line
abbrev pub written : ProgramCounter → ℕ
written L47 = 1
written _ = 0

abbrev pub lines : Lines Variables ProgramCounter Registers
lines = record {
  Kept = λ m m'. m'.words ≡ m.words;
  IsReturn = IsReturn;
  answer = λ p. p.s;
  IsWrite = λ k. k ≡ L46;
  IsLast = λ k. k ≡ L47;
  IsLate = IsLate;
  written = written;
}
