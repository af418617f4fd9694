-- Listing U in its own words: its lines, its variables, and what each line does.
use Rattle.std.specs.Prelude.{◌≡◌, ℕ, ◌+◌, ◌-◌, max, Bool, true, false, not, List, [], ◌∷◌, take, map, Option}
use Rattle.std.specs.Prelude.{Some, None, nat_eq, nat_lt, nat_le, if◌then◌else◌, slice_index, slice_set, replicate, refl}
use Rattle.snap_words.specs.Kind.{initial_word}
use Rattle.snap_runs.proofs.Common.{Word, places_to, all_true, first_true, Op, Scan, Update}
use Rattle.snap_words.specs.declared.kind.KindTag.TheVariants as kind
use Rattle.snap_semantics.specs.State.{Locals, Memory}
use Rattle.snap_semantics.specs.Table.{entry}
use Rattle.snap_runs.proofs.Algorithm as typed
use Rattle.snap_runs.proofs.Algorithm.{Mode, value_of, To, Finish, Algorithm, returning, embedding}
use Rattle.snap_runs.proofs.Flow.{Lines, IsUpdateOf, IsLine}
use Rattle.snap_runs.proofs.Held.{word_at}
use Rattle.snap_runs.proofs.Places.{for_each}
use Rattle.snap_runs_of_u.specs.ListingU as u
use Rattle.snap_runs_of_u.specs.ListingU.{listing_u}
use Rattle.snap_runs_of_u.specs.Promises.{square}

-- the line at which a process stands
pub data ProgramCounter : Type 0 where
  L10 : ProgramCounter
  L11 : ProgramCounter
  L12 : ProgramCounter
  L13 : ProgramCounter
  L14 : ProgramCounter
  L15 : ProgramCounter
  L16 : ProgramCounter
  L17 : ProgramCounter
  L18 : ProgramCounter
  L19 : ProgramCounter
  L21 : ProgramCounter
  L22 : ProgramCounter
  L23 : ProgramCounter
  L24 : ProgramCounter
  L30 : ProgramCounter
  L31 : ProgramCounter
  L32 : ProgramCounter
  L33 : ProgramCounter

abbrev pub number : ProgramCounter → ℕ
number L10 = 10
number L11 = 11
number L12 = 12
number L13 = 13
number L14 = 14
number L15 = 15
number L16 = 16
number L17 = 17
number L18 = 18
number L19 = 19
number L21 = 21
number L22 = 22
number L23 = 23
number L24 = 24
number L30 = 30
number L31 = 31
number L32 = 32
number L33 = 33

-- the locals of a process
pub record Variables : Type 0 where
  pub j : ℕ
  pub c : ℕ
  pub moved : List ℕ
  pub a : List Word
  pub b : List Word
  pub s : List ℕ

abbrev pub locals_of : Variables → Locals
locals_of p = record {
  scalars = (u.j, p.j) ∷ (u.c, p.c) ∷ [];
  rows = (u.moved, p.moved) ∷ [];
  words = (u.a, p.a) ∷ (u.b, p.b) ∷ [];
  views = (u.s, p.s) ∷ [];
}

-- the memory: words alone
abbrev pub Words : Type 0
Words = List Word

abbrev pub real : Words → Memory
real words = record { words = words; q = []; p = []; views = [] }

abbrev pub Move : Type 0
Move = typed.Move Variables ProgramCounter Words

abbrev pub Control : Type 0
Control = typed.Control ProgramCounter

abbrev pub Process : Type 0
Process = typed.TypedProcess Variables ProgramCounter Words

abbrev pub State : Type 0
State = typed.TypedState Variables ProgramCounter Words

abbrev pub Change : Type 0
Change = typed.Change Variables ProgramCounter Words

-- what lines 16 and 17 compare of the two copies of a word
abbrev pub compared : Word → ℕ
compared word = word.seq

-- whether the two copies of word k agree
abbrev pub agree : Variables → ℕ → Bool
agree p k = nat_eq (compared (word_at p.a k)) (compared (word_at p.b k))

-- the number of moves of one process that a scan has to see before it borrows a view
abbrev pub limit : ℕ
limit = 2

abbrev pub moved_at : Variables → ℕ → ℕ
moved_at p k = slice_index p.moved (k - 1)

-- the moves of process k once line 17 has counted them
abbrev pub counted : Variables → ℕ → ℕ
counted p k = if not (agree p k) then moved_at p k + 1 else moved_at p k

abbrev pub at_limit : Variables → ℕ → Bool
at_limit p k = nat_eq (moved_at p k) limit

-- lines 13 and 15
abbrev pub next_to : ℕ → Mode → Words → Variables → ProgramCounter → ProgramCounter → Move
next_to n d m p back on =
    if nat_lt p.j n then To d m (record p { j = p.j + 1 }) back else To d m (record p { j = 1 }) on

-- the line that borrows a view
abbrev pub borrows : ProgramCounter
borrows = L23

-- line 18
abbrev pub first_to : Mode → Words → Variables → Option ℕ → Move
first_to d m p None = To d m p L19
first_to d m p (Some k) = To d m (record p { j = k }) borrows

-- lines 22 and 24
abbrev pub return_to : Mode → Words → Variables → Move
return_to d m p = returning p.s L31 d m p

-- line 30
abbrev pub embed_to : Mode → Words → Variables → Move
embed_to d m p = embedding L10 d p

-- the word that line 32 puts
abbrev pub word_put : Mode → Variables → Word
word_put d p = record { datum = value_of d; seq = p.c; id = 0; toggle = 0; handshakes = []; view = p.s }

-- what each line does to process `me` of n
abbrev pub move : ℕ → ℕ → Mode → Words → Variables → ProgramCounter → Move
move n me d m p L10 = To d m (record p { moved = for_each n (λ k. 0) p.moved }) L11
move n me d m p L11 = To d m (record p { j = 1 }) L12
move n me d m p L12 = To d m (record p { a = slice_set p.a (p.j - 1) (word_at m p.j) }) L13
move n me d m p L13 = next_to n d m p L12 L14
move n me d m p L14 = To d m (record p { b = slice_set p.b (p.j - 1) (word_at m p.j) }) L15
move n me d m p L15 = next_to n d m p L14 L16
move n me d m p L16 = if all_true (map (agree p) (places_to n)) then To d m p L21 else To d m p L17
move n me d m p L17 = To d m (record p { moved = for_each n (counted p) p.moved }) L18
move n me d m p L18 = first_to d m p (first_true 1 (map (at_limit p) (places_to n)))
move n me d m p L19 = To d m p L12
move n me d m p L21 = To d m (record p { s = map (λ (r : Word). r.datum) (take n p.b) }) L22
move n me d m p L22 = return_to d m p
move n me d m p L23 = To d m (record p { s = (word_at p.b p.j).view }) L24
move n me d m p L24 = return_to d m p
move n me d m p L30 = embed_to d m p
move n me d m p L31 = To d m (record p { c = p.c + 1 }) L32
move n me d m p L32 = To d (slice_set m (me - 1) (word_put d p)) p L33
move n me d m p L33 = Finish

-- the line at which an operation begins, and the line to which its embedded scan leads back
abbrev pub counter : Op → ProgramCounter
counter Scan = L10
counter (Update word value) = L30

abbrev pub back : ProgramCounter
back = L31

-- line 16 ends a double collect, line 19 starts another one, and line 32 writes
abbrev pub tests : ProgramCounter → ℕ
tests L16 = 1
tests _ = 0

abbrev pub restarts : ProgramCounter → Bool
restarts L19 = true
restarts _ = false

abbrev pub writes : ProgramCounter → ℕ
writes L32 = 1
writes _ = 0

pub entry_is : (op : Op) → number (counter op) ≡ entry listing_u op
entry_is Scan = refl
entry_is (Update word value) = refl

-- a word that nobody has written
abbrev pub first_word : ℕ → Word
first_word n = initial_word kind.Seq (square n)

abbrev pub first_variables : ℕ → Variables
first_variables n = record {
  j = 0;
  c = 0;
  moved = replicate (max n n) 0;
  a = replicate (max n n) (first_word n);
  b = replicate (max n n) (first_word n);
  s = replicate n 0;
}

-- the algorithm for n processes
abbrev pub algorithm : ℕ → Algorithm Variables ProgramCounter Words
algorithm n = record {
  source = listing_u;
  shape = square n;
  real = real;
  locals_of = locals_of;
  number = number;
  back = number back;
  move = move n;
  counter = counter;
  tests = tests;
  restarts = restarts;
  writes = writes;
  first_variables = first_variables n;
  first_memory = replicate n (first_word n);
  variables_is = refl;
  memory_is = refl;
  entry_is = entry_is;
}

-- which mode a line belongs to; the word of an update is the process's own
abbrev pub IsUpdate : ℕ → Mode → Type 0
IsUpdate me d = IsUpdateOf (λ word. word ≡ me) d

-- the lines of an update outside its scan
abbrev pub in_update : ProgramCounter → Bool
in_update k = nat_le 30 (number k)

abbrev pub IsLineOf : ℕ → Mode → ProgramCounter → Type 0
IsLineOf me d k = IsLine (λ word. word ≡ me) (in_update k) d

-- What the lines are for.

-- the scan returns its view
abbrev pub IsReturn : ProgramCounter → Type 0
IsReturn L22 = Unit {0}
IsReturn L24 = Unit {0}
IsReturn _ = ⊥

-- the view is made and not yet written
abbrev pub IsLate : ProgramCounter → Type 0
IsLate L31 = Unit {0}
IsLate L32 = Unit {0}
IsLate _ = ⊥

-- the writes of an update before a line
abbrev pub written : ProgramCounter → ℕ
written L33 = 1
written _ = 0

abbrev pub lines : Lines Variables ProgramCounter Words
lines = record {
  Kept = λ m m'. m' ≡ m;
  IsReturn = IsReturn;
  answer = λ p. p.s;
  IsWrite = λ k. k ≡ L32;
  IsLast = λ k. k ≡ L33;
  IsLate = IsLate;
  written = written;
}
