-- The processes of M by its own lines and locals, over a memory that counts what is done.
use Rattle.std.proofs.Common.{◌≡◌, ◌<◌, ℕ, ◌+◌, ◌-◌, ◌≤◌, max, Bool, true, false, not, ◌&&◌, List, [], ◌∷◌, take}
use Rattle.std.proofs.Common.{map, Option, Some, None, nat_eq, nat_lt, nat_le, if◌then◌else◌, slice_index}
use Rattle.std.proofs.Common.{slice_index_or, slice_set, replicate, refl, ap}
use Rattle.snap_words.specs.Kind.{initial_word}
use Rattle.snap_runs.proofs.Common.{Counts, IsOneOf, Word, Op, Scan, Update, places_to, all_true, first_true}
use Rattle.snap_words.specs.declared.kind.KindTag.TheVariants as kind
use Rattle.snap_semantics.specs.State.{Locals, Memory}
use Rattle.snap_semantics.specs.Value.{Context}
use Rattle.snap_semantics.specs.Table.{bit_at, with_bit_at, entry}
use Rattle.snap_runs.proofs.Held.{word_at, seq_at}
use Rattle.snap_runs.proofs.Algorithm as typed
use Rattle.snap_runs.proofs.Algorithm.{Mode, Scanning, Embedded, Updating, value_of, To, Finish}
use Rattle.snap_runs.proofs.Algorithm.{Algorithm, returning, embedding}
use Rattle.snap_runs.proofs.Flow.{Lines, IsScanOf, IsUpdateOf, IsLine}
use Rattle.snap_runs.proofs.Places.{for_each}
use Rattle.snap_runs.proofs.Embedding.{map_same}
use Rattle.snap_runs_of_m.specs.ListingM as names
use Rattle.snap_runs_of_m.specs.ListingM.{listing_m}
use Rattle.snap_runs_of_m.specs.Promises.{counts}

pub data ProgramCounter : Type 0 where
  L10 : ProgramCounter
  L11 : ProgramCounter
  L12 : ProgramCounter
  L13 : ProgramCounter
  L14 : ProgramCounter
  L15 : ProgramCounter
  L16 : ProgramCounter
  L17 : ProgramCounter
  L18 : ProgramCounter
  L19 : ProgramCounter
  L20 : ProgramCounter
  L21 : ProgramCounter
  L22 : ProgramCounter
  L23 : ProgramCounter
  L24 : ProgramCounter
  L25 : ProgramCounter
  L26 : ProgramCounter
  L27 : ProgramCounter
  L28 : ProgramCounter
  L29 : ProgramCounter
  L30 : ProgramCounter
  L31 : ProgramCounter
  L32 : ProgramCounter
  L33 : ProgramCounter
  L34 : ProgramCounter
  L35 : ProgramCounter
  L36 : ProgramCounter
  L37 : ProgramCounter
  L50 : ProgramCounter
  L51 : ProgramCounter
  L52 : ProgramCounter
  L53 : ProgramCounter
  L54 : ProgramCounter
  L55 : ProgramCounter
  L56 : ProgramCounter
  L57 : ProgramCounter
  L58 : ProgramCounter

abbrev pub number : ProgramCounter → ℕ
number L10 = 10
number L11 = 11
number L12 = 12
number L13 = 13
number L14 = 14
number L15 = 15
number L16 = 16
number L17 = 17
number L18 = 18
number L19 = 19
number L20 = 20
number L21 = 21
number L22 = 22
number L23 = 23
number L24 = 24
number L25 = 25
number L26 = 26
number L27 = 27
number L28 = 28
number L29 = 29
number L30 = 30
number L31 = 31
number L32 = 32
number L33 = 33
number L34 = 34
number L35 = 35
number L36 = 36
number L37 = 37
number L50 = 50
number L51 = 51
number L52 = 52
number L53 = 53
number L54 = 54
number L55 = 55
number L56 = 56
number L57 = 57
number L58 = 58

abbrev pub Words : Type 0
Words = List Word

abbrev pub Bits : Type 0
Bits = List (List ℕ)

-- The registers, and what the proof counts beside them. A word of M has no sequence number, so here its part `seq`
-- counts the writes of that word.
pub record Registers : Type 0 where
  pub words : Words
  pub q : Bits
  pub p : Bits
  pub views : List (List ℕ)
  -- how often a process has written a word, answered another one's handshake, and put its view
  pub writes : ℕ → ℕ
  pub answers : ℕ → ℕ → ℕ
  pub puts : ℕ → ℕ
  -- the toggle that a process last wrote to a word
  pub toggles : ℕ → ℕ → ℕ

-- a word as the machine has it
abbrev pub plain : Word → Word
plain x = record { datum = x.datum; seq = 0; id = x.id; toggle = x.toggle; handshakes = []; view = [] }

abbrev pub real : Registers → Memory
real m = record { words = map plain m.words; q = m.q; p = m.p; views = m.views }

-- the locals of M
pub record Variables : Type 0 where
  pub j : ℕ
  pub k : ℕ
  pub x : ℕ
  pub moved : List ℕ
  pub g : List ℕ
  pub h : List ℕ
  pub d : List ℕ
  pub tog : List ℕ
  pub a : Words
  pub b : Words
  pub s : List ℕ

abbrev pub locals_of : Variables → Locals
locals_of p = record {
  scalars = (names.j, p.j) ∷ (names.k, p.k) ∷ (names.x, p.x) ∷ [];
  rows = (names.moved, p.moved) ∷ (names.g, p.g) ∷ (names.h, p.h) ∷ (names.d, p.d) ∷ (names.tog, p.tog) ∷ [];
  words = (names.a, map plain p.a) ∷ (names.b, map plain p.b) ∷ [];
  views = (names.s, p.s) ∷ [];
}

abbrev pub context_of : Counts → ℕ → Op → Variables → Context
context_of shape me op p = record { shape = shape; me = me; op = op; locals = locals_of p; place = 0 }

-- the word of an update, and 0 in a scan
abbrev pub word_of : Mode → ℕ
word_of Scanning = 0
word_of (Embedded word arg) = word
word_of (Updating word arg) = word

-- the algorithm's types
abbrev pub Move : Type 0
Move = typed.Move Variables ProgramCounter Registers

abbrev pub Control : Type 0
Control = typed.Control ProgramCounter

abbrev pub Process : Type 0
Process = typed.TypedProcess Variables ProgramCounter Registers

abbrev pub State : Type 0
State = typed.TypedState Variables ProgramCounter Registers

abbrev pub Change : Type 0
Change = typed.Change Variables ProgramCounter Registers

-- place k of a row, the bit of two processes, and the view of one
abbrev pub place : List ℕ → ℕ → ℕ
place row k = slice_index row (k - 1)

abbrev pub bit : Bits → ℕ → ℕ → ℕ
bit rows i j = bit_at rows (i - 1) (j - 1)

abbrev pub with_bit : Bits → ℕ → ℕ → ℕ → Bits
with_bit rows i j x = with_bit_at rows (i - 1) (j - 1) x

abbrev pub view_at : List (List ℕ) → ℕ → List ℕ
view_at views i = slice_index_or views (i - 1) []

abbrev pub flip : ℕ → ℕ
flip x = if nat_eq x 0 then 1 else 0

-- one more at a process, at a pair of processes; another value at a process and a word
abbrev pub raised : (ℕ → ℕ) → ℕ → ℕ → ℕ
raised f i y = if nat_eq y i then f y + 1 else f y

abbrev pub raised_at : (ℕ → ℕ → ℕ) → ℕ → ℕ → ℕ → ℕ → ℕ
raised_at f i j y z = if nat_eq y i && nat_eq z j then f y z + 1 else f y z

abbrev pub with_at : (ℕ → ℕ → ℕ) → ℕ → ℕ → ℕ → ℕ → ℕ → ℕ
with_at f i k x y z = if nat_eq y i && nat_eq z k then x else f y z

-- both copies of the word at place k have the same id and toggle
abbrev pub same_words : Word → Word → Bool
same_words x y = nat_eq x.id y.id && nat_eq x.toggle y.toggle

abbrev pub same_at : Words → Words → ℕ → Bool
same_at a b k = same_words (word_at a k) (word_at b k)

-- lines 16, 23 and 53, and lines 18, 20 and 29
abbrev pub next_j : ℕ → Mode → Registers → Variables → ProgramCounter → ProgramCounter → Move
next_j n d m p back on = if nat_lt p.j n then To d m (record p { j = p.j + 1 }) back else To d m (record p { j = 1 }) on

abbrev pub next_k : ℕ → Mode → Registers → Variables → ProgramCounter → ProgramCounter → Move
next_k w d m p back on = if nat_lt p.k w then To d m (record p { k = p.k + 1 }) back else To d m (record p { k = 1 }) on

-- lines 35 and 37
abbrev pub return_to : Mode → Registers → Variables → Move
return_to d m p = returning p.s L55 d m p

-- line 54
abbrev pub embed_to : Mode → Registers → Variables → Move
embed_to d m p = embedding L10 d p

-- the number of moves of one process that a scan has to see before it borrows a view, and the line that borrows it
abbrev pub limit : ℕ
limit = 3

abbrev pub borrows : ProgramCounter
borrows = L36

-- line 32
abbrev pub first_to : Mode → Registers → Variables → Option ℕ → Move
first_to d m p None = To d m p L33
first_to d m p (Some k) = To d m (record p { j = k }) borrows

-- what line 25 leaves at place c of row d: 1 where the bit that was read late differs
abbrev pub marked : Variables → ℕ → ℕ
marked p c = if not (nat_eq (place p.h c) (place p.g c)) then 1 else place p.d c

-- the moves of process c once line 31 has counted them
abbrev pub counted : Variables → ℕ → ℕ
counted p c = if nat_eq (place p.d c) 1 then place p.moved c + 1 else place p.moved c

abbrev pub all_still : ℕ → Variables → Bool
all_still n p = all_true (map (λ c. nat_eq (place p.d c) 0) (places_to n))

abbrev pub at_limit : Variables → ℕ → Bool
at_limit p c = nat_eq (place p.moved c) limit

abbrev pub third_move : ℕ → Variables → Option ℕ
third_move n p = first_true 1 (map (at_limit p) (places_to n))

-- what an update writes: its value with the process's number and toggle
abbrev pub written : ℕ → Mode → Registers → Variables → Word
written me d m p = record { datum = value_of d; seq = seq_at m.words (word_of d) + 1; id = me; toggle = place p.tog (word_of d); handshakes = []; view = [] }

-- the lines that write registers
abbrev pub after_15 : ℕ → Registers → Variables → Registers
after_15 me m p = record m { q = with_bit m.q me p.j p.x }

abbrev pub after_52 : ℕ → Registers → Variables → Registers
after_52 me m p = record m { p = with_bit m.p me p.j (flip p.x); answers = raised_at m.answers me p.j }

abbrev pub after_55 : ℕ → Registers → Variables → Registers
after_55 me m p = record m { views = slice_set m.views (me - 1) p.s; puts = raised m.puts me }

abbrev pub after_57 : ℕ → Mode → Registers → Variables → Registers
after_57 me d m p = record m {
  words = slice_set m.words (word_of d - 1) (written me d m p);
  writes = raised m.writes me;
  toggles = with_at m.toggles me (word_of d) (place p.tog (word_of d));
}

-- the algorithm, line by line
abbrev pub move : ℕ → ℕ → ℕ → Mode → Registers → Variables → ProgramCounter → Move
move n w me d m p L10 = To d m (record p { moved = for_each n (λ c. 0) p.moved }) L11
move n w me d m p L11 = To d m (record p { j = 1 }) L12
move n w me d m p L12 = To d m (record p { k = 1 }) L13
move n w me d m p L13 = To d m (record p { x = bit m.p p.j me }) L14
move n w me d m p L14 = To d m (record p { g = slice_set p.g (p.j - 1) p.x }) L15
move n w me d m p L15 = To d (after_15 me m p) p L16
move n w me d m p L16 = next_j n d m p L13 L17
move n w me d m p L17 = To d m (record p { a = slice_set p.a (p.k - 1) (word_at m.words p.k) }) L18
move n w me d m p L18 = next_k w d m p L17 L19
move n w me d m p L19 = To d m (record p { b = slice_set p.b (p.k - 1) (word_at m.words p.k) }) L20
move n w me d m p L20 = next_k w d m p L19 L21
move n w me d m p L21 = To d m (record p { x = bit m.p p.j me }) L22
move n w me d m p L22 = To d m (record p { h = slice_set p.h (p.j - 1) p.x }) L23
move n w me d m p L23 = next_j n d m p L21 L24
move n w me d m p L24 = To d m (record p { d = for_each n (λ c. 0) p.d }) L25
move n w me d m p L25 = To d m (record p { d = for_each n (marked p) p.d }) L26
move n w me d m p L26 = if same_at p.a p.b p.k then To d m p L29 else To d m p L27
move n w me d m p L27 = To d m (record p { x = (word_at p.b p.k).id }) L28
move n w me d m p L28 = To d m (record p { d = slice_set p.d (p.x - 1) 1 }) L29
move n w me d m p L29 = next_k w d m p L26 L30
move n w me d m p L30 = if all_still n p then To d m p L34 else To d m p L31
move n w me d m p L31 = To d m (record p { moved = for_each n (counted p) p.moved }) L32
move n w me d m p L32 = first_to d m p (third_move n p)
move n w me d m p L33 = To d m p L13
move n w me d m p L34 = To d m (record p { s = map (λ (r : Word). r.datum) (take w (map plain p.b)) }) L35
move n w me d m p L35 = return_to d m p
move n w me d m p L36 = To d m (record p { s = view_at m.views p.j }) L37
move n w me d m p L37 = return_to d m p
move n w me d m p L50 = To d m (record p { j = 1 }) L51
move n w me d m p L51 = To d m (record p { x = bit m.q p.j me }) L52
move n w me d m p L52 = To d (after_52 me m p) p L53
move n w me d m p L53 = next_j n d m p L51 L54
move n w me d m p L54 = embed_to d m p
move n w me d m p L55 = To d (after_55 me m p) p L56
move n w me d m p L56 = To d m (record p { tog = slice_set p.tog (word_of d - 1) (flip (place p.tog (word_of d))) }) L57
move n w me d m p L57 = To d (after_57 me d m p) p L58
move n w me d m p L58 = Finish

-- which mode a line belongs to; the word of an update is one of the words
abbrev pub IsScan : ℕ → Mode → Type 0
IsScan w d = IsScanOf (IsOneOf w) d

abbrev pub IsUpdate : ℕ → Mode → Type 0
IsUpdate w d = IsUpdateOf (IsOneOf w) d

-- what a line needs so that it does not trap
abbrev pub Needs : ℕ → ℕ → ℕ → Mode → Variables → ProgramCounter → Type 0
Needs n w me d p L13 = IsOneOf n p.j × IsOneOf n me
Needs n w me d p L14 = IsOneOf n p.j
Needs n w me d p L15 = IsOneOf n p.j × IsOneOf n me × (p.x ≤ 1)
Needs n w me d p L17 = IsOneOf w p.k
Needs n w me d p L19 = IsOneOf w p.k
Needs n w me d p L21 = IsOneOf n p.j × IsOneOf n me
Needs n w me d p L22 = IsOneOf n p.j
Needs n w me d p L26 = IsOneOf w p.k
Needs n w me d p L27 = IsOneOf w p.k
Needs n w me d p L28 = IsOneOf n p.x
Needs n w me d p L31 = (c : ℕ) → IsOneOf n c → place p.moved c < limit
Needs n w me d p L36 = IsOneOf n p.j
Needs n w me d p L51 = IsOneOf n p.j × IsOneOf n me
Needs n w me d p L52 = IsOneOf n p.j × IsOneOf n me
Needs n w me d p L55 = IsOneOf n me
Needs n w me d p L56 = IsOneOf w (word_of d)
Needs n w me d p L57 = IsOneOf w (word_of d) × (place p.tog (word_of d) ≤ 1)
Needs n w me d p _ = Unit {0}

-- the lines of an update outside its scan
abbrev pub in_update : ProgramCounter → Bool
in_update k = nat_le 50 (number k)

abbrev pub IsLineOf : ℕ → Mode → ProgramCounter → Type 0
IsLineOf w d k = IsLine (IsOneOf w) (in_update k) d

-- the line at which an operation begins, and the line to which its embedded scan leads back
abbrev pub counter : Op → ProgramCounter
counter Scan = L10
counter (Update word arg) = L50

abbrev pub back : ProgramCounter
back = L55

-- line 30 ends a double collect, line 33 starts another one, and line 57 writes
abbrev pub tests : ProgramCounter → ℕ
tests L30 = 1
tests _ = 0

abbrev pub restarts : ProgramCounter → Bool
restarts L33 = true
restarts _ = false

abbrev pub writes : ProgramCounter → ℕ
writes L57 = 1
writes _ = 0

abbrev pub entry_is : (op : Op) → number (counter op) ≡ entry listing_m op
entry_is Scan = refl
entry_is (Update word arg) = refl

-- a word that nobody has written
abbrev pub first_word : Word
first_word = initial_word kind.Multi (counts 0 0)

abbrev pub first_variables : ℕ → ℕ → Variables
first_variables n w = record {
  j = 0;
  k = 0;
  x = 0;
  moved = replicate (max n w) 0;
  g = replicate (max n w) 0;
  h = replicate (max n w) 0;
  d = replicate (max n w) 0;
  tog = replicate (max n w) 0;
  a = replicate (max n w) first_word;
  b = replicate (max n w) first_word;
  s = replicate w 0;
}

abbrev pub first_memory : ℕ → ℕ → Registers
first_memory n w = record {
  words = replicate w first_word;
  q = replicate n (replicate n 0);
  p = replicate n (replicate n 0);
  views = replicate n (replicate w 0);
  writes = λ c. 0;
  answers = λ c i. 0;
  puts = λ c. 0;
  toggles = λ c k. 0;
}

abbrev pub locals_with : ℕ → ℕ → Words → Locals
locals_with n w copies =
    let row : List ℕ = replicate (max n w) 0 in
    record {
      scalars = (names.j, 0) ∷ (names.k, 0) ∷ (names.x, 0) ∷ [];
      rows = (names.moved, row) ∷ (names.g, row) ∷ (names.h, row) ∷ (names.d, row) ∷ (names.tog, row) ∷ [];
      words = (names.a, copies) ∷ (names.b, copies) ∷ [];
      views = (names.s, replicate w 0) ∷ [];
    }

abbrev pub memory_with : ℕ → ℕ → Words → Memory
memory_with n w words = record {
  words = words;
  q = replicate n (replicate n 0);
  p = replicate n (replicate n 0);
  views = replicate n (replicate w 0);
}

-- the algorithm for n processes and w words
abbrev pub algorithm : ℕ → ℕ → Algorithm Variables ProgramCounter Registers
algorithm n w = record {
  source = listing_m;
  shape = counts n w;
  real = real;
  locals_of = locals_of;
  number = number;
  back = number back;
  move = move n w;
  counter = counter;
  tests = tests;
  restarts = restarts;
  writes = writes;
  first_variables = first_variables n w;
  first_memory = first_memory n w;
  variables_is = ap (λ (ws : Words). locals_with n w ws) (map_same plain (max n w) first_word);
  memory_is = ap (λ (ws : Words). memory_with n w ws) (map_same plain w first_word);
  entry_is = entry_is;
}

-- What the lines are for.

-- the scan returns its view
abbrev pub IsReturn : ProgramCounter → Type 0
IsReturn L35 = Unit {0}
IsReturn L37 = Unit {0}
IsReturn _ = ⊥

-- the view is made and not yet put
abbrev pub IsLate : ProgramCounter → Type 0
IsLate L55 = Unit {0}
IsLate _ = ⊥

-- the writes of an update before a line
abbrev pub written_at : ProgramCounter → ℕ
written_at L58 = 1
written_at _ = 0

abbrev pub lines : Lines Variables ProgramCounter Registers
lines = record {
  Kept = λ m m'. m'.words ≡ m.words;
  IsReturn = IsReturn;
  answer = λ p. p.s;
  IsWrite = λ k. k ≡ L57;
  IsLast = λ k. k ≡ L58;
  IsLate = IsLate;
  written = written_at;
}
