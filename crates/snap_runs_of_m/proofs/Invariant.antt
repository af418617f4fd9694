-- The invariant of M: what holds in every state of every run.
use Rattle.snap_runs.proofs.Computing.{either, lt_true, not_lt, same_number, other_number}
use Rattle.std.specs.Prelude.{◌≡◌, ◌≢◌, ℕ, suc, ◌+◌, ◌-◌, ◌<◌, ◌≤◌, max, Bool, true, false, Option, Some, None, List}
use Rattle.std.specs.Prelude.{length, nat_eq, nat_lt, if◌then◌else◌, slice_set, refl}
use Rattle.std.proofs.Common.{sym, ◌∙◌, ap, subst, arith, inl, inr}
use Rattle.std.proofs.lemmas.Bool.{cases_eq}
use Rattle.std.proofs.lemmas.Grind.{common_steps}
use Rattle.snap_runs.proofs.Common.{IsOneOf, Outcome}
use Rattle.snap_runs.proofs.Algorithm.{Idle, At, WhenBusy, when_busy, To, Begin, Answer, Finish, New, typed_at}
use Rattle.snap_runs.proofs.Algorithm.{changed, Mode, Scanning, Embedded, Updating}
use Rattle.snap_runs.proofs.Flow as flow
use Rattle.snap_runs.proofs.Frame as frame
use Rattle.snap_runs.proofs.Flow.{IsInScan}
use Rattle.snap_runs_of_m.proofs.Algorithm.{IsLate, lines, Registers, Control, Process, State, Move, Variables}
use Rattle.snap_runs_of_m.proofs.Algorithm.{ProgramCounter, L15, L16, L18, L20, L23, L26, L29, L30, L32, L33, L35, L36}
use Rattle.snap_runs_of_m.proofs.Algorithm.{L37, L50, L51, L52, L53, L54, L55, L56, L57, L58, place, bit, flip, move}
use Rattle.snap_runs_of_m.proofs.Algorithm.{first_to, return_to, embed_to, same_at, all_still, third_move, IsScan}
use Rattle.snap_runs_of_m.proofs.Algorithm.{IsUpdate, IsLineOf, algorithm}
use Rattle.snap_runs_of_m.proofs.Basics.{set_here, set_there}
use Rattle.snap_runs_of_m.proofs.Control.{ControlWell, Long}
use Rattle.snap_runs_of_m.proofs.History.{Since, Laws}
use Rattle.snap_runs_of_m.proofs.Collect.{events}
use Rattle.snap_runs_of_m.proofs.Stage.{Stage, IsQuiet, stage_kept}
use Rattle.snap_runs_of_m.proofs.Count.{Count}

-- In an update: whether process c is answered, how many views are put, and whether the toggle of word y is turned,
-- that are not yet followed by the write of the word.
abbrev pub answered_in : ProgramCounter → Variables → ℕ → Bool
answered_in L51 p c = nat_lt c p.j
answered_in L52 p c = nat_lt c p.j
answered_in L53 p c = nat_lt c (p.j + 1)
answered_in L54 p c = true
answered_in L55 p c = true
answered_in L56 p c = true
answered_in L57 p c = true
answered_in _ p c = false

abbrev pub answered_at : Mode → ProgramCounter → Variables → ℕ → Bool
answered_at Scanning k p c = false
answered_at (Embedded word arg) k p c = true
answered_at (Updating word arg) k p c = answered_in k p c

abbrev pub put_in : ProgramCounter → ℕ
put_in L56 = 1
put_in L57 = 1
put_in _ = 0

abbrev pub put_at : Mode → ProgramCounter → ℕ
put_at (Updating word arg) k = put_in k
put_at d k = 0

abbrev pub turned_in : ℕ → ProgramCounter → ℕ → Bool
turned_in word L57 y = nat_eq y word
turned_in word _ y = false

abbrev pub turned_at : Mode → ProgramCounter → ℕ → Bool
turned_at (Updating word arg) k y = turned_in word k y
turned_at d k y = false

abbrev pub IsMaking : Mode → ProgramCounter → Type 0
IsMaking = flow.IsMaking lines

abbrev pub HasWritten : Control → ℕ → Type 0
HasWritten = flow.HasWritten lines

-- what the counters of a process say of one another
pub record Settled (n w me : ℕ) (m : Registers) (tog : List ℕ) (answers put : ℕ → ℕ) (turns : ℕ → Bool) : Type 0 where
  pub answers_are : (c : ℕ) → IsOneOf n c → m.answers me c ≡ m.writes me + answers c
  pub puts_are : m.puts me ≡ m.writes me + put 0
  pub toggles_are : (y : ℕ) → IsOneOf w y → place tog y ≡ (if turns y then flip (m.toggles me y) else m.toggles me y)

-- What is so of the counters of a process at each line; `base` are the registers at the start of its last scan.
pub record Books (n w me : ℕ) (base m : Registers) (d : Mode) (p : Variables) (k : ProgramCounter) : Type 0 where
  pub settled : Settled n w me m p.tog (λ c. if answered_at d k p c then 1 else 0)
      (λ z. put_at d k) (λ y. turned_at d k y)
  -- a view is made by a scan that started when all handshakes had been answered
  pub made : IsMaking d k → (c : ℕ) → IsOneOf n c → m.writes me + 1 ≤ base.answers me c
  -- in a scan the process has no events
  pub self : IsInScan d → events base me me ≡ events m me me

-- between its operations
abbrev pub Rest : ℕ → ℕ → ℕ → Registers → List ℕ → Type 0
Rest n w me m tog = Settled n w me m tog (λ c. 0) (λ z. 0) (λ y. false)

abbrev pub BooksAt : ℕ → ℕ → ℕ → Registers → Registers → Variables → Control → Type 0
BooksAt n w me base m p Idle = Rest n w me m p.tog
BooksAt n w me base m p (At d k) = Books n w me base m d p k

-- what a line leaves, where it writes no register
abbrev pub BooksMove : ℕ → ℕ → ℕ → Registers → Registers → List ℕ → Move → Type 0
BooksMove n w me base m tog (To d m' p k) = Books n w me base m d p k
BooksMove n w me base m tog (Begin d p k) = Books n w me m m d p k
BooksMove n w me base m tog (Answer v) = Rest n w me m tog
BooksMove n w me base m tog Finish = Rest n w me m tog

-- the lines of a scan
pub books_scan : (n w me : ℕ) (base m : Registers) (d : Mode) (p p' : Variables) (k k' : ProgramCounter) →
    IsScan w d → p'.tog ≡ p.tog → Books n w me base m d p k → Books n w me base m d p' k'
books_scan n w me base m Scanning p p' k k' s same h = record {
  settled = subst (λ tog. Settled n w me m tog (λ c. 0) (λ z. 0) (λ y. false)) (sym same) h.settled;
  made = h.made;
  self = h.self;
}
books_scan n w me base m (Embedded y z) p p' k k' s same h = record {
  settled = subst (λ tog. Settled n w me m tog (λ c. 1) (λ z. 0) (λ y. false)) (sym same) h.settled;
  made = h.made;
  self = h.self;
}
books_scan n w me base m (Updating y z) p p' k k' s same h = absurd s

books_first : (n w me : ℕ) (base m m' : Registers) (d : Mode) (p : Variables) (o : Option ℕ) → IsScan w d →
    Books n w me base m d p L32 → BooksMove n w me base m p.tog (first_to d m' p o)
books_first n w me base m m' d p None s h = books_scan n w me base m d p p L32 L33 s refl h
books_first n w me base m m' d p (Some k) s h = books_scan n w me base m d p (record p { j = k }) L32 L36 s refl h

-- a scan returns
books_return : (n w me : ℕ) (base m m' : Registers) (d : Mode) (p : Variables) (k : ProgramCounter) → IsScan w d →
    Books n w me base m d p k → BooksMove n w me base m p.tog (return_to d m' p)
books_return n w me base m m' Scanning p k s h = h.settled
books_return n w me base m m' (Embedded y z) p k s h =
    record { settled = h.settled; made = h.made; self = λ inside. absurd inside }
books_return n w me base m m' (Updating y z) p k s h = absurd s

-- a line of an update that makes nothing and has written as often as the one before
books_update : (n w me word arg : ℕ) (base m : Registers) (p p' : Variables) (k k' : ProgramCounter) →
    ((c : ℕ) → IsOneOf n c → answered_in k' p' c ≡ answered_in k p c) → put_in k' ≡ put_in k →
    ((y : ℕ) → turned_in word k' y ≡ turned_in word k y) → (IsLate k' → ⊥) → p'.tog ≡ p.tog →
    Books n w me base m (Updating word arg) p k → Books n w me base m (Updating word arg) p' k'
books_update n w me word arg base m p p' k k' answered put turned late same h = record {
  settled = (let old = h.settled in record {
    answers_are = λ c o. old.answers_are c o ∙ ap (λ b. m.writes me + (if b then 1 else 0)) (sym (answered c o));
    puts_are = old.puts_are ∙ ap (λ v. m.writes me + v) (sym put);
    toggles_are =
        λ y o. ap (λ r. place r y) same ∙ old.toggles_are y o
        ∙ ap (λ b. if b then flip (m.toggles me y) else m.toggles me y) (sym (turned y));
  });
  made = λ making. absurd (late making);
  self = λ inside. absurd inside;
}

-- line 56 turns the toggle of its word
books_56 : (n w me word arg : ℕ) (base m : Registers) (p : Variables) → IsOneOf w word → Long n w p →
    Books n w me base m (Updating word arg) p L56 → Books n w me base m (Updating word arg)
    (record p { tog = slice_set p.tog (word - 1) (flip (place p.tog word)) }) L57
books_56 n w me word arg base m p one long h =
    let old = h.settled in
    let len : length p.tog ≡ max n w = long.tog in
    record {
      settled = record {
        answers_are = old.answers_are;
        puts_are = old.puts_are;
        toggles_are = λ y o. elim (cases_eq y word) [
          | inl same ↦ ap (place (slice_set p.tog (word - 1) (flip (place p.tog word)))) same
              ∙ set_here p.tog word (flip (place p.tog word)) one.0 (omega arith) ∙ ap flip (old.toggles_are word one)
              ∙ ap (λ v. flip (m.toggles me v)) (sym same)
              ∙ sym (ap (λ b. if b then flip (m.toggles me y) else m.toggles me y)
              (ap (nat_eq y) (sym same) ∙ same_number y))
          | inr other ↦ set_there p.tog word y (flip (place p.tog word)) one.0 o.0 other ∙ old.toggles_are y o
              ∙ sym (ap (λ b. if b then flip (m.toggles me y) else m.toggles me y) (other_number y word other))
        ];
      };
      made = λ making. absurd making;
      self = λ inside. absurd inside;
    }

books_embed : (n w me : ℕ) (base m m' : Registers) (d : Mode) (p : Variables) → IsUpdate w d →
    Books n w me base m d p L54 → BooksMove n w me base m p.tog (embed_to d m' p)
books_embed n w me base m m' (Updating y z) p s h =
    record {
      settled = h.settled;
      made = λ making c o. omega (arith, h.settled.answers_are c o);
      self = λ inside. refl;
    }
books_embed n w me base m m' d p s h = absurd s

none_before : (c : ℕ) → 0 < c → nat_lt c 1 ≡ false
none_before c pos = grind (arith, common_steps)

pub books_move : (n w me : ℕ) (base m m' : Registers) (d : Mode) (p : Variables) (k : ProgramCounter) →
    IsLineOf w d k → IsQuiet k → Long n w p →
    Books n w me base m d p k → BooksMove n w me base m p.tog (move n w me d m' p k)
books_move n w me base m m' d p L15 s quiet long h = absurd quiet
books_move n w me base m m' d p L16 s quiet long h =
    either (BooksMove n w me base m p.tog) (nat_lt p.j n) _ _ (λ t. books_scan n w me base m d p _ L16 _ s refl h)
    (λ t. books_scan n w me base m d p _ L16 _ s refl h)
books_move n w me base m m' d p L18 s quiet long h =
    either (BooksMove n w me base m p.tog) (nat_lt p.k w) _ _ (λ t. books_scan n w me base m d p _ L18 _ s refl h)
    (λ t. books_scan n w me base m d p _ L18 _ s refl h)
books_move n w me base m m' d p L20 s quiet long h =
    either (BooksMove n w me base m p.tog) (nat_lt p.k w) _ _ (λ t. books_scan n w me base m d p _ L20 _ s refl h)
    (λ t. books_scan n w me base m d p _ L20 _ s refl h)
books_move n w me base m m' d p L23 s quiet long h =
    either (BooksMove n w me base m p.tog) (nat_lt p.j n) _ _ (λ t. books_scan n w me base m d p _ L23 _ s refl h)
    (λ t. books_scan n w me base m d p _ L23 _ s refl h)
books_move n w me base m m' d p L26 s quiet long h =
    either (BooksMove n w me base m p.tog) (same_at p.a p.b p.k) _ _
    (λ t. books_scan n w me base m d p _ L26 _ s refl h) (λ t. books_scan n w me base m d p _ L26 _ s refl h)
books_move n w me base m m' d p L29 s quiet long h =
    either (BooksMove n w me base m p.tog) (nat_lt p.k w) _ _ (λ t. books_scan n w me base m d p _ L29 _ s refl h)
    (λ t. books_scan n w me base m d p _ L29 _ s refl h)
books_move n w me base m m' d p L30 s quiet long h =
    either (BooksMove n w me base m p.tog) (all_still n p) _ _ (λ t. books_scan n w me base m d p _ L30 _ s refl h)
    (λ t. books_scan n w me base m d p _ L30 _ s refl h)
books_move n w me base m m' d p L32 s quiet long h = books_first n w me base m m' d p (third_move n p) s h
books_move n w me base m m' d p L35 s quiet long h = books_return n w me base m m' d p L35 s h
books_move n w me base m m' d p L37 s quiet long h = books_return n w me base m m' d p L37 s h
books_move n w me base m m' (Updating y z) p L50 s quiet long h =
    books_update n w me y z base m p _ L50 L51 (λ c o. none_before c o.0) refl (λ v. refl) (λ l. l) refl h
books_move n w me base m m' (Updating y z) p L51 s quiet long h =
    books_update n w me y z base m p _ L51 L52 (λ c o. refl) refl (λ v. refl) (λ l. l) refl h
books_move n w me base m m' d p L52 s quiet long h = absurd quiet
books_move n w me base m m' (Updating y z) p L53 s quiet long h =
    either (BooksMove n w me base m p.tog) (nat_lt p.j n) _ _
    (λ t. books_update n w me y z base m p _ L53 L51 (λ c o. refl) refl (λ v. refl) (λ l. l) refl h)
    (λ t. let ge : n ≤ p.j = not_lt p.j n t in books_update n w me y z base m p _ L53 L54
    (λ c o. sym (lt_true c (p.j + 1) (omega (arith, o.1)))) refl (λ v. refl) (λ l. l) refl h)
books_move n w me base m m' d p L54 s quiet long h = books_embed n w me base m m' d p s h
books_move n w me base m m' d p L55 s quiet long h = absurd quiet
books_move n w me base m m' (Updating y z) p L56 s quiet long h = books_56 n w me y z base m p s long h
books_move n w me base m m' d p L57 s quiet long h = absurd quiet
books_move n w me base m m' (Updating y z) p L58 s quiet long h = h.settled
books_move n w me base m m' d p L50 s quiet long h = absurd s
books_move n w me base m m' d p L51 s quiet long h = absurd s
books_move n w me base m m' d p L53 s quiet long h = absurd s
books_move n w me base m m' d p L56 s quiet long h = absurd s
books_move n w me base m m' d p L58 s quiet long h = absurd s
books_move n w me base m m' d p k s quiet long h = books_scan n w me base m d p _ k _ s refl h

-- the process's own registers and counters stay
pub record Untouched (n w me : ℕ) (m m' : Registers) : Type 0 where
  pub asks : (c : ℕ) → IsOneOf n c → bit m'.q me c ≡ bit m.q me c
  pub writes : m'.writes me ≡ m.writes me
  pub answers : (c : ℕ) → IsOneOf n c → m'.answers me c ≡ m.answers me c
  pub puts : m'.puts me ≡ m.puts me
  pub toggles : (y : ℕ) → IsOneOf w y → m'.toggles me y ≡ m.toggles me y

pub untouched_same : (n w me : ℕ) (m m' : Registers) → m' ≡ m → Untouched n w me m m'
untouched_same n w me m m' e = subst (Untouched n w me m) (sym e) (record {
  asks = λ c o. refl;
  writes = refl;
  answers = λ c o. refl;
  puts = refl;
  toggles = λ y o. refl;
})

settled_kept : (n w me : ℕ) (m m' : Registers) (tog : List ℕ) (answers put : ℕ → ℕ) (turns : ℕ → Bool) →
    Untouched n w me m m' → Settled n w me m tog answers put turns → Settled n w me m' tog answers put turns
settled_kept n w me m m' tog answers put turns u h = record {
  answers_are = λ c o. u.answers c o ∙ h.answers_are c o ∙ ap (λ v. v + answers c) (sym u.writes);
  puts_are = u.puts ∙ h.puts_are ∙ ap (λ v. v + put 0) (sym u.writes);
  toggles_are = λ y o. h.toggles_are y o ∙ ap (λ v. if turns y then flip v else v) (sym (u.toggles y o));
}

pub books_kept : (n w me : ℕ) (base m m' : Registers) (d : Mode) (p : Variables) (k : ProgramCounter) → IsOneOf n me →
    Untouched n w me m m' → Books n w me base m d p k → Books n w me base m' d p k
books_kept n w me base m m' d p k one u h = record {
  settled = settled_kept n w me m m' p.tog _ _ _ u h.settled;
  made =
      λ making c o. omega (arith, h.made making c o, u.writes);
  self = λ inside. omega (arith, h.self inside, u.writes, u.answers me one);
}

books_at_kept : (n w me : ℕ) (base m m' : Registers) (p : Variables) (control : Control) → IsOneOf n me →
    Untouched n w me m m' → BooksAt n w me base m p control → BooksAt n w me base m' p control
books_at_kept n w me base m m' p Idle one u h = settled_kept n w me m m' p.tog _ _ _ u h
books_at_kept n w me base m m' p (At d k) one u h = books_kept n w me base m m' d p k one u h

-- a busy process is at the stage of its line
abbrev pub StageAt : ℕ → ℕ → ℕ → (ℕ → Registers) → ℕ → ℕ → ℕ → Variables → Control → Type 0
StageAt n w me history t since round p control = WhenBusy (λ d k. Stage n w me history t since round p k) control

abbrev pub CountAt : ℕ → ℕ → Variables → ℕ → ℕ → ℕ → Control → Type 0
CountAt n w p own c recent control = WhenBusy (λ d k. Count n w p own c recent k) control

-- What holds of process i, at whichever line it stands.
pub record ProcessInvariant (n w t : ℕ) (history : ℕ → Registers) (i : ℕ) (q : Process) : Type 0 where
  -- the process stands at a line of its mode, with the variables that the line asks for
  pub well : ControlWell n w q.variables q.control
  pub long : Long n w q.variables
  -- the last scan and its last double collect have started
  pub opened : q.auxiliary.since ≤ q.auxiliary.round
  pub round_le : q.auxiliary.round ≤ t
  -- the process has come as far as its line says
  pub stage : StageAt n w i history t q.auxiliary.since q.auxiliary.round q.variables q.control
  -- the scan's double collects and steps are within their bounds
  pub counts : CountAt n w q.variables q.auxiliary.own q.auxiliary.collects q.auxiliary.tested q.control
  -- an update has written once at line 58, and not before
  pub wrote : HasWritten q.control q.auxiliary.wrote
  -- the counters are as the line of the process says
  pub books : BooksAt n w i (history q.auxiliary.since) (history t) q.variables q.control

pub record Invariant (n w t : ℕ) (history : ℕ → Registers) (x : State) : Type 0 where
  pub laws : (u : ℕ) → u ≤ t → Laws n w history u
  pub each : (i : ℕ) → IsOneOf n i → ProcessInvariant n w t history i (typed_at (algorithm n w) x i)

-- time passes and other processes act
pub own_kept : (n w t : ℕ) (history : ℕ → Registers) (i : ℕ) (q : Process) → IsOneOf n i → Since n w history t (suc t) →
    Untouched n w i (history t) (history (suc t)) →
    ProcessInvariant n w t history i q → ProcessInvariant n w (suc t) history i q
own_kept n w t history i q one s u h = record {
  well = h.well;
  long = h.long;
  opened = h.opened;
  round_le = omega (arith, h.round_le);
  stage =
      when_busy _ _ (λ d k. stage_kept n w i history t q.auxiliary.since q.auxiliary.round q.variables k one s
      (record { asks = u.asks; writes = u.writes })) q.control h.stage;
  counts = h.counts;
  wrote = h.wrote;
  books =
      books_at_kept n w i (history q.auxiliary.since) (history t) (history (suc t)) q.variables q.control one u h.books;
}

-- nothing happens
pub inv_later : (n w t : ℕ) (history : ℕ → Registers) (x : State) →
    Laws n w history (suc t) → history (suc t) ≡ history t →
    ((u : ℕ) → u ≤ suc t → Laws n w history u) → Invariant n w t history x → Invariant n w (suc t) history x
inv_later n w t history x next same laws h = record {
  laws = laws;
  each =
      λ i one. own_kept n w t history i (typed_at (algorithm n w) x i) one (next.since t (omega arith))
      (untouched_same n w i (history t) (history (suc t)) same) (h.each i one);
}

-- one process changes
pub put_inv : (n w t : ℕ) (history : ℕ → Registers) (x : State) (i : ℕ) (m' : Registers) (q' : Process)
    (o : Outcome) → length x.processes ≡ n → IsOneOf n i → ((u : ℕ) → u ≤ suc t → Laws n w history u) →
    ((k : ℕ) → IsOneOf n k → k ≢ i → Untouched n w k (history t) (history (suc t))) → Invariant n w t history x →
    ProcessInvariant n w (suc t) history i q' → Invariant n w (suc t) history (changed x i (New m' q' o))
put_inv n w t history x i m' q' o count one laws untouched h own =
    record {
      laws = laws;
      each =
          frame.each_next (algorithm n w) x i m' q' o count one (ProcessInvariant n w (suc t) history) own (λ k j other.
          own_kept n w t history k (typed_at (algorithm n w) x k) j
          ((laws (suc t) (omega arith)).since t (omega arith)) (untouched k j other) (h.each k j));
    }
