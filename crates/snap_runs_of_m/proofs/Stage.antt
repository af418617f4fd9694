-- How far a scan of M has come at each line, and that each line takes it on.
use Rattle.snap_runs.proofs.Places.{for_each_at, first_found, all_pass}
use Rattle.snap_runs.proofs.Computing.{either, other_number, same_from, not_lt}
use Rattle.std.specs.Prelude.{◌≡◌, ◌≢◌, ℕ, suc, ◌+◌, ◌-◌, ◌<◌, ◌≤◌, Bool, true, false, not, List, take, length}
use Rattle.std.specs.Prelude.{map, Option, Some, None, nat_eq, nat_lt, if◌then◌else◌, slice_set, refl}
use Rattle.std.proofs.Common.{sym, ◌∙◌, ap, subst, arith, inl, inr}
use Rattle.std.proofs.lemmas.Bool.{cases_eq}
use Rattle.snap_runs.proofs.Common.{IsOneOf, Word}
use Rattle.snap_runs.proofs.Algorithm.{To, Begin, Answer, Finish, Mode, Updating}
use Rattle.snap_runs.proofs.Held.{word_at, Held, held_wider}
use Rattle.snap_runs.proofs.Plain.{plain_taken}
use Rattle.snap_runs_of_m.proofs.Algorithm.{Words, Registers, Move, Variables, ProgramCounter, L10, L11, L12, L13, L14}
use Rattle.snap_runs_of_m.proofs.Algorithm.{L15, L16, L17, L18, L19, L20, L21, L22, L23, L24, L25, L26, L27, L28, L29}
use Rattle.snap_runs_of_m.proofs.Algorithm.{L30, L31, L32, L33, L34, L35, L36, L37, L50, L51, L52, L53, L54, L55, L56}
use Rattle.snap_runs_of_m.proofs.Algorithm.{L57, L58, plain, place, bit, view_at, move, first_to, same_at, marked}
use Rattle.snap_runs_of_m.proofs.Algorithm.{counted, all_still, third_move, limit, at_limit, restarts, IsLineOf}
use Rattle.snap_runs_of_m.proofs.Basics.{other_from, set_here, set_there}
use Rattle.snap_runs_of_m.proofs.Control.{Keeps, Long}
use Rattle.snap_runs_of_m.proofs.History.{words_of, Since, Laws}
use Rattle.snap_runs_of_m.proofs.Collect.{events, ReadBit, Collected, collected_starts, collected_as, collected_kept}
use Rattle.snap_runs_of_m.proofs.Collect.{ended_kept, asked_row, asked_more, first_more, second_more, late_more}
use Rattle.snap_runs_of_m.proofs.Collect.{seen_by_words, seen_by_bits, passed, borrowed_put, borrowed, read_until}

-- The moves that the scan has seen are events since its start: up to its last double collect's start, and up to now.
abbrev pub Low : ℕ → ℕ → (ℕ → Registers) → ℕ → ℕ → List ℕ → Type 0
Low n me history since round moved =
    (c : ℕ) → IsOneOf n c → events (history since) c me + place moved c ≤ events (history round) c me

-- What row d says at lines 26 to 31, where the words before k are compared.
pub record Row (n w me : ℕ) (history : ℕ → Registers) (round t : ℕ) (g h d : List ℕ)
    (a b : Words) (k : ℕ) : Type 0 where
  pub bits : (c : ℕ) → IsOneOf n c → place d c ≤ 1
  -- a process whose late bit differs is marked, and so is the writer of a word that differs
  pub shown : (c : ℕ) → IsOneOf n c → place h c ≢ place g c → place d c ≡ 1
  pub words : (y : ℕ) → IsOneOf w y → y < k → same_at a b y ≡ false → place d (word_at b y).id ≡ 1
  -- a process that is marked has had an event since the double collect started
  pub moved : (c : ℕ) → IsOneOf n c → place d c ≡ 1 → events (history round) c me < events (history t) c me

-- whose handshake bit an update read at line 51, in the same update
pub record Seen (history : ℕ → Registers) (t me : ℕ) (p : Variables) : Type 0 where
  pub at : ℕ
  pub until : at ≤ t
  pub is : p.x ≡ bit (history at).q p.j me
  pub same : (history at).writes me ≡ (history t).writes me

-- a process has put this view after it had answered one that came later than all that it
-- had answered at the scan's start
pub record Shown (n me : ℕ) (history : ℕ → Registers) (t since : ℕ) (view : List ℕ) : Type 0 where
  pub lender : ℕ
  pub inside : IsOneOf n lender
  pub time : ℕ
  pub after : since ≤ time
  pub before : time ≤ t
  pub put : (history since).answers lender me < (history time).puts lender
  pub is : view_at (history time).views lender ≡ view

module _ (n w me : ℕ) (history : ℕ → Registers) (round t : ℕ) (p : Variables) where
  abbrev pub Gathered : ℕ → ℕ → ℕ → ℕ → Type 0
  Gathered asked first second late = Collected n w me history round t p.g p.a p.b p.h asked first second late

  abbrev pub Marks : ℕ → Type 0
  Marks k = Row n w me history round t p.g p.h p.d p.a p.b k

module _ (n w me : ℕ) (history : ℕ → Registers) (t since round : ℕ) where
  -- the moves that the scan had seen before its double collect, and how far that has come, up to all of it
  abbrev pub Before : Variables → Type 0
  Before p = Low n me history since round p.moved

  abbrev pub Comes : Variables → ℕ → ℕ → ℕ → ℕ → Type 0
  Comes p = Gathered n w me history round t p

  abbrev pub Full : Variables → Type 0
  Full p = Comes p (n + 1) (w + 1) (w + 1) (n + 1)

  abbrev pub Stage : Variables → ProgramCounter → Type 0
  Stage p L11 = Before p
  Stage p L12 = Before p
  Stage p L13 = Before p × Comes p p.j 1 1 1
  Stage p L14 = Before p × Comes p p.j 1 1 1 × ReadBit history round t me p.j p.x
  Stage p L15 = Before p × Comes p p.j 1 1 1 × ReadBit history round t me p.j p.x × (place p.g p.j ≡ p.x)
  Stage p L16 = Before p × Comes p (p.j + 1) 1 1 1
  Stage p L17 = Before p × Comes p (n + 1) p.k 1 1
  Stage p L18 = Before p × Comes p (n + 1) (p.k + 1) 1 1
  Stage p L19 = Before p × Comes p (n + 1) (w + 1) p.k 1
  Stage p L20 = Before p × Comes p (n + 1) (w + 1) (p.k + 1) 1
  Stage p L21 = Before p × Comes p (n + 1) (w + 1) (w + 1) p.j
  Stage p L22 = Before p × (x : Comes p (n + 1) (w + 1) (w + 1) p.j) × ReadBit history x.ended t me p.j p.x
  Stage p L23 = Before p × Comes p (n + 1) (w + 1) (w + 1) (p.j + 1)
  Stage p L24 = Before p × Full p
  Stage p L25 = Before p × Full p × ((c : ℕ) → IsOneOf n c → place p.d c ≡ 0)
  Stage p L26 = Before p × Full p × Marks n w me history round t p p.k
  Stage p L27 = Before p × Full p × Marks n w me history round t p p.k × (same_at p.a p.b p.k ≡ false)
  Stage p L28 =
      Before p × Full p × Marks n w me history round t p p.k × (same_at p.a p.b p.k ≡ false)
      × (p.x ≡ (word_at p.b p.k).id)
  Stage p L29 = Before p × Full p × Marks n w me history round t p (p.k + 1)
  Stage p L30 = Before p × Full p × Marks n w me history round t p (w + 1)
  Stage p L31 = Before p × Full p × Marks n w me history round t p (w + 1)
  Stage p L32 = Low n me history since t p.moved
  Stage p L33 = Low n me history since t p.moved
  Stage p L34 = Held (words_of history) t since (map (λ (r : Word). r.datum) (take w (map plain p.b)))
  Stage p L35 = Held (words_of history) t since p.s
  Stage p L36 = Low n me history since t p.moved × (place p.moved p.j ≡ limit)
  Stage p L37 = Held (words_of history) t since p.s × Shown n me history t since p.s
  Stage p L52 = Seen history t me p
  Stage p L55 = Held (words_of history) t since p.s
  Stage p _ = Unit {0}

  -- What a line leaves is the stage of the next one; a scan's answer was held since its start.
  abbrev pub StageMove : Move → Type 0
  StageMove (To d m p k) = Stage p k
  StageMove (Begin d p k) = k ≡ L10
  StageMove (Answer v) = Held (words_of history) t since v
  StageMove Finish = Unit {0}

-- a line that writes no register
abbrev pub IsQuiet : ProgramCounter → Type 0
IsQuiet L15 = ⊥
IsQuiet L52 = ⊥
IsQuiet L55 = ⊥
IsQuiet L57 = ⊥
IsQuiet _ = Unit {0}

-- what is known of every process, at whichever line it stands
pub record Known (n w me : ℕ) (history : ℕ → Registers) (t since round : ℕ) (m : Registers) (d : Mode) (p : Variables)
    (k : ProgramCounter) : Type 0 where
  pub one : IsOneOf n me
  pub some : 0 < w
  pub laws : (u : ℕ) → u ≤ t → Laws n w history u
  pub now : history t ≡ m
  pub opened : since ≤ round
  pub round_le : round ≤ t
  pub long : Long n w p
  pub line : IsLineOf w d k
  pub keeps : Keeps n w d p k
  pub quiet : IsQuiet k

module _ (n w me : ℕ) (history : ℕ → Registers) (t since round : ℕ) (d : Mode) (m : Registers) (p : Variables) where
  stage_first : (o : Option ℕ) → Low n me history since t p.moved → ((k : ℕ) → o ≡ Some k → place p.moved k ≡ limit) →
      StageMove n w me history t since round (first_to d m p o)
  stage_first None h f = h
  stage_first (Some k) h f = (h, f k refl)

-- a bit that is read now
reads_now : (history : ℕ → Registers) (from t me c : ℕ) (m : Registers) → history t ≡ m → from ≤ t →
    ReadBit history from t me c (bit m.p c me)
reads_now history from t me c m now le =
    record { at = t; after = le; until = omega arith; is = ap (λ (x : Registers). bit x.p c me) (sym now) }

marked_le : (b : Bool) (v : ℕ) → v ≡ 0 → (if not b then 1 else v) ≤ 1
marked_le true v e = omega arith
marked_le false v e = omega arith

marked_then : (b : Bool) (v : ℕ) → v ≡ 0 → (if not b then 1 else v) ≡ 1 → b ≡ false
marked_then true v e f = absurd (omega arith)
marked_then false v e f = refl

module _ (n w me : ℕ) (history : ℕ → Registers) (round t : ℕ) where
  -- line 25 marks the processes whose late bits differ
  row_starts : (p : Variables) → IsOneOf n me → ((u : ℕ) → u ≤ t → Laws n w history u) → round ≤ t →
      Gathered n w me history round t p (n + 1) (w + 1) (w + 1) (n + 1) → ((c : ℕ) → IsOneOf n c → place p.d c ≡ 0) →
      (row : List ℕ) → ((c : ℕ) → IsOneOf n c → place row c ≡ marked p c) → (k : ℕ) → k ≡ 1 →
      Row n w me history round t p.g p.h row p.a p.b k
  row_starts p one laws le x zero row is k first = record {
    bits =
        λ c o.
        subst (λ v. v ≤ 1) (sym (is c o)) (marked_le (nat_eq (place p.h c) (place p.g c)) (place p.d c) (zero c o));
    shown =
        λ c o differ.
        is c o ∙ ap (λ b. if not b then 1 else place p.d c) (other_number (place p.h c) (place p.g c) differ);
    words = λ y o lt. absurd (omega arith);
    moved = λ c o e.
        let differ : place p.h c ≢ place p.g c = other_from (place p.h c) (place p.g c)
        (marked_then (nat_eq (place p.h c) (place p.g c)) (place p.d c) (zero c o) (sym (is c o) ∙ e)) in
        let answers : (history round).answers c me < (history t).answers c me =
        seen_by_bits n w me history round t p.g p.a p.b p.h one laws x c o differ in
        let writes : (history round).writes c ≤ (history t).writes c =
        ((laws t (omega arith)).since round le).writes c o in
        omega arith;
  }

  -- line 26 finds the words at place k the same
  row_same : (g h d : List ℕ) (a b : Words) (k : ℕ) → same_at a b k ≡ true → Row n w me history round t g h d a b k →
      Row n w me history round t g h d a b (k + 1)
  row_same g h d a b k same r = record {
    bits = r.bits;
    shown = r.shown;
    words = λ y o lt differ. elim (cases_eq y k) [
      | inl e ↦ absurd (let z : true ≡ false = sym same ∙ ap (same_at a b) (sym e) ∙ differ in cc)
      | inr other ↦ r.words y o (omega arith) differ
    ];
    moved = r.moved;
  }

  -- line 28 marks the writer of a word that differs
  row_marks : (g h d : List ℕ) (a b : Words) (k x : ℕ) → IsOneOf n x → n ≤ length d → x ≡ (word_at b k).id →
      ((y : ℕ) → IsOneOf w y → same_at a b y ≡ false → IsOneOf n (word_at b y).id) →
      events (history round) x me < events (history t) x me → Row n w me history round t g h d a b k →
      Row n w me history round t g h (slice_set d (x - 1) 1) a b (k + 1)
  row_marks g h d a b k x one len is named event r =
      let row = slice_set d (x - 1) 1 in
      let here : (c : ℕ) → c ≡ x → place row c ≡ 1 =
      λ c e. ap (place row) e ∙ set_here d x 1 one.0 (omega (arith, one.1)) in
      let there : (c : ℕ) → 0 < c → c ≢ x → place row c ≡ place d c = λ c pos other. set_there d x c 1 one.0 pos other in
      let stays : (c : ℕ) → IsOneOf n c → place d c ≡ 1 → place row c ≡ 1 = λ c o e. elim (cases_eq c x) [
        | inl same ↦ here c same
        | inr other ↦ there c o.0 other ∙ e
      ] in
      record {
        bits = λ c o. elim (cases_eq c x) [
          | inl same ↦ omega (arith, here c same)
          | inr other ↦ subst (λ v. v ≤ 1) (sym (there c o.0 other)) (r.bits c o)
        ];
        shown = λ c o differ. stays c o (r.shown c o differ);
        words = λ y o lt differ. elim (cases_eq (word_at b y).id x) [
          | inl same ↦ here (word_at b y).id same
          | inr other ↦ elim (cases_eq y k) [
            | inl e ↦ absurd (other (ap (λ v. (word_at b v).id) e ∙ sym is))
            | inr less ↦ stays (word_at b y).id (named y o differ) (r.words y o (omega arith) differ)
          ]
        ];
        moved = λ c o e. elim (cases_eq c x) [
          | inl same ↦ subst (λ v. events (history round) v me < events (history t) v me) (sym same) event
          | inr other ↦ r.moved c o (sym (there c o.0 other) ∙ e)
        ];
      }

  -- where nothing is marked, no late bit and no word differs
  pub still_bits : (p : Variables) (k : ℕ) → Marks n w me history round t p k → all_still n p ≡ true → (c : ℕ) →
      IsOneOf n c → place p.h c ≡ place p.g c
  still_bits p k r still c o =
      elim (cases_eq (place p.h c) (place p.g c)) [
        | inl same ↦ same
        | inr differ ↦ absurd (
            let zero : place p.d c ≡ 0 =
            same_from (place p.d c) 0 (all_pass (λ c. nat_eq (place p.d c) 0) 1 n still c (omega arith) (omega arith)) in
            omega (arith, r.shown c o differ))
      ]

  pub still_words : (p : Variables) → IsOneOf n me → ((u : ℕ) → u ≤ t → Laws n w history u) →
      Gathered n w me history round t p (n + 1) (w + 1) (w + 1) (n + 1) → Marks n w me history round t p (w + 1) →
      all_still n p ≡ true → (y : ℕ) → IsOneOf w y → same_at p.a p.b y ≡ true
  still_words p one laws x r still y o =
      elim (same_at p.a p.b y) as (λ b. same_at p.a p.b y ≡ b → b ≡ true) [
        | true ↦ λ e. refl
        | false ↦ λ e. absurd (
            let c : IsOneOf n (word_at p.b y).id =
            (seen_by_words n w me history round t p.g p.a p.b p.h one laws x y o e).0 in
            let zero : place p.d (word_at p.b y).id ≡ 0 = same_from (place p.d (word_at p.b y).id) 0
            (all_pass (λ c. nat_eq (place p.d c) 0) 1 n still (word_at p.b y).id (omega arith) (omega arith)) in
            omega (arith, r.words y o (omega (arith, o.1)) e))
      ] refl

-- a process that is marked is counted
counted_le : (v d low round t : ℕ) → low + v ≤ round → round ≤ t → (d ≡ 1 → round < t) →
    low + (if nat_eq d 1 then v + 1 else v) ≤ t
counted_le v d low round t h le f =
    elim (nat_eq d 1) as (λ b. nat_eq d 1 ≡ b → low + (if b then v + 1 else v) ≤ t) [
      | true ↦ λ e. omega (arith, f (same_from d 1 e))
      | false ↦ λ e. omega arith
    ] refl

-- events do not become fewer
pub events_le : (n w me u t : ℕ) (history : ℕ → Registers) → Since n w history u t → IsOneOf n me → (c : ℕ) →
    IsOneOf n c → events (history u) c me ≤ events (history t) c me
events_le n w me u t history s one c o =
    omega (arith, s.writes c o, s.answers c me o one)

module _ (n w me : ℕ) (history : ℕ → Registers) (t since round : ℕ) where
  -- each line that writes no register takes the scan on; a line that starts another double collect does so at item t
  pub stage_move : (m : Registers) (d : Mode) (p : Variables) (k : ProgramCounter) →
      Known n w me history t since round m d p k → Stage n w me history t since round p k →
      StageMove n w me history t since (if restarts k then t else round) (move n w me d m p k)
  stage_move m d p L10 e h =
      λ c i. rw (for_each_at n (λ c. 0) p.moved c i) (omega (
        arith,
        events_le n w me since round history ((e.laws round e.round_le).since since e.opened) e.one c i,
      ))
  stage_move m d p L11 e h = h
  stage_move m d p L12 e h = (
    h,
    collected_as n w me history round t p.g p.a p.b p.h (omega (arith, e.keeps))
        (collected_starts n w me history round t p.g p.a p.b p.h e.round_le),
  )
  stage_move m d p L13 e h = (h.0, h.1, reads_now history round t me p.j m e.now e.round_le)
  stage_move m d p L14 e h =
      let one : IsOneOf n p.j = e.keeps.0 in (
        h.0,
        asked_row n w me history round t p.g p.a p.b p.h p.j p.x 1 1 1 one h.1,
        h.2,
        set_here p.g p.j p.x one.0 (omega (arith, e.long)),
      )
  stage_move m d p L16 e h =
      either (StageMove n w me history t since round) (nat_lt p.j n) _ _ (λ b. h)
      (λ b. (
        h.0,
        collected_as n w me history round t p.g p.a p.b p.h (omega (arith, not_lt p.j n b, e.keeps)) h.1,
      ))
  stage_move m d p L17 e h =
      (h.0, first_more n w me history round t m p.g p.a p.b p.h (n + 1) p.k e.keeps.1 (omega (arith, e.long)) e.now h.1)
  stage_move m d p L18 e h =
      either (StageMove n w me history t since round) (nat_lt p.k w) _ _ (λ b. h)
      (λ b. (h.0, collected_as n w me history round t p.g p.a p.b p.h (omega (arith, not_lt p.k w b)) h.1))
  stage_move m d p L19 e h =
      let long : Long n w p = e.long in
      (h.0, second_more n w me history round t m p.g p.a p.b p.h (n + 1) (w + 1) p.k e.keeps.1 (omega arith) e.now h.1)
  stage_move m d p L20 e h =
      either (StageMove n w me history t since round) (nat_lt p.k w) _ _ (λ b. h)
      (λ b. (
        h.0,
        collected_as n w me history round t p.g p.a p.b p.h (omega (arith, not_lt p.k w b, e.keeps)) h.1,
      ))
  stage_move m d p L21 e h =
      let x : Gathered n w me history round t p (n + 1) (w + 1) (w + 1) p.j = h.1 in
      (h.0, x, reads_now history x.ended t me p.j m e.now x.order.3)
  stage_move m d p L22 e h =
      let long : Long n w p = e.long in (
        h.0,
        late_more n w me history round t p.g p.a p.b p.h (n + 1) (w + 1) (w + 1) p.j p.x e.keeps.0 (omega arith) h.1 h.2,
      )
  stage_move m d p L23 e h =
      either (StageMove n w me history t since round) (nat_lt p.j n) _ _ (λ b. h)
      (λ b. (h.0, collected_as n w me history round t p.g p.a p.b p.h (omega (arith, not_lt p.j n b)) h.1))
  stage_move m d p L24 e h = (h.0, h.1, λ c i. for_each_at n (λ c. 0) p.d c i)
  stage_move m d p L25 e h = (
    h.0,
    h.1,
    row_starts n w me history round t p e.one e.laws e.round_le h.1 h.2 _
        (λ c o. for_each_at n (marked p) p.d c o) p.k e.keeps.1,
  )
  stage_move m d p L26 e h =
      either (StageMove n w me history t since round) (same_at p.a p.b p.k) _ _
      (λ b. (h.0, h.1, row_same n w me history round t p.g p.h p.d p.a p.b p.k b h.2)) (λ b. (h.0, h.1, h.2, b))
  stage_move m d p L27 e h = (h.0, h.1, h.2, h.3, refl)
  stage_move m d p L28 e h =
      let long : Long n w p = e.long in
      let seen = seen_by_words n w me history round t p.g p.a p.b p.h e.one e.laws h.1 p.k e.keeps.1 h.3 in
      let named : IsOneOf n p.x = subst (IsOneOf n) (sym h.4) seen.0 in
      let wrote : (history round).writes p.x < (history t).writes p.x =
      subst (λ y. (history round).writes y < (history t).writes y) (sym h.4) seen.1 in
      let answers : (history round).answers p.x me ≤ (history t).answers p.x me =
      ((e.laws t (omega arith)).since round e.round_le).answers p.x me named e.one in (
        h.0,
        h.1,
        row_marks n w me history round t p.g p.h p.d p.a p.b p.k p.x named long.d h.4
            (λ y o differ. (seen_by_words n w me history round t p.g p.a p.b p.h e.one e.laws h.1 y o differ).0)
            (omega arith) h.2,
      )
  stage_move m d p L29 e h =
      either (StageMove n w me history t since round) (nat_lt p.k w) _ _ (λ b. h)
      (λ b. let ge : w ≤ p.k = not_lt p.k w b in
      let inside : IsOneOf w p.k = e.keeps.1 in
      (h.0, h.1, subst (λ y. Marks n w me history round t p (y + 1)) (let f : p.k ≡ w = omega arith in f) h.2))
  stage_move m d p L30 e h =
      either (StageMove n w me history t since round) (all_still n p) _ _
      (λ b. subst (Held (words_of history) t since) (sym (plain_taken plain (λ x. refl) w p.b))
      (passed n w me history round t p.g p.a p.b p.h e.one e.laws h.1 since e.opened (omega (arith, e.long))
      (still_bits n w me history round t p (w + 1) h.2 b) (still_words n w me history round t p e.one e.laws h.1 h.2 b)))
      (λ b. h)
  stage_move m d p L31 e h =
      let r : Marks n w me history round t p (w + 1) = h.2 in
      λ c i. rw (for_each_at n (counted p) p.moved c i)
      (counted_le (place p.moved c) (place p.d c) (events (history since) c me) (events (history round) c me)
      (events (history t) c me) (h.0 c i)
      (events_le n w me round t history ((e.laws t (omega arith)).since round e.round_le) e.one c i) (r.moved c i))
  stage_move m d p L32 e h =
      stage_first n w me history t since round d m p (third_move n p) h
      (λ k f. same_from (place p.moved k) limit (first_found 1 n (at_limit p) k f).2)
  stage_move m d p L33 e h = (
    h,
    collected_as n w me history t t p.g p.a p.b p.h (omega (arith, e.keeps))
        (collected_starts n w me history t t p.g p.a p.b p.h (omega arith)),
  )
  stage_move m d p L34 e h = h
  stage_move m (Updating y z) p L35 e h = absurd e.line
  stage_move m d p L35 e h = h
  stage_move m d p L36 e h =
      let opened : since ≤ round = e.opened in
      let closed : round ≤ t = e.round_le in
      let moves : place p.moved p.j ≡ limit = h.1 in
      let low : events (history since) p.j me + place p.moved p.j ≤ events (history t) p.j me = h.0 p.j e.keeps in
      let three : events (history since) p.j me + 3 ≤ events (history t) p.j me = omega arith in
      let start = e.laws since (omega arith) in
      let now = e.laws t (omega arith) in (
        subst (λ (x : Registers). Held (words_of history) t since (view_at x.views p.j)) e.now
            (borrowed n w me p.j since t history start now (omega arith) e.keeps e.one three),
        record {
          lender = p.j;
          inside = e.keeps;
          time = t;
          after = omega arith;
          before = omega arith;
          put = borrowed_put n w me p.j since t history start now e.keeps e.one three;
          is = ap (λ (x : Registers). view_at x.views p.j) e.now;
        },
      )
  stage_move m (Updating y z) p L37 e h = absurd e.line
  stage_move m d p L37 e h = h.0
  stage_move m d p L50 e h = tt
  stage_move m d p L51 e h =
      record { at = t; until = omega arith; is = ap (λ (x : Registers). bit x.q p.j me) (sym e.now); same = refl }
  stage_move m d p L53 e h = either (StageMove n w me history t since round) (nat_lt p.j n) _ _ (λ b. tt) (λ b. tt)
  stage_move m (Updating y z) p L54 e h = refl
  stage_move m d p L54 e h = absurd e.line
  stage_move m d p L56 e h = tt
  stage_move m d p L58 e h = tt
  stage_move m d p k e h = absurd e.quiet

  -- line 15 asks process j
  pub stage_15 : (p : Variables) → IsOneOf n p.j →
      ((c : ℕ) → IsOneOf n c → c ≢ p.j → bit (history (suc t)).q me c ≡ bit (history t).q me c) →
      bit (history (suc t)).q me p.j ≡ p.x → Stage n w me history t since round p L15 →
      Stage n w me history (suc t) since round p L16
  stage_15 p one others his h = (
    h.0,
    asked_more n w me history round t p.g p.a p.b p.h p.j one others (his ∙ sym h.3)
        (subst (ReadBit history round t me p.j) (sym h.3) h.2) h.1,
  )

-- Time passes and other processes act.
module _ (n w me : ℕ) (history : ℕ → Registers) where
  row_kept : (round t : ℕ) (g h d : List ℕ) (a b : Words) (k : ℕ) → IsOneOf n me → Since n w history t (suc t) →
      Row n w me history round t g h d a b k → Row n w me history round (suc t) g h d a b k
  row_kept round t g h d a b k one s r = record {
    bits = r.bits;
    shown = r.shown;
    words = r.words;
    moved = λ c o e. omega (arith, r.moved c o e, events_le n w me t (suc t) history s one c o);
  }

  high_kept : (since t : ℕ) (moved : List ℕ) → IsOneOf n me → Since n w history t (suc t) →
      Low n me history since t moved → Low n me history since (suc t) moved
  high_kept since t moved one s h c o =
      omega (arith, h c o, events_le n w me t (suc t) history s one c o)

-- the process's own registers stay
pub record Apart (n me : ℕ) (m m' : Registers) : Type 0 where
  pub asks : (c : ℕ) → IsOneOf n c → bit m'.q me c ≡ bit m.q me c
  pub writes : m'.writes me ≡ m.writes me

sight_kept : (history : ℕ → Registers) (from t me c value : ℕ) → ReadBit history from t me c value →
    ReadBit history from (suc t) me c value
sight_kept history from t me c value h = read_until history from t (suc t) me c value (omega arith) h

held_on : (history : ℕ → Words) (t since : ℕ) (v : List ℕ) → Held history t since v → Held history (suc t) since v
held_on history t since v h = held_wider history t (suc t) since since v (omega arith) (omega arith) h

ruleset still = (collected_kept, sight_kept, row_kept, high_kept, held_on)

module _ (n w me : ℕ) (history : ℕ → Registers) (t since round : ℕ) (p : Variables) where
  pub stage_kept : (k : ProgramCounter) → IsOneOf n me → Since n w history t (suc t) →
      Apart n me (history t) (history (suc t)) → Stage n w me history t since round p k →
      Stage n w me history (suc t) since round p k
  stage_kept L22 i s o h = (
    h.0,
    collected_kept n w me history round t p.g p.a p.b p.h (n + 1) (w + 1) (w + 1) p.j o.asks h.1,
    subst (λ y. ReadBit history y (suc t) me p.j p.x)
        (sym (ended_kept n w me history round t p.g p.a p.b p.h (n + 1) (w + 1) (w + 1) p.j o.asks h.1))
        (sight_kept history h.1.ended t me p.j p.x h.2),
  )
  stage_kept L37 i s o h =
      let shown : Shown n me history t since p.s = h.1 in (
        held_on (words_of history) t since p.s h.0,
        record {
          lender = shown.lender;
          inside = shown.inside;
          time = shown.time;
          after = shown.after;
          before = omega (arith, shown.before);
          put = shown.put;
          is = shown.is;
        },
      )
  stage_kept L52 i s o h =
      record { at = h.at; until = omega (arith, h.until); is = h.is; same = h.same ∙ sym o.writes }
  stage_kept k i s o h = search still
