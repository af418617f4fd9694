-- The handshake and the two collects of a double collect of B, and what a scan learns of them.
use Rattle.std.proofs.Common.{◌≡◌, ℕ, ◌+◌, ◌-◌, ◌<◌, ◌≤◌, Bool, true, false, not, ◌&&◌, List, length}
use Rattle.std.proofs.Common.{slice_set, nat_eq, if◌then◌else◌, refl, sym, ◌∙◌, ap, subst, arith, inl, inr}
use Rattle.std.proofs.lemmas.Bool.{cases_eq, cases_lt}
use Rattle.std.proofs.lemmas.Grind.{get_or-set_at}
use Rattle.std.proofs.lemmas.List.{get_or-set_other}
use Rattle.snap_runs.proofs.Common.{IsOneOf, Word, no_word}
use Rattle.snap_runs.proofs.Computing.{same_number, same_from, both}
use Rattle.snap_runs.proofs.Held.{word_at, Held, Lent, beside_now, seq_at}
use Rattle.snap_runs_of_b.proofs.Algorithm.{Words, Variables, place, handshake_at, agree}
use Rattle.snap_runs_of_b.proofs.Follow.{IsLaterWord, follows_trans, same_word, toggled}

-- In all that follows `history u` are the words after u items, t is the number of items so far and `words` the words
-- now; `since` is the item that started the scan, `round` the item that started its double collect, and `opening` the
-- words then. The scan is process i's; g are the bits that it drew, and `marks` say how often each word had been
-- written when its bit was put.

-- the writes of process k up to the scan's start, and the moves of k that it has seen since
abbrev pub floor : Words → List ℕ → ℕ → ℕ
floor base moved k = seq_at base k + place moved k

-- Every move that the scan has seen is a write since its start.
abbrev pub Low : ℕ → Words → Words → List ℕ → Type 0
Low n base words moved = (k : ℕ) → IsOneOf n k → floor base moved k ≤ seq_at words k

-- The bit drawn for process k was in a word of k since the double collect's start.
pub record Drawn (opening now : Words) (g : List ℕ) (i k : ℕ) : Type 0 where
  pub word : Word
  pub fresh : seq_at opening k ≤ word.seq
  pub before : IsLaterWord word (word_at now k)
  pub says : place g k ≡ handshake_at word i

-- The bit drawn for process k has been put, and the writes of k up to then are marked.
pub record Put (opening now : Words) (g marks : List ℕ) (i k : ℕ) : Type 0 where
  pub drawn : Drawn opening now g i k
  pub fresh : seq_at opening k ≤ place marks k
  pub before : place marks k ≤ seq_at now k

-- The handshake has come to place j.
abbrev pub PutTo : ℕ → Words → Words → List ℕ → List ℕ → ℕ → ℕ → Type 0
PutTo n opening words g marks i j = (k : ℕ) → IsOneOf n k → k < j → Put opening words g marks i k

-- Two writes after the mark show in the bit, up to place r.
abbrev pub Late : ℕ → Words → List ℕ → List ℕ → ℕ → ℕ → Type 0
Late n words g marks i r =
    (k : ℕ) → IsOneOf n k → k < r → place marks k + 2 ≤ seq_at words k →
    handshake_at (word_at words k) i ≡ place g k → ⊥

-- a word of the first collect: not older than its mark, which is not older than the double collect; `now` is not older
pub record FirstCopy (opening : Words) (marks : List ℕ) (copy now : Words) (k : ℕ) : Type 0 where
  pub fresh : seq_at opening k ≤ place marks k
  pub marked : place marks k ≤ seq_at copy k
  pub before : IsLaterWord (word_at copy k) (word_at now k)

-- The first collect has come to place j.
abbrev pub First : ℕ → Words → Words → List ℕ → Words → ℕ → Type 0
First n opening words marks a j = (k : ℕ) → IsOneOf n k → k < j → FirstCopy opening marks a words k

-- The view beside the second or a later write since the scan's start was the values at some state since.
abbrev pub Viewed : ℕ → (ℕ → Words) → ℕ → ℕ → Words → Type 0
Viewed n history t since words =
    (k : ℕ) → IsOneOf n k → seq_at (history since) k + 2 ≤ seq_at words k → Held history t since (word_at words k).view

-- a word of the second collect: `between` is not later, and `now` not older
pub record SecondCopy (opening : Words) (g marks : List ℕ) (i k : ℕ) (between copy now : Word) : Type 0 where
  pub after : IsLaterWord between copy
  pub before : IsLaterWord copy now
  -- two writes after the mark show in it
  pub late : place marks k + 2 ≤ copy.seq → handshake_at copy i ≡ place g k → ⊥
  -- with no write since the double collect's start it says the bit that was drawn
  pub same : copy.seq ≤ seq_at opening k → handshake_at copy i ≡ place g k

-- The second collect has come to place j; `between` are the words at a state between the two collects.
pub record Second (n i : ℕ) (history : ℕ → Words) (t since round : ℕ) (words : Words) (g marks : List ℕ) (a b : Words)
    (j : ℕ) (between : Words) : Type 0 where
  -- the first collect was before
  pub first : (k : ℕ) → IsOneOf n k → FirstCopy (history round) marks a between k
  -- the second collect was after it, and the words now are not older
  pub read : (k : ℕ) → IsOneOf n k → k < j →
      SecondCopy (history round) g marks i k (word_at between k) (word_at b k) (word_at words k)
  pub now : (k : ℕ) → IsOneOf n k → IsLaterWord (word_at between k) (word_at words k)
  -- the views that the second collect read are as those of the registers
  pub views : (k : ℕ) → IsOneOf n k → k < j → seq_at (history since) k + 2 ≤ seq_at b k →
      Lent history t since k (word_at b k).view

-- Between the two collects there is a state, since the scan's start.
abbrev pub Between : ℕ → ℕ → (ℕ → Words) → ℕ → ℕ → ℕ → Words → List ℕ → List ℕ → Words → Words → ℕ → Type 0
Between n i history t since round words g marks a b j =
    (u : ℕ) × (since ≤ u) × (u ≤ t) × Second n i history t since round words g marks a b j (history u)

-- The double collect has failed and its moves are counted.
pub record Gained (n : ℕ) (history : ℕ → Words) (t since : ℕ) (words : Words)
    (moved : List ℕ) (b : Words) : Type 0 where
  -- every move is a write that the second collect saw
  pub low : (k : ℕ) → IsOneOf n k → floor (history since) moved k ≤ seq_at b k
  -- the words now are not older than the second collect
  pub before : (k : ℕ) → IsOneOf n k → IsLaterWord (word_at b k) (word_at words k)
  -- the views that it read are as those of the registers
  pub views : (k : ℕ) → IsOneOf n k → seq_at (history since) k + 2 ≤ seq_at b k →
      Lent history t since k (word_at b k).view

-- places that are set, and places that are kept
pub word_set : (ws : Words) (j k : ℕ) (w : Word) → 0 < j → j ≤ length ws → k ≡ j →
    word_at (slice_set ws (j - 1) w) k ≡ w
word_set ws j k w pos le e = get_or-set_at ws (j - 1) (k - 1) w no_word (omega arith) (omega arith)

pub word_kept : (ws : Words) (j k : ℕ) (w : Word) → 0 < j → 0 < k → (k ≡ j → ⊥) →
    word_at (slice_set ws (j - 1) w) k ≡ word_at ws k
word_kept ws j k w pj pk other = get_or-set_other ws (j - 1) (k - 1) w no_word (λ same. other (omega arith))

pub place_set : (row : List ℕ) (j k v : ℕ) → 0 < j → j ≤ length row → k ≡ j → place (slice_set row (j - 1) v) k ≡ v
place_set row j k v pos le e = get_or-set_at row (j - 1) (k - 1) v 0 (omega arith) (omega arith)

pub place_kept : (row : List ℕ) (j k v : ℕ) → 0 < j → 0 < k → (k ≡ j → ⊥) →
    place (slice_set row (j - 1) v) k ≡ place row k
place_kept row j k v pj pk other = get_or-set_other row (j - 1) (k - 1) v 0 (λ same. other (omega arith))

-- line 13 draws a bit for one more process
pub put_drawn : (n : ℕ) (opening words : Words) (g marks : List ℕ) (i j v : ℕ) → IsOneOf n j →
    PutTo n opening words g marks i j → PutTo n opening words (slice_set g (j - 1) v) marks i j
put_drawn n opening words g marks i j v one h k ik lt =
    let old : Put opening words g marks i k = h k ik lt in
    record {
      drawn = record {
        word = old.drawn.word;
        fresh = old.drawn.fresh;
        before = old.drawn.before;
        says = place_kept g j k v one.0 ik.0 (λ e. omega arith) ∙ old.drawn.says;
      };
      fresh = old.fresh;
      before = old.before;
    }

pub just_drawn : (n : ℕ) (opening words : Words) (g : List ℕ) (a : Words) (i j : ℕ) → IsOneOf n j →
    n ≤ length g → seq_at opening j ≤ seq_at a j → IsLaterWord (word_at a j) (word_at words j) →
    Drawn opening words (slice_set g (j - 1) (handshake_at (word_at a j) i)) i j
just_drawn n opening words g a i j one len fresh before =
    record {
      word = word_at a j;
      fresh = fresh;
      before = before;
      says = place_set g j j (handshake_at (word_at a j) i) one.0 (omega arith) refl;
    }

-- line 14 puts it
pub put_more : (n : ℕ) (opening words : Words) (g marks : List ℕ) (i j : ℕ) → IsOneOf n j →
    n ≤ length marks → seq_at opening j ≤ seq_at words j → Drawn opening words g i j →
    PutTo n opening words g marks i j → PutTo n opening words g (slice_set marks (j - 1) (seq_at words j)) i (j + 1)
put_more n opening words g marks i j one len opened drawn h k ik lt =
    let P : ℕ → ℕ → Type 0 = λ m u. (seq_at opening u ≤ m) × (m ≤ seq_at words u) in
    elim (cases_eq k j) [
      | inl same ↦ (let e : place (slice_set marks (j - 1) (seq_at words j)) k ≡ seq_at words k =
          place_set marks j k (seq_at words j) one.0 (omega arith) same ∙ ap (seq_at words) (sym same) in
          let o : seq_at opening k ≤ seq_at words k =
          subst (λ u. seq_at opening u ≤ seq_at words u) (sym same) opened in
          record {
            drawn = subst (Drawn opening words g i) (sym same) drawn;
            fresh = omega arith;
            before = omega arith;
          })
      | inr other ↦ (let old : Put opening words g marks i k = h k ik (omega arith) in
          let e : place (slice_set marks (j - 1) (seq_at words j)) k ≡ place marks k =
          place_kept marks j k (seq_at words j) one.0 ik.0 other in
          let f : seq_at opening k ≤ place marks k = old.fresh in
          let b : place marks k ≤ seq_at words k = old.before in
          record { drawn = old.drawn; fresh = omega arith; before = omega arith })
    ]

-- a first copy has the same word
same_copy : (opening : Words) (marks : List ℕ) (x y now : Words) (k : ℕ) → word_at x k ≡ word_at y k →
    FirstCopy opening marks x now k → FirstCopy opening marks y now k
same_copy opening marks x y now k e h = record {
  fresh = h.fresh;
  marked = subst (λ (w : Word). place marks k ≤ w.seq) e h.marked;
  before = subst (λ (w : Word). IsLaterWord w (word_at now k)) e h.before;
}

-- line 16 reads one more word
pub first_more : (n : ℕ) (opening words : Words) (g marks : List ℕ) (i : ℕ) (a : Words) (j : ℕ) →
    IsOneOf n j → n ≤ length a → PutTo n opening words g marks i (n + 1) →
    First n opening words marks a j → First n opening words marks (slice_set a (j - 1) (word_at words j)) (j + 1)
first_more n opening words g marks i a j one len shaken h k ik lt =
    let put : Put opening words g marks i k = shaken k ik (omega arith) in
    elim (cases_eq k j) [
      | inl same ↦ same_copy opening marks words (slice_set a (j - 1) (word_at words j)) words k
          (ap (word_at words) same ∙ sym (word_set a j k (word_at words j) one.0 (omega arith) same))
          (record { fresh = put.fresh; marked = put.before; before = inr refl })
      | inr other ↦ same_copy opening marks a (slice_set a (j - 1) (word_at words j)) words k
          (sym (word_kept a j k (word_at words j) one.0 ik.0 other)) (h k ik (omega arith))
    ]

-- when the first collect is done, the words of now stand between the collects
pub second_starts : (n i : ℕ) (history : ℕ → Words) (t since round : ℕ) (words : Words)
    (g marks : List ℕ) (a b : Words) → history t ≡ words → since ≤ t →
    First n (history round) words marks a (n + 1) → Between n i history t since round words g marks a b 1
second_starts n i history t since round words g marks a b now le h =
    let P : Words → Type 0 = λ between. Second n i history t since round words g marks a b 1 between in
    let here : P words = record {
      first = λ k one. h k one (omega arith);
      read = λ k one lt. absurd (omega arith);
      now = λ k one. inr refl;
      views = λ k one lt. absurd (omega arith);
    } in
    (t, le, omega arith, subst P (sym now) here)

-- with no write since the double collect's start the word says the bit that was drawn
still_says : (opening words : Words) (g : List ℕ) (i k : ℕ) → Drawn opening words g i k →
    seq_at words k ≤ seq_at opening k → handshake_at (word_at words k) i ≡ place g k
still_says opening words g i k d le =
    let fresh : seq_at opening k ≤ d.word.seq = d.fresh in
    sym (d.says ∙ ap (λ (w : Word). handshake_at w i) (same_word d.word (word_at words k) d.before (omega arith)))

-- line 18 reads one more word
pub second_more : (n i : ℕ) (history : ℕ → Words) (t since round : ℕ) (words : Words) (g marks : List ℕ)
    (a b : Words) (j : ℕ) → IsOneOf n j → n ≤ length b → history t ≡ words → since ≤ t →
    Viewed n history t since words → PutTo n (history round) words g marks i (n + 1) →
    Late n words g marks i (n + 1) → Between n i history t since round words g marks a b j →
    Between n i history t since round words g marks a (slice_set b (j - 1) (word_at words j)) (j + 1)
second_more n i history t since round words g marks a b j one len at_t le v shaken late h =
    let s : Second n i history t since round words g marks a b j (history h.0) = h.3 in (
      h.0,
      h.1,
      h.2,
      record {
        first = s.first;
        now = s.now;
        read = λ k ik lt.
            let P : Word → Type 0 =
            λ w. SecondCopy (history round) g marks i k (word_at (history h.0) k) w (word_at words k) in
            elim (cases_eq k j) [
              | inl same ↦
                  subst P (ap (word_at words) same ∙ sym (word_set b j k (word_at words j) one.0 (omega arith) same))
                  (record {
                    after = s.now k ik;
                    before = inr refl;
                    late = late k ik (omega arith);
                    same = still_says (history round) words g i k (shaken k ik (omega arith)).drawn;
                  })
              | inr other ↦
                  subst P (sym (word_kept b j k (word_at words j) one.0 ik.0 other)) (s.read k ik (omega arith))
            ];
        views = λ k ik lt.
            let P : Word → Type 0 = λ w. seq_at (history since) k + 2 ≤ w.seq → Lent history t since k w.view in
            elim (cases_eq k j) [
              | inl same ↦
                  subst P (ap (word_at words) same ∙ sym (word_set b j k (word_at words j) one.0 (omega arith) same))
                  (λ more. (v k ik more, beside_now history t since k words at_t le more))
              | inr other ↦
                  subst P (sym (word_kept b j k (word_at words j) one.0 ik.0 other)) (s.views k ik (omega arith))
            ];
      },
    )

-- the two copies stand after one another
pub copies_follow : (n i : ℕ) (history : ℕ → Words) (t since round : ℕ) (words : Words) (p : Variables) →
    Between n i history t since round words p.g p.marks p.a p.b (n + 1) →
    (k : ℕ) → IsOneOf n k → IsLaterWord (word_at p.a k) (word_at p.b k)
copies_follow n i history t since round words p h k ik =
    let s : Second n i history t since round words p.g p.marks p.a p.b (n + 1) (history h.0) = h.3 in
    follows_trans (word_at p.a k) (word_at (history h.0) k) (word_at p.b k) (s.first k ik).before
    (s.read k ik (omega arith)).after

-- copies that agree have equal counts
pub agreed : (a b : Word) (mark bit i : ℕ) → IsLaterWord a b → mark ≤ a.seq →
    (mark + 2 ≤ b.seq → handshake_at b i ≡ bit → ⊥) → handshake_at b i ≡ bit → a.toggle ≡ b.toggle → b.seq ≤ a.seq
agreed a b mark bit i f marked late handshake toggle =
    elim (cases_lt a.seq b.seq) [
      | inl lt ↦ absurd (late (omega (arith, toggled a b f lt toggle)) handshake)
      | inr le ↦ le
    ]

-- what line 20 tests of one process
pub record Agreed (i : ℕ) (p : Variables) (k : ℕ) : Type 0 where
  pub handshake_a : handshake_at (word_at p.a k) i ≡ place p.g k
  pub handshake_b : handshake_at (word_at p.b k) i ≡ place p.g k
  pub toggles : (word_at p.a k).toggle ≡ (word_at p.b k).toggle

pub agreed_of : (i : ℕ) (p : Variables) (k : ℕ) → agree i p k ≡ true → Agreed i p k
agreed_of i p k h =
    let same = both (nat_eq (handshake_at (word_at p.a k) i) (place p.g k))
    (nat_eq (handshake_at (word_at p.b k) i) (place p.g k) && nat_eq (word_at p.a k).toggle (word_at p.b k).toggle) h in
    let rest = both (nat_eq (handshake_at (word_at p.b k) i) (place p.g k)) (nat_eq (word_at p.a k).toggle (word_at p.b k).toggle) same.1 in
    record {
      handshake_a = same_from (handshake_at (word_at p.a k) i) (place p.g k) same.0;
      handshake_b = same_from (handshake_at (word_at p.b k) i) (place p.g k) rest.0;
      toggles = same_from (word_at p.a k).toggle (word_at p.b k).toggle rest.1;
    }

equal : (x y : ℕ) → x ≡ y → nat_eq x y ≡ true
equal x y e = ap (λ z. nat_eq x z) (sym e) ∙ same_number x

pub agree_if : (i : ℕ) (p : Variables) (k : ℕ) → handshake_at (word_at p.a k) i ≡ place p.g k →
    handshake_at (word_at p.b k) i ≡ place p.g k →
    (word_at p.a k).toggle ≡ (word_at p.b k).toggle → agree i p k ≡ true
agree_if i p k e f h =
    rw (equal (handshake_at (word_at p.a k) i) (place p.g k) e, equal (handshake_at (word_at p.b k) i) (place p.g k) f, equal (word_at p.a k).toggle (word_at p.b k).toggle h) refl

-- where the copies do not agree, there was a write since the double collect's start
pub moved_since : (n i : ℕ) (history : ℕ → Words) (t since round : ℕ) (words : Words) (p : Variables) →
    Between n i history t since round words p.g p.marks p.a p.b (n + 1) →
    (k : ℕ) → IsOneOf n k → agree i p k ≡ false → seq_at (history round) k < seq_at p.b k
moved_since n i history t since round words p h k ik differ =
    elim (cases_lt (seq_at (history round) k) (seq_at p.b k)) [
      | inl lt ↦ lt
      | inr le ↦ absurd (
          let s : Second n i history t since round words p.g p.marks p.a p.b (n + 1) (history h.0) = h.3 in
          let fresh : seq_at (history round) k ≤ place p.marks k = (s.first k ik).fresh in
          let marked : place p.marks k ≤ seq_at p.a k = (s.first k ik).marked in
          let one : word_at p.a k ≡ word_at p.b k =
          same_word (word_at p.a k) (word_at p.b k)
          (copies_follow n i history t since round words p h k ik) (omega arith) in
          let says : handshake_at (word_at p.b k) i ≡ place p.g k = (s.read k ik (omega arith)).same le in
          let yes : agree i p k ≡ true =
          agree_if i p k (ap (λ (w : Word). handshake_at w i) one ∙ says) says (ap (λ (w : Word). w.toggle) one) in
          let e : true ≡ false = sym yes ∙ differ in cc)
    ]

-- a failed test counted: a process that is seen to move has written
pub gained_at : (start opening x v : ℕ) (b : Bool) → start + v ≤ opening → opening ≤ x → (b ≡ false → opening < x) →
    start + (if not b then v + 1 else v) ≤ x
gained_at start opening x v true low le more = omega arith
gained_at start opening x v false low le more = omega (arith, more refl)
