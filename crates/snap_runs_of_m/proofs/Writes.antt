-- The four lines of M that write registers: each keeps what `History.antt`
-- says of the registers, and leaves what other processes own.
use Rattle.snap_runs.proofs.Computing.{same_number, other_number}
use Rattle.snap_runs.proofs.Algorithm.{Mode, Updating}
use Rattle.std.proofs.Common.{◌≡◌, ◌≢◌, ℕ, ◌+◌, ◌-◌, ◌<◌, ◌≤◌, ◌⊎◌, Bool, true, false, ◌&&◌, [], length, nat_eq}
use Rattle.std.proofs.Common.{if◌then◌else◌, slice_index, slice_index_or, refl, sym, ◌∙◌, ap, subst, arith, inl, inr}
use Rattle.std.proofs.lemmas.Bool.{cases_eq}
use Rattle.std.proofs.lemmas.Grind.{get_or-set_at}
use Rattle.std.proofs.lemmas.List.{length-set, get_or-set_other}
use Rattle.snap_runs.proofs.Common.{IsOneOf, Word, no_word}
use Rattle.snap_runs.proofs.Held.{word_at, seq_at, Held, held_wider}
use Rattle.snap_runs_of_m.proofs.Algorithm.{Registers, Variables, place, word_of, bit, view_at, flip, raised}
use Rattle.snap_runs_of_m.proofs.Algorithm.{raised_at, with_at, written, after_15, after_52, after_55, after_57}
use Rattle.snap_runs_of_m.proofs.Basics.{flip_bit, flip_other, less_or_not, bit_here}
use Rattle.snap_runs_of_m.proofs.Basics.{bit_elsewhere, row_elsewhere, square_kept}
use Rattle.snap_runs_of_m.proofs.History.{words_of, id_at, toggle_at, Now, Laws, Rewritten, Answer, Put, Acts}
use Rattle.snap_runs_of_m.proofs.Stage.{Seen}
use Rattle.snap_runs_of_m.proofs.Invariant.{Untouched}

-- counters that are raised
pub raised_here : (f : ℕ → ℕ) (i : ℕ) → raised f i i ≡ f i + 1
raised_here f i = ap (λ b. if b then f i + 1 else f i) (same_number i)

pub raised_there : (f : ℕ → ℕ) (i y : ℕ) → y ≢ i → raised f i y ≡ f y
raised_there f i y other = ap (λ b. if b then f y + 1 else f y) (other_number y i other)

more_or_same : (b : Bool) (v : ℕ) → v ≤ (if b then v + 1 else v)
more_or_same true v = omega arith
more_or_same false v = omega arith

and_false : (b : Bool) → (b && false) ≡ false
and_false true = refl
and_false false = refl

pub raised_at_here : (f : ℕ → ℕ → ℕ) (i j : ℕ) → raised_at f i j i j ≡ f i j + 1
raised_at_here f i j =
    ap (λ b. if b && nat_eq j j then f i j + 1 else f i j) (same_number i)
    ∙ ap (λ b. if b then f i j + 1 else f i j) (same_number j)

pub raised_at_there : (f : ℕ → ℕ → ℕ) (i j y z : ℕ) → y ≢ i → raised_at f i j y z ≡ f y z
raised_at_there f i j y z other = ap (λ b. if b && nat_eq z j then f y z + 1 else f y z) (other_number y i other)

pub raised_at_elsewhere : (f : ℕ → ℕ → ℕ) (i j y z : ℕ) → z ≢ j → raised_at f i j y z ≡ f y z
raised_at_elsewhere f i j y z other =
    ap (λ b. if nat_eq y i && b then f y z + 1 else f y z) (other_number z j other)
    ∙ ap (λ b. if b then f y z + 1 else f y z) (and_false (nat_eq y i))

pub with_at_here : (f : ℕ → ℕ → ℕ) (i k x : ℕ) → with_at f i k x i k ≡ x
with_at_here f i k x =
    ap (λ b. if b && nat_eq k k then x else f i k) (same_number i) ∙ ap (λ b. if b then x else f i k) (same_number k)

with_at_there : (f : ℕ → ℕ → ℕ) (i k x y z : ℕ) → y ≢ i → with_at f i k x y z ≡ f y z
with_at_there f i k x y z other = ap (λ b. if b && nat_eq z k then x else f y z) (other_number y i other)

pub with_at_elsewhere : (f : ℕ → ℕ → ℕ) (i k x y z : ℕ) → z ≢ k → with_at f i k x y z ≡ f y z
with_at_elsewhere f i k x y z other =
    ap (λ b. if nat_eq y i && b then x else f y z) (other_number z k other)
    ∙ ap (λ b. if b then x else f y z) (and_false (nat_eq y i))

-- line 15: the process asks process j
pub acts_15 : (n w me : ℕ) (history : ℕ → Registers) (t : ℕ) (m : Registers) (p : Variables) →
    Acts n w history t m (after_15 me m p)
acts_15 n w me history t m p = record {
  words = λ k h. inl refl;
  writes = λ c h. omega arith;
  toggles = λ c k h i. inl refl;
  bits = λ c i h j. inl (refl, refl);
  views = λ c h. inl (refl, refl);
}

pub now_15 : (n w me : ℕ) (m : Registers) (p : Variables) → IsOneOf n me → Now n w m → Now n w (after_15 me m p)
now_15 n w me m p one h = record {
  size = h.size;
  square_q = square_kept n m.q me p.j p.x one h.square_q;
  square_p = h.square_p;
  views = h.views;
  named = h.named;
  toggle = h.toggle;
  bits = h.bits;
  answers_from = h.answers_from;
  answers_to = h.answers_to;
  puts_from = h.puts_from;
  puts_to = h.puts_to;
}

pub untouched_15 : (n w me k : ℕ) (m : Registers) (p : Variables) → IsOneOf n me → IsOneOf n k → k ≢ me →
    Untouched n w k m (after_15 me m p)
untouched_15 n w me k m p one his other = record {
  asks = λ c o. ap (λ row. slice_index row (c - 1)) (row_elsewhere m.q me p.j p.x k one.0 his.0 other);
  writes = refl;
  answers = λ c o. refl;
  puts = refl;
  toggles = λ y o. refl;
}

-- the row of q of the process after line 15
pub asks_there : (n w me c : ℕ) (m : Registers) (p : Variables) → IsOneOf n me → IsOneOf n p.j → Now n w m →
    IsOneOf n c → c ≢ p.j → bit (after_15 me m p).q me c ≡ bit m.q me c
asks_there n w me c m p one inside now o other =
    bit_elsewhere m.q me p.j p.x c one.0 inside.0 o.0 other (omega (arith, now.square_q.0))

pub asks_here : (n w me : ℕ) (m : Registers) (p : Variables) → IsOneOf n me → IsOneOf n p.j → Now n w m →
    bit (after_15 me m p).q me p.j ≡ p.x
asks_here n w me m p one inside now =
    let len : length m.q ≡ n = now.square_q.0 in
    let row : length (slice_index_or m.q (me - 1) []) ≡ n = now.square_q.1 me one in
    bit_here m.q me p.j p.x one.0 inside.0 (omega arith) (omega arith)

-- line 52: the process answers process j
module _ (n w me : ℕ) (history : ℕ → Registers) (t : ℕ) (p : Variables) (one : IsOneOf n me)
    (inside : IsOneOf n p.j) (now : Now n w (history t))
    (seen : Seen history t me p) (first : (history t).answers me p.j ≡ (history t).writes me) where
  abbrev m' : Registers
  m' = after_52 me (history t) p

  -- the bits and their counters
  abbrev Signs : ℕ → ℕ → Type 0
  Signs c i =
      ((bit (history t).p c i ≡ bit m'.p c i) × ((history t).answers c i ≡ m'.answers c i))
      ⊎ Answer history t (history t) m' c i

  signs_here : Signs me p.j
  signs_here =
      let len : length (history t).p ≡ n = now.square_p.0 in
      let row : length (slice_index_or (history t).p (me - 1) []) ≡ n = now.square_p.1 me one in
      let more : m'.answers me p.j ≡ (history t).answers me p.j + 1 = raised_at_here (history t).answers me p.j in
      let same : (history seen.at).writes me ≡ (history t).writes me = seen.same in
      inr (record {
        more = omega arith;
        read = seen.at;
        earlier = seen.until;
        is = bit_here (history t).p me p.j (flip p.x) one.0 inside.0 (omega arith) (omega arith) ∙ ap flip seen.is;
        counts = omega arith;
      })

  signs : (c i : ℕ) → IsOneOf n c → IsOneOf n i → Signs c i
  signs c i h j =
      let len : length (history t).p ≡ n = now.square_p.0 in
      elim (cases_eq c me) [
        | inl same ↦ subst (λ y. Signs y i) (sym same) (elim (cases_eq i p.j) [
          | inl his ↦ subst (λ y. Signs me y) (sym his) signs_here
          | inr other ↦ inl (
            sym (bit_elsewhere (history t).p me p.j (flip p.x) i one.0 inside.0 j.0 other (omega arith)),
            sym (raised_at_elsewhere (history t).answers me p.j me i other),
          )
        ])
        | inr other ↦ inl (
          sym (ap (λ row. slice_index row (i - 1)) (row_elsewhere (history t).p me p.j (flip p.x) c one.0 h.0 other)),
          sym (raised_at_there (history t).answers me p.j c i other),
        )
      ]

  pub acts_52 : Acts n w history t (history t) m'
  acts_52 = record {
    words = λ k h. inl refl;
    writes = λ c h. omega arith;
    toggles = λ c k h i. inl refl;
    bits = signs;
    views = λ c h. inl (refl, refl);
  }

  answers_more : (c i : ℕ) → (history t).answers c i ≤ m'.answers c i
  answers_more c i = more_or_same (nat_eq c me && nat_eq i p.j) ((history t).answers c i)

  pub now_52 : Now n w m'
  now_52 = record {
    size = now.size;
    square_q = now.square_q;
    square_p = square_kept n (history t).p me p.j (flip p.x) one now.square_p;
    views = now.views;
    named = now.named;
    toggle = now.toggle;
    bits = λ c i h j. elim (signs c i h j) [
      | inl same ↦ subst (λ v. v ≤ 1) same.0 (now.bits c i h j)
      | inr r ↦ subst (λ v. v ≤ 1) (sym r.is) (flip_bit (bit (history r.read).q i c))
    ];
    answers_from =
        λ c i h j. omega (arith, now.answers_from c i h j, answers_more c i);
    answers_to = λ c i h j. elim (cases_eq c me) [
      | inl same ↦ elim (cases_eq i p.j) [
        | inl his ↦
            subst (λ y. m'.answers y i ≤ (history t).writes y + 1) (sym same)
            (subst (λ z. m'.answers me z ≤ (history t).writes me + 1) (sym his)
            (omega (arith, raised_at_here (history t).answers me p.j)))
        | inr other ↦
            subst (λ v. v ≤ (history t).writes c + 1)
            (sym (raised_at_elsewhere (history t).answers me p.j c i other)) (now.answers_to c i h j)
      ]
      | inr other ↦
          subst (λ v. v ≤ (history t).writes c + 1)
          (sym (raised_at_there (history t).answers me p.j c i other)) (now.answers_to c i h j)
    ];
    puts_from = now.puts_from;
    puts_to =
        λ c i h j. omega (arith, now.puts_to c i h j, answers_more c i);
  }

pub untouched_52 : (n w me k : ℕ) (m : Registers) (p : Variables) → k ≢ me → Untouched n w k m (after_52 me m p)
untouched_52 n w me k m p other = record {
  asks = λ c o. refl;
  writes = refl;
  answers = λ c o. raised_at_there m.answers me p.j k c other;
  puts = refl;
  toggles = λ y o. refl;
}

-- line 55: the process puts its view
module _ (n w me : ℕ) (history : ℕ → Registers) (t since : ℕ) (p : Variables) (one : IsOneOf n me)
    (laws : (u : ℕ) → u ≤ t → Laws n w history u)
    (held : Held (words_of history) t since p.s)
    (answers_are : (c : ℕ) → IsOneOf n c → (history t).answers me c ≡ (history t).writes me + 1)
    (puts_are : (history t).puts me ≡ (history t).writes me)
    (made : (c : ℕ) → IsOneOf n c → (history t).writes me + 1 ≤ (history since).answers me c) (before : since ≤ t) where
  abbrev m5 : Registers
  m5 = after_55 me (history t) p

  abbrev now5 : Now n w (history t)
  now5 = (laws t (omega arith)).now

  here_55 : m5.puts me ≡ (history t).puts me + 1
  here_55 = raised_here (history t).puts me

  view_55 : view_at m5.views me ≡ p.s
  view_55 =
      get_or-set_at (history t).views (me - 1) (me - 1) p.s [] refl (omega (arith, now5.views))

  put_55 : Put n history t m5 me
  put_55 u i le h lt =
      subst (Held (words_of history) t u) (sym view_55)
      (held_wider (words_of history) t t since u p.s (omega arith)
      (elim (less_or_not since u) [
        | inl later ↦ absurd (
            let grows : (history since).answers me i ≤ (history u).answers me i =
            ((laws u le).since since (omega arith)).answers me i one h in
            omega (arith, made i h, here_55))
        | inr ge ↦ ge
      ]) held)

  pub acts_55 : Acts n w history t (history t) m5
  acts_55 = record {
    words = λ k h. inl refl;
    writes = λ c h. omega arith;
    toggles = λ c k h i. inl refl;
    bits = λ c i h j. inl (refl, refl);
    views = λ c h. elim (cases_eq c me) [
      | inl same ↦ inr (subst (λ y. Put n history t m5 y) (sym same) put_55)
      | inr other ↦ inl (
        sym (raised_there (history t).puts me c other),
        sym (get_or-set_other (history t).views (me - 1) (c - 1) p.s [] (λ same. other (omega arith))),
      )
    ];
  }

  pub now_55 : Now n w m5
  now_55 = record {
    size = now5.size;
    square_q = now5.square_q;
    square_p = now5.square_p;
    views = length-set (history t).views (me - 1) p.s ∙ now5.views;
    named = now5.named;
    toggle = now5.toggle;
    bits = now5.bits;
    answers_from = now5.answers_from;
    answers_to = now5.answers_to;
    puts_from =
        λ c h. omega (arith, now5.puts_from c h, more_or_same (nat_eq c me) ((history t).puts c));
    puts_to = λ c i h j. elim (cases_eq c me) [
      | inl same ↦ subst (λ y. m5.puts y ≤ (history t).answers y i) (sym same)
          (omega (arith, here_55, answers_are i j))
      | inr other ↦
          subst (λ v. v ≤ (history t).answers c i)
          (sym (raised_there (history t).puts me c other)) (now5.puts_to c i h j)
    ];
  }

pub untouched_55 : (n w me k : ℕ) (m : Registers) (p : Variables) → k ≢ me → Untouched n w k m (after_55 me m p)
untouched_55 n w me k m p other = record {
  asks = λ c o. refl;
  writes = refl;
  answers = λ c o. refl;
  puts = raised_there m.puts me k other;
  toggles = λ y o. refl;
}

-- line 57: the process writes its word
module _ (n w me word arg : ℕ) (history : ℕ → Registers) (t : ℕ) (p : Variables) (one : IsOneOf n me)
    (there : IsOneOf w word) (now : Now n w (history t))
    (answers_are : (c : ℕ) → IsOneOf n c → (history t).answers me c ≡ (history t).writes me + 1)
    (puts_are : (history t).puts me ≡ (history t).writes me + 1)
    (turned : place p.tog word ≡ flip ((history t).toggles me word)) where
  abbrev m7 : Registers
  m7 = after_57 me (Updating word arg) (history t) p

  abbrev new_word : Word
  new_word = written me (Updating word arg) (history t) p

  word_here : word_at m7.words word ≡ new_word
  word_here =
      get_or-set_at (history t).words (word - 1) (word - 1) new_word no_word refl (omega (arith, now.size))

  word_there : (k : ℕ) → IsOneOf w k → k ≢ word → word_at m7.words k ≡ word_at (history t).words k
  word_there k h other =
      get_or-set_other (history t).words (word - 1) (k - 1) new_word no_word (λ same. other (omega arith))

  wrote_here : m7.writes me ≡ (history t).writes me + 1
  wrote_here = raised_here (history t).writes me

  rewritten : Rewritten n (history t) m7 word
  rewritten =
      let id : id_at m7 word ≡ me = ap (λ (x : Word). x.id) word_here in
      record {
        later = subst (λ (x : Word). seq_at (history t).words word < x.seq) (sym word_here) (omega arith);
        writer = subst (IsOneOf n) (sym id) one;
        wrote =
            subst (λ y. (history t).writes y < m7.writes y) (sym id)
            (omega (arith, wrote_here));
        turned = λ e. flip_other ((history t).toggles me word)
            (sym turned ∙ ap (λ (x : Word). x.toggle) (sym word_here) ∙ e ∙ ap (λ y. (history t).toggles y word) id);
      }

  pub acts_57 : Acts n w history t (history t) m7
  acts_57 = record {
    words = λ k h. elim (cases_eq k word) [
      | inl same ↦ inr (subst (Rewritten n (history t) m7) (sym same) rewritten)
      | inr other ↦ inl (word_there k h other)
    ];
    writes = λ c h. more_or_same (nat_eq c me) ((history t).writes c);
    toggles = λ c k h i. elim (cases_eq c me) [
      | inl same ↦
          inr (subst (λ y. (history t).writes y < m7.writes y) (sym same)
          (omega (arith, wrote_here)))
      | inr other ↦ inl (sym (with_at_there (history t).toggles me word (place p.tog word) c k other))
    ];
    bits = λ c i h j. inl (refl, refl);
    views = λ c h. inl (refl, refl);
  }

  toggle_57 : (k : ℕ) → IsOneOf w k → IsOneOf n (id_at m7 k) → toggle_at m7 k ≡ m7.toggles (id_at m7 k) k
  toggle_57 k h named =
      elim (cases_eq k word) [
        | inl same ↦ subst (λ y. toggle_at m7 y ≡ m7.toggles (id_at m7 y) y) (sym same)
            (ap (λ (x : Word). x.toggle) word_here ∙ sym (ap (λ y. m7.toggles y word)
            (ap (λ (x : Word). x.id) word_here) ∙ with_at_here (history t).toggles me word (place p.tog word)))
        | inr other ↦ (let same : word_at m7.words k ≡ word_at (history t).words k = word_there k h other in
            ap (λ (x : Word). x.toggle) same ∙ now.toggle k h (subst (λ (x : Word). IsOneOf n x.id) same named)
            ∙ ap (λ (x : Word). (history t).toggles x.id k) (sym same)
            ∙ sym (with_at_elsewhere (history t).toggles me word (place p.tog word) (id_at m7 k) k other))
      ]

  pub now_57 : Now n w m7
  now_57 = record {
    size = length-set (history t).words (word - 1) new_word ∙ now.size;
    square_q = now.square_q;
    square_p = now.square_p;
    views = now.views;
    named = λ k h pos. elim (cases_eq k word) [
      | inl same ↦ subst (λ y. IsOneOf n (id_at m7 y)) (sym same) (rewritten.writer)
      | inr other ↦
          subst (λ (x : Word). IsOneOf n x.id) (sym (word_there k h other))
          (now.named k h (subst (λ (x : Word). 0 < x.seq) (word_there k h other) pos))
    ];
    toggle = toggle_57;
    bits = now.bits;
    answers_from = λ c i h j. elim (cases_eq c me) [
      | inl same ↦ subst (λ y. m7.writes y ≤ (history t).answers y i) (sym same)
          (omega (arith, wrote_here, answers_are i j))
      | inr other ↦
          subst (λ v. v ≤ (history t).answers c i)
          (sym (raised_there (history t).writes me c other)) (now.answers_from c i h j)
    ];
    answers_to = λ c i h j. omega (arith, now.answers_to c i h j, more_or_same (nat_eq c me) ((history t).writes c));
    puts_from = λ c h. elim (cases_eq c me) [
      | inl same ↦
          subst (λ y. m7.writes y ≤ (history t).puts y) (sym same)
          (omega (arith, wrote_here))
      | inr other ↦
          subst (λ v. v ≤ (history t).puts c) (sym (raised_there (history t).writes me c other)) (now.puts_from c h)
    ];
    puts_to = now.puts_to;
  }

pub untouched_57 : (n w me k : ℕ) (d : Mode) (m : Registers) (p : Variables) → k ≢ me →
    Untouched n w k m (after_57 me d m p)
untouched_57 n w me k d m p other = record {
  asks = λ c o. refl;
  writes = raised_there m.writes me k other;
  answers = λ c o. refl;
  puts = refl;
  toggles = λ y o. with_at_there m.toggles me (word_of d) (place p.tog (word_of d)) k y other;
}
