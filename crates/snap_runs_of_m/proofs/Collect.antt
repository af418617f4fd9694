-- The handshake and the two collects of a double collect of M, and what a scan learns of them.
use Rattle.std.specs.Prelude.{◌≡◌, ◌≢◌, ℕ, suc, ◌+◌, ◌-◌, ◌<◌, ◌≤◌, true, false, List, take, length, slice_set, refl}
use Rattle.std.proofs.Common.{sym, ◌∙◌, ap, subst, arith, inl, inr}
use Rattle.std.proofs.lemmas.Bool.{cases_eq}
use Rattle.std.proofs.lemmas.Grind.{common_steps, get_or-set_at}
use Rattle.std.proofs.lemmas.List.{get_or-set_other}
use Rattle.std.proofs.Math.Nat.{eq-or-lt_of_le}
use Rattle.snap_runs.proofs.Common.{IsOneOf, Word, no_word}
use Rattle.snap_runs.proofs.Held.{word_at, seq_at, Held, data_of, squeezed, same_data}
use Rattle.snap_runs_of_m.proofs.Algorithm.{Words, Registers, place, bit, same_words, same_at, view_at}
use Rattle.snap_runs_of_m.proofs.Basics.{less_or_not, set_here, set_there}
use Rattle.snap_runs_of_m.proofs.History.{words_of, id_at, Since, Laws}
use Rattle.snap_runs_of_m.proofs.SameWords.{Alike, alike_of}

-- In all that follows `history u` are the registers after u items, t is the number of
-- items so far, and `me` the process.

-- the writes of process c, and its answers to the handshakes of process i
abbrev pub events : Registers → ℕ → ℕ → ℕ
events m c i = m.writes c + m.answers c i

-- At a state from `from` to `to` the process read this bit of process c.
pub record ReadBit (history : ℕ → Registers) (from to me c value : ℕ) : Type 0 where
  pub at : ℕ
  pub after : from ≤ at
  pub until : at ≤ to
  pub is : value ≡ bit (history at).p c me

-- At a state from `from` to `to` word k was this.
pub record Copied (history : ℕ → Registers) (from to k : ℕ) (copy : Word) : Type 0 where
  pub at : ℕ
  pub after : from ≤ at
  pub until : at ≤ to
  pub is : copy ≡ word_at (history at).words k

-- The process has read the bit of process c, and then, until state `to`, asked for its
-- opposite; it still asks for that.
pub record Asked (history : ℕ → Registers) (from to t me c value : ℕ) : Type 0 where
  pub sight : ReadBit history from to me c value
  pub at : ℕ
  pub after : sight.at ≤ at
  pub until : at ≤ to
  pub kept : (u : ℕ) → at ≤ u → u ≤ t → bit (history u).q me c ≡ value

-- How far a double collect has come: the handshakes with the processes before `asked`, the first copies of the words
-- before `first`, the second copies of those before `second`, and the late bits of the processes before `late`, each
-- after the one before.
pub record Collected (n w me : ℕ) (history : ℕ → Registers) (from t : ℕ) (g : List ℕ) (a b : Words) (h : List ℕ)
    (asked first second late : ℕ) : Type 0 where
  -- the handshakes were done here, the first collect here, and the second here
  pub shaken : ℕ
  pub middle : ℕ
  pub ended : ℕ
  pub order : (from ≤ shaken) × (shaken ≤ middle) × (middle ≤ ended) × (ended ≤ t)
  pub handshakes : (c : ℕ) → IsOneOf n c → c < asked → Asked history from shaken t me c (place g c)
  pub firsts : (k : ℕ) → IsOneOf w k → k < first → Copied history shaken middle k (word_at a k)
  pub seconds : (k : ℕ) → IsOneOf w k → k < second → Copied history middle ended k (word_at b k)
  pub lates : (c : ℕ) → IsOneOf n c → c < late → ReadBit history ended t me c (place h c)

pub read_until : (history : ℕ → Registers) (from to to' me c value : ℕ) → to ≤ to' →
    ReadBit history from to me c value → ReadBit history from to' me c value
read_until history from to to' me c value le h =
    record { at = h.at; after = h.after; until = omega (arith, h.until); is = h.is }

copied_until : (history : ℕ → Registers) (from to to' k : ℕ) (x : Word) → to ≤ to' →
    Copied history from to k x → Copied history from to' k x
copied_until history from to to' k x le h =
    record { at = h.at; after = h.after; until = omega (arith, h.until); is = h.is }

asked_kept : (history : ℕ → Registers) (from to to' t me c value : ℕ) → to ≤ to' → to ≤ t →
    bit (history (suc t)).q me c ≡ bit (history t).q me c → Asked history from to t me c value →
    Asked history from to' (suc t) me c value
asked_kept history from to to' t me c value longer past same y = record {
  sight = record { at = y.sight.at; after = y.sight.after; until = omega (arith, y.sight.until); is = y.sight.is };
  at = y.at;
  after = y.after;
  until = omega (arith, y.until);
  kept = λ u le more. elim (eq-or-lt_of_le more) [
    | inl e ↦ ap (λ v. bit (history v).q me c) e ∙ same ∙ y.kept t (omega (arith, y.until)) (omega arith)
    | inr less ↦ y.kept u le (omega arith)
  ];
}

module _ (n w me : ℕ) (history : ℕ → Registers) (from : ℕ) where
  -- a double collect starts
  pub collected_starts : (t : ℕ) (g : List ℕ) (a b : Words) (h : List ℕ) → from ≤ t →
      Collected n w me history from t g a b h 1 1 1 1
  collected_starts t g a b h le = record {
    shaken = t;
    middle = t;
    ended = t;
    order = omega arith;
    handshakes = λ c o lt. absurd (omega arith);
    firsts = λ k o lt. absurd (omega arith);
    seconds = λ k o lt. absurd (omega arith);
    lates = λ c o lt. absurd (omega arith);
  }

  -- lower bounds for the same
  pub collected_as : (t : ℕ) (g : List ℕ) (a b : Words) (h : List ℕ)
      {asked asked' first first' second second' late late' : ℕ} →
      (asked' ≤ asked) × (first' ≤ first) × (second' ≤ second) × (late' ≤ late) →
      Collected n w me history from t g a b h asked first second late →
      Collected n w me history from t g a b h asked' first' second' late'
  collected_as t g a b h lower x = record {
    shaken = x.shaken;
    middle = x.middle;
    ended = x.ended;
    order = x.order;
    handshakes = λ c o lt. x.handshakes c o (omega arith);
    firsts = λ k o lt. x.firsts k o (omega arith);
    seconds = λ k o lt. x.seconds k o (omega arith);
    lates = λ c o lt. x.lates c o (omega arith);
  }

  -- time passes, and what the process asks stays
  pub collected_kept : (t : ℕ) (g : List ℕ) (a b : Words) (h : List ℕ) (asked first second late : ℕ) →
      ((c : ℕ) → IsOneOf n c → bit (history (suc t)).q me c ≡ bit (history t).q me c) →
      Collected n w me history from t g a b h asked first second late →
      Collected n w me history from (suc t) g a b h asked first second late
  collected_kept t g a b h asked first second late same x = record {
    shaken = x.shaken;
    middle = x.middle;
    ended = x.ended;
    order = omega (arith, x.order);
    handshakes = λ c o lt. asked_kept history from x.shaken x.shaken t me c (place g c) (omega arith)
        (omega (arith, x.order)) (same c o) (x.handshakes c o lt);
    firsts = x.firsts;
    seconds = x.seconds;
    lates = λ c o lt. read_until history x.ended t (suc t) me c (place h c) (omega arith) (x.lates c o lt);
  }

  pub ended_kept : (t : ℕ) (g : List ℕ) (a b : Words) (h : List ℕ) (asked first second late : ℕ) →
      (same : (c : ℕ) → IsOneOf n c → bit (history (suc t)).q me c ≡ bit (history t).q me c) →
      (x : Collected n w me history from t g a b h asked first second late) →
      (collected_kept t g a b h asked first second late same x).ended ≡ x.ended
  unfolding collected_kept
  ended_kept t g a b h asked first second late same x = refl

  -- line 14 keeps the bit that was read for process j
  pub asked_row : (t : ℕ) (g : List ℕ) (a b : Words) (h : List ℕ) (j x first second late : ℕ) → IsOneOf n j →
      Collected n w me history from t g a b h j first second late →
      Collected n w me history from t (slice_set g (j - 1) x) a b h j first second late
  asked_row t g a b h j x first second late one y = record {
    shaken = y.shaken;
    middle = y.middle;
    ended = y.ended;
    order = y.order;
    handshakes =
        λ c o lt. subst (Asked history from y.shaken t me c)
        (sym (set_there g j c x one.0 o.0 (λ same. absurd (omega (arith, same)))))
        (y.handshakes c o lt);
    firsts = y.firsts;
    seconds = y.seconds;
    lates = y.lates;
  }

  -- line 15 asks process j
  pub asked_more : (t : ℕ) (g : List ℕ) (a b : Words) (h : List ℕ) (j : ℕ) → IsOneOf n j →
      ((c : ℕ) → IsOneOf n c → c ≢ j → bit (history (suc t)).q me c ≡ bit (history t).q me c) →
      bit (history (suc t)).q me j ≡ place g j →
      ReadBit history from t me j (place g j) → Collected n w me history from t g a b h j 1 1 1 →
      Collected n w me history from (suc t) g a b h (j + 1) 1 1 1
  asked_more t g a b h j one others his sight y = record {
    shaken = suc t;
    middle = suc t;
    ended = suc t;
    order = omega (arith, y.order);
    handshakes = λ c o lt. elim (cases_eq c j) [
      | inl same ↦ subst (λ v. Asked history from (suc t) (suc t) me v (place g v)) (sym same) (record {
        sight = record { at = sight.at; after = sight.after; until = omega (arith, sight.until); is = sight.is };
        at = suc t;
        after = omega (arith, sight.until);
        until = omega arith;
        kept = λ u le more. ap (λ v. bit (history v).q me j) (let e : u ≡ suc t = omega arith in e) ∙ his;
      })
      | inr other ↦ asked_kept history from y.shaken (suc t) t me c (place g c) (omega (arith, y.order))
          (omega (arith, y.order)) (others c o other) (y.handshakes c o (omega arith))
    ];
    firsts = λ k o lt. absurd (omega arith);
    seconds = λ k o lt. absurd (omega arith);
    lates = λ c o lt. absurd (omega arith);
  }

  -- a word that is read now
  read_now : (t from' k : ℕ) (m : Registers) → history t ≡ m → from' ≤ t → Copied history from' t k (word_at m.words k)
  read_now t from' k m now le =
      record { at = t; after = le; until = omega arith; is = ap (λ (x : Registers). word_at x.words k) (sym now) }

  -- a copy of one more word
  copy_more : (copies : Words) (m : Registers) (t from' to : ℕ) (k y : ℕ) → IsOneOf w k →
      IsOneOf w y → w ≤ length copies → history t ≡ m → from' ≤ t → to ≤ t → y < k + 1 →
      (y < k → Copied history from' to y (word_at copies y)) →
      Copied history from' t y (word_at (slice_set copies (k - 1) (word_at m.words k)) y)
  copy_more copies m t from' to k y one o len now le le2 lt old =
      elim (cases_eq y k) [
        | inl same ↦ subst (Copied history from' t y)
            (ap (word_at m.words) same ∙ sym
            (get_or-set_at copies (k - 1) (y - 1) (word_at m.words k) no_word (ap (λ v. v - 1) same) (omega arith)))
            (read_now t from' y m now le)
        | inr other ↦ subst (Copied history from' t y)
            (sym (get_or-set_other copies (k - 1) (y - 1) (word_at m.words k) no_word (λ same. other (omega arith))))
            (copied_until history from' to t y (word_at copies y) le2 (old (omega arith)))
      ]

  -- line 17 reads one more word
  pub first_more : (t : ℕ) (m : Registers) (g : List ℕ) (a b : Words) (h : List ℕ) (asked k : ℕ) →
      IsOneOf w k → w ≤ length a → history t ≡ m → Collected n w me history from t g a b h asked k 1 1 →
      Collected n w me history from t g (slice_set a (k - 1) (word_at m.words k)) b h asked (k + 1) 1 1
  first_more t m g a b h asked k one len is x = record {
    shaken = x.shaken;
    middle = t;
    ended = t;
    order = omega (arith, x.order);
    handshakes = x.handshakes;
    firsts = λ y o lt. copy_more a m t x.shaken x.middle k y one o len is (omega (arith, x.order))
        (omega (arith, x.order)) lt (λ less. x.firsts y o less);
    seconds = λ k o lt. absurd (omega arith);
    lates = λ c o lt. absurd (omega arith);
  }

  -- line 19 reads one more word
  pub second_more : (t : ℕ) (m : Registers) (g : List ℕ) (a b : Words) (h : List ℕ) (asked first k : ℕ) →
      IsOneOf w k → w ≤ length b → history t ≡ m → Collected n w me history from t g a b h asked first k 1 →
      Collected n w me history from t g a (slice_set b (k - 1) (word_at m.words k)) h asked first (k + 1) 1
  second_more t m g a b h asked first k one len is x = record {
    shaken = x.shaken;
    middle = x.middle;
    ended = t;
    order = omega (arith, x.order);
    handshakes = x.handshakes;
    firsts = x.firsts;
    seconds = λ y o lt. copy_more b m t x.middle x.ended k y one o len is (omega (arith, x.order))
        (omega (arith, x.order)) lt (λ less. x.seconds y o less);
    lates = λ c o lt. absurd (omega arith);
  }

  -- line 22 keeps the late bit of process j
  pub late_more : (t : ℕ) (g : List ℕ) (a b : Words) (h : List ℕ) (asked first second j v : ℕ) →
      IsOneOf n j → n ≤ length h →
      (x : Collected n w me history from t g a b h asked first second j) → ReadBit history x.ended t me j v →
      Collected n w me history from t g a b (slice_set h (j - 1) v) asked first second (j + 1)
  late_more t g a b h asked first second j v one len x sight = record {
    shaken = x.shaken;
    middle = x.middle;
    ended = x.ended;
    order = x.order;
    handshakes = x.handshakes;
    firsts = x.firsts;
    seconds = x.seconds;
    lates = λ c o lt. elim (cases_eq c j) [
      | inl same ↦ subst (λ y. ReadBit history x.ended t me y (place (slice_set h (j - 1) v) y)) (sym same)
          (subst (ReadBit history x.ended t me j) (sym (set_here h j v one.0 (omega arith))) sight)
      | inr other ↦
          subst (ReadBit history x.ended t me c) (sym (set_there h j c v one.0 o.0 other)) (x.lates c o (omega arith))
    ];
  }

same_self : (x : Word) → same_words x x ≡ true
same_self x = grind (arith, common_steps)

-- A whole double collect.
module _ (n w me : ℕ) (history : ℕ → Registers) (from t : ℕ) (g : List ℕ) (a b : Words)
    (h : List ℕ) (one : IsOneOf n me)
    (laws : (u : ℕ) → u ≤ t → Laws n w history u)
    (x : Collected n w me history from t g a b h (n + 1) (w + 1) (w + 1) (n + 1)) where
  -- what holds from one state to a later one, and that the writes and the answers do not become fewer
  since_to : (u v : ℕ) → (u ≤ v) × (v ≤ t) → Since n w history u v
  since_to u v le = (laws v le.1).since u le.0

  writes_grow : (c u v : ℕ) → IsOneOf n c → (u ≤ v) × (v ≤ t) → (history u).writes c ≤ (history v).writes c
  writes_grow c u v o le = (since_to u v le).writes c o

  answers_grow : (c u v : ℕ) → IsOneOf n c → (u ≤ v) × (v ≤ t) → (history u).answers c me ≤ (history v).answers c me
  answers_grow c u v o le = (since_to u v le).answers c me o one

  -- copies that are not the same: the writer of the second one has written since the double collect started
  pub seen_by_words : (k : ℕ) → IsOneOf w k → same_at a b k ≡ false →
      IsOneOf n (word_at b k).id × ((history from).writes (word_at b k).id < (history t).writes (word_at b k).id)
  seen_by_words k o differ =
      let order = x.order in
      let first = x.firsts k o (omega arith) in
      let second = x.seconds k o (omega arith) in
      elim ((since_to first.at second.at (omega arith)).before k o) [
        | inl lt ↦ (let c = id_at (history second.at) k in
            let named : IsOneOf n c = (laws second.at (omega arith)).now.named k o (omega arith) in
            let newer = (since_to first.at second.at (omega arith)).newer k o lt in
            subst (λ y. IsOneOf n y × ((history from).writes y < (history t).writes y))
            (ap (λ (y : Word). y.id) (sym second.is)) (
              named,
              omega (
                arith,
                newer,
                writes_grow c from first.at named (omega arith),
                writes_grow c second.at t named (omega arith),
              ),
            ))
        | inr same ↦ absurd (let e : word_at a k ≡ word_at b k = first.is ∙ same ∙ sym second.is in
            let f : same_at a b k ≡ true = ap (λ (y : Word). same_words y (word_at b k)) e ∙ same_self (word_at b k) in
            let z : true ≡ false = sym f ∙ differ in cc)
      ]

  -- a late bit that differs: its process has answered since the double collect started
  pub seen_by_bits : (c : ℕ) → IsOneOf n c → place h c ≢ place g c →
      (history from).answers c me < (history t).answers c me
  seen_by_bits c o differ =
      let order = x.order in
      let sight = (x.handshakes c o (omega arith)).sight in
      let late = x.lates c o (omega arith) in
      elim ((since_to sight.at late.at (omega arith)).signed c me o one) [
        | inl still ↦ absurd (differ (late.is ∙ sym still ∙ sym sight.is))
        | inr lt ↦
            omega (arith, lt, answers_grow c from sight.at o (omega arith), answers_grow c late.at t o (omega arith))
      ]

  -- A word whose copies look the same was not written between them, where the bit of its writer did not turn.
  no_write : (k : ℕ) → IsOneOf w k → ((c : ℕ) → IsOneOf n c → place h c ≡ place g c) → same_at a b k ≡ true →
      (first : Copied history x.shaken x.middle k (word_at a k))
      (second : Copied history x.middle x.ended k (word_at b k)) →
      seq_at (history first.at).words k < seq_at (history second.at).words k → ⊥
  no_write k o still same first second lt =
      let order = x.order in
      let c = id_at (history second.at) k in
      let named : IsOneOf n c = (laws second.at (omega arith)).now.named k o (omega arith) in
      let alike : Alike (word_at a k) (word_at b k) = alike_of (word_at a k) (word_at b k) same in
      let ids : id_at (history first.at) k ≡ c =
      ap (λ (y : Word). y.id) (sym first.is) ∙ alike.ids ∙ ap (λ (y : Word). y.id) second.is in
      let toggles : (word_at (history first.at).words k).toggle ≡ (word_at (history second.at).words k).toggle =
      ap (λ (y : Word). y.toggle) (sym first.is) ∙ alike.toggles ∙ ap (λ (y : Word). y.toggle) second.is in
      let twice : (history first.at).writes c + 2 ≤ (history second.at).writes c =
      (since_to first.at second.at (omega arith)).twice k o lt ids toggles in
      let handshake = x.handshakes c named (omega arith) in
      let late = x.lates c named (omega arith) in
      let low = writes_grow c handshake.at first.at named (omega arith) in
      let high = writes_grow c second.at late.at named (omega arith) in
      let answers = (laws late.at late.until).now.answers_from c me named one in
      (laws late.at late.until).answered c me ((history handshake.at).writes c) (place g c) named one
      (λ u le more. handshake.kept u (elim (less_or_not u handshake.at) [
        | inl less ↦ absurd (omega (arith, writes_grow c u handshake.at named (omega arith)))
        | inr ge ↦ ge
      ]) (omega arith))
      (omega arith) (sym late.is ∙ still c named)

  -- where no late bit differs and no word either, the second copies are the words between the collects
  pub unchanged : (k : ℕ) → IsOneOf w k → ((c : ℕ) → IsOneOf n c → place h c ≡ place g c) → same_at a b k ≡ true →
      word_at (history x.middle).words k ≡ word_at b k
  unchanged k o still same =
      let order = x.order in
      let first = x.firsts k o (omega arith) in
      let second = x.seconds k o (omega arith) in
      elim ((since_to first.at second.at (omega arith)).before k o) [
        | inl lt ↦ absurd (no_write k o still same first second lt)
        | inr e ↦
            squeezed (word_at (history first.at).words k) (word_at (history x.middle).words k)
            (word_at (history second.at).words k) ((since_to first.at x.middle (omega arith)).before k o)
            ((since_to x.middle second.at (omega arith)).before k o) (ap (λ (y : Word). y.seq) e)
            ∙ sym second.is
      ]

  -- where no late bit differs and the test passes, both copies are one
  pub same_copies : (k : ℕ) → IsOneOf w k → ((c : ℕ) → IsOneOf n c → place h c ≡ place g c) →
      same_at a b k ≡ true → word_at a k ≡ word_at b k
  same_copies k o still same =
      let order = x.order in
      let first = x.firsts k o (omega arith) in
      let second = x.seconds k o (omega arith) in
      elim ((since_to first.at second.at (omega arith)).before k o) [
        | inl lt ↦ absurd (no_write k o still same first second lt)
        | inr e ↦ first.is ∙ e ∙ sym second.is
      ]

  pub passed : (since : ℕ) → since ≤ from → w ≤ length b → ((c : ℕ) → IsOneOf n c → place h c ≡ place g c) →
      ((k : ℕ) → IsOneOf w k → same_at a b k ≡ true) →
      Held (words_of history) t since (data_of (take w b))
  passed since le len still same =
      let order = x.order in (
        x.middle,
        omega arith,
        omega arith,
        same_data w (words_of history x.middle) b (laws x.middle (omega arith)).now.size len
            (λ k o. unchanged k o still (same k o)),
      )

-- Three events of one process since a scan's start: it has put a view after it had answered the scan's process.
pub borrowed_put : (n w me c since t : ℕ) (history : ℕ → Registers) →
    Laws n w history since → Laws n w history t → IsOneOf n c → IsOneOf n me →
    events (history since) c me + 3 ≤ events (history t) c me → (history since).answers c me < (history t).puts c
borrowed_put n w me c since t history then now one i three =
    omega (arith, now.now.answers_to c me one i, then.now.answers_to c me one i, now.now.puts_from c one)

-- a view that is borrowed is the values at some state since the scan's start
pub borrowed : (n w me c since t : ℕ) (history : ℕ → Registers) → Laws n w history since → Laws n w history t →
    since ≤ t → IsOneOf n c → IsOneOf n me → events (history since) c me + 3 ≤ events (history t) c me →
    Held (words_of history) t since (view_at (history t).views c)
borrowed n w me c since t history then now le one i three =
    (now.since since le).viewed c me one i (borrowed_put n w me c since t history then now one i three)
