-- `Went`: what an item leaves of the views and words in registers and locals: what it sets is as its act tells, and
-- all else stays.
use Rattle.std.proofs.Common.{◌≡◌, ◌≢◌, ℕ, ◌-◌, ◌<◌, Bool, true, false, ◌&&◌, List, [], Option, Some, None}
use Rattle.std.proofs.Common.{bytes_eq, nat_eq, get_or, length, map, set, take, refl, sym, subst, ap, ◌∙◌, arith}
use Rattle.std.proofs.lemmas.Bool.{eqb-false}
use Rattle.std.proofs.lemmas.List.{get_or-set_other, get_or-set_same, length-set}
use Rattle.std.proofs.lemmas.Slice.Eq.{bytes_eq-Decides}
use Rattle.snap_words.specs.Word.{Word, no_word}
use Rattle.snap_semantics.specs.Source.{Name}
use Rattle.snap_semantics.specs.State.{Locals, Memory, NameMap, value_at, with_view, with_words, with_memory_words}
use Rattle.snap_semantics.specs.Table.{with_memory_views}
use Rattle.snap_acts.specs.Searches.{publishes, reads_into, sets_view, writes_word}
use Rattle.snap_acts.specs.declared.act.Act.{Act}
use Rattle.snap_acts.specs.declared.act.Act.TheVariants as act
use Rattle.snap_acts.specs.declared.act.Spot.{Spot}
use Rattle.snap_reading_laws.proofs.loans.Named.{with_other, with_other_place, with_there}

-- the word at a place of a `words` local
abbrev pub word_in : Locals → Spot → Word
word_in l spot = get_or (value_at spot.words l.words []) (spot.place - 1) no_word

-- the view in a local
abbrev pub view_in : Locals → Name → List ℕ
view_in l x = value_at x l.views []

-- the view of a local, if there is one
abbrev pub named_view : Locals → Option Name → List ℕ
named_view l None = []
named_view l (Some x) = view_in l x

abbrev pub register : Memory → ℕ → Word
register m j = get_or m.words (j - 1) no_word

abbrev pub view_register : Memory → ℕ → List ℕ
view_register m j = get_or m.views (j - 1) []

-- the data of the first words in a local, so many
abbrev pub data_of : Locals → Name → (count : ℕ) → List ℕ
data_of l y count = map (λ (w : Word). w.datum) (take count (value_at y l.words []))

-- what an act tells of the registers and locals before and after it
abbrev pub Tells : Locals → Memory → Act → Memory → Locals → Type 0
Tells l m (act.Answer v x) m' l' = v ≡ named_view l x
Tells l m (act.Write j values x) m' l' = (register m' j).view ≡ named_view l x
Tells l m (act.Publish j x) m' l' = view_register m' j ≡ view_in l x
Tells l m (act.Read j spot) m' l' = (0 < j) × (word_in l' spot ≡ register m j)
Tells l m (act.Look j x) m' l' = (0 < j) × (view_in l' x ≡ view_register m j)
Tells l m (act.Borrow spot x) m' l' = (0 < spot.place) × (view_in l' x ≡ (word_in l spot).view)
Tells l m (act.Collect x) m' l' = (y : Name) × (view_in l' x ≡ data_of l y (length (view_in l' x)))
Tells l m _ m' l' = Unit {0}

pub record Went (l : Locals) (m : Memory) (a : Act) (m' : Memory) (l' : Locals) : Type 0 where
  pub words : (j : ℕ) → 0 < j → writes_word j a ≡ false → register m' j ≡ register m j
  pub views : (j : ℕ) → 0 < j → publishes j a ≡ false → view_register m' j ≡ view_register m j
  pub local_views : (x : Name) → sets_view x a ≡ false → view_in l' x ≡ view_in l x
  pub local_words : (spot : Spot) → 0 < spot.place → reads_into spot a ≡ false → word_in l' spot ≡ word_in l spot
  pub tells : Tells l m a m' l'

-- an item that leaves all of them
pub kept : (l l' : Locals) (m m' : Memory) (a : Act) → m'.words ≡ m.words → m'.views ≡ m.views →
    l'.views ≡ l.views → l'.words ≡ l.words → Tells l m a m' l' → Went l m a m' l'
kept l l' m m' a words views local_views local_words tells = record {
  words = λ j one away. ap (λ (ws : List Word). get_or ws (j - 1) no_word) words;
  views = λ j one away. ap (λ (vs : List (List ℕ)). get_or vs (j - 1) []) views;
  local_views = λ x away. ap (λ (vs : NameMap (List ℕ)). value_at x vs []) local_views;
  local_words =
      λ spot one away. ap (λ (ws : NameMap (List Word)). get_or (value_at spot.words ws []) (spot.place - 1) no_word)
      local_words;
  tells = tells;
}

either_differs : (a b : Bool) (P : Type 0) → (a && b) ≡ false → (a ≡ false → P) → (a ≡ true → b ≡ false → P) → P
either_differs true b P away one two = two refl away
either_differs false b P away one two = one refl

-- places that differ, counted from 1, and from 0
places_differ : (j k : ℕ) → 0 < j → 0 < k → nat_eq j k ≡ false → k - 1 ≢ j - 1
places_differ j k one two away = λ same. eqb-false j k away (omega (arith, one, two, same))

module _ (l : Locals) (m : Memory) where
  -- a word is read
  pub got : (x : Name) (p j : ℕ) → 0 < p → 0 < j → p - 1 < length (value_at x l.words []) →
      Went l m (act.Read j (record { words = x; place = p })) m
      (with_words x (set (value_at x l.words []) (p - 1) (register m j)) l)
  got x p j one two within =
      let old : List Word = value_at x l.words [] in
      let new : List Word = set old (p - 1) (register m j) in
      let l' : Locals = with_words x new l in record {
        words = λ k more away. refl;
        views = λ k more away. refl;
        local_views = λ y away. refl;
        local_words = λ spot more away. either_differs (bytes_eq x spot.words) (nat_eq p spot.place)
            (word_in l' spot ≡ word_in l spot) away
            (λ other. ap (λ (ws : List Word). get_or ws (spot.place - 1) no_word)
            (with_other x spot.words new [] l.words other))
            (λ same other. subst (λ (y : Name). get_or (value_at y l'.words []) (spot.place - 1) no_word
            ≡ get_or (value_at y l.words []) (spot.place - 1) no_word) ((bytes_eq-Decides x spot.words).0 same)
            (with_other_place x (p - 1) (spot.place - 1) (register m j) no_word l.words
            (places_differ p spot.place one more other)));
        tells = (
          two,
          ap (λ (ws : List Word). get_or ws (p - 1) no_word)
              (with_there x new l.words (sym (length-set old (p - 1) (register m j))))
              ∙ get_or-set_same old (p - 1) (register m j) no_word within,
        );
      }

  -- a view is set in a local
  sets : (x : Name) (v : List ℕ) (a : Act) → ((y : Name) → sets_view y a ≡ bytes_eq x y) →
      Tells l m a m (with_view x v l) → Went l m a m (with_view x v l)
  sets x v a is tells = record {
    words = λ k more away. refl;
    views = λ k more away. refl;
    local_views = λ y away. with_other x y v [] l.views (sym (is y) ∙ away);
    local_words = λ spot more away. refl;
    tells = tells;
  }

  -- a view that is looked at is one that a process has written
  pub looked : (x : Name) (j : ℕ) → 0 < j → length (view_in l x) ≡ length (view_register m j) →
      Went l m (act.Look j x) m (with_view x (view_register m j) l)
  looked x j one long =
      sets x (view_register m j) (act.Look j x) (λ y. refl) (one, with_there x (view_register m j) l.views long)

  -- a view that is borrowed is the one beside a word
  pub borrowed : (x : Name) (spot : Spot) → 0 < spot.place → length (view_in l x) ≡ length (word_in l spot).view →
      Went l m (act.Borrow spot x) m (with_view x (word_in l spot).view l)
  borrowed x spot one long =
      sets x (word_in l spot).view (act.Borrow spot x) (λ y. refl)
      (one, with_there x (word_in l spot).view l.views long)

  -- a view that is collected is made of the words in a local
  pub collected : (x y : Name) (v : List ℕ) → length (view_in l x) ≡ length v → v ≡ data_of l y (length v) →
      Went l m (act.Collect x) m (with_view x v l)
  collected x y v long is =
      let there : view_in (with_view x v l) x ≡ v = with_there x v l.views long in
      sets x v (act.Collect x) (λ z. refl) (y, there ∙ is ∙ ap (λ (u : List ℕ). data_of l y (length u)) (sym there))

  -- a word is written
  pub wrote : (j : ℕ) (values : List ℕ) (x : Option Name) (word : Word) → 0 < j → j - 1 < length m.words →
      word.view ≡ named_view l x → Went l m (act.Write j values x) (with_memory_words (set m.words (j - 1) word) m) l
  wrote j values x word one within view = record {
    words = λ k more away. get_or-set_other m.words (j - 1) (k - 1) word no_word (places_differ j k one more away);
    views = λ k more away. refl;
    local_views = λ y away. refl;
    local_words = λ spot more away. refl;
    tells = ap (λ (w : Word). w.view) (get_or-set_same m.words (j - 1) word no_word within) ∙ view;
  }

  -- a view is written
  pub published : (j : ℕ) (x : Name) → 0 < j → j - 1 < length m.views →
      Went l m (act.Publish j x) (with_memory_views (set m.views (j - 1) (view_in l x)) m) l
  published j x one within = record {
    words = λ k more away. refl;
    views = λ k more away. get_or-set_other m.views (j - 1) (k - 1) (view_in l x) [] (places_differ j k one more away);
    local_views = λ y away. refl;
    local_words = λ spot more away. refl;
    tells = get_or-set_same m.views (j - 1) (view_in l x) [] within;
  }
