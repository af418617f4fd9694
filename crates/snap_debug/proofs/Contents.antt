-- The debugger's test whether two contents of a register are the same, `same_contents`, holds if and only if they are
-- equal.
use Rattle.std.proofs.Common.{◌≡◌, ℕ, Bool, true, false, ◌&&◌, List, Option, Some, None, nat_eq, refl, ap}
use Rattle.std.specs.Prelude.{bytes_eq}
use Rattle.std.proofs.lemmas.Bool.{eq-eqb, eqb-true}
use Rattle.std.proofs.lemmas.Slice.Eq.{bytes_eq-Decides}
use Rattle.snap_words.specs.Word.{Word}
use Rattle.snap_semantics.specs.Readers.{Contents, WordContents, BitContents, ViewContents}
use Rattle.snap_debug.specs.Marks.{same_contents, same_word}

-- both parts of a true conjunction are true
pub both : (a b : Bool) → (a && b) ≡ true → (a ≡ true) × (b ≡ true)
both true b h = (refl, h)
both false b h = absurd cc

-- words of the same fields are one
word_is : (x y : Word) → same_word x y ≡ true → x ≡ y
word_is x y h =
    let a = both (nat_eq x.datum y.datum) _ h in
    let b = both (nat_eq x.seq y.seq) _ a.1 in
    let c = both (nat_eq x.id y.id) _ b.1 in
    let d = both (nat_eq x.toggle y.toggle) _ c.1 in
    let e = both (bytes_eq x.handshakes y.handshakes) _ d.1 in
    λ i. record {
      datum = eqb-true x.datum y.datum a.0 i;
      seq = eqb-true x.seq y.seq b.0 i;
      id = eqb-true x.id y.id c.0 i;
      toggle = eqb-true x.toggle y.toggle d.0 i;
      handshakes = (bytes_eq-Decides x.handshakes y.handshakes).0 e.0 i;
      view = (bytes_eq-Decides x.view y.view).0 e.1 i;
    }

-- a list compares equal to itself
bytes_same : (xs : List ℕ) → bytes_eq xs xs ≡ true
bytes_same xs = (bytes_eq-Decides xs xs).1 refl

-- contents that compare equal are equal
pub contents_are : (x y : Option Contents) → same_contents x y ≡ true → x ≡ y
contents_are (Some (WordContents x)) (Some (WordContents y)) h =
    ap (λ (w : Word). Some (WordContents w)) (word_is x y h)
contents_are (Some (BitContents x)) (Some (BitContents y)) h = ap (λ k. Some (BitContents k)) (eqb-true x y h)
contents_are (Some (ViewContents x)) (Some (ViewContents y)) h =
    ap (λ v. Some (ViewContents v)) ((bytes_eq-Decides x y).0 h)
contents_are None None h = refl
contents_are _ _ h = absurd cc

pub contents_same : (x : Option Contents) → same_contents x x ≡ true
contents_same (Some (WordContents x)) = simp (eq-eqb, bytes_same)
contents_same (Some (BitContents x)) = eq-eqb x x refl
contents_same (Some (ViewContents x)) = bytes_same x
contents_same None = refl
