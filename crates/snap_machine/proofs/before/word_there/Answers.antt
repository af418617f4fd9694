-- `word_there` of snap_machine (src/before.rt): the proof of what its contract says.
use Rattle.std.proofs.Common.{◌≡◌, ℕ, true, false, nat_lt, List, length, get_or, map, slice_get, option_map}
use Rattle.std.proofs.Common.{refl, sym, ap, ◌∙◌}
use Rattle.std.proofs.lemmas.Bool.{ltb-false, ltb-true}
use Rattle.std.proofs.lemmas.Option.{slice_get-map, slice_get_past, slice_get_read}
use Rattle.snap_words.specs.Word.{Word}
use Rattle.snap_machine.specs.Undo.{LocalWord, Nowhere}
use Rattle.snap_machine.specs.Written.{word_there}
use Rattle.snap_machine.proofs.before.word_there.Goals as goal

-- a word that is there
there : {W : Type 0} (as_word : W → Word) (k p : ℕ) (xs : List W) (x : W) → true ≡ nat_lt p (length xs) →
    x ≡ get_or xs p x → LocalWord k p (as_word x) ≡ word_there k p (slice_get (map as_word xs) p)
there as_word k p xs x e is =
    let found = slice_get_read xs (length xs) p x refl (ltb-true p (length xs) (sym e)) is in
    ap (word_there k p) (sym (slice_get-map as_word xs p ∙ ap (option_map as_word) found))

-- none that is past the end
past : {W : Type 0} (as_word : W → Word) (k p : ℕ) (xs : List W) → false ≡ nat_lt p (length xs) →
    Nowhere ≡ word_there k p (slice_get (map as_word xs) p)
past as_word k p xs e =
    let none = slice_get_past xs p (ltb-false p (length xs) (sym e)) in
    ap (word_there k p) (sym (slice_get-map as_word xs p ∙ ap (option_map as_word) none))

pub returns-in_ok-copy-in-Some : goal.returns-in_ok-copy-in-Some
returns-in_ok-copy-in-Some g c =
    let as_word = g.K.Kind.as_word in
    ap (λ w. LocalWord c.args.slot c.args.place (as_word w)) c.in_ok-copy-in-Some.ensures
    ∙ there as_word c.args.slot c.args.place c.args.words.now c.in-Some.word.now c.in-Some.ensures.lookup.0
    c.in-Some.ensures.lookup.1

pub returns-in-None : goal.returns-in-None
returns-in-None g c =
    past g.K.Kind.as_word c.args.slot c.args.place c.args.words.now c.in-None.ensures.lookup.0
