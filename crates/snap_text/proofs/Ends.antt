-- A line of tokens that is laid out with an end, as with its
-- comment, is the line laid out without one, and then the end.
use Rattle.std.proofs.Common.{◌≡◌, ℕ, List, [], ◌∷◌, ◌++◌, Result, Ok, Err, OnOk, refl, sym, ap, ◌∙◌, append_assoc}
use Rattle.snap_semantics.specs.Layout.{gap, token_text, depth_behind, layout, line_to}
use Rattle.snap_semantics.specs.Token.{Token}

behind_ends : (end : List ℕ) (depth : ℕ) (t : Token) (us : List Token) →
    layout end depth t us ≡ layout [] depth t us ++ end
behind_ends end depth t [] = refl
behind_ends end depth t (u ∷ us) =
    let behind = layout [] (depth_behind depth t u) u us in
    ap (λ (z : List ℕ). gap depth t u ++ (token_text u ++ z)) (behind_ends end (depth_behind depth t u) u us)
    ∙ ap (λ (z : List ℕ). gap depth t u ++ z) (sym (append_assoc (token_text u) behind end))
    ∙ sym (append_assoc (gap depth t u) (token_text u ++ behind) end)

pub line_ends : (end : List ℕ) (ts : List Token) → line_to end ts ≡ line_to [] ts ++ end
line_ends end [] = refl
line_ends end (t ∷ ts) =
    ap (λ (z : List ℕ). token_text t ++ z) (behind_ends end 0 t ts)
    ∙ sym (append_assoc (token_text t) (layout [] 0 t ts) end)

-- the tokens of a line, and then its end
pub line_pushed : {A E : Type 0} (r : Result A E) (end a b c : List ℕ) (ts : List Token) → b ≡ a ++ line_to [] ts →
    OnOk r (c ≡ b ++ end) → OnOk r (c ≡ a ++ line_to end ts)
line_pushed (Ok x) end a b c ts tokens ended =
    ended ∙ ap (λ (z : List ℕ). z ++ end) tokens ∙ append_assoc a (line_to [] ts) end
    ∙ ap (λ (z : List ℕ). a ++ z) (sym (line_ends end ts))
line_pushed (Err e) end a b c ts tokens ended = ended
