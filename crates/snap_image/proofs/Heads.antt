-- What the encoder adds before the lines of an image, part by part,
-- is `head_image`: signature, version, kind, names and entries.
use Rattle.std.proofs.Common.{◌≡◌, ℕ, List, [], ◌∷◌, ◌++◌, sym, ap, ◌∙◌, append_assoc}
use Rattle.snap_words.specs.declared.kind.KindTag.{KindTag}
use Rattle.snap_image.specs.declared.image.ImageVersion.TheVariants.{Second}
use Rattle.snap_image.specs.Image.{signature, table_image, head_image}
use Rattle.snap_image.specs.ImageCodes.{kind_code, version_code}
use Rattle.snap_semantics.specs.Source.{Source}
use Rattle.snap_image.specs.Operands.{tables_image, entries_image}

four_parts : (a b c d e : List ℕ) → (a ++ (b ++ (c ++ d))) ++ e ≡ a ++ (b ++ (c ++ (d ++ e)))
four_parts a b c d e =
    append_assoc a (b ++ (c ++ d)) e
    ∙ ap (λ (z : List ℕ). a ++ z) (append_assoc b (c ++ d) e ∙ ap (λ (z : List ℕ). b ++ z) (append_assoc c d e))

head_parts : (s : Source) →
    head_image Second s ≡ signature ++ version_code Second ∷ kind_code s.kind ∷ (tables_image s ++ entries_image s)
unfolding tables_image entries_image
head_parts s =
    ap (λ (z : List ℕ). signature ++ version_code Second ∷ kind_code s.kind ∷ z)
    (sym (four_parts (table_image s.scalars) (table_image s.rows) (table_image s.words)
    (table_image s.views) (entries_image s)))

-- the parts, added one behind the other
pub head_pushed : (s : Source) (k : KindTag) (o a v b c : List ℕ) →
    a ≡ o ++ signature → v ≡ a ++ version_code Second ∷ [] → k ≡ s.kind →
    b ≡ v ++ kind_code k ∷ [] → c ≡ b ++ tables_image s → c ++ entries_image s ≡ o ++ head_image Second s
head_pushed s k o a v b c p u is q r =
    let opening : List ℕ = signature ++ version_code Second ∷ [] in
    let opened : v ≡ o ++ opening =
    u ∙ ap (λ (z : List ℕ). z ++ version_code Second ∷ []) p ∙ append_assoc o signature (version_code Second ∷ []) in
    ap (λ (z : List ℕ). z ++ entries_image s) r
    ∙ append_assoc b (tables_image s) (entries_image s)
    ∙ ap (λ (z : List ℕ). z ++ (tables_image s ++ entries_image s))
    (q ∙ ap (λ (z : List ℕ). z ++ kind_code k ∷ []) opened
    ∙ ap (λ (z : KindTag). (o ++ opening) ++ kind_code z ∷ []) is)
    ∙ append_assoc (o ++ opening) (kind_code s.kind ∷ []) (tables_image s ++ entries_image s)
    ∙ append_assoc o opening (kind_code s.kind ∷ (tables_image s ++ entries_image s))
    ∙ ap (λ (z : List ℕ). o ++ z) (sym (head_parts s))
