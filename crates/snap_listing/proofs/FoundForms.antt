-- What the rules for lines find, form by form: it is spelled as they found it, where its names have at most eight
-- letters; and it has a form that listings allow, where its tokens can stand in a text.
use Rattle.std.proofs.Common.{◌≡◌, ℕ, List, ◌∷◌, Option, false, ◌++◌, ◌∙◌, ap, codes, true, bytes_eq}
use Rattle.std.proofs.Common.{[], subst, sym, append_assoc}
use Rattle.std.proofs.lemmas.List.{append-nil}
use Rattle.snap_words.specs.declared.kind.KindTag.{KindTag}
use Rattle.snap_semantics.specs.declared.instr.Instr.{Instr}
use Rattle.snap_semantics.specs.declared.instr.Line.{Line}
use Rattle.snap_semantics.specs.declared.text.Sort.TheVariants as sort
use Rattle.snap_semantics.specs.declared.text.Symbol.TheVariants as symbol
use Rattle.snap_semantics.specs.IsListing.{HasForm}
use Rattle.snap_semantics.specs.ListingForms.{let_form, let_place_form, get_form, bit_form, look_form, put_form}
use Rattle.snap_semantics.specs.ListingForms.{put_bit_form, put_view_form, view_data_form, view_of_form, each_form}
use Rattle.snap_semantics.specs.ListingForms.{first_form, next_form, if_form, if_all_form, goto_form, call_form}
use Rattle.snap_semantics.specs.ListingForms.{return_form, finish_form, form_of_keyword, is_line_number, line_form}
use Rattle.snap_semantics.specs.Spelling.{spelled_instr, spelled_line}
use Rattle.snap_semantics.specs.Token.{Token, Identifier, Number, Sign}
use Rattle.snap_semantics.specs.Uses.{Use, instr_uses, index_uses, expr_uses}
use Rattle.snap_listing.proofs.HasTerms.{Holds, Finds, found, missed, on, first_of_two, when, so, Sounds}
use Rattle.snap_listing.proofs.SpelledTerms.{Shorts, same_word, Reads, ◌⊳◌, ◌▹◌, unread, unnamed, sign, keyword}
use Rattle.snap_listing.proofs.SpelledTerms.{number, word, ending, name, bracket, place, expr_part, condition}
use Rattle.snap_listing.proofs.SpelledTerms.{where_part, range_part, target, pair, bank_part, tuple_part}

-- what is read behind the first keyword of a line, and its form where the tokens can stand in a text
abbrev FormIs : Type 0 → List ℕ → List Token → Instr → Type 0
FormIs G w ts i = Reads (instr_uses i) (Identifier w ∷ ts) (spelled_instr i) [] × (G → HasForm i)

-- the last part, behind the keyword
whole : {us : List Use} {ts rest sp : List Token} {t : Token} → Reads us ts sp rest → rest ≡ [] →
    Reads us (t ∷ ts) (t ∷ sp) []
whole {sp = sp} {t} h z =
    record { spelled = λ short. ap (λ (x : List Token). t ∷ x) (h.spelled short ∙ ap (λ (x : List Token). sp ++ x) z) }

-- the uses of a pair of indexes, and those behind them
regrouped : (us vs ws : List Use) {ts sp rest : List Token} → Reads ((us ++ vs) ++ ws) ts sp rest →
    Reads (us ++ (vs ++ ws)) ts sp rest
regrouped us vs ws h =
    record { spelled = λ short. h.spelled (subst Shorts (sym (append_assoc us vs ws)) short) }

module _ {G : Type 0} (ts : List Token) (s : G → Sounds ts) where
  let_is : Finds (FormIs G (codes "let") ts) (let_form ts)
  unfolding let_form
  let_is =
      on _ (name sort.Scalar ts s) (λ x n. on _ (sign symbol.Equal x.1 n.sound) (λ a p.
      on _ (expr_part false a p.sound) (λ e h. on _ (ending e.1) (λ end z.
      found (whole (n.reads ⊳ p.reads ⊳ h.reads) z, h.has)))))

  let_place_is : Finds (FormIs G (codes "let") ts) (let_place_form ts)
  unfolding let_place_form
  let_place_is =
      on _ (place sort.Row false ts s) (λ x n. on _ (sign symbol.Equal x.1 n.sound) (λ a p.
      on _ (expr_part false a p.sound) (λ e h. on _ (ending e.1) (λ end z.
      found (whole (n.reads ⊳ p.reads ⊳ h.reads) z, λ g. (n.has g, h.has g))))))

  get_is : Finds (FormIs G (codes "get") ts) (get_form ts)
  unfolding get_form
  get_is =
      on _ (place sort.Words false ts s) (λ x n. on _ (sign symbol.Equal x.1 n.sound) (λ a p.
      on _ (keyword (codes "r") a p.sound) (λ b r. on _ (bracket false b r.sound) (λ j h. on _ (ending j.1) (λ end z.
      found (whole (n.reads ⊳ p.reads ⊳ r.reads ⊳ h.reads) z, λ g. (n.has g, h.has g)))))))

  bit_is : Finds (FormIs G (codes "bit") ts) (bit_form ts)
  unfolding bit_form
  bit_is =
      on _ (name sort.Scalar ts s) (λ x n. on _ (sign symbol.Equal x.1 n.sound) (λ a p.
      on _ (bank_part a p.sound) (λ b r. on _ (pair b.1 r.sound) (λ i h. on _ (ending i.1) (λ end z.
      found (whole (n.reads ⊳ p.reads ⊳ r.reads ⊳ unnamed h.reads) z, h.has))))))

  look_is : Finds (FormIs G (codes "look") ts) (look_form ts)
  unfolding look_form
  look_is =
      on _ (name sort.View ts s) (λ x n. on _ (sign symbol.Equal x.1 n.sound) (λ a p.
      on _ (keyword (codes "v") a p.sound) (λ b r. on _ (bracket false b r.sound) (λ i h. on _ (ending i.1) (λ end z.
      found (whole (n.reads ⊳ p.reads ⊳ r.reads ⊳ unnamed h.reads) z, h.has))))))

  put_is : (k : KindTag) → Finds (FormIs G (codes "put") ts) (put_form k ts)
  unfolding put_form
  put_is k =
      on _ (keyword (codes "r") ts s) (λ a r. on _ (bracket false a r.sound) (λ i g.
      on _ (sign symbol.Equal i.1 g.sound) (λ b p. on _ (tuple_part k b p.sound) (λ t h. on _ (ending t.1) (λ end z.
      found (whole (r.reads ⊳ g.reads ⊳ p.reads ⊳ h.reads) z, λ s. (g.has s, h.has s)))))))

  put_bit_is : Finds (FormIs G (codes "put") ts) (put_bit_form ts)
  unfolding put_bit_form
  put_bit_is =
      on _ (bank_part ts s) (λ b r. on _ (pair b.1 r.sound) (λ i g. on _ (sign symbol.Equal i.1 g.sound) (λ a p.
      on _ (expr_part false a p.sound) (λ e h. on _ (ending e.1) (λ end z.
      let last = regrouped (index_uses i.0.0) (index_uses i.0.1) (expr_uses e.0) (g.reads ⊳ p.reads ⊳ h.reads) in
      found (whole (unnamed (r.reads ⊳ last)) z, λ s. let indexes = g.has s in (indexes.0, indexes.1, h.has s)))))))

  put_view_is : Finds (FormIs G (codes "put") ts) (put_view_form ts)
  unfolding put_view_form
  put_view_is =
      on _ (keyword (codes "v") ts s) (λ a r. on _ (bracket false a r.sound) (λ i g.
      on _ (sign symbol.Equal i.1 g.sound) (λ b p. on _ (name sort.View b p.sound) (λ x n. on _ (ending x.1) (λ end z.
      found (whole (unnamed (r.reads ⊳ g.reads ⊳ p.reads ⊳ n.reads)) z, g.has))))))

  view_data_is : Finds (FormIs G (codes "view") ts) (view_data_form ts)
  unfolding view_data_form
  view_data_is =
      on _ (name sort.View ts s) (λ x n. on _ (sign symbol.Equal x.1 n.sound) (λ a p.
      on _ (keyword (codes "data") a p.sound) (λ b r. on _ (sign symbol.OpenParenthesis b r.sound) (λ c o.
      on _ (name sort.Words c o.sound) (λ y m. on _ (sign symbol.CloseParenthesis y.1 m.sound) (λ d e.
      on _ (ending d) (λ end z.
      found (whole (n.reads ⊳ p.reads ⊳ r.reads ⊳ o.reads ⊳ m.reads ▹ e.reads) z, m.has))))))))

  view_of_is : Finds (FormIs G (codes "view") ts) (view_of_form ts)
  unfolding view_of_form
  view_of_is =
      on _ (name sort.View ts s) (λ x n. on _ (sign symbol.Equal x.1 n.sound) (λ a p.
      on _ (keyword (codes "view") a p.sound) (λ b r. on _ (sign symbol.OpenParenthesis b r.sound) (λ c o.
      on _ (place sort.Words false c o.sound) (λ y m. on _ (sign symbol.CloseParenthesis y.1 m.sound) (λ d e.
      on _ (ending d) (λ end z.
      found (whole (n.reads ⊳ p.reads ⊳ r.reads ⊳ o.reads ⊳ unnamed (m.reads ▹ e.reads)) z, m.has))))))))

  each_is : Finds (FormIs G (codes "each") ts) (each_form ts)
  unfolding each_form
  each_is =
      on _ (range_part ts s) (λ g r. on _ (sign symbol.Colon g.1 r.sound) (λ a p.
      on _ (name sort.Row a p.sound) (λ x n. on _ (sign symbol.OpenBracket x.1 n.sound) (λ b o.
      on _ (sign symbol.At b o.sound) (λ c t. on _ (sign symbol.CloseBracket c t.sound) (λ d u.
      on _ (sign symbol.Equal d u.sound) (λ f v. on _ (expr_part true f v.sound) (λ e h.
      on _ (where_part e.1 h.sound) (λ k j. on _ (ending k.1) (λ end z.
      let row = r.reads ⊳ p.reads ⊳ n.reads ⊳ o.reads ⊳ t.reads ⊳ u.reads ⊳ v.reads in
      found (whole (row ⊳ h.reads ⊳ j.reads) z, λ s. (h.has s, j.has s))))))))))))

  first_is : Finds (FormIs G (codes "first") ts) (first_form ts)
  unfolding first_form
  first_is =
      on _ (name sort.Scalar ts s) (λ x n. on _ (range_part x.1 n.sound) (λ g r.
      on _ (sign symbol.Colon g.1 r.sound) (λ a p. on _ (condition true a p.sound) (λ k h.
      on _ (target k.1 h.sound) (λ t e. on _ (ending t.1) (λ end z.
      found (whole (n.reads ⊳ r.reads ⊳ p.reads ⊳ h.reads ▹ e.reads) z, h.has)))))))

  next_is : Finds (FormIs G (codes "next") ts) (next_form ts)
  unfolding next_form
  next_is =
      on _ (name sort.Scalar ts s) (λ x n. on _ (range_part x.1 n.sound) (λ g r. on _ (target g.1 r.sound) (λ t e.
      on _ (ending t.1) (λ end z. found (whole (n.reads ⊳ r.reads ⊳ e.reads) z, n.has)))))

  if_is : Finds (FormIs G (codes "if") ts) (if_form ts)
  unfolding if_form
  if_is =
      on _ (condition false ts s) (λ k h. on _ (target k.1 h.sound) (λ t e.
      on _ (ending t.1) (λ end z. found (whole (h.reads ▹ e.reads) z, h.has))))

  if_all_is : Finds (FormIs G (codes "if") ts) (if_all_form ts)
  unfolding if_all_form
  if_all_is =
      on _ (keyword (codes "all") ts s) (λ a w. on _ (range_part a w.sound) (λ g r.
      on _ (sign symbol.Colon g.1 r.sound) (λ b p. on _ (condition true b p.sound) (λ k h.
      on _ (target k.1 h.sound) (λ t e. on _ (ending t.1) (λ end z.
      found (whole (w.reads ⊳ r.reads ⊳ p.reads ⊳ h.reads ▹ e.reads) z, h.has)))))))

  goto_is : Finds (FormIs G (codes "goto") ts) (goto_form ts)
  unfolding goto_form
  goto_is = on _ (number ts s) (λ k p. on _ (ending k.1) (λ end z. found (whole p.reads z, λ g. tt)))

  call_is : Finds (FormIs G (codes "call") ts) (call_form ts)
  unfolding call_form
  call_is = on _ (number ts s) (λ k p. on _ (ending k.1) (λ end z. found (whole p.reads z, λ g. tt)))

  return_is : Finds (FormIs G (codes "return") ts) (return_form ts)
  unfolding return_form
  return_is = on _ (name sort.View ts s) (λ x n. on _ (ending x.1) (λ end z. found (whole n.reads z, n.has)))

  finish_is : Finds (FormIs G (codes "finish") ts) (finish_form ts)
  unfolding finish_form
  finish_is = on _ (ending ts) (λ end z. found (whole unread z, λ g. tt))

  -- the form is that of its first keyword
  of_word : (w x : List ℕ) {o : Option Instr} → Finds (FormIs G x ts) o → bytes_eq w x ≡ true → Finds (FormIs G w ts) o
  of_word w x h e =
      so {Q = FormIs G x ts} h (λ i f. (record { spelled = λ short. same_word w x ts e ∙ f.0.spelled short }, f.1))

  form_is : (k : KindTag) (w : List ℕ) → Finds (FormIs G w ts) (form_of_keyword k w ts)
  unfolding form_of_keyword
  form_is k w =
      when _ (of_word w (codes "let") (first_of_two let_is let_place_is))
      (when _ (of_word w (codes "get") get_is)
      (when _ (of_word w (codes "bit") bit_is)
      (when _ (of_word w (codes "look") look_is)
      (when _ (of_word w (codes "put") (first_of_two (put_is k) (first_of_two put_bit_is put_view_is)))
      (when _ (of_word w (codes "view") (first_of_two view_data_is view_of_is))
      (when _ (of_word w (codes "each") each_is)
      (when _ (of_word w (codes "first") first_is)
      (when _ (of_word w (codes "next") next_is)
      (when _ (of_word w (codes "if") (first_of_two if_is if_all_is))
      (when _ (of_word w (codes "goto") goto_is)
      (when _ (of_word w (codes "call") call_is)
      (when _ (of_word w (codes "return") return_is)
      (when _ (of_word w (codes "finish") finish_is) missed)))))))))))))

abbrev pub LineIs : List Token → Line → Type 0
LineIs ts line = Shorts (instr_uses line.instr) → ts ≡ spelled_line line

-- a line is spelled as it was found, and has a form and a number that listings allow
abbrev pub LineFound : List Token → Line → Type 0
LineFound ts line = LineIs ts line × (is_line_number line.number ≡ true) × (Sounds ts → HasForm line.instr)

pub line_found : (g : KindTag) (ts : List Token) → Finds (LineFound ts) (line_form g ts)
unfolding line_form
line_found g ts =
    on _ (number ts (λ sound. sound)) (λ k p. on _ (sign symbol.Colon k.1 p.sound) (λ a c.
    on _ (word a c.sound) (λ w r. on _ (form_is w.1 r.sound g w.0) (λ i h.
    when (is_line_number k.0) (λ e. found (
      λ short.
          p.reads.spelled tt
          ∙ ap (λ (x : List Token). Number k.0 ∷ x) (c.reads.spelled tt
          ∙ ap (λ (x : List Token). Sign symbol.Colon ∷ x) (r.reads.spelled tt ∙ h.0.spelled short ∙ append-nil _)),
      e,
      h.1,
    )) missed))))

pub line_is : (g : KindTag) (ts : List Token) → Holds (LineIs ts) (line_form g ts)
line_is g ts = let is : Finds (LineIs ts) (line_form g ts) = so (line_found g ts) (λ line h. h.0) in is.holds
