-- Where what is printed of a live run is cut: before the report stands the schedule.
use Rattle.std.proofs.Common.{◌≡◌, ℕ, ◌<◌, ◌≤◌, ◌⊎◌, inl, Bool, true, false, ◌&&◌, List, [], ◌∷◌, ◌++◌}
use Rattle.std.proofs.Common.{append_assoc, length, map, nat_eq, ne_eqb, if◌then◌else◌}
use Rattle.std.proofs.Common.{codes, refl, sym, ap, ◌∙◌, arith}
use Rattle.std.proofs.lemmas.Bool.{and_parts}
use Rattle.std.specs.List.{AllByRecursion, list_all}
use Rattle.snap_semantics.specs.Layout.{depth_behind, gap, layout, line_text, line_to, lines_text, parts_before}
use Rattle.snap_semantics.specs.Layout.{parts_behind, token_text}
use Rattle.snap_semantics.specs.Token.{Token, is_digit, onto_line}
use Rattle.snap_text.specs.Tokens.{IsSound}
use Rattle.snap_text.proofs.Before.{bare_plain, is_bare, is_plain}
use Rattle.snap_text.proofs.Digits.{digit_within}
use Rattle.snap_text.proofs.Ends.{line_ends}
use Rattle.snap_text.proofs.Printed.{joined_bare, space, space_bare, token_bare}
use Rattle.snap_input.specs.Parts.{ends_part, full_lines, parts_of_lines}
use Rattle.snap_history_laws.specs.reruns.Printed.{before_report, begins_report, lines_before_report}

-- a line before others
line_before : (line rest : List ℕ) → list_all is_plain line ≡ true →
    full_lines (line ++ 10 ∷ rest) ≡ (line ++ 10 ∷ []) ∷ full_lines rest
line_before [] rest h = refl
line_before (b ∷ line) rest h =
    let parts = and_parts (is_plain b) (list_all is_plain line) h in
    let more = line_before line rest parts.1 in grind arith

-- no line feed stands in a line that is laid out
gap_by : (b c : Bool) → (if b then (if c then codes " " else []) else []) ≡ space (b && c)
gap_by b c = grind arith

laid_bare : (depth : ℕ) (t : Token) (us : List Token) → AllByRecursion IsSound us →
    list_all is_bare (layout [] depth t us) ≡ true
laid_bare depth t [] h = refl
laid_bare depth t (u ∷ us) h =
    let behind = layout [] (depth_behind depth t u) u us in
    joined_bare (gap depth t u) (token_text u ++ behind)
    (ap (list_all is_bare) (gap_by (parts_behind depth t) (parts_before t u))
    ∙ space_bare (parts_behind depth t && parts_before t u))
    (joined_bare (token_text u) behind (token_bare u h.0) (laid_bare (depth_behind depth t u) u us h.1))

line_plain : (ts : List Token) → AllByRecursion IsSound ts → list_all is_plain (line_to [] ts) ≡ true
line_plain [] h = refl
line_plain (t ∷ ts) h =
    bare_plain (line_to [] (t ∷ ts))
    (joined_bare (token_text t) (layout [] 0 t ts) (token_bare t h.0) (laid_bare 0 t ts h.1))

-- the lines of a text that is laid out
one_line : (ts : List Token) (rest : List ℕ) → AllByRecursion IsSound ts →
    full_lines (line_text ts ++ rest) ≡ line_text ts ∷ full_lines rest
one_line ts rest h =
    ap (λ (l : List ℕ). full_lines (l ++ rest)) (line_ends (10 ∷ []) ts)
    ∙ ap full_lines (append_assoc (line_to [] ts) (10 ∷ []) rest)
    ∙ line_before (line_to [] ts) rest (line_plain ts h)
    ∙ ap (λ (l : List ℕ). l ∷ full_lines rest) (sym (line_ends (10 ∷ []) ts))

pub laid_lines : (ls : List (List Token)) (rest : List ℕ) → AllByRecursion (AllByRecursion IsSound) ls →
    full_lines (lines_text ls ++ rest) ≡ map line_text ls ++ full_lines rest
laid_lines [] rest h = refl
laid_lines (ts ∷ ls) rest h =
    ap full_lines (append_assoc (line_text ts) (lines_text ls) rest) ∙ one_line ts (lines_text ls ++ rest) h.0
    ∙ ap (λ (lines : List (List ℕ)). line_text ts ∷ lines) (laid_lines ls rest h.1)

-- a text that begins with a digit or an `s`
pub record BeginsSo (text : List ℕ) : Type 0 where
  pub byte : ℕ
  pub rest : List ℕ
  pub is : text ≡ byte ∷ rest
  pub other : ((48 ≤ byte) × (byte ≤ 57)) ⊎ (byte ≡ 115)

pub number_begins : (text : List ℕ) → 0 < length text → list_all is_digit text ≡ true → BeginsSo text
number_begins [] some h = absurd (omega (arith, some))
number_begins (b ∷ bs) some h =
    record {
      byte = b;
      rest = bs;
      is = refl;
      other = inl (digit_within b (and_parts (is_digit b) (list_all is_digit bs) h).0);
    }

pub longer_begins : (xs ys : List ℕ) → BeginsSo xs → BeginsSo (xs ++ ys)
longer_begins xs ys h =
    record { byte = h.byte; rest = h.rest ++ ys; is = ap (λ (l : List ℕ). l ++ ys) h.is; other = h.other }

-- a digit or an `s` begins no report, and ends no part
no_report : (line : List ℕ) → BeginsSo line → begins_report line ≡ false
no_report line h =
    let other : nat_eq h.byte 114 ≡ false = ne_eqb h.byte 114 (λ e. grind arith) in rw (h.is, other)

no_end : (line : List ℕ) → BeginsSo line → ends_part line ≡ false
no_end line h =
    let other : nat_eq h.byte 37 ≡ false = ne_eqb h.byte 37 (λ e. grind arith) in rw (h.is, other)

-- lines that begin so stand before a report
pub stand_before : (ls : List (List Token)) (lines : List (List ℕ)) →
    AllByRecursion (λ ts. BeginsSo (line_text ts)) ls →
    lines_before_report (map line_text ls ++ lines) ≡ lines_text ls ++ lines_before_report lines
stand_before [] lines h = refl
stand_before (ts ∷ ls) lines h =
    rw (no_report (line_text ts) h.0, stand_before ls lines h.1)
    (sym (append_assoc (line_text ts) (lines_text ls) (lines_before_report lines)))

-- lines are one part
pub one_part : (ls : List (List Token)) → AllByRecursion (λ ts. BeginsSo (line_text ts)) ls →
    parts_of_lines (map line_text ls) ≡ lines_text ls ∷ []
one_part [] h = refl
one_part (ts ∷ ls) h = rw (no_end (line_text ts) h.0, one_part ls h.1)

-- nothing of a report stands before it
report_alone : (rest : List (List ℕ)) → lines_before_report
    (onto_line 114 (onto_line 101
    (onto_line 112 (onto_line 111 (onto_line 114 (onto_line 116 (onto_line 32 (onto_line 97 (onto_line 116 rest)))))))))
    ≡ []
report_alone [] = refl
report_alone (line ∷ lines) = refl

pub none_before : (rest : List ℕ) → before_report (codes "report at" ++ rest) ≡ []
none_before rest = report_alone (full_lines rest)
