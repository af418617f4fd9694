-- Lines that are calls.
use Rattle.std.proofs.Common.{◌≡◌, ℕ, suc, ◌+◌, true, List, [], ◌∷◌, ◌++◌, length, Option, Some, codes}
use Rattle.std.proofs.Common.{refl, sym, ap, ◌∙◌, arith, append_assoc}
use Rattle.std.proofs.lemmas.Bool.{and_from}
use Rattle.std.proofs.lemmas.List.{length-append}
use Rattle.std.proofs.lemmas.List.Folds.{list_all-append}
use Rattle.std.specs.List.{list_all}
use Rattle.snap_semantics.specs.declared.process.Op.{Op}
use Rattle.snap_semantics.specs.declared.process.Op.TheVariants as op
use Rattle.snap_semantics.specs.ScheduleForms.{spelled_call}
use Rattle.snap_semantics.specs.Token.{Token, Identifier, Number, TextLine, lines_of, with_line, numbered}
use Rattle.snap_text.proofs.Before.{is_plain, bare_plain, line_before, space_before, token_before, word_before}
use Rattle.snap_text.proofs.Decimals.{digits_lexeme}
use Rattle.snap_text.proofs.Digits.{digits_alone}
use Rattle.snap_text.proofs.Printed.{digits_bare, joined_bare}
use Rattle.snap_text.specs.Calls.{BeginsWithOp}
use Rattle.snap_text.specs.Numbers.{BeginsWithNumber, BeginsWithLine}

-- ` scan`
pub scan_begins : (bytes rest : List ℕ) → bytes ≡ codes " scan" ++ rest → BeginsWithOp bytes op.Scan rest
scan_begins bytes rest is = record {
  text = codes " scan";
  spelled = is;
  one_line = refl;
  tokens = Identifier (codes "scan") ∷ [];
  front = refl;
  call = λ i. refl;
}

-- ` update `, digits, a space, and digits
pub update_begins : (bytes words behind values rest : List ℕ) (k x : ℕ) → bytes ≡ codes " update " ++ words →
    BeginsWithNumber words k behind → behind ≡ codes " " ++ values →
    BeginsWithNumber values x rest → BeginsWithOp bytes (op.Update k x) rest
update_begins bytes words behind values rest k x is h space g =
    let numbers = h.digits ++ 32 ∷ g.digits in
    let spaced : behind ≡ 32 ∷ (g.digits ++ rest) = space ∙ ap (λ (xs : List ℕ). 32 ∷ xs) g.spelled in
    let both : words ≡ numbers ++ rest =
    h.spelled ∙ ap (λ (xs : List ℕ). h.digits ++ xs) spaced ∙ sym (append_assoc h.digits (32 ∷ g.digits) rest) in
    let second = space_before g.digits (Number x ∷ []) (digits_alone values rest x g) in
    let first = token_before h.digits (32 ∷ g.digits) (Number x ∷ []) (Number k) h.some
    (digits_lexeme h.digits h.all) h.spells second in
    let word =
    word_before (codes "update") (32 ∷ numbers) (Number k ∷ Number x ∷ []) (omega arith) refl
    (space_before numbers (Number k ∷ Number x ∷ []) first) in
    let text = codes " update " ++ numbers in
    record {
      text = text;
      spelled = is ∙ ap (λ (xs : List ℕ). codes " update " ++ xs) both;
      one_line =
          bare_plain text (joined_bare (codes " update ") numbers refl (joined_bare h.digits (32 ∷ g.digits)
          (digits_bare h.digits h.all) (joined_bare (32 ∷ []) g.digits refl (digits_bare g.digits g.all))));
      tokens = Identifier (codes "update") ∷ Number k ∷ Number x ∷ [];
      front =
          space_before (codes "update" ++ 32 ∷ numbers) (Identifier (codes "update") ∷ Number k ∷ Number x ∷ []) word;
      call = λ i. refl;
    }

joined_plain : (xs ys : List ℕ) → list_all is_plain xs ≡ true → list_all is_plain ys ≡ true →
    list_all is_plain (xs ++ ys) ≡ true
joined_plain xs ys h g = list_all-append is_plain xs ys ∙ and_from (list_all is_plain xs) (list_all is_plain ys) h g

-- digits and an operation before a line feed
pub call_begins : (bytes behind end rest : List ℕ) (i : ℕ) (o : Op) → BeginsWithNumber bytes i behind →
    BeginsWithOp behind o end → end ≡ codes "\n" ++ rest → BeginsWithLine bytes (spelled_call i o) rest
call_begins bytes behind end rest i o h g is =
    let line = h.digits ++ g.text in
    let inner : behind ≡ g.text ++ 10 ∷ rest = g.spelled ∙ ap (λ (xs : List ℕ). g.text ++ xs) is in
    let all : bytes ≡ line ++ 10 ∷ rest =
    h.spelled ∙ ap (λ (xs : List ℕ). h.digits ++ xs) inner ∙ sym (append_assoc h.digits g.text (10 ∷ rest)) in
    let size : length bytes ≡ length line + suc (length rest) = ap length all ∙ length-append line (10 ∷ rest) in
    record {
      line = line;
      lines =
          ap lines_of all ∙ line_before line rest
          (joined_plain h.digits g.text (bare_plain h.digits (digits_bare h.digits h.all)) g.one_line);
      tokens =
          token_before h.digits g.text g.tokens (Number i) h.some (digits_lexeme h.digits h.all) h.spells g.front
          ∙ ap (λ (ts : List Token). Some ts) (sym (g.call i));
      shorter = omega (arith, size);
    }

-- a call before other lines
call_line : (k i : ℕ) (o : Op) (lines : List TextLine) →
    with_line k (Some (spelled_call i o)) lines ≡ record { number = k; tokens = Some (spelled_call i o) } ∷ lines
call_line k i op.Scan lines = refl
call_line k i (op.Update word value) lines = refl

pub call_taken : (bytes rest : List ℕ) (k i : ℕ) (o : Op) → BeginsWithLine bytes (spelled_call i o) rest →
    numbered k (lines_of bytes)
    ≡ record { number = k; tokens = Some (spelled_call i o) } ∷ numbered (k + 1) (lines_of rest)
call_taken bytes rest k i o h =
    let lines = numbered (k + 1) (lines_of rest) in
    ap (numbered k) h.lines ∙ ap (λ (ts : Option (List Token)). with_line k ts lines) h.tokens ∙ call_line k i o lines
