-- The reader's loop over the numbered lines of a listing: one
-- line further, a line that is refused, and no more lines.
use Rattle.std.proofs.Common.{◌≡◌, ℕ, ◌+◌, List, [], ◌∷◌, ◌++◌, length, Option, Some, Result, Ok, Err, refl, sym, ap}
use Rattle.std.proofs.Common.{◌∙◌, append_assoc, subst}
use Rattle.std.proofs.lemmas.List.{append-nil, length-append}
use Rattle.snap_semantics.specs.declared.instr.Line.{Line}
use Rattle.snap_semantics.specs.declared.refusal.ListingRefusal.{ListingRefusal}
use Rattle.snap_semantics.specs.declared.refusal.ListingRefusal.TheVariants as refusal
use Rattle.snap_semantics.specs.Answers.{◌>>=◌, IsRefusal}
use Rattle.snap_semantics.specs.Rules.{form_or}
use Rattle.snap_semantics.specs.Listing.{checked_line, numbered_lines}
use Rattle.snap_semantics.specs.ListingForms.{line_form}
use Rattle.snap_semantics.specs.Source.{Source}
use Rattle.snap_semantics.specs.Token.{TextLine}
use Rattle.snap_semantics.specs.declared.fault.Fault.{Fault}
use Rattle.snap_semantics.specs.declared.fault.Fault.TheVariants as fault
use Rattle.snap_listing.specs.ReaderSteps.{numbered_line, added_line, onto}
use Rattle.snap_text.specs.declared.lines.TokenLine.{TokenLine}
use Rattle.snap_text.specs.Lines.{IsNext, view_line}

abbrev pub Lines : Type 0
Lines = Result (List Line) ListingRefusal

regrouped : (r : Result Line ListingRefusal) (f : Line → Result Line ListingRefusal) (g : Line → Lines) →
    (r >>= λ x. f x >>= g) ≡ ((r >>= f) >>= g)
regrouped (Ok x) f g = refl
regrouped (Err e) f g = refl

-- one line, and then the lines behind it
lines_on : (s : Source) (last count : ℕ) (text : TextLine) (texts : List TextLine) →
    numbered_lines s last count (text ∷ texts) ≡ (numbered_line s last count text
    >>= λ line. numbered_lines s line.number (count + 1) texts >>= λ lines. Ok (line ∷ lines))
lines_on s last count text texts =
    regrouped (form_or (refusal.BadLine text.number) (line_form s.kind) text.tokens)
    (λ form. checked_line s text.number last count form)
    (λ line. numbered_lines s line.number (count + 1) texts >>= λ lines. Ok (line ∷ lines))

onto_line : (lines : List Line) (line : Line) (more : Lines) →
    onto (lines ++ line ∷ []) more ≡ onto lines (more >>= λ xs. Ok (line ∷ xs))
onto_line lines line (Ok xs) = ap (λ (ys : List Line). let r : Lines = Ok ys in r) (append_assoc lines (line ∷ []) xs)
onto_line lines line (Err e) = refl

longer : (lines : List Line) (line : Line) → length (lines ++ line ∷ []) ≡ length lines + 1
longer lines line = length-append lines (line ∷ [])

abbrev Added : Type 0
Added = Result (ℕ × List Line) ListingRefusal

added_by : (lines : List Line) (number : ℕ) (lines' : List Line) (r : Result Line ListingRefusal) →
    (r >>= λ line. let a : Added = Ok (line.number, lines ++ line ∷ []) in a) ≡ Ok (number, lines') →
    (line : Line) × (r ≡ Ok line) × (line.number ≡ number) × (lines ++ line ∷ [] ≡ lines')
added_by lines number lines' (Ok line) e =
    let p : (line.number, lines ++ line ∷ []) ≡ (number, lines') = cc in
    (line, refl, ap (λ (y : ℕ × List Line). y.0) p, ap (λ (y : ℕ × List Line). y.1) p)
added_by lines number lines' (Err d) e = absurd cc

refused_by : (lines : List Line) (e : ListingRefusal) (r : Result Line ListingRefusal) →
    (r >>= λ line. let a : Added = Ok (line.number, lines ++ line ∷ []) in a) ≡ Err e → r ≡ Err e
refused_by lines e (Ok line) h = absurd cc
refused_by lines e (Err d) h = cc

-- one line further
pub line_more : (s : Source) (last number : ℕ) (lines lines' : List Line) (text : TextLine) (texts : List TextLine) →
    added_line s last lines text ≡ Ok (number, lines') →
    onto lines' (numbered_lines s number (length lines') texts)
    ≡ onto lines (numbered_lines s last (length lines) (text ∷ texts))
line_more s last number lines lines' text texts e =
    let a = added_by lines number lines' (numbered_line s last (length lines) text) e in
    let line = a.0 in
    ap (λ (xs : List Line). onto xs (numbered_lines s number (length xs) texts)) (sym a.3)
    ∙ ap (λ (k : ℕ). onto (lines ++ line ∷ []) (numbered_lines s k (length (lines ++ line ∷ [])) texts)) (sym a.2)
    ∙ ap (λ (k : ℕ). onto (lines ++ line ∷ []) (numbered_lines s line.number k texts)) (longer lines line)
    ∙ onto_line lines line (numbered_lines s line.number (length lines + 1) texts)
    ∙ ap (λ (r : Result Line ListingRefusal).
    onto lines (r >>= λ x. numbered_lines s x.number (length lines + 1) texts >>= λ xs. Ok (x ∷ xs))) (sym a.1)
    ∙ ap (λ (r : Lines). onto lines r) (sym (lines_on s last (length lines) text texts))

-- a line that is refused
pub line_refused : (s : Source) (last : ℕ) (lines : List Line) (text : TextLine)
    (texts : List TextLine) (e : ListingRefusal) →
    added_line s last lines text ≡ Err e → onto lines (numbered_lines s last (length lines) (text ∷ texts)) ≡ Err e
line_refused s last lines text texts e h =
    ap (λ (r : Lines). onto lines r) (lines_on s last (length lines) text texts)
    ∙ ap (λ (r : Result Line ListingRefusal).
    onto lines (r >>= λ x. numbered_lines s x.number (length lines + 1) texts >>= λ xs. Ok (x ∷ xs)))
    (refused_by lines e (numbered_line s last (length lines) text) h)

pub next_is : (o : Option TokenLine) (line : TokenLine) (old new : List TextLine) → o ≡ Some line →
    IsNext o old new → old ≡ view_line line ∷ new
next_is o line old new e h =
    let P : Option TokenLine → Type 0 = λ x. IsNext x old new in
    let q : IsNext (Some line) old new = subst P e h in
    q

-- the fault of a line is the fault of the lines
pub fault_stops : (s : Source) (last : ℕ) (lines : List Line) (text : TextLine)
    (texts old : List TextLine) (all : Lines) (f : Fault ListingRefusal) →
    old ≡ text ∷ texts → onto lines (numbered_lines s last (length lines) old) ≡ all →
    IsRefusal f (added_line s last lines text) → IsRefusal f all
fault_stops s last lines text texts old all fault.Memory next before h = tt
fault_stops s last lines text texts old all (fault.Refused e) next before h =
    sym before ∙ ap (λ (ts : List TextLine). onto lines (numbered_lines s last (length lines) ts)) next
    ∙ line_refused s last lines text texts e h

-- one line further, where the cursor has gone on
pub line_step : (s : Source) (last number : ℕ) (lines lines' : List Line) (text : TextLine)
    (texts old : List TextLine) (all : Lines) → old ≡ text ∷ texts →
    onto lines (numbered_lines s last (length lines) old) ≡ all → added_line s last lines text ≡ Ok (number, lines') →
    onto lines' (numbered_lines s number (length lines') texts) ≡ all
line_step s last number lines lines' text texts old all next before e =
    line_more s last number lines lines' text texts e
    ∙ ap (λ (ts : List TextLine). onto lines (numbered_lines s last (length lines) ts)) (sym next)
    ∙ before

-- no more lines
pub lines_end : (s : Source) (last : ℕ) (lines : List Line) →
    onto lines (numbered_lines s last (length lines) []) ≡ Ok lines
lines_end s last lines = ap (λ (xs : List Line). let r : Lines = Ok xs in r) (append-nil lines)
