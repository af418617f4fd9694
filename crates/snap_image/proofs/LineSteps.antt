-- The decoder's loop over the lines of an image with their comments:
-- one line further, a line that is refused, and no more lines.
use Rattle.std.proofs.Common.{◌≡◌, ℕ, ◌+◌, ◌-◌, ◌<◌, ◌≤◌, suc, List, [], ◌∷◌, ◌++◌, Result, Ok, Err, sym, ap, ◌∙◌}
use Rattle.std.proofs.Common.{append_assoc, refl, arith}
use Rattle.std.proofs.lemmas.List.{append-nil}
use Rattle.snap_image.specs.declared.image.ImageVersion.{ImageVersion}
use Rattle.snap_semantics.specs.declared.instr.Line.{Line}
use Rattle.snap_semantics.specs.declared.refusal.ImageRefusal.{ImageRefusal}
use Rattle.snap_semantics.specs.Answers.{◌>>=◌, IsRefusal}
use Rattle.snap_semantics.specs.Comments.{Comment}
use Rattle.snap_image.specs.ImageForms.{Rest, Read}
use Rattle.snap_image.specs.ImageListing.{behind_line_in, line_in, lines_in}
use Rattle.snap_semantics.specs.Source.{Source}
use Rattle.snap_semantics.specs.declared.fault.Fault.{Fault}
use Rattle.snap_semantics.specs.declared.fault.Fault.TheVariants as fault
use Rattle.snap_image.specs.DecoderSteps.{CommentedList, added_line, onto_lines, with_line}

abbrev Added : Type 0
Added = Result (ℕ × CommentedList × Rest) ImageRefusal

onto_led : (before : CommentedList) (x : Line) (c : Comment) (m : Read CommentedList) →
    onto_lines before (m >>= λ xs. Ok ((x ∷ xs.0.0, c ∷ xs.0.1), xs.1)) ≡ onto_lines (with_line before x c) m
onto_led before x c (Ok xs) = rw (append_assoc before.0 (x ∷ []) xs.0.0, append_assoc before.1 (c ∷ []) xs.0.1)
onto_led before x c (Err e) = refl

-- what two steps came to, of which the second takes what the first one gave
ok_parts : {A B : Type 0} (m : Result A ImageRefusal) (f : A → Result B ImageRefusal) (y : B) → (m >>= f) ≡ Ok y →
    (x : A) × (m ≡ Ok x) × (f x ≡ Ok y)
ok_parts (Ok x) f y e = (x, refl, e)
ok_parts (Err d) f y e = absurd cc

-- one line further
pub lines_step : (s : Source) (v : ImageVersion) (count k last number : ℕ) (before after : CommentedList)
    (r r' : Rest) → k < count → added_line s v (k + 1) last before r ≡ Ok (number, after, r') →
    onto_lines after (lines_in s v (count - (k + 1)) (k + 1 + 1) number r')
    ≡ onto_lines before (lines_in s v (count - k) (k + 1) last r)
unfolding lines_in
lines_step s v count k last number before after r r' lt e =
    let n : count - k ≡ suc (count - (k + 1)) = omega arith in
    let x = ok_parts (line_in s v (k + 1) last r) _ _ e in
    let c = ok_parts (behind_line_in v x.0.1) _ _ x.2 in
    let is = c.2 in
    let p : (x.0.0.number, with_line before x.0.0 c.0.0, c.0.1) ≡ (number, after, r') = cc in
    rw (n, x.1, c.1)
    (ap (λ (y : ℕ × CommentedList × Rest). onto_lines y.1 (lines_in s v (count - (k + 1)) (k + 1 + 1) y.0 y.2)) (sym p)
    ∙ sym (onto_led before x.0.0 c.0.0 (lines_in s v (count - (k + 1)) (k + 1 + 1) x.0.0.number c.0.1)))

-- a line that is refused: what comes behind it does not count
stopped : {A B C : Type 0} (m : Result A ImageRefusal) (n : A → Result B ImageRefusal)
    (f : A → B → Result C ImageRefusal) (g : A → B → Read CommentedList) (before : CommentedList) (d : ImageRefusal) →
    ((x : A) (y : B) → f x y ≡ Err d → ⊥) → (m >>= λ x. n x >>= λ y. f x y) ≡ Err d →
    onto_lines before (m >>= λ x. n x >>= λ y. g x y) ≡ Err d
stopped (Err c) n f g before d none e = let is : c ≡ d = cc in rw is
stopped {B = B} (Ok x) n f g before d none e = within (n x) e
  where
    within : (o : Result B ImageRefusal) → (o >>= λ y. f x y) ≡ Err d → onto_lines before (o >>= λ y. g x y) ≡ Err d
    within (Err c) e = let is : c ≡ d = cc in rw is
    within (Ok y) e = absurd (none x y e)

line_refused : (s : Source) (v : ImageVersion) (count k last : ℕ) (before : CommentedList)
    (r : Rest) (d : ImageRefusal) → k < count →
    added_line s v (k + 1) last before r ≡ Err d → onto_lines before (lines_in s v (count - k) (k + 1) last r) ≡ Err d
unfolding lines_in
line_refused s v count k last before r d lt e =
    let n : count - k ≡ suc (count - (k + 1)) = omega arith in
    rw n (stopped (line_in s v (k + 1) last r) (λ x. behind_line_in v x.1) _ _ before d (λ x y h. absurd cc) e)

-- the fault of a line is the fault of the lines
pub fault_stops : (s : Source) (v : ImageVersion) (count k last : ℕ) (before : CommentedList)
    (r : Rest) (all : Read CommentedList) (f : Fault ImageRefusal) → k < count →
    onto_lines before (lines_in s v (count - k) (k + 1) last r) ≡ all →
    IsRefusal f (added_line s v (k + 1) last before r) → IsRefusal f all
fault_stops s v count k last before r all fault.Memory lt so_far h = tt
fault_stops s v count k last before r all (fault.Refused e) lt so_far h =
    sym so_far ∙ line_refused s v count k last before r e lt h

-- no more lines
pub lines_end : (s : Source) (v : ImageVersion) (count k last : ℕ) (before : CommentedList) (r : Rest) → count ≤ k →
    onto_lines before (lines_in s v (count - k) (k + 1) last r) ≡ Ok (before, r)
unfolding lines_in
lines_end s v count k last before r le =
    let n : count - k ≡ 0 = omega arith in
    ap (λ (m : ℕ). onto_lines before (lines_in s v m (k + 1) last r)) n
    ∙ ap (λ (ls : List Line). let a : Read CommentedList = Ok ((ls, before.1 ++ []), r) in a) (append-nil before.0)
    ∙ ap (λ (cs : List Comment). let a : Read CommentedList = Ok ((before.0, cs), r) in a) (append-nil before.1)
