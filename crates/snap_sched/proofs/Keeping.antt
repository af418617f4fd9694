-- The segments of a schedule's items are found again in the compact form in which `Items` stores them (`Keeps`), also
-- after items are added.
use Rattle.std.proofs.Common.{◌≡◌, ◌≢◌, ℕ, zero, suc, ◌+◌, ◌-◌, ◌<◌, ◌≤◌, Bool, true, false, List, [], ◌∷◌, ◌++◌}
use Rattle.std.proofs.Common.{length, map, replicate, set, Option, Some, None, nat_eq}
use Rattle.std.proofs.Common.{if◌then◌else◌, refl, sym, ap, ◌∙◌, arith, subst}
use Rattle.std.specs.Prelude.{⊤}
use Rattle.std.proofs.lemmas.Bool.{eq-eqb, ne_eqb, eqb-true}
use Rattle.std.specs.Option.{option_eq}
use Rattle.std.proofs.lemmas.List.{length-append, length-replicate}
use Rattle.std.specs.List.{AllByRecursion}
use Rattle.snap_semantics.specs.declared.process.Item.{Item}
use Rattle.snap_semantics.specs.declared.process.Item.TheVariants as item
use Rattle.snap_semantics.specs.Schedule.{form_process}
use Rattle.snap_semantics.specs.ScheduleText.{FitsItem}
use Rattle.snap_sched.specs.ItemsLeft.{IsSome}
use Rattle.snap_sched.specs.Kept.{single_segment, next_start, segments_of, segment_process, segment_count}
use Rattle.snap_sched.specs.Kept.{starts_from, singles_from, steps_process, last_process, Keeps}
use Rattle.snap_sched.specs.Segments.{segment_form, segment_items, items_of_segments, last_count, AreGreatest}
use Rattle.snap_sched.specs.declared.segments.CallOrCrash.{CallOrCrash}
use Rattle.snap_sched.specs.declared.segments.CallOrCrash.TheVariants as what
use Rattle.snap_sched.specs.declared.segments.SegmentStart.{SegmentStart}
use Rattle.snap_sched.specs.declared.segments.Single.{Single}
use Rattle.snap_sched.specs.declared.segments.Segment.{Segment}
use Rattle.snap_sched.specs.declared.segments.Segment.TheVariants as segments
use Rattle.snap_sched.proofs.Apart.{AreApart, found_steps}
use Rattle.snap_sched.proofs.JoinedItems.{joined_fit, steps_fit}
use Rattle.snap_sched.proofs.Greatest.{greatest_apart, added_items, call_greatest, crash_greatest, steps_greatest}
use Rattle.snap_sched.proofs.Greatest.{grown_greatest, grown_items}
use Rattle.snap_sched.proofs.Lines.{length_items}

-- how many items segments are
abbrev total : List Segment → ℕ
total xs = length (items_of_segments xs)

total_more : (x : Segment) (xs : List Segment) → total (x ∷ xs) ≡ segment_count x + total xs
total_more x xs =
    length-append (segment_items x) (items_of_segments xs)
    ∙ ap (λ (k : ℕ). k + total xs) (length_items (segment_form x))

-- the segments begin where they should
begin : (k : ℕ) (xs : List Segment) → next_start (starts_from k xs) (k + total xs) ≡ k
begin k [] = omega arith
begin k (x ∷ xs) = refl

-- the first of the calls and crashes has so many items before it
abbrev IsBehind : ℕ → List Single → Type 0
IsBehind m [] = ⊤
IsBehind m (s ∷ ss) = m ≤ s.start

behind : (m k : ℕ) (xs : List Segment) → m ≤ k → IsBehind m (singles_from k xs)
behind m k [] h = tt
behind m k (segments.Steps i count ∷ xs) h = behind m (k + count) xs (omega (arith, h))
behind m k (segments.Call i op ∷ xs) h = h
behind m k (segments.Crash i ∷ xs) h = h

steps_by : (b : Bool) (x y : List Segment) → b ≡ false → (if b then x else y) ≡ y
steps_by true x y e = absurd cc
steps_by false x y e = refl

steps_first : (r : SegmentStart) (rs : List SegmentStart) (ss : List Single) (len : ℕ) → IsBehind (suc r.start) ss →
    segments_of (r ∷ rs) ss len ≡ segments.Steps r.process (next_start rs len - r.start) ∷ segments_of rs ss len
steps_first r rs [] len h = refl
steps_first r rs (s ∷ ss) len h =
    steps_by (nat_eq s.start r.start) (single_segment r.process s.what ∷ segments_of rs ss len) _
    (ne_eqb s.start r.start (λ e. omega (arith, h, e)))

single_by : (b : Bool) (x y : List Segment) → b ≡ true → (if b then x else y) ≡ x
single_by true x y e = refl
single_by false x y e = absurd cc

single_first : (k i : ℕ) (d : CallOrCrash) (rs : List SegmentStart) (ss : List Single) (len : ℕ) →
    segments_of (record { start = k; process = i } ∷ rs) (record { start = k; what = d } ∷ ss) len
    ≡ single_segment i d ∷ segments_of rs ss len
single_first k i d rs ss len =
    single_by (nat_eq k k) (single_segment i d ∷ segments_of rs ss len)
    (segments.Steps i (next_start rs len - k) ∷ segments_of rs (record { start = k; what = d } ∷ ss) len)
    (eq-eqb k k refl)

-- the segments that are kept are found again
back : (k : ℕ) (xs : List Segment) → AllByRecursion IsSome xs →
    segments_of (starts_from k xs) (singles_from k xs) (k + total xs) ≡ xs
back k [] h = refl
back k (segments.Steps i count ∷ xs) h =
    let some : 0 < count = h.0 in
    let more = total_more (segments.Steps i count) xs in
    let all : k + total (segments.Steps i count ∷ xs) ≡ k + count + total xs = omega (arith, more) in
    let rs = starts_from (k + count) xs in
    let ss = singles_from (k + count) xs in
    ap (segments_of (record { start = k; process = i } ∷ rs) ss) all
    ∙ steps_first (record { start = k; process = i }) rs ss (k + count + total xs)
    (behind (suc k) (k + count) xs (omega (arith, some)))
    ∙ ap (λ (n : ℕ). segments.Steps i (n - k) ∷ segments_of rs ss (k + count + total xs)) (begin (k + count) xs)
    ∙ ap (λ (n : ℕ). segments.Steps i n ∷ segments_of rs ss (k + count + total xs))
    (let e : k + count - k ≡ count = omega arith in e)
    ∙ ap (λ (ys : List Segment). segments.Steps i count ∷ ys) (back (k + count) xs h.1)
back k (segments.Call i op ∷ xs) h =
    let more = total_more (segments.Call i op) xs in
    let all : k + total (segments.Call i op ∷ xs) ≡ k + 1 + total xs = omega (arith, more) in
    ap (segments_of (starts_from k (segments.Call i op ∷ xs)) (singles_from k (segments.Call i op ∷ xs))) all
    ∙ single_first k i (what.Call op) (starts_from (k + 1) xs) (singles_from (k + 1) xs) (k + 1 + total xs)
    ∙ ap (λ (ys : List Segment). segments.Call i op ∷ ys) (back (k + 1) xs h.1)
back k (segments.Crash i ∷ xs) h =
    let more = total_more (segments.Crash i) xs in
    let all : k + total (segments.Crash i ∷ xs) ≡ k + 1 + total xs = omega (arith, more) in
    ap (segments_of (starts_from k (segments.Crash i ∷ xs)) (singles_from k (segments.Crash i ∷ xs))) all
    ∙ single_first k i what.Crash (starts_from (k + 1) xs) (singles_from (k + 1) xs) (k + 1 + total xs)
    ∙ ap (λ (ys : List Segment). segments.Crash i ∷ ys) (back (k + 1) xs h.1)

apart_some : (xs : List Segment) → AreApart (map segment_form xs) → AllByRecursion IsSome xs
apart_some [] h = tt
apart_some (segments.Steps i count ∷ xs) h = (h.0, apart_some xs h.2)
apart_some (segments.Call i op ∷ xs) h = (tt, apart_some xs h.2)
apart_some (segments.Crash i ∷ xs) h = (tt, apart_some xs h.2)

-- of greatest segments none is empty
pub greatest_some : (xs : List Segment) → AreGreatest xs → AllByRecursion IsSome xs
greatest_some xs h = apart_some xs (greatest_apart xs h)

pub kept_is : (rs : List SegmentStart) (ss : List Single) (len : ℕ) (p : Option ℕ) (xs : List Segment) →
    Keeps rs ss len p xs → segments_of rs ss len ≡ xs
kept_is rs ss len p xs h =
    let none : len ≡ 0 + total xs = let all = h.all in omega (arith, all) in
    ap (λ (x : List SegmentStart). segments_of x ss len) h.starts
    ∙ ap (λ (x : List Single). segments_of (starts_from 0 xs) x len) h.singles
    ∙ ap (segments_of (starts_from 0 xs) (singles_from 0 xs)) none ∙ back 0 xs (greatest_some xs h.greatest)

-- one segment more at the end
segments_more : (k : ℕ) (xs : List Segment) (x : Segment) → starts_from k (xs ++ x ∷ [])
    ≡ starts_from k xs ++ record { start = k + total xs; process = segment_process x } ∷ []
segments_more k [] x =
    ap (λ (n : ℕ). let rs : List SegmentStart = record { start = n; process = segment_process x } ∷ [] in rs)
    (let e : k ≡ k + 0 = omega arith in e)
segments_more k (y ∷ xs) x =
    let more = total_more y xs in
    let all : k + segment_count y + total xs ≡ k + total (y ∷ xs) = omega (arith, more) in
    let first : SegmentStart = record { start = k; process = segment_process y } in
    ap (λ (rs : List SegmentStart). first ∷ rs) (segments_more (k + segment_count y) xs x)
    ∙ ap (λ (n : ℕ).
    first ∷ starts_from (k + segment_count y) xs ++ record { start = n; process = segment_process x } ∷ []) all

singles_same : (k : ℕ) (xs : List Segment) (i count : ℕ) →
    singles_from k (xs ++ segments.Steps i count ∷ []) ≡ singles_from k xs
singles_same k [] i count = refl
singles_same k (segments.Steps j n ∷ xs) i count = singles_same (k + n) xs i count
singles_same k (segments.Call j op ∷ xs) i count =
    ap (λ (ss : List Single). record { start = k; what = what.Call op } ∷ ss) (singles_same (k + 1) xs i count)
singles_same k (segments.Crash j ∷ xs) i count =
    ap (λ (ss : List Single). record { start = k; what = what.Crash } ∷ ss) (singles_same (k + 1) xs i count)

-- the calls and crashes, and one more behind a number of items
abbrev one_single : List Single → ℕ → CallOrCrash → List Single
one_single ss n d = ss ++ record { start = n; what = d } ∷ []

singles_last : (k i : ℕ) (d : CallOrCrash) →
    singles_from k (single_segment i d ∷ []) ≡ record { start = k; what = d } ∷ []
singles_last k i (what.Call op) = refl
singles_last k i what.Crash = refl

singles_more : (k : ℕ) (xs : List Segment) (i : ℕ) (d : CallOrCrash) →
    singles_from k (xs ++ single_segment i d ∷ []) ≡ one_single (singles_from k xs) (k + total xs) d
singles_more k [] i d = singles_last k i d ∙ ap (λ (n : ℕ). one_single [] n d) (let e : k ≡ k + 0 = omega arith in e)
singles_more k (segments.Steps j n ∷ xs) i d =
    let more = total_more (segments.Steps j n) xs in
    let all : k + n + total xs ≡ k + total (segments.Steps j n ∷ xs) = omega (arith, more) in
    singles_more (k + n) xs i d ∙ ap (λ (m : ℕ). one_single (singles_from (k + n) xs) m d) all
singles_more k (segments.Call j op ∷ xs) i d =
    let more = total_more (segments.Call j op) xs in
    let all : k + 1 + total xs ≡ k + total (segments.Call j op ∷ xs) = omega (arith, more) in
    ap (λ (ss : List Single). record { start = k; what = what.Call op } ∷ ss)
    (singles_more (k + 1) xs i d ∙ ap (λ (m : ℕ). one_single (singles_from (k + 1) xs) m d) all)
singles_more k (segments.Crash j ∷ xs) i d =
    let more = total_more (segments.Crash j) xs in
    let all : k + 1 + total xs ≡ k + total (segments.Crash j ∷ xs) = omega (arith, more) in
    ap (λ (ss : List Single). record { start = k; what = what.Crash } ∷ ss)
    (singles_more (k + 1) xs i d ∙ ap (λ (m : ℕ). one_single (singles_from (k + 1) xs) m d) all)

process_more : (xs : List Segment) (x : Segment) → last_process (xs ++ x ∷ []) ≡ steps_process x
process_more [] x = refl
process_more (y ∷ []) x = refl
process_more (y ∷ z ∷ xs) x = process_more (z ∷ xs) x

-- the last segment, where it is steps of this process
record Last (p : ℕ) (xs : List Segment) : Type 0 where
  place : ℕ
  count : ℕ
  is_last : suc place ≡ length xs
  found : last_count p (map segment_form xs) ≡ Some count

one_by : (i p count : ℕ) (b : Bool) → b ≡ true → (let o : Option ℕ = if b then Some count else None in o) ≡ Some count
one_by i p count true e = refl
one_by i p count false e = absurd cc

some_process : (i p : ℕ) → (let o : Option ℕ = Some i in o) ≡ Some p → i ≡ p
some_process i p e = cc

last_steps : (p : ℕ) (xs : List Segment) → last_process xs ≡ Some p → Last p xs
last_steps p (segments.Steps i count ∷ []) e = record {
  place = 0;
  count = count;
  is_last = refl;
  found = one_by i p count (nat_eq i p) (eq-eqb i p (some_process i p e));
}
last_steps p (x ∷ y ∷ xs) e =
    let h = last_steps p (y ∷ xs) e in
    record { place = suc h.place; count = h.count; is_last = ap suc h.is_last; found = h.found }
last_steps p _ e = absurd cc

none_by : (count : ℕ) (b : Bool) → b ≡ false → (let o : Option ℕ = if b then Some count else None in o) ≡ None
none_by count true e = absurd cc
none_by count false e = refl

other_last : (p : ℕ) (xs : List Segment) → last_process xs ≢ Some p → last_count p (map segment_form xs) ≡ None
other_last p (segments.Steps i count ∷ []) e =
    none_by count (nat_eq i p) (ne_eqb i p (λ same. e (ap (λ (k : ℕ). let o : Option ℕ = Some k in o) same)))
other_last p (x ∷ y ∷ xs) e = other_last p (y ∷ xs) e
other_last p _ e = refl

-- what a test of two processes tells
pub same_process : (o : Option ℕ) (i : ℕ) → true ≡ option_eq nat_eq o (Some i) → o ≡ Some i
same_process None i e = absurd cc
same_process (Some k) i e = ap (λ (j : ℕ). let p : Option ℕ = Some j in p) (eqb-true k i (sym e))

pub other_process : (o : Option ℕ) (i : ℕ) → false ≡ option_eq nat_eq o (Some i) → o ≢ Some i
other_process None i e = λ same. absurd cc
other_process (Some k) i e =
    λ same.
    absurd (let t : nat_eq k i ≡ true = eq-eqb k i (some_process k i same) in let no : false ≡ true = e ∙ t in cc)

-- more of the last steps change nothing of how segments are kept but their number
segments_grown : (xs : List Segment) (j k p a b : ℕ) → suc j ≡ length xs →
    last_count p (map segment_form xs) ≡ Some a → starts_from k (set xs j (segments.Steps p b)) ≡ starts_from k xs
segments_grown (x ∷ []) zero k p a b is e =
    ap (λ (i : ℕ). let rs : List SegmentStart = record { start = k; process = i } ∷ [] in rs)
    (sym (ap form_process (found_steps (segment_form x) p a e)))
segments_grown (x ∷ y ∷ xs) (suc j) k p a b is e =
    ap (λ (rs : List SegmentStart). record { start = k; process = segment_process x } ∷ rs)
    (segments_grown (y ∷ xs) j (k + segment_count x) p a b (omega arith) e)
segments_grown _ _ k p a b is e = absurd (omega arith)

singles_grown : (xs : List Segment) (j k p a b : ℕ) → suc j ≡ length xs →
    last_count p (map segment_form xs) ≡ Some a → singles_from k (set xs j (segments.Steps p b)) ≡ singles_from k xs
singles_grown [] j k p a b is e = absurd (omega arith)
singles_grown (segments.Steps i n ∷ []) zero k p a b is e = refl
singles_grown (segments.Call i op ∷ []) zero k p a b is e = absurd cc
singles_grown (segments.Crash i ∷ []) zero k p a b is e = absurd cc
singles_grown (x ∷ []) (suc j) k p a b is e = absurd (omega arith)
singles_grown (x ∷ y ∷ xs) zero k p a b is e = absurd (omega arith)
singles_grown (segments.Steps i n ∷ y ∷ xs) (suc j) k p a b is e =
    singles_grown (y ∷ xs) j (k + n) p a b (omega arith) e
singles_grown (segments.Call i op ∷ y ∷ xs) (suc j) k p a b is e =
    ap (λ (ss : List Single). record { start = k; what = what.Call op } ∷ ss)
    (singles_grown (y ∷ xs) j (k + 1) p a b (omega arith) e)
singles_grown (segments.Crash i ∷ y ∷ xs) (suc j) k p a b is e =
    ap (λ (ss : List Single). record { start = k; what = what.Crash } ∷ ss)
    (singles_grown (y ∷ xs) j (k + 1) p a b (omega arith) e)

process_grown : (xs : List Segment) (j p b : ℕ) → suc j ≡ length xs →
    last_process (set xs j (segments.Steps p b)) ≡ Some p
process_grown (x ∷ []) zero p b is = refl
process_grown (x ∷ y ∷ []) (suc zero) p b is = refl
process_grown (x ∷ y ∷ z ∷ xs) (suc (suc j)) p b is = process_grown (y ∷ z ∷ xs) (suc j) p b (omega arith)
process_grown _ _ p b is = absurd (omega arith)

-- what is kept so are greatest segments, whose items are these
pub record Holds (rs : List SegmentStart) (ss : List Single) (len : ℕ) (p : Option ℕ) (items : List Item) : Type 0 where
  pub keeps : Keeps rs ss len p (segments_of rs ss len)
  pub are : items_of_segments (segments_of rs ss len) ≡ items

holds : (rs : List SegmentStart) (ss : List Single) (len : ℕ) (p : Option ℕ) (xs : List Segment) (items : List Item) →
    Keeps rs ss len p xs → items_of_segments xs ≡ items → Holds rs ss len p items
holds rs ss len p xs items h are =
    let is = kept_is rs ss len p xs h in
    record { keeps = subst (Keeps rs ss len p) (sym is) h; are = ap items_of_segments is ∙ are }

longer : (old new more : List Item) (len c : ℕ) → len ≡ length old → length more ≡ c →
    new ≡ old ++ more → len + c ≡ length new
longer old new more len c all size is = let e = ap length is ∙ length-append old more in omega (arith, e, all, size)

-- steps behind another segment
pub steps_added : (rs more : List SegmentStart) (ss : List Single) (len : ℕ) (p : Option ℕ) (xs : List Segment)
    (old : List Item) (i c : ℕ) → Keeps rs ss len p xs → items_of_segments xs ≡ old →
    more ≡ rs ++ record { start = len; process = i } ∷ [] → p ≢ Some i → 0 < c →
    Holds more ss (len + c) (Some i) (old ++ replicate c (item.Step i))
steps_added rs more ss len p xs old i c h view is other some =
    let ys = xs ++ segments.Steps i c ∷ [] in
    let none : len ≡ 0 + total xs = let all = h.all in omega (arith, all) in
    let items = added_items xs ys (segments.Steps i c) refl in
    holds more ss (len + c) (Some i) ys (old ++ replicate c (item.Step i)) (record {
      starts =
          is ∙ ap (λ (x : List SegmentStart). x ++ record { start = len; process = i } ∷ []) h.starts
          ∙ ap (λ (n : ℕ). starts_from 0 xs ++ record { start = n; process = i } ∷ []) none
          ∙ sym (segments_more 0 xs (segments.Steps i c));
      singles = h.singles ∙ sym (singles_same 0 xs i c);
      all =
          longer (items_of_segments xs) (items_of_segments ys) (replicate c (item.Step i)) len c h.all
          (length-replicate c (item.Step i)) items;
      last = sym (process_more xs (segments.Steps i c));
      greatest = steps_greatest xs ys i c refl some (other_last i xs (λ e. other (h.last ∙ e))) h.greatest;
      fits =
          subst (AllByRecursion FitsItem) (sym items)
          (joined_fit (items_of_segments xs) (replicate c (item.Step i)) h.fits (steps_fit c i));
    }) (items ∙ ap (λ (zs : List Item). zs ++ replicate c (item.Step i)) view)

-- steps that go into the last segment
pub steps_joined : (rs : List SegmentStart) (ss : List Single) (len : ℕ) (p : Option ℕ) (xs : List Segment)
    (old : List Item) (i c : ℕ) → Keeps rs ss len p xs → items_of_segments xs ≡ old → p ≡ Some i → 0 < c →
    Holds rs ss (len + c) p (old ++ replicate c (item.Step i))
steps_joined rs ss len p xs old i c h view same some =
    let l = last_steps i xs (sym h.last ∙ same) in
    let ys = set xs l.place (segments.Steps i (l.count + c)) in
    let items = grown_items xs ys l.place i l.count c refl l.is_last l.found in
    holds rs ss (len + c) p ys (old ++ replicate c (item.Step i)) (record {
      starts = h.starts ∙ sym (segments_grown xs l.place 0 i l.count (l.count + c) l.is_last l.found);
      singles = h.singles ∙ sym (singles_grown xs l.place 0 i l.count (l.count + c) l.is_last l.found);
      all =
          longer (items_of_segments xs) (items_of_segments ys) (replicate c (item.Step i)) len c h.all
          (length-replicate c (item.Step i)) items;
      last = same ∙ sym (process_grown xs l.place i (l.count + c) l.is_last);
      greatest =
          grown_greatest xs ys l.place i l.count (l.count + c) refl l.is_last l.found (omega (arith, some)) h.greatest;
      fits =
          subst (AllByRecursion FitsItem) (sym items)
          (joined_fit (items_of_segments xs) (replicate c (item.Step i)) h.fits (steps_fit c i));
    }) (items ∙ ap (λ (zs : List Item). zs ++ replicate c (item.Step i)) view)

single_greatest : (xs : List Segment) (i : ℕ) (d : CallOrCrash) → AreGreatest xs →
    AreGreatest (xs ++ single_segment i d ∷ [])
single_greatest xs i (what.Call op) h = call_greatest xs (xs ++ segments.Call i op ∷ []) i op refl h
single_greatest xs i what.Crash h = crash_greatest xs (xs ++ segments.Crash i ∷ []) i refl h

single_process : (i : ℕ) (d : CallOrCrash) → steps_process (single_segment i d) ≡ None
single_process i (what.Call op) = refl
single_process i what.Crash = refl

process_of : (i : ℕ) (d : CallOrCrash) → segment_process (single_segment i d) ≡ i
process_of i (what.Call op) = refl
process_of i what.Crash = refl

single_length : (i : ℕ) (d : CallOrCrash) → length (segment_items (single_segment i d)) ≡ 1
single_length i (what.Call op) = refl
single_length i what.Crash = refl

-- a call or a crash
pub single_added : (rs more : List SegmentStart) (ss reserved others : List Single) (len : ℕ) (p : Option ℕ)
    (xs : List Segment) (old : List Item) (i : ℕ) (d : CallOrCrash) → Keeps rs ss len p xs →
    items_of_segments xs ≡ old → AllByRecursion FitsItem (segment_items (single_segment i d)) →
    more ≡ rs ++ record { start = len; process = i } ∷ [] → reserved ≡ ss → others ≡ one_single reserved len d →
    Holds more others (len + 1) None (old ++ segment_items (single_segment i d))
single_added rs more ss reserved others len p xs old i d h view fits is same are =
    let x = single_segment i d in
    let ys = xs ++ x ∷ [] in
    let none : len ≡ 0 + total xs = let all = h.all in omega (arith, all) in
    let items = added_items xs ys x refl in
    holds more others (len + 1) None ys (old ++ segment_items x) (record {
      starts =
          is ∙ ap (λ (r : List SegmentStart). r ++ record { start = len; process = i } ∷ []) h.starts
          ∙ ap (λ (n : ℕ). starts_from 0 xs ++ record { start = n; process = i } ∷ []) none
          ∙ ap (λ (n : ℕ). starts_from 0 xs ++ record { start = 0 + total xs; process = n } ∷ []) (sym (process_of i d))
          ∙ sym (segments_more 0 xs x);
      singles =
          are ∙ ap (λ (s : List Single). one_single s len d) (same ∙ h.singles)
          ∙ ap (λ (n : ℕ). one_single (singles_from 0 xs) n d) none ∙ sym (singles_more 0 xs i d);
      all =
          longer (items_of_segments xs) (items_of_segments ys) (segment_items x) len 1 h.all (single_length i d) items;
      last = sym (process_more xs x ∙ single_process i d);
      greatest = single_greatest xs i d h.greatest;
      fits =
          subst (AllByRecursion FitsItem) (sym items) (joined_fit (items_of_segments xs) (segment_items x) h.fits fits);
    }) (items ∙ ap (λ (zs : List Item). zs ++ segment_items x) view)
