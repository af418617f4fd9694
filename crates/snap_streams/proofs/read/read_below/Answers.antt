-- `read_below` of snap_streams (src/read.rt): the proof of what its contract says.
use Rattle.std.proofs.Common.{◌≡◌, ℕ, ◌<◌, List, [], ◌++◌, length, take, Option, Some}
use Rattle.std.proofs.Common.{None, IfSome, ap, ◌∙◌, subst, arith}
use Rattle.std.proofs.lemmas.Grind.{common_steps}
use Rattle.std.specs.Option.{option_map}
use Rattle.snap_streams.proofs.read.read_below.Goals as goal

-- a list that is cut to fewer than n items at n is whole
whole : (n : ℕ) (xs : List ℕ) → length (take n xs) < n → take n xs ≡ xs
whole n xs short = grind (arith, common_steps)

-- all that the inner reader has, where less than the limit came
taken : (inner : Option (List ℕ)) (most limit : ℕ) (bytes empty : List ℕ) → limit ≡ most → empty ≡ [] →
    IfSome (option_map (take limit) inner) (λ xs. bytes ≡ empty ++ xs) → length bytes < most →
    IfSome inner (λ input. bytes ≡ input)
taken None most limit bytes empty cap none read short = tt
taken (Some xs) most limit bytes empty cap none read short =
    let is : bytes ≡ take most xs =
    read ∙ ap (λ (e : List ℕ). e ++ take limit xs) none ∙ ap (λ (n : ℕ). take n xs) cap in
    is ∙ whole most xs (subst (λ (b : List ℕ). length b < most) is short)

pub returns-then-len-most-clause-whole : goal.returns-then-len-most-clause-whole
returns-then-len-most-clause-whole g c =
    subst (λ (r : _). IfSome (g.R.Read.remaining r) (λ input. c.read_to_end.new.buf.items ≡ input)) c.take.ensures.inner
    (taken (g.R.Read.remaining c.take.result.inner) c.args.most c.take.result.limit c.read_to_end.new.buf.items
    c.new-bytes.result.items c.take.ensures.limit c.new-bytes.ensures.items c.in_ok-read_to_end.ensures.bytes
    (omega (arith, c.read_to_end.new.buf.ok.0, c.len.ensures)))
