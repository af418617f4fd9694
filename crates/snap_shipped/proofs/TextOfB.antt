-- The shipped text of listing B is read as `listing_b`, of which the promises speak.
use Rattle.std.proofs.Common.{◌≡◌, ℕ, List, Ok, codes, refl}
use Rattle.snap_semantics.specs.Listing.{listing_of}
use Rattle.snap_runs_of_b.specs.ListingB.{listing_b}
use Rattle.snap_semantics.proofs.OnLiterals.{listings_on_literals}

abbrev pub text : List ℕ
text = codes "kind bit\nscalar j x t\nrow moved g f\nwords a b\nview s\nscan 10\nupdate 40\n10: each n: moved[@] = 0\n11: let j = 1\n12: get a[j] = r[j]\n13: let g[j] = hand(a[j],me)\n14: put q[me,j] = g[j]\n15: next j n goto 12\n16: get a[j] = r[j]\n17: next j n goto 16\n18: get b[j] = r[j]\n19: next j n goto 18\n20: if all n: hand(a[@],me) = g[@] and hand(b[@],me) = g[@] and toggle(a[@]) = toggle(b[@]) goto 25\n21: each n: moved[@] = moved[@] + 1 where hand(a[@],me) != g[@] or hand(b[@],me) != g[@] or toggle(a[@]) != toggle(b[@])\n22: first j n: moved[@] = 2 goto 27\n23: goto 12\n25: view s = data(b)\n26: return s\n27: view s = view(b[j])\n28: return s\n40: let j = 1\n41: bit x = q[j,me]\n42: let f[j] = not x\n43: next j n goto 41\n44: call 10\n45: let t = not t\n46: put r[me] = (arg, f, t, s)\n47: finish\n"

pub text_is_b : listing_of text ≡ Ok listing_b
unfolding listings_on_literals
text_is_b = refl
