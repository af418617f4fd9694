-- The shipped text of listing M is read as `listing_m`, of which the promises speak.
use Rattle.std.proofs.Common.{◌≡◌, ℕ, List, Ok, codes, refl}
use Rattle.snap_semantics.specs.Listing.{listing_of}
use Rattle.snap_runs_of_m.specs.ListingM.{listing_m}
use Rattle.snap_semantics.proofs.OnLiterals.{listings_on_literals}

abbrev pub text : List ℕ
text = codes "kind multi\nscalar j k x\nrow moved g h d tog\nwords a b\nview s\nscan 10\nupdate 50\n10: each n: moved[@] = 0\n11: let j = 1\n12: let k = 1\n13: bit x = p[j,me]\n14: let g[j] = x\n15: put q[me,j] = x\n16: next j n goto 13\n17: get a[k] = r[k]\n18: next k w goto 17\n19: get b[k] = r[k]\n20: next k w goto 19\n21: bit x = p[j,me]\n22: let h[j] = x\n23: next j n goto 21\n24: each n: d[@] = 0\n25: each n: d[@] = 1 where h[@] != g[@]\n26: if id(a[k]) = id(b[k]) and toggle(a[k]) = toggle(b[k]) goto 29\n27: let x = id(b[k])\n28: let d[x] = 1\n29: next k w goto 26\n30: if all n: d[@] = 0 goto 34\n31: each n: moved[@] = moved[@] + 1 where d[@] = 1\n32: first j n: moved[@] = 3 goto 36\n33: goto 13\n34: view s = data(b)\n35: return s\n36: look s = v[j]\n37: return s\n50: let j = 1\n51: bit x = q[j,me]\n52: put p[me,j] = not x\n53: next j n goto 51\n54: call 10\n55: put v[me] = s\n56: let tog[word] = not tog[word]\n57: put r[word] = (arg, me, tog[word])\n58: finish\n"

pub text_is_m : listing_of text ≡ Ok listing_m
unfolding listings_on_literals
text_is_m = refl
