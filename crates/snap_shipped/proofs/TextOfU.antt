-- The shipped text of listing U reads, by `listing_of`, as `listing_u`, the listing whose runs are proved to be
-- snapshots.
use Rattle.std.proofs.Common.{◌≡◌, ℕ, List, Ok, codes, refl}
use Rattle.snap_semantics.specs.Listing.{listing_of}
use Rattle.snap_runs_of_u.specs.ListingU.{listing_u}
use Rattle.snap_semantics.proofs.OnLiterals.{listings_on_literals}

abbrev pub text : List ℕ
text = codes "kind seq\nscalar j c\nrow moved\nwords a b\nview s\nscan 10\nupdate 30\n10: each n: moved[@] = 0\n11: let j = 1\n12: get a[j] = r[j]\n13: next j n goto 12\n14: get b[j] = r[j]\n15: next j n goto 14\n16: if all n: seq(a[@]) = seq(b[@]) goto 21\n17: each n: moved[@] = moved[@] + 1 where seq(a[@]) != seq(b[@])\n18: first j n: moved[@] = 2 goto 23\n19: goto 12\n21: view s = data(b)\n22: return s\n23: view s = view(b[j])\n24: return s\n30: call 10\n31: let c = c + 1\n32: put r[me] = (arg, c, s)\n33: finish\n"

pub text_is_u : listing_of text ≡ Ok listing_u
unfolding listings_on_literals
text_is_u = refl
