-- A sample listing with a warning of each `Concern`, and the text that the lint prints of it, by computing.
use Rattle.std.specs.Fmt.{digits}
use Rattle.std.specs.Prelude.{◌≡◌, ℕ, List, ◌++◌, Ok, codes, refl}
use Rattle.snap_lint.specs.Marks.{reached}
use Rattle.snap_lint.specs.Warnings.{warnings}
use Rattle.snap_lint.specs.Lint.{lint_of}
use Rattle.snap_semantics.proofs.OnLiterals.{listings_on_literals}

abbrev listing_text : List ℕ
listing_text =
    codes "kind seq\nscalar j c\nrow\nwords a\nview s\nscan 10\nupdate 20\n"
    ++ codes "10: let j = 1\n11: get a[j] = r[j]\n12: next j n goto 11\n13: if data(a[1]) = 0 goto 15\n"
    ++ codes "14: finish\n15: view s = data(a)\n16: return s\n20: call 10\n"
    ++ codes "21: if c = 1 goto 26\n22: put r[j] = (arg, c, s)\n23: if c = 2 goto 30\n24: goto 24\n"
    ++ codes "25: let c = 2\n26: finish\n30: call 31\n31: call 10\n32: let c = 3\n"

abbrev lint_text : List ℕ
lint_text =
    codes "line 14: may return from an update, or finish a scan or a call\nline 22: may write a register of another process\n"
    ++ codes "line 24: leads to no end\nline 25: is never reached\n"
    ++ codes "line 26: may finish an update that has written no word\nline 31: may call within a call\n"
    ++ codes "line 32: may run off the end\n"

one_of_each : lint_of listing_text ≡ Ok lint_text
unfolding digits lint_of reached warnings listings_on_literals
one_of_each = refl
