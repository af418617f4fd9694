-- Listing U is not strongly linearizable: a strong choice of linearizations would serve both futures of a run.
use Rattle.std.proofs.Common.{◌≡◌, true, ◌++◌, refl, arith}
use Rattle.std.specs.List.{list_all}
use Rattle.std.proofs.lemmas.List.Elements.{recursion_from_All}
use Rattle.std.proofs.lemmas.List.Sums.{AllPass-from_list_all}
use Rattle.snap_runs.proofs.Common.{IsOneOf, who, Run, IsValidRun}
use Rattle.snap_words.specs.Shape.{is_place}
use Rattle.snap_runs_of_u.specs.Promises.{run_of}
use Rattle.snap_strong.specs.Futures.{so_far, alone, overtaken, UIsNotStronglyLinearizable}
use Rattle.snap_strong.proofs.Apart.{none_serves_both_lem}

-- each item is of one of the processes, by a test of each
fits_by_test : (r : Run) → list_all (λ x. is_place r.shape.n (who x)) r.items ≡ true → IsValidRun r
fits_by_test r each = record {
  all = recursion_from_All (λ x. IsOneOf r.shape.n (who x)) r.items (λ k d lt.
      let one = AllPass-from_list_all (λ x. is_place r.shape.n (who x)) r.items each k d lt in grind arith);
}

pub u_is_not_strongly_linearizable_lem : UIsNotStronglyLinearizable
u_is_not_strongly_linearizable_lem strong =
    let choose = strong.0 in
    let alone_fits = fits_by_test (run_of 3 (so_far ++ alone)) refl in
    let overtaken_fits = fits_by_test (run_of 3 (so_far ++ overtaken)) refl in
    none_serves_both_lem (choose so_far) (choose (so_far ++ alone)) (choose (so_far ++ overtaken))
    (strong.1.linearizes so_far (omega arith) (fits_by_test (run_of 3 so_far) refl))
    (strong.1.linearizes (so_far ++ alone) (omega arith) alone_fits)
    (strong.1.linearizes (so_far ++ overtaken) (omega arith) overtaken_fits)
    (strong.1.stays so_far alone (omega arith) alone_fits)
    (strong.1.stays so_far overtaken (omega arith) overtaken_fits)
