-- `new_bench` of test_live (src/benches.rt): the proof of what its contract says.
use Rattle.std.proofs.Common.{◌≡◌, ℕ, zero, suc, List, arith, refl, sym, subst}
use Rattle.std.specs.Prelude.{All}
use Rattle.std.proofs.lemmas.List.Elements.{All-push}
use Rattle.snap_live.specs.Shown.{DeskView, SeatView, seat_of, seats_of}
use Rattle.test_live.proofs.benches.new_bench.Goals as goal

-- the new seats of a desk are of that desk
at_desk : (d : DeskView) (n : ℕ) → All (λ (s : SeatView). s.desk ≡ d) (seats_of d n)
at_desk d zero = λ k x below. absurd (omega arith)
at_desk d (suc n) = All-push (λ (s : SeatView). s.desk ≡ d) (seats_of d n) (seat_of d (suc n)) (at_desk d n) refl

pub invariant_of-result : goal.invariant_of-result
invariant_of-result g c =
    let d : DeskView = c.in_ok-desk.desk in
    record {
      same = subst (λ (ss : List SeatView). All (λ (s : SeatView). s.desk ≡ d) ss)
          (sym c.in_ok-desk.ensures.seats) (at_desk d c.in_ok-new.field-0.n);
    }
