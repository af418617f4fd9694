-- `first_trap`: the first process that has trapped in a state is found by going through the processes.
use Rattle.std.proofs.Common.{◌≡◌, ℕ, zero, suc, ◌+◌, ◌-◌, ◌<◌, ◌≤◌, Option, Some, None, sym, ap, ◌∙◌, arith}
use Rattle.snap_semantics.specs.Rules.{or_else}
use Rattle.snap_semantics.specs.State.{State, process_at}
use Rattle.snap_hunt.specs.Failing.{first_trap, trap_of}
use Rattle.snap_hunt.specs.declared.failures.Failure.{Failure}

-- process k + 1, and those behind it
one_of : (S : State) (n k : ℕ) → k < n
    → first_trap S (k + 1) (n - k)
    ≡ or_else (trap_of (k + 1) (process_at S (k + 1)).status) (first_trap S (k + 1 + 1) (n - (k + 1)))
one_of S n k lt =
    let e : n - k ≡ suc (n - (k + 1)) = omega arith in
    let f : suc (k + 1) ≡ k + 1 + 1 = omega arith in
    cc

pub trap_here : (S : State) (n k : ℕ) (f : Failure) → k < n → trap_of (k + 1) (process_at S (k + 1)).status ≡ Some f
    → first_trap S (k + 1) (n - k) ≡ first_trap S 1 n → Some f ≡ first_trap S 1 n
trap_here S n k f lt is so_far = cc (one_of S n k lt)

pub trap_passed : (S : State) (n k : ℕ) → k < n → trap_of (k + 1) (process_at S (k + 1)).status ≡ None
    → first_trap S (k + 1) (n - k) ≡ first_trap S 1 n → first_trap S (k + 1 + 1) (n - (k + 1)) ≡ first_trap S 1 n
trap_passed S n k lt is so_far = cc (one_of S n k lt)

pub no_trap : (S : State) (n k : ℕ) → n ≤ k → first_trap S (k + 1) (n - k) ≡ first_trap S 1 n → None ≡ first_trap S 1 n
no_trap S n k le so_far =
    let e : zero ≡ n - k = omega arith in
    cc
