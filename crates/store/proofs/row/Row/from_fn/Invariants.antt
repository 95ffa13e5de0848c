use Rattle.std.proofs.Common.{◌≡◌, ℕ, ◌<◌, ◌≤◌, false}
use Rattle.store.specs.Bits.{bit}
use Rattle.store.proofs.row.Row.from_fn.Given as goal

abbrev pub invariant-loop-rank : goal.invariant-loop-rank
invariant-loop-rank g l = record {
  tested : (k : ℕ) → k < l.rank → goal.F-post g l.test k (bit l.row k);
  none : (k : ℕ) → l.rank ≤ k → bit l.row k ≡ false;
}
