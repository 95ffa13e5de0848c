use Rattle.std.proofs.Common.{◌≤◌}
use Rattle.flat.proofs.slots.keep_others.Given as goal

abbrev pub invariant-loop-at : goal.invariant-loop-at
invariant-loop-at g l = l.front ≤ l.at
