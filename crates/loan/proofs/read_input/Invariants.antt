use Rattle.std.proofs.Common.{◌≤◌, ◌-◌, length}
use Rattle.loan.proofs.read_input.Given as goal

abbrev pub invariant-loop-len : goal.invariant-loop-len
invariant-loop-len l = l.len ≤ length l.memory

abbrev pub decreases-loop-len : goal.decreases-loop-len
decreases-loop-len l = length l.memory - l.len
