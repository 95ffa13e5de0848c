use Rattle.std.proofs.Common.{◌≤◌, length}
use Rattle.script.specs.Left.{left}
use Rattle.script.proofs.machine.ScriptIterator.next.Given as goal

abbrev pub invariant-loop-line : goal.invariant-loop-line
invariant-loop-line l = left l.self ≤ left l.initial.self

abbrev pub decreases-loop-line : goal.decreases-loop-line
decreases-loop-line l = length l.self.rest.now
