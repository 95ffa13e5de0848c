use Rattle.std.proofs.Common.{◌+◌, ◌*◌, ◌≤◌}
use Rattle.page.proofs.text.page_len.Given as goal

abbrev pub invariant-loop-spot : goal.invariant-loop-spot
invariant-loop-spot g l = (26 ≤ l.len) × (l.len ≤ 26 + 112 * l.spot-index)
