use Rattle.std.proofs.Common.{◌≡◌, ℕ, ◌<◌, get_or, length}
use Rattle.store.specs.Bits.{bit, no_row, spot}
use Rattle.store.proofs.rows.Rows.turned.Given as goal

abbrev pub invariant-loop-to : goal.invariant-loop-to
invariant-loop-to l = record {
  long : length l.row-items ≡ 256;
  done : (i j : ℕ) → i < l.to → bit (get_or l.row-items i no_row) j ≡ spot l.self j i;
}
