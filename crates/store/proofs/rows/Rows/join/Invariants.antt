use Rattle.std.proofs.Common.{◌||◌, eqb}
use Rattle.store.specs.Bits.{bit, spot}
use Rattle.store.proofs.Tables.{GainsUntil}
use Rattle.store.proofs.rows.Rows.join.Given as goal

abbrev pub invariant-loop-rank : goal.invariant-loop-rank
invariant-loop-rank l = GainsUntil l.fn.self.rows (λ i. eqb i l.from || spot l.fn.self i l.from) (bit l.gained) l.rank l.row-items
