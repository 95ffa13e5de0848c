use Rattle.std.proofs.Common.{rules, ◌∙◌}
use Rattle.store.specs.Bits.{spot}
use Rattle.store.proofs.Words.{ranks_by_test}
use Rattle.store.proofs.Tables.{within_rows}
use Rattle.store.proofs.rows.Rows.column.Goals as goal

pub returns : goal.returns
returns c k =
    let table = c.args.self.now in
    let to = c.args.to in
    ranks_by_test c.from_fn.result.words (λ from. spot table from to) (λ from l. let e = c.from_fn.ensures from l in search rules) k ∙ within_rows table k to
