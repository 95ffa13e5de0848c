use Rattle.std.proofs.Common.{ltb, rules}
use Rattle.store.proofs.Words.{ranks_by_test}
use Rattle.store.proofs.row.Row.below.Goals as goal

pub returns : goal.returns
returns c = ranks_by_test c.from_fn.result.words (λ k. ltb k c.args.end) (λ k l. let e = c.from_fn.ensures k l in search rules)
