use Rattle.std.proofs.Common.{rules}
use Rattle.store.proofs.Words.{or_ranks}
use Rattle.store.proofs.row.Row.join.Goals as goal

pub returns : goal.returns
returns c = or_ranks c.combined.result.words c.args.self.now.words c.args.other.now.words (λ j h. let e = c.combined.ensures.words j h in search rules)
