use Rattle.std.proofs.Common.{rules}
use Rattle.store.proofs.Words.{and_not_ranks}
use Rattle.store.proofs.row.Row.remove.Goals as goal

pub returns : goal.returns
returns c = and_not_ranks c.combined.result.words c.args.self.now.words c.args.other.now.words c.combined.ensures.fits (λ j h. let e = c.combined.ensures.words j h in search rules)
