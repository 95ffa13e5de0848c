use Rattle.std.proofs.Common.{arith}
use Rattle.texts.proofs.Filling.{padded_more}
use Rattle.texts.proofs.text.Text.push.Goals as goal

pub invariant_of-self : goal.invariant_of-self
invariant_of-self g c = padded_more g.row.N c.self.inside.bytes c.self.inside.len c.args.byte c.self.invariant (omega (arith, c.if-self.true))
