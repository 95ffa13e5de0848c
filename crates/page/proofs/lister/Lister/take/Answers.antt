use Rattle.std.proofs.Common.{not, arith}
use Rattle.std.proofs.lemmas.Bool.Decides.{nat_tests}
use Rattle.store.specs.Bits.{bit}
use Rattle.page.proofs.Ranks.{ranks-less, ranks-lost}
use Rattle.page.proofs.lister.Lister.take.Goals as goal

pub invariant_of-self : goal.invariant_of-self
invariant_of-self c =
    let less = ranks-less c.args.self.now.free c.remove.new.self (λ k. not (bit c.add.new.self k)) c.remove.ensures in
    record { blocks = omega arith; knots = omega arith }

pub returns-clause-fewer : goal.returns-clause-fewer
returns-clause-fewer c here =
    let rank = c.args.rank in
    ranks-lost c.args.self.now.free c.remove.new.self (λ k. not (bit c.add.new.self k)) c.remove.ensures rank here (λ low. grind (arith, nat_tests, c.add.ensures rank))
