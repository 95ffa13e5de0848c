use Rattle.std.proofs.Common.{arith}
use Rattle.page.proofs.Ranks.{ranks-most}
use Rattle.page.proofs.lister.Lister.new.Goals as goal

pub invariant_of-result : goal.invariant_of-result
invariant_of-result c =
    let most = ranks-most c.args.live.now in
    record { blocks = omega arith; knots = omega arith }
