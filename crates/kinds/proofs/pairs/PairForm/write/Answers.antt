use Rattle.std.proofs.Common.{◌++◌, take, decimal, ap, arith}
use Rattle.texts.proofs.Filling.{parted}
use Rattle.kinds.specs.Pairing.{pair_length}
use Rattle.kinds.proofs.pairs.PairForm.write.Goals as goal

-- two numbers of at most ten digits
pub returns : goal.returns
returns c =
    let a = c.args.first in
    let b = c.args.second in
    let mark = c.args.self.now.mark in
    let begun = ap (λ xs. take 60 (xs ++ decimal a)) c.new-text.ensures in
    let short = pair_length 10 10 mark a b (omega arith) (omega arith) (omega arith) (omega arith) (omega arith) (omega arith) in
    let whole = parted 60 mark (decimal a) (decimal b) (omega arith) in
    cc
