use Rattle.std.proofs.Common.{rules, sym}
use Rattle.kinds.specs.Pairing.{no_second, pair_read}
use Rattle.kinds.proofs.pairs.PairForm.read.Goals as goal

pub returns-in_err-second : goal.returns-in_err-second
returns-in_err-second c =
    let s = c.in_ok-first in
    let unlawful = no_second c.args.self.now c.args.text.now s.first.now s.second.now s.ensures.parts (sym c.in_err-second.ensures.reads) in
    search rules

pub returns : goal.returns
returns c =
    let s = c.in_ok-first in
    pair_read c.args.self.now c.args.text.now s.first.now s.second.now s.ensures.parts c.in_ok-first-2.first c.in_ok-second.second (sym c.in_ok-first-2.ensures.reads) (sym c.in_ok-second.ensures.reads)
