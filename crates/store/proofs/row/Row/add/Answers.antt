use Rattle.std.proofs.Common.{◌*◌, ◌/◌, ◌%◌, ◌^◌, get_or, arith}
use lib.Bits.{bit_or}
use Rattle.store.proofs.Words.{add_rank, digit_more}
use Rattle.store.proofs.row.Row.add.Goals as goal

pub returns-then-rank-lt-MOST_LINES : goal.returns-then-rank-lt-MOST_LINES
returns-then-rank-lt-MOST_LINES c k =
    let word = get_or c.args.self.now.words (c.args.rank / 64) 0 in
    let s = c.args.rank % 64 in
    add_rank c.args.self.now.words c.args.rank (bit_or word ((1 * 2 ^ s) % 2 ^ 64)) k c.if-rank-lt-MOST_LINES.true (omega arith) (λ d. digit_more word s d (omega arith))
