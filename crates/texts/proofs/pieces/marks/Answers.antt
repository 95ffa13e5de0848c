use Rattle.std.proofs.Common.{◌≡◌, eqb, rules, ◌∙◌, ◌+◌, sym, ap}
use Rattle.std.specs.List.{count_by}
use Rattle.texts.proofs.PieceSteps.{length-split}
use Rattle.texts.proofs.pieces.marks.Goals as goal

pub returns-clause-pieces : goal.returns-clause-pieces
returns-clause-pieces c =
    let e : c.count.result ≡ count_by (λ x. eqb x c.args.mark) c.args.text.now = search rules in
    ap (λ n. n + 1) e ∙ sym (length-split c.args.mark c.args.text.now)
