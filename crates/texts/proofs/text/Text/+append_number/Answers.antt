use Rattle.std.proofs.Common.{ℕ, ◌+◌, ◌/◌, ◌%◌, [], ◌∷◌, ◌++◌, take, decimal, sym, ap, ◌∙◌, arith}
use Rattle.std.proofs.lemmas.Fmt.{decimal_digit, decimal_step}
use Rattle.texts.proofs.Filling.{filled_more}
use Rattle.texts.proofs.text.Text.+append_number.Goals as goal

pub returns-then-number-lt10-clause-more : goal.returns-then-number-lt10-clause-more
returns-then-number-lt10-clause-more g t c =
    let n : ℕ = c.args.number in
    c.push.ensures.more ∙ ap (λ ds. take g.row.N (c.args.self.now ++ ds)) (sym (decimal_digit n c.if-number-lt10.true))

pub returns-clause-more : goal.returns-clause-more
returns-clause-more g t c =
    let n : ℕ = c.args.number in
    let start = c.args.self.now in
    let last-digit = (48 + n % 10) ∷ [] in
    c.push-2.ensures.more
    ∙ ap (λ ys. take g.row.N (ys ++ last-digit)) c.append_number.ensures.more
    ∙ filled_more g.row.N start (decimal (n / 10)) last-digit
    ∙ ap (λ ds. take g.row.N (start ++ ds)) (sym (decimal_step n c.if-number-lt10.false (omega arith)))
