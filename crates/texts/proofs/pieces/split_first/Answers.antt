use Rattle.std.proofs.Common.{◌≡◌, ◌+◌, ◌∷◌, drop, sym, ap, ◌∙◌, arith}
use Rattle.std.proofs.lemmas.List.{drop-drop}
use Rattle.graggle.specs.Texts.{split}
use Rattle.texts.proofs.pieces.split_first.Goals as goal

pub returns-clause-parts : goal.returns-clause-parts
returns-clause-parts c =
    let e = c.split_at.ensures in
    let behind : drop (c.find.result + 1) c.args.text.now ≡ c.in_ok-behind.behind.now = sym (drop-drop 1 c.find.result c.args.text.now) ∙ ap (drop 1) (sym e.back ∙ c.in_ok-behind.ensures.cases.0) in
    c.find.ensures.first (omega (arith, c.in_ok-behind.ensures.cases.1)) ∙ (λ i. sym e.front i ∷ split c.args.mark (behind i))
