use Rattle.std.proofs.Common.{eqb, rules, tests, ap, ◌∙◌, []}
use Rattle.std.specs.List.{slice_split}
use Rattle.std.specs.Option.{unwrap_or}
use Rattle.std.proofs.lemmas.Option.{unwrap_or-slice_get}
use Rattle.std.proofs.lemmas.Iterator.Consumers.{nth_from_yields_List}
use Rattle.std.proofs.lemmas.Iterator.Splits.{YieldsList-from_slice_split}
use Rattle.texts.proofs.PieceSteps.{now-unwrap_or}
use Rattle.texts.proofs.pieces.piece.Goals as goal

pub returns : goal.returns
returns c =
    let b = c.args.mark in
    let t = c.args.text.now in
    let n = c.args.place in
    let s = c.split.ensures in
    let e = nth_from_yields_List c.nth.result _ n c.nth.ensures.ran (YieldsList-from_slice_split _ (λ x. eqb x b) t s.rest s.done s.closure (λ x r q k. search (rules, tests))) in
    ap (λ r. r.now) c.unwrap_or.ensures ∙ now-unwrap_or c.nth.result _ ∙ ap (λ o. unwrap_or o []) e
    ∙ unwrap_or-slice_get (slice_split (λ x. eqb x b) t) n []
