use Rattle.std.proofs.Common.{◌≡◌, MatchOption, false, true, sym, rules, tests, subst, eqb}
use Rattle.std.specs.Str.{bytes_eq}
use Rattle.std.proofs.lemmas.Iterator.Search.{position_from_yields_List}
use Rattle.std.proofs.lemmas.Iterator.Splits.{YieldsList-from_slice_split}
use Rattle.graggle.specs.Texts.{split, has, place}
use Rattle.patch.proofs.HeadSteps.{found_by}
use Rattle.patch.proofs.columns.place_of.Goals as goal

pub returns : goal.returns
returns c =
    let t = c.args.heading.now in
    let n = c.args.name.now in
    let s = c.split.ensures in
    let e = position_from_yields_List (λ p. bytes_eq p n) _ _ c.position.result c.position.ensures.ran (YieldsList-from_slice_split _ (λ x. eqb x 59) t s.rest s.done s.closure (λ x b q k. search (rules, tests))) (λ x b q k. search (rules, tests)) in
    subst (λ o. MatchOption o (has n (split 59 t) ≡ false) (λ i. (has n (split 59 t) ≡ true) × (i ≡ place n (split 59 t)))) (sym e) (found_by n (split 59 t))
