use Rattle.std.proofs.Common.{◌≡◌, eqb, length, rules, tests, ◌∙◌, sym, ap}
use Rattle.std.specs.List.{position, position_or_len}
use Rattle.std.specs.Option.{unwrap_or}
use Rattle.std.proofs.lemmas.Iterator.Search.{position_from_yields_List}
use Rattle.std.proofs.lemmas.Iterator.{YieldsList-from_slice}
use Rattle.texts.proofs.PieceSteps.{position_or, split_none, split_at}
use Rattle.texts.proofs.pieces.find.Goals as goal

pub returns : goal.returns
returns c =
    let b = c.args.mark in
    let t = c.args.text.now in
    let e : c.position.result ≡ position (λ x. eqb x b) t = position_from_yields_List (λ x. eqb x b) _ _ _ c.position.ensures.ran (YieldsList-from_slice t c.iter.ensures.rest) (λ x b q k. search (rules, tests)) in
    let n : c.unwrap_or.result ≡ position_or_len (λ x. eqb x b) t = c.unwrap_or.ensures ∙ ap (λ o. unwrap_or o (length t)) e ∙ position_or b t in
    record {
      within = search rules;
      none = λ l. split_none b t (sym n ∙ l);
      first = rw n (split_at b t);
    }
