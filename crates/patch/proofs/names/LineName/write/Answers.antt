use Rattle.std.proofs.Common.{[], ◌∷◌, ◌++◌, take, decimal, ap, ◌∙◌, arith}
use Rattle.patch.proofs.NameSteps.{name_filled}
use Rattle.patch.proofs.names.LineName.write.Goals as goal

pub returns : goal.returns
returns g c =
    let x = c.args.self.now.patch in
    let n = c.args.self.now.index in
    let law = g.met.I.Identifier.kind in
    let within = law.long.within (g.I.Written.text x) (g.met.I.Written.own x) in
    let patch = c.from_slice-text.ensures.front ∙ ap (take 36) (c.as_slice.ensures.bytes ∙ c.write.ensures) in
    c.append_number.ensures.more
    ∙ ap (λ xs. take 36 (xs ++ decimal n)) (c.push.ensures.more ∙ ap (λ xs. take 36 (xs ++ 58 ∷ [])) patch)
    ∙ name_filled (g.I.Written.text x) n (omega (arith, within, law.short)) (omega arith)
