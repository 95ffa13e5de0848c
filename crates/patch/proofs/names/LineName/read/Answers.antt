use Rattle.std.proofs.Common.{ap, ◌∙◌}
use Rattle.patch.specs.Meant.{name_read}
use Rattle.patch.proofs.NameSteps.{no_colon, no_patch, no_index, whole_name, names_mean}
use Rattle.patch.proofs.names.LineName.read.Goals as goal

pub returns-in_err-patch : goal.returns-in_err-patch
returns-in_err-patch g c =
    let k = g.I.Written in
    let t = c.args.text.now in
    let e = ap (name_read k.text) c.from_residual.ensures ∙ no_colon k.lawful t c.in_err-patch.ensures.parts in
    record { reads = e; means = names_mean k.lawful t (λ s h. (g.met.I.Identifier.kind.plain s h).1) _ e }

pub returns-in_err-patch-2 : goal.returns-in_err-patch-2
returns-in_err-patch-2 g c =
    let k = g.I.Written in
    let t = c.args.text.now in
    let s = c.in_ok-patch in
    let e = ap (name_read k.text) c.from_residual-in_err-patch-2.ensures ∙ no_patch k.lawful t s.patch.now s.index.now s.ensures.parts c.in_err-patch-2.ensures in
    record { reads = e; means = names_mean k.lawful t (λ s h. (g.met.I.Identifier.kind.plain s h).1) _ e }

pub returns-in_err-index : goal.returns-in_err-index
returns-in_err-index g c =
    let k = g.I.Written in
    let t = c.args.text.now in
    let s = c.in_ok-patch in
    let e = ap (name_read k.text) c.from_residual-in_err-index.ensures ∙ no_index k.lawful t s.patch.now s.index.now s.ensures.parts c.in_err-index.ensures.reads in
    record { reads = e; means = names_mean k.lawful t (λ s h. (g.met.I.Identifier.kind.plain s h).1) _ e }

pub returns : goal.returns
returns g c =
    let k = g.I.Written in
    let t = c.args.text.now in
    let s = c.in_ok-patch in
    let x = c.in_ok-patch-2.patch in
    let e = whole_name k.lawful t s.patch.now s.index.now s.ensures.parts (k.text x) c.in_ok-index.index (g.met.I.Written.own x) c.in_ok-patch-2.ensures c.in_ok-index.ensures.reads in
    record { reads = e; means = names_mean k.lawful t (λ s h. (g.met.I.Identifier.kind.plain s h).1) _ e }
