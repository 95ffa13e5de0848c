use Rattle.std.proofs.Common.{true, ◌∷◌, ◌≡◌, Ok, ◌∙◌, rules}
use Rattle.std.proofs.lemmas.Result.{err_from_is_err_and}
use Rattle.patch.specs.declared.reader.Patch.{Patch}
use Rattle.graggle.specs.Texts.{split}
use Rattle.graggle.specs.Reading.{found, heads_fit}
use Rattle.patch.specs.Meant.{places_of}
use Rattle.patch.proofs.LineSteps.{lines_behind}
use Rattle.patch.proofs.Refusing.{told}
use Rattle.patch.proofs.reader.Patch.read.Goals as goal

pub returns-in_err-heading : goal.returns-in_err-heading
returns-in_err-heading g c =
    let k = told g.met.I.Identifier.kind g.met.C.Content.kind c.args.text.now c.from_residual.result (search rules) in
    record { reads = k.reads; means = k.means; refuses = k.refuses; alike = k.alike; lies = search rules; fault = search rules }

pub returns-in_err-columns : goal.returns-in_err-columns
returns-in_err-columns g c =
    let k = told g.met.I.Identifier.kind g.met.C.Content.kind c.args.text.now c.from_residual-in_err-columns.result (search rules) in
    record { reads = k.reads; means = k.means; refuses = k.refuses; alike = k.alike; lies = search rules; fault = search rules }

pub returns-in_err-check_values : goal.returns-in_err-check_values
returns-in_err-check_values g c =
    let t = c.args.text.now in
    let heading = c.in_ok-heading.heading.now in
    let rest = c.in_ok-heading.values.now in
    let at = places_of c.in_ok-columns.columns in
    let p = err_from_is_err_and c.from_residual-in_err-check_values.result c.from_residual-in_err-check_values.ensures.1 in
    let parts : split 10 t ≡ heading ∷ split 10 rest = search rules in
    let fit : (heads_fit (split 59 heading) ≡ true) × (at ≡ found (split 59 heading)) = search rules in
    let e = rw (c.entries.ensures.columns, c.entries.ensures.rest) at c.in_err-check_values.ensures.reads in
    let h = lines_behind g.I.Written.lawful g.C.Written.lawful at t heading rest parts fit.0 fit.1 ∙ e.0 in
    let k = told g.met.I.Identifier.kind g.met.C.Content.kind t c.from_residual-in_err-check_values.result (rw (p.1, p.2) (h, e.1, e.2)) in
    record { reads = k.reads; means = k.means; refuses = k.refuses; alike = k.alike; lies = search rules; fault = search rules }

pub returns : goal.returns
returns g c =
    let t = c.args.text.now in
    let heading = c.in_ok-heading.heading.now in
    let rest = c.in_ok-heading.values.now in
    let at = places_of c.in_ok-columns.columns in
    let parts : split 10 t ≡ heading ∷ split 10 rest = search rules in
    let fit : (heads_fit (split 59 heading) ≡ true) × (at ≡ found (split 59 heading)) = search rules in
    let e = rw (c.entries.ensures.columns, c.entries.ensures.rest) at c.in_ok-check_values.ensures.reads in
    let h = lines_behind g.I.Written.lawful g.C.Written.lawful at t heading rest parts fit.0 fit.1 ∙ e in
    let p : Patch = record { columns = c.in_ok-columns.columns; values = c.in_ok-heading.values } in
    let k = told g.met.I.Identifier.kind g.met.C.Content.kind {I = g.row.I.Denot} t (Ok p) h in
    record { reads = k.reads; means = k.means; refuses = k.refuses; alike = k.alike; lies = record { heading = heading; lines = parts; columns = fit.1 }; fault = tt }
