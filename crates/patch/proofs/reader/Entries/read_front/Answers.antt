use Rattle.std.proofs.Common.{refl, sym, rules}
use Rattle.std.proofs.lemmas.Result.{err_from_is_err_and}
use Rattle.patch.specs.Meant.Amiss.{is_wrong}
use Rattle.patch.proofs.reader.Entries.read_front.Goals as goal

pub returns-in_err-entry-clause-front : goal.returns-in_err-entry-clause-front
returns-in_err-entry-clause-front g c =
    let s = c.in_ok-values in
    let p = err_from_is_err_and c.from_residual-in_err-entry.result c.from_residual-in_err-entry.ensures.1 in
    rw (p.1, p.2) (is_wrong s.values.now s.behind.now (search rules) (sym c.in_err-entry.ensures), refl)
