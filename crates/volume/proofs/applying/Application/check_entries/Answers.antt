use Rattle.std.proofs.Common.{rules}
use Rattle.std.proofs.lemmas.Result.{IfErr-at_err, err_from_is_err_and}
use Rattle.patch.specs.Refusals.{Tabled, apply_gives}
use Rattle.patch.proofs.Mapped.{mapped_err}
use Rattle.volume.proofs.applying.Application.check_entries.Goals as goal

pub returns-in_err-map_err : goal.returns-in_err-map_err
returns-in_err-map_err g c =
    let p = err_from_is_err_and c.from_residual.result c.from_residual.ensures.1 in
    let m = mapped_err (Tabled apply_gives) (λ e d k. search rules) c.check_entry.result c.map_err.result c.map_err.ensures.cases in
    let w = IfErr-at_err (Tabled apply_gives) c.in_err-map_err.was m in
    rw (p.1, p.2) (record { fault = w })
