use Rattle.std.proofs.Common.{refl, rules}
use Rattle.std.proofs.lemmas.Result.{err_from_is_err_and, MatchResult-at_ok, MatchResult-at_err}
use Rattle.patch.specs.Meant.{entry_of, reason_of}
use Rattle.patch.specs.declared.refusals.Cause.TheVariants.{Nothing}
use Rattle.patch.specs.declared.refusals.Layer.TheVariants.{Reader}
use Rattle.patch.proofs.Mapped.{mapped}
use Rattle.patch.proofs.reader.Entries.check_line.Goals as goal

pub returns-in_err-map_err-clause-passes : goal.returns-in_err-map_err-clause-passes
returns-in_err-map_err-clause-passes g c =
    let p = err_from_is_err_and c.from_residual.result c.from_residual.ensures.1 in
    let m = mapped (λ e. record { reason = reason_of e; place = c.args.line; cause = Nothing; layer = Reader }) (λ e d k. search rules) c.read_front.result c.map_err.result c.map_err.ensures.cases in
    let e = MatchResult-at_err _ _ _ c.in_err-map_err.was m in
    let a = MatchResult-at_err _ _ e.0 e.1 c.read_front.ensures.front in
    rw (p.1, p.2, e.2) (a.0, refl)

pub returns-clause-passes : goal.returns-clause-passes
returns-clause-passes g c =
    let m = mapped (λ e. record { reason = reason_of e; place = c.args.line; cause = Nothing; layer = Reader }) (λ e d k. search rules) c.read_front.result c.map_err.result c.map_err.ensures.cases in
    let e = MatchResult-at_ok _ _ _ c.in_ok-map_err.was m in
    (entry_of g.I.Written.text g.C.Written.text c.in_ok-map_err.field-0, MatchResult-at_ok _ _ c.in_ok-map_err.field-0 e c.read_front.ensures.front)
