use Rattle.std.proofs.Common.{◌≡◌, ◌+◌, length, arith, rules}
use Rattle.std.proofs.lemmas.Result.{err_from_is_err_and}
use Rattle.patch.specs.Meant.{places_of}
use Rattle.patch.specs.Refusals.{number_of}
use Rattle.patch.proofs.LineSteps.{amiss, carries_on, too_many}
use Rattle.patch.proofs.Refusing.{refused_with}
use Rattle.patch.proofs.reader.Entries.check_values.Goals as goal

pub returns-in_err-check_line-clause-reads : goal.returns-in_err-check_line-clause-reads
returns-in_err-check_line-clause-reads g c =
    let k = c.loop-count.count in
    let s = c.loop-count.self in
    let w = c.in_err-check_line.field-0.0 in
    let f = c.in_err-check_line.ensures.passes in
    let p = err_from_is_err_and c.from_residual.result c.from_residual.ensures.1 in
    let some : length s.rest.now ≡ 0 → ⊥ = λ e. omega arith in
    let few : k ≡ 128 → ⊥ = λ e. omega arith in
    rw (p.1, p.2) (refused_with w _ w.reason (k + 2) f.1 (c.loop-count.invariant.1.faults (number_of w.reason) (k + 2) (amiss g.I.Written.lawful g.C.Written.lawful (places_of s.columns) k s.rest.now (number_of w.reason) some few f.0)))

pub loop-count-preserved : goal.loop-count-preserved
loop-count-preserved g c =
    let l = c.in_ok-check_line.ensures.passes in
    (search rules, carries_on g.I.Written.lawful g.C.Written.lawful c.loop-count.count c.loop-count.self c.check_line.new.self c.args.self l.0 (λ e. omega arith) l.1 c.loop-count.invariant.1)

pub returns-clause-reads : goal.returns-clause-reads
returns-clause-reads g c =
    let s = c.loop-count.self in
    let full = too_many g.I.Written.lawful g.C.Written.lawful (places_of s.columns) c.loop-count.count s.rest.now (λ e. omega arith) (omega arith) in
    refused_with c.fault-2.result _ _ 130 c.fault-2.ensures (c.loop-count.invariant.1.faults 5 130 full)
