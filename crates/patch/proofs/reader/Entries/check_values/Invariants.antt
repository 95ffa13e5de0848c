use Rattle.std.proofs.Common.{◌<◌, length}
use Rattle.patch.proofs.LineSteps.{Carries}
use Rattle.patch.proofs.reader.Entries.check_values.Given as goal

abbrev pub invariant-loop-count : goal.invariant-loop-count
invariant-loop-count g l =
    (0 < length l.self.rest.now) × Carries g.I.Written.lawful g.C.Written.lawful l.count l.self l.initial.self
