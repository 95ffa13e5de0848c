use Rattle.patch.proofs.LineSteps.{gives_next}
use Rattle.patch.proofs.reader.EntriesIterator.next.Goals as goal

pub returns-clause-steps : goal.returns-clause-steps
returns-clause-steps g c =
    rw c.ok.ensures.value (gives_next g.I.Written.lawful g.C.Written.lawful g.I.Written.text g.C.Written.text c.args.self.now c.read_front.new.self c.read_front.result c.read_front.ensures.front)
