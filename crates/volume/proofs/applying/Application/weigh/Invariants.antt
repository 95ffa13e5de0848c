use Rattle.std.proofs.Common.{◌≡◌, ◌≤◌}
use Rattle.std.specs.Iterator.Adapters.{zip_first}
use Rattle.volume.proofs.applying.Application.weigh.Given as goal

abbrev pub invariant-loop-entry : goal.invariant-loop-entry
invariant-loop-entry g l =
    let places = zip_first l.entry-iterator in
    (places.end ≡ 128) × (places.start ≤ 128) × (l.sizes.lines ≤ places.start) × (l.sizes.links ≤ places.start) × (l.sizes.strikes ≤ places.start)
