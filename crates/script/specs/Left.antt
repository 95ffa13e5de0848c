-- How much of a script is left: each command takes some of it.
use Rattle.std.specs.Prelude.{ℕ, ◌+◌, length, Option, None, Some}
use Rattle.script.specs.declared.machine.Inside.{Inside}
use Rattle.script.specs.declared.machine.Script.{Script}

-- an apply that has begun and not ended is still to be answered
abbrev pub begun : Option Inside → ℕ
begun None = 0
begun (Some inside) = 1

abbrev pub left : Script → ℕ
left s = length s.rest.now + begun s.state
