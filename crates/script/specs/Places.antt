-- The place that a refusal of a script tells.
use Rattle.std.specs.Prelude.{ℕ}
use Rattle.script.specs.declared.machine.ScriptError.{ScriptError}
use Rattle.script.specs.declared.machine.ScriptError.TheVariants.{TooLong, NoCommand}

-- the line that is no command, or 0 for the whole of a script that is too long
abbrev pub place_of : ScriptError → ℕ
place_of TooLong = 0
place_of (NoCommand line) = line
