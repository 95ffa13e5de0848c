use Rattle.std.proofs.Common.{◌≡◌, true, take}
use Rattle.std.specs.List.{list_all}
use Rattle.kinds.specs.TextLines.{printable}
use Rattle.kinds.proofs.text_line.TextLineWritten.read.Given as goal

abbrev pub invariant-loop-byte : goal.invariant-loop-byte
invariant-loop-byte l = list_all printable (take l.byte-index l.bytes) ≡ true
