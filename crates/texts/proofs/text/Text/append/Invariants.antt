use Rattle.std.proofs.Common.{◌≡◌, ◌≤◌, ◌++◌, length, take, drop}
use Rattle.texts.proofs.text.Text.append.Given as goal

abbrev pub invariant-loop-byte : goal.invariant-loop-byte
invariant-loop-byte g l = record {
  within : length l.self ≤ g.row.N;
  left : take g.row.N (l.self ++ drop l.byte-index l.bytes) ≡ take g.row.N (l.initial.self ++ l.bytes);
}
