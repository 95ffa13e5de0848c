-- How many ranks a row has.
use Rattle.std.specs.Prelude.{ℕ, count_by}
use Rattle.std.specs.List.{range_with_len}
use Rattle.store.specs.declared.row.Row.{Row}
use Rattle.store.specs.Bits.{bit}

unfoldable pub ranks : Row → ℕ
ranks row = count_by (bit row) (range_with_len 0 256)
