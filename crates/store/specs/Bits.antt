-- Which ranks a row has, and what a table of rows says of two ranks.
use Rattle.std.specs.Prelude.{ℕ, ◌/◌, ◌%◌, ◌^◌, Bool, ◌&&◌, ◌||◌, [], ◌==◌, nat_lt, slice_index, slice_index_or}
use Rattle.store.specs.declared.row.Row.{Row}
use Rattle.store.specs.declared.rows.Rows.{Rows}

-- whether the binary digit of n at k is 1; the lowest digit is at 0
abbrev pub digit : ℕ → ℕ → Bool
digit n k = n / 2 ^ k % 2 == 1

-- whether the row has the rank k: 64 ranks to a word, and none of 256 or more
abbrev pub bit : Row → ℕ → Bool
bit r k = nat_lt k 256 && digit (slice_index r.words (k / 64)) (k % 64)

-- what a read beyond a list of rows gives
abbrev pub no_row : Row
no_row = record { words = [] }

-- whether the row at i has the rank j; there is no row at 256 or more
abbrev pub spot : Rows → ℕ → ℕ → Bool
spot t i j = nat_lt i 256 && bit (slice_index_or t.rows i no_row) j

-- the table m with one link more: i gains what `to` reaches, and `to` itself, if i is `from` or reaches it
abbrev pub linked : (ℕ → ℕ → Bool) → ℕ → ℕ → ℕ → ℕ → Bool
linked m from to i j = m i j || ((nat_lt i 256 && (i == from || m i from)) && (m to j || (nat_lt to 256 && j == to)))
