-- What a table means.
use Rattle.std.specs.Prelude.{ℕ, List, length, take}
use Rattle.flat.specs.declared.table.Table.{Table}

-- the records of a table, in order
abbrev pub items : {R : Type 0} → Table R → List R
items t = take t.count t.slots.now

-- how many records it may have
abbrev pub room : {R : Type 0} → Table R → ℕ
room t = length t.slots.now
