-- Stock rows: item,copies, an item from 1 to 999,999 and how many copies of it, from 0 to 999. The comma is byte 44.
use Rattle.std.specs.Prelude.{◌≡◌, ℕ, ◌≤◌, Bool}
use Rattle.graggle.specs.Texts.{Text}
use Rattle.graggle.specs.Numbers.{numeral}
use Rattle.kinds.specs.Pairs.{two_pass, pair_text}

abbrev pub lawful_row : Text → Bool
lawful_row t = two_pass 44 (numeral 1 999999) (numeral 0 999) t

-- an item and a count of copies that there can be
pub record RowRange (item copies : ℕ) : Type 0 where
  pub item_least : 1 ≤ item
  pub item_most : item ≤ 999999
  pub copies_most : copies ≤ 999

-- a text that an item and a count of copies write
pub record IsStockRow (t : Text) : Type 0 where
  pub item : ℕ
  pub copies : ℕ
  pub range : RowRange item copies
  pub text : t ≡ pair_text 44 item copies
