-- Numbers in texts: decimal, with no leading zero.
use Rattle.std.specs.Prelude.{◌≡◌, ℕ, ◌≤◌, Bool, cond, not, ◌&&◌, ◌||◌, length, Some, None, decimal, Option, ◌==◌, nat_le, nat_lt, slice_index}
use Rattle.std.specs.Str.Parse.{digits_value}
use Rattle.std.specs.Str.{all_ascii_digits}
use Rattle.graggle.specs.Texts.{Text}

-- digits, at least one, the first no zero (48) unless it is the only one, that tell a number from low to high
abbrev pub numeral : ℕ → ℕ → Text → Bool
numeral low high t =
    all_ascii_digits t && (nat_lt 0 (length t) && ((nat_lt (length t) 2 || not (slice_index t 0 == 48)) && (nat_le low (digits_value 10 t) && nat_le (digits_value 10 t) high)))

-- the number from low to high that a text tells
abbrev pub number : ℕ → ℕ → Text → Option ℕ
number low high t = cond (numeral low high t) (Some (digits_value 10 t)) None

-- in the rules' own words: n is from low to high, and t is n in decimal
pub record Numeral (low high : ℕ) (t : Text) (n : ℕ) : Type 0 where
  pub least : low ≤ n
  pub most : n ≤ high
  pub text : t ≡ decimal n
