-- Text lines: at most 60 bytes, every one from 32 to 126 and none 59, the semicolon.
use Rattle.std.specs.Prelude.{◌≡◌, ℕ, ◌≤◌, Bool, not, ◌&&◌, length, ◌==◌, nat_le}
use Rattle.std.specs.List.{AllByRecursion, list_all}
use Rattle.graggle.specs.Texts.{Text}

abbrev pub printable : ℕ → Bool
printable c = nat_le 32 c && (nat_le c 126 && not (c == 59))

abbrev pub lawful_line : Text → Bool
lawful_line t = nat_le (length t) 60 && list_all printable t

pub record Printable (c : ℕ) : Type 0 where
  pub least : 32 ≤ c
  pub most : c ≤ 126
  pub other : c ≡ 59 → ⊥

pub record IsTextLine (t : Text) : Type 0 where
  pub short : length t ≤ 60
  pub bytes : AllByRecursion Printable t
