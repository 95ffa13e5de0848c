-- Fingerprints: 32 hexadecimal digits, 0 to 9 (bytes 48 to 57) and a to f (97 to 102), ordered as text.
use Rattle.std.specs.Prelude.{◌≡◌, ℕ, Bool, ◌&&◌, ◌||◌, ◌⊎◌, length, ◌==◌, nat_le}
use Rattle.std.specs.Int.{IsInRange}
use Rattle.std.specs.List.{AllByRecursion, list_all}
use Rattle.graggle.specs.Texts.{Text}

abbrev pub hexadecimal : ℕ → Bool
hexadecimal c = (nat_le 48 c && nat_le c 57) || (nat_le 97 c && nat_le c 102)

abbrev pub lawful_fingerprint : Text → Bool
lawful_fingerprint t = length t == 32 && list_all hexadecimal t

pub record IsFingerprint (t : Text) : Type 0 where
  pub long : length t ≡ 32
  pub digits : AllByRecursion (λ c. IsInRange 48 57 c ⊎ IsInRange 97 102 c) t
