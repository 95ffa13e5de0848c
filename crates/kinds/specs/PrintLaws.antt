-- Laws of the lawful fingerprints.
use Rattle.std.specs.Prelude.{◌≡◌, ℕ, true, ◌⊎◌, length, replicate, Decides, ◌==◌, ◌≢◌, refl}
use Rattle.std.proofs.Common.{arith, subst}
use Rattle.std.specs.Int.{IsInRange}
use Rattle.std.proofs.ByRecursion.{All-weaker, Decides-by_and}
use Rattle.std.proofs.lemmas.Bool.Decides.{nat_tests, Decides-and, Decides-eqb, Decides-like}
use Rattle.std.specs.List.{list_all}
use Rattle.graggle.specs.Texts.{Text, Free}
use Rattle.graggle.specs.Orders.{by_bytes}
use Rattle.graggle.specs.Kinds.{Identifiers}
use Rattle.graggle.proofs.Ordered.{bytes_total}
use Rattle.kinds.specs.Fingerprints.{hexadecimal, lawful_fingerprint, IsFingerprint}

abbrev Digit : ℕ → Type 0
Digit c = IsInRange 48 57 c ⊎ IsInRange 97 102 c

digit_decides : (c : ℕ) → Decides (hexadecimal c) (Digit c)
digit_decides c = (λ h. grind (arith, nat_tests), λ d. grind (arith, nat_tests))

pub fingerprint_decides : (t : Text) → Decides (lawful_fingerprint t) (IsFingerprint t)
fingerprint_decides t =
    Decides-like (lawful_fingerprint t) (λ p. record { long = p.0; digits = p.1 }) (λ w. (w.long, w.digits))
    (Decides-and (length t == 32) (list_all hexadecimal t) (Decides-eqb (length t) 32) (Decides-by_and hexadecimal Digit (list_all hexadecimal) digit_decides refl (λ _ _. refl) t))

-- a byte that is no digit
free_of : (b : ℕ) (t : Text) → (Digit b → ⊥) → lawful_fingerprint t ≡ true → Free b t
free_of b t n h = All-weaker Digit (λ c. c ≢ b) (λ c d e. n (subst Digit e d)) t ((fingerprint_decides t).0 h).digits

-- 32 zeros are a lawful fingerprint, so no bound is less than 32
pub fingerprints_kind : Identifiers lawful_fingerprint by_bytes 32
fingerprints_kind = record {
  some = λ t h. let l = ((fingerprint_decides t).0 h).long in omega arith;
  long = record { within = λ t h. let l = ((fingerprint_decides t).0 h).long in omega arith; least = λ m b. b (replicate 32 48) refl };
  short = omega arith;
  plain = λ t h. (free_of 10 t (λ d. omega arith) h, free_of 58 t (λ d. omega arith) h, free_of 59 t (λ d. omega arith) h);
  total = bytes_total (λ t. lawful_fingerprint t ≡ true);
}
