-- Numbers in texts: told just where they are written.
use Rattle.std.proofs.Common.{◌≡◌, ℕ, ◌^◌, ◌<◌, ◌≤◌, true, false, ◌↔◌, length, get_or, Some, None, decimal, Option, sym, ap, ◌∙◌, subst, ⊎_elim, arith}
use Rattle.std.specs.Str.Parse.{digits_value}
use Rattle.std.specs.Int.{IsInRange}
use Rattle.std.specs.Str.{all_ascii_digits}
use Rattle.std.proofs.lemmas.Bool.{cond_both, cond-true, and_parts, cases_eq, false_from_ne_true}
use Rattle.std.proofs.lemmas.Bool.Decides.{nat_tests}
use Rattle.std.proofs.lemmas.Str.Parse.{IsNumeralModel, numerals_by_value, tells_all_ascii_digits, not_in_digits}
use Rattle.std.proofs.lemmas.Fmt.{decimal-digits_value, digits_decimal, digits_value-decimal, first_decimal, decimal_nonempty, decimal_digit}
use Rattle.std.proofs.ByRecursion.{All-from_get_or}
use Rattle.graggle.specs.Texts.{Text, Free}
use Rattle.graggle.specs.Numbers.{numeral, number, Numeral}

pub digits_told : IsNumeralModel (λ ds. all_ascii_digits ds ≡ true) (digits_value 10)
digits_told = numerals_by_value _ tells_all_ascii_digits

pub decimal_free : (b n : ℕ) → n < 2 ^ 64 → (IsInRange 48 57 b → ⊥) → Free b (decimal n)
decimal_free b n h out =
    All-from_get_or (λ c. c ≡ b → ⊥) (decimal n) 0
    (λ i l e. not_in_digits digits_told (decimal n) b (digits_decimal digits_told n h) out i l e)

pub told_value : (n : ℕ) → n < 2 ^ 64 → digits_value 10 (decimal n) ≡ n
told_value n h = digits_value-decimal digits_told n h

module _ (low high : ℕ) (fits : high < 2 ^ 64) where
  pub record Told (t : Text) : Type 0 where
    pub digits : all_ascii_digits t ≡ true
    pub some : 0 < length t
    pub zero : get_or t 0 0 ≡ 48 → length t ≡ 1
    pub least : low ≤ digits_value 10 t
    pub most : digits_value 10 t ≤ high
    pub text : t ≡ decimal (digits_value 10 t)

  pub numeral_told : (t : Text) → numeral low high t ≡ true → Told t
  numeral_told t e =
      let p = and_parts (all_ascii_digits t) _ e in
      let facts : (0 < length t) × ((get_or t 0 0 ≡ 48 → length t ≡ 1) × ((low ≤ digits_value 10 t) × (digits_value 10 t ≤ high))) = grind (arith, nat_tests, and_parts) in
      record {
        digits = p.0;
        some = facts.0;
        zero = facts.1.0;
        least = facts.1.1.0;
        most = facts.1.1.1;
        text = sym (decimal-digits_value digits_told t p.0 facts.0 facts.1.0 (omega arith));
      }

  pub told_numeral : (t : Text) → all_ascii_digits t ≡ true → 0 < length t → (get_or t 0 0 ≡ 48 → length t ≡ 1) → low ≤ digits_value 10 t → digits_value 10 t ≤ high → numeral low high t ≡ true
  told_numeral t d s z l h = grind (arith, nat_tests)

  pub numeral_written : (n : ℕ) → low ≤ n → n ≤ high → numeral low high (decimal n) ≡ true
  numeral_written n l h =
      let v = told_value n (omega arith) in
      told_numeral (decimal n) (digits_decimal digits_told n (omega arith)) (decimal_nonempty n (omega arith)) zero (omega (arith, v)) (omega (arith, v))
    where
      zero : get_or (decimal n) 0 0 ≡ 48 → length (decimal n) ≡ 1
      zero e = ⊎_elim (λ z. ap length (ap decimal z ∙ decimal_digit 0 (omega arith))) (λ s. absurd (let f = first_decimal n (omega arith) (omega arith) in omega (arith, f, e))) (cases_eq n 0)

  pub number_written : (n : ℕ) → low ≤ n → n ≤ high → number low high (decimal n) ≡ Some n
  number_written n l h = cond-true (numeral low high (decimal n)) _ _ (numeral_written n l h) ∙ ap Some (told_value n (omega arith))

  pub number_from : (t : Text) (n : ℕ) → number low high t ≡ Some n → (t ≡ decimal n) × (low ≤ n) × (n ≤ high)
  number_from t n = cond_both (numeral low high t) (Some (digits_value 10 t)) None (λ o. o ≡ Some n → (t ≡ decimal n) × (low ≤ n) × (n ≤ high))
      (λ e s.
      let v : digits_value 10 t ≡ n = cc in
      let i = numeral_told t e in
      (i.text ∙ ap decimal v, omega (arith, i.least, v), omega (arith, i.most, v)))
      (λ e s. cc)

  -- a text tells a number exactly where the number writes it
  pub numbers_mean : (t : Text) (o : Option ℕ) → o ≡ number low high t → (n : ℕ) → (o ≡ Some n) ↔ Numeral low high t n
  numbers_mean t o e n = (
    λ h. let k = number_from t n (sym e ∙ h) in record { least = k.1; most = k.2; text = k.0 },
    λ k. e ∙ ap (number low high) k.text ∙ number_written n k.least k.most,
  )

  pub numeral_free : (b : ℕ) → (IsInRange 48 57 b → ⊥) → (t : Text) → numeral low high t ≡ true → Free b t
  numeral_free b out t e = let k = numeral_told t e in subst (Free b) (sym k.text) (decimal_free b (digits_value 10 t) (omega (arith, k.most)) out)

  -- a text with a byte that is no digit tells nothing
  pub numeral_none : (b : ℕ) → (IsInRange 48 57 b → ⊥) → (t : Text) → (Free b t → ⊥) → numeral low high t ≡ false
  numeral_none b out t h = false_from_ne_true (numeral low high t) (λ e. h (numeral_free b out t e))
