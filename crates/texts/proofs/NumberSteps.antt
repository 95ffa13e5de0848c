-- The steps of reading a number.
use Rattle.std.proofs.Common.{◌≡◌, ℕ, ◌+◌, ◌-◌, ◌*◌, ◌^◌, ◌<◌, ◌≤◌, Bool, true, false, [], ◌∷◌, ◌++◌, length, get_or, take, drop, Some, None, sym, refl, ap, ◌∙◌, subst, ⊎_elim, arith, take-append-drop}
use Rattle.std.specs.Str.Parse.{digits_value, digits_value_after, AllDigits}
use Rattle.std.specs.Char.{digit_value}
use Rattle.std.specs.Int.{IsOutOfRange}
use Rattle.std.proofs.lemmas.Bool.{both_ways, cases_Bool, cases_lt, cond-true, cond-false}
use Rattle.std.proofs.lemmas.Str.Parse.{digit_at}
use Rattle.std.proofs.lemmas.Str.{digit_value_digit}
use Rattle.std.proofs.lemmas.Int.Digits.{digits_value_more, digits_more}
use Rattle.std.proofs.lemmas.List.{take_all}
use Rattle.graggle.specs.Texts.{Text}
use Rattle.graggle.specs.Numbers.{numeral, number}
use Rattle.graggle.proofs.Numerals.{digits_told, numeral_told, told_numeral}

after_grows : (n : ℕ) (t : Text) → n ≤ digits_value_after 10 n t
after_grows n [] = omega arith
after_grows n (c ∷ t) = let k = after_grows (n * 10 + digit_value c) t in omega (arith, k)

after_append : (n : ℕ) (s t : Text) → digits_value_after 10 n (s ++ t) ≡ digits_value_after 10 (digits_value_after 10 n s) t
after_append n [] t = refl
after_append n (c ∷ s) t = after_append (n * 10 + digit_value c) s t

-- the front of a number is no greater than the number
front_value : (t : Text) (i : ℕ) → digits_value 10 (take i t) ≤ digits_value 10 t
front_value t i =
    let e : digits_value 10 t ≡ digits_value_after 10 (digits_value 10 (take i t)) (drop i t) = ap (digits_value 10) (sym (take-append-drop i t)) ∙ after_append 0 (take i t) (drop i t) in
    let k = after_grows (digits_value 10 (take i t)) (drop i t) in
    omega (arith, e, k)

-- a text that begins with a zero and has no leading zero
pub one_byte : (r : Bool) (t : Text) → 0 < length t → get_or t 0 0 ≡ 48 → ((1 < length t) × (get_or t 0 0 ≡ 48) → r ≡ true) → r ≡ false → length t ≡ 1
one_byte r t some z h e = ⊎_elim (λ l. absurd (both_ways r e (h (l, z)))) (λ l. omega arith) (cases_lt 1 (length t))

-- one digit more
module _ (t : Text) (i n : ℕ) (l : i < length t) (v : n ≡ digits_value 10 (take i t)) (low : 48 ≤ get_or t i 0) (high : get_or t i 0 ≤ 57) where
  pub more_value : n * 10 + (get_or t i 0 - 48) ≡ digits_value 10 (take (i + 1) t)
  more_value =
      let d = digit_value_digit (get_or t i 0) (low, high) in
      let m = digits_value_more 10 t i l in
      omega (arith, d, m, v)

  pub more_digits : AllDigits 10 (take i t) → AllDigits 10 (take (i + 1) t)
  more_digits h = let d = digit_value_digit (get_or t i 0) (low, high) in digits_more 10 t i l h (omega (arith, d, high))

module _ (least most : ℕ) (fits : most < 2 ^ 64) (t : Text) where
  none : (numeral least most t ≡ true → ⊥) → None ≡ number least most t
  none h = sym (cond-false (numeral least most t) _ _ (⊎_elim (λ e. absurd (h e)) (λ e. e) (cases_Bool (numeral least most t))))

  pub none_blank : length t ≡ 0 → None ≡ number least most t
  none_blank h = none (λ e. let k = (numeral_told least most fits t e).some in omega (arith, k, h))

  pub none_zero : get_or t 0 0 ≡ 48 → 1 < length t → None ≡ number least most t
  none_zero z l = none (λ e. let k = (numeral_told least most fits t e).zero z in omega (arith, k, l))

  pub none_other : (i : ℕ) → i < length t → IsOutOfRange 48 57 (get_or t i 0) → None ≡ number least most t
  none_other i l o = none (λ e.
      let d = digit_at t i (digits_told.to t (numeral_told least most fits t e).digits) l in
      ⊎_elim (λ b. omega (arith, b, d)) (λ b. omega (arith, b, d)) o)

  pub none_above : (i n : ℕ) → n ≡ digits_value 10 (take i t) → most < n → None ≡ number least most t
  none_above i n v h = none (λ e.
      let k = (numeral_told least most fits t e).most in
      let f = front_value t i in
      omega (arith, k, f, v))

  module _ (i n : ℕ) (all : length t ≤ i) (v : n ≡ digits_value 10 (take i t)) where
    whole : n ≡ digits_value 10 t
    whole = v ∙ ap (digits_value 10) (take_all i t all)

    pub none_below : n < least → None ≡ number least most t
    none_below h = none (λ e. let k = (numeral_told least most fits t e).least in let w = whole in omega (arith, k, w))

    pub some_number : AllDigits 10 (take i t) → 0 < length t → (get_or t 0 0 ≡ 48 → length t ≡ 1) → least ≤ n → n ≤ most → Some n ≡ number least most t
    some_number d s z l h =
        let w = whole in
        let digits = digits_told.from t (subst (AllDigits 10) (take_all i t all) d) in
        ap Some w ∙ sym (cond-true (numeral least most t) _ _ (told_numeral least most fits t digits s z (omega (arith, w)) (omega (arith, w))))
