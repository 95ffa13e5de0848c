-- How many ranks a row has, when it loses one.
use Rattle.std.proofs.Common.{◌≡◌, ℕ, ◌+◌, ◌<◌, ◌≤◌, Bool, true, false, ◌&&◌, cond, List, length, get_or, take, drop, count_by, ap, ◌∙◌, arith}
use Rattle.std.specs.List.{range_with_len}
use Rattle.std.proofs.lemmas.Bool.Decides.{nat_tests}
use Rattle.std.proofs.lemmas.List.FromFn.{length-range_with_len, get_or-range_with_len}
use Rattle.std.proofs.lemmas.List.Sums.{count_by-le-length, sum_by-le-sum_by, sum_by-take-drop, sum_by-drop_more}
use Rattle.store.specs.declared.row.Row.{Row}
use Rattle.store.specs.Bits.{bit}
use Rattle.page.specs.Ranks.{ranks}

module _ (p q : ℕ → Bool) (within : (k : ℕ) → q k ≡ true → p k ≡ true) where
  count_less : (xs : List ℕ) → count_by q xs ≤ count_by p xs
  count_less xs = sum_by-le-sum_by (λ x. cond (q x) 1 0) (λ x. cond (p x) 1 0) xs (λ x. grind (arith, nat_tests, within x))

  count_lost : (xs : List ℕ) (i : ℕ) → i < length xs → p (get_or xs i 0) ≡ true → q (get_or xs i 0) ≡ false → count_by q xs < count_by p xs
  count_lost xs i l here gone =
      let had : ℕ → ℕ = λ x. cond (p x) 1 0 in
      let has : ℕ → ℕ = λ x. cond (q x) 1 0 in
      let one : had (get_or xs i 0) ≡ 1 = ap (λ b. cond b 1 0) here in
      let none : has (get_or xs i 0) ≡ 0 = ap (λ b. cond b 1 0) gone in
      omega (arith, sum_by-take-drop had xs i, sum_by-take-drop has xs i, sum_by-drop_more had xs i 0 l, sum_by-drop_more has xs i 0 l, count_less (take i xs), count_less (drop (i + 1) xs))

pub ranks-most : (row : Row) → ranks row ≤ 256
unfolding ranks
ranks-most row = omega (arith, count_by-le-length (bit row) (range_with_len 0 256), length-range_with_len 0 256)

module _ (old new : Row) (kept : ℕ → Bool) (says : (k : ℕ) → bit new k ≡ (bit old k && kept k)) where
  within : (k : ℕ) → bit new k ≡ true → bit old k ≡ true
  within k h = grind (arith, nat_tests, says k)

  pub ranks-less : ranks new ≤ ranks old
  unfolding ranks
  ranks-less = count_less (bit old) (bit new) within (range_with_len 0 256)

  pub ranks-lost : (x : ℕ) → bit old x ≡ true → (x < 256 → kept x ≡ false) → ranks new < ranks old
  unfolding ranks
  ranks-lost x here gone =
      let low : x < 256 = grind (arith, nat_tests) in
      let at : get_or (range_with_len 0 256) x 0 ≡ x = get_or-range_with_len 0 256 x 0 low ∙ omega arith in
      let lost : bit new x ≡ false = grind (arith, nat_tests, says x) in
      count_lost (bit old) (bit new) within (range_with_len 0 256) x (omega (arith, length-range_with_len 0 256)) (ap (bit old) at ∙ here) (ap (bit new) at ∙ lost)
