-- The binary digits of numbers, and the ranks of a row of four words.
use Rattle.std.proofs.Common.{◌≡◌, ℕ, ◌+◌, ◌-◌, ◌*◌, ◌/◌, ◌%◌, ◌^◌, ◌<◌, Bool, true, false, not, ◌&&◌, ◌||◌, eqb, ltb, List, length, get_or, set, refl, ap, ◌∙◌, arith, w64}
use lib.Bits.{bit_and, bit_or}
use Rattle.std.proofs.lemmas.Nat.Bits.{bit_at_or, bit_at_and, bit_at_not, bit_at_set_same, bit_at_set_other, bit_at-zero, bit_at-lt, bit_at-trailing_zeros}
use Rattle.std.specs.Int.{trailing_zeros}
use Rattle.std.proofs.lemmas.Bool.Decides.{nat_tests}
use Rattle.std.proofs.lemmas.Grind.{common_steps, get_or-set_at}
use Rattle.store.specs.Bits.{digit}

-- Digits: std's `bit_at` as a test.

pub digit_or : (a b k : ℕ) → digit (bit_or a b) k ≡ (digit a k || digit b k)
digit_or a b k = grind (arith, nat_tests, bit_at_or a b k, bit_at-lt a k, bit_at-lt b k)

pub digit_and : (a b k : ℕ) → digit (bit_and a b) k ≡ (digit a k && digit b k)
digit_and a b k = grind (arith, nat_tests, bit_at_and a b k, bit_at-lt a k, bit_at-lt b k)

pub digit_and_not : (a b k : ℕ) → b < 2 ^ 64 → k < 64 → digit (bit_and a (2 ^ 64 - 1 - b)) k ≡ (digit a k && not (digit b k))
digit_and_not a b k h l = grind (arith, nat_tests, bit_at_and a (2 ^ 64 - 1 - b) k, bit_at_not w64 b k h l, bit_at-lt a k, bit_at-lt b k)

-- `w | 1 << s`
pub digit_more : (w s k : ℕ) → s < 64 → digit (bit_or w ((1 * 2 ^ s) % 2 ^ 64)) k ≡ (digit w k || eqb k s)
digit_more w s k h = grind (arith, nat_tests, bit_at_set_same w64 w s h, bit_at_set_other w64 w s h k)

-- Words.

-- the ranks of a row, by its words
abbrev in_words : List ℕ → ℕ → Bool
in_words ws k = ltb k 256 && digit (get_or ws (k / 64) 0) (k % 64)

-- a row that has what a test says below 256
pub ranks_by_test : (ws : List ℕ) (test : ℕ → Bool) → ((k : ℕ) → k < 256 → in_words ws k ≡ test k) → (k : ℕ) → in_words ws k ≡ (ltb k 256 && test k)
ranks_by_test ws test same k = grind (arith, nat_tests, same k)

-- one word written, in which one digit more is 1
pub add_rank : (ws : List ℕ) (r v k : ℕ) → r < 256 → length ws ≡ 4 → ((s : ℕ) → digit v s ≡ (digit (get_or ws (r / 64) 0) s || eqb s (r % 64))) → in_words (set ws (r / 64) v) k ≡ (in_words ws k || (ltb r 256 && eqb k r))
add_rank ws r v k h len each =
    let at = each (k % 64) in
    let word = get_or-set_at ws (r / 64) (k / 64) v 0 in
    grind (arith, nat_tests, common_steps)

-- the lowest 1 of the first word that is not 0
module _ (ws : List ℕ) (at : ℕ) (low : at < 4) (fits : get_or ws at 0 < 2 ^ 64) (some : 0 < get_or ws at 0) (none : (k : ℕ) → k < at → get_or ws k 0 ≡ 0) where
  pub least_here : in_words ws (at * 64 + trailing_zeros w64 (get_or ws at 0)) ≡ true
  least_here =
      let place = trailing_zeros w64 (get_or ws at 0) in
      let lowest = bit_at-trailing_zeros w64 (get_or ws at 0) some fits in
      let word : (at * 64 + place) / 64 ≡ at = omega arith in
      let digit_at : (at * 64 + place) % 64 ≡ place = omega arith in
      grind (arith, nat_tests, lowest.1)

  pub none_before : (k : ℕ) → k < at * 64 + trailing_zeros w64 (get_or ws at 0) → in_words ws k ≡ false
  none_before k l =
      let lowest = bit_at-trailing_zeros w64 (get_or ws at 0) some fits in
      let zero = none (k / 64) in
      grind (arith, nat_tests, lowest.2 (k % 64), bit_at-zero (k % 64))

-- a row made word by word of two others: what holds of each digit holds of each rank
ranks_by_words : (f : Bool → Bool → Bool) (new old other : List ℕ) → f false false ≡ false → ((j k : ℕ) → j < 4 → k < 64 → digit (get_or new j 0) k ≡ f (digit (get_or old j 0) k) (digit (get_or other j 0) k)) → (k : ℕ) → in_words new k ≡ f (in_words old k) (in_words other k)
ranks_by_words f new old other none each k = let at = each (k / 64) (k % 64) in grind (arith, nat_tests)

module _ (new a b : List ℕ) where
  pub or_ranks : ((j : ℕ) → j < 4 → get_or new j 0 ≡ bit_or (get_or a j 0) (get_or b j 0)) → (k : ℕ) → in_words new k ≡ (in_words a k || in_words b k)
  or_ranks word = ranks_by_words ◌||◌ new a b refl (λ j k h l. ap (λ w. digit w k) (word j h) ∙ digit_or (get_or a j 0) (get_or b j 0) k)

  pub and_ranks : ((j : ℕ) → j < 4 → get_or new j 0 ≡ bit_and (get_or a j 0) (get_or b j 0)) → (k : ℕ) → in_words new k ≡ (in_words a k && in_words b k)
  and_ranks word = ranks_by_words ◌&&◌ new a b refl (λ j k h l. ap (λ w. digit w k) (word j h) ∙ digit_and (get_or a j 0) (get_or b j 0) k)

  pub and_not_ranks : ((j : ℕ) → get_or b j 0 < 2 ^ 64) → ((j : ℕ) → j < 4 → get_or new j 0 ≡ bit_and (get_or a j 0) (2 ^ 64 - 1 - get_or b j 0)) → (k : ℕ) → in_words new k ≡ (in_words a k && not (in_words b k))
  and_not_ranks fits word = ranks_by_words (λ p q. p && not q) new a b refl (λ j k h l. ap (λ w. digit w k) (word j h) ∙ digit_and_not (get_or a j 0) (get_or b j 0) k (fits j) l)
