-- Looking for a name among the pieces of line 1.
use Rattle.std.proofs.Common.{◌≡◌, ℕ, suc, Bool, true, false, cond, ltb, List, [], ◌∷◌, length, Some, None, MatchOption, sym, refl, ap, ◌∙◌, arith}
use Rattle.std.specs.List.{position, position_or_len}
use Rattle.std.specs.Str.{bytes_eq}
use Rattle.std.proofs.lemmas.Bool.{cond_both, lt-ltb}
use Rattle.std.proofs.lemmas.Bool.Decides.{nat_tests}
use Rattle.std.proofs.lemmas.List.Recursion.{is_position_or_len}
use Rattle.graggle.specs.Texts.{Text, has, place}

ltb_suc : (a b : ℕ) → ltb a b ≡ ltb (suc a) (suc b)
ltb_suc a b = grind (arith, nat_tests)

module _ (t : Text) where
  place_is : (hs : List Text) → place t hs ≡ position_or_len (λ p. bytes_eq p t) hs
  place_is = is_position_or_len (place t) (λ p. bytes_eq p t) refl (λ p hs. ap (cond (bytes_eq p t) 0) (omega arith))

  -- a name is there where its place is one of the pieces'
  has_is : (hs : List Text) → has t hs ≡ ltb (place t hs) (length hs)
  has_is [] = refl
  has_is (p ∷ hs) = go (bytes_eq p t) (has_is hs)
    where
      go : (b : Bool) → has t hs ≡ ltb (place t hs) (length hs) → cond b true (has t hs) ≡ ltb (cond b 0 (suc (place t hs))) (length (p ∷ hs))
      go true e = sym (lt-ltb 0 (length (p ∷ hs)) (omega arith))
      go false e = e ∙ ltb_suc (place t hs) (length hs)

  pub found_by : (hs : List Text) → MatchOption (position (λ p. bytes_eq p t) hs) (has t hs ≡ false) (λ i. (has t hs ≡ true) × (i ≡ place t hs))
  found_by hs =
      let e = place_is hs in
      cond_both (ltb (position_or_len (λ p. bytes_eq p t) hs) (length hs)) (Some (position_or_len (λ p. bytes_eq p t) hs)) None (λ o. MatchOption o (has t hs ≡ false) (λ i. (has t hs ≡ true) × (i ≡ place t hs)))
      (λ h. (has_is hs ∙ ap (λ n. ltb n (length hs)) e ∙ h, sym e))
      (λ h. has_is hs ∙ ap (λ n. ltb n (length hs)) e ∙ h)
