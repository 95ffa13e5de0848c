-- The steps of reading, writing and comparing a name.
use Rattle.std.proofs.Common.{◌≡◌, ℕ, ◌≤◌, Bool, true, false, ◌↔◌, [], ◌∷◌, ◌++◌, length, take, Some, None, decimal, Option, sym, refl, ap, ◌∙◌, arith, length-append}
use Rattle.std.proofs.lemmas.Bool.{cond-true, cond-false, cond_both}
use Rattle.std.proofs.lemmas.Fmt.{length-decimal-le}
use Rattle.graggle.specs.Texts.{Text, Free, split, two}
use Rattle.graggle.specs.Numbers.{number}
use Rattle.graggle.specs.Names.{Name, WellNamed, with_patch, named, name, name_text}
use Rattle.graggle.proofs.Naming.{name_from, name_parts, name_written}
use Rattle.texts.proofs.Filling.{parted}

module _ (ids : Text → Bool) (t : Text) where
  pub no_colon : split 58 t ≡ t ∷ [] → None ≡ name ids t
  no_colon e = sym (ap (two None (named ids)) e)

  module _ (i rest : Text) (e : split 58 t ≡ i ∷ split 58 rest) where
    pub no_patch : ids i ≡ false → None ≡ name ids t
    no_patch h = sym (name_parts ids t i rest e ∙ cond-false (ids i) _ _ h)

    pub no_index : None ≡ number 0 255 rest → None ≡ name ids t
    no_index h = sym (name_parts ids t i rest e ∙ cond_both (ids i) (with_patch i (number 0 255 rest)) None (λ o. o ≡ None) (λ _. ap (with_patch i) (sym h)) (λ _. refl))

    -- x is the text of the identifier that was read
    pub whole_name : (x : Text) (n : ℕ) → ids x ≡ true → x ≡ i → Some n ≡ number 0 255 rest → Some (record { patch = x; index = n }) ≡ name ids t
    whole_name x n l s h =
        (λ j. Some (record { patch = s j; index = n }))
        ∙ sym (name_parts ids t i rest e ∙ cond-true (ids i) _ _ (ap ids (sym s) ∙ l) ∙ ap (with_patch i) (sym h))

  -- a text is read as a name exactly where it is the written form of one that a line can have
  pub names_mean : ((s : Text) → ids s ≡ true → Free 58 s) → (o : Option Name) → o ≡ name ids t → (n : Name) → (o ≡ Some n) ↔ ((t ≡ name_text n) × WellNamed ids n)
  names_mean plain o e n = (λ h. name_from ids t n (sym e ∙ h), λ w. e ∙ ap (name ids) w.0 ∙ name_written ids n w.1 (plain n.patch w.1.lawful))

-- at most 32 bytes, a colon and at most three digits
pub name_filled : (s : Text) (n : ℕ) → length s ≤ 32 → n ≤ 255 → take 36 (take 36 (take 36 s ++ 58 ∷ []) ++ decimal n) ≡ s ++ (58 ∷ decimal n)
name_filled s n h k =
    let d = length-decimal-le 3 n (omega arith) (omega arith) (omega arith) in
    let a = length-append s (58 ∷ decimal n) in
    parted 36 58 s (decimal n) (omega (arith, a, d))
