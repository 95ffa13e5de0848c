-- A name: told just where it is written, and ordered.
use Rattle.std.proofs.Common.{◌≡◌, ℕ, ◌≤◌, Bool, true, cond, List, [], ◌∷◌, ◌++◌, Some, None, decimal, Option, sym, refl, ap, ◌∙◌, subst, arith}
use Rattle.std.proofs.lemmas.Bool.{cond_both, cond-true, cond-false}
use Rattle.graggle.specs.Texts.{Text, Free, split, join, two}
use Rattle.graggle.specs.Numbers.{numeral, number}
use Rattle.graggle.specs.Names.{Name, name_text, WellNamed, with_patch, named, name}
use Rattle.graggle.proofs.Splitting.{join_split, split_whole, split_off, two_rest}
use Rattle.graggle.proofs.Numerals.{decimal_free, number_written, number_from, numeral_none}

module _ (ids : Text → Bool) where
  pub name_written : (n : Name) → WellNamed ids n → Free 58 n.patch → name ids (name_text n) ≡ Some n
  name_written n w f =
      ap (two None (named ids)) (split_off 58 n.patch (decimal n.index) f ∙ ap (λ ps. n.patch ∷ ps) (split_whole 58 (decimal n.index) (decimal_free 58 n.index (let s = w.short in omega arith) (λ h. omega arith))))
      ∙ cond-true (ids n.patch) _ _ w.lawful
      ∙ ap (with_patch n.patch) (number_written 0 255 (omega arith) n.index (omega arith) w.short)

  with_from : (i t : Text) (n : Name) (o : Option ℕ) → number 0 255 t ≡ o → with_patch i o ≡ Some n → (i ≡ n.patch) × (t ≡ decimal n.index) × (n.index ≤ 255)
  with_from i t n None q h = cc
  with_from i t n (Some k) q h =
      let m : Name = record { patch = i; index = k } in
      let e : m ≡ n = cc in
      let j = number_from 0 255 (omega arith) t k q in
      (ap (λ (x : Name). x.patch) e, j.0 ∙ ap (λ (x : Name). decimal x.index) e, subst (λ (x : Name). x.index ≤ 255) e j.2)

  parts_from : (ps : List Text) (n : Name) → two None (named ids) ps ≡ Some n → (join 58 ps ≡ name_text n) × WellNamed ids n
  parts_from [] n h = cc
  parts_from (i ∷ []) n h = cc
  parts_from (i ∷ t ∷ []) n h0 = cond_both (ids i) (with_patch i (number 0 255 t)) None (λ o. o ≡ Some n → (i ++ (58 ∷ t) ≡ name_text n) × WellNamed ids n)
      (λ e h.
      let w = with_from i t n (number 0 255 t) refl h in
      ((λ d. w.0 d ++ (58 ∷ w.1 d)), record { lawful = subst (λ x. ids x ≡ true) w.0 e; short = w.2 }))
      (λ e h. cc) h0
  parts_from (i ∷ t ∷ m ∷ ps) n h = cc

  pub name_from : (t : Text) (n : Name) → name ids t ≡ Some n → (t ≡ name_text n) × WellNamed ids n
  name_from t n h = let w = parts_from (split 58 t) n h in (sym (join_split 58 t) ∙ w.0, w.1)

  -- what stands before the first colon, and behind it
  pub name_parts : (t i rest : Text) → split 58 t ≡ i ∷ split 58 rest → name ids t ≡ named ids i rest
  name_parts t i rest e = ap (two None (named ids)) e ∙ two_rest None (named ids) 58 i rest none
    where
      none : (Free 58 rest → ⊥) → named ids i rest ≡ None
      none h =
          ap (λ o. cond (ids i) (with_patch i o) None) (cond-false (numeral 0 255 rest) _ _ (numeral_none 0 255 (omega arith) 58 (λ d. omega arith) rest h))
          ∙ cond_both (ids i) None None (λ o. o ≡ None) (λ e. refl) (λ e. refl)
