-- The pieces of a text are the parts that the library's `split` gives.
use Rattle.std.proofs.Common.{◌≡◌, ℕ, ◌+◌, ◌<◌, not, Bor, Option, eqb, ltb, [], ◌∷◌, length, get_or, Some, None, refl, arith}
use Rattle.std.specs.List.{after_first, before_first, count_by, position, position_or_len}
use Rattle.std.specs.Option.{option_map, unwrap_or}
use Rattle.std.proofs.lemmas.Bool.{cond_both, ltb-false, not-true}
use Rattle.std.proofs.lemmas.List.Splits.{slice_split_none, slice_split_first, length-slice_split}
use Rattle.std.proofs.lemmas.List.Sums.{prefix_len_passes, prefix_len-le-length}
use Rattle.graggle.specs.Texts.{Text, split}

-- the text behind the reference that `unwrap_or` gives
pub now-unwrap_or : {A : Type 0} (o : Option (Bor A)) (d : Bor A) → (unwrap_or o d).now ≡ unwrap_or (option_map (λ x. x.now) o) d.now
now-unwrap_or None d = refl
now-unwrap_or (Some x) d = refl

module _ (b : ℕ) where
  pub position_or : (t : Text) → unwrap_or (position (λ c. eqb c b) t) (length t) ≡ position_or_len (λ c. eqb c b) t
  position_or t =
      cond_both (ltb (position_or_len (λ c. eqb c b) t) (length t)) (Some (position_or_len (λ c. eqb c b) t)) None (λ o. unwrap_or o (length t) ≡ position_or_len (λ c. eqb c b) t)
      (λ _. refl)
      (λ e. let h = prefix_len-le-length (λ c. not (eqb c b)) t in let l = ltb-false _ _ e in omega (arith, h, l))

  -- where no byte is the mark
  pub split_none : (t : Text) → position_or_len (λ c. eqb c b) t ≡ length t → split b t ≡ t ∷ []
  split_none t e = slice_split_none (λ c. eqb c b) t (λ k d l. not-true (eqb (get_or t k d) b) (prefix_len_passes (λ c. not (eqb c b)) t k d (omega (arith, e))))

  -- at the first mark
  pub split_at : (t : Text) → position_or_len (λ c. eqb c b) t < length t → split b t ≡ before_first (λ c. eqb c b) t ∷ split b (after_first (λ c. eqb c b) t)
  split_at t l = slice_split_first (λ c. eqb c b) t 0 l

  pub length-split : (t : Text) → length (split b t) ≡ count_by (λ c. eqb c b) t + 1
  length-split t = length-slice_split (λ c. eqb c b) t
