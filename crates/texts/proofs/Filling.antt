-- Laws of bytes that are put behind a text of n bytes at most.
use Rattle.std.proofs.Common.{◌≡◌, ℕ, zero, suc, ◌+◌, ◌-◌, ◌<◌, ◌≤◌, List, [], ◌∷◌, ◌++◌, length, take, drop, replicate, slice_set, sym, refl, ap, ◌∙◌, arith}
use Rattle.std.proofs.lemmas.List.{append_assoc, take_all, length-set, drop-set-lt, drop-replicate, drop-drop}
use Rattle.texts.specs.Padding.{Padded}

-- what was cut off the front is cut off again
pub take_front : (n : ℕ) (xs ys : List ℕ) → take n (take n xs ++ ys) ≡ take n (xs ++ ys)
take_front zero xs ys = refl
take_front (suc n) [] ys = refl
take_front (suc n) (x ∷ xs) ys = ap (λ zs. x ∷ zs) (take_front n xs ys)

-- first some, then others
pub filled_more : (n : ℕ) (xs front bs : List ℕ) → take n (take n (xs ++ front) ++ bs) ≡ take n (xs ++ (front ++ bs))
filled_more n xs front bs = take_front n (xs ++ front) bs ∙ ap (take n) (append_assoc xs front bs)

-- two texts with a mark between them, where there is room for all
pub parted : (n mark : ℕ) (xs ys : List ℕ) → length (xs ++ (mark ∷ ys)) ≤ n → take n (take n (take n xs ++ mark ∷ []) ++ ys) ≡ xs ++ (mark ∷ ys)
parted n mark xs ys h =
    ap (λ zs. take n (zs ++ ys)) (take_front n xs (mark ∷ []))
    ∙ filled_more n xs (mark ∷ []) ys
    ∙ take_all n (xs ++ (mark ∷ ys)) h

-- a byte at the end of a text, where there is room for it
pub padded_more : (n : ℕ) (bytes : List ℕ) (len b : ℕ) → Padded n bytes len → len < n → Padded n (slice_set bytes len b) (len + 1)
padded_more n bytes len b p h = record {
  room = length-set bytes len b ∙ p.room;
  within = omega arith;
  rest =
      drop-set-lt (len + 1) bytes len b (omega arith)
      ∙ sym (drop-drop 1 len bytes)
      ∙ ap (drop 1) p.rest
      ∙ drop-replicate 1 (n - len) 0
      ∙ ap (λ k. replicate k 0) (omega (arith, p.within));
}
