-- What `map_err` gives.
use Rattle.std.proofs.Common.{◌≡◌, Ok, Err, Result, MatchResult, IfErr, refl, ap}
use Rattle.std.specs.Result.{IsErrAnd}

-- what it was given, by what it gave, where its closure computes k
pub mapped : {T E D : Type 0} (k : E → D) {G : E → D → Type 0} → ((e : E) (d : D) → G e d → d ≡ k e) → (r : Result T E) (m : Result T D) → MatchResult r (λ x. m ≡ Ok x) (λ e. IsErrAnd m (G e)) → MatchResult m (λ x. r ≡ Ok x) (λ d. (e : E) × (r ≡ Err e) × (d ≡ k e))
mapped k g (Ok x) (Ok y) h = ap Ok (let e : x ≡ y = cc in e)
mapped k g (Ok x) (Err d) h = absurd cc
mapped k g (Err e) (Ok y) h = absurd h
mapped k g (Err e) (Err d) h = (e, refl, g e d h)

-- an error of which P holds, where P holds of all that its closure gives
pub mapped_err : {T E D : Type 0} (P : D → Type 0) {G : E → D → Type 0} → ((e : E) (d : D) → G e d → P d) → (r : Result T E) (m : Result T D) → MatchResult r (λ x. m ≡ Ok x) (λ e. IsErrAnd m (G e)) → IfErr m P
mapped_err P g (Ok x) (Ok y) h = tt
mapped_err P g (Ok x) (Err d) h = absurd cc
mapped_err P g (Err e) (Ok y) h = tt
mapped_err P g (Err e) (Err d) h = g e d h
