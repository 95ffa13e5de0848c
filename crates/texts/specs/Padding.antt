-- Memory for n bytes, of which the first `len` are a text and all behind it are 0.
use Rattle.std.specs.Prelude.{◌≡◌, ℕ, ◌-◌, ◌≤◌, List, ◌++◌, length, take, drop, replicate}
use Rattle.std.proofs.Common.{sym, ap, ◌∙◌, arith}
use Rattle.std.proofs.lemmas.List.{take-append-drop, length-take-le}

pub record Padded (n : ℕ) (bytes : List ℕ) (len : ℕ) : Type 0 where
  pub room : length bytes ≡ n
  pub within : len ≤ n
  pub rest : drop len bytes ≡ replicate (n - len) 0

-- so the text alone tells what the memory holds
module _ (n : ℕ) (bytes : List ℕ) (len : ℕ) (p : Padded n bytes len) where
  pub text_len : length (take len bytes) ≡ len
  text_len = length-take-le len bytes (omega (arith, p.within, p.room))

  pub text_bytes : take len bytes ++ replicate (n - length (take len bytes)) 0 ≡ bytes
  text_bytes = ap (λ l. take len bytes ++ replicate (n - l) 0) text_len ∙ ap (λ r. take len bytes ++ r) (sym p.rest) ∙ take-append-drop len bytes
