-- Kinds of identifiers and of contents. A value of a kind means its text, so a kind is its lawful texts and, for identifiers, their order.
use Rattle.std.specs.Prelude.{◌≡◌, ℕ, ◌≤◌, Bool, true, length}
use Rattle.std.specs.declared.cmp.Ordering.{Ordering}
use Rattle.graggle.specs.Texts.{Text, Free}
use Rattle.graggle.specs.Orders.{Total}

abbrev pub Bound : (Text → Bool) → ℕ → Type 0
Bound lawful n = (t : Text) → lawful t ≡ true → length t ≤ n

-- no lawful text has more than n bytes, and n is the least such number; so it is the length of the longest lawful text, where there is one
pub record Longest (lawful : Text → Bool) (n : ℕ) : Type 0 where
  pub within : Bound lawful n
  pub least : (m : ℕ) → Bound lawful m → n ≤ m

-- a kind of identifier: 1 to 32 bytes, none of them 10, 58 (the colon) or 59 (the semicolon), and a total order of the lawful texts
pub record Identifiers (lawful : Text → Bool) (order : Text → Text → Ordering) (longest : ℕ) : Type 0 where
  pub some : (t : Text) → lawful t ≡ true → 1 ≤ length t
  pub long : Longest lawful longest
  pub short : longest ≤ 32
  pub plain : (t : Text) → lawful t ≡ true → Free 10 t × Free 58 t × Free 59 t
  pub total : Total (λ t. lawful t ≡ true) order

-- a kind of content: 0 to 60 bytes, none of them 10 or 59
pub record Contents (lawful : Text → Bool) (longest : ℕ) : Type 0 where
  pub long : Longest lawful longest
  pub short : longest ≤ 60
  pub plain : (t : Text) → lawful t ≡ true → Free 10 t × Free 59 t

-- two kinds are equal when their lawful texts agree and, for identifiers, their orders agree on lawful texts
abbrev pub SameTexts : (Text → Bool) → (Text → Bool) → Type 0
SameTexts lawful other = (t : Text) → lawful t ≡ other t

abbrev pub SameOrders : (Text → Bool) → (Text → Text → Ordering) → (Text → Text → Ordering) → Type 0
SameOrders lawful order other = (s t : Text) → lawful s ≡ true → lawful t ≡ true → order s t ≡ other s t
