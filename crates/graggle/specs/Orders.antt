-- Orders: an answer `Less`, `Equal` or `Greater` for every two things.
use Rattle.std.specs.Prelude.{◌≡◌, ◌↔◌}
use Rattle.std.specs.declared.cmp.Ordering.TheVariants.{Less, Equal}
use Rattle.std.specs.declared.cmp.Ordering.{Ordering}
use Rattle.std.specs.Ordering.{ordering_reverse, nat_cmp}
use Rattle.std.specs.Cmp.Lexicographic.{slice_cmp}
use Rattle.graggle.specs.Texts.{Text}

-- the order is total on the things of which P holds; nothing is asked of others
pub record Total {A : Type 0} (P : A → Type 0) (order : A → A → Ordering) : Type 0 where
  -- equal means the same
  pub same : (x y : A) → P x → P y → (order x y ≡ Equal) ↔ (x ≡ y)
  -- greater is less the other way round
  pub turned : (x y : A) → P x → P y → order y x ≡ ordering_reverse (order x y)
  pub chain : (x y z : A) → P x → P y → P z → order x y ≡ Less → order y z ≡ Less → order x z ≡ Less

-- as text: the first byte that differs decides, and else the length
abbrev pub by_bytes : Text → Text → Ordering
by_bytes s t = slice_cmp nat_cmp s t
