-- Line names: an identifier, a colon and an index from 0 to 255, as 3.7:0. The line belongs to the patch with that identifier.
use Rattle.std.specs.Prelude.{◌≡◌, ℕ, ◌≤◌, Bool, true, cond, ◌∷◌, ◌++◌, Some, None, decimal, Option}
use Rattle.std.specs.declared.cmp.Ordering.{Ordering}
use Rattle.std.specs.Ordering.{ordering_then, nat_cmp}
use Rattle.graggle.specs.Texts.{Text, split, two}
use Rattle.graggle.specs.Numbers.{number}

pub record Name : Type 0 where
  pub patch : Text
  pub index : ℕ

abbrev pub name_text : Name → Text
name_text n = n.patch ++ (58 ∷ decimal n.index)

-- a name that a line can have, where these are the lawful identifiers
pub record WellNamed (ids : Text → Bool) (n : Name) : Type 0 where
  pub lawful : ids n.patch ≡ true
  pub short : n.index ≤ 255

-- by identifier, then by index
abbrev pub name_order : (Text → Text → Ordering) → Name → Name → Ordering
name_order order m n = ordering_then (order m.patch n.patch) (nat_cmp m.index n.index)

abbrev pub with_patch : Text → Option ℕ → Option Name
with_patch i None = None
with_patch i (Some n) = Some (record { patch = i; index = n })

-- the name that a text tells: two parts at the colon, a lawful identifier and an index
module _ (ids : Text → Bool) where
  abbrev pub named : Text → Text → Option Name
  named i n = cond (ids i) (with_patch i (number 0 255 n)) None

  abbrev pub name : Text → Option Name
  name t = two None named (split 58 t)
