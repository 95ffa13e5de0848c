-- Orders that are total: of numbers, of texts by their bytes, and of pairs by their parts.
use Rattle.std.proofs.Common.{◌≡◌, ℕ, Bool, true, Ordering, Less, Equal, Greater, sym, refl, ap, ◌∙◌}
use Rattle.std.specs.Ordering.{ordering_then, nat_cmp}
use Rattle.std.specs.Cmp.{IsTotalOrder, then_flip}
use Rattle.std.proofs.lemmas.Cmp.{nat_cmp_total, nat_list_cmp_total, tied_itself}
use Rattle.std.proofs.lemmas.Map.Lookups.{CmpEqualImpliesEq, exact_unsigned, exact_bytes}
use Rattle.graggle.specs.Texts.{Text}
use Rattle.graggle.specs.Orders.{Total, by_bytes}
use Rattle.graggle.specs.Names.{Name, name_order}

-- an order that is total of all things, and tells them apart
whole : {A : Type 0} {R : A → A → Ordering} → IsTotalOrder R → CmpEqualImpliesEq R → (P : A → Type 0) → Total P R
whole {R = R} o exact P = record {
  same = λ x y _ _. (exact x y, λ e. ap (R x) (sym e) ∙ tied_itself o x);
  turned = λ x y _ _. o.antisymm y x;
  chain = λ x y z _ _ _. o.trans x y z;
}

pub numbers_total : (P : ℕ → Type 0) → Total P nat_cmp
numbers_total = whole nat_cmp_total exact_unsigned

pub bytes_total : (P : Text → Type 0) → Total P by_bytes
bytes_total = whole nat_list_cmp_total exact_bytes

-- both answers are Equal
pub then_equal : (a b : Ordering) → ordering_then a b ≡ Equal → (a ≡ Equal) × (b ≡ Equal)
then_equal Less b e = cc
then_equal Equal b e = (refl, e)
then_equal Greater b e = cc

-- by a first part and then by a second, where the two parts together tell the things apart
module _ {X A B : Type 0} {P : A → Type 0} {Q : B → Type 0} {o : A → A → Ordering} {p : B → B → Ordering} (a : Total P o) (b : Total Q p) (R : X → Type 0) (f : X → A) (g : X → B) (first : (x : X) → R x → P (f x)) (second : (x : X) → R x → Q (g x)) (apart : (x y : X) → R x → R y → f x ≡ f y → g x ≡ g y → x ≡ y) where
  abbrev both : X → X → Ordering
  both x y = ordering_then (o (f x) (f y)) (p (g x) (g y))

  equal : (x y : X) → R x → R y → both x y ≡ Equal → x ≡ y
  equal x y h k e =
      let w = then_equal (o (f x) (f y)) (p (g x) (g y)) e in
      apart x y h k ((a.same (f x) (f y) (first x h) (first y k)).0 w.0) ((b.same (g x) (g y) (second x h) (second y k)).0 w.1)

  itself : (x : X) → R x → both x x ≡ Equal
  itself x h =
      ap (λ k. ordering_then k (p (g x) (g x))) ((a.same (f x) (f x) (first x h) (first x h)).1 refl)
      ∙ (b.same (g x) (g x) (second x h) (second x h)).1 refl

  steps : (x y z : X) → R x → R y → R z → (k m : Ordering) → o (f x) (f y) ≡ k → o (f y) (f z) ≡ m → ordering_then k (p (g x) (g y)) ≡ Less → ordering_then m (p (g y) (g z)) ≡ Less → both x z ≡ Less
  steps x y z h i j Less Less e d l m = rw (a.chain (f x) (f y) (f z) (first x h) (first y i) (first z j) e d)
  steps x y z h i j Less Equal e d l m = rw (← (a.same (f y) (f z) (first y i) (first z j)).0 d, e)
  steps x y z h i j Less Greater e d l m = cc
  steps x y z h i j Equal Less e d l m = rw ((a.same (f x) (f y) (first x h) (first y i)).0 e, d)
  steps x y z h i j Equal Equal e d l m = rw ((a.same (f x) (f y) (first x h) (first y i)).0 e, d) (b.chain (g x) (g y) (g z) (second x h) (second y i) (second z j) l m)
  steps x y z h i j Equal Greater e d l m = cc
  steps x y z h i j Greater n e d l m = cc

  pub parts_total : Total R (λ x y. ordering_then (o (f x) (f y)) (p (g x) (g y)))
  parts_total = record {
    same = λ x y h k. (equal x y h k, λ e. ap (both x) (sym e) ∙ itself x h);
    turned = λ x y h k. (λ i. ordering_then (a.turned (f x) (f y) (first x h) (first y k) i) (b.turned (g x) (g y) (second x h) (second y k) i)) ∙ then_flip (o (f x) (f y)) (p (g x) (g y));
    chain = λ x y z h i j. steps x y z h i j (o (f x) (f y)) (o (f y) (f z)) refl refl;
  }

-- the index needs no bound here
pub names_total : (ids : Text → Bool) (order : Text → Text → Ordering) → Total (λ t. ids t ≡ true) order → Total (λ (n : Name). ids n.patch ≡ true) (name_order order)
names_total ids order h =
    parts_total h (numbers_total (λ _. Unit {0})) (λ (n : Name). ids n.patch ≡ true) (λ (n : Name). n.patch) (λ (n : Name). n.index) (λ n w. w) (λ n w. tt)
    (λ m n _ _ e d. (λ i. record { patch = e i; index = d i }))
