-- The order of the columns: by trying each.
use Rattle.std.proofs.Common.{◌≡◌, suc, Bool, true, cond, ◌&&◌, eqb, List, [], ◌∷◌, map, length, get_or, is_some, Some, None, Option, sym, refl, ap, ◌∙◌, subst, inl, inr, ⊎_elim, arith}
use Rattle.std.specs.Str.{bytes_eq}
use Rattle.std.proofs.lemmas.Bool.{cond_both, cond-true, and_parts, and_from, eqb-true, eq-eqb, both_ways}
use Rattle.std.proofs.lemmas.Slice.Eq.{bytes_eq-Decides}
use Rattle.std.proofs.lemmas.List.{length-map}
use Rattle.graggle.specs.Texts.{Text, has, place}
use Rattle.graggle.specs.Entries.{Column, title}
use Rattle.graggle.specs.Entries.Column.{act, line, to, text}
use Rattle.graggle.specs.Reading.{heads_fit, found, cell}
use Rattle.graggle.specs.Writing.{Among, Order}

-- which column a name is of
abbrev mark : Text → Option Column
mark t =
    cond (bytes_eq t (title act)) (Some act)
    (cond (bytes_eq t (title line)) (Some line) (cond (bytes_eq t (title to)) (Some to) (cond (bytes_eq t (title text)) (Some text) None)))

mark_title : (c : Column) → mark (title c) ≡ Some c
mark_title act = refl
mark_title line = refl
mark_title to = refl
mark_title text = refl

mark_is : (t : Text) (c : Column) → mark t ≡ Some c → t ≡ title c
mark_is t c =
    try act _ (try line _ (try to _ (try text _ (λ h. cc))))
  where
    try : (d : Column) (o : Option Column) → (o ≡ Some c → t ≡ title c) → cond (bytes_eq t (title d)) (Some d) o ≡ Some c → t ≡ title c
    try d o next = cond_both (bytes_eq t (title d)) (Some d) o (λ x. x ≡ Some c → t ≡ title c)
        (λ e h. let q : d ≡ c = cc in (bytes_eq-Decides t (title d)).0 e ∙ ap title q)
        (λ e h. next h)

-- the column that a name is of, and the name again
abbrev column : Option Column → Column
column None = act
column (Some c) = c

abbrev shown : Option Column → Text
shown None = []
shown (Some c) = title c

-- for each of the five
abbrev all_five : (Option Column → Bool) → Bool
all_five f = f None && (f (Some act) && (f (Some line) && (f (Some to) && f (Some text))))

five : (f : Option Column → Bool) → all_five f ≡ true → (o : Option Column) → f o ≡ true
five f h None = grind (arith, and_parts)
five f h (Some act) = grind (arith, and_parts)
five f h (Some line) = grind (arith, and_parts)
five f h (Some to) = grind (arith, and_parts)
five f h (Some text) = grind (arith, and_parts)

-- four that fit are columns, and each stands where it is found first
abbrev heads : Option Column → Option Column → Option Column → Option Column → List Text
heads a b c d = shown a ∷ shown b ∷ shown c ∷ shown d ∷ []

abbrev apart : Option Column → Option Column → Option Column → Option Column → Bool
apart a b c d =
    is_some a && (is_some b && (is_some c && (is_some d &&
    (eqb (place (shown b) (heads a b c d)) 1 && (eqb (place (shown c) (heads a b c d)) 2 && eqb (place (shown d) (heads a b c d)) 3)))))

abbrev settled : Option Column → Option Column → Option Column → Option Column → Bool
settled a b c d = cond (heads_fit (heads a b c d)) (apart a b c d) true

tried : all_five (λ a. all_five (λ b. all_five (λ c. all_five (settled a b c)))) ≡ true
tried = refl

settles : (a b c d : Option Column) → heads_fit (heads a b c d) ≡ true → apart a b c d ≡ true
settles a b c d f =
    sym (cond-true _ _ true f)
    ∙ five (settled a b c) (five (λ c. all_five (settled a b c)) (five (λ b. all_five (λ c. all_five (settled a b c))) (five (λ a. all_five (λ b. all_five (λ c. all_five (settled a b c)))) tried a) b) c) d

-- four
pub data Four {A : Type 0} : List A → Type 0 where
  four : (a b c d : A) → Four (a ∷ b ∷ c ∷ d ∷ [])

pub is_four : {A : Type 0} (l : List A) → length l ≡ 4 → Four l
is_four [] h = absurd (omega arith)
is_four (a ∷ []) h = absurd (omega arith)
is_four (a ∷ b ∷ []) h = absurd (omega arith)
is_four (a ∷ b ∷ c ∷ []) h = absurd (omega arith)
is_four (a ∷ b ∷ c ∷ d ∷ []) h = four a b c d
is_four (a ∷ b ∷ c ∷ d ∷ e ∷ l) h = absurd (omega arith)

-- among the pieces, as the test tells it, and through a map
has_among : (t : Text) (ps : List Text) → has t ps ≡ true → Among t ps
has_among t [] h = cc
has_among t (p ∷ ps) h0 =
    cond_both (bytes_eq p t) true (has t ps) (λ b. b ≡ true → Among t (p ∷ ps))
    (λ e h. inl (sym ((bytes_eq-Decides p t).0 e))) (λ e h. inr (has_among t ps h)) h0

among_has : (t : Text) (ps : List Text) → Among t ps → has t ps ≡ true
among_has t [] m = absurd m
among_has t (p ∷ ps) (inl e) = cond-true (bytes_eq p t) _ _ ((bytes_eq-Decides p t).1 (sym e))
among_has t (p ∷ ps) (inr r) = cond_both (bytes_eq p t) true (has t ps) (λ b. b ≡ true) (λ e. refl) (λ e. among_has t ps r)

among_map : {A B : Type 0} (f : A → B) (x : A) (xs : List A) → Among x xs → Among (f x) (map f xs)
among_map f x [] m = absurd m
among_map f x (y ∷ ys) (inl e) = inl (ap f e)
among_map f x (y ∷ ys) (inr r) = inr (among_map f x ys r)

each_has : (hs : List Text) → heads_fit hs ≡ true → (c : Column) → has (title c) hs ≡ true
each_has hs h act = grind (arith, and_parts)
each_has hs h line = grind (arith, and_parts)
each_has hs h to = grind (arith, and_parts)
each_has hs h text = grind (arith, and_parts)

-- heads that fit are the names of columns in some order
pub record Heads (hs : List Text) : Type 0 where
  pub columns : List Column
  pub order : Order columns
  pub names : hs ≡ map title columns

somewhere : (t : Text) → is_some (mark t) ≡ true → t ≡ title (column (mark t))
somewhere t h = mark_is t (column (mark t)) (go (mark t) h)
  where
    go : (o : Option Column) → is_some o ≡ true → o ≡ Some (column o)
    go None e = cc
    go (Some c) e = refl

fit_from : (hs : List Text) → length hs ≡ 4 → ((c : Column) → Among (title c) hs) → heads_fit hs ≡ true
fit_from hs l h =
    let k = λ (c : Column). among_has (title c) hs (h c) in
    and_from _ _ (eq-eqb (length hs) 4 l) (and_from _ _ (k act) (and_from _ _ (k line) (and_from _ _ (k to) (k text))))

pub heads_written : (cs : List Column) → Order cs → heads_fit (map title cs) ≡ true
heads_written cs o = fit_from (map title cs) (length-map cs title ∙ o.four) (λ c. among_map title c cs (o.each c))

heads_of_four : (hs : List Text) → Four hs → heads_fit hs ≡ true → Heads hs
heads_of_four _ (four p q r s) h =
    let hs = p ∷ q ∷ r ∷ s ∷ [] in
    let among = λ (c : Column). has_among (title c) hs (each_has hs h c) in
    let again = λ (c : Column). subst (λ o. Among (shown o) (map (λ t. shown (mark t)) hs)) (mark_title c) (among_map (λ t. shown (mark t)) (title c) hs (among c)) in
    let g = settles (mark p) (mark q) (mark r) (mark s) (fit_from (map (λ t. shown (mark t)) hs) refl again) in
    let each : (is_some (mark p) ≡ true) × ((is_some (mark q) ≡ true) × ((is_some (mark r) ≡ true) × (is_some (mark s) ≡ true))) = grind (arith, and_parts) in
    let cs = map (λ t. column (mark t)) hs in
    record {
      columns = cs;
      order = record { four = refl; each = λ c. subst (λ o. Among (column o) cs) (mark_title c) (among_map (λ t. column (mark t)) (title c) hs (among c)) };
      names = λ i. somewhere p each.0 i ∷ somewhere q each.1.0 i ∷ somewhere r each.1.1.0 i ∷ somewhere s each.1.1.1 i ∷ [];
    }

pub heads_from : (hs : List Text) → heads_fit hs ≡ true → Heads hs
heads_from hs h = heads_of_four hs (is_four hs (eqb-true (length hs) 4 (and_parts (eqb (length hs) 4) _ h).0)) h

-- what stands under a column
pub cell_at : (f : Column → Text) (cs : List Column) (c : Column) → Among c cs → cell (found (map title cs)) (map f cs) c ≡ f c
cell_at f [] c m = absurd m
cell_at f (x ∷ xs) c m =
    let d = bytes_eq-Decides (title x) (title c) in
    cond_both (bytes_eq (title x) (title c)) 0 (suc (place (title c) (map title xs))) (λ k. get_or (f x ∷ map f xs) k [] ≡ f c)
    (λ e. let k : Some x ≡ Some c = sym (mark_title x) ∙ ap mark (d.0 e) ∙ mark_title c in ap f cc)
    (λ e. ⊎_elim (λ q. absurd (both_ways _ e (d.1 (ap title (sym q))))) (λ r. cell_at f xs c r) m)

cells_of_four : (cs : List Column) (ps : List Text) → Four cs → Four ps → Order cs → map (cell (found (map title cs)) ps) cs ≡ ps
cells_of_four _ _ (four a b c d) (four p q r s) o =
    let cs = a ∷ b ∷ c ∷ d ∷ [] in
    let ps = p ∷ q ∷ r ∷ s ∷ [] in
    let g = settles (Some a) (Some b) (Some c) (Some d) (heads_written cs o) in
    let z₀ : place (title a) (map title cs) ≡ 0 = cond-true (bytes_eq (title a) (title a)) _ _ ((bytes_eq-Decides (title a) (title a)).1 refl) in
    let z₁ : place (title b) (map title cs) ≡ 1 = grind (arith, and_parts, eqb-true) in
    let z₂ : place (title c) (map title cs) ≡ 2 = grind (arith, and_parts, eqb-true) in
    let z₃ : place (title d) (map title cs) ≡ 3 = grind (arith, and_parts, eqb-true) in
    λ i. get_or ps (z₀ i) [] ∷ get_or ps (z₁ i) [] ∷ get_or ps (z₂ i) [] ∷ get_or ps (z₃ i) [] ∷ []

pub cells_are : (cs : List Column) (ps : List Text) → Order cs → length ps ≡ 4 → map (cell (found (map title cs)) ps) cs ≡ ps
cells_are cs ps o h = cells_of_four cs ps (is_four cs o.four) (is_four ps h) o
