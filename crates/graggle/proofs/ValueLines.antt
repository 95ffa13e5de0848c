-- A value line: read just where it is written.
use Rattle.std.proofs.Common.{◌≡◌, ℕ, zero, suc, ◌<◌, Bool, cond, eqb, ◌⊎◌, List, [], ◌∷◌, map, length, get_or, Some, None, decimal, Option, sym, refl, ap, ◌∙◌, inl, inr, ⊎_elim, arith}
use Rattle.std.specs.Int.{IsInRange}
use Rattle.std.specs.List.{AllByRecursion}
use Rattle.std.proofs.lemmas.Bool.{cond_both, cond-true, cond-false, eqb-true, eq-eqb, ne_eqb, cases_eq, cases_Bool}
use Rattle.std.proofs.ByRecursion.{All-append}
use Rattle.std.proofs.lemmas.List.{length-map}
use Rattle.graggle.specs.Texts.{Text, split, join, Free}
use Rattle.graggle.specs.Names.{Name, name, name_text, WellNamed}
use Rattle.graggle.specs.Entries.{Entry, Column, title}
use Rattle.graggle.specs.Entries.Entry.{adds, links, strikes}
use Rattle.graggle.specs.Entries.Column.{act, line, to, text}
use Rattle.graggle.specs.Reading.{Act, Said, letter, act_of, found, cell, adding, linking, striking, entry, value_line}
use Rattle.graggle.specs.Reading.Act.{add, link, strike}
use Rattle.graggle.specs.Reading.Said.{wrong, says}
use Rattle.graggle.specs.Writing.{value_in, line_text, Order, Well}
use Rattle.graggle.specs.Claims.{Plain, Formed, IllFormed, Unlawful}
use Rattle.graggle.proofs.Splitting.{all_map, join_split, split_free, split_join, join_free}
use Rattle.graggle.proofs.Numerals.{decimal_free}
use Rattle.graggle.proofs.Naming.{name_written, name_from}
use Rattle.graggle.proofs.Columns.{cell_at, cells_are, Four, is_four}
use Rattle.graggle.proofs.Columns.Four.{four}

abbrev pub act_text : Act → Text
act_text add = 97 ∷ []
act_text link = 107 ∷ []
act_text strike = 115 ∷ []

letter_is : (c : ℕ) (k : Act) → letter c ≡ Some k → c ∷ [] ≡ act_text k
letter_is c k =
    cond_both (eqb c 97) (Some add) _ (λ o. o ≡ Some k → c ∷ [] ≡ act_text k) (λ e h. let q : add ≡ k = cc in ap (λ x. x ∷ []) (eqb-true c 97 e) ∙ ap act_text q)
    (λ _. cond_both (eqb c 107) (Some link) _ (λ o. o ≡ Some k → c ∷ [] ≡ act_text k) (λ e h. let q : link ≡ k = cc in ap (λ x. x ∷ []) (eqb-true c 107 e) ∙ ap act_text q)
    (λ _. cond_both (eqb c 115) (Some strike) _ (λ o. o ≡ Some k → c ∷ [] ≡ act_text k) (λ e h. let q : strike ≡ k = cc in ap (λ x. x ∷ []) (eqb-true c 115 e) ∙ ap act_text q)
    (λ _ h. cc)))

pub act_is : (t : Text) (k : Act) → act_of t ≡ Some k → t ≡ act_text k
act_is [] k h = cc
act_is (c ∷ []) k h = letter_is c k h
act_is (c ∷ d ∷ cs) k h = cc

-- what an entry of lawful names says
abbrev pub outcome : (Text → Bool) → Entry → Said
outcome contents (adds n x) = cond (contents x) (says (adds n x)) (wrong 4)
outcome contents (links n m) = says (links n m)
outcome contents (strikes n) = says (strikes n)

all_at : (P : Text → Type 0) → P [] → (ps : List Text) → AllByRecursion P ps → (i : ℕ) → P (get_or ps i [])
all_at P d [] h i = d
all_at P d (p ∷ ps) h zero = h.0
all_at P d (p ∷ ps) h (suc i) = all_at P d ps h.1 i

-- the four values of an entry of lawful names
record Values (ids : Text → Bool) (a l b x : Text) : Type 0 where
  told : Entry
  lawful : Formed ids told
  at_act : a ≡ value_in told act
  at_line : l ≡ value_in told line
  at_to : b ≡ value_in told to
  at_text : x ≡ value_in told text

-- the entry of lawful names that a line writes
pub record Tells (ids : Text → Bool) (cs : List Column) (p : Text) : Type 0 where
  pub told : Entry
  pub lawful : Formed ids told
  pub bytes : p ≡ line_text cs told

-- what a value line is
pub data Line (ids contents : Text → Bool) (cs : List Column) (p : Text) : Type 0 where
  good : (e : Entry) → Well ids contents e → p ≡ line_text cs e → Line ids contents cs p
  ill : IllFormed ids cs p → Line ids contents cs p
  bad : Unlawful ids contents cs p → Line ids contents cs p

four_split : (cs : List Column) → Four cs → (f : Column → Text) → ((c : Column) → Free 59 (f c)) → split 59 (join 59 (map f cs)) ≡ map f cs
four_split _ (four a b c d) f h = split_join 59 (f a) (f b ∷ f c ∷ f d ∷ []) (all_map (Free 59) f h (a ∷ b ∷ c ∷ d ∷ []))

-- what it says, where these are the columns
abbrev pub said : (Text → Bool) → (Text → Bool) → List Column → Text → Said
said ids contents cs p = value_line ids contents (found (map title cs)) (split 59 p)

module _ (ids contents : Text → Bool) where
  module _ (a l : Text) where
    adding_tells : a ≡ 97 ∷ [] → (o : Option Name) → name ids l ≡ o → (b x : Text) → Free 59 x → Values ids a l b x ⊎ (adding contents o b x ≡ wrong 3)
    adding_tells p None q b x f = inr refl
    adding_tells p (Some n) q [] x f = let w = name_from ids l n q in inl (record { told = adds n x; lawful = (w.1, f); at_act = p; at_line = w.0; at_to = refl; at_text = refl })
    adding_tells p (Some n) q (c ∷ b) x f = inr refl

    linking_tells : a ≡ 107 ∷ [] → (o m : Option Name) → name ids l ≡ o → (b : Text) → name ids b ≡ m → (x : Text) → Values ids a l b x ⊎ (linking o m x ≡ wrong 3)
    linking_tells p None m q b r x = inr refl
    linking_tells p (Some n) None q b r x = inr refl
    linking_tells p (Some n) (Some m) q b r [] =
        let w = name_from ids l n q in let v = name_from ids b m r in inl (record { told = links n m; lawful = (w.1, v.1); at_act = p; at_line = w.0; at_to = v.0; at_text = refl })
    linking_tells p (Some n) (Some m) q b r (c ∷ x) = inr refl

    striking_tells : a ≡ 115 ∷ [] → (o : Option Name) → name ids l ≡ o → (b x : Text) → Values ids a l b x ⊎ (striking o b x ≡ wrong 3)
    striking_tells p None q b x = inr refl
    striking_tells p (Some n) q [] [] = let w = name_from ids l n q in inl (record { told = strikes n; lawful = w.1; at_act = p; at_line = w.0; at_to = refl; at_text = refl })
    striking_tells p (Some n) q [] (c ∷ x) = inr refl
    striking_tells p (Some n) q (c ∷ b) x = inr refl

    entry_tells : (o : Option Act) → act_of a ≡ o → (b x : Text) → Free 59 x → Values ids a l b x ⊎ (entry ids contents o l b x ≡ wrong 3)
    entry_tells None q b x f = inr refl
    entry_tells (Some add) q b x f = adding_tells (act_is a add q) (name ids l) refl b x f
    entry_tells (Some link) q b x f = linking_tells (act_is a link q) (name ids l) (name ids b) refl b refl x
    entry_tells (Some strike) q b x f = striking_tells (act_is a strike q) (name ids l) refl b x

  values_in : (k : Column → Text) (v : Values ids (k act) (k line) (k to) (k text)) (c : Column) → k c ≡ value_in v.told c
  values_in k v act = v.at_act
  values_in k v line = v.at_line
  values_in k v to = v.at_to
  values_in k v text = v.at_text

  -- a line writes an entry of lawful names, or is wrong
  pub line_told : (cs : List Column) → Order cs → (p : Text) → Tells ids cs p ⊎ (said ids contents cs p ≡ wrong 3)
  line_told cs o p =
      let at = found (map title cs) in
      let ps = split 59 p in
      let k = cell at ps in
      ⊎_elim
      (λ four. ⊎_elim
      (λ v. inl (record { told = v.told; lawful = v.lawful; bytes = sym (join_split 59 p) ∙ ap (join 59) (sym (cells_are cs ps o four) ∙ (λ i. map (λ c. values_in k v c i) cs)) }))
      (λ w. inr (cond-true (eqb (length ps) 4) _ _ (eq-eqb (length ps) 4 four) ∙ w))
      (entry_tells (k act) (k line) (act_of (k act)) refl (k to) (k text) (all_at (Free 59) tt ps (split_free 59 p) (at text))))
      (λ other. inr (cond-false (eqb (length ps) 4) _ _ (ne_eqb (length ps) 4 other)))
      (cases_eq (length ps) 4)

  module _ (plain : Plain ids contents) where
    name_says : (n : Name) → WellNamed ids n → name ids (name_text n) ≡ Some n
    name_says n w = name_written ids n w (plain.id n.patch w.lawful).1

    -- what an entry says, lawful or not
    entry_says : (e : Entry) → Formed ids e → entry ids contents (act_of (value_in e act)) (value_in e line) (value_in e to) (value_in e text) ≡ outcome contents e
    entry_says (adds n x) w = ap (λ o. adding contents o [] x) (name_says n w.0)
    entry_says (links n m) w = λ i. linking (name_says n w.0 i) (name_says m w.1 i) []
    entry_says (strikes n) w = ap (λ o. striking o [] []) (name_says n w)

    pub formed : (e : Entry) → Well ids contents e → Formed ids e
    formed (adds n x) w = (w.0, (plain.content x w.1).1)
    formed (links n m) w = w
    formed (strikes n) w = w

    outcome_says : (e : Entry) → Well ids contents e → outcome contents e ≡ says e
    outcome_says (adds n x) w = cond-true (contents x) _ _ w.1
    outcome_says (links n m) w = refl
    outcome_says (strikes n) w = refl

    name_free : (b : ℕ) (n : Name) → WellNamed ids n → Free b n.patch → (58 ≡ b → ⊥) → (IsInRange 48 57 b → ⊥) → Free b (name_text n)
    name_free b n w f g h = All-append (λ c. c ≡ b → ⊥) n.patch (58 ∷ decimal n.index) f (g, decimal_free b n.index (let s = w.short in omega arith) h)

    value_free : (b : ℕ) → b < 97 → ((n : Name) → WellNamed ids n → Free b (name_text n)) → (e : Entry) → Formed ids e → Free b (value_in e text) → (c : Column) → Free b (value_in e c)
    value_free b s h e w f text = f
    value_free b s h (adds n x) w f act = omega arith
    value_free b s h (adds n x) w f line = h n w.0
    value_free b s h (adds n x) w f to = tt
    value_free b s h (links n m) w f act = omega arith
    value_free b s h (links n m) w f line = h n w.0
    value_free b s h (links n m) w f to = h m w.1
    value_free b s h (strikes n) w f act = omega arith
    value_free b s h (strikes n) w f line = h n w
    value_free b s h (strikes n) w f to = tt

    value_free_59 : (e : Entry) → Formed ids e → (c : Column) → Free 59 (value_in e c)
    value_free_59 e w = value_free 59 (omega arith) (λ n v. name_free 59 n v (plain.id n.patch v.lawful).2 (λ q. omega arith) (λ q. omega arith)) e w (content e w)
      where
        content : (d : Entry) → Formed ids d → Free 59 (value_in d text)
        content (adds n x) v = v.1
        content (links n m) v = tt
        content (strikes n) v = tt

    value_free_10 : (e : Entry) → Well ids contents e → (c : Column) → Free 10 (value_in e c)
    value_free_10 e w = value_free 10 (omega arith) (λ n v. name_free 10 n v (plain.id n.patch v.lawful).0 (λ q. omega arith) (λ q. omega arith)) e (formed e w) (content e w)
      where
        content : (d : Entry) → Well ids contents d → Free 10 (value_in d text)
        content (adds n x) v = (plain.content x v.1).0
        content (links n m) v = tt
        content (strikes n) v = tt

    pub line_free : (cs : List Column) (e : Entry) → Well ids contents e → Free 10 (line_text cs e)
    line_free cs e w = join_free 10 59 (λ q. omega arith) (map (value_in e) cs) (all_map (Free 10) (value_in e) (value_free_10 e w) cs)

    pub line_outcome : (cs : List Column) → Order cs → (e : Entry) → Formed ids e → said ids contents cs (line_text cs e) ≡ outcome contents e
    line_outcome cs o e w =
        let at = found (map title cs) in
        let ps = map (value_in e) cs in
        let k = λ (c : Column). cell_at (value_in e) cs c (o.each c) in
        ap (value_line ids contents at) (four_split cs (is_four cs o.four) (value_in e) (value_free_59 e w))
        ∙ cond-true (eqb (length ps) 4) _ _ (eq-eqb (length ps) 4 (length-map cs (value_in e) ∙ o.four))
        ∙ (λ i. entry ids contents (act_of (k act i)) (k line i) (k to i) (k text i))
        ∙ entry_says e w

    pub line_says : (cs : List Column) → Order cs → (e : Entry) → Well ids contents e → said ids contents cs (line_text cs e) ≡ says e
    line_says cs o e w = line_outcome cs o e (formed e w) ∙ outcome_says e w

    -- each line is one of the three
    not_three : (e : Entry) → outcome contents e ≡ wrong 3 → ⊥
    not_three (adds n x) h0 = cond_both (contents x) (says (adds n x)) (wrong 4) (λ s. s ≡ wrong 3 → ⊥) (λ e h. cc) (λ e h. let k : ◌≡◌ {A = ℕ} 4 3 = cc in omega arith) h0
    not_three (links n m) h = cc
    not_three (strikes n) h = cc

    told_is : (cs : List Column) (p : Text) (e : Entry) → Formed ids e → p ≡ line_text cs e → Line ids contents cs p
    told_is cs p (adds n x) f q =
        ⊎_elim (λ y. good (adds n x) (f.0, y) q) (λ y. bad (record { name = n; content = x; formed = f; unlawful = y; bytes = q })) (cases_Bool (contents x))
    told_is cs p (links n m) f q = good (links n m) f q
    told_is cs p (strikes n) f q = good (strikes n) f q

    pub line_is : (cs : List Column) → Order cs → (p : Text) → Line ids contents cs p
    line_is cs o p =
        ⊎_elim
        (λ t. told_is cs p t.told t.lawful t.bytes)
        (λ w. ill (λ e f q. not_three e (sym (line_outcome cs o e f) ∙ ap (said ids contents cs) (sym q) ∙ w)))
        (line_told cs o p)

title_free : (c : Column) → Free 10 (title c) × Free 59 (title c)
title_free act = omega arith
title_free line = omega arith
title_free to = omega arith
title_free text = omega arith

pub heading_split : (cs : List Column) → Order cs → split 59 (join 59 (map title cs)) ≡ map title cs
heading_split cs o = four_split cs (is_four cs o.four) title (λ c. (title_free c).1)

pub heading_free : (cs : List Column) → Free 10 (join 59 (map title cs))
heading_free cs = join_free 10 59 (λ q. omega arith) (map title cs) (all_map (Free 10) title (λ x. (title_free x).0) cs)
