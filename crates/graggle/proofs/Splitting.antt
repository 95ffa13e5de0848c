-- Splitting and joining undo one another.
use Rattle.std.proofs.Common.{◌≡◌, ℕ, false, eqb, List, [], ◌∷◌, ◌++◌, map, length, sym, refl, ap, ◌∙◌, append_assoc, arith}
use Rattle.std.specs.List.{All, AllByRecursion, onto_first}
use Rattle.std.proofs.lemmas.Bool.{cond_both, eqb-false, eq-eqb, ne_eqb}
use Rattle.std.proofs.lemmas.List.Elements.{All-from_recursion}
use Rattle.std.proofs.lemmas.List.Splits.{slice_split_none, slice_split_at, join_with_byte-slice_split}
use Rattle.std.proofs.ByRecursion.{All-append, All-weaker}
use Rattle.graggle.specs.Texts.{Text, Free, split, join, ended, two}

-- what holds of each image
pub all_map : {A B : Type 0} (P : B → Type 0) (f : A → B) → ((a : A) → P (f a)) → (xs : List A) → AllByRecursion P (map f xs)
all_map P f h [] = tt
all_map P f h (x ∷ xs) = (h x, all_map P f h xs)

-- a list of at least one piece
pub data SomePiece : List Text → Type 0 where
  pieces : (p : Text) (ps : List Text) → SomePiece (p ∷ ps)

pub some_piece : (b : ℕ) (t : Text) → SomePiece (split b t)
some_piece b [] = pieces [] []
some_piece b (c ∷ cs) = cond_both (eqb c b) _ _ SomePiece (λ e. pieces [] (split b cs)) (λ e. on (split b cs) (some_piece b cs))
  where
    on : (ps : List Text) → SomePiece ps → SomePiece (onto_first c ps)
    on _ (pieces p ps) = pieces (c ∷ p) ps

pub some_more : (ls ps : List Text) → SomePiece ps → SomePiece (ls ++ ps)
some_more [] ps s = s
some_more (l ∷ ls) ps s = pieces l (ls ++ ps)

pub join_split : (b : ℕ) (t : Text) → join b (split b t) ≡ t
join_split b t = join_with_byte-slice_split b t

-- each piece lacks the byte
free_onto : (b c : ℕ) (ps : List Text) → (c ≡ b → ⊥) → AllByRecursion (Free b) ps → AllByRecursion (Free b) (onto_first c ps)
free_onto b c [] n h = ((n, tt), tt)
free_onto b c (p ∷ ps) n h = ((n, h.0), h.1)

pub split_free : (b : ℕ) (t : Text) → AllByRecursion (Free b) (split b t)
split_free b [] = (tt, tt)
split_free b (c ∷ cs) =
    cond_both (eqb c b) _ _ (AllByRecursion (Free b))
    (λ e. (tt, split_free b cs))
    (λ e. free_onto b c (split b cs) (eqb-false c b e) (split_free b cs))

-- a piece that lacks the byte is split off whole
unmarked : (b : ℕ) (p : Text) → Free b p → All (λ c. eqb c b ≡ false) p
unmarked b p h = All-from_recursion (λ c. eqb c b ≡ false) p (All-weaker (λ c. c ≡ b → ⊥) (λ c. eqb c b ≡ false) (λ c n. ne_eqb c b n) p h)

pub split_whole : (b : ℕ) (p : Text) → Free b p → split b p ≡ p ∷ []
split_whole b p h = slice_split_none (λ c. eqb c b) p (unmarked b p h)

pub split_off : (b : ℕ) (p t : Text) → Free b p → split b (p ++ (b ∷ t)) ≡ p ∷ split b t
split_off b p t h = slice_split_at (λ c. eqb c b) p b t (unmarked b p h) (eq-eqb b b refl)

pub split_join : (b : ℕ) (p : Text) (ps : List Text) → AllByRecursion (Free b) (p ∷ ps) → split b (join b (p ∷ ps)) ≡ p ∷ ps
split_join b p [] h = split_whole b p h.0
split_join b p (q ∷ ps) h = split_off b p (join b (q ∷ ps)) h.0 ∙ ap (λ xs. p ∷ xs) (split_join b q ps h.1)

-- a join lacks what its pieces and the mark lack
pub join_free : (d b : ℕ) → (b ≡ d → ⊥) → (ps : List Text) → AllByRecursion (Free d) ps → Free d (join b ps)
join_free d b n [] h = tt
join_free d b n (p ∷ []) h = h.0
join_free d b n (p ∷ q ∷ ps) h = All-append (λ c. c ≡ d → ⊥) p (b ∷ join b (q ∷ ps)) h.0 (n, join_free d b n (q ∷ ps) h.1)

-- lines and a blank piece, joined, are the lines with their endings
pub join_ended : (ls : List Text) → join 10 (ls ++ ([] ∷ [])) ≡ ended ls
join_ended [] = refl
join_ended (l ∷ []) = refl
join_ended (l ∷ m ∷ ls) = ap (λ xs. l ++ (10 ∷ xs)) (join_ended (m ∷ ls))

-- lines with their endings, and then a rest
pub split_ended : (ls : List Text) (rest : Text) → AllByRecursion (Free 10) ls → split 10 (ended ls ++ rest) ≡ ls ++ split 10 rest
split_ended [] rest f = refl
split_ended (l ∷ ls) rest f = ap (split 10) (append_assoc l (10 ∷ ended ls) rest) ∙ split_off 10 l (ended ls ++ rest) f.0 ∙ ap (λ xs. l ∷ xs) (split_ended ls rest f.1)

-- a first piece and the rest: two pieces where the rest lacks the byte, and a rest that has it makes nothing
pub two_rest : {A : Type 0} (nothing : A) (f : Text → Text → A) (b : ℕ) (p rest : Text) → ((Free b rest → ⊥) → f p rest ≡ nothing) → two nothing f (p ∷ split b rest) ≡ f p rest
two_rest {A} nothing f b p rest h = go (split b rest) refl
  where
    whole : (ps : List Text) → split b rest ≡ ps → Free b rest → length ps ≡ 1
    whole ps e free = ap length (sym e ∙ split_whole b rest free)

    go : (ps : List Text) → split b rest ≡ ps → two nothing f (p ∷ ps) ≡ f p rest
    go [] e = sym (h (λ free. let z = whole [] e free in omega (arith, z)))
    go (q ∷ []) e = ap (f p) (sym (ap (join b) e) ∙ join_split b rest)
    go (q ∷ r ∷ ps) e = sym (h (λ free. let z = whole (q ∷ r ∷ ps) e free in omega (arith, z)))
