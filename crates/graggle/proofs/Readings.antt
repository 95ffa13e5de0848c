-- What is read of a text that is written as it should be, and of one whose first fault is known.
use Rattle.std.proofs.Common.{◌≡◌, ℕ, suc, ◌+◌, ◌<◌, ◌≤◌, Bool, cond, eqb, List, [], ◌∷◌, ◌++◌, map, length, sym, refl, ap, ◌∙◌, ⊎_elim, arith}
use Rattle.std.specs.List.{AllByRecursion}
use Rattle.std.proofs.ByRecursion.{All-map, All-weaker}
use Rattle.std.proofs.lemmas.Bool.{cond-true, cond-false, cond_both, eq-eqb, ne_eqb}
use Rattle.std.proofs.lemmas.List.{append-nil}
use Rattle.graggle.specs.Texts.{Text, split, join, Free}
use Rattle.graggle.specs.Entries.{Entry, Reading, Column, title}
use Rattle.graggle.specs.Entries.Entry.{adds}
use Rattle.graggle.specs.Entries.Reading.{unread, entries}
use Rattle.graggle.specs.Reading.{heads_fit, found, more, then, last, values, lines, read}
use Rattle.graggle.specs.Reading.Said.{wrong}
use Rattle.graggle.specs.Writing.{heading, line_text, written, Order, Well}
use Rattle.graggle.specs.Claims.{Plain, Writes, Why, Refused}
use Rattle.graggle.specs.Claims.Why.{no_line, too_many, unended, ill_formed, unlawful}
use Rattle.graggle.specs.Claims.Refused.{at_heading, at_line}
use Rattle.graggle.proofs.Splitting.{SomePiece, some_piece, some_more, join_split, split_off, split_whole, split_ended}
use Rattle.graggle.proofs.Splitting.SomePiece.{pieces}
use Rattle.graggle.proofs.Columns.{heads_from, heads_written}
use Rattle.graggle.proofs.ValueLines.{said, line_told, line_free, line_outcome, line_says, heading_split, heading_free}

-- entries, and then what follows them
abbrev all_more : List Entry → Reading → Reading
all_more [] r = r
all_more (e ∷ es) r = more e (all_more es r)

all_entries : (es : List Entry) → all_more es (entries []) ≡ entries es
all_entries [] = refl
all_entries (e ∷ es) = ap (more e) (all_entries es)

all_unread : (es : List Entry) (n p : ℕ) → all_more es (unread n p) ≡ unread n p
all_unread [] n p = refl
all_unread (e ∷ es) n p = ap (more e) (all_unread es n p)

last_some : (k : ℕ) (t : Text) → (t ≡ [] → ⊥) → last k t ≡ cond (eqb k 128) (unread 5 130) (unread 3 (k + 2))
last_some k [] h = absurd (h refl)
last_some k (c ∷ t) h = refl

module _ (ids contents : Text → Bool) (plain : Plain ids contents) where
  pub lines_step : (p : Text) (ps : List Text) → SomePiece ps → lines ids contents (p ∷ ps) ≡ cond (heads_fit (split 59 p)) (values ids contents (found (split 59 p)) 0 ps) (unread 2 1)
  lines_step p _ (pieces q ps) = refl

  module _ (cs : List Column) (o : Order cs) where
    -- what is read of the pieces that follow k value lines
    abbrev after : ℕ → List Text → Reading
    after k ps = values ids contents (found (map title cs)) k ps

    after_step : (k : ℕ) (p : Text) (ps : List Text) → SomePiece ps → k < 128 → after k (p ∷ ps) ≡ then (said ids contents cs p) (k + 2) (after (k + 1) ps)
    after_step k p _ (pieces q ps) l = cond-false (eqb k 128) _ _ (ne_eqb k 128 (λ z. omega arith))

    over : (k : ℕ) (es : List Entry) (ps : List Text) → SomePiece ps → k + length es ≤ 128 → AllByRecursion (Well ids contents) es → after k (map (line_text cs) es ++ ps) ≡ all_more es (after (k + length es) ps)
    over k [] ps s l w = let j : k ≡ k + 0 = omega arith in ap (λ i. after i ps) j
    over k (e ∷ es) ps s l w =
        let j : k + 1 + length es ≡ k + suc (length es) = omega arith in
        after_step k (line_text cs e) (map (line_text cs) es ++ ps) (some_more (map (line_text cs) es) ps s) (omega arith)
        ∙ (λ i. then (line_says ids contents plain cs o e w.0 i) (k + 2) (over (k + 1) es ps s (omega arith) w.1 i))
        ∙ ap (λ m. all_more (e ∷ es) (after m ps)) j

    read_over : (es : List Entry) (rest : Text) → length es ≤ 128 → AllByRecursion (Well ids contents) es → read ids contents (written cs es ++ rest) ≡ all_more es (after (length es) (split 10 rest))
    read_over es rest m w =
        let texts = map (line_text cs) es in
        let free = All-map (Free 10) (line_text cs) es (All-weaker (Well ids contents) (λ e. Free 10 (line_text cs e)) (line_free ids contents plain cs) es w) in
        let j : 0 + length es ≡ length es = omega arith in
        ap (lines ids contents) (split_ended (heading cs ∷ texts) rest (heading_free cs, free))
        ∙ lines_step (heading cs) (texts ++ split 10 rest) (some_more texts (split 10 rest) (some_piece 10 rest))
        ∙ ap (λ hs. cond (heads_fit hs) (values ids contents (found hs) 0 (texts ++ split 10 rest)) (unread 2 1)) (heading_split cs o)
        ∙ cond-true (heads_fit (map title cs)) _ _ (heads_written cs o)
        ∙ over 0 es (split 10 rest) (some_piece 10 rest) (omega arith) w
        ∙ ap (λ k. all_more es (after k (split 10 rest))) j

    full : (k : ℕ) (t : Text) (ps : List Text) → SomePiece ps → split 10 t ≡ ps → (t ≡ [] → ⊥) → k ≡ 128 → after k ps ≡ unread 5 130
    full k t [] s e h q = elim s [ ]
    full k t (p ∷ []) s e h q =
        last_some k p (λ z. h (sym (join_split 10 t) ∙ ap (join 10) e ∙ z)) ∙ cond-true (eqb k 128) _ _ (eq-eqb k 128 q)
    full k t (p ∷ r ∷ ps) s e h q = cond-true (eqb k 128) _ _ (eq-eqb k 128 q)

    wrong_line : (k : ℕ) (l rest t : Text) (m : ℕ) → t ≡ l ++ (10 ∷ rest) → k < 128 → Free 10 l → said ids contents cs l ≡ wrong m → after k (split 10 t) ≡ unread m (k + 2)
    wrong_line k l rest t m q h f r =
        ap (after k) (ap (split 10) q ∙ split_off 10 l rest f)
        ∙ after_step k l (split 10 rest) (some_piece 10 rest) h
        ∙ ap (λ s. then s (k + 2) (after (k + 1) (split 10 rest))) r

    fault : (n k : ℕ) (rest : Text) → Why ids contents cs n k rest → after k (split 10 rest) ≡ unread n (k + 2)
    fault n k rest (no_line e z q) =
        let j : k + 2 ≡ 2 = omega arith in
        ap (λ t. after k (split 10 t)) q ∙ cond-true (eqb k 0) _ _ (eq-eqb k 0 z) ∙ (λ i. unread (sym e i) (sym j i))
    fault n k rest (too_many e z h) =
        let j : k + 2 ≡ 130 = omega arith in
        full k rest (split 10 rest) (some_piece 10 rest) refl h z ∙ (λ i. unread (sym e i) (sym j i))
    fault n k rest (unended e l h f) =
        ap (after k) (split_whole 10 rest f) ∙ last_some k rest h ∙ cond-false (eqb k 128) _ _ (ne_eqb k 128 (λ z. omega arith)) ∙ ap (λ m. unread m (k + 2)) (sym e)
    fault n k rest (ill_formed e l p tail q f h) =
        wrong_line k p tail rest 3 q l f (⊎_elim (λ t. absurd (h t.told t.lawful t.bytes)) (λ w. w) (line_told ids contents cs o p)) ∙ ap (λ m. unread m (k + 2)) (sym e)
    fault n k rest (unlawful e l p tail q f u) =
        wrong_line k p tail rest 4 q l f (ap (said ids contents cs) u.bytes ∙ line_outcome ids contents plain cs o (adds u.name u.content) u.formed ∙ cond-false (contents u.content) _ _ u.unlawful)
        ∙ ap (λ m. unread m (k + 2)) (sym e)

    few : (n k : ℕ) (rest : Text) → Why ids contents cs n k rest → k ≤ 128
    few n k rest (no_line e z q) = omega arith
    few n k rest (too_many e z h) = omega arith
    few n k rest (unended e l h f) = omega arith
    few n k rest (ill_formed e l p tail q f h) = omega arith
    few n k rest (unlawful e l p tail q f u) = omega arith

  headless : (t : Text) (ps : List Text) → SomePiece ps → split 10 t ≡ ps → ((cs : List Column) (tail : Text) → Order cs → t ≡ heading cs ++ (10 ∷ tail) → ⊥) → lines ids contents ps ≡ unread 2 1
  headless t [] s e h = elim s [ ]
  headless t (p ∷ []) s e h = refl
  headless t (p ∷ q ∷ ps) s e h =
      cond_both (heads_fit (split 59 p)) (values ids contents (found (split 59 p)) 0 (q ∷ ps)) (unread 2 1) (λ r. r ≡ unread 2 1)
      (λ f. let k = heads_from (split 59 p) f in
      absurd (h k.columns (join 10 (q ∷ ps)) k.order (sym (join_split 10 t) ∙ ap (join 10) e ∙ ap (λ x. x ++ (10 ∷ join 10 (q ∷ ps))) (sym (join_split 59 p) ∙ ap (join 59) k.names))))
      (λ f. refl)

  pub read_lawful : (t : Text) (es : List Entry) → Writes ids contents t es → read ids contents t ≡ entries es
  read_lawful t es w =
      ap (read ids contents) (w.bytes ∙ sym (append-nil (written w.columns es)))
      ∙ read_over w.columns w.order es [] w.most w.well
      ∙ ap (all_more es) (cond-false (eqb (length es) 0) _ _ (ne_eqb (length es) 0 (λ z. let s = w.some in omega arith)))
      ∙ all_entries es

  pub read_faulty : (t : Text) (n d : ℕ) → Refused ids contents t n d → read ids contents t ≡ unread n d
  read_faulty t n d (at_heading e p h) = headless t (split 10 t) (some_piece 10 t) refl h ∙ (λ i. unread (sym e i) (sym p i))
  read_faulty t n d (at_line cs es rest o e w p y) =
      ap (read ids contents) e
      ∙ read_over cs o es rest (few cs o n (length es) rest y) w
      ∙ ap (all_more es) (fault cs o n (length es) rest y)
      ∙ all_unread es n (length es + 2)
      ∙ ap (unread n) (sym p)
