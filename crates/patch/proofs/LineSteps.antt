-- The steps of reading value lines.
use Rattle.std.proofs.Common.{◌≡◌, ℕ, ◌+◌, Bool, true, cond, eqb, List, [], ◌∷◌, length, Ok, Err, MatchResult, Result, sym, refl, ap, ◌∙◌}
use Rattle.std.specs.Result.{result_ok}
use Rattle.std.proofs.lemmas.Bool.{cond-true, cond-false, eq-eqb, ne_eqb}
use Rattle.graggle.specs.Texts.{Text, split, join}
use Rattle.graggle.specs.Entries.{Entry, Column, Reading}
use Rattle.graggle.specs.Entries.Reading.{unread, entries}
use Rattle.graggle.specs.Reading.{found, heads_fit, last, lines, more, read, value_line, then, values}
use Rattle.graggle.proofs.Splitting.{SomePiece, some_piece, join_split}
use Rattle.graggle.proofs.Splitting.SomePiece.{pieces}
use Rattle.patch.specs.declared.entries.Entry as patch
use Rattle.patch.specs.declared.reader.Entries.{Entries}
use Rattle.patch.specs.declared.values.LineFault.{LineFault}
use Rattle.patch.specs.Meant.{Ahead, Amiss, GivesNext, Leaves, coming, entry_of, heard, places_of, reason_of, to_come}
use Rattle.patch.specs.Meant.Amiss.{unended, is_wrong}
use Rattle.patch.specs.Refusals.{number_of}

module _ (ids contents : Text → Bool) (at : Column → ℕ) where
  coming_more : (p : Text) (ps : List Text) → SomePiece ps → coming ids contents at (p ∷ ps) ≡ heard (value_line ids contents at (split 59 p)) (coming ids contents at ps)
  coming_more p _ (pieces q ps) = refl

  -- what stands at the front comes next
  pub comes_next : (rest behind : Text) (e : Entry) → Ahead ids contents at rest behind e → coming ids contents at (split 10 rest) ≡ e ∷ coming ids contents at (split 10 behind)
  comes_next rest behind e a =
      ap (coming ids contents at) a.lines ∙ coming_more a.line (split 10 behind) (some_piece 10 behind)
      ∙ ap (λ s. heard s (coming ids contents at (split 10 behind))) a.says_it

  pub none_comes : (rest : Text) (n : ℕ) → Amiss ids contents at rest n → coming ids contents at (split 10 rest) ≡ []
  none_comes rest n (unended e s) = ap (coming ids contents at) s
  none_comes rest n (is_wrong l behind s w) =
      ap (coming ids contents at) s ∙ coming_more l (split 10 behind) (some_piece 10 behind)
      ∙ ap (λ s. heard s (coming ids contents at (split 10 behind))) w

  module _ (k : ℕ) where
    step : (p : Text) (ps : List Text) → SomePiece ps → values ids contents at k (p ∷ ps) ≡ cond (eqb k 128) (unread 5 130) (then (value_line ids contents at (split 59 p)) (k + 2) (values ids contents at (k + 1) ps))
    step p _ (pieces q ps) = refl

    last_full : (t : Text) → (length t ≡ 0 → ⊥) → k ≡ 128 → last k t ≡ unread 5 130
    last_full [] n e = absurd (n refl)
    last_full (c ∷ t) n e = cond-true (eqb k 128) _ _ (eq-eqb k 128 e)

    last_open : (t : Text) → (length t ≡ 0 → ⊥) → (k ≡ 128 → ⊥) → last k t ≡ unread 3 (k + 2)
    last_open [] n e = absurd (n refl)
    last_open (c ∷ t) n e = cond-false (eqb k 128) _ _ (ne_eqb k 128 e)

    full : (t : Text) (ps : List Text) → SomePiece ps → split 10 t ≡ ps → (length t ≡ 0 → ⊥) → k ≡ 128 → values ids contents at k ps ≡ unread 5 130
    full t [] h s n e = elim h [ ]
    full t (p ∷ []) h s n e = last_full p (λ z. n (ap length (sym (join_split 10 t) ∙ ap (join 10) s) ∙ z)) e
    full t (p ∷ q ∷ ps) h s n e = cond-true (eqb k 128) _ _ (eq-eqb k 128 e)

    -- a 129th line
    pub too_many : (t : Text) → (length t ≡ 0 → ⊥) → k ≡ 128 → values ids contents at k (split 10 t) ≡ unread 5 130
    too_many t n e = full t (split 10 t) (some_piece 10 t) refl n e

    next : (p t rest : Text) → (k ≡ 128 → ⊥) → split 10 t ≡ p ∷ split 10 rest → values ids contents at k (split 10 t) ≡ then (value_line ids contents at (split 59 p)) (k + 2) (values ids contents at (k + 1) (split 10 rest))
    next p t rest e s = ap (values ids contents at k) s ∙ step p (split 10 rest) (some_piece 10 rest) ∙ cond-false (eqb k 128) _ _ (ne_eqb k 128 e)

    -- a line that says nothing
    pub amiss : (t : Text) (n : ℕ) → (length t ≡ 0 → ⊥) → (k ≡ 128 → ⊥) → Amiss ids contents at t n → values ids contents at k (split 10 t) ≡ unread n (k + 2)
    amiss t n m e (unended q s) = ap (values ids contents at k) s ∙ last_open t m e ∙ ap (λ x. unread x (k + 2)) (sym q)
    amiss t n m e (is_wrong p behind s w) = next p t behind e s ∙ ap (λ x. then x (k + 2) (values ids contents at (k + 1) (split 10 behind))) w

    pub ahead : (t behind : Text) (x : Entry) → (k ≡ 128 → ⊥) → Ahead ids contents at t behind x → values ids contents at k (split 10 t) ≡ more x (values ids contents at (k + 1) (split 10 behind))
    ahead t behind x e a = next a.line t behind e a.lines ∙ ap (λ y. then y (k + 2) (values ids contents at (k + 1) (split 10 behind))) a.says_it

module _ (ids contents : Text → Bool) {I C : Type 0} where
  -- the next entry, where the reader of the front line answers this
  pub gives_next : (t : I → Text) (u : C → Text) (s s' : Entries I C) (r : Result (patch.Entry I C) LineFault) → MatchResult r (λ e. Leaves ids contents s s' (entry_of t u e)) (λ f. Amiss ids contents (places_of s.columns) s.rest.now (number_of (reason_of f)) × (s' ≡ s)) → GivesNext ids contents t u s (result_ok r) s'
  gives_next t u s s' (Ok e) l = record {
    gives = rw l.1 (comes_next ids contents (places_of s.columns) s.rest.now s'.rest.now (entry_of t u e) l.0);
    moves = record { line = l.0.line; lines = l.0.lines; columns = l.1 };
  }
  gives_next t u s s' (Err f) a = record {
    gives = (none_comes ids contents (places_of s.columns) s.rest.now (number_of (reason_of f)) a.0, a.1);
    moves = tt;
  }

  abbrev pub reading : ℕ → Entries I C → Reading
  reading k s = values ids contents (places_of s.columns) k (split 10 s.rest.now)

  -- what is read of the rest after k lines is what is read of them all: the fault, or that there is none
  pub record Carries (k : ℕ) (s all : Entries I C) : Type 0 where
    pub faults : (n p : ℕ) → reading k s ≡ unread n p → reading 0 all ≡ unread n p
    pub wholes : reading k s ≡ entries (to_come ids contents s) → reading 0 all ≡ entries (to_come ids contents all)

  pub carries_on : (k : ℕ) (s s' all : Entries I C) (e : Entry) → (k ≡ 128 → ⊥) → Leaves ids contents s s' e → Carries k s all → Carries (k + 1) s' all
  carries_on k s s' all e h l c =
      let at = places_of s.columns in
      let same : places_of s'.columns ≡ at = ap places_of l.1 in
      let a = ahead ids contents at k s.rest.now s'.rest.now e h l.0 in
      record {
        faults = λ n p q. c.faults n p (a ∙ ap (more e) (rw same at q));
        wholes = λ q. c.wholes (a ∙ ap (more e) (rw same at q) ∙ ap entries (sym (comes_next ids contents at s.rest.now s'.rest.now e l.0)));
      }

-- the text behind line 1, where line 1 is the four names
pub lines_behind : (ids contents : Text → Bool) (at : Column → ℕ) (t h rest : Text) → split 10 t ≡ h ∷ split 10 rest → heads_fit (split 59 h) ≡ true → at ≡ found (split 59 h) → read ids contents t ≡ values ids contents at 0 (split 10 rest)
lines_behind ids contents at t h rest s f p =
    ap (lines ids contents) s ∙ first (split 10 rest) (some_piece 10 rest) ∙ cond-true (heads_fit (split 59 h)) _ _ f
    ∙ ap (λ (q : Column → ℕ). values ids contents q 0 (split 10 rest)) (sym p)
  where
    first : (ps : List Text) → SomePiece ps → lines ids contents (h ∷ ps) ≡ cond (heads_fit (split 59 h)) (values ids contents (found (split 59 h)) 0 ps) (unread 2 1)
    first _ (pieces q ps) = refl
