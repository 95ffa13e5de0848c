-- Every text is written as it should be, or has a first fault.
use Rattle.std.proofs.Common.{◌≡◌, ℕ, suc, ◌+◌, ◌<◌, ◌≤◌, Bool, false, ◌⊎◌, List, [], ◌∷◌, ◌++◌, map, length, sym, refl, ap, ◌∙◌, subst, inl, inr, ⊎_elim, append_assoc, arith}
use Rattle.std.specs.List.{AllByRecursion}
use Rattle.std.proofs.lemmas.Bool.{both_ways, cases_eq, cases_Bool}
use Rattle.std.proofs.lemmas.List.{append-nil}
use Rattle.graggle.specs.Texts.{Text, split, join, ended, Free}
use Rattle.graggle.specs.Entries.{Entry, Column}
use Rattle.graggle.specs.Reading.{heads_fit}
use Rattle.graggle.specs.Writing.{heading, line_text, written, Order, Well}
use Rattle.graggle.specs.Claims.{Plain, Writes, Why, Refused}
use Rattle.graggle.specs.Claims.Why.{no_line, too_many, unended, ill_formed, unlawful}
use Rattle.graggle.specs.Claims.Refused.{at_heading, at_line}
use Rattle.graggle.proofs.Splitting.{SomePiece, some_piece, join_split, split_free, split_off}
use Rattle.graggle.proofs.Splitting.SomePiece.{pieces}
use Rattle.graggle.proofs.Columns.{Heads, heads_from, heads_written}
use Rattle.graggle.proofs.ValueLines.{Line, line_is, heading_split, heading_free}
use Rattle.graggle.proofs.ValueLines.Line.{good, ill, bad}

not_nil : (p t : Text) → p ++ (10 ∷ t) ≡ [] → ⊥
not_nil [] t q = cc
not_nil (c ∷ p) t q = cc

-- one of the two
pub data Outcome (ids contents : Text → Bool) (t : Text) : Type 0 where
  lawful : (es : List Entry) → Writes ids contents t es → Outcome ids contents t
  faulty : (n p : ℕ) → Refused ids contents t n p → Outcome ids contents t

module _ (ids contents : Text → Bool) (plain : Plain ids contents) where
  module _ (cs : List Column) (o : Order cs) where
    -- what follows k value lines: nothing, or a fault
    abbrev End : ℕ → Text → Type 0
    End k rest = ((rest ≡ []) × (1 ≤ k) × (k ≤ 128)) ⊎ ((n : ℕ) × Why ids contents cs n k rest)

    -- more lawful lines, and then an end
    record Ends (k : ℕ) (t : Text) : Type 0 where
      es : List Entry
      rest : Text
      bytes : t ≡ ended (map (line_text cs) es) ++ rest
      well : AllByRecursion (Well ids contents) es
      end : End (k + length es) rest

    here : (k : ℕ) (rest : Text) → End k rest → Ends k rest
    here k rest h = let j : k ≡ k + 0 = omega arith in record { es = []; rest = rest; bytes = refl; well = tt; end = subst (λ i. End i rest) j h }

    step : (k : ℕ) (p after : Text) → k < 128 → Free 10 p → Line ids contents cs p → Ends (k + 1) after → Ends k (p ++ (10 ∷ after))
    step k p after l f (good e w q) s =
        let j : k + 1 + length s.es ≡ k + suc (length s.es) = omega arith in
        record {
          es = e ∷ s.es;
          rest = s.rest;
          bytes = (λ i. q i ++ (10 ∷ s.bytes i)) ∙ sym (append_assoc (line_text cs e) (10 ∷ ended (map (line_text cs) s.es)) s.rest);
          well = (w, s.well);
          end = subst (λ i. End i s.rest) j s.end;
        }
    step k p after l f (ill h) s = here k (p ++ (10 ∷ after)) (inr (3, ill_formed refl l p after refl f h))
    step k p after l f (bad u) s = here k (p ++ (10 ∷ after)) (inr (4, unlawful refl l p after refl f u))

    ends : (k : ℕ) (ps : List Text) → k ≤ 128 → SomePiece ps → AllByRecursion (Free 10) ps → Ends k (join 10 ps)
    ends k [] l s f = elim s [ ]
    ends k ([] ∷ []) l s f = here k [] (⊎_elim (λ z. inr (5, no_line refl z refl)) (λ z. inl (refl, omega arith, l)) (cases_eq k 0))
    ends k ((c ∷ t) ∷ []) l s f =
        here k (c ∷ t) (inr (⊎_elim (λ z. (5, too_many refl z (λ q. cc))) (λ z. (3, unended refl (omega arith) (λ q. cc) f.0)) (cases_eq k 128)))
    ends k (p ∷ q ∷ ps) l s f =
        ⊎_elim
        (λ z. here k (p ++ (10 ∷ join 10 (q ∷ ps))) (inr (5, too_many refl z (not_nil p (join 10 (q ∷ ps))))))
        (λ z. step k p (join 10 (q ∷ ps)) (omega arith) f.0 (line_is ids contents plain cs o p) (ends (k + 1) (q ∷ ps) (omega arith) (pieces q ps) f.1))
        (cases_eq k 128)

  module _ (t : Text) where
    -- a heading would be the first piece of several
    heading_first : (p : Text) (ps : List Text) → split 10 t ≡ p ∷ ps → (cs : List Column) (after : Text) → t ≡ heading cs ++ (10 ∷ after) → p ∷ ps ≡ heading cs ∷ split 10 after
    heading_first p ps s cs after e = sym s ∙ ap (split 10) e ∙ split_off 10 (heading cs) after (heading_free cs)

    one_piece : (p : Text) → split 10 t ≡ p ∷ [] → (cs : List Column) (after : Text) → Order cs → t ≡ heading cs ++ (10 ∷ after) → ⊥
    one_piece p s cs after o e =
        let b = heading_first p [] s cs after e in
        let none : split 10 after ≡ [] = cc in
        elim (subst SomePiece none (some_piece 10 after)) [ ]

    other_heading : (p : Text) (ps : List Text) → split 10 t ≡ p ∷ ps → heads_fit (split 59 p) ≡ false → (cs : List Column) (after : Text) → Order cs → t ≡ heading cs ++ (10 ∷ after) → ⊥
    other_heading p ps s h cs after o e =
        let b = heading_first p ps s cs after e in
        let q : p ≡ heading cs = cc in
        both_ways (heads_fit (split 59 p)) h (ap (λ x. heads_fit (split 59 x)) q ∙ ap heads_fit (heading_split cs o) ∙ heads_written cs o)

    from_heading : (p after : Text) → t ≡ p ++ (10 ∷ after) → (h : Heads (split 59 p)) → Ends h.columns h.order 0 after → Outcome ids contents t
    from_heading p after e h k =
        let cs = h.columns in
        let head : p ≡ heading cs = sym (join_split 59 p) ∙ ap (join 59) h.names in
        let bytes : t ≡ written cs k.es ++ k.rest = e ∙ (λ i. head i ++ (10 ∷ k.bytes i)) ∙ sym (append_assoc (heading cs) (10 ∷ ended (map (line_text cs) k.es)) k.rest) in
        let j : 0 + length k.es ≡ length k.es = omega arith in
        ⊎_elim
        (λ w. lawful k.es (record { columns = cs; order = h.order; bytes = bytes ∙ ap (λ r. written cs k.es ++ r) w.0 ∙ append-nil (written cs k.es); some = omega (arith, w.1); most = omega (arith, w.2); well = k.well }))
        (λ w. faulty w.0 (length k.es + 2) (at_line cs k.es k.rest h.order bytes k.well refl (subst (λ i. Why ids contents cs w.0 i k.rest) j w.1)))
        k.end

    from_pieces : (ps : List Text) → split 10 t ≡ ps → Outcome ids contents t
    from_pieces [] s = elim (subst SomePiece s (some_piece 10 t)) [ ]
    from_pieces (p ∷ []) s = faulty 2 1 (at_heading refl refl (one_piece p s))
    from_pieces (p ∷ q ∷ ps) s =
        ⊎_elim
        (λ f. let h = heads_from (split 59 p) f in
        from_heading p (join 10 (q ∷ ps)) (sym (join_split 10 t) ∙ ap (join 10) s) h
        (ends h.columns h.order 0 (q ∷ ps) (omega arith) (pieces q ps) (subst (AllByRecursion (Free 10)) s (split_free 10 t)).1))
        (λ f. faulty 2 1 (at_heading refl refl (other_heading p (q ∷ ps) s f)))
        (cases_Bool (heads_fit (split 59 p)))

    pub outcome_of : Outcome ids contents t
    outcome_of = from_pieces (split 10 t) refl
