-- A patch text: read just where it is written.
use Rattle.std.proofs.Common.{◌≡◌, Bool, sym, ◌∙◌, subst}
use Rattle.graggle.specs.Texts.{Text}
use Rattle.graggle.specs.Kinds.{SameTexts}
use Rattle.graggle.specs.Entries.Reading.{entries}
use Rattle.graggle.specs.Reading.{read}
use Rattle.graggle.specs.Claims.{Writes, ReadsWhatIsWritten}
use Rattle.graggle.proofs.Cases.{Outcome, outcome_of}
use Rattle.graggle.proofs.Cases.Outcome.{lawful, faulty}
use Rattle.graggle.proofs.Readings.{read_lawful, read_faulty}

pub reads_what_is_written : ReadsWhatIsWritten
reads_what_is_written ids contents plain t es = (λ h. from h (outcome_of ids contents plain t), read_lawful ids contents plain t es)
  where
    from : read ids contents t ≡ entries es → Outcome ids contents t → Writes ids contents t es
    from h (lawful ds w) =
        let same = sym (read_lawful ids contents plain t ds w) ∙ h in
        let q : ds ≡ es = cc in
        subst (Writes ids contents t) q w
    from h (faulty n p f) = let other = sym (read_faulty ids contents plain t n p f) ∙ h in cc

-- equal kinds read a text alike
pub equal_kinds_read_alike : (ids contents : Text → Bool) (t : Text) (ids' contents' : Text → Bool) → SameTexts ids ids' → SameTexts contents contents' → read ids contents t ≡ read ids' contents' t
equal_kinds_read_alike ids contents t ids' contents' h k = λ i. read (λ x. h x i) (λ x. k x i) t
