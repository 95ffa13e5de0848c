-- A refusal is of the first faulty line.
use Rattle.std.proofs.Common.{◌≡◌, sym, ◌∙◌, subst}
use Rattle.graggle.specs.Entries.Reading.{unread}
use Rattle.graggle.specs.Reading.{read}
use Rattle.graggle.specs.Claims.{Refused, RefusesTheFirstFault}
use Rattle.graggle.proofs.Cases.{Outcome, outcome_of}
use Rattle.graggle.proofs.Cases.Outcome.{lawful, faulty}
use Rattle.graggle.proofs.Readings.{read_lawful, read_faulty}

pub refuses_the_first_fault : RefusesTheFirstFault
refuses_the_first_fault ids contents plain t n d = (λ h. from h (outcome_of ids contents plain t), read_faulty ids contents plain t n d)
  where
    from : read ids contents t ≡ unread n d → Outcome ids contents t → Refused ids contents t n d
    from h (lawful es w) = let other = sym (read_lawful ids contents plain t es w) ∙ h in cc
    from h (faulty m p f) =
        let same = sym (read_faulty ids contents plain t m p f) ∙ h in
        let q : m ≡ n = cc in
        let r : p ≡ d = cc in
        subst (λ k. Refused ids contents t k d) q (subst (Refused ids contents t m) r f)
