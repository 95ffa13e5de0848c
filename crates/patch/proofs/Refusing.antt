-- What the reader's answer says, by the reading.
use Rattle.std.proofs.Common.{◌≡◌, ℕ, Bool, ◌↔◌, List, Ok, Err, Result, Ordering, sym, ap, ◌∙◌, arith}
use Rattle.graggle.specs.Texts.{Text}
use Rattle.graggle.specs.Kinds.{Contents, Identifiers, SameTexts}
use Rattle.graggle.specs.Entries.{Entry, Reading}
use Rattle.graggle.specs.Entries.Reading.{unread, entries}
use Rattle.graggle.specs.Reading.{read}
use Rattle.graggle.specs.Claims.{Plain, Writes, Refused}
use Rattle.graggle.proofs.Whole.{equal_kinds_read_alike, reads_what_is_written}
use Rattle.graggle.proofs.Refusing.{refuses_the_first_fault}
use Rattle.patch.specs.declared.reader.Patch.{Patch}
use Rattle.patch.specs.declared.refusals.Cause.TheVariants.{Nothing}
use Rattle.patch.specs.declared.refusals.Layer.TheVariants.{Reader}
use Rattle.patch.specs.declared.refusals.Reason.{Reason}
use Rattle.patch.specs.declared.refusals.Refusal.{Refusal}
use Rattle.patch.specs.Meant.{Answers, Gives, Refuses, held}
use Rattle.patch.specs.Refusals.{number_of}

pub refused_with : {I : Type 0} (r : Refusal I) (reading : Reading) (why : Reason) (p : ℕ) → r ≡ record { reason = why; place = p; cause = Nothing; layer = Reader } → reading ≡ unread (number_of why) p → (reading ≡ unread (number_of r.reason) r.place) × (r.cause ≡ Nothing) × (r.layer ≡ Reader)
refused_with r reading why p e h = (
  h ∙ (λ i. unread (number_of (sym e i).reason) (sym e i).place),
  (λ i. (e i).cause),
  λ i. (e i).layer,
)

module _ {I A : Type 0} (f : A → List Entry) (reading : Reading) where
  gives : (r : Result A (Refusal I)) → Answers f reading r → (es : List Entry) → Gives f r es ↔ (reading ≡ entries es)
  gives (Ok x) h es = (λ e. h ∙ ap entries e, λ e. let q = sym h ∙ e in let z : f x ≡ es = cc in z)
  gives (Err r) h es = (λ e. absurd e, λ e. let q = sym h.0 ∙ e in let z : ◌≡◌ {A = ℕ} 0 1 = cc in omega arith)

  refuses : (r : Result A (Refusal I)) → Answers f reading r → (n p : ℕ) → Refuses r n p ↔ (reading ≡ unread n p)
  refuses (Ok x) h n p = (λ e. absurd e, λ e. let q = sym h ∙ e in let z : ◌≡◌ {A = ℕ} 0 1 = cc in omega arith)
  refuses (Err r) h n p = (
    λ e. h.0 ∙ (λ i. unread (e.0 i) (e.1 i)),
    λ e. let q = sym h.0 ∙ e in let y : number_of r.reason ≡ n = cc in let z : r.place ≡ p = cc in (y, z),
  )

-- in the subject's words: granted exactly where the text is the written form of entries, and refused exactly for the first fault
pub record Told {I A : Type 0} (f : A → List Entry) (ids contents : Text → Bool) (t : Text) (r : Result A (Refusal I)) : Type 0 where
  pub reads : Answers f (read ids contents t) r
  pub means : (es : List Entry) → Gives f r es ↔ Writes ids contents t es
  pub refuses : (n p : ℕ) → Refuses r n p ↔ Refused ids contents t n p
  pub alike : (others texts : Text → Bool) → SameTexts ids others → SameTexts contents texts → read ids contents t ≡ read others texts t

pub told : {ids contents : Text → Bool} {order : Text → Text → Ordering} {long most : ℕ} → Identifiers ids order long → Contents contents most → {I : Type 0} (t : Text) (r : Result Patch (Refusal I)) → Answers (held ids contents) (read ids contents t) r → Told (held ids contents) ids contents t r
told {ids = ids} {contents = contents} i c t r h =
    let f = held ids contents in
    let plain : Plain ids contents = record { id = i.plain; content = c.plain } in
    record {
      reads = h;
      means = λ es. let a = gives f (read ids contents t) r h es in let b = reads_what_is_written ids contents plain t es in (λ x. b.0 (a.0 x), λ x. a.1 (b.1 x));
      refuses = λ n p. let a = refuses f (read ids contents t) r h n p in let b = refuses_the_first_fault ids contents plain t n p in (λ x. b.0 (a.0 x), λ x. a.1 (b.1 x));
      alike = equal_kinds_read_alike ids contents t;
    }
