-- What the values of this crate mean, in texts. An identifier and a content mean their texts, by the functions t and u.
use Rattle.std.specs.Prelude.{◌≡◌, ℕ, Bool, List, [], ◌∷◌, length, Some, None, Ok, Err, MatchOption, OnSome, Option, Result}
use Rattle.graggle.specs.Texts.{Text, split}
use Rattle.graggle.specs.Names.{Name}
use Rattle.graggle.specs.Entries as meant
use Rattle.graggle.specs.Entries.{Column, Reading}
use Rattle.graggle.specs.Entries.Column.{act, line, to, text}
use Rattle.graggle.specs.Entries.Entry.{adds, links, strikes}
use Rattle.graggle.specs.Entries.Reading.{unread, entries}
use Rattle.graggle.specs.Reading.{Said, cell, value_line, found}
use Rattle.graggle.specs.Reading.Said.{wrong, says}
use Rattle.patch.specs.declared.columns.Columns.{Columns}
use Rattle.patch.specs.declared.entries.Entry.{Entry}
use Rattle.patch.specs.declared.entries.Entry.TheVariants.{Add, Link, Strike}
use Rattle.patch.specs.declared.names.LineName.{LineName}
use Rattle.patch.specs.declared.reader.Entries.{Entries}
use Rattle.patch.specs.declared.reader.Patch.{Patch}
use Rattle.patch.specs.declared.refusals.Cause.TheVariants.{Nothing}
use Rattle.patch.specs.declared.refusals.Layer.TheVariants.{Reader}
use Rattle.patch.specs.declared.refusals.Reason.{Reason}
use Rattle.patch.specs.declared.refusals.Reason.TheVariants.{BadValueLine, UnlawfulContent}
use Rattle.patch.specs.declared.refusals.Refusal.{Refusal}
use Rattle.patch.specs.declared.values.LineFault.{LineFault}
use Rattle.patch.specs.declared.values.LineFault.TheVariants as fault
use Rattle.patch.specs.declared.values.Values.{Values}
use Rattle.patch.specs.Refusals.{number_of}

abbrev pub name_of : {I : Type 0} → (I → Text) → LineName I → Name
name_of t n = record { patch = t n.patch; index = n.index }

abbrev pub name_read : {I : Type 0} → (I → Text) → Option (LineName I) → Option Name
name_read t None = None
name_read t (Some n) = Some (name_of t n)

abbrev pub entry_of : {I C : Type 0} → (I → Text) → (C → Text) → Entry I C → meant.Entry
entry_of t u (Add n x) = adds (name_of t n) (u x)
entry_of t u (Link n m) = links (name_of t n) (name_of t m)
entry_of t u (Strike n) = strikes (name_of t n)

-- the reason that a line is refused for
abbrev pub reason_of : LineFault → Reason
reason_of fault.BadValueLine = BadValueLine
reason_of fault.UnlawfulContent = UnlawfulContent

-- what a value line says, by the answer of its reader
abbrev pub said_by : {I C : Type 0} → (I → Text) → (C → Text) → Result (Entry I C) LineFault → Said
said_by t u (Ok e) = says (entry_of t u e)
said_by t u (Err f) = wrong (number_of (reason_of f))

-- where each column stands
abbrev pub places_of : Columns → Column → ℕ
places_of c act = c.act
places_of c line = c.line
places_of c to = c.to
places_of c text = c.text

-- the four values of a line
pub record HoldsValues (columns : Columns) (t : Text) (v : Values) : Type 0 where
  pub four : length (split 59 t) ≡ 4
  pub act : v.act.now ≡ cell (places_of columns) (split 59 t) act
  pub line : v.line.now ≡ cell (places_of columns) (split 59 t) line
  pub to : v.to.now ≡ cell (places_of columns) (split 59 t) to
  pub text : v.text.now ≡ cell (places_of columns) (split 59 t) text

-- the entries of the value lines, up to the first line that says none; the last piece has no ending, so it says none
abbrev pub heard : Said → List meant.Entry → List meant.Entry
heard (wrong n) es = []
heard (says e) es = e ∷ es

module _ (ids contents : Text → Bool) where
  abbrev pub coming : (Column → ℕ) → List Text → List meant.Entry
  coming at [] = []
  coming at (p ∷ []) = []
  coming at (p ∷ q ∷ ps) = heard (value_line ids contents at (split 59 p)) (coming at (q ∷ ps))

  -- the entries of a patch, and those that are still to come
  abbrev pub held : Patch → List meant.Entry
  held p = coming (places_of p.columns) (split 10 p.values.now)

  abbrev pub to_come : {I C : Type 0} → Entries I C → List meant.Entry
  to_come e = coming (places_of e.columns) (split 10 e.rest.now)

-- the answer of a reader, where the definition of reading says this: the entries, or the refusal with its place, layer reader, no cause
abbrev pub Answers : {I A : Type 0} → (A → List meant.Entry) → Reading → Result A (Refusal I) → Type 0
Answers f reading (Ok x) = reading ≡ entries (f x)
Answers f reading (Err r) = (reading ≡ unread (number_of r.reason) r.place) × (r.cause ≡ Nothing) × (r.layer ≡ Reader)

-- the answer is these entries; the answer is the refusal with that number and place
abbrev pub Gives : {I A : Type 0} → (A → List meant.Entry) → Result A (Refusal I) → List meant.Entry → Type 0
Gives f (Ok x) es = f x ≡ es
Gives f (Err r) es = ⊥

abbrev pub Refuses : {I A : Type 0} → Result A (Refusal I) → ℕ → ℕ → Type 0
Refuses (Ok x) n p = ⊥
Refuses (Err r) n p = (number_of r.reason ≡ n) × (r.place ≡ p)

-- a patch is its text without line 1, and the places that line 1 gives the columns
pub record LiesIn (t : Text) (p : Patch) : Type 0 where
  pub heading : Text
  pub lines : split 10 t ≡ heading ∷ split 10 p.values.now
  pub columns : places_of p.columns ≡ found (split 59 heading)

-- the entries that are to come, without the first line: the same columns, and what stands behind that line
pub record MovesOn {I C : Type 0} (before after : Entries I C) : Type 0 where
  pub line : Text
  pub lines : split 10 before.rest.now ≡ line ∷ split 10 after.rest.now
  pub columns : after.columns ≡ before.columns

-- a call of `next`: the next entry comes, or there is none and nothing moves
pub record GivesNext (ids contents : Text → Bool) {I C : Type 0} (t : I → Text) (u : C → Text) (before : Entries I C) (next : Option (Entry I C)) (after : Entries I C) : Type 0 where
  pub gives : MatchOption next ((to_come ids contents before ≡ []) × (after ≡ before)) (λ e. to_come ids contents before ≡ entry_of t u e ∷ to_come ids contents after)
  pub moves : OnSome next (MovesOn before after)

-- the answer for the value line at the front of a text: it is ended, and says this; what is given back begins behind it
pub record Ahead (ids contents : Text → Bool) (at : Column → ℕ) (rest behind : Text) (e : meant.Entry) : Type 0 where
  pub line : Text
  pub lines : split 10 rest ≡ line ∷ split 10 behind
  pub says_it : value_line ids contents at (split 59 line) ≡ says e

-- no line there, or a line that is wrong
pub data Amiss (ids contents : Text → Bool) (at : Column → ℕ) (rest : Text) (n : ℕ) : Type 0 where
  unended : n ≡ 3 → split 10 rest ≡ rest ∷ [] → Amiss ids contents at rest n
  is_wrong : (line behind : Text) → split 10 rest ≡ line ∷ split 10 behind → value_line ids contents at (split 59 line) ≡ wrong n → Amiss ids contents at rest n

-- the front line is left behind, and says this
abbrev pub Leaves : (Text → Bool) → (Text → Bool) → {I C : Type 0} → Entries I C → Entries I C → meant.Entry → Type 0
Leaves ids contents before after e = Ahead ids contents (places_of before.columns) before.rest.now after.rest.now e × (after.columns ≡ before.columns)

-- what the test of line p answers of a fault: its number and place, layer reader, no cause
abbrev pub Faults : (Text → Bool) → (Text → Bool) → {I C : Type 0} → Entries I C → ℕ → Refusal I → Type 0
Faults ids contents before p r = Amiss ids contents (places_of before.columns) before.rest.now (number_of r.reason) × (r ≡ record { reason = r.reason; place = p; cause = Nothing; layer = Reader })
