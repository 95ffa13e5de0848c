-- What the reading of a patch text means.
use Rattle.std.specs.Prelude.{◌≡◌, ℕ, ◌+◌, ◌<◌, ◌≤◌, Bool, true, false, ◌↔◌, List, [], ◌∷◌, ◌++◌, length, ◌≢◌}
use Rattle.std.specs.List.{AllByRecursion}
use Rattle.graggle.specs.Texts.{Text, Free}
use Rattle.graggle.specs.Names.{Name, WellNamed}
use Rattle.graggle.specs.Entries.{Entry, Column}
use Rattle.graggle.specs.Entries.Entry.{adds, links, strikes}
use Rattle.graggle.specs.Entries.Reading.{unread, entries}
use Rattle.graggle.specs.Reading.{read}
use Rattle.graggle.specs.Writing.{written, heading, line_text, Order, Well}

-- identifiers have no line ending, colon or semicolon, and contents no line ending or semicolon
pub record Plain (ids contents : Text → Bool) : Type 0 where
  pub id : (t : Text) → ids t ≡ true → Free 10 t × Free 58 t × Free 59 t
  pub content : (t : Text) → contents t ≡ true → Free 10 t × Free 59 t

-- t is the written form of the entries es under some order of the columns; there are 1 to 128 of them, and every name and content is lawful
pub record Writes (ids contents : Text → Bool) (t : Text) (es : List Entry) : Type 0 where
  pub columns : List Column
  pub order : Order columns
  pub bytes : t ≡ written columns es
  pub some : 1 ≤ length es
  pub most : length es ≤ 128
  pub well : AllByRecursion (Well ids contents) es

abbrev pub ReadsWhatIsWritten : Type 0
ReadsWhatIsWritten =
    (ids contents : Text → Bool) → Plain ids contents → (t : Text) (es : List Entry) →
    (read ids contents t ≡ entries es) ↔ Writes ids contents t es

-- an entry of lawful names, with any content that has no semicolon
abbrev pub Formed : (Text → Bool) → Entry → Type 0
Formed ids (adds n x) = WellNamed ids n × Free 59 x
Formed ids (links n m) = WellNamed ids n × WellNamed ids m
Formed ids (strikes n) = WellNamed ids n

-- a line that writes no entry, whatever the content
abbrev pub IllFormed : (Text → Bool) → List Column → Text → Type 0
IllFormed ids cs l = (e : Entry) → Formed ids e → l ≢ line_text cs e

-- a line that adds a line with an unlawful content
pub record Unlawful (ids contents : Text → Bool) (cs : List Column) (l : Text) : Type 0 where
  pub name : Name
  pub content : Text
  pub formed : Formed ids (adds name content)
  pub unlawful : contents content ≡ false
  pub bytes : l ≡ line_text cs (adds name content)

-- the number of a refusal where rest follows k value lines
pub data Why (ids contents : Text → Bool) (cs : List Column) (n k : ℕ) (rest : Text) : Type 0 where
  no_line : n ≡ 5 → k ≡ 0 → rest ≡ [] → Why ids contents cs n k rest
  too_many : n ≡ 5 → k ≡ 128 → (rest ≢ []) → Why ids contents cs n k rest
  unended : n ≡ 3 → k < 128 → (rest ≢ []) → Free 10 rest → Why ids contents cs n k rest
  ill_formed : n ≡ 3 → k < 128 → (l after : Text) → rest ≡ l ++ (10 ∷ after) → Free 10 l → IllFormed ids cs l → Why ids contents cs n k rest
  unlawful : n ≡ 4 → k < 128 → (l after : Text) → rest ≡ l ++ (10 ∷ after) → Free 10 l → Unlawful ids contents cs l → Why ids contents cs n k rest

-- a refusal is of the first faulty line: all before it is written as it should be
pub data Refused (ids contents : Text → Bool) (t : Text) (n p : ℕ) : Type 0 where
  at_heading : n ≡ 2 → p ≡ 1 → ((cs : List Column) (after : Text) → Order cs → t ≢ heading cs ++ (10 ∷ after)) → Refused ids contents t n p
  at_line : (cs : List Column) (es : List Entry) (rest : Text) → Order cs → t ≡ written cs es ++ rest → AllByRecursion (Well ids contents) es → p ≡ length es + 2 → Why ids contents cs n (length es) rest → Refused ids contents t n p

abbrev pub RefusesTheFirstFault : Type 0
RefusesTheFirstFault =
    (ids contents : Text → Bool) → Plain ids contents → (t : Text) (n p : ℕ) →
    (read ids contents t ≡ unread n p) ↔ Refused ids contents t n p
