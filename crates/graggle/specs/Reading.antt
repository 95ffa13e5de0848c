-- How a patch text is read. The number of a refusal is that of its reason: 2 line 1, 3 a value line, 4 a content, 5 the count of value lines.
use Rattle.std.specs.Prelude.{ℕ, ◌+◌, Bool, cond, ◌&&◌, List, [], ◌∷◌, length, Some, None, Option, ◌==◌, slice_index_or}
use Rattle.graggle.specs.Texts.{Text, split, blank, has, place}
use Rattle.graggle.specs.Names.{Name, name}
use Rattle.graggle.specs.Entries.{Entry, Reading, Column, title}
use Rattle.graggle.specs.Entries.Entry.{adds, links, strikes}
use Rattle.graggle.specs.Entries.Reading.{unread, entries}
use Rattle.graggle.specs.Entries.Column.{act, line, to, text}

-- the act: one letter, a (97), k (107) or s (115)
pub data Act : Type 0 where
  add : Act
  link : Act
  strike : Act

abbrev pub letter : ℕ → Option Act
letter c = cond (c == 97) (Some add) (cond (c == 107) (Some link) (cond (c == 115) (Some strike) None))

abbrev pub act_of : Text → Option Act
act_of [] = None
act_of (c ∷ []) = letter c
act_of (c ∷ d ∷ cs) = None

-- line 1: four names, each of the columns' among them
abbrev pub heads_fit : List Text → Bool
heads_fit hs = length hs == 4 && (has (title act) hs && (has (title line) hs && (has (title to) hs && has (title text) hs)))

-- where each column's name stands in line 1
abbrev pub found : List Text → Column → ℕ
found hs c = place (title c) hs

-- the value of a column in a line, where the columns stand at these places
abbrev pub cell : (Column → ℕ) → List Text → Column → Text
cell at ps c = slice_index_or ps (at c) []

-- what a value line says: an entry, or the number of its fault
pub data Said : Type 0 where
  wrong : ℕ → Said
  says : Entry → Said

-- the three acts: `line`, `to` and `text` in that order
abbrev pub adding : (Text → Bool) → Option Name → Text → Text → Said
adding contents None b x = wrong 3
adding contents (Some n) b x = cond (blank b) (cond (contents x) (says (adds n x)) (wrong 4)) (wrong 3)

abbrev pub linking : Option Name → Option Name → Text → Said
linking None m x = wrong 3
linking (Some n) None x = wrong 3
linking (Some n) (Some m) x = cond (blank x) (says (links n m)) (wrong 3)

abbrev pub striking : Option Name → Text → Text → Said
striking None b x = wrong 3
striking (Some n) b x = cond (blank b) (cond (blank x) (says (strikes n)) (wrong 3)) (wrong 3)

-- one line and what follows: a line that is wrong refuses the text at its place, an entry comes before the entries that follow
abbrev pub more : Entry → Reading → Reading
more e (unread n p) = unread n p
more e (entries es) = entries (e ∷ es)

abbrev pub then : Said → ℕ → Reading → Reading
then (wrong n) p r = unread n p
then (says e) p r = more e r

-- the text ends after k value lines; what stands behind the last byte 10 has no ending, and has to be blank
abbrev pub last : ℕ → Text → Reading
last k [] = cond (k == 0) (unread 5 2) (entries [])
last k (c ∷ cs) = cond (k == 128) (unread 5 130) (unread 3 (k + 2))

-- ids and contents are the lawful identifiers and contents
module _ (ids contents : Text → Bool) where
  abbrev pub entry : Option Act → Text → Text → Text → Said
  entry None l b x = wrong 3
  entry (Some add) l b x = adding contents (name ids l) b x
  entry (Some link) l b x = linking (name ids l) (name ids b) x
  entry (Some strike) l b x = striking (name ids l) b x

  -- a value line, as the pieces between its semicolons
  abbrev pub value_line : (Column → ℕ) → List Text → Said
  value_line at ps = cond (length ps == 4) (entry (act_of (cell at ps act)) (cell at ps line) (cell at ps to) (cell at ps text)) (wrong 3)

  -- k value lines were read, and these pieces follow; the last piece is what has no ending
  abbrev pub values : (Column → ℕ) → ℕ → List Text → Reading
  values at k [] = unread 3 (k + 2)
  values at k (p ∷ []) = last k p
  values at k (p ∷ q ∷ ps) =
      cond (k == 128) (unread 5 130) (then (value_line at (split 59 p)) (k + 2) (values at (k + 1) (q ∷ ps)))

  abbrev pub lines : List Text → Reading
  lines [] = unread 2 1
  lines (p ∷ []) = unread 2 1
  lines (p ∷ q ∷ ps) = cond (heads_fit (split 59 p)) (values (found (split 59 p)) 0 (q ∷ ps)) (unread 2 1)

  abbrev pub read : Text → Reading
  read t = lines (split 10 t)
