-- How a patch text is written.
use Rattle.std.specs.Prelude.{◌≡◌, Bool, true, ◌⊎◌, List, [], ◌∷◌, map, length}
use Rattle.graggle.specs.Texts.{Text, join, ended}
use Rattle.graggle.specs.Names.{name_text, WellNamed}
use Rattle.graggle.specs.Entries.{Entry, Column, title}
use Rattle.graggle.specs.Entries.Entry.{adds, links, strikes}
use Rattle.graggle.specs.Entries.Column.{act, line, to, text}

-- what an entry has in a column; the acts are the letters a (97), k (107) and s (115)
abbrev pub value_in : Entry → Column → Text
value_in (adds n x) act = 97 ∷ []
value_in (adds n x) line = name_text n
value_in (adds n x) to = []
value_in (adds n x) text = x
value_in (links n m) act = 107 ∷ []
value_in (links n m) line = name_text n
value_in (links n m) to = name_text m
value_in (links n m) text = []
value_in (strikes n) act = 115 ∷ []
value_in (strikes n) line = name_text n
value_in (strikes n) to = []
value_in (strikes n) text = []

-- the columns' names, and an entry's values, joined by semicolons
abbrev pub heading : List Column → Text
heading cs = join 59 (map title cs)

abbrev pub line_text : List Column → Entry → Text
line_text cs e = join 59 (map (value_in e) cs)

-- the heading and then each entry, a line each
abbrev pub written : List Column → List Entry → Text
written cs es = ended (heading cs ∷ map (line_text cs) es)

-- an order of the four columns: four, and each column among them
abbrev pub Among : {A : Type 0} → A → List A → Type 0
Among x [] = ⊥
Among x (y ∷ ys) = (x ≡ y) ⊎ Among x ys

pub record Order (cs : List Column) : Type 0 where
  pub four : length cs ≡ 4
  pub each : (c : Column) → Among c cs

-- every name and content is lawful
abbrev pub Well : (Text → Bool) → (Text → Bool) → Entry → Type 0
Well ids contents (adds n x) = WellNamed ids n × (contents x ≡ true)
Well ids contents (links n m) = WellNamed ids n × WellNamed ids m
Well ids contents (strikes n) = WellNamed ids n
