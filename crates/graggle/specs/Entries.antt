-- What a patch says, and what its text is read as.
use Rattle.std.specs.Prelude.{ℕ, List, codes}
use Rattle.graggle.specs.Texts.{Text}
use Rattle.graggle.specs.Names.{Name}

-- a line with its content, a link from one line to another, a strike against a line
pub data Entry : Type 0 where
  adds : Name → Text → Entry
  links : Name → Name → Entry
  strikes : Name → Entry

-- what a patch text is read as: a refusal with its number and place, or entries
pub data Reading : Type 0 where
  unread : ℕ → ℕ → Reading
  entries : List Entry → Reading

-- the four columns of a patch text, and their names in line 1
pub data Column : Type 0 where
  act : Column
  line : Column
  to : Column
  text : Column

abbrev pub title : Column → Text
title act = codes "act"
title line = codes "line"
title to = codes "to"
title text = codes "text"
