-- Texts, and their pieces between marks: split at byte 10, a text's lines; split at a semicolon, a line's values; split at a colon, a name's parts.
use Rattle.std.specs.Prelude.{ℕ, suc, Bool, true, false, cond, List, [], ◌∷◌, ◌++◌, ◌==◌, ◌≢◌}
use Rattle.std.specs.List.{AllByRecursion, slice_split, join_with_byte}
use Rattle.std.specs.Str.{bytes_eq}

-- bytes, in order
abbrev pub Text : Type 0
Text = List ℕ

-- no byte is b
abbrev pub Free : ℕ → Text → Type 0
Free b t = AllByRecursion (λ c. c ≢ b) t

abbrev pub blank : Text → Bool
blank [] = true
blank (c ∷ cs) = false

-- the pieces between the bytes b: one more than there are such bytes
abbrev pub split : ℕ → Text → List Text
split b t = slice_split (λ c. c == b) t

-- pieces with a byte b between each and the next
abbrev pub join : ℕ → List Text → Text
join b ps = join_with_byte b ps

-- lines, each with its ending, byte 10
abbrev pub ended : List Text → Text
ended [] = []
ended (l ∷ ls) = l ++ (10 ∷ ended ls)

-- what is made of two pieces; anything else makes nothing
abbrev pub two : {A : Type 0} → A → (Text → Text → A) → List Text → A
two nothing f [] = nothing
two nothing f (p ∷ []) = nothing
two nothing f (p ∷ q ∷ []) = f p q
two nothing f (p ∷ q ∷ r ∷ ps) = nothing

-- whether t is one of the pieces, and where it stands first
abbrev pub has : Text → List Text → Bool
has t [] = false
has t (p ∷ ps) = cond (bytes_eq p t) true (has t ps)

abbrev pub place : Text → List Text → ℕ
place t [] = 0
place t (p ∷ ps) = cond (bytes_eq p t) 0 (suc (place t ps))
