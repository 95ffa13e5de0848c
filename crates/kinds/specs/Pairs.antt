-- Texts of two numbers with a mark between them.
use Rattle.std.specs.Prelude.{ℕ, Bool, false, ◌&&◌, [], ◌∷◌, ◌++◌, decimal, slice_index_or}
use Rattle.std.specs.Str.Parse.{digits_value}
use Rattle.graggle.specs.Texts.{Text, split, two}

-- two pieces at the mark, and each passes its test
abbrev pub two_pass : ℕ → (Text → Bool) → (Text → Bool) → Text → Bool
two_pass mark first second t = two false (λ p q. first p && second q) (split mark t)

abbrev pub pair_text : ℕ → ℕ → ℕ → Text
pair_text mark a b = decimal a ++ (mark ∷ decimal b)

-- the number in the piece at a place
abbrev pub number_at : ℕ → ℕ → Text → ℕ
number_at mark place t = digits_value 10 (slice_index_or (split mark t) place [])
