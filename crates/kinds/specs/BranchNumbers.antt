-- Branch numbers: B.S, where B from 1 to 999 is the branch and S from 1 to 65,535 the serial; ordered by B and then S. The dot is byte 46.
use Rattle.std.specs.Prelude.{◌≡◌, ℕ, ◌≤◌, Bool}
use Rattle.std.specs.declared.cmp.Ordering.{Ordering}
use Rattle.std.specs.Ordering.{ordering_then, nat_cmp}
use Rattle.graggle.specs.Texts.{Text}
use Rattle.graggle.specs.Numbers.{numeral}
use Rattle.kinds.specs.Pairs.{two_pass, pair_text, number_at}

abbrev pub lawful_branch : Text → Bool
lawful_branch t = two_pass 46 (numeral 1 999) (numeral 1 65535) t

abbrev pub branch_order : Text → Text → Ordering
branch_order s t = ordering_then (nat_cmp (number_at 46 0 s) (number_at 46 0 t)) (nat_cmp (number_at 46 1 s) (number_at 46 1 t))

-- a branch and a serial that there can be
pub record BranchRange (branch serial : ℕ) : Type 0 where
  pub branch_least : 1 ≤ branch
  pub branch_most : branch ≤ 999
  pub serial_least : 1 ≤ serial
  pub serial_most : serial ≤ 65535

-- a text that a branch and a serial write
pub record IsBranchNumber (t : Text) : Type 0 where
  pub branch : ℕ
  pub serial : ℕ
  pub range : BranchRange branch serial
  pub text : t ≡ pair_text 46 branch serial
