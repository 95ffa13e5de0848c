use Rattle.std.proofs.Common.{◌≡◌, ◌≤◌, take}
use Rattle.std.specs.Str.Parse.{digits_value, AllDigits}
use Rattle.texts.proofs.numbers.read_number_from.Given as goal

abbrev pub invariant-loop-digit : goal.invariant-loop-digit
invariant-loop-digit l = (l.number ≤ l.most) × (l.number ≡ digits_value 10 (take l.digit-index l.text)) × AllDigits 10 (take l.digit-index l.text)
