use Rattle.std.proofs.Common.{◌≡◌, ℕ, ◌+◌, ◌-◌, ◌*◌, ◌<◌, false, eqb, length, get_or, Some, None, sym, refl, arith}
use Rattle.std.proofs.lemmas.Bool.{eqb-false, eqb-true}
use Rattle.graggle.proofs.Numerals.{numbers_mean}
use Rattle.texts.proofs.NumberSteps.{one_byte, more_value, more_digits, none_blank, none_zero, none_other, none_above, none_below, some_number}
use Rattle.texts.proofs.numbers.read_number_from.Goals as goal

filled : {n : ℕ} → false ≡ eqb n 0 → 0 < n
filled {n} e = let h = eqb-false n 0 (sym e) in omega arith

pub returns-then-is_empty : goal.returns-then-is_empty
returns-then-is_empty c =
    let t = c.args.text.now in
    let least = c.args.least in
    let most = c.args.most in
    let e = none_blank least most (omega arith) t (eqb-true _ _ (sym c.if-is_empty.ensures)) in
    record { reads = e; means = numbers_mean least most (omega arith) t None e }

pub returns-then-has_leading_zero : goal.returns-then-has_leading_zero
returns-then-has_leading_zero c =
    let t = c.args.text.now in
    let least = c.args.least in
    let most = c.args.most in
    let z = c.has_leading_zero.ensures.0 c.if-has_leading_zero.true in
    let e = none_zero least most (omega arith) t z.1 z.0 in
    record { reads = e; means = numbers_mean least most (omega arith) t None e }

pub loop-digit-init : goal.loop-digit-init
loop-digit-init c = (omega arith, refl, tt)

pub loop-digit-preserved : goal.loop-digit-preserved
loop-digit-preserved c =
    let t = c.args.text.now in
    let i = c.loop-digit.digit-index in
    let n = c.loop-digit.number in
    let v = c.loop-digit.invariant.1 in
    let d = c.if-not-is_ascii_digit.ensures.cases in
    let m = more_value t i n c.loop-digit-test.true v d.0 d.1 in (
      omega (arith, c.if-from-number.false, c.from-in-loop-digit.ensures),
      omega (arith, m, c.from.ensures),
      more_digits t i n c.loop-digit-test.true v d.0 d.1 c.loop-digit.invariant.2,
    )

pub returns-then-not-is_ascii_digit : goal.returns-then-not-is_ascii_digit
returns-then-not-is_ascii_digit c =
    let t = c.args.text.now in
    let least = c.args.least in
    let most = c.args.most in
    let e = none_other least most (omega arith) t c.loop-digit.digit-index c.loop-digit-test.true c.if-not-is_ascii_digit.ensures.cases in
    record { reads = e; means = numbers_mean least most (omega arith) t None e }

pub returns-then-from-number : goal.returns-then-from-number
returns-then-from-number c =
    let t = c.args.text.now in
    let least = c.args.least in
    let most = c.args.most in
    let i = c.loop-digit.digit-index in
    let n = c.loop-digit.number in
    let d = c.if-not-is_ascii_digit.ensures.cases in
    let m = more_value t i n c.loop-digit-test.true c.loop-digit.invariant.1 d.0 d.1 in
    let e = none_above least most (omega arith) t (i + 1) (n * 10 + (get_or t i 0 - 48)) m (omega (arith, c.if-from-number.true, c.from.ensures, c.from-in-loop-digit.ensures)) in
    record { reads = e; means = numbers_mean least most (omega arith) t None e }

pub returns-then-number-from : goal.returns-then-number-from
returns-then-number-from c =
    let t = c.args.text.now in
    let least = c.args.least in
    let most = c.args.most in
    let e = none_below least most (omega arith) t c.loop-digit.digit-index c.loop-digit.number c.loop-digit-test.false c.loop-digit.invariant.1 (omega (arith, c.if-number-from.true, c.from-2.ensures)) in
    record { reads = e; means = numbers_mean least most (omega arith) t None e }

pub returns : goal.returns
returns c =
    let t = c.args.text.now in
    let least = c.args.least in
    let most = c.args.most in
    let n = c.loop-digit.number in
    let some : 0 < length t = filled c.if-is_empty.ensures in
    let zero : get_or t 0 0 ≡ 48 → length t ≡ 1 = λ z. one_byte c.has_leading_zero.result t some z c.has_leading_zero.ensures.1 c.if-has_leading_zero.false in
    let e = some_number least most (omega arith) t c.loop-digit.digit-index n c.loop-digit-test.false c.loop-digit.invariant.1 c.loop-digit.invariant.2 some zero (omega (arith, c.if-number-from.false, c.from-2.ensures)) c.loop-digit.invariant.0 in
    record { reads = e; means = numbers_mean least most (omega arith) t (Some n) e }
