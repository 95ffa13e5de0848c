-- Texts of two numbers with a mark between them: lawful just where two numbers write them.
use Rattle.std.specs.Prelude.{◌≡◌, ℕ, ◌+◌, ◌^◌, ◌<◌, ◌≤◌, Bool, true, false, ◌&&◌, Decides, List, [], ◌∷◌, ◌++◌, length, Some, None, codes, decimal, ◌≢◌, slice_index_or, nat_le, refl}
use Rattle.std.specs.declared.cmp.Ordering.{Ordering}
use Rattle.std.proofs.Common.{sym, ap, ap₂, subst, ◌∙◌, arith, length-append}
use Rattle.std.specs.Ordering.{ordering_then, nat_cmp}
use Rattle.std.specs.Str.Parse.{digits_value}
use Rattle.std.specs.Int.{IsInRange}
use Rattle.std.proofs.lemmas.Fmt.{length-decimal-le}
use Rattle.std.proofs.ByRecursion.{All-append}
use Rattle.std.proofs.lemmas.Bool.{and_parts, and_from, and_right, cond-true, false_from_ne_true, both_ways, le-leb, ltb-true}
use Rattle.graggle.specs.Texts.{Text, Free, split, join, two}
use Rattle.graggle.specs.Numbers.{numeral, number}
use Rattle.graggle.specs.Kinds.{Contents, Identifiers, Longest}
use Rattle.graggle.specs.Orders.{Total}
use Rattle.graggle.proofs.Splitting.{join_split, split_off, split_whole, two_rest}
use Rattle.graggle.proofs.Numerals.{decimal_free, told_value, numeral_written, numeral_told, number_from}
use Rattle.graggle.proofs.Ordered.{numbers_total, parts_total}
use Rattle.kinds.specs.declared.branch.BranchNumber.{BranchNumber}
use Rattle.kinds.specs.declared.pairs.PairForm.{PairForm}
use Rattle.kinds.specs.Pairs.{two_pass, pair_text, number_at}
use Rattle.kinds.specs.BranchNumbers.{lawful_branch, branch_order, IsBranchNumber}
use Rattle.kinds.specs.StockRows.{lawful_row, IsStockRow}

-- branch numbers, and stock rows
abbrev pub branch_form : PairForm
branch_form = record { mark = 46; low = 1; high = 999; least = 1; most = 65535; no_digit = λ d. both_ways (nat_le 48 46) refl (le-leb 48 46 d.0); high_fits = ltb-true 999 (2 ^ 64) refl; most_fits = ltb-true 65535 (2 ^ 64) refl }

abbrev pub row_form : PairForm
row_form = record { mark = 44; low = 1; high = 999999; least = 0; most = 999; no_digit = λ d. both_ways (nat_le 48 44) refl (le-leb 48 44 d.0); high_fits = ltb-true 999999 (2 ^ 64) refl; most_fits = ltb-true 999 (2 ^ 64) refl }

-- numbers of at most d and e digits
pub pair_length : (d e mark a b : ℕ) → 0 < d → 0 < e → a < 10 ^ d → b < 10 ^ e → a < 2 ^ 64 → b < 2 ^ 64 → length (pair_text mark a b) ≤ d + 1 + e
pair_length d e mark a b p q h k small short =
    let l = length-decimal-le d a p h small in
    let m = length-decimal-le e b q k short in
    omega (arith, length-append (decimal a) (mark ∷ decimal b))

number_none : (low high : ℕ) (t : Text) → number low high t ≡ None → numeral low high t ≡ false
number_none low high t n =
    false_from_ne_true (numeral low high t) (λ e. let s = cond-true (numeral low high t) (Some (digits_value 10 t)) None e in cc)

module _ (f : PairForm) where
  abbrev pub lawful : Text → Bool
  lawful t = two_pass f.mark (numeral f.low f.high) (numeral f.least f.most) t

  abbrev text : ℕ → ℕ → Text
  text a b = pair_text f.mark a b

  abbrev first : Text → ℕ
  first t = number_at f.mark 0 t

  abbrev second : Text → ℕ
  second t = number_at f.mark 1 t

  abbrev both : Text → Text → Bool
  both p q = numeral f.low f.high p && numeral f.least f.most q

  -- numbers that there can be
  pub record Range (a b : ℕ) : Type 0 where
    pub first_least : f.low ≤ a
    pub first_most : a ≤ f.high
    pub second_least : f.least ≤ b
    pub second_most : b ≤ f.most

  pub pair_split : (a b : ℕ) → Range a b → split f.mark (text a b) ≡ decimal a ∷ decimal b ∷ []
  pair_split a b r =
      split_off f.mark (decimal a) (decimal b) (decimal_free f.mark a (omega arith) f.no_digit)
      ∙ ap (λ ps. decimal a ∷ ps) (split_whole f.mark (decimal b) (decimal_free f.mark b (omega arith) f.no_digit))

  pub pair_numbers : (a b : ℕ) → Range a b → (first (text a b) ≡ a) × (second (text a b) ≡ b)
  pair_numbers a b r = (
    ap (λ ps. digits_value 10 (slice_index_or ps 0 [])) (pair_split a b r) ∙ told_value a (omega arith),
    ap (λ ps. digits_value 10 (slice_index_or ps 1 [])) (pair_split a b r) ∙ told_value b (omega arith),
  )

  pub pair_lawful : (a b : ℕ) → Range a b → lawful (text a b) ≡ true
  pair_lawful a b r =
      ap (two false both) (pair_split a b r)
      ∙ and_from _ _ (numeral_written f.low f.high f.high_fits a r.first_least r.first_most) (numeral_written f.least f.most f.most_fits b r.second_least r.second_most)

  -- what a lawful text tells
  pub record Told (t : Text) : Type 0 where
    pub range : Range (first t) (second t)
    pub writes : t ≡ text (first t) (second t)

  told : (t p q : Text) → split f.mark t ≡ p ∷ q ∷ [] → both p q ≡ true → Told t
  told t p q e l =
      let w = and_parts (numeral f.low f.high p) (numeral f.least f.most q) l in
      let u = numeral_told f.low f.high f.high_fits p w.0 in
      let v = numeral_told f.least f.most f.most_fits q w.1 in
      let m : digits_value 10 p ≡ first t = sym (ap (λ ps. digits_value 10 (slice_index_or ps 0 [])) e) in
      let n : digits_value 10 q ≡ second t = sym (ap (λ ps. digits_value 10 (slice_index_or ps 1 [])) e) in
      record {
        range = omega arith;
        writes = sym (join_split f.mark t) ∙ ap (join f.mark) e ∙ ap₂ (λ x y. x ++ (f.mark ∷ y)) (u.text ∙ ap decimal m) (v.text ∙ ap decimal n);
      }

  pub pair_told : (t : Text) → lawful t ≡ true → Told t
  pair_told t = go (split f.mark t) refl
    where
      go : (ps : List Text) → split f.mark t ≡ ps → two false both ps ≡ true → Told t
      go [] e l = cc
      go (p ∷ []) e l = cc
      go (p ∷ q ∷ []) e l = told t p q e l
      go (p ∷ q ∷ r ∷ ps) e l = cc

  pub pair_some : (t : Text) → lawful t ≡ true → 1 ≤ length t
  pair_some t l = omega (arith, ap length (pair_told t l).writes, length-append (decimal (first t)) (f.mark ∷ decimal (second t)))

  pub pair_free : (b : ℕ) → (IsInRange 48 57 b → ⊥) → (f.mark ≢ b) → (t : Text) → lawful t ≡ true → Free b t
  pair_free b digit other t l =
      let k = pair_told t l in
      let m = decimal_free b (first t) (omega arith) digit in
      let n = decimal_free b (second t) (omega arith) digit in
      subst (Free b) (sym k.writes) (All-append (λ c. c ≢ b) (decimal (first t)) (f.mark ∷ decimal (second t)) m (other, n))

  -- d and e digits suffice, and a text has as many
  pub pair_longest : (d e : ℕ) → 0 < d → 0 < e → f.high < 10 ^ d → f.most < 10 ^ e → (long : Text) → lawful long ≡ true → length long ≡ d + 1 + e → Longest lawful (d + 1 + e)
  pair_longest d e p q h k long l n = record {
    within = λ t w.
        let x = pair_told t w in
        let y = pair_length d e f.mark (first t) (second t) p q (omega arith) (omega arith) (omega arith) (omega arith) in
        omega (arith, y, ap length x.writes);
    least = λ m bound. omega (arith, bound long l);
  }

  -- by the first number, then by the second
  abbrev pub order : Text → Text → Ordering
  order s t = ordering_then (nat_cmp (first s) (first t)) (nat_cmp (second s) (second t))

  pub pair_ranks : (a b c d : ℕ) → Range a b → Range c d → order (text a b) (text c d) ≡ ordering_then (nat_cmp a c) (nat_cmp b d)
  pair_ranks a b c d r s i =
      let m = pair_numbers a b r in let n = pair_numbers c d s in ordering_then (nat_cmp (m.0 i) (n.0 i)) (nat_cmp (m.1 i) (n.1 i))

  pub pair_total : Total (λ t. lawful t ≡ true) order
  pair_total =
      parts_total (numbers_total (λ _. Unit {0})) (numbers_total (λ _. Unit {0})) (λ t. lawful t ≡ true) first second (λ t l. tt) (λ t l. tt)
      (λ s t l m e d. (pair_told s l).writes ∙ ap₂ text e d ∙ sym (pair_told t m).writes)

  -- a text with its first piece split off
  module _ (t p rest : Text) (e : split f.mark t ≡ p ∷ split f.mark rest) where
    pub no_second : number f.least f.most rest ≡ None → lawful t ≡ false
    no_second h =
        let none = and_right (numeral f.low f.high p) (numeral f.least f.most rest) (number_none f.least f.most rest h) in
        ap (two false both) e ∙ two_rest false both f.mark p rest (λ _. none) ∙ none

    pub pair_read : (a b : ℕ) → number f.low f.high p ≡ Some a → number f.least f.most rest ≡ Some b → Range a b × (text a b ≡ t)
    pair_read a b h k =
        let x = number_from f.low f.high f.high_fits p a h in
        let y = number_from f.least f.most f.most_fits rest b k in
        let whole : split f.mark rest ≡ decimal b ∷ [] = ap (split f.mark) y.0 ∙ split_whole f.mark (decimal b) (decimal_free f.mark b (omega arith) f.no_digit) in (
          omega arith,
          sym (sym (join_split f.mark t) ∙ ap (join f.mark) e ∙ ap₂ (λ q qs. join f.mark (q ∷ qs)) x.0 whole),
        )

-- branch numbers keep the laws of an identifier, stock rows those of a content
pub branches_kind : Identifiers lawful_branch branch_order 9
branches_kind = record {
  some = pair_some branch_form;
  long = pair_longest branch_form 3 5 (omega arith) (omega arith) (omega arith) (omega arith) (codes "999.65535") refl refl;
  short = omega arith;
  plain = λ t l. (
    pair_free branch_form 10 (λ d. omega arith) (λ e. omega arith) t l,
    pair_free branch_form 58 (λ d. omega arith) (λ e. omega arith) t l,
    pair_free branch_form 59 (λ d. omega arith) (λ e. omega arith) t l,
  );
  total = pair_total branch_form;
}

pub rows_kind : Contents lawful_row 10
rows_kind = record {
  long = pair_longest row_form 6 3 (omega arith) (omega arith) (omega arith) (omega arith) (codes "999999,999") refl refl;
  short = omega arith;
  plain = λ t l. (
    pair_free row_form 10 (λ d. omega arith) (λ e. omega arith) t l,
    pair_free row_form 59 (λ d. omega arith) (λ e. omega arith) t l,
  );
}

pub branch_own : (branch serial : ℕ) → 1 ≤ branch → branch ≤ 999 → 1 ≤ serial → serial ≤ 65535 → lawful_branch (pair_text 46 branch serial) ≡ true
branch_own branch serial low high least most = pair_lawful branch_form branch serial (omega arith)

pub row_own : (item copies : ℕ) → 1 ≤ item → item ≤ 999999 → copies ≤ 999 → lawful_row (pair_text 44 item copies) ≡ true
row_own item copies low high most = pair_lawful row_form item copies (omega arith)

-- a text is lawful just where two numbers write it
pub branch_decides : (t : Text) → Decides (lawful_branch t) (IsBranchNumber t)
branch_decides t = (
  λ l. let k = pair_told branch_form t l in record { branch = number_at 46 0 t; serial = number_at 46 1 t; range = omega arith; text = k.writes },
  λ n. let r = n.range in ap lawful_branch n.text ∙ pair_lawful branch_form n.branch n.serial (omega arith),
)

pub row_decides : (t : Text) → Decides (lawful_row t) (IsStockRow t)
row_decides t = (
  λ l. let k = pair_told row_form t l in record { item = number_at 44 0 t; copies = number_at 44 1 t; range = omega arith; text = k.writes },
  λ n. let r = n.range in ap lawful_row n.text ∙ pair_lawful row_form n.item n.copies (omega arith),
)

-- branch numbers stand as their texts do
pub branches_ordered : (x y : BranchNumber) → ordering_then (nat_cmp x.branch y.branch) (nat_cmp x.serial y.serial) ≡ branch_order (pair_text 46 x.branch x.serial) (pair_text 46 y.branch y.serial)
branches_ordered x y = sym (pair_ranks branch_form x.branch x.serial y.branch y.serial (omega arith) (omega arith))
