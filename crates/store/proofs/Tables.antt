-- What a table of rows says of two ranks, and the calls that change it.
use Rattle.std.proofs.Common.{◌≡◌, ℕ, ◌+◌, ◌<◌, ◌≤◌, Bool, false, ◌&&◌, ◌||◌, ltb, List, length, get_or, set, replicate, sym, ap, ◌∙◌, inl, inr, arith}
use Rattle.std.proofs.lemmas.List.{get_or-set_same, get_or-set_other, get_or-replicate, length-set}
use Rattle.std.proofs.lemmas.Bool.{cases_eq}
use Rattle.std.proofs.lemmas.Bool.Decides.{nat_tests}
use Rattle.std.proofs.lemmas.Grind.{common_steps}
use Rattle.store.specs.declared.row.Row.{Row}
use Rattle.store.specs.declared.rows.Rows.{Rows}
use Rattle.store.specs.Bits.{bit, no_row, spot}

-- what a table says, by its rows
abbrev in_rows : List Row → ℕ → ℕ → Bool
in_rows rows i j = ltb i 256 && bit (get_or rows i no_row) j

pub all_empty : (r : Row) → ((k : ℕ) → bit r k ≡ false) → (i j : ℕ) → in_rows (replicate 256 r) i j ≡ false
all_empty r h i j = let none = h j in let row = get_or-replicate 256 i r no_row in grind (arith, nat_tests)

-- A loop over the rows, in which a row that p picks gains the ranks of g: those before x have, and the rest are as they were.

module _ (old : List Row) (p g : ℕ → Bool) where
  pub record GainsUntil (x : ℕ) (rows : List Row) : Type 0 where
    pub long : length rows ≡ 256
    pub done : (i j : ℕ) → i < x → bit (get_or rows i no_row) j ≡ (bit (get_or old i no_row) j || (p i && g j))
    pub left : (i : ℕ) → x ≤ i → get_or rows i no_row ≡ get_or old i no_row

  pub gains_more : (x : ℕ) (rows : List Row) (new : Row) → x < 256 → GainsUntil x rows → ((j : ℕ) → bit new j ≡ (bit (get_or rows x no_row) j || (p x && g j))) → GainsUntil (x + 1) (set rows x new)
  gains_more x rows new low inv each = record {
    long = length-set rows x new ∙ inv.long;
    done = λ i j h. elim (cases_eq i x) [
      | inl e ↦
          ap (λ k. bit (get_or (set rows x new) k no_row) j) e ∙ ap (λ r. bit r j) (get_or-set_same rows x new no_row (omega arith)) ∙ each j ∙ ap (λ r. bit r j || (p x && g j)) (inv.left x (omega arith)) ∙ ap (λ k. bit (get_or old k no_row) j || (p k && g j)) (sym e)
      | inr n ↦ ap (λ r. bit r j) (get_or-set_other rows x i new no_row n) ∙ inv.done i j (omega arith)
    ];
    left = λ i h. let row = inv.left i in grind (arith, common_steps);
  }

  -- the row at x is as it was
  pub row_here : (x : ℕ) (rows : List Row) → x < 256 → GainsUntil x rows → (j : ℕ) → in_rows old x j ≡ bit (get_or rows x no_row) j
  row_here x rows low inv j = let here = inv.left x in grind (arith, nat_tests)

  pub gains_all : (x : ℕ) (rows : List Row) → 256 ≤ x → GainsUntil x rows → (i j : ℕ) → in_rows rows i j ≡ (in_rows old i j || ((ltb i 256 && p i) && g j))
  gains_all x rows end inv i j = let row = inv.done i j in grind (arith, nat_tests)

-- What a table says has the test of its bound in it already.

pub within_rows : (t : Rows) (i j : ℕ) → (ltb i 256 && spot t i j) ≡ spot t i j
within_rows t i j = grind (arith, nat_tests)
