use Rattle.std.proofs.Common.{◌≡◌, ℕ, ◌+◌, Bool, true, false, ◌||◌, eqb, get_or, sym, subst, arith}
use Rattle.std.proofs.lemmas.Bool.Decides.{nat_tests}
use Rattle.store.specs.Bits.{bit, no_row, spot}
use Rattle.store.proofs.Tables.{GainsUntil, gains_more, gains_all, row_here}
use Rattle.store.proofs.rows.Rows.join.Goals as goal
use Rattle.store.proofs.rows.Rows.join.Goals.{then-rank-from, then-rank-from-via-then-rank-from, then-rank-from-via-else-rank-from+then-has, else-rank-from+else-has}

pub loop-rank-preserved : goal.loop-rank-preserved
loop-rank-preserved c =
    let old = c.args.self.now.rows in
    let m = spot c.args.self.now in
    let from = c.args.from in
    let p : ℕ → Bool = λ i. eqb i from || m i from in
    let g = bit c.add.new.self in
    let x = c.loop-rank.rank in
    let rows = c.loop-rank.row-items in
    let inv = c.loop-rank.invariant in
    let row = get_or rows x no_row in
    let before : m x from ≡ bit row from = row_here old p g x rows c.loop-rank-test.true inv from in
    elim c.if-rank-from.branch [
      | then-rank-from w ↦
          let picked : p x ≡ true = elim w.then-rank-from.branch [
            | then-rank-from-via-then-rank-from v ↦ grind (arith, nat_tests, v.if-rank-from.true)
            | then-rank-from-via-else-rank-from+then-has v ↦ grind (arith, nat_tests, v.has.ensures, v.if-has.true)
          ] in
          subst (GainsUntil old p g (x + 1)) (sym w.row-items-is) (gains_more old p g x rows w.join.new.self c.loop-rank-test.true inv (λ j. grind (arith, nat_tests, w.join.ensures j, picked)))
      | else-rank-from+else-has w ↦
          let passed : p x ≡ false = grind (arith, nat_tests, w.if-rank-from.false, w.has.ensures, w.if-has.false) in
          subst (GainsUntil old p g (x + 1)) (sym w.row-items-is) (gains_more old p g x rows _ c.loop-rank-test.true inv (λ j. grind (arith, nat_tests, passed)))
    ]

pub returns : goal.returns
returns c i j =
    let old = c.args.self.now in
    let from = c.args.from in
    let rows = gains_all old.rows (λ i. eqb i from || spot old i from) (bit c.add.new.self) c.loop-rank.rank c.loop-rank.row-items (omega arith) c.loop-rank.invariant i j in
    simp (← c.row-gained.ensures j, ← c.add.ensures j) rows
