use Rattle.std.proofs.Common.{◌≡◌, ℕ, ◌<◌, ◌≤◌, length, get_or, rules, arith, Some}
use borrow.Author.Tests.{tests}
use Rattle.std.proofs.lemmas.Iterator.{IsFirst-from_position, YieldsList-from_slice}
use Rattle.store.proofs.Words.{least_here, none_before}
use Rattle.store.proofs.row.Row.least.Goals as goal

pub returns : goal.returns
returns c =
    let ws = c.args.self.now.words in
    let at = c.in_ok-at.at in
    let first : (at < length ws) × ((d : ℕ) → get_or ws at d ≡ 0 → ⊥) × ((k d : ℕ) → 0 ≤ k → k < at → get_or ws k d ≡ 0) = IsFirst-from_position _ _ (Some at) (λ x. x ≡ 0 → ⊥) (λ x. x ≡ 0) c.in_ok-at.ensures.ran (YieldsList-from_slice ws cc) (λ x q k. search (rules, tests)) (λ x q k. search (rules, tests)) in
    (least_here ws at (omega arith) (omega arith) (omega arith) (λ k l. first.2 k 0 (omega arith) l), none_before ws at (omega arith) (omega arith) (omega arith) (λ k l. first.2 k 0 (omega arith) l))
