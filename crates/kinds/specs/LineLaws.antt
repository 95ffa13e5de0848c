-- Laws of the lawful text lines.
use Rattle.std.specs.Prelude.{ℕ, length, replicate, Decides, ◌≢◌, nat_le, refl}
use Rattle.std.proofs.Common.{arith}
use Rattle.std.proofs.lemmas.Bool.{le-leb, leb-true}
use Rattle.std.proofs.ByRecursion.{All-weaker, Decides-by_and}
use Rattle.std.proofs.lemmas.Bool.Decides.{nat_tests, Decides-and, Decides-like}
use Rattle.std.specs.List.{list_all}
use Rattle.graggle.specs.Texts.{Text}
use Rattle.graggle.specs.Kinds.{Contents}
use Rattle.kinds.specs.TextLines.{printable, lawful_line, Printable, IsTextLine}

printable_decides : (c : ℕ) → Decides (printable c) (Printable c)
printable_decides c = (
  λ h. record { least = grind (arith, nat_tests); most = grind (arith, nat_tests); other = grind (arith, nat_tests) },
  λ p. let least = p.least in let most = p.most in let other = p.other in grind (arith, nat_tests),
)

pub line_decides : (t : Text) → Decides (lawful_line t) (IsTextLine t)
line_decides t =
    Decides-like (lawful_line t) (λ p. record { short = p.0; bytes = p.1 }) (λ w. (w.short, w.bytes))
    (Decides-and (nat_le (length t) 60) (list_all printable t) (leb-true (length t) 60, le-leb (length t) 60) (Decides-by_and printable Printable (list_all printable) printable_decides refl (λ _ _. refl) t))

-- 60 spaces are a lawful line, so no bound is less than 60
pub lines_kind : Contents lawful_line 60
lines_kind = record {
  long = record { within = λ t h. ((line_decides t).0 h).short; least = λ m b. b (replicate 60 32) refl };
  short = omega arith;
  plain = λ t h.
      let bytes = ((line_decides t).0 h).bytes in (
        All-weaker Printable (λ c. c ≢ 10) (λ c p e. let l = p.least in omega arith) t bytes,
        All-weaker Printable (λ c. c ≢ 59) (λ c p. p.other) t bytes,
      );
}
