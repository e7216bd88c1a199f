-- The rule on the number of bytes, as a reader of document 01 would quote it: "An odd number of bytes, or over 45,924, prints
-- `refused 5`", whatever the bytes are.
--
-- Main laws: `odd_refused`, `long-refused`.
use mathlib.Core.Path.{◌≡◌, refl, ap, ◌∙◌}
use mathlib.Core.List.{List}
use mathlib.Core.Bool.{Bool, true, false, ◌&&◌}
use Prim.Native.Nat.{ℕ, ◌%◌, ◌<◌}
use native.Mathlib.Omega.{arith}
use borrow.Author.Tests.{lt-leb}
use lib.ListN.{length}
use lib.Dec.{eqb}
use Rattle.text.specs.Ascii.{ascii}
use Rattle.text.specs.Decimal.{decimal}
use Rattle.line.specs.Line.{refused_line}
use Rattle.answer.specs.File.{program_line}
use Rattle.answer.proofs.Answers.{odd-bytes, answered-no}

-- The line itself.
says : refused_line 5 ≡ ascii "refused 5\n"
unfolding decimal
says = refl

pub odd_refused : (bytes : List ℕ) → length bytes % 2 ≡ 1 → program_line bytes ≡ ascii "refused 5\n"
odd_refused bytes h = answered-no bytes 1000000 8192 (odd-bytes bytes (λ e. omega arith)) ∙ says

pub long-refused : (bytes : List ℕ) → 45924 < length bytes → program_line bytes ≡ ascii "refused 5\n"
long-refused bytes h =
    answered-no bytes 1000000 8192
    (ap (λ (b : Bool). eqb (length bytes % 2) 0 && b) (lt-leb (length bytes) 45924 h) ∙ neither (eqb (length bytes % 2) 0))
    ∙ says
  where
    neither : (b : Bool) → b && false ≡ false
    neither true = refl
    neither false = refl
