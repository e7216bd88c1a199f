-- The steps from a file's bytes to the line, as the code takes them.
--
-- Main laws: `answered-no`, `answered-yes`, `few_bytes`, `read-back`.
use mathlib.Core.Path.{◌≡◌, sym, ap}
use mathlib.Core.List.{List}
use mathlib.Core.Bool.{Bool, true, false, ◌&&◌}
use Prim.Native.Nat.{ℕ, ◌+◌, ◌/◌, ◌%◌, ◌≤◌}
use borrow.Author.Tests.{leb-true, ne_eqb}
use native.Mathlib.Omega.{arith}
use lib.ListN.{length, take, drop}
use lib.Seq.{sets, sets-eq, take_at}
use lib.Dec.{leb, eqb}
use Rattle.text.specs.Numbers.{numbers_of}
use Rattle.text.proofs.Unpacking.{numbers-length}
use Rattle.line.specs.Line.{refused_line}
use Rattle.answer.specs.File.{bytes_right, check_line, answer_of}

module _ (bytes : List ℕ) where
  -- The rule on the number of bytes.
  pub odd-bytes : (length bytes % 2 ≡ 0 → ⊥) → bytes_right bytes ≡ false
  odd-bytes h = ap (λ (b : Bool). b && leb (length bytes) 45924) (ne_eqb (length bytes % 2) 0 h)

  pub few_bytes : bytes_right bytes ≡ true → length bytes ≤ 45924
  few_bytes h = leb-true (length bytes) 45924 (go (eqb (length bytes % 2) 0) h)
    where
      go : (b : Bool) {a : Bool} → b && a ≡ true → a ≡ true
      go true e = e
      go false e = let z : ◌≡◌ {A = ℕ} 0 1 = cc in absurd (omega arith)

  -- What it decides.
  pub answered-no : (budget room : ℕ) → bytes_right bytes ≡ false → answer_of bytes budget room ≡ refused_line 5
  unfolding answer_of
  answered-no budget room h = ap (λ (b : Bool). elim b [ true ↦ check_line (numbers_of bytes) budget room | false ↦ refused_line 5 ]) h

  pub answered-yes : (budget room : ℕ) → bytes_right bytes ≡ true → answer_of bytes budget room ≡ check_line (numbers_of bytes) budget room
  unfolding answer_of
  answered-yes budget room h = ap (λ (b : Bool). elim b [ true ↦ check_line (numbers_of bytes) budget room | false ↦ refused_line 5 ]) h

-- Where there is room for all, the first `count` of what was stored are the bytes' numbers.
pub read-back : (bytes old : List ℕ) (count : ℕ)
    → length bytes / 2 ≤ count
    → count ≤ length bytes / 2
    → count ≤ length old
    → take count (sets old 0 (numbers_of bytes)) ≡ numbers_of bytes
read-back bytes old count low high room =
    let e : count ≡ length (numbers_of bytes) = omega (arith, numbers-length bytes) in
    let within : 0 + length (numbers_of bytes) ≤ length old = omega arith in
    rw (sets-eq (numbers_of bytes) old 0 within) (take_at (numbers_of bytes) (drop (0 + length (numbers_of bytes)) old) count (sym e))

-- For `line_for`.
pub ruleset decided = (answered-no, answered-yes, few_bytes, read-back)
