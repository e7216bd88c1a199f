-- What the number of a verdict tells.
--
-- Main results: `zero-passes`, `eleven-differs`: a refusal has 1 to 6, 9 or 10, so the number 0 is PASS, and 11 is DIFFERS.
use mathlib.Core.Path.{◌≡◌, refl}
use mathlib.Core.List.{List}
use Prim.Native.Nat.{ℕ}
use native.Mathlib.Omega.{arith}
use Rattle.consistency.specs.declared.Overlap.{Overlap as Named}
use Rattle.consistency.specs.declared.Verdict.{Verdict}
use Rattle.consistency.specs.declared.Verdict.TheVariants.{Pass, Differs, Refused, Stopped}
use Rattle.consistency.specs.Check.{check_of}
use Rattle.consistency.proofs.Refusals.{Numbered, verdict-numbered}
use Rattle.yavarosht.specs.Verdict.{verdict_number}

-- A verdict that is DIFFERS.
pub record Differing (v : Verdict) : Type 0 where
  pub overlap : Named
  pub is : v ≡ Differs overlap

numbered-zero : (v : Verdict) → Numbered v → verdict_number v ≡ 0 → v ≡ Pass
numbered-zero Pass a e = refl
numbered-zero (Differs o) a e = absurd (omega arith)
numbered-zero (Refused k) a e = absurd (omega (arith, a.0))
numbered-zero (Stopped k o) a e = absurd (omega (arith, a.low))

numbered-eleven : (v : Verdict) → Numbered v → verdict_number v ≡ 11 → Differing v
numbered-eleven Pass a e = absurd (omega arith)
numbered-eleven (Differs o) a e = record { overlap = o; is = refl }
numbered-eleven (Refused k) a e = absurd (omega (arith, a.1))
numbered-eleven (Stopped k o) a e = absurd (omega (arith, a.high))

module _ (nums : List ℕ) (budget room : ℕ) where
  pub zero-passes : verdict_number (check_of nums budget room).verdict ≡ 0 → (check_of nums budget room).verdict ≡ Pass
  zero-passes = numbered-zero (check_of nums budget room).verdict (verdict-numbered nums budget room)

  pub eleven-differs : verdict_number (check_of nums budget room).verdict ≡ 11 → Differing (check_of nums budget room).verdict
  eleven-differs = numbered-eleven (check_of nums budget room).verdict (verdict-numbered nums budget room)
