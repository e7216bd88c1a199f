-- What an answer says, read back: it is told by its number and its count.
--
-- Main results: `done-in`, `refused-in`; `answer-once`.
use mathlib.Core.Path.{◌≡◌, refl, ap}
use Prim.Native.Nat.{ℕ}
use native.Mathlib.Omega.{arith}
use Rattle.std.specs.Prelude.{Result, Ok, Err}
use Rattle.layout.specs.declared.refusal.Refusal.{Refusal}
use Rattle.layout.specs.Refusals.{refusal_number}
use Rattle.layout.proofs.Refusals.{refusal-once, number-some}
use Rattle.collector.specs.declared.Refused.{Refused}
use Rattle.collector.specs.Given.{number_in, count_in}

-- 0 is DONE.
pub done-in : (answer : Result ℕ Refused) → number_in answer ≡ 0 → answer ≡ Ok (count_in answer)
done-in (Ok c) e = refl
done-in (Err r) e = absurd (omega (arith, number-some r.refusal))

-- Any other number is a refusal's.
pub refused-in : (answer : Result ℕ Refused) → (number_in answer ≡ 0 → ⊥)
    → (s : Refusal) × (answer ≡ Err (record { refusal = s; count = count_in answer })) × (refusal_number s ≡ number_in answer)
refused-in (Ok c) e = absurd (e refl)
refused-in (Err r) e = (r.refusal, refl, refl)

pub answer-once : (a b : Result ℕ Refused) → number_in a ≡ number_in b → count_in a ≡ count_in b → a ≡ b
answer-once (Ok c) (Ok d) e f = ap Ok f
answer-once (Ok c) (Err s) e f = absurd (omega (arith, number-some s.refusal))
answer-once (Err r) (Ok d) e f = absurd (omega (arith, number-some r.refusal))
answer-once (Err r) (Err s) e f = same (refusal-once r.refusal s.refusal e) f
  where
    same : {p q : Refusal} {c d : ℕ} → p ≡ q → c ≡ d
        → ◌≡◌ {A = Result ℕ Refused} (Err (record { refusal = p; count = c })) (Err (record { refusal = q; count = d }))
    same g h = cc
