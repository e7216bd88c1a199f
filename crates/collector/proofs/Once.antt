-- A call's promise allows one answer, and leaves one vector and one workspace.
--
-- Main results: `leaves-once`, `fathoms-once`.
use mathlib.Core.Path.{◌≡◌, sym, ap, ◌∙◌}
use mathlib.Core.List.{List}
use Prim.Native.Nat.{ℕ}
use native.Mathlib.Omega.{arith}
use Rattle.std.specs.Prelude.{Result, Ok, Err}
use Rattle.layout.specs.declared.refusal.Refusal.{Refusal}
use Rattle.layout.specs.Refusals.{given}
use Rattle.layout.proofs.Refusals.{refusal-once, number-some}
use Rattle.collector.specs.declared.Refused.{Refused}
use Rattle.collector.specs.Calls.{Left, Leaves, DepthAnswer, Fathoms, depth_in}
use Rattle.collector.proofs.Answered.{answer-once}

pub leaves-once : {left : Left} {a b : Result ℕ Refused} {v w s t : List ℕ} → Leaves left a v s → Leaves left b w t → (a ≡ b) × (v ≡ w) × (s ≡ t)
leaves-once {left} {a} {b} x y = (
  answer-once a b (x.number ∙ sym y.number) (x.count ∙ sym y.count),
  x.vector_is ∙ sym y.vector_is,
  x.work_is ∙ sym y.work_is,
)

depth-once : (r s : Result ℕ Refusal) → given r ≡ given s → depth_in r ≡ depth_in s → r ≡ s
depth-once (Ok d) (Ok e) p q = ap Ok q
depth-once (Ok d) (Err s) p q = absurd (omega (arith, number-some s))
depth-once (Err r) (Ok e) p q = absurd (omega (arith, number-some r))
depth-once (Err r) (Err s) p q = ap Err (refusal-once r s p)

pub fathoms-once : {told : DepthAnswer} {r s : Result ℕ Refusal} → Fathoms told r → Fathoms told s → r ≡ s
fathoms-once {told} {r} {s} x y = depth-once r s (x.number ∙ sym y.number) (x.depth ∙ sym y.depth)
