-- The table of the numbers given back, read both ways.
--
-- Main results: `refusal-once`, `given-once`: a number stands for one refusal, and an answer without a value is told by its number;
-- `number-of-refusal`: each number from 1 to 10 is a refusal's; `number-some`, `number-most`: and no refusal has another.
use mathlib.Core.Path.{◌≡◌, refl, sym, ap, ◌∙◌}
use Prim.Native.Nat.{ℕ, zero, suc, ◌≤◌}
use native.Mathlib.Omega.{arith}
use borrow.Author.Tests.{eqb-true}
use lib.Dec.{eqb}
use Rattle.std.specs.Prelude.{Result, Ok, Err}
use Rattle.layout.specs.declared.refusal.Refusal.{Refusal}
use Rattle.layout.specs.declared.refusal.Refusal.TheVariants.{Short, Prime, Rank, Contents, Length, Body, Vector, Word, Budget, Room}
use Rattle.layout.specs.Refusals.{refusal_number, refusal_of, given}
use Rattle.layout.proofs.Every.{at}

pub refusal-of-number : (r : Refusal) → refusal_of (refusal_number r) ≡ r
refusal-of-number Short = refl
refusal-of-number Prime = refl
refusal-of-number Rank = refl
refusal-of-number Contents = refl
refusal-of-number Length = refl
refusal-of-number Body = refl
refusal-of-number Vector = refl
refusal-of-number Word = refl
refusal-of-number Budget = refl
refusal-of-number Room = refl

pub refusal-once : (r s : Refusal) → refusal_number r ≡ refusal_number s → r ≡ s
refusal-once r s e = sym (refusal-of-number r) ∙ ap refusal_of e ∙ refusal-of-number s

pub number-some : (r : Refusal) → 1 ≤ refusal_number r
number-some Short = omega arith
number-some Prime = omega arith
number-some Rank = omega arith
number-some Contents = omega arith
number-some Length = omega arith
number-some Body = omega arith
number-some Vector = omega arith
number-some Word = omega arith
number-some Budget = omega arith
number-some Room = omega arith

pub number-most : (r : Refusal) → refusal_number r ≤ 10
number-most Short = omega arith
number-most Prime = omega arith
number-most Rank = omega arith
number-most Contents = omega arith
number-most Length = omega arith
number-most Body = omega arith
number-most Vector = omega arith
number-most Word = omega arith
number-most Budget = omega arith
number-most Room = omega arith

pub number-of-refusal : (k : ℕ) → 1 ≤ k → k ≤ 10 → refusal_number (refusal_of k) ≡ k
number-of-refusal zero l m = absurd (omega arith)
number-of-refusal (suc k) l m = eqb-true _ _ (at (λ k. eqb (refusal_number (refusal_of (suc k))) (suc k)) 10 k refl (omega arith))

-- A refusal's number is not 0, DONE.
pub given-done : {T : Type 0} (r : Result T Refusal) → given r ≡ 0 → (x : T) × (r ≡ Ok x)
given-done (Ok x) e = (x, refl)
given-done (Err s) e = absurd (omega (arith, number-some s))

pub given-refused : {T : Type 0} (r : Result T Refusal) → (given r ≡ 0 → ⊥) → (s : Refusal) × (r ≡ Err s) × (refusal_number s ≡ given r)
given-refused (Ok x) e = absurd (e refl)
given-refused (Err s) e = (s, refl, refl)

pub given-once : (r s : Result (Unit {0}) Refusal) → given r ≡ given s → r ≡ s
given-once (Ok x) (Ok y) e = refl
given-once (Ok x) (Err s) e = absurd (omega (arith, number-some s))
given-once (Err r) (Ok y) e = absurd (omega (arith, number-some r))
given-once (Err r) (Err s) e = ap Err (refusal-once r s e)
