-- Demand 3 as a user would quote it.
--
-- Main results:
--   `passed-joined-alike`        if the check passes, words that the relations join collect to the same vector,
--   `passed-products-associate`  so products are associative
--   `differs-apart`              if it reports a difference, the two vectors are different, normal, and joined
--   `check-one`                  any two outcomes of the check coincide
use mathlib.Core.Path.{◌≡◌, sym, ◌∙◌}
use mathlib.Core.List.{List}
use Prim.Native.Nat.{ℕ}
use contract.Lifetimes.{Lfts}
use borrow.Fn.World as World
use denote.Triple.Clauses as Clauses
use borrow.Fn.Kinds as Kinds
use Rattle.theory.specs.Presentation.{Vector}
use Rattle.theory.specs.Joined.{Joined}
use Rattle.layout.specs.Relations.{presentation, letters}
use Rattle.collector.specs.Calls.{collect_call, product_call}
use Rattle.consistency.specs.declared.Overlap.{Overlap}
use Rattle.consistency.specs.declared.Verdict.TheVariants.{Pass, Differs}
use Rattle.consistency.specs.Check.{check_of}
use Rattle.consistency.proofs.Checking.{Apart, passed, differs-joined}
use Rattle.consistency.specs.contracts.check as check
use Rattle.consistency.proofs.check.Kinds as check-kinds
use Rattle.consistency.proofs.check.Reads as check-reads
use Rattle.demands.proofs.Joining.{joined-alike, products-associate}

module _ (nums : List ℕ) (budget room : ℕ) where
  pub passed-joined-alike : (check_of nums budget room).verdict ≡ Pass
      → (v : Vector) (u w : List ℕ) (k₁ k₂ : ℕ) (w₁ w₂ : List ℕ) → Joined (presentation nums) 1 (letters u) (letters w)
      → (collect_call nums v u k₁ w₁).number ≡ 0 → (collect_call nums v w k₂ w₂).number ≡ 0
      → (collect_call nums v u k₁ w₁).vector ≡ (collect_call nums v w k₂ w₂).vector
  passed-joined-alike pass = joined-alike nums (passed nums budget room pass)

  pub passed-products-associate : (check_of nums budget room).verdict ≡ Pass
      → (a b c s t : Vector) (k₁ k₂ k₃ k₄ : ℕ) (w₁ w₂ w₃ w₄ : List ℕ)
      → (product_call nums a b k₁ w₁).number ≡ 0 → s ≡ (product_call nums a b k₁ w₁).vector
      → (product_call nums b c k₂ w₂).number ≡ 0 → t ≡ (product_call nums b c k₂ w₂).vector
      → (product_call nums s c k₃ w₃).number ≡ 0 → (product_call nums a t k₄ w₄).number ≡ 0
      → (product_call nums s c k₃ w₃).vector ≡ (product_call nums a t k₄ w₄).vector
  passed-products-associate pass = products-associate nums (passed nums budget room pass)

  pub differs-apart : (o : Overlap) → (check_of nums budget room).verdict ≡ Differs o → Apart nums budget room o
  differs-apart = differs-joined nums budget room

pub check-one : (κs : Lfts 2) (a : World.ArgsD check.signature κs) (r s : World.ResD check.signature κs)
    (x y : Clauses.AtExit (Kinds.ended_of 2 check-kinds.ps check-kinds.r) κs)
    → check-reads.Post κs a r x → check-reads.Post κs a s y → (r ≡ s) × (x.1.1.0.now ≡ y.1.1.0.now)
check-one κs a r s x y p q = (p.0 ∙ sym q.0, p.1 ∙ sym q.1)
