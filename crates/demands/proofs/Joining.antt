-- What consistency gives the calls: demand 3, of a presentation whose overlaps all agree.
--
-- Main results: `joined-alike`, `products-associate`.
use mathlib.Core.Path.{◌≡◌, sym, ap, ◌∙◌}
use mathlib.Core.List.{List}
use Prim.Native.Nat.{ℕ}
use Rattle.theory.specs.Presentation.{Vector}
use Rattle.theory.specs.Placing.{product}
use Rattle.theory.specs.Joined.{Joined}
use Rattle.theory.specs.Overlaps.{Consistent}
use Rattle.theory.proofs.Consistency.{consistency}
use Rattle.theory.proofs.Group.{product-associative}
use Rattle.layout.specs.Header.{rank_of}
use Rattle.layout.specs.Relations.{presentation, letters}
use Rattle.layout.proofs.Valid.{valid}
use Rattle.collector.specs.Calls.{collect_call, product_call}
use Rattle.collector.proofs.Judging.{vector-normal}
use Rattle.demands.proofs.Demands.{collect-accepted, collect-vector, product-accepted, product-vector}

module _ (nums : List ℕ) (agree : Consistent (presentation nums)) where
  -- "words that the relations join collect to the same vector": in any two accepted calls, at any budgets and rooms, onto the same vector.
  pub joined-alike : (v : Vector) (u w : List ℕ) (budget budget' : ℕ) (ws ws' : List ℕ) → Joined (presentation nums) 1 (letters u) (letters w)
      → (collect_call nums v u budget ws).number ≡ 0 → (collect_call nums v w budget' ws').number ≡ 0
      → (collect_call nums v u budget ws).vector ≡ (collect_call nums v w budget' ws').vector
  joined-alike v u w budget budget' ws ws' j d e =
      let a = (collect-accepted nums v u budget ws d).first in
      collect-vector nums v u budget ws d
      ∙ consistency (presentation nums) (valid nums a.accepts) agree v (letters u) (letters w) (vector-normal nums v a.vector-right) j
      ∙ sym (collect-vector nums v w budget' ws' e)

  -- "so products are associative": (a b) c and a (b c) in any accepted calls, where s is the vector that a b leaves and t the one of b c.
  pub products-associate : (a b c s t : Vector) (k₁ k₂ k₃ k₄ : ℕ) (w₁ w₂ w₃ w₄ : List ℕ)
      → (product_call nums a b k₁ w₁).number ≡ 0 → s ≡ (product_call nums a b k₁ w₁).vector
      → (product_call nums b c k₂ w₂).number ≡ 0 → t ≡ (product_call nums b c k₂ w₂).vector
      → (product_call nums s c k₃ w₃).number ≡ 0 → (product_call nums a t k₄ w₄).number ≡ 0
      → (product_call nums s c k₃ w₃).vector ≡ (product_call nums a t k₄ w₄).vector
  products-associate a b c s t k₁ k₂ k₃ k₄ w₁ w₂ w₃ w₄ ab s-is bc t-is abc bca =
      let x = product-accepted nums a b k₁ w₁ ab in
      let y = product-accepted nums b c k₂ w₂ bc in
      let P = presentation nums in
      let n = rank_of nums in
      product-vector nums s c k₃ w₃ abc
      ∙ ap (λ (z : Vector). product P n 1 z c) (s-is ∙ product-vector nums a b k₁ w₁ ab)
      ∙ product-associative P (valid nums x.first.accepts) agree a b c
      (vector-normal nums a x.first.vector-right) (vector-normal nums b x.right-right) (vector-normal nums c y.right-right)
      ∙ ap (product P n 1 a) (sym (t-is ∙ product-vector nums b c k₂ w₂ bc))
      ∙ sym (product-vector nums a t k₄ w₄ bca)
