-- Fetching a relation's word: which pairs name one, and what comes back.
--
-- Main results: `named`, `by-pair`, `fetched-word`.
use mathlib.Core.Path.{◌≡◌, sym, ap}
use mathlib.Core.List.{List, []}
use mathlib.Core.Bool.{Bool, true, false, ◌&&◌}
use Prim.Native.Nat.{ℕ, ◌≤◌}
use borrow.Author.Tests.{leb-true, eq-eqb}
use lib.Dec.{leb}
use Rattle.layout.specs.Header.{rank_of}
use Rattle.layout.specs.Contents.{place_of, body_at, stretch_of}
use Rattle.layout.specs.Judged.{judged}
use Rattle.layout.specs.Words.{names_relation, fetched, word_of, word_at}
use Rattle.layout.proofs.Accepted.{and_left, and_right}

pub named : (n i j : ℕ) → names_relation n i j ≡ true → (1 ≤ i) × (i ≤ j) × (j ≤ n)
named n i j h =
    let t : leb i j && leb j n ≡ true = and_right (leb 1 i) _ h in
    (leb-true 1 i (and_left _ (leb i j && leb j n) h), leb-true i j (and_left _ (leb j n) t), leb-true j n (and_right (leb i j) _ t))

module _ (nums : List ℕ) (i j : ℕ) where
  -- For accepted numbers the pair alone decides.
  pub by-pair : judged nums ≡ 0 → fetched nums i j ≡ names_relation (rank_of nums) i j
  by-pair h = ap (λ (b : Bool). elim b as (λ x. Bool) [ true ↦ names_relation (rank_of nums) i j | false ↦ false ]) (eq-eqb (judged nums) 0 h)

  -- What the fetched stretch holds, and what it lies at.
  pub fetched-word : fetched nums i j ≡ true
      → (stretch_of nums i j ≡ word_of nums i j) × (body_at nums (place_of (rank_of nums) i j) ≡ word_at nums i j)
  fetched-word h = (
    sym (ap (λ (b : Bool). elim b as (λ x. List ℕ) [ true ↦ stretch_of nums i j | false ↦ [] ]) h),
    sym (ap (λ (b : Bool). elim b as (λ x. ℕ) [ true ↦ body_at nums (place_of (rank_of nums) i j) | false ↦ 0 ]) h),
  )
