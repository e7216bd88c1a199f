-- Step 3 of a placing as it changes the vector: raising and setting down, against the theory's placing.
--
-- Main results: `raised-lower`, `raised-whole`, `placed-cleared`.
use mathlib.Core.Path.{◌≡◌, sym, ap, ap₂, ◌∙◌}
use mathlib.Core.List.{List, [], ◌∷◌, ◌++◌, append_assoc}
use Prim.Native.Nat.{ℕ, suc, ◌+◌, ◌-◌, ◌≤◌}
use native.Mathlib.Omega.{arith}
use lib.ListN.{length, get_or, set, take, length-append}
use lib.Seq.{length-take-le}
use borrow.Author.Tests.{eq-eqb, ne_eqb}
use Rattle.theory.specs.Presentation.{Presentation, Vector, identity}
use Rattle.theory.specs.Placing.{Placed, raised, set_down, place}
use Rattle.theory.proofs.Arrays.{place_is}
use Rattle.layout.specs.Header.{prime_of, rank_of}
use Rattle.layout.specs.Contents.{stretch_of}
use Rattle.layout.specs.Judged.{judged}
use Rattle.layout.specs.Relations.{presentation, settled}
use Rattle.layout.proofs.Valid.{power-set-down}
use Rattle.placing.specs.Exchange.{cleared}
use Rattle.placing.proofs.Clearing.{cleared-length, cleared-front, cleared-entry, cleared-set}

module _ (v : Vector) (i : ℕ) (low : 1 ≤ i) (high : i ≤ length v) where
  abbrev front : Vector
  front = take (i - 1) v

  abbrev entry : ℕ
  entry = get_or v (i - 1) 0

  placed : (P : Presentation) → (place P 1 v i).vector ≡ front ++ (raised (P.exponent i) entry ∷ set_down P (length v - i) i entry)
  placed P =
      let e : suc (i - 1) ≡ i = omega arith in
      ap (λ (r : Placed). r.vector) (place_is P 1 v i (i - 1) (omega arith) (omega arith))
      ∙ ap (λ (x : ℕ). front ++ (raised (P.exponent i) entry ∷ set_down P (length v - x) i entry)) e

  -- The entries above i are 0.
  module _ (is : v ≡ cleared i v) where
    entry_set : (x : ℕ) → set v (i - 1) x ≡ front ++ (x ∷ identity (length v - i))
    entry_set x = ap (λ (l : Vector). set l (i - 1) x) is ∙ cleared-set v i low high x

    -- The exponent is not reached: entry i is one more.
    pub raised-lower : (P : Presentation) → (entry + 1 ≡ P.exponent i → ⊥) → set v (i - 1) (entry + 1) ≡ (place P 1 v i).vector
    raised-lower P h =
        let s : entry + 1 ≡ suc entry = omega arith in
        let t = ne_eqb (suc entry) (P.exponent i) (λ e. h (omega arith)) in
        let a : raised (P.exponent i) entry ≡ suc entry = rw (t, raised) in
        let b : set_down P (length v - i) i entry ≡ identity (length v - i) = rw (t, set_down) in
        entry_set (entry + 1)
        ∙ ap (λ (x : ℕ). front ++ (x ∷ identity (length v - i))) s
        ∙ sym (placed P ∙ ap₂ (λ (x : ℕ) (l : Vector). front ++ (x ∷ l)) a b)

    -- It is reached: entry i is 0, and w_i is set down.
    pub raised-whole : (nums : List ℕ) → judged nums ≡ 0 → length v ≡ rank_of nums → entry + 1 ≡ prime_of nums
        → settled (set v (i - 1) 0) (stretch_of nums i i) ≡ (place (presentation nums) 1 v i).vector
    raised-whole nums accepts n h =
        let P = presentation nums in
        let k = length v - i in
        let t = eq-eqb (suc entry) (prime_of nums) (omega arith) in
        let a : raised (prime_of nums) entry ≡ 0 = rw (t, raised) in
        let b : set_down P k i entry ≡ P.power i = rw (t, set_down) in
        let zero-there : Vector = front ++ (0 ∷ []) in
        let f = length-take-le (i - 1) v (omega arith) in
        let l : length zero-there ≡ i = length-append front (0 ∷ []) ∙ ap (λ (x : ℕ). x + 1) f ∙ (let q : i - 1 + 1 ≡ i = omega arith in q) in
        ap (λ (x : Vector). settled x (stretch_of nums i i)) (entry_set 0 ∙ sym (append_assoc front (0 ∷ []) (identity k)))
        ∙ power-set-down nums accepts i k zero-there low (omega arith) l
        ∙ append_assoc front (0 ∷ []) (P.power i)
        ∙ sym (placed P ∙ ap₂ (λ (x : ℕ) (y : Vector). front ++ (x ∷ y)) a b)

-- What stood above i does not matter to the vector after a placing.
pub placed-cleared : (P : Presentation) (v : Vector) (i : ℕ) → 1 ≤ i → i ≤ length v → (place P 1 (cleared i v) i).vector ≡ (place P 1 v i).vector
placed-cleared P v i low high =
    let l = cleared-length v i high in
    placed (cleared i v) i low (omega (arith, l)) P
    ∙ ap (λ (x : Vector).
    x ++ (raised (P.exponent i) (get_or (cleared i v) (i - 1) 0) ∷ set_down P (length (cleared i v) - i) i (get_or (cleared i v) (i - 1) 0)))
    (cleared-front v i low high)
    ∙ ap (λ (x : ℕ). take (i - 1) v ++ (raised (P.exponent i) x ∷ set_down P (length (cleared i v) - i) i x)) (cleared-entry v i low high)
    ∙ ap (λ (x : ℕ). take (i - 1) v ++ (raised (P.exponent i) (get_or v (i - 1) 0) ∷ set_down P (x - i) i (get_or v (i - 1) 0))) l
    ∙ sym (placed v i low high P)
