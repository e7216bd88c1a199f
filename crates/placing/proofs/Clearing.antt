-- Setting the entries of a vector to 0 from the last down: what step 2 keeps of the vector.
--
-- Main results: `cleared-entry`, `cleared-next`, `cleared-zeros`.
use mathlib.Core.Path.{◌≡◌, sym, ap, ◌∙◌}
use mathlib.Core.List.{[], ◌∷◌, ◌++◌, append_assoc, append-nil}
use Prim.Native.Nat.{ℕ, zero, suc, ◌+◌, ◌-◌, ◌≤◌}
use native.Mathlib.Omega.{arith}
use lib.ListN.{length, get_or, set, take, drop, length-append, length-replicate}
use lib.Seq.{take-suc, take_all, take_at, length-take-le, set_at, get_or_at}
use Rattle.theory.specs.Presentation.{Vector, identity}
use Rattle.theory.specs.Placing.{total}
use Rattle.placing.specs.Exchange.{cleared}
use Rattle.placing.proofs.Tails.{total-zeros}

pub cleared-length : (v : Vector) (i : ℕ) → i ≤ length v → length (cleared i v) ≡ length v
cleared-length v i h =
    let a = length-append (take i v) (identity (length v - i)) in
    let b = length-take-le i v h in
    let c : length (identity (length v - i)) ≡ length v - i = length-replicate (length v - i) 0 in
    omega (arith, a, b, c)

-- What is cleared above i is so for good.
pub cleared-twice : (v : Vector) (i : ℕ) → i ≤ length v → cleared i v ≡ cleared i (cleared i v)
cleared-twice v i h =
    sym
    (ap (λ (x : Vector). x ++ identity (length (cleared i v) - i)) (take_at (take i v) (identity (length v - i)) i (length-take-le i v h))
    ∙ ap (λ (x : ℕ). take i v ++ identity (x - i)) (cleared-length v i h))

-- Nothing stands above the last entry.
pub cleared-none : (v : Vector) (i : ℕ) → length v ≤ i → v ≡ cleared i v
cleared-none v i h =
    let z : length v - i ≡ 0 = omega arith in
    sym (ap (λ (x : ℕ). take i v ++ identity x) z ∙ append-nil (take i v) ∙ take_all i v h)

module _ (v : Vector) (i : ℕ) (low : 1 ≤ i) (high : i ≤ length v) where
  abbrev pub front : Vector
  front = take (i - 1) v

  abbrev pub entry : ℕ
  entry = get_or v (i - 1) 0

  pub front_length : length front ≡ i - 1
  front_length = length-take-le (i - 1) v (omega arith)

  pub cleared-split : cleared i v ≡ front ++ (entry ∷ identity (length v - i))
  cleared-split =
      let e : i ≡ suc (i - 1) = omega arith in
      ap (λ (l : Vector). l ++ identity (length v - i)) (ap (λ (x : ℕ). take x v) e ∙ take-suc v (i - 1) 0 (omega arith))
      ∙ append_assoc front (entry ∷ []) (identity (length v - i))

  pub cleared-entry : get_or (cleared i v) (i - 1) 0 ≡ entry
  cleared-entry = ap (λ (l : Vector). get_or l (i - 1) 0) cleared-split ∙ get_or_at front entry (identity (length v - i)) 0 (i - 1) front_length

  pub cleared-front : take (i - 1) (cleared i v) ≡ front
  cleared-front = ap (take (i - 1)) cleared-split ∙ take_at front (entry ∷ identity (length v - i)) (i - 1) front_length

  pub cleared-set : (x : ℕ) → set (cleared i v) (i - 1) x ≡ front ++ (x ∷ identity (length v - i))
  cleared-set x = ap (λ (l : Vector). set l (i - 1) x) cleared-split ∙ set_at front entry (identity (length v - i)) x (i - 1) front_length

  -- One entry more.
  one_more : front ++ (0 ∷ identity (length v - i)) ≡ cleared (i - 1) v
  one_more =
      let e : suc (length v - i) ≡ length v - (i - 1) = omega arith in
      ap (λ (x : ℕ). front ++ identity x) e

  pub cleared-next : set (cleared i v) (i - 1) 0 ≡ cleared (i - 1) v
  cleared-next = cleared-set 0 ∙ one_more

  pub cleared-zero : entry ≡ 0 → cleared i v ≡ cleared (i - 1) v
  cleared-zero z = cleared-split ∙ ap (λ (x : ℕ). front ++ (x ∷ identity (length v - i))) z ∙ one_more

-- Where the entries from i on sum to no more than those from i + k on, the k between are 0.
pub cleared-zeros : (v : Vector) (k i : ℕ) → i + k ≤ length v → total (drop i v) ≡ total (drop (i + k) v) → cleared (i + k) v ≡ cleared i v
cleared-zeros v zero i h t = let z : i + 0 ≡ i = omega arith in ap (λ (x : ℕ). cleared x v) z
cleared-zeros v (suc k) i h t =
    let z : i + suc k ≡ i + 1 + k = omega arith in
    let s : i + 1 - 1 ≡ i = omega arith in
    let r = total-zeros v k i h t in
    ap (λ (x : ℕ). cleared x v) z
    ∙ cleared-zeros v k (i + 1) (omega arith) r.1
    ∙ cleared-zero v (i + 1) (omega arith) (omega arith) (ap (λ (x : ℕ). get_or v x 0) s ∙ r.0)
    ∙ ap (λ (x : ℕ). cleared x v) s
