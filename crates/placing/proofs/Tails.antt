-- Sums of a vector's tail, by index: what the loops over a vector keep.
--
-- Main results: `total-from`, `total-zeros`.
use mathlib.Core.Path.{◌≡◌, refl, sym, ap, ◌∙◌}
use mathlib.Core.List.{[], ◌∷◌}
use Prim.Native.Nat.{ℕ, zero, suc, ◌+◌, ◌≤◌, ◌<◌}
use native.Mathlib.Omega.{arith}
use native.Mathlib.Numerals.{add-one}
use lib.ListN.{length, get_or, drop}
use lib.Seq.{drop-cons}
use Rattle.theory.specs.Presentation.{Vector}
use Rattle.theory.specs.Placing.{total}

-- The entry at an index, and those after it.
pub total-from : (v : Vector) (at : ℕ) → at < length v → total (drop at v) ≡ get_or v at 0 + total (drop (at + 1) v)
total-from v at h = ap total (drop-cons v at 0 h) ∙ ap (λ (k : ℕ). get_or v at 0 + total (drop k v)) (sym (add-one at))

pub total-none : (v : Vector) (at : ℕ) → length v ≤ at → total (drop at v) ≡ 0
total-none [] zero h = refl
total-none [] (suc at) h = refl
total-none (a ∷ v) zero h = absurd (omega arith)
total-none (a ∷ v) (suc at) h = total-none v at (omega arith)

-- A part of the tail sums to no more than the tail.
pub total-part : (v : Vector) (k at : ℕ) → at + k ≤ length v → total (drop (at + k) v) ≤ total (drop at v)
total-part v zero at h =
    let z : at + 0 ≡ at = omega arith in
    let e : total (drop (at + 0) v) ≡ total (drop at v) = ap (λ (x : ℕ). total (drop x v)) z in
    omega arith
total-part v (suc k) at h =
    let z : at + suc k ≡ at + 1 + k = omega arith in
    let e : total (drop (at + suc k) v) ≡ total (drop (at + 1 + k) v) = ap (λ (x : ℕ). total (drop x v)) z in
    omega (arith, e, total-part v k (at + 1) (omega arith), total-from v at (omega arith))

-- Where it sums to no less, the first entry is 0, and the same holds after it.
pub total-zeros : (v : Vector) (k at : ℕ) → at + suc k ≤ length v → total (drop at v) ≡ total (drop (at + suc k) v)
    → (get_or v at 0 ≡ 0) × (total (drop (at + 1) v) ≡ total (drop (at + 1 + k) v))
total-zeros v k at h t =
    let z : at + suc k ≡ at + 1 + k = omega arith in
    let e : total (drop (at + suc k) v) ≡ total (drop (at + 1 + k) v) = ap (λ (x : ℕ). total (drop x v)) z in
    let f = total-from v at (omega arith) in
    let p = total-part v k (at + 1) (omega arith) in
    (omega (arith, e, f, p, t), omega (arith, e, f, p, t))
