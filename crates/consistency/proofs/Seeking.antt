-- The search for the first overlap that settles the verdict: what the loops keep.
--
-- Main results: `from`, the overlaps from a generator on, with `from_all`, `from-above`, `from_step`, `from_end`, `open_row`,
-- `open-inner`, `open-item`, `row-over`; `pair-among`; `found-first`, `found-then`, `found-last`; `Seeking`, with
-- `seek-start`, `seek-as`, `seek-end`, `seek-found`, `seek-next`.
use mathlib.Core.Path.{◌≡◌, refl, sym, ap, ap₂, ◌∙◌, subst}
use mathlib.Core.List.{List, [], ◌∷◌, ◌++◌, append_assoc}
use Prim.Native.Nat.{ℕ, suc, ◌+◌, ◌-◌, ◌/◌, ◌≤◌, ◌<◌}
use native.Mathlib.Omega.{arith}
use mathlib.Core.Bool.{true, false}
use Rattle.std.specs.Prelude.{Result, Ok, Err, is_err}
use Rattle.theory.specs.Overlaps.{Overlap, Among, rising, each}
use Rattle.layout.specs.Header.{rank_of}
use Rattle.layout.specs.Relations.{presentation}
use Rattle.consistency.specs.declared.Checked.{Checked}
use Rattle.consistency.specs.declared.Family.{Family}
use Rattle.consistency.specs.declared.Family.TheVariants.{Upper, Lower}
use Rattle.consistency.specs.Check.{pair_of, Decision, decide, settles}
use Rattle.consistency.proofs.Deciding.{or_else, else-first, settles-none, decide-append}

-- The overlaps of the generators from a to n.
abbrev pub from : ℕ → ℕ → (ℕ → List Overlap) → List Overlap
from n a f = each (rising a (n + 1 - a)) f

module _ (n : ℕ) (f : ℕ → List Overlap) where
  pub from_all : each (rising 1 n) f ≡ from n 1 f
  from_all = let e : n ≡ n + 1 - 1 = omega arith in ap (λ (c : ℕ). each (rising 1 c) f) e

  -- Those above i, as the theory lists them.
  pub from-above : (i : ℕ) → each (rising (suc i) (n - i)) f ≡ from n (i + 1) f
  from-above i =
      let e : n - i ≡ n + 1 - (i + 1) = omega arith in
      let s : suc i ≡ i + 1 = omega arith in
      ap₂ (λ (a c : ℕ). each (rising a c) f) s e

  pub from_step : (a : ℕ) → a ≤ n → from n a f ≡ f a ++ from n (a + 1) f
  from_step a h =
      let e : n + 1 - a ≡ suc (n + 1 - (a + 1)) = omega arith in
      let s : suc a ≡ a + 1 = omega arith in
      ap (λ (c : ℕ). each (rising a c) f) e ∙ ap (λ (b : ℕ). f a ++ each (rising b (n + 1 - (a + 1))) f) s

  pub from_end : (a : ℕ) → n < a → from n a f ≡ []
  from_end a h = let e : n + 1 - a ≡ 0 = omega arith in ap (λ (c : ℕ). each (rising a c) f) e

-- The overlaps of one generator's row, and then those of the generators above it.
module _ (n : ℕ) where
  abbrev pub rows : (ℕ → ℕ → List Overlap) → ℕ → List Overlap
  rows g i = each (rising (suc i) (n - i)) (g i)

  pub open_row : (g : ℕ → ℕ → List Overlap) (a : ℕ) → a ≤ n → from n a (rows g) ≡ from n (a + 1) (g a) ++ from n (a + 1) (rows g)
  open_row g a h = from_step n (rows g) a h ∙ ap (λ (x : List Overlap). x ++ from n (a + 1) (rows g)) (from-above n (g a) a)

  pub open-inner : (g : ℕ → ℕ → List Overlap) (a : ℕ) (after : List Overlap) → a ≤ n
      → from n a (rows g) ++ after ≡ from n (a + 1) (g a) ++ (from n (a + 1) (rows g) ++ after)
  open-inner g a after h =
      ap (λ (x : List Overlap). x ++ after) (open_row g a h) ∙ append_assoc (from n (a + 1) (g a)) (from n (a + 1) (rows g)) after

  pub open-item : (h : ℕ → Overlap) (a : ℕ) (after : List Overlap) → a ≤ n
      → from n a (λ x. h x ∷ []) ++ after ≡ h a ∷ (from n (a + 1) (λ x. h x ∷ []) ++ after)
  open-item h a after m = ap (λ (x : List Overlap). x ++ after) (from_step n (λ x. h x ∷ []) a m)

  pub row-over : (f : ℕ → List Overlap) (a : ℕ) (after : List Overlap) → n < a → from n a f ++ after ≡ after
  row-over f a after m = ap (λ (x : List Overlap). x ++ after) (from_end n f a m)

pub pair-among : (nums : List ℕ) (f : Family) (i j : ℕ) → 1 ≤ i → i < j → j ≤ rank_of nums → Among (presentation nums) 1 (pair_of f i j)
pair-among nums Upper i j a b c = (a, b, c)
pair-among nums Lower i j a b c = (a, b, c)

-- Some overlaps, and then others, where the workspace is as long as at first.
module _ (nums : List ℕ) (budget size : ℕ) where
  abbrev dec : List Overlap → Decision
  dec os = decide nums budget (size / 3) os

  module _ (os : List Overlap) {k : ℕ} (long : k ≡ size) {r : Result (Unit {0}) Checked}
      (f : r ≡ settles (rank_of nums) (decide nums budget (k / 3) os)) where
    pub found-last : r ≡ settles (rank_of nums) (decide nums budget (size / 3) os)
    found-last = f ∙ ap (λ (k : ℕ). settles (rank_of nums) (decide nums budget (k / 3) os)) long

    module _ (qs : List Overlap) where
      pub found-first : is_err r ≡ true → r ≡ settles (rank_of nums) (decide nums budget (size / 3) (os ++ qs))
      found-first p =
          found-last
          ∙ ap (settles (rank_of nums))
          (sym (decide-append nums budget (size / 3) os qs ∙ else-first (rank_of nums) (dec os) (dec qs) (ap is_err (sym found-last) ∙ p)))

      pub found-then : is_err r ≡ false → decide nums budget (size / 3) (os ++ qs) ≡ decide nums budget (size / 3) qs
      found-then p =
          decide-append nums budget (size / 3) os qs
          ∙ ap (λ (d : Decision). or_else d (dec qs)) (settles-none (rank_of nums) (dec os) (ap is_err (sym found-last) ∙ p))

-- No overlap before the rest settled the verdict, and the rest decides what the whole decides.
pub record Seeking (nums : List ℕ) (budget : ℕ) (size : ℕ) (whole rest : List Overlap) (found : Result (Unit {0}) Checked) : Type 0 where
  pub none : found ≡ Ok tt
  pub decides : decide nums budget (size / 3) rest ≡ decide nums budget (size / 3) whole

is-none : (r : Result (Unit {0}) Checked) → is_err r ≡ false → r ≡ Ok tt
is-none (Ok u) e = refl
is-none (Err c) e = cc

pub seek-start : {nums : List ℕ} {budget size : ℕ} {whole rest : List Overlap} → whole ≡ rest → Seeking nums budget size whole rest (Ok tt)
seek-start {nums} {budget} {size} e = record { none = refl; decides = ap (decide nums budget (size / 3)) (sym e) }

module _ {nums : List ℕ} {budget : ℕ} {size : ℕ} {whole : List Overlap} {found : Result (Unit {0}) Checked} where
  pub seek-as : {rest other : List Overlap} → rest ≡ other → Seeking nums budget size whole rest found → Seeking nums budget size whole other found
  seek-as e s = subst (λ (x : List Overlap). Seeking nums budget size whole x found) e s

  pub seek-end : Seeking nums budget size whole [] found → found ≡ settles (rank_of nums) (decide nums budget (size / 3) whole)
  seek-end s = s.none ∙ ap (settles (rank_of nums)) s.decides

  module _ {o : Overlap} {rest : List Overlap} (s : Seeking nums budget size whole (o ∷ rest) found) {k : ℕ} (long : k ≡ size)
      {r : Result (Unit {0}) Checked} (f : r ≡ settles (rank_of nums) (decide nums budget (k / 3) (o ∷ []))) where
    pub seek-found : is_err r ≡ true → r ≡ settles (rank_of nums) (decide nums budget (size / 3) whole)
    seek-found p = found-first nums budget size (o ∷ []) long f rest p ∙ ap (settles (rank_of nums)) s.decides

    pub seek-next : is_err r ≡ false → Seeking nums budget size whole rest r
    seek-next p = record { none = is-none r p; decides = sym (found-then nums budget size (o ∷ []) long f rest p) ∙ s.decides }
