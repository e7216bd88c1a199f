-- The first entry that isn't 0, by its place.
--
-- Main results: `first-is`, `depth-told`.
use mathlib.Core.Path.{◌≡◌, refl, sym, ap, ◌∙◌}
use mathlib.Core.Bool.{Bool, true, false, cond, not}
use mathlib.Core.List.{[], ◌∷◌}
use Prim.Native.Nat.{ℕ, zero, suc, ◌+◌, ◌<◌}
use native.Mathlib.Omega.{arith}
use borrow.Author.Tests.{ltb-true, ltb-false, lt-ltb, le-ltb, ne_eqb}
use native.Mathlib.Numerals.{add-one}
use lib.ListN.{length, get_or, drop}
use lib.Seq.{drop-cons}
use lib.Dec.{ltb, eqb}
use Rattle.std.specs.Prelude.{Option, Some, None, MatchOption}
use Rattle.std.specs.List.{position_or_len}
use Rattle.theory.specs.Presentation.{Vector}
use Rattle.collector.specs.Calls.{first_entry}

abbrev pub some_entry : ℕ → Bool
some_entry a = not (eqb a 0)

-- The depth that a place stands for.
abbrev pub depth_at : ℕ → Option ℕ → ℕ
depth_at none (Some at) = at + 1
depth_at none None = none

pub depth-told : (none d : ℕ) (r : Option ℕ) (Q : ℕ → Type 0) → MatchOption r (d ≡ none) Q → ((at : ℕ) → Q at → d ≡ at + 1) → d ≡ depth_at none r
depth-told none d (Some at) Q h f = f at h
depth-told none d None Q h f = h

abbrev place : Vector → ℕ
place v = position_or_len some_entry v

first : (none g : ℕ) (v : Vector) → cond (ltb (place v) (length v)) (place v + g) none ≡ first_entry none g v
first none g [] = refl
first none g (zero ∷ v) = go (ltb (place v) (length v)) refl (first none (suc g) v)
  where
    go : (b : Bool) → ltb (place v) (length v) ≡ b → cond (ltb (place v) (length v)) (place v + suc g) none ≡ first_entry none (suc g) v
        → cond (ltb (place (zero ∷ v)) (length (zero ∷ v))) (place (zero ∷ v) + g) none ≡ first_entry none (suc g) v
    go true e r =
        let l = ltb-true (place v) (length v) e in
        let same : 1 + place v + g ≡ place v + suc g = omega arith in
        ap (λ (b : Bool). cond b (1 + place v + g) none) (lt-ltb (1 + place v) (suc (length v)) (omega arith)) ∙ same ∙ rw e at r
    go false e r =
        let l = ltb-false (place v) (length v) e in
        ap (λ (b : Bool). cond b (1 + place v + g) none) (le-ltb (1 + place v) (suc (length v)) (omega arith)) ∙ rw e at r
first none g (suc a ∷ v) =
    let at : Bool → ℕ = λ (b : Bool). cond (not (not b)) (1 + place v) 0 in
    let some : suc a ≡ 0 → ⊥ = λ z. omega arith in
    let same : 0 + g ≡ g = omega arith in
    ap (λ (b : Bool). cond (ltb (at b) (suc (length v))) (at b + g) none) (ne_eqb (suc a) 0 some)
    ∙ ap (λ (b : Bool). cond b (0 + g) none) (lt-ltb 0 (suc (length v)) (omega arith)) ∙ same

-- One entry, by index.
entry_first : (none : ℕ) (v : Vector) (at : ℕ) → at < length v
    → first_entry none (at + 1) (drop at v) ≡ first_entry none (at + 1) (get_or v at 0 ∷ drop (at + 1) v)
entry_first none v at h = ap (first_entry none (at + 1)) (drop-cons v at 0 h ∙ ap (λ (k : ℕ). get_or v at 0 ∷ drop k v) (sym (add-one at)))

pub first-is : (none : ℕ) (v : Vector) (r : Option ℕ) → r ≡ cond (ltb (place v) (length v)) (Some (place v)) None → depth_at none r ≡ first_entry none 1 v
first-is none v r e = ap (depth_at none) e ∙ go (ltb (place v) (length v)) ∙ first none 1 v
  where
    go : (b : Bool) → depth_at none (cond b (Some (place v)) None) ≡ cond b (place v + 1) none
    go true = refl
    go false = refl
