-- What is put back only if a test holds: the two outcomes, and the same for what slots stand for.
use mathlib.Core.Path.{◌≡◌, refl, ap}
use mathlib.Core.List.{List, ◌∷◌, map}
use mathlib.Core.Bool.{Bool, true, false}
use Prim.Native.Nat.{ℕ, ◌≤◌, ◌<◌}
use lib.Dec.{ltb}
use borrow.Author.Tests.{lt-ltb, le-ltb}
use Rattle.slots.specs.Slots.{on_top}

module _ {A : Type 0} (m e : ℕ) (x : A) (below : List A) where
  pub put : m < e → on_top (ltb m e) x below ≡ x ∷ below
  put h = ap (λ (t : Bool). on_top t x below) (lt-ltb m e h)

  pub not-put : e ≤ m → on_top (ltb m e) x below ≡ below
  not-put h = ap (λ (t : Bool). on_top t x below) (le-ltb m e h)

pub map-on_top : {A B : Type 0} (f : A → B) (t : Bool) (x : A) (l : List A) → map f (on_top t x l) ≡ on_top t (f x) (map f l)
map-on_top f true x l = refl
map-on_top f false x l = refl
