-- `Seen nums view` says just that the view is `view_of nums`.
use mathlib.Core.Path.{◌≡◌, ap}
use mathlib.Core.List.{List}
use Prim.Native.Nat.{ℕ}
use Rattle.layout.specs.declared.View.{View}
use Rattle.layout.specs.Header.{Seen, view_of}

pub seen : (nums : List ℕ) (view : View) → view ≡ view_of nums → Seen nums view
seen nums view e =
    record {
      prime = ap (λ (v : View). v.prime.0) e;
      rank = ap (λ (v : View). v.rank.0) e;
      contents = ap (λ (v : View). v.contents) e;
      bodies = ap (λ (v : View). v.bodies) e;
    }

pub view-is : (nums : List ℕ) (view : View) → Seen nums view → view ≡ view_of nums
view-is nums view s =
    λ i. record { prime = record { 0 = s.prime i }; rank = record { 0 = s.rank i }; contents = s.contents i; bodies = s.bodies i }
