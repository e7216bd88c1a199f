-- Lines computed from the definitions: document 01's examples of the program, and a refusal of each kind.
use mathlib.Core.Path.{◌≡◌, refl}
use mathlib.Core.List.{List, [], ◌∷◌, ◌++◌}
use Prim.Native.Nat.{ℕ}
use lib.ListN.{replicate}
use Rattle.text.specs.Ascii.{ascii}
use Rattle.text.specs.Decimal.{decimal}
use Rattle.layout.specs.declared.refusal.Refusal.TheVariants.{Length, Budget}
use Rattle.consistency.specs.declared.Overlap.TheVariants.{Triple, Single}
use Rattle.consistency.specs.declared.Verdict.{Verdict}
use Rattle.consistency.specs.declared.Verdict.TheVariants.{Pass, Differs, Refused, Stopped}
use Rattle.line.specs.Line.{line_of}

-- The line of a verdict with these two vectors, which are 0 past n.
line_with : ℕ → ℕ → Verdict → List ℕ → List ℕ → List ℕ
line_with p n verdict left right =
    line_of p n (record { verdict = verdict; left = left ++ replicate 37 0; right = right ++ replicate 37 0 })

none : List ℕ
none = 0 ∷ 0 ∷ 0 ∷ []

-- "Q as file prints `pass 2 3 10`"
passes : line_with 2 3 Pass none none ≡ ascii "pass 2 3 10\n"
unfolding line_with none decimal
passes = refl

-- "Z prints `differs 4 1 0 0 : 1 1 1 : 1 1 0`"
differs :
    line_with 2 3 (Differs (Single (record { 0 = 1 }))) (1 ∷ 1 ∷ 1 ∷ []) (1 ∷ 1 ∷ 0 ∷ [])
    ≡ ascii "differs 4 1 0 0 : 1 1 1 : 1 1 0\n"
unfolding line_with decimal
differs = refl

refused : line_with 2 3 (Refused Length) none none ≡ ascii "refused 5\n"
unfolding line_with none decimal
refused = refl

stopped :
    line_with 2 5 (Stopped Budget (Triple (record { 0 = 1 }) (record { 0 = 2 }) (record { 0 = 4 }))) none none
    ≡ ascii "refused 9 1 1 2 4\n"
unfolding line_with none decimal
stopped = refl
