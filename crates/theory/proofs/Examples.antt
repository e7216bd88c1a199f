-- Document 01's marked examples, computed from the definitions: the vectors and counts by placing, and the same number of leftmost
-- replacements; and that no theorem is empty: Q is valid and consistent, Z valid and inconsistent.
--
-- Main results: `marked`, `Q-valid`, `Q-consistent`, `Z-valid`, `Z-differs`.
use mathlib.Core.Path.{◌≡◌, refl, sym, ◌∙◌}
use mathlib.Core.List.{List, [], ◌∷◌, ◌++◌}
use mathlib.Core.Option.{none, some}
use Prim.Native.Nat.{ℕ}
use native.Mathlib.Omega.{arith}
use Rattle.theory.specs.Presentation.{Presentation, Word, Vector, spell, identity, Valid}
use Rattle.theory.specs.Replacement.{leftmost, steps}
use Rattle.theory.specs.Placing.{collect, count, invert}
use Rattle.theory.specs.Overlaps.{single, left_side, right_side, Consistent}
use Rattle.theory.specs.Examples.{D, Q, H, Z}
use Rattle.theory.proofs.Deciding.{valid-by, consistent-by}

-- A case: the presentation, the vector, the word collected onto it, and what comes of it.
pub record Case : Type 0 where
  pub presentation : Presentation
  pub vector : Vector
  pub word : Word
  pub answer : Vector
  pub replacements : ℕ

abbrev pub Holds : Case → Type 0
Holds c =
    (collect c.presentation c.presentation.rank 1 c.vector c.word ≡ c.answer)
    × (count c.presentation c.presentation.rank 1 c.vector c.word ≡ c.replacements)
    × (steps c.presentation c.replacements (spell 1 c.vector ++ c.word) ≡ some (spell 1 c.answer))
    × (leftmost c.presentation (spell 1 c.answer) ≡ none)

abbrev pub AllHold : List Case → Type 0
AllHold [] = Unit {0}
AllHold (c ∷ cs) = Holds c × AllHold cs

abbrev pub cases : List Case
cases =
    record { presentation = D; vector = 0 ∷ 0 ∷ 0 ∷ []; word = 2 ∷ 1 ∷ []; answer = 1 ∷ 1 ∷ 1 ∷ []; replacements = 1 }
    ∷ record { presentation = D; vector = 0 ∷ 0 ∷ 0 ∷ []; word = 2 ∷ 1 ∷ 2 ∷ 1 ∷ []; answer = 0 ∷ 0 ∷ 1 ∷ []; replacements = 5 }
    ∷ record { presentation = Q; vector = 1 ∷ 0 ∷ 1 ∷ []; word = 1 ∷ []; answer = 0 ∷ 0 ∷ 0 ∷ []; replacements = 3 }
    ∷ record { presentation = Q; vector = 0 ∷ 0 ∷ 0 ∷ []; word = 2 ∷ 1 ∷ []; answer = 1 ∷ 1 ∷ 1 ∷ []; replacements = 1 }
    ∷ record { presentation = Q; vector = 0 ∷ 0 ∷ 0 ∷ []; word = 1 ∷ 2 ∷ []; answer = 1 ∷ 1 ∷ 0 ∷ []; replacements = 0 }
    ∷ record { presentation = H; vector = 0 ∷ 0 ∷ 0 ∷ 0 ∷ []; word = 2 ∷ 2 ∷ 1 ∷ []; answer = 1 ∷ 2 ∷ 2 ∷ 1 ∷ []; replacements = 4 }
    ∷ record { presentation = H; vector = 1 ∷ 0 ∷ 2 ∷ 1 ∷ []; word = []; answer = 1 ∷ 0 ∷ 2 ∷ 1 ∷ []; replacements = 0 }
    ∷ []

pub marked : AllHold cases
marked = (
  (refl, refl, refl, refl),
  (
    (refl, refl, refl, refl),
    ((refl, refl, refl, refl), ((refl, refl, refl, refl), ((refl, refl, refl, refl), ((refl, refl, refl, refl), ((refl, refl, refl, refl), tt))))),
  ),
)

-- "Q, inverse of (1,0,0): (1,0,1), count 2."
pub Q-inverse : (invert Q 3 1 (1 ∷ 0 ∷ 0 ∷ []) ≡ 1 ∷ 0 ∷ 1 ∷ []) × (count Q 3 1 (1 ∷ 0 ∷ 0 ∷ []) (spell 1 (1 ∷ 0 ∷ 1 ∷ [])) ≡ 2)
Q-inverse = (refl, refl)

pub Q-valid : Valid Q
Q-valid = valid-by Q refl

pub Q-consistent : Consistent Q
Q-consistent = consistent-by Q refl

pub Z-valid : Valid Z
Z-valid = valid-by Z refl

-- "Z differs at family 4, i = 1: (1,1,1) against (1,1,0)."
pub Z-sides : (collect Z 3 1 (identity 3) (left_side Z (single 1)) ≡ 1 ∷ 1 ∷ 1 ∷ []) × (collect Z 3 1 (identity 3) (right_side Z (single 1)) ≡ 1 ∷ 1 ∷ 0 ∷ [])
Z-sides = (refl, refl)

pub Z-differs : Consistent Z → ⊥
Z-differs c =
    let e : ◌≡◌ {A = List ℕ} (1 ∷ 1 ∷ 1 ∷ []) (1 ∷ 1 ∷ 0 ∷ []) = sym Z-sides.0 ∙ c (single 1) (omega arith, omega arith) ∙ Z-sides.1 in
    let z : ◌≡◌ {A = ℕ} 1 0 = cc in omega arith
