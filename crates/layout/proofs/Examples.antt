-- Document 01's examples of judging, from the definition by computation.
use mathlib.Core.Path.{◌≡◌, refl}
use mathlib.Core.List.{List, [], ◌∷◌, map}
use Prim.Native.Nat.{ℕ}
use Rattle.layout.specs.Judged.{judged}
use Rattle.layout.specs.Words.{word_of, word_at}
use Rattle.layout.specs.Relations.{presentation}
use Rattle.theory.specs.Presentation.{power_word}

-- "D: p = 2, n = 3, only w_12 = x_3."
abbrev D : List ℕ
D = 2 ∷ 3 ∷ 0 ∷ 0 ∷ 0 ∷ 0 ∷ 0 ∷ 0 ∷ 0 ∷ 1 ∷ 1 ∷ 0 ∷ 1 ∷ 0 ∷ 3 ∷ 1 ∷ []

-- The numbers, one list after the other, and what each gets.
abbrev given : List (List ℕ)
given =
    D
    -- "p = 251 is accepted, 247, 253 and 1 give 2"
    ∷ (251 ∷ 1 ∷ 0 ∷ 0 ∷ [])
    ∷ (247 ∷ 1 ∷ 0 ∷ 0 ∷ [])
    ∷ (253 ∷ 1 ∷ 0 ∷ 0 ∷ [])
    ∷ (1 ∷ 1 ∷ 0 ∷ 0 ∷ [])
    -- "0 and 41 give 3"
    ∷ (2 ∷ 0 ∷ [])
    ∷ (2 ∷ 41 ∷ [])
    -- "the slice of D with one number more or fewer gives 5"
    ∷ (2 ∷ 3 ∷ 0 ∷ 0 ∷ 0 ∷ 0 ∷ 0 ∷ 0 ∷ 0 ∷ 1 ∷ 1 ∷ 0 ∷ 1 ∷ 0 ∷ 3 ∷ 1 ∷ 0 ∷ [])
    ∷ (2 ∷ 3 ∷ 0 ∷ 0 ∷ 0 ∷ 0 ∷ 0 ∷ 0 ∷ 0 ∷ 1 ∷ 1 ∷ 0 ∷ 1 ∷ 0 ∷ 3 ∷ [])
    -- sums that pass 16 bits
    ∷ (2 ∷ 2 ∷ 0 ∷ 65535 ∷ 65535 ∷ 1 ∷ 0 ∷ 0 ∷ [])
    ∷ (2 ∷ 2 ∷ 0 ∷ 65535 ∷ 65535 ∷ 0 ∷ 65535 ∷ 65535 ∷ [])
    -- "presentation has fewer than 2 numbers"
    ∷ []
    ∷ (2 ∷ [])
    -- D with w_12 = x_2, x_4, x_3^0 and x_3^2: "a generator too low for its relation, above n ..; an exponent 0 or at least p"
    ∷ (2 ∷ 3 ∷ 0 ∷ 0 ∷ 0 ∷ 0 ∷ 0 ∷ 0 ∷ 0 ∷ 1 ∷ 1 ∷ 0 ∷ 1 ∷ 0 ∷ 2 ∷ 1 ∷ [])
    ∷ (2 ∷ 3 ∷ 0 ∷ 0 ∷ 0 ∷ 0 ∷ 0 ∷ 0 ∷ 0 ∷ 1 ∷ 1 ∷ 0 ∷ 1 ∷ 0 ∷ 4 ∷ 1 ∷ [])
    ∷ (2 ∷ 3 ∷ 0 ∷ 0 ∷ 0 ∷ 0 ∷ 0 ∷ 0 ∷ 0 ∷ 1 ∷ 1 ∷ 0 ∷ 1 ∷ 0 ∷ 3 ∷ 0 ∷ [])
    ∷ (2 ∷ 3 ∷ 0 ∷ 0 ∷ 0 ∷ 0 ∷ 0 ∷ 0 ∷ 0 ∷ 1 ∷ 1 ∷ 0 ∷ 1 ∷ 0 ∷ 3 ∷ 2 ∷ [])
    -- n = 3, w_1 = x_3 x_2: "not increasing"
    ∷ (2 ∷ 3 ∷ 0 ∷ 2 ∷ 2 ∷ 0 ∷ 2 ∷ 0 ∷ 2 ∷ 0 ∷ 2 ∷ 0 ∷ 2 ∷ 0 ∷ 3 ∷ 1 ∷ 2 ∷ 1 ∷ [])
    ∷ []

pub judged-examples : map judged given ≡ 0 ∷ 0 ∷ 2 ∷ 2 ∷ 2 ∷ 3 ∷ 3 ∷ 5 ∷ 5 ∷ 4 ∷ 5 ∷ 1 ∷ 1 ∷ 6 ∷ 6 ∷ 6 ∷ 6 ∷ 6 ∷ []
judged-examples = refl

-- D's words: w_12, and one that is no relation.
pub fetched-example : (word_of D 1 2 ≡ 3 ∷ 1 ∷ []) × (word_at D 1 2 ≡ 14) × (word_of D 2 1 ≡ [])
fetched-example = (refl, refl, refl)

-- D as a presentation: x_2 x_1 = x_1 x_2 x_3, and the squares are trivial.
pub presented-example : ((presentation D).conjugate 1 2 ≡ 2 ∷ 3 ∷ []) × ((presentation D).power 1 ≡ 0 ∷ 0 ∷ []) × (power_word (presentation D) 1 ≡ [])
presented-example = (refl, refl, refl)
