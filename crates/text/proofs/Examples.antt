-- Numbers, decimals and letters, computed from the definitions.
use mathlib.Core.Path.{◌≡◌, refl}
use mathlib.Core.List.{[], ◌∷◌}
use Rattle.text.specs.Ascii.{ascii}
use Rattle.text.specs.Decimal.{decimal, spaced}
use Rattle.text.specs.Numbers.{numbers_of}

letters : ascii "pass" ≡ 112 ∷ 97 ∷ 115 ∷ 115 ∷ []
letters = refl

nought : decimal 0 ≡ ascii "0"
unfolding decimal
nought = refl

ten : decimal 10 ≡ ascii "10"
unfolding decimal
ten = refl

largest : decimal 18446744073709551615 ≡ ascii "18446744073709551615"
unfolding decimal
largest = refl

some : spaced (1 ∷ 20 ∷ 300 ∷ []) ≡ ascii " 1 20 300"
unfolding decimal
some = refl

low_first : numbers_of (2 ∷ 0 ∷ 0 ∷ 1 ∷ 255 ∷ 255 ∷ 7 ∷ []) ≡ 2 ∷ 256 ∷ 65535 ∷ []
low_first = refl
