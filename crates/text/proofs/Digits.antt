-- The library prints the digits of a number, and numbers one after the other.
--
-- Main laws: `library-decimal`, `spaced-append`, `spaced-step`.
use Rattle.std.proofs.Common.{◌≡◌, refl, sym, ap, ◌∙◌, ℕ, suc, ◌+◌, ◌^◌, ◌<◌, List, [], ◌∷◌, ◌++◌, length, get_or, take, append_assoc, append-nil, arith, rules}
use Rattle.std.proofs.lemmas.List.{take_more}
use Rattle.std.specs.Fmt as library
use Rattle.std.proofs.lemmas.Fmt.{AppendsLastDigit, decimal_from_appends, length-decimal-le_succ}
use Rattle.text.specs.Decimal.{digits, decimal, spaced}

-- Ours are the digits of the tenth part and then the last, and so are the library's.
appends : AppendsLastDigit digits
appends = search rules

-- The library prints a 64-bit number as `decimal` says.
pub library-decimal : (n : ℕ) → n < 2 ^ 64 → library.decimal n ≡ decimal n
unfolding decimal
library-decimal n h = sym (decimal_from_appends digits appends (suc n) n h (omega (arith, length-decimal-le_succ n h)))

-- Numbers one after the other are those of the first list, and then those of the second.
pub spaced-append : (a b : List ℕ) → spaced (a ++ b) ≡ spaced a ++ spaced b
spaced-append [] b = refl
spaced-append (x ∷ a) b =
    ap (λ (l : List ℕ). 32 ∷ decimal x ++ l) (spaced-append a b)
    ∙ ap (λ (l : List ℕ). 32 ∷ l) (sym (append_assoc (decimal x) (spaced a) (spaced b)))

-- One number more of a list.
pub spaced-step : (l : List ℕ) (i : ℕ) → i < length l → spaced (take i l) ++ spaced (get_or l i 0 ∷ []) ≡ spaced (take (i + 1) l)
spaced-step l i h = sym (ap spaced (take_more l i 0 h) ∙ spaced-append (take i l) (get_or l i 0 ∷ []))

-- For `put_number`.
pub ruleset printed = (library-decimal, append_assoc, append-nil)

-- For `put_numbers`.
pub ruleset next = (spaced-step, append_assoc)
