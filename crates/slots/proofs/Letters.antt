-- Taking the top piece takes one letter off the word that the pieces spell.
--
-- Main laws: `letters-unread`, `letters-taken`, `leading-one`.
use mathlib.Core.Path.{◌≡◌, refl, sym, ap, ◌∙◌}
use mathlib.Core.List.{List, [], ◌∷◌, ◌++◌, append_assoc}
use Prim.Native.Nat.{ℕ, zero, suc, ◌-◌, ◌≤◌}
use native.Mathlib.Omega.{arith}
use lib.ListN.{length, replicate}
use Rattle.theory.specs.Presentation.{Word}
use Rattle.slots.specs.Slots.{lessened}
use Rattle.slots.proofs.OnTop.{put}
use Rattle.layout.specs.Relations.{letters as pair_letters}
use Rattle.slots.specs.Pieces.{Piece, power, string, letters, unread, leading, taken, AllWellFormed}

-- One letter of a power.
letters-lessened
    : (i e : ℕ) (below : List Piece) → 1 ≤ e → replicate e i ++ letters below ≡ i ∷ letters (lessened (power i) e below)
letters-lessened i zero below h = absurd (omega arith)
letters-lessened i (suc zero) below h = refl
letters-lessened i (suc (suc e)) below h =
    let less : suc e ≡ suc (suc e) - 1 = omega arith in
    ap (λ (k : ℕ). i ∷ (replicate k i ++ letters below)) less
    ∙ ap (λ (l : List Piece). i ∷ letters l) (sym (put 1 (suc (suc e)) (power i (suc (suc e) - 1)) below (omega arith)))

pub letters-unread : (pairs : List ℕ) (below : List Piece) → letters (unread pairs below) ≡ pair_letters pairs ++ letters below
letters-unread [] below = refl
letters-unread (g ∷ pairs) below = refl

-- The word of the pieces is the generator of the top one, then the word of what is left.
pub letters-taken
    : (n : ℕ) (xs : List Piece) → 1 ≤ length xs → AllWellFormed n xs → letters xs ≡ leading xs ∷ letters (taken xs)
letters-taken n [] h w = absurd (omega arith)
letters-taken n (power i e ∷ below) h w = letters-lessened i e below w.0.some
letters-taken n (string [] ∷ below) h w = absurd w.0
letters-taken n (string (i ∷ []) ∷ below) h w = absurd w.0
letters-taken n (string (i ∷ a ∷ pairs) ∷ below) h w =
    append_assoc (replicate a i) (pair_letters pairs) (letters below)
    ∙ ap (λ (l : Word). replicate a i ++ l) (sym (letters-unread pairs below))
    ∙ letters-lessened i a (unread pairs below) w.0.0.some

-- That generator is one of the n.
pub leading-one
    : (n : ℕ) (xs : List Piece) → 1 ≤ length xs → AllWellFormed n xs → (1 ≤ leading xs) × (leading xs ≤ n)
leading-one n [] h w = absurd (omega arith)
leading-one n (power i e ∷ below) h w = (w.0.low, w.0.high)
leading-one n (string [] ∷ below) h w = absurd w.0
leading-one n (string (i ∷ []) ∷ below) h w = absurd w.0
leading-one n (string (i ∷ a ∷ pairs) ∷ below) h w = (w.0.0.low, w.0.0.high)
