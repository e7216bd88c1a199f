-- What follows for products of vectors.
--
-- Main results: `product-identity` and `identity-product` and `product-invert` on any valid presentation; `product-associative`
-- and `invert-product` on a consistent one, where the normal vectors form a group.
use mathlib.Core.Path.{◌≡◌, sym, ap, ◌∙◌}
use mathlib.Core.List.{◌++◌}
use Rattle.theory.specs.Presentation.{Presentation, Word, Vector, spell, identity, Normal, Valid}
use Rattle.theory.specs.Placing.{collect, product, invert}
use Rattle.theory.specs.Overlaps.{Consistent}
use Rattle.theory.proofs.Words.{spell-over, spell-identity}
use Rattle.theory.proofs.Collecting.{whole, collect-append, collect-normal, fill}
use Rattle.theory.proofs.Joining.{collect-joined}
use Rattle.theory.proofs.Consistency.{consistency}
use Rattle.theory.proofs.Inverse.{invert-normal, invert-clears}

module _ (P : Presentation) (valid : Valid P) where
  -- The vectors of the whole group, and their products.
  abbrev Element : Vector → Type 0
  Element v = Normal P P.rank 1 v

  abbrev one : Vector
  one = identity P.rank

  infixl 30 ◌times◌
  abbrev ◌times◌ : Vector → Vector → Vector
  u times v = product P P.rank 1 u v

  abbrev inverse : Vector → Vector
  inverse v = invert P P.rank 1 v

  pub product-normal : (u v : Vector) → Element u → Element (u times v)
  product-normal u v p = collect-normal P valid P.rank 1 u (spell 1 v) (whole P) p

  pub product-identity : (v : Vector) → v times one ≡ v
  product-identity v = ap (λ (x : Word). collect P P.rank 1 v x) (spell-identity P P.rank 1)

  pub identity-product : (v : Vector) → Element v → one times v ≡ v
  identity-product v p = fill P valid P.rank 1 v (whole P) p

  pub product-invert : (v : Vector) → Element v → v times (inverse v) ≡ one
  product-invert v p = invert-clears P valid P.rank 1 v (whole P) p

  pub product-associative : Consistent P → (u v w : Vector) → Element u → Element v → Element w
      → (u times v) times w ≡ u times (v times w)
  product-associative agree u v w p q r =
      sym (collect-append P P.rank 1 u (spell 1 v) (spell 1 w))
      ∙ consistency P valid agree u (spell 1 v ++ spell 1 w) (spell 1 (v times w)) p
      (collect-joined P valid P.rank 1 v (spell 1 w) (whole P) q (spell-over P P.rank 1 w (whole P).fits r))

  pub invert-product : Consistent P → (v : Vector) → Element v → (inverse v) times v ≡ one
  invert-product agree v p =
      ap (λ (x : Vector). (inverse v) times x) same-again ∙ product-invert (inverse v) n
    where
      n : Element (inverse v)
      n = invert-normal P valid P.rank 1 v (whole P) p

      nn : Element (inverse (inverse v))
      nn = invert-normal P valid P.rank 1 (inverse v) (whole P) n

      same-again : v ≡ inverse (inverse v)
      same-again =
          sym (product-identity v)
          ∙ ap (λ (x : Vector). v times x) (sym (product-invert (inverse v) n))
          ∙ sym (product-associative agree v (inverse v) (inverse (inverse v)) p n nn)
          ∙ ap (λ (x : Vector). x times (inverse (inverse v))) (product-invert v p)
          ∙ identity-product (inverse (inverse v)) nn
