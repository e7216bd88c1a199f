-- The sides as pieces are the theory's sides as words, and well formed; and where a side's collection is accepted, it ends where the
-- theory's does.
--
-- Main results: `left-letters`, `right-letters`, `left-formed`, `right-formed`; `left-collects`, `right-collects`.
use mathlib.Core.Path.{◌≡◌, refl, sym, ap, ◌∙◌, subst}
use mathlib.Core.List.{List, [], ◌∷◌, ◌++◌, append-nil}
use mathlib.Core.Bool.{Bool, true, false}
use Prim.Native.Nat.{ℕ, ◌-◌, ◌≤◌, ◌<◌}
use native.Mathlib.Omega.{arith}
use lib.ListN.{length, replicate}
use lib.Dec.{ltb}
use Rattle.theory.specs.Presentation.{Presentation, Word, Vector, Normal, Over, power_word, identity}
use Rattle.theory.specs.Placing.{collect}
use Rattle.theory.specs.Overlaps.{Overlap, triple, upper, lower, single, Among, left_side, right_side}
use Rattle.theory.proofs.Collecting.{whole, identity-normal, collects-to}
use Rattle.theory.proofs.Joining.{sides-over}
use Rattle.layout.specs.Header.{rank_of, prime_of, exponent_of}
use Rattle.layout.specs.Contents.{stretch_of}
use Rattle.layout.specs.Judged.{judged}
use Rattle.layout.specs.Relations as relations
use Rattle.layout.specs.Relations.{presentation}
use Rattle.layout.proofs.Accepted.{accepted}
use Rattle.layout.proofs.Valid.{valid, power-word}
use Rattle.slots.specs.Pieces.{Piece, power, unread, letters, Pairs, AllWellFormed}
use Rattle.collector.specs.Run.{Outcome, done, refused, Runs, outcome, begun}
use Rattle.slots.proofs.Letters.{letters-unread}
use Rattle.collector.proofs.Grounding.{relation-formed}
use Rattle.collector.proofs.Outcomes.{runs-outcome, runs-collects}
use Rattle.consistency.specs.Sides.{worded, left_pieces, right_pieces}
use Rattle.consistency.specs.Check.{side_outcome}

unread-formed : (n : ℕ) (w : List ℕ) (below : List Piece) → Pairs n w → AllWellFormed n below → AllWellFormed n (unread w below)
unread-formed n [] below p f = f
unread-formed n (g ∷ w) below p f = (p, f)

module _ (nums : List ℕ) (accepts : judged nums ≡ 0) where
  abbrev P : Presentation
  P = presentation nums

  abbrev n : ℕ
  n = rank_of nums

  big : 2 ≤ prime_of nums
  big = (accepted nums accepts).prime.above_one

  -- w_i on what follows it spells the theory's w_i.
  power-letters : (i : ℕ) (below : List Piece) → 1 ≤ i → i ≤ n → letters (worded nums i i below) ≡ power_word P i ++ letters below
  power-letters i below l h =
      letters-unread (stretch_of nums i i) below
      ∙ ap (λ (u : Word). u ++ letters below) (sym (power-word nums accepts i (n - i) l (omega arith)))

  pub left-letters : (o : Overlap) → Among P 1 o → letters (left_pieces nums o) ≡ left_side P o
  left-letters (triple i j k) a = ap {B = Word} (λ u. j ∷ k ∷ u) (letters-unread (stretch_of nums j k) (power i 1 ∷ []))
  left-letters (upper i j) a = power-letters j (power i 1 ∷ []) (omega arith) a.2
  left-letters (lower i j) a =
      ap {B = Word} (λ u. i ∷ j ∷ u)
      (letters-unread (stretch_of nums i j) (power i (exponent_of nums i - 1) ∷ [])
      ∙ ap {B = Word} (λ u. relations.letters (stretch_of nums i j) ++ u) (append-nil (replicate (exponent_of nums i - 1) i)))
  left-letters (single i) a = power-letters i (power i 1 ∷ []) a.0 a.1

  tail-letters : (i j : ℕ) → letters (worded nums i j []) ≡ relations.letters (stretch_of nums i j)
  tail-letters i j = letters-unread (stretch_of nums i j) [] ∙ append-nil (relations.letters (stretch_of nums i j))

  pub right-letters : (o : Overlap) → Among P 1 o → letters (right_pieces nums o) ≡ right_side P o
  right-letters (triple i j k) a = ap {B = Word} (λ u. k ∷ i ∷ j ∷ u) (tail-letters i j)
  right-letters (upper i j) a = ap {B = Word} (λ u. replicate (exponent_of nums j - 1) j ++ (i ∷ j ∷ u)) (tail-letters i j)
  right-letters (lower i j) a = ap {B = Word} (λ u. j ∷ u) (power-letters i [] a.0 (omega arith) ∙ append-nil (power_word P i))
  right-letters (single i) a = ap {B = Word} (λ u. i ∷ u) (power-letters i [] a.0 a.1 ∙ append-nil (power_word P i))

  worded-formed : (i j : ℕ) (below : List Piece) → 1 ≤ i → i ≤ j → j ≤ n → AllWellFormed n below → AllWellFormed n (worded nums i j below)
  worded-formed i j below l m h f = unread-formed n (stretch_of nums i j) below (relation-formed nums accepts i j l m h) f

  pub left-formed : (o : Overlap) → Among P 1 o → AllWellFormed n (left_pieces nums o)
  left-formed (triple i j k) a = (
    record { low = omega arith; high = omega arith; some = omega arith },
    (
      record { low = omega arith; high = a.3; some = omega arith },
      worded-formed j k (power i 1 ∷ []) (omega arith) (omega arith) a.3 (record { low = a.0; high = omega arith; some = omega arith }, tt),
    ),
  )
  left-formed (upper i j) a =
      worded-formed j j (power i 1 ∷ []) (omega arith) (omega arith) a.2 (record { low = a.0; high = omega arith; some = omega arith }, tt)
  left-formed (lower i j) a = (
    record { low = a.0; high = omega arith; some = omega arith },
    (
      record { low = omega arith; high = a.2; some = omega arith },
      worded-formed i j (power i (exponent_of nums i - 1) ∷ []) a.0 (omega arith) a.2 (record { low = a.0; high = omega arith; some = omega (arith, big) }, tt),
    ),
  )
  left-formed (single i) a =
      worded-formed i i (power i 1 ∷ []) a.0 (omega arith) a.1 (record { low = a.0; high = a.1; some = omega arith }, tt)

  pub right-formed : (o : Overlap) → Among P 1 o → AllWellFormed n (right_pieces nums o)
  right-formed (triple i j k) a = (
    record { low = omega arith; high = a.3; some = omega arith },
    (
      record { low = a.0; high = omega arith; some = omega arith },
      (
        record { low = omega arith; high = omega arith; some = omega arith },
        worded-formed i j [] a.0 (omega arith) (omega arith) tt,
      ),
    ),
  )
  right-formed (upper i j) a = (
    record { low = omega arith; high = a.2; some = omega (arith, big) },
    (
      record { low = a.0; high = omega arith; some = omega arith },
      (
        record { low = omega arith; high = a.2; some = omega arith },
        worded-formed i j [] a.0 (omega arith) a.2 tt,
      ),
    ),
  )
  right-formed (lower i j) a =
      (record { low = omega arith; high = a.2; some = omega arith }, worded-formed i i [] a.0 (omega arith) (omega arith) tt)
  right-formed (single i) a =
      (record { low = a.0; high = a.1; some = omega arith }, worded-formed i i [] a.0 (omega arith) a.1 tt)

  pub start-normal : Normal P n 1 (identity n)
  start-normal = identity-normal P (valid nums accepts) n 1 (whole P)

  paired : (i g : ℕ) → 1 ≤ i → i < g → g ≤ rank_of nums → Pairs (rank_of nums) (stretch_of nums i g)
  paired i g l m f = relation-formed nums accepts i g l (omega arith) f

  -- A side that is accepted collects to the vector.
  side-collects : (budget room : ℕ) (side : List Piece) (r : Vector) (c : ℕ) → AllWellFormed n side → Over P 1 (letters side)
      → side_outcome nums budget room side ≡ done r c → r ≡ collect P n 1 (identity n) (letters side)
  side-collects budget room side r c f over e = go (ltb room (length side)) refl
    where
      go : (b : Bool) → ltb room (length side) ≡ b → r ≡ collect P n 1 (identity n) (letters side)
      go true t = let q : ◌≡◌ {A = Outcome} (refused 10 0) (done r c) = rw (t, begun) at e in cc
      go false t =
          let q : outcome nums budget room (identity n) side 0 ≡ done r c = rw (t, begun) at e in
          let runs : Runs nums budget room (identity n) side 0 (done r c) =
          subst (Runs nums budget room (identity n) side 0) q (runs-outcome nums budget room (valid nums accepts) paired (identity n) side 0 start-normal f) in
          let found = runs-collects nums budget room (valid nums accepts) paired start-normal f runs in
          (collects-to P (valid nums accepts) n 1 (whole P) start-normal over found.2).1

  module _ (budget room : ℕ) (o : Overlap) (a : Among P 1 o) where
    pub left-collects : (r : Vector) (c : ℕ) → side_outcome nums budget room (left_pieces nums o) ≡ done r c → r ≡ collect P n 1 (identity n) (left_side P o)
    left-collects r c e =
        side-collects budget room (left_pieces nums o) r c (left-formed o a)
        (subst (Over P 1) (sym (left-letters o a)) (sides-over P (valid nums accepts) 1 o (omega arith) a).0) e
        ∙ ap (collect P n 1 (identity n)) (left-letters o a)

    pub right-collects : (r : Vector) (c : ℕ) → side_outcome nums budget room (right_pieces nums o) ≡ done r c → r ≡ collect P n 1 (identity n) (right_side P o)
    right-collects r c e =
        side-collects budget room (right_pieces nums o) r c (right-formed o a)
        (subst (Over P 1) (sym (right-letters o a)) (sides-over P (valid nums accepts) 1 o (omega arith) a).1) e
        ∙ ap (collect P n 1 (identity n)) (right-letters o a)
