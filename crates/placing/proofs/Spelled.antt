-- One placing on slots is one placing on letters: same vector and replacements, and the letters of the slots after it are what the
-- theory's placing puts, followed by the rest.
--
-- Main results: `letters-exchange`, `letters-after`, `formed-after`, `pieces-over`.
use mathlib.Core.Path.{◌≡◌, refl, sym, ap, ap₂, ◌∙◌}
use mathlib.Core.List.{List, [], ◌∷◌, ◌++◌, append_assoc}
use mathlib.Core.Bool.{Bool, true, false}
use Prim.Native.Nat.{ℕ, zero, suc, ◌+◌, ◌-◌, ◌≤◌, ◌<◌}
use native.Mathlib.Omega.{arith}
use lib.ListN.{length, drop, replicate, length-drop}
use lib.Dec.{ltb}
use borrow.Author.Tests.{ltb-true}
use Rattle.theory.specs.Presentation.{Presentation, Word, Vector, spell, Over}
use Rattle.theory.specs.Placing.{Placed, conjugates}
use Rattle.theory.proofs.Words.{conjugates-append, over-append, over-block}
use Rattle.theory.proofs.Arrays.{place_is}
use Rattle.layout.specs.Header.{rank_of}
use Rattle.layout.specs.Contents.{stretch_of}
use Rattle.layout.specs.Relations.{presentation}
use Rattle.slots.specs.Slots.{on_top, lessened}
use Rattle.layout.specs.Relations.{letters as pair_letters}
use Rattle.slots.specs.Pieces.{Piece, power, string, letters, unread, leading, taken, Pairs, AllWellFormed}
use Rattle.slots.proofs.Letters.{leading-one}
use Rattle.placing.specs.Exchange.{copies, exchanged, exchange}
use Rattle.placing.specs.Step.{placing_of, slots_after}

module _ (nums : List ℕ) where
  abbrev P : Presentation
  P = presentation nums

  abbrev n : ℕ
  n = rank_of nums

  -- Step 2, by one entry and by all.
  letters-copies : (i b g : ℕ) (below : List Piece)
      → letters (copies b (stretch_of nums i g) g below) ≡ conjugates P i (replicate b g) ++ letters below
  letters-copies i zero g below = refl
  letters-copies i (suc b) g below =
      let w = pair_letters (stretch_of nums i g) in
      ap {B = Word} (λ x. g ∷ (w ++ x)) (letters-copies i b g below)
      ∙ ap {B = Word} (λ x. g ∷ x) (sym (append_assoc w (conjugates P i (replicate b g)) (letters below)))

  plain-conjugates : (i b g : ℕ) → stretch_of nums i g ≡ [] → conjugates P i (replicate b g) ≡ replicate b g
  plain-conjugates i zero g e = refl
  plain-conjugates i (suc b) g e =
      ap₂ (λ (x : List ℕ) (y : Word). (g ∷ pair_letters x) ++ y) e (plain-conjugates i b g e)

  letters-exchanged : (i g b : ℕ) (below : List Piece)
      → letters (exchanged (stretch_of nums i g) g b below) ≡ conjugates P i (replicate b g) ++ letters below
  letters-exchanged i g zero below = refl
  letters-exchanged i g (suc b) below = go (stretch_of nums i g) refl
    where
      go : (w : List ℕ) → stretch_of nums i g ≡ w
          → letters (exchanged (stretch_of nums i g) g (suc b) below) ≡ conjugates P i (replicate (suc b) g) ++ letters below
      go [] e =
          ap (λ (x : List ℕ). letters (exchanged x g (suc b) below)) e
          ∙ ap (λ (x : Word). x ++ letters below) (sym (plain-conjugates i (suc b) g e))
      go (h ∷ w) e =
          ap (λ (x : List ℕ). letters (exchanged x g (suc b) below)) e
          ∙ ap (λ (x : List ℕ). letters (copies (suc b) x g below)) (sym e)
          ∙ letters-copies i (suc b) g below

  pub letters-exchange : (i g : ℕ) (v : Vector) (below : List Piece)
      → letters (exchange nums i g v below) ≡ conjugates P i (spell g v) ++ letters below
  letters-exchange i g [] below = refl
  letters-exchange i g (b ∷ v) below =
      letters-exchanged i g b (exchange nums i (suc g) v below)
      ∙ ap (λ (x : Word). conjugates P i (replicate b g) ++ x) (letters-exchange i (suc g) v below)
      ∙ sym (append_assoc (conjugates P i (replicate b g)) (conjugates P i (spell (suc g) v)) (letters below))
      ∙ ap (λ (x : Word). x ++ letters below) (sym (conjugates-append P i (replicate b g) (spell (suc g) v)))

  -- The letters after a placing: what it puts, then the rest.
  pub letters-after : (v : Vector) (slots : List Piece) → 1 ≤ length slots → AllWellFormed n slots → length v ≡ n
      → letters (slots_after nums v slots) ≡ (placing_of nums v slots).puts ++ letters (taken slots)
  letters-after v slots h w l =
      let r = leading-one n slots h w in
      let i = leading slots in
      let d : suc (i - 1) ≡ i = omega (arith, r.0) in
      letters-exchange i (suc i) (drop i v) (taken slots)
      ∙ ap (λ (x : ℕ). conjugates P i (spell (suc i) (drop x v)) ++ letters (taken slots)) (sym d)
      ∙ ap (λ (x : Placed). x.puts ++ letters (taken slots)) (sym (place_is P 1 v i (i - 1) (omega (arith, r.0)) (omega (arith, r.0, r.1))))

  -- Slots stay well formed.
  formed-lessened : (i e : ℕ) (below : List Piece) → 1 ≤ i → i ≤ n → AllWellFormed n below → AllWellFormed n (lessened (power i) e below)
  formed-lessened i e below h f w = go (ltb 1 e) refl
    where
      go : (b : Bool) → ltb 1 e ≡ b → AllWellFormed n (on_top b (power i (e - 1)) below)
      go true q = let t : 1 < e = ltb-true 1 e q in (record { low = h; high = f; some = omega arith }, w)
      go false q = w

  formed-unread : (pairs : List ℕ) (below : List Piece) → Pairs n pairs → AllWellFormed n below → AllWellFormed n (unread pairs below)
  formed-unread [] below p w = w
  formed-unread (g ∷ pairs) below p w = (p, w)

  pub formed-taken : (slots : List Piece) → AllWellFormed n slots → AllWellFormed n (taken slots)
  formed-taken [] w = tt
  formed-taken (power i e ∷ below) w = formed-lessened i e below w.0.low w.0.high w.1
  formed-taken (string [] ∷ below) w = w.1
  formed-taken (string (g ∷ []) ∷ below) w = w.1
  formed-taken (string (g ∷ a ∷ pairs) ∷ below) w = formed-lessened g a (unread pairs below) w.0.0.low w.0.0.high (formed-unread pairs below w.0.1 w.1)

  module _ (paired : (i g : ℕ) → 1 ≤ i → i < g → g ≤ n → Pairs n (stretch_of nums i g)) where
    formed-copies : (b : ℕ) (h : ℕ) (w : List ℕ) (g : ℕ) (below : List Piece) → 1 ≤ g → g ≤ n → Pairs n (h ∷ w) → AllWellFormed n below
        → AllWellFormed n (copies b (h ∷ w) g below)
    formed-copies zero h w g below l f p all = all
    formed-copies (suc b) h w g below l f p all = (record { low = l; high = f; some = omega arith }, (p, formed-copies b h w g below l f p all))

    formed-exchanged : (w : List ℕ) (g b : ℕ) (below : List Piece) → 1 ≤ g → g ≤ n → Pairs n w → AllWellFormed n below
        → AllWellFormed n (exchanged w g b below)
    formed-exchanged w g zero below l f p all = all
    formed-exchanged [] g (suc b) below l f p all = (record { low = l; high = f; some = omega arith }, all)
    formed-exchanged (h ∷ w) g (suc b) below l f p all = formed-copies (suc b) h w g below l f p all

    formed-exchange : (i g : ℕ) (v : Vector) (below : List Piece) → 1 ≤ i → i < g → length v + g ≤ suc n → AllWellFormed n below
        → AllWellFormed n (exchange nums i g v below)
    formed-exchange i g [] below h l f all = all
    formed-exchange i g (b ∷ v) below h l f all =
        formed-exchanged (stretch_of nums i g) g b (exchange nums i (suc g) v below) (omega arith) (omega arith) (paired i g h l (omega arith))
        (formed-exchange i (suc g) v below h (omega arith) (omega arith) all)

    pub formed-after : (v : Vector) (slots : List Piece) → 1 ≤ length slots → AllWellFormed n slots → length v ≡ n
        → AllWellFormed n (slots_after nums v slots)
    formed-after v slots h w l =
        let r = leading-one n slots h w in
        let i = leading slots in
        let e = length-drop i v in
        formed-exchange i (suc i) (drop i v) (taken slots) r.0 (omega arith) (omega (arith, e, r.1)) (formed-taken slots w)

  -- The letters of well formed slots are generators.
  pairs-over : (pairs : List ℕ) → Pairs n pairs → Over P 1 (pair_letters pairs)
  pairs-over [] p = tt
  pairs-over (g ∷ []) p = absurd p
  pairs-over (g ∷ a ∷ pairs) p =
      over-append P 1 (replicate a g) (pair_letters pairs) (over-block P 1 a g p.0.low p.0.high) (pairs-over pairs p.1)

  pub pieces-over : (slots : List Piece) → AllWellFormed n slots → Over P 1 (letters slots)
  pieces-over [] w = tt
  pieces-over (power i e ∷ below) w =
      over-append P 1 (replicate e i) (letters below) (over-block P 1 e i w.0.low w.0.high) (pieces-over below w.1)
  pieces-over (string [] ∷ below) w = absurd w.0
  pieces-over (string (g ∷ pairs) ∷ below) w =
      over-append P 1 (pair_letters (g ∷ pairs)) (letters below) (pairs-over (g ∷ pairs) w.0) (pieces-over below w.1)
