-- What is left of a slot whose first letter was taken: it stands for what is left of what the slot stood for, and it stands.
--
-- Main definition: `remaining`. Main laws: `remaining-is`, `meaning-remaining`, `standing-remaining`, `rest-sound`.
use mathlib.Core.Path.{◌≡◌, refl, sym, ap, ◌∙◌}
use mathlib.Core.List.{List, ◌∷◌, map}
use mathlib.Core.Bool.{Bool, true, false}
use Prim.Native.Nat.{ℕ, zero, suc, ◌+◌, ◌*◌, ◌-◌, ◌<◌}
use native.Mathlib.Omega.{arith}
use lib.ListN.{get_or}
use lib.Dec.{ltb}
use Rattle.std.specs.Prelude.{Option, Some, None, cond}
use Rattle.std.proofs.Common.{subst}
use Rattle.std.proofs.lemmas.Option.{cond_some}
use borrow.Author.Tests.{ltb-true}
use Rattle.slots.specs.declared.Slot.{Slot}
use Rattle.slots.specs.declared.Slot.TheVariants.{Power, Relation, Input}
use Rattle.slots.specs.Slots.{Sound, on_top, lessened, power_of, front_of, rest_of, pair_lessened, remaining_of}
use Rattle.slots.specs.Pieces.{Piece, power, string, stretch, meaning, rest, unread, Pair}
use Rattle.slots.specs.Stacked.{Sources, Inside, Standing, AllStanding}
use Rattle.slots.proofs.OnTop.{put, map-on_top}
use Rattle.slots.proofs.Strings.{stretch-step, pairs-at}

-- What is left of a slot whose first letter was taken, on the slots below it.
abbrev pub remaining : List ℕ → List ℕ → Slot → List Slot → List Slot
remaining bodies word (Power i e) below = lessened (power_of i) e.0 below
remaining bodies word (Relation s k) below = remaining_of bodies s k (Relation (s + 1) (k - 1)) below
remaining bodies word (Input s k) below = remaining_of word s k (Input (s + 1) (k - 1)) below

-- The slots with a rest on top of them, if there is one.
abbrev pub over : Option Slot → List Slot → List Slot
over (Some after) below = after ∷ below
over None below = below

over-test : (t : Bool) (after : Slot) (below : List Slot) → on_top t after below ≡ over (cond t (Some after) None) below
over-test true after below = refl
over-test false after below = refl

-- It is the rest, and above it the power that the slot begins with, lessened.
pub remaining-is
    : (bodies word : List ℕ) (x : Slot) (below : List Slot)
    → remaining bodies word x below
    ≡ lessened (power_of (front_of bodies word x).0) (front_of bodies word x).1.0 (over (rest_of x) below)
remaining-is bodies word (Power i e) below = refl
remaining-is bodies word (Relation s k) below =
    ap (pair_lessened bodies s) (over-test (ltb 1 k) (Relation (s + 1) (k - 1)) below)
remaining-is bodies word (Input s k) below =
    ap (pair_lessened word s) (over-test (ltb 1 k) (Input (s + 1) (k - 1)) below)

-- A rest can be stored.
pub rest-sound
    : (n : ℕ) (bodies word : List ℕ) (x y : Slot) → Sources n bodies word → Standing n bodies word x → rest_of x ≡ Some y → Sound y
rest-sound n bodies word (Power i e) y src h r = cc
rest-sound n bodies word (Relation s k) y src h r =
    let is = cond_some (ltb 1 k) (Relation (s + 1) (k - 1)) y r in
    let more : 1 < k = ltb-true 1 k is.0 in
    subst Sound is.1 (omega arith)
rest-sound n bodies word (Input s k) y src h r =
    let is = cond_some (ltb 1 k) (Input (s + 1) (k - 1)) y r in
    let more : 1 < k = ltb-true 1 k is.0 in
    subst Sound is.1 (omega arith)

-- A string is put back exactly if a pair of it remains.
unread-stretch
    : (text : List ℕ) (s k : ℕ) (below : List Piece) → Inside text s k
    → on_top (ltb 1 k) (string (stretch text (s + 1) (k - 1))) below ≡ unread (stretch text (s + 1) (k - 1)) below
unread-stretch text s zero below h = absurd (omega arith)
unread-stretch text s (suc zero) below h = refl
unread-stretch text s (suc (suc k)) below h =
    let step = stretch-step text (s + 1) (suc (suc k) - 1) (record { some = omega arith; within = omega arith }) in
    put 1 (suc (suc k)) (string (stretch text (s + 1) (suc (suc k) - 1))) below (omega arith)
    ∙ ap (λ (l : List ℕ). string l ∷ below) step
    ∙ sym (ap (λ (l : List ℕ). unread l below) step)

module _ (bodies word : List ℕ) where
  meaning-string
      : (text : List ℕ) (s k : ℕ) (after : Slot) (below : List Slot) → Inside text s k
      → meaning bodies word after ≡ string (stretch text (s + 1) (k - 1))
      → map (meaning bodies word) (remaining_of text s k after below)
      ≡ rest (string (stretch text s k)) (map (meaning bodies word) below)
  meaning-string text s k after below h e =
      let i : ℕ = get_or text (2 * s) 0 in
      let a : ℕ = get_or text (2 * s + 1) 0 in
      let under : List Piece = map (meaning bodies word) below in
      map-on_top (meaning bodies word) (ltb 1 a) (power_of (record { 0 = i }) (a - 1)) (on_top (ltb 1 k) after below)
      ∙ ap (λ (l : List Piece). lessened (power i) a l)
      (map-on_top (meaning bodies word) (ltb 1 k) after below
      ∙ ap (λ (x : Piece). on_top (ltb 1 k) x under) e
      ∙ unread-stretch text s k under h)
      ∙ sym (ap (λ (l : List ℕ). rest (string l) under) (stretch-step text s k h))

  -- What is left stands for what is left of what the slot stood for.
  pub meaning-remaining
      : (n : ℕ) (x : Slot) (below : List Slot) → Standing n bodies word x
      → map (meaning bodies word) (remaining bodies word x below) ≡ rest (meaning bodies word x) (map (meaning bodies word) below)
  meaning-remaining n (Power i e) below h = map-on_top (meaning bodies word) (ltb 1 e.0) (power_of i (e.0 - 1)) below
  meaning-remaining n (Relation s k) below h = meaning-string bodies s k (Relation (s + 1) (k - 1)) below h refl
  meaning-remaining n (Input s k) below h = meaning-string word s k (Input (s + 1) (k - 1)) below h refl

  module _ (n : ℕ) where
    standing-on_top
        : (t : Bool) (x : Slot) (below : List Slot) → (t ≡ true → Standing n bodies word x) → AllStanding n bodies word below
        → AllStanding n bodies word (on_top t x below)
    standing-on_top true x below h all = (h refl, all)
    standing-on_top false x below h all = all

    standing-lessened
        : (i e : ℕ) (below : List Slot) → Pair n i e → AllStanding n bodies word below
        → AllStanding n bodies word (lessened (power_of (record { 0 = i })) e below)
    standing-lessened i e below h all =
        standing-on_top (ltb 1 e) (power_of (record { 0 = i }) (e - 1)) below
        (λ t.
        let more : 1 < e = ltb-true 1 e t in record { low = h.low; high = h.high; some = omega arith })
        all

    standing-string
        : (text : List ℕ) (s k : ℕ) (after : Slot) (below : List Slot)
        → Pair n (get_or text (2 * s) 0) (get_or text (2 * s + 1) 0)
        → (1 < k → Standing n bodies word after) → AllStanding n bodies word below
        → AllStanding n bodies word (remaining_of text s k after below)
    standing-string text s k after below p h all =
        standing-lessened (get_or text (2 * s) 0) (get_or text (2 * s + 1) 0) (on_top (ltb 1 k) after below) p
        (standing-on_top (ltb 1 k) after below (λ t. h (ltb-true 1 k t)) all)

    -- What is left of a slot that stands, stands.
    pub standing-remaining
        : (x : Slot) (below : List Slot) → Sources n bodies word → Standing n bodies word x → AllStanding n bodies word below
        → AllStanding n bodies word (remaining bodies word x below)
    standing-remaining (Power i e) below src h all = standing-lessened i.0 e.0 below h all
    standing-remaining (Relation s k) below src h all =
        standing-string bodies s k (Relation (s + 1) (k - 1)) below (pairs-at n bodies s k src.body_pairs h)
        (λ m. record { some = omega arith; within = omega arith }) all
    standing-remaining (Input s k) below src h all =
        standing-string word s k (Input (s + 1) (k - 1)) below (pairs-at n word s k src.word_pairs h)
        (λ m. record { some = omega arith; within = omega arith }) all
