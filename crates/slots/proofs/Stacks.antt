-- The stack between two steps, for those who push and take: its slots can be stored, they stand for pieces that are well formed,
-- and its word begins with a generator.
--
-- Main laws: `length-pieces`, `all-well-formed`, `sound`, `standing-top`, `leading_top`, `stacked-widen`.
use mathlib.Core.Path.{◌≡◌, ◌∙◌}
use mathlib.Core.List.{List, [], ◌∷◌, map}
use Prim.Native.Nat.{ℕ, ◌+◌, ◌*◌, ◌-◌, ◌/◌, ◌≤◌}
use native.Mathlib.Omega.{arith}
use lib.ListN.{length, get_or, length-map}
use Rattle.slots.specs.declared.Slot.{Slot}
use Rattle.slots.specs.declared.Slot.TheVariants.{Power, Relation, Input}
use Rattle.slots.specs.Slots.{slot_at, stack, Sound}
use Rattle.slots.specs.Pieces.{string, stretch, meaning, pieces, leading, Pairs, WellFormed, AllWellFormed}
use Rattle.slots.specs.Stacked.{Sources, Inside, Standing, AllStanding, Stacked}
use Rattle.slots.proofs.Stores.{stack_top, length-stack}
use Rattle.slots.proofs.Strings.{stretch-step, pairs-stretch, pair-widen, pairs-widen}
use Rattle.slots.proofs.Letters.{leading-one}

module _ (bodies word : List ℕ) where
  pub length-pieces : (ws : List ℕ) (d : ℕ) → length (pieces bodies word ws d) ≡ d
  length-pieces ws d = length-map (stack ws d) (meaning bodies word) ∙ length-stack ws d

  module _ (n : ℕ) where
    well-formed-string : (text : List ℕ) (s k : ℕ) → Pairs n text → Inside text s k → WellFormed n (string (stretch text s k))
    well-formed-string text s k ps h =
        let p : Pairs n (get_or text (2 * s) 0 ∷ get_or text (2 * s + 1) 0 ∷ stretch text (s + 1) (k - 1)) =
        rw (stretch-step text s k h) at (pairs-stretch n text s k ps) in
        rw (stretch-step text s k h) p

    well-formed : (x : Slot) → Sources n bodies word → Standing n bodies word x → WellFormed n (meaning bodies word x)
    well-formed (Power i e) src h = h
    well-formed (Relation s k) src h = well-formed-string bodies s k src.body_pairs h
    well-formed (Input s k) src h = well-formed-string word s k src.word_pairs h

    -- Slots that stand, stand for pieces that are well formed.
    pub all-well-formed
        : (xs : List Slot) → Sources n bodies word → AllStanding n bodies word xs
        → AllWellFormed n (map (meaning bodies word) xs)
    all-well-formed [] src all = tt
    all-well-formed (x ∷ xs) src all = (well-formed x src all.0, all-well-formed xs src all.1)

    -- The slots that stand can be stored.
    pub sound : (x : Slot) → Sources n bodies word → Standing n bodies word x → Sound x
    sound (Power i e) src h = omega arith
    sound (Relation s k) src h = omega arith
    sound (Input s k) src h = omega arith

    -- The top slot stands.
    pub standing-top
        : {ws : List ℕ} {d : ℕ} (x : Slot) → 1 ≤ d → Stacked n bodies word ws d → slot_at ws (d - 1) ≡ x
        → Standing n bodies word x × AllStanding n bodies word (stack ws (d - 1))
    standing-top {ws} {d} x h st e =
        let all : Standing n bodies word (slot_at ws (d - 1)) × AllStanding n bodies word (stack ws (d - 1)) =
        rw (stack_top ws d h) at st.slots in
        (rw e at all.0, all.1)

    some-pieces : (ws : List ℕ) (d : ℕ) → 1 ≤ d → 1 ≤ length (pieces bodies word ws d)
    some-pieces ws d h = let l : length (pieces bodies word ws d) ≡ d = length-pieces ws d in omega arith

    -- The generator of the top slot is one of the n.
    pub leading_top
        : {ws : List ℕ} {d : ℕ} → 1 ≤ d → Stacked n bodies word ws d
        → (1 ≤ leading (pieces bodies word ws d)) × (leading (pieces bodies word ws d) ≤ n)
    leading_top {ws} {d} h st =
        leading-one n (pieces bodies word ws d) (some-pieces ws d h) (all-well-formed (stack ws d) st.sources st.slots)

-- Over no more than 40 generators the stack stands over 40, which is all that reading it asks.
standing-widen
    : (n m : ℕ) (bodies word : List ℕ) (xs : List Slot) → n ≤ m → AllStanding n bodies word xs → AllStanding m bodies word xs
standing-widen n m bodies word [] le all = tt
standing-widen n m bodies word (Power i e ∷ xs) le all =
    (pair-widen le all.0, standing-widen n m bodies word xs le all.1)
standing-widen n m bodies word (Relation s k ∷ xs) le all = (all.0, standing-widen n m bodies word xs le all.1)
standing-widen n m bodies word (Input s k ∷ xs) le all = (all.0, standing-widen n m bodies word xs le all.1)

pub stacked-widen : {n : ℕ} {bodies word ws : List ℕ} {d : ℕ} → Stacked n bodies word ws d → Stacked 40 bodies word ws d
stacked-widen {n} {bodies} {word} {ws} {d} st =
    let le : n ≤ 40 = st.sources.rank in
    record {
      sources =
          record {
            rank = omega arith;
            body_pairs = pairs-widen n 40 bodies le st.sources.body_pairs;
            body_count = st.sources.body_count;
            word_pairs = pairs-widen n 40 word le st.sources.word_pairs;
            word_count = st.sources.word_count;
          };
      fits = st.fits;
      slots = standing-widen n 40 bodies word (stack ws d) le st.slots;
    }

-- A depth is within the room exactly if its slots are within the workspace.
pub room_fits : (d l : ℕ) → d ≤ l / 3 → 3 * d ≤ l
room_fits d l h = omega arith

pub fits-room : (d l : ℕ) → 3 * d ≤ l → d ≤ l / 3
fits-room d l h = omega arith
