-- One placing, put together: what each test on the way says of the step that document 01 rules.
--
-- Main results: `passes-taken`, `passes-after`: what steps 1 and 2 leave; `refused`, `led`: what is answered at each end of a placing.
use mathlib.Core.Path.{◌≡◌, refl, sym, ap, ap₂, ◌∙◌, subst}
use mathlib.Core.List.{List, [], ◌∷◌, map}
use mathlib.Core.Bool.{Bool, true, false}
use Prim.Native.Nat.{ℕ, zero, suc, ◌+◌, ◌-◌, ◌*◌, ◌/◌, ◌≤◌, ◌<◌}
use native.Mathlib.Omega.{arith}
use lib.ListN.{length, get_or, drop, length-drop, length-map}
use lib.Dec.{ltb}
use borrow.Author.Tests.{lt-ltb, le-ltb}
use Rattle.std.specs.Prelude.{Result, Ok}
use Rattle.theory.specs.Presentation.{Vector}
use Rattle.theory.specs.Placing.{Placed, total, power_uses, cost, place}
use Rattle.theory.proofs.Words.{normal-length}
use Rattle.theory.proofs.Arrays.{placed_at, place_is}
use Rattle.layout.specs.declared.View.{View}
use Rattle.layout.specs.Header.{prime_of, rank_of}
use Rattle.layout.specs.Contents.{stretch_of}
use Rattle.layout.specs.declared.refusal.Refusal.{Refusal}
use Rattle.layout.specs.Refusals.{given}
use Rattle.layout.specs.Relations.{presentation}
use Rattle.slots.specs.Slots.{stack, on_top, lessened}
use Rattle.slots.specs.Pieces.{Piece, power, string, meaning, pieces, leading, taken}
use Rattle.slots.specs.Stacked.{Stacked, Took}
use Rattle.slots.proofs.Stacks.{length-pieces, leading_top}
use Rattle.placing.specs.Exchange.{exchanged, exchange, copies, exchange_slots, cleared, Filled}
use Rattle.placing.specs.Step.{Step, refuse, lead, due, step, placing_of, slots_after}
use Rattle.placing.specs.declared.Placement.{Placement}
use Rattle.placing.specs.Ready.{Ground, Ready, Passes, placement_in, Tells, Steps}
use Rattle.placing.proofs.Meaning.{meaning-exchange, standing-exchange}

-- The exchange only adds slots.
copies-grows : (b : ℕ) (w : List ℕ) (g : ℕ) (below : List Piece) → length below ≤ length (copies b w g below)
copies-grows zero w g below = omega arith
copies-grows (suc b) w g below = let h = copies-grows b w g below in omega arith

exchanged-grows : (w : List ℕ) (g b : ℕ) (below : List Piece) → length below ≤ length (exchanged w g b below)
exchanged-grows w g zero below = omega arith
exchanged-grows [] g (suc b) below = omega arith
exchanged-grows (h ∷ w) g (suc b) below = copies-grows (suc b) (h ∷ w) g below

pub exchange-grows : (nums : List ℕ) (i g : ℕ) (v : Vector) (below : List Piece) → length below ≤ length (exchange nums i g v below)
exchange-grows nums i g [] below = omega arith
exchange-grows nums i g (b ∷ v) below =
    omega (arith, exchange-grows nums i (suc g) v below, exchanged-grows (stretch_of nums i g) g b (exchange nums i (suc g) v below))

-- Taking a letter adds at most one slot.
lessened-small : (i e : ℕ) (below : List Piece) → length (lessened (power i) e below) ≤ suc (length below)
lessened-small i e below = go (ltb 1 e)
  where
    go : (t : Bool) → length (on_top t (power i (e - 1)) below) ≤ suc (length below)
    go true = omega arith
    go false = omega arith

taken-length : (slots : List Piece) → length (taken slots) ≤ suc (length slots)
taken-length [] = omega arith
taken-length (power i e ∷ below) = let h = lessened-small i e below in omega arith
taken-length (string [] ∷ below) = omega arith
taken-length (string (i ∷ []) ∷ below) = omega arith
taken-length (string (i ∷ a ∷ []) ∷ below) = let h = lessened-small i a below in omega arith
taken-length (string (i ∷ a ∷ g ∷ pairs) ∷ below) = lessened-small i a (string (g ∷ pairs) ∷ below)

-- The number that is due, by its tests.
due-more : (left c room r : ℕ) → room < r → 1 ≤ due left c room r
due-more left c room r h = go (ltb left c) refl
  where
    go : (t : Bool) → ltb left c ≡ t → 1 ≤ due left c room r
    go true x = simp (x, lt-ltb room r h, due) (omega arith)
    go false x = simp (x, lt-ltb room r h, due) (omega arith)

pub due-fits : (left c room r : ℕ) → due left c room r ≡ 0 → r ≤ room
due-fits left c room r z = go (r - room) refl
  where
    go : (k : ℕ) → r - room ≡ k → r ≤ room
    go zero e = omega (arith, e)
    go (suc k) e = absurd (omega (arith, z, due-more left c room r (omega (arith, e))))

due-same : (left c room r s : ℕ) → (room < r → room < s) → (r ≤ room → s ≤ room) → due left c room r ≡ due left c room s
due-same left c room r s over fits = go (r - room) refl (ltb left c) refl
  where
    go : (k : ℕ) → r - room ≡ k → (t : Bool) → ltb left c ≡ t → due left c room r ≡ due left c room s
    go zero e true x = simp (x, le-ltb room r (omega (arith, e)), le-ltb room s (fits (omega (arith, e))), due)
    go zero e false x = simp (x, le-ltb room r (omega (arith, e)), le-ltb room s (fits (omega (arith, e))), due)
    go (suc k) e true x = simp (x, lt-ltb room r (omega (arith, e)), lt-ltb room s (over (omega (arith, e))), due)
    go (suc k) e false x = simp (x, lt-ltb room r (omega (arith, e)), lt-ltb room s (over (omega (arith, e))), due)

-- The step by the number that is due.
module _ (nums : List ℕ) (left room : ℕ) (v : Vector) (slots : List Piece) where
  abbrev step_of : ℕ → Step
  step_of zero = lead (placing_of nums v slots).vector (slots_after nums v slots) (placing_of nums v slots).exchanges (placing_of nums v slots).powers
  step_of (suc k) = refuse (suc k)

  step_is : step nums left room v slots ≡ step_of (due left (cost (placing_of nums v slots)) room (length (slots_after nums v slots)))
  step_is = go (ltb left (cost (placing_of nums v slots))) refl (ltb room (length (slots_after nums v slots))) refl
    where
      go : (s : Bool) → ltb left (cost (placing_of nums v slots)) ≡ s → (t : Bool) → ltb room (length (slots_after nums v slots)) ≡ t
          → step nums left room v slots ≡ step_of (due left (cost (placing_of nums v slots)) room (length (slots_after nums v slots)))
      go true x true y = simp (x, y, step, due)
      go true x false y = simp (x, y, step, due)
      go false x true y = simp (x, y, step, due)
      go false x false y = simp (x, y, step, due)

  step-refused : (k : ℕ) → k ≡ due left (cost (placing_of nums v slots)) room (length (slots_after nums v slots)) → (k ≡ 0 → ⊥)
      → step nums left room v slots ≡ refuse k
  step-refused zero e nonzero = absurd (nonzero refl)
  step-refused (suc k) e nonzero = step_is ∙ ap step_of (sym e)

  step-leads : due left (cost (placing_of nums v slots)) room (length (slots_after nums v slots)) ≡ 0
      → step nums left room v slots
      ≡ lead (placing_of nums v slots).vector (slots_after nums v slots) (placing_of nums v slots).exchanges (placing_of nums v slots).powers
  step-leads e = step_is ∙ ap step_of e

-- i is the letter that the slots begin with, e and p are its exchanges and power uses, as the code counts them.
pub record Counted (nums : List ℕ) (v : Vector) (slots : List Piece) (i e p : ℕ) : Type 0 where
  pub leads : i ≡ leading slots
  pub exchanges : e ≡ total (drop i v)
  pub powers : p ≡ power_uses (prime_of nums) (get_or v (i - 1) 0)

module _ {nums bodies word : List ℕ} {v : Vector} {ws : List ℕ} {d : ℕ} (ready : Ready nums bodies v word ws d) where
  abbrev slots : List Piece
  slots = pieces bodies word ws d

  abbrev n : ℕ
  n = rank_of nums

  abbrev room : ℕ
  room = length ws / 3

  pub long : length v ≡ rank_of nums
  long = normal-length (presentation nums) (rank_of nums) 1 v ready.normal

  pub taken-small : length (taken slots) ≤ suc d
  taken-small = let l = length-pieces bodies word ws d in let h = taken-length slots in omega (arith, l, h)

  range : (1 ≤ leading slots) × (leading slots ≤ rank_of nums)
  range = leading_top bodies word (rank_of nums) ready.some ready.stacked

  pub range-of : (i : ℕ) → i ≡ leading slots → (1 ≤ i) × (i ≤ rank_of nums)
  range-of i e = (omega (arith, range, e), omega (arith, range, e))

  -- Steps 1 and 2, with the letter i.
  module _ {i : ℕ} (is : i ≡ leading slots) where
    in-range : (1 ≤ i) × (i ≤ rank_of nums)
    in-range = range-of i is

    -- What is left on the slots is what is exchanged on what was taken.
    slots-are : slots_after nums v slots ≡ exchange nums i (suc i) (drop i v) (taken slots)
    slots-are = ap (λ (x : ℕ). exchange nums x (suc x) (drop x v) (taken slots)) (sym is)

    -- Step 1 without room.
    pub passes-taken : {ws₁ : List ℕ} {t : ℕ} → Took bodies word ws d ws₁ t → length ws < 3 * t → Passes nums bodies word i v ws d v ws₁ t
    passes-taken {ws₁} {t} took full =
        let f = ap length slots-are in
        record {
          kept = took.kept;
          over = λ h. omega (arith, exchange-grows nums i (suc i) (drop i v) (taken slots), took.depth, full, f);
          slots = λ h. absurd (omega (arith, h, full));
          stands = λ h. absurd (omega (arith, h, full));
          vector = λ h. absurd (omega (arith, h, full));
        }

    -- Step 2, once step 1 has left t slots on ws₁: the slots that are put stand for those of document 01.
    module _ {view : View} (ground : Ground nums view bodies word) {ws₁ : List ℕ} {t : ℕ} (took : Took bodies word ws d ws₁ t) (fit : 3 * t ≤ length ws) where
      below-tail : length (drop i v) + suc i ≤ suc (rank_of nums)
      below-tail = let l = length-drop i v in omega (arith, l, in-range, long)

      after_is : map (meaning bodies word) (exchange_slots nums i (suc i) (drop i v) (stack ws₁ t)) ≡ slots_after nums v slots
      after_is =
          meaning-exchange bodies word nums ground.accepts ground.bodies_are i (suc i) (drop i v) (stack ws₁ t) in-range.0 (omega arith) below-tail
          ∙ ap (exchange nums i (suc i) (drop i v)) (took.left fit)
          ∙ sym slots-are

      after-length : length (exchange_slots nums i (suc i) (drop i v) (stack ws₁ t)) ≡ length (slots_after nums v slots)
      after-length =
          sym (length-map (exchange_slots nums i (suc i) (drop i v) (stack ws₁ t)) (meaning bodies word)) ∙ ap length after_is

      module _ {ws₂ : List ℕ} {r : ℕ} (filled : Filled (exchange_slots nums i (suc i) (drop i v) (stack ws₁ t)) ws₁ ws₂ r) where
        after-stacked : 3 * r ≤ length ws → Stacked (rank_of nums) bodies word ws₂ r
        after-stacked h =
            let before = took.stacked (rank_of nums) ready.stacked fit in
            record {
              sources = ground.sources;
              fits = omega (arith, filled.kept, took.kept, h);
              slots =
                  rw (filled.fits (omega (arith, took.kept, h)))
                  (standing-exchange bodies word nums ground.accepts ground.bodies_are i (suc i) (drop i v) (stack ws₁ t) in-range.0 (omega arith) below-tail
                  before.slots);
            }

        pub passes-after : {v' : Vector} → (3 * r ≤ length ws₁ → v' ≡ cleared i v) → Passes nums bodies word i v ws d v' ws₂ r
        passes-after vector =
            record {
              kept = filled.kept ∙ took.kept;
              over = λ h. let o = filled.over (omega (arith, took.kept, h)) in omega (arith, o, after-length, took.kept);
              slots = λ h. ap (map (meaning bodies word)) (filled.fits (omega (arith, took.kept, h))) ∙ after_is;
              stands = λ h. after-stacked (omega (arith, h));
              vector = λ h. vector (omega (arith, took.kept, h));
            }

  -- BUDGET and ROOM, and where a placing leads.
  module _ {i e p : ℕ} (counted : Counted nums v slots i e p) where
    placing-is : placing_of nums v slots ≡ placed_at (presentation nums) v i (i - 1)
    placing-is =
        let h = in-range counted.leads in
        ap (place (presentation nums) 1 v) (sym counted.leads)
        ∙ place_is (presentation nums) 1 v i (i - 1) (omega (arith, h)) (omega (arith, h, long))

    -- The replacements, as the code counts them.
    exchanges-are : e ≡ (placing_of nums v slots).exchanges
    exchanges-are =
        let f : i ≡ suc (i - 1) = omega (arith, in-range counted.leads) in
        counted.exchanges ∙ ap (λ (x : ℕ). total (drop x v)) f ∙ sym (ap (λ (r : Placed). r.exchanges) placing-is)

    powers-are : p ≡ (placing_of nums v slots).powers
    powers-are = counted.powers ∙ sym (ap (λ (r : Placed). r.powers) placing-is)

    module _ {v' : Vector} {ws' : List ℕ} {r : ℕ} (passes : Passes nums bodies word i v ws d v' ws' r) where
      -- The code's comparisons are document 01's.
      due-is : (left : ℕ) → due left (e + p) room r ≡ due left (cost (placing_of nums v slots)) room (length (slots_after nums v slots))
      due-is left =
          ap (λ (x : ℕ). due left x room r) (ap₂ (λ (x y : ℕ). x + y) exchanges-are powers-are)
          ∙ due-same left (cost (placing_of nums v slots)) room r (length (slots_after nums v slots)) passes.over
          (λ h. let l = length-pieces bodies word ws' r in let q = ap length (passes.slots h) in omega (arith, l, q, h))

      -- A refusal says its number, and nothing of the vector and the slots.
      pub refused : {left : ℕ} {q : Result Placement Refusal} → given q ≡ due left (e + p) room r → (given q ≡ 0 → ⊥)
          → Steps nums bodies word left v ws d v' ws' q
      refused {left} {q} a nonzero =
          record {
            kept = passes.kept;
            tells =
                subst (λ (x : Step). Tells x q v' (pieces bodies word ws' (placement_in q).depth))
                (sym (step-refused nums left room v slots (given q) (a ∙ due-is left) nonzero)) refl;
            stands = λ z. absurd (nonzero z);
          }

      pub led : {left : ℕ} {v'' : Vector} → due left (e + p) room r ≡ 0 → v'' ≡ (place (presentation nums) 1 v i).vector
          → Steps nums bodies word left v ws d v'' ws' (Ok (record { depth = r; exchanges = e; powers = p }))
      led {left} {v''} z vector =
          record {
            kept = passes.kept;
            tells =
                subst (λ (x : Step). Tells x (Ok (record { depth = r; exchanges = e; powers = p })) v'' (pieces bodies word ws' r))
                (sym (step-leads nums left room v slots (sym (due-is left) ∙ z))) (
                  refl,
                  vector ∙ ap (λ (x : ℕ). (place (presentation nums) 1 v x).vector) counted.leads,
                  passes.slots (due-fits left (e + p) room r z),
                  exchanges-are,
                  powers-are,
                );
            stands = λ y. passes.stands (due-fits left (e + p) room r z);
          }
