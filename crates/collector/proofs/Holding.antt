-- Starting slots: what putting them one by one makes the workspace hold, and what they stand for.
--
-- Main results: `held_none`, `held-put`; `begun-at`; `sets-held`, `told`.
use mathlib.Core.Path.{◌≡◌, refl, sym, ap, ◌∙◌, subst}
use mathlib.Core.List.{List, [], ◌∷◌, map}
use mathlib.Core.Bool.{Bool, true, false}
use Prim.Native.Nat.{ℕ, zero, suc, ◌+◌, ◌*◌, ◌/◌, ◌≤◌}
use native.Mathlib.Omega.{arith}
use native.Mathlib.Numerals.{add-one}
use lib.ListN.{length, length-map}
use lib.Dec.{ltb}
use borrow.Author.Tests.{ltb-true, ltb-false, lt-ltb, le-ltb}
use Rattle.theory.specs.Presentation.{Vector, Normal}
use Rattle.layout.specs.declared.View.{View}
use Rattle.layout.specs.Header.{rank_of}
use Rattle.layout.specs.Relations.{presentation}
use Rattle.slots.specs.declared.Slot.{Slot}
use Rattle.slots.specs.Pieces.{meaning}
use Rattle.slots.specs.Stacked.{Sources, AllStanding, Stacked}
use Rattle.collector.specs.Run.{Outcome, outcome, begun}
use Rattle.placing.specs.Ready.{Ground}
use Rattle.std.specs.Prelude.{Result}
use Rattle.collector.specs.declared.Refused.{Refused}
use Rattle.collector.specs.Running.{Tells, begun_at, Sets, Settled, Answers}
use Rattle.collector.specs.Starting.{word_start, power_start, Put, Held}

pub held_none : (ws : List ℕ) → Held [] ws 0
held_none ws = record { depth = refl; fits = λ room. refl }

pub held-put : {slots : List Slot} {x : Slot} {ws ws' : List ℕ} {d : ℕ} → Held slots ws d → Put x ws d ws' → Held (x ∷ slots) ws' (d + 1)
held-put {slots} {x} {ws} {ws'} {d} h p =
    record {
      depth = add-one d ∙ ap suc h.depth;
      fits = λ room.
          (p.pushed (omega (arith, p.kept))).stacked ∙ ap (λ (l : List Slot). x ∷ l) (h.fits (omega (arith, p.kept)));
    }

-- What is held stands for the pieces that the slots mean.
module _ (nums bodies word : List ℕ) {slots : List Slot} {ws : List ℕ} {d : ℕ} (held : Held slots ws d) where
  -- The room, by slots or by numbers.
  room-alike : ltb (length ws) (3 * d) ≡ ltb (length ws / 3) (length (map (meaning bodies word) slots))
  room-alike = go (ltb (length ws) (3 * d)) refl
    where
      l : length (map (meaning bodies word) slots) ≡ d
      l = length-map slots (meaning bodies word) ∙ sym held.depth

      go : (b : Bool) → ltb (length ws) (3 * d) ≡ b → ltb (length ws) (3 * d) ≡ ltb (length ws / 3) (length (map (meaning bodies word) slots))
      go true e = let h = ltb-true (length ws) (3 * d) e in e ∙ sym (lt-ltb (length ws / 3) (length (map (meaning bodies word) slots)) (omega (arith, h, l)))
      go false e = let h = ltb-false (length ws) (3 * d) e in e ∙ sym (le-ltb (length ws / 3) (length (map (meaning bodies word) slots)) (omega (arith, h, l)))

  pub begun-at : (v : Vector) (budget c : ℕ)
      → begun_at nums bodies v word budget c ws d ≡ begun nums budget (length ws / 3) v (map (meaning bodies word) slots) c
  begun-at v budget c = go (ltb (length ws) (3 * d)) refl
    where
      go : (b : Bool) → ltb (length ws) (3 * d) ≡ b
          → begun_at nums bodies v word budget c ws d ≡ begun nums budget (length ws / 3) v (map (meaning bodies word) slots) c
      go true e = rw (e, begun_at) (rw (sym room-alike ∙ e, begun))
      go false e =
          let h = ltb-false (length ws) (3 * d) e in
          rw (e, begun_at)
          (rw (sym room-alike ∙ e, begun) (ap (λ (l : List Slot). outcome nums budget (length ws / 3) v (map (meaning bodies word) l) c) (held.fits h)))

  pub held-stacked : Sources (rank_of nums) bodies word → AllStanding (rank_of nums) bodies word slots → 3 * d ≤ length ws
      → Stacked (rank_of nums) bodies word ws d
  held-stacked src all room = record { sources = src; fits = room; slots = subst (AllStanding (rank_of nums) bodies word) (sym (held.fits room)) all }

pub word-start-few : (w : List ℕ) → length (word_start w) ≤ 1
word-start-few [] = omega arith
word-start-few (g ∷ w) = omega arith

pub power-start-few : (g : ℕ) (v : Vector) → length (power_start g v) ≤ length v
power-start-few g [] = omega arith
power-start-few g (zero ∷ v) = let h = power-start-few (suc g) v in omega arith
power-start-few g (suc e ∷ v) = let h = power-start-few (suc g) v in omega arith

-- From starting slots that are held, on a workspace of the same length: what settling needs, and what it answers.
module _ {nums bodies word : List ℕ} {view : View} (ground : Ground nums view bodies word) {slots : List Slot} {ws₁ : List ℕ} {d : ℕ}
    (held : Held slots ws₁ d) where
  pub sets-held : {v : Vector} {budget c : ℕ} → AllStanding (rank_of nums) bodies word slots → Normal (presentation nums) (rank_of nums) 1 v → c ≤ budget
      → d ≤ 1000
      → Sets nums bodies v word budget c ws₁ d
  sets-held all p h few =
      record { normal = p; stacked = held-stacked nums bodies word held ground.sources all; paid = h; few = few }

  pub told : {v : Vector} {budget c : ℕ} {ws : List ℕ} {v' : Vector} {ws' : List ℕ} {answer : Result ℕ Refused} → length ws₁ ≡ length ws
      → Settled nums bodies v word budget c ws₁ d v' ws' answer
      → Answers (begun nums budget (length ws / 3) v (map (meaning bodies word) slots) c) ws v' ws' answer
  told {v} {budget} {c} {ws} {v'} {ws'} {answer} kept s =
      record {
        kept = s.kept ∙ kept;
        tells =
            subst (λ (o : Outcome). Tells o answer v')
            (begun-at nums bodies word held v budget c ∙ ap (λ (n : ℕ). begun nums budget (n / 3) v (map (meaning bodies word) slots) c) kept)
            s.tells;
      }
