-- One turn of the run: what a placing's answer says of the step, and what it leaves to be run.
--
-- Main results: `Underway`, `turn_on`, `turn-off`, `turn_end`, `turn-falls`.
use mathlib.Core.Path.{◌≡◌, refl, sym, ap, ◌∙◌, subst}
use mathlib.Core.List.{List, [], ◌∷◌}
use mathlib.Core.Bool.{Bool, true, false}
use Prim.Native.Nat.{ℕ, ◌+◌, ◌-◌, ◌*◌, ◌/◌, ◌≤◌, ◌<◌}
use native.Mathlib.Omega.{arith}
use lib.ListN.{length}
use lib.Dec.{ltb}
use Rattle.theory.specs.Presentation.{Vector, Normal}
use Rattle.theory.specs.Placing.{cost}
use Rattle.layout.specs.declared.View.{View}
use Rattle.layout.specs.Header.{prime_of, rank_of}
use Rattle.layout.specs.Contents.{stretch_of}
use Rattle.layout.specs.Relations.{presentation}
use Rattle.layout.proofs.Valid.{valid}
use Rattle.slots.specs.Slots.{stack}
use Rattle.slots.specs.Pieces.{Piece, pieces, letters, Pairs, AllWellFormed}
use Rattle.slots.specs.Stacked.{Stacked}
use Rattle.slots.proofs.Stacks.{length-pieces, all-well-formed}
use Rattle.std.specs.Prelude.{Ok, Err}
use Rattle.layout.specs.declared.refusal.Refusal.{Refusal}
use Rattle.layout.specs.Refusals.{refusal_number}
use Rattle.layout.proofs.Refusals.{number-some}
use Rattle.placing.specs.declared.Placement.{Placement}
use Rattle.placing.specs.Step.{Step, refuse, lead, step, placing_of, slots_after}
use Rattle.placing.specs.Ready.{Ground, Steps}
use Rattle.placing.specs.Ready.{Tells as Says}
use Rattle.collector.specs.Run.{Outcome, done, refused, Runs, ends, stops, goes, outcome}
use Rattle.collector.specs.Running.{Begins, Tells, Ran}
use Rattle.collector.proofs.Grounding.{relation-formed}
use Rattle.collector.proofs.Outcomes.{Leads, leads, leads-normal, falls, outcome-is}

-- A step is refused only by 9 and 10.
pub refuses : (nums : List ℕ) (left room : ℕ) (v : Vector) (slots : List Piece) (k : ℕ) → step nums left room v slots ≡ refuse k → k ≡ 0 → ⊥
refuses nums left room v slots k h z = go (ltb left (cost (placing_of nums v slots))) refl (ltb room (length (slots_after nums v slots))) refl
  where
    go : (a : Bool) → ltb left (cost (placing_of nums v slots)) ≡ a → (b : Bool) → ltb room (length (slots_after nums v slots)) ≡ b → ⊥
    go true x b y = let q : ◌≡◌ {A = Step} (refuse 9) (refuse k) = rw (x, step) at h in let r : 9 ≡ k = cc in omega arith
    go false x true y = let q : ◌≡◌ {A = Step} (refuse 10) (refuse k) = rw (x, y, step) at h in let r : 10 ≡ k = cc in omega arith
    go false x false y =
        let s = placing_of nums v slots in
        let q : ◌≡◌ {A = Step} (lead s.vector (slots_after nums v slots) s.exchanges s.powers) (refuse k) = rw (x, y, step) at h in
        let r : ◌≡◌ {A = ℕ} 0 1 = cc in omega arith

says-lead : (s : Step) (r : Placement) (v : Vector) (slots : List Piece) → ((k : ℕ) → s ≡ refuse k → k ≡ 0 → ⊥) → Says s (Ok r) v slots
    → s ≡ lead v slots r.exchanges r.powers
says-lead (refuse k) r v slots never h = absurd (never k refl (sym h))
says-lead (lead v' slots' e p) r v slots never h =
    let a : v ≡ v' = h.1 in let b : slots ≡ slots' = h.2 in let c : r.exchanges ≡ e = h.3 in let d : r.powers ≡ p = h.4 in cc

says-refuse : (s : Step) (r : Refusal) (v : Vector) (slots : List Piece) → Says s (Err r) v slots → s ≡ refuse (refusal_number r)
says-refuse (refuse k) r v slots h = ap refuse (sym h)
says-refuse (lead v' slots' e p) r v slots h = absurd (omega (arith, h.0, number-some r))

-- A step on slots that are not empty, by the rules.
goes_on : {nums : List ℕ} {budget room : ℕ} {v v' : Vector} (slots : List Piece) {after : List Piece} (c : ℕ) {e p : ℕ} {o : Outcome} → 1 ≤ length slots
    → step nums (budget - c) room v slots ≡ lead v' after e p → Runs nums budget room v' after (c + (e + p)) o → Runs nums budget room v slots c o
goes_on [] c h a r = absurd (omega arith)
goes_on (x ∷ below) c h a r = goes a r

stops-there : {nums : List ℕ} {budget room : ℕ} {v : Vector} (slots : List Piece) (c : ℕ) {k : ℕ} → 1 ≤ length slots
    → step nums (budget - c) room v slots ≡ refuse k → Runs nums budget room v slots c (refused k c)
stops-there [] c h a = absurd (omega arith)
stops-there (x ∷ below) c h a = stops a

-- What the run has come to: from there the same outcomes as from the start.
pub record Underway (nums bodies : List ℕ) (v₀ : Vector) (word : List ℕ) (budget c₀ : ℕ) (ws₀ : List ℕ) (d₀ : ℕ) (v : Vector) (ws : List ℕ)
    (c d : ℕ) : Type 0 where
  pub normal : Normal (presentation nums) (rank_of nums) 1 v
  pub stacked : Stacked (rank_of nums) bodies word ws d
  pub paid : c ≤ budget
  pub kept : length ws ≡ length ws₀
  pub on : (o : Outcome) → Runs nums budget (length ws₀ / 3) v (pieces bodies word ws d) c o
      → Runs nums budget (length ws₀ / 3) v₀ (pieces bodies word ws₀ d₀) c₀ o

module _ {nums bodies word : List ℕ} {view : View} (ground : Ground nums view bodies word) where
  formed : {ws : List ℕ} {d : ℕ} → Stacked (rank_of nums) bodies word ws d → AllWellFormed (rank_of nums) (pieces bodies word ws d)
  formed {ws} {d} st = all-well-formed bodies word (rank_of nums) (stack ws d) st.sources st.slots

  paired : (i g : ℕ) → 1 ≤ i → i < g → g ≤ rank_of nums → Pairs (rank_of nums) (stretch_of nums i g)
  paired i g l h f = relation-formed nums ground.accepts i g l (omega arith) f

  -- The run's outcome, from any outcome that the rules lead to.
  pub outcome-of : {v : Vector} {budget c : ℕ} {ws : List ℕ} {d : ℕ} {o : Outcome} → Begins nums bodies v word budget c ws d
      → Runs nums budget (length ws / 3) v (pieces bodies word ws d) c o → outcome nums budget (length ws / 3) v (pieces bodies word ws d) c ≡ o
  outcome-of {budget = budget} {ws = ws} b r =
      outcome-is nums budget (length ws / 3) (valid nums ground.accepts) paired b.normal (formed b.stacked) r

  module _ {v₀ : Vector} {budget c₀ : ℕ} {ws₀ : List ℕ} {d₀ : ℕ} (begins : Begins nums bodies v₀ word budget c₀ ws₀ d₀)
      {v : Vector} {ws : List ℕ} {c d : ℕ} (now : Underway nums bodies v₀ word budget c₀ ws₀ d₀ v ws c d) where
    -- The end: no slot is left.
    pub turn_end : d ≡ 0 → Ran nums bodies v₀ word budget c₀ ws₀ d₀ v ws (Ok c)
    turn_end z =
        let r = now.on (done v c) (subst (λ (x : ℕ). Runs nums budget (length ws₀ / 3) v (pieces bodies word ws x) c (done v c)) (sym z) ends) in
        record { kept = now.kept; tells = subst (λ (o : Outcome). Tells o (Ok c) v) (sym (outcome-of begins r)) (refl, refl, refl) }

    -- A placing from there.
    module _ (some : 1 ≤ d) where
      there : 1 ≤ length (pieces bodies word ws d)
      there = let l = length-pieces bodies word ws d in omega (arith, l)

      room-is : length ws / 3 ≡ length ws₀ / 3
      room-is = ap (λ (x : ℕ). x / 3) now.kept

      -- A refusal ends the run.
      pub turn-off : {r : Refusal} {v' : Vector} {ws' : List ℕ} → Steps nums bodies word (budget - c) v ws d v' ws' (Err r)
          → Ran nums bodies v₀ word budget c₀ ws₀ d₀ v' ws' (Err (record { refusal = r; count = c }))
      turn-off {r} {v'} {ws'} steps =
          let k = refusal_number r in
          let a = says-refuse _ r v' (pieces bodies word ws' 0) steps.tells in
          let b = subst (λ (x : ℕ). step nums (budget - c) x v (pieces bodies word ws d) ≡ refuse k) room-is a in
          let o = now.on (refused k c) (stops-there (pieces bodies word ws d) c there b) in
          record {
            kept = steps.kept ∙ now.kept;
            tells = subst (λ (o : Outcome). Tells o (Err (record { refusal = r; count = c })) v') (sym (outcome-of begins o)) (refl, refl);
          }

      module _ {r : Placement} {v' : Vector} {ws' : List ℕ} (steps : Steps nums bodies word (budget - c) v ws d v' ws' (Ok r)) where
        abbrev left : List Piece
        left = pieces bodies word ws' r.depth

        led-to : step nums (budget - c) (length ws₀ / 3) v (pieces bodies word ws d) ≡ lead v' left r.exchanges r.powers
        led-to =
            let a = says-lead _ r v' left (refuses nums (budget - c) (length ws / 3) v (pieces bodies word ws d)) steps.tells in
            subst (λ (x : ℕ). step nums (budget - c) x v (pieces bodies word ws d) ≡ lead v' left r.exchanges r.powers) room-is a

        facts : Leads nums (budget - c) (length ws₀ / 3) v (pieces bodies word ws d) v' left r.exchanges r.powers
        facts = leads nums (budget - c) (length ws₀ / 3) v (pieces bodies word ws d) v' left r.exchanges r.powers led-to

        -- The count stays within the budget.
        pub turn-paid : c + (r.exchanges + r.powers) ≤ budget
        turn-paid = omega (arith, facts.budgeted, facts.exchanges, facts.powers, now.paid)

        -- Otherwise it goes on from what is left.
        pub turn_on : Underway nums bodies v₀ word budget c₀ ws₀ d₀ v' ws' (c + (r.exchanges + r.powers)) r.depth
        turn_on =
            record {
              normal = leads-normal nums budget (length ws₀ / 3) (valid nums ground.accepts) paired now.normal facts;
              stacked = steps.stands refl;
              paid = turn-paid;
              kept = steps.kept ∙ now.kept;
              on = λ o k. now.on o (goes_on (pieces bodies word ws d) c there led-to k);
            }

        pub turn-falls : length (letters left) + rank_of nums * prime_of nums * (budget - (c + (r.exchanges + r.powers)))
            < length (letters (pieces bodies word ws d)) + rank_of nums * prime_of nums * (budget - c)
        turn-falls =
            falls nums budget (length ws₀ / 3) (valid nums ground.accepts) paired c there now.normal (formed now.stacked) facts
