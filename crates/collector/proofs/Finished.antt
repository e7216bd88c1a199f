-- What an outcome is good for: DONE with a normal vector and a count within the budget, or a number that is not 0.
--
-- Main results: `begun-fine`, `turned-fine`, `inverting-fine`; `tells-done`, `tells-refused`; `closes`, `settled-closes`.
use mathlib.Core.Path.{◌≡◌, refl, sym, ap, ◌∙◌}
use mathlib.Core.List.{List, [], ◌∷◌}
use mathlib.Core.Bool.{Bool, true, false, cond}
use Prim.Native.Nat.{ℕ, zero, suc, ◌+◌, ◌-◌, ◌*◌, ◌/◌, ◌≤◌, ◌<◌}
use native.Mathlib.Omega.{arith}
use borrow.Author.Rules.{rules}
use lib.ListN.{length, get_or, replicate}
use lib.Dec.{ltb, eqb}
use borrow.Author.Tests.{eq-eqb, ne_eqb, ltb-false}
use Rattle.theory.specs.Presentation.{Vector, Normal}
use Rattle.layout.specs.Header.{rank_of, exponent_of}
use Rattle.layout.specs.Judged.{judged}
use Rattle.layout.specs.Relations.{presentation}
use Rattle.layout.proofs.Valid.{valid}
use Rattle.slots.specs.Pieces.{Piece, power, pieces, Pairs, AllWellFormed}
use Rattle.slots.specs.Slots.{stack}
use Rattle.slots.proofs.Stacks.{all-well-formed}
use Rattle.layout.specs.Contents.{stretch_of}
use Rattle.layout.specs.declared.View.{View}
use Rattle.placing.specs.Ready.{Ground}
use Rattle.theory.proofs.Arrays.{normal-at}
use Rattle.std.specs.Prelude.{Result}
use Rattle.collector.specs.declared.Refused.{Refused}
use Rattle.collector.specs.Given.{number_in, count_in}
use Rattle.collector.specs.Run.{Outcome, done, refused, Runs, ends, stops, goes, begun}
use Rattle.collector.specs.Running.{Tells, begun_at, Sets, Settled}
use Rattle.collector.specs.Calls.{behind, turned, inverting, closed, Leaves}
use Rattle.collector.proofs.Grounding.{relation-formed}
use Rattle.collector.proofs.Outcomes.{leads, leads-normal, leads-formed, runs-outcome}
use Rattle.collector.proofs.Turning.{refuses}

abbrev pub Fine : List ℕ → ℕ → Outcome → Type 0
Fine nums budget (done r d) = Normal (presentation nums) (rank_of nums) 1 r × (d ≤ budget)
Fine nums budget (refused k d) = k ≡ 0 → ⊥

module _ (nums : List ℕ) (accepts : judged nums ≡ 0) (budget room : ℕ) where
  paired : (i g : ℕ) → 1 ≤ i → i < g → g ≤ rank_of nums → Pairs (rank_of nums) (stretch_of nums i g)
  paired i g l m f = relation-formed nums accepts i g l (omega arith) f

  runs-fine : {v : Vector} {slots : List Piece} {c : ℕ} {o : Outcome} → Normal (presentation nums) (rank_of nums) 1 v → AllWellFormed (rank_of nums) slots
      → c ≤ budget
      → Runs nums budget room v slots c o → Fine nums budget o
  runs-fine p w h ends = (p, h)
  runs-fine p w h (stops {v = v} {x = x} {below = below} {c = c} {k = k} a) = refuses nums (budget - c) room v (x ∷ below) k a
  runs-fine p w h (goes {v = v} {v' = v'} {x = x} {below = below} {slots = t} {c = c} {e = e} {p = q} a y) =
      let l = leads nums (budget - c) room v (x ∷ below) v' t e q a in
      runs-fine
      (leads-normal nums budget room (valid nums accepts) paired p l)
      (leads-formed nums budget room (valid nums accepts) paired (omega arith) p w l)
      (omega (arith, l.budgeted, l.exchanges, l.powers, h)) y

  pub begun-fine : (v : Vector) (slots : List Piece) (c : ℕ) → Normal (presentation nums) (rank_of nums) 1 v → AllWellFormed (rank_of nums) slots → c ≤ budget
      → Fine nums budget (begun nums budget room v slots c)
  begun-fine v slots c p w h = go (ltb room (length slots)) refl
    where
      go : (b : Bool) → ltb room (length slots) ≡ b → Fine nums budget (begun nums budget room v slots c)
      go true e = rw (e, begun) (λ z. omega arith)
      go false e = rw (e, begun) (runs-fine p w h (runs-outcome nums budget room (valid nums accepts) paired v slots c p w))

  pub turned-fine : (i : ℕ) (v : Vector) (c : ℕ) → 1 ≤ i → i ≤ rank_of nums → Normal (presentation nums) (rank_of nums) 1 v → c ≤ budget
      → Fine nums budget (turned nums budget room i v c)
  turned-fine i v c low high p h = go (eqb (get_or v (i - 1) 0) 0) refl
    where
      go : (b : Bool) → eqb (get_or v (i - 1) 0) 0 ≡ b → Fine nums budget (turned nums budget room i v c)
      go true e = rw (e, turned) (p, h)
      go false e =
          let a = normal-at (presentation nums) (rank_of nums) 1 (i - 1) v p (omega arith) in
          rw (e, turned)
          (begun-fine v (power i (exponent_of nums i - get_or v (i - 1) 0) ∷ []) c p (record { low = low; high = high; some = omega (arith, a) }, tt) h)

  behind-refuses : (a : ℕ) (o : Outcome) → ((k d : ℕ) → o ≡ refused k d → k ≡ 0 → ⊥) → (k d : ℕ) → behind a o ≡ refused k d → k ≡ 0 → ⊥
  behind-refuses a (done r c) h k d e = let z : ◌≡◌ {A = ℕ} 0 1 = cc in absurd (omega arith)
  behind-refuses a (refused q c) h k d e = h k d e

  pub fine-refuses : (o : Outcome) → Fine nums budget o → (k d : ℕ) → o ≡ refused k d → k ≡ 0 → ⊥
  fine-refuses (done r c) f k d e y = let z : ◌≡◌ {A = ℕ} 0 1 = cc in absurd (omega arith)
  fine-refuses (refused q c) f k d e z = let s : q ≡ k = cc in f (s ∙ z)

  pub begun-refuses : (v : Vector) (slots : List Piece) (c : ℕ) → Normal (presentation nums) (rank_of nums) 1 v → AllWellFormed (rank_of nums) slots
      → c ≤ budget
      → (k d : ℕ) → begun nums budget room v slots c ≡ refused k d → k ≡ 0 → ⊥
  begun-refuses v slots c p w h = fine-refuses (begun nums budget room v slots c) (begun-fine v slots c p w h)

  pub inverting-refuses : (k i : ℕ) (v : Vector) (c : ℕ) → 1 ≤ i → k + i ≡ suc (rank_of nums) → Normal (presentation nums) (rank_of nums) 1 v → c ≤ budget
      → (q d : ℕ) → inverting nums budget room k i v c ≡ refused q d → q ≡ 0 → ⊥
  inverting-refuses zero i v c low fits p h q d e = let z : ◌≡◌ {A = ℕ} 0 1 = cc in absurd (omega arith)
  inverting-refuses (suc k) i v c low fits p h q d e =
      go (turned nums budget room i v c) refl (turned-fine i v c low (omega arith) p h)
      (λ r t n m. inverting-refuses k (suc i) r t (omega arith) (omega arith) n m)
    where
      go : (o : Outcome) → turned nums budget room i v c ≡ o → Fine nums budget o
          → ((r : Vector) (t : ℕ) → Normal (presentation nums) (rank_of nums) 1 r → t ≤ budget
          → (q d : ℕ) → inverting nums budget room k (suc i) r t ≡ refused q d → q ≡ 0 → ⊥)
          → q ≡ 0 → ⊥
      go (done r t) is f rest = behind-refuses _ (inverting nums budget room k (suc i) r t) (rest r t f.0 f.1) q d (rw (is, inverting) at e)
      go (refused x t) is f rest = let g : ◌≡◌ {A = Outcome} (refused x t) (refused q d) = rw (is, inverting) at e in fine-refuses (refused x t) f q d g

-- An answer of 0 says DONE, and any other the refusal.
pub tells-done : (o : Outcome) (answer : Result ℕ Refused) (v : Vector) → ((k d : ℕ) → o ≡ refused k d → k ≡ 0 → ⊥) → Tells o answer v
    → number_in answer ≡ 0 → o ≡ done v (count_in answer)
tells-done (done r c) answer v f t z = let a : count_in answer ≡ c = t.1 in let b : v ≡ r = t.2 in cc
tells-done (refused k c) answer v f t z = absurd (f k c refl (sym t.0 ∙ z))

pub tells-refused : (o : Outcome) (answer : Result ℕ Refused) (v : Vector) → Tells o answer v → (number_in answer ≡ 0 → ⊥)
    → o ≡ refused (number_in answer) (count_in answer)
tells-refused (done r c) answer v t z = absurd (z t.0)
tells-refused (refused k c) answer v t z = let a : number_in answer ≡ k = t.0 in let b : count_in answer ≡ c = t.1 in cc

-- The call's close: the vector is replaced where the answer is 0, and the workspace is cleared.
pub closes : (o : Outcome) (v found : Vector) (ws ws₁ : List ℕ) {answer : Result ℕ Refused} {v' : Vector} {ws' : List ℕ}
    → ((k d : ℕ) → o ≡ refused k d → k ≡ 0 → ⊥) → Tells o answer found
    → length ws₁ ≡ length ws → ws' ≡ replicate (length ws₁) 0 → v' ≡ cond (eqb (number_in answer) 0) found v → Leaves (closed o v ws) answer v' ws'
closes (done r c) v found ws ws₁ {answer} f t kept cleared replaced =
    record {
      number = t.0;
      count = t.1;
      vector_is = replaced ∙ ap (λ (b : Bool). cond b found v) (eq-eqb (number_in answer) 0 t.0) ∙ t.2;
      work_is = cleared ∙ ap (λ (n : ℕ). replicate n 0) kept;
    }
closes (refused k c) v found ws ws₁ {answer} {ws' = ws'} f t kept cleared replaced =
    let empty : ws' ≡ replicate (length ws) 0 = cleared ∙ ap (λ (n : ℕ). replicate n 0) kept in
    record {
      number = t.0;
      count = t.1;
      vector_is = replaced ∙ ap (λ (b : Bool). cond b found v) (ne_eqb (number_in answer) 0 (λ z. f k c refl (sym t.0 ∙ z)));
      work_is = search (rules, empty);
    }

-- From starting slots: the outcome is that of the definition, and closing hands it out.
module _ {nums bodies word : List ℕ} {view : View} (ground : Ground nums view bodies word) {v : Vector} {budget c : ℕ} {ws : List ℕ} {d : ℕ}
    (sets : Sets nums bodies v word budget c ws d) where
  begun_at-fine : Fine nums budget (begun_at nums bodies v word budget c ws d)
  begun_at-fine = go (ltb (length ws) (3 * d)) refl
    where
      go : (b : Bool) → ltb (length ws) (3 * d) ≡ b → Fine nums budget (begun_at nums bodies v word budget c ws d)
      go true e = rw (e, begun_at) (λ z. omega arith)
      go false e =
          let st = sets.stacked (ltb-false (length ws) (3 * d) e) in
          let formed : AllWellFormed (rank_of nums) (pieces bodies word ws d) = all-well-formed bodies word (rank_of nums) (stack ws d) st.sources st.slots in
          rw (e, begun_at)
          (runs-fine nums ground.accepts budget (length ws / 3) sets.normal formed sets.paid
          (runs-outcome nums budget (length ws / 3) (valid nums ground.accepts) (paired nums ground.accepts budget (length ws / 3)) v
          (pieces bodies word ws d) c sets.normal formed))

  pub settled-closes : {own v' : Vector} {ws₁ ws' : List ℕ} {answer : Result ℕ Refused} → Settled nums bodies v word budget c ws d own ws₁ answer
      → ws' ≡ replicate (length ws₁) 0 → v' ≡ cond (eqb (number_in answer) 0) own v
      → Leaves (closed (begun_at nums bodies v word budget c ws d) v ws) answer v' ws'
  settled-closes {own} {ws₁ = ws₁} s cleared replaced =
      let o = begun_at nums bodies v word budget c ws d in
      closes o v own ws ws₁ (fine-refuses nums ground.accepts budget (length ws / 3) o begun_at-fine) s.tells s.kept cleared replaced
