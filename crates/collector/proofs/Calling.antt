-- The calls: what their judging says of the definitions, and how an accepted call closes.
--
-- Main results: `number-refused`, `number-vector`, `number-accepted`; `refused-first`, `accepted-first`; `word-refuses`, `word-number`;
-- `leaves-refused`, `leaves-as`; `call-closes`.
use mathlib.Core.Path.{◌≡◌, refl, sym, ap, ap₂, ◌∙◌, subst}
use mathlib.Core.List.{List, map}
use mathlib.Core.Bool.{Bool, true, false}
use Prim.Native.Nat.{ℕ, ◌/◌, ◌≤◌}
use native.Mathlib.Omega.{arith}
use lib.ListN.{length}
use lib.Dec.{eqb}
use borrow.Author.Tests.{eq-eqb, ne_eqb, eqb-true, eqb-false}
use Rattle.theory.specs.Presentation.{Vector}
use Rattle.layout.specs.Judged.{judged}
use Rattle.slots.specs.declared.Slot.{Slot}
use Rattle.slots.specs.Pieces.{Piece, meaning}
use Rattle.std.specs.Prelude.{Result, Ok, Err}
use Rattle.std.specs.Result.{IsErrAnd}
use Rattle.layout.specs.declared.refusal.Refusal.{Refusal}
use Rattle.layout.specs.Refusals.{refusal_number}
use Rattle.collector.specs.declared.Refused.{Refused}
use Rattle.collector.specs.Given.{number_in, count_in}
use Rattle.collector.specs.Run.{Outcome, done, refused, begun}
use Rattle.collector.specs.Inputs.{vector_right, word_right, word_slots, power_slots}
use Rattle.collector.specs.Running.{begun_at}
use Rattle.collector.specs.Starting.{Held}
use Rattle.collector.specs.Calls.{collect_call, product_call, room_of, closed, vector_number, word_number}
use Rattle.collector.specs.Calls.{Left, Leaves, untouched, judged_first, vector_first, word_first}
use Rattle.collector.proofs.Holding.{begun-at}

-- The number of the presentation and the vector.
module _ (nums : List ℕ) (v : Vector) where
  pub number-refused : (judged nums ≡ 0 → ⊥) → judged nums ≡ vector_number nums v
  number-refused h = rw (ne_eqb (judged nums) 0 h, vector_number)

  pub number-vector : judged nums ≡ 0 → vector_right nums v ≡ false → 7 ≡ vector_number nums v
  number-vector h f = rw (eq-eqb (judged nums) 0 h, f, vector_number)

  pub number-accepted : judged nums ≡ 0 → vector_right nums v ≡ true → 0 ≡ vector_number nums v
  number-accepted h f = rw (eq-eqb (judged nums) 0 h, f, vector_number)

  -- A number that is not 0 refuses the call, and touches nothing.
  pub refused-first : (ws : List ℕ) (go : Left) → (vector_number nums v ≡ 0 → ⊥)
      → judged_first nums v ws (vector_first (vector_right nums v) v ws go) ≡ untouched (vector_number nums v) v ws
  refused-first ws go h = cases (eqb (judged nums) 0) refl (vector_right nums v) refl
    where
      cases : (a : Bool) → eqb (judged nums) 0 ≡ a → (b : Bool) → vector_right nums v ≡ b
          → judged_first nums v ws (vector_first (vector_right nums v) v ws go) ≡ untouched (vector_number nums v) v ws
      cases false e b f = rw (e, judged_first, vector_number)
      cases true e false f = rw (e, f, judged_first, vector_first, vector_number)
      cases true e true f = absurd (h (sym (number-accepted (eqb-true (judged nums) 0 e) f)))

  -- 0 lets the call go on.
  pub record Accepts : Type 0 where
    pub accepts : judged nums ≡ 0
    pub vector-right : vector_right nums v ≡ true

  pub accepted-first : vector_number nums v ≡ 0 → Accepts
  accepted-first h = cases (eqb (judged nums) 0) refl (vector_right nums v) refl
    where
      cases : (a : Bool) → eqb (judged nums) 0 ≡ a → (b : Bool) → vector_right nums v ≡ b → Accepts
      cases false e b f = absurd (eqb-false (judged nums) 0 e (number-refused (eqb-false (judged nums) 0 e) ∙ h))
      cases true e false f = let z = number-vector (eqb-true (judged nums) 0 e) f ∙ h in absurd (omega (arith, z))
      cases true e true f = record { accepts = eqb-true (judged nums) 0 e; vector-right = f }

  pub go-first : (ws : List ℕ) (go : Left) → Accepts → judged_first nums v ws (vector_first (vector_right nums v) v ws go) ≡ go
  go-first ws go a = rw (eq-eqb (judged nums) 0 a.accepts, a.vector-right, judged_first, vector_first)

-- Collecting and products, once the presentation and the vector are accepted, by their second test.
module _ (nums : List ℕ) (v : Vector) (a : Accepts nums v) (budget : ℕ) (ws : List ℕ) where
  pub word-refused : (w : List ℕ) → word_right nums w ≡ false → collect_call nums v w budget ws ≡ untouched 8 v ws
  word-refused w f = rw (eq-eqb (judged nums) 0 a.accepts, a.vector-right, f, collect_call, judged_first, vector_first, word_first)

  pub word-accepted : (w : List ℕ) → word_right nums w ≡ true
      → collect_call nums v w budget ws ≡ closed (begun nums budget (room_of ws) v (word_slots w) 0) v ws
  word-accepted w f = rw (eq-eqb (judged nums) 0 a.accepts, a.vector-right, f, collect_call, judged_first, vector_first, word_first)

  pub right-refused : (u : Vector) → vector_right nums u ≡ false → product_call nums v u budget ws ≡ untouched 7 v ws
  right-refused u f = go-first nums v ws _ a ∙ ap (λ (t : Bool). vector_first t v ws (closed (begun nums budget (room_of ws) v (power_slots 1 u) 0) v ws)) f

  pub right-accepted : (u : Vector) → vector_right nums u ≡ true
      → product_call nums v u budget ws ≡ closed (begun nums budget (room_of ws) v (power_slots 1 u) 0) v ws
  right-accepted u f = go-first nums v ws _ a ∙ ap (λ (t : Bool). vector_first t v ws (closed (begun nums budget (room_of ws) v (power_slots 1 u) 0) v ws)) f

-- What is left where nothing is touched.
pub leaves-untouched : {answer : Result ℕ Refused} {left : Left} (k : ℕ) (v : Vector) (ws : List ℕ) → left ≡ untouched k v ws
    → number_in answer ≡ k → count_in answer ≡ 0 → Leaves left answer v ws
leaves-untouched {answer} k v ws e n c =
    subst (λ (l : Left). Leaves l answer v ws) (sym e) (record { number = n; count = c; vector_is = refl; work_is = refl })

pub leaves-as : {answer : Result ℕ Refused} {left other : Left} {v : Vector} {ws : List ℕ} → left ≡ other → Leaves other answer v ws → Leaves left answer v ws
leaves-as {answer} {v = v} {ws = ws} e l = subst (λ (x : Left). Leaves x answer v ws) (sym e) l

-- A refusal before anything is touched.
pub leaves-refused : {answer : Result ℕ Refused} {left : Left} (s : Refusal) (v : Vector) (ws : List ℕ) → left ≡ untouched (refusal_number s) v ws
    → IsErrAnd answer (λ (r : Refused). (r.refusal ≡ s) × (r.count ≡ 0)) → Leaves left answer v ws
leaves-refused {answer = Ok c} s v ws e h = absurd h
leaves-refused {answer = Err r} s v ws e h = leaves-untouched (refusal_number s) v ws e (ap refusal_number h.0) h.1

-- The word's number lets the call go on if it is 0, and refuses it otherwise.
pub word-refuses : (nums : List ℕ) (v : Vector) (a : Accepts nums v) (budget : ℕ) (ws w : List ℕ) (k : ℕ) → k ≡ word_number nums w → 1 ≤ k
    → collect_call nums v w budget ws ≡ untouched k v ws
word-refuses nums v a budget ws w k is some = go (word_right nums w) refl
  where
    go : (b : Bool) → word_right nums w ≡ b → collect_call nums v w budget ws ≡ untouched k v ws
    go true e = let z : k ≡ 0 = rw (e, word_number) at is in absurd (omega arith)
    go false e = let z : k ≡ 8 = rw (e, word_number) at is in word-refused nums v a budget ws w e ∙ ap (λ (x : ℕ). untouched x v ws) (sym z)

pub word-number : (nums w : List ℕ) → 0 ≡ word_number nums w → word_right nums w ≡ true
word-number nums w h = go (word_right nums w) refl
  where
    go : (b : Bool) → word_right nums w ≡ b → word_right nums w ≡ true
    go true e = e
    go false e = let z : ◌≡◌ {A = ℕ} 0 8 = rw (e, word_number) at h in absurd (omega arith)

-- What is left does not depend on what the workspace held.
closed-alike : (o : Outcome) (v : Vector) (ws ws₁ : List ℕ) → length ws₁ ≡ length ws → closed o v ws₁ ≡ closed o v ws
closed-alike (done r c) v ws ws₁ e = cc
closed-alike (refused k c) v ws ws₁ e = cc

-- An accepted call: its starting slots were put on the workspace, and from there it was finished.
pub call-closes : (nums bodies word : List ℕ) {slots : List Slot} {ws₁ : List ℕ} {d : ℕ} → Held slots ws₁ d
    → (v : Vector) (budget : ℕ) (ps : List Piece) (ws : List ℕ) {v' : Vector} {ws' : List ℕ} {answer : Result ℕ Refused}
    → map (meaning bodies word) slots ≡ ps → length ws₁ ≡ length ws
    → Leaves (closed (begun_at nums bodies v word budget 0 ws₁ d) v ws₁) answer v' ws'
    → Leaves (closed (begun nums budget (length ws / 3) v ps 0) v ws) answer v' ws'
call-closes nums bodies word {slots} {ws₁} {d} held v budget ps ws means kept left =
    let same : begun_at nums bodies v word budget 0 ws₁ d ≡ begun nums budget (length ws / 3) v ps 0 =
    begun-at nums bodies word held v budget 0 ∙ ap₂ (λ (n : ℕ) (l : List Piece). begun nums budget (n / 3) v l 0) kept means in
    leaves-as (sym (ap (λ (o : Outcome). closed o v ws₁) same ∙ closed-alike (begun nums budget (length ws / 3) v ps 0) v ws ws₁ kept)) left
