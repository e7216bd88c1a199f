-- The headline theorems of collecting, products and inverses.
--
-- Main results:
--   `collect-means`, `product-means`, `inverse-means`      demand 2, where a call answers DONE
--   `collect-vector`, `product-vector`                     and its vector is the theory's
--   `collect-by-rules`, `product-by-rules`                 demand 2, for DONE, 9 and 10 alike: the call answers what the placing rules say
--   `collect-larger`, `product-larger`, `inverse-larger`   demand 3: a larger budget or room never changes an accepted answer
--   `collect-work`, `product-work`, `inverse-work`         what the workspace held at entry never matters
use mathlib.Core.Path.{◌≡◌, refl, sym, ap, ◌∙◌, subst}
use mathlib.Core.List.{List, ◌++◌}
use mathlib.Core.Option.{some}
use mathlib.Core.Bool.{Bool, true, false}
use Prim.Native.Nat.{ℕ, ◌/◌, ◌≤◌}
use native.Mathlib.Omega.{arith}
use lib.ListN.{length}
use lib.Dec.{eqb}
use borrow.Author.Tests.{le-ltb, eqb-true, eqb-false}
use Rattle.theory.specs.Presentation.{Presentation, Word, Vector, spell, Normal}
use Rattle.theory.specs.Replacement.{steps}
use Rattle.theory.specs.Placing.{collect, product}
use Rattle.theory.proofs.Words.{spell-over, spell-identity}
use Rattle.theory.proofs.Collecting.{whole, collects-to, collect-normal}
use Rattle.theory.proofs.Leftmost.{collected-steps, normal-ends}
use Rattle.theory.proofs.Inverse.{invert-normal, invert-clears, invert-only}
use Rattle.layout.specs.Header.{rank_of}
use Rattle.layout.specs.Judged.{judged}
use Rattle.layout.specs.Relations as relations
use Rattle.layout.specs.Relations.{presentation}
use Rattle.layout.proofs.Valid.{valid}
use Rattle.slots.specs.Pieces.{Piece, letters, AllWellFormed}
use Rattle.placing.proofs.Spelled.{pieces-over}
use Rattle.collector.specs.Inputs.{vector_right, word_right, word_slots, power_slots}
use Rattle.collector.specs.Run.{Outcome, done, refused, Runs, begun}
use Rattle.collector.specs.Calls.{Left, closed, untouched, room_of, vector_number, inverting}
use Rattle.collector.specs.Calls.{collect_call, product_call, inverse_call, judged_first, vector_first}
use Rattle.collector.proofs.Judging.{vector-normal, word-formed, word-letters, power-formed, power-letters}
use Rattle.collector.proofs.Outcomes.{outcome-is}
use Rattle.collector.proofs.Calling.{Accepts, accepted-first, refused-first, go-first, word-accepted, word-refused, right-accepted, right-refused}
use Rattle.collector.proofs.Finished.{begun-refuses, inverting-refuses}
use Rattle.demands.specs.Demands.{Collected, Inverted, Unchanged}
use Rattle.demands.proofs.Meaning.{paired, begun-collects, begun-larger, inverting-clears, inverting-larger}

-- A call that answers 0 was accepted, and its outcome is DONE.
closed-done : (o : Outcome) (v : Vector) (ws : List ℕ) → ((k d : ℕ) → o ≡ refused k d → k ≡ 0 → ⊥) → (closed o v ws).number ≡ 0
    → o ≡ done (closed o v ws).vector (closed o v ws).count
closed-done (done r c) v ws f e = refl
closed-done (refused k c) v ws f e = absurd (f k c refl e)

module _ (nums : List ℕ) (v : Vector) (ws : List ℕ) where
  accepted-by : (go : Left) → (judged_first nums v ws (vector_first (vector_right nums v) v ws go)).number ≡ 0 → Accepts nums v
  accepted-by go e = test (eqb (vector_number nums v) 0) refl
    where
      test : (b : Bool) → eqb (vector_number nums v) 0 ≡ b → Accepts nums v
      test true x = accepted-first nums v (eqb-true (vector_number nums v) 0 x)
      test false x =
          let h : vector_number nums v ≡ 0 → ⊥ = eqb-false (vector_number nums v) 0 x in
          absurd (h (sym (ap (λ (l : Left). l.number) (refused-first nums v ws go h)) ∙ e))

-- What was accepted, of a call whose second test is `right`.
module _ (nums : List ℕ) (accepts : judged nums ≡ 0) (budget : ℕ) (v : Vector) (normal : Normal (presentation nums) (rank_of nums) 1 v) (slots : List Piece)
    (formed : AllWellFormed (rank_of nums) slots) (ws : List ℕ) where
  abbrev P : Presentation
  P = presentation nums

  abbrev o : Outcome
  o = begun nums budget (room_of ws) v slots 0

  is-done : (closed o v ws).number ≡ 0 → o ≡ done (closed o v ws).vector (closed o v ws).count
  is-done e = closed-done o v ws (begun-refuses nums accepts budget (room_of ws) v slots 0 normal formed (omega arith)) e

  -- The vector, as the theory's function gives it.
  begun-vector : (closed o v ws).number ≡ 0 → (closed o v ws).vector ≡ collect P (rank_of nums) 1 v (letters slots)
  begun-vector e =
      let c = begun-collects nums accepts budget (room_of ws) v slots 0 normal formed (is-done e) in
      (collects-to P (valid nums accepts) (rank_of nums) 1 (whole P) normal (pieces-over nums slots formed) c.2).1

  begun-means : (closed o v ws).number ≡ 0 → Collected nums v (letters slots) (closed o v ws).count (closed o v ws).vector
  begun-means e =
      let c = begun-collects nums accepts budget (room_of ws) v slots 0 normal formed (is-done e) in
      let over = pieces-over nums slots formed in
      let n : Normal P (rank_of nums) 1 (closed o v ws).vector =
      subst (Normal P (rank_of nums) 1) (sym (begun-vector e)) (collect-normal P (valid nums accepts) (rank_of nums) 1 v (letters slots) (whole P) normal) in
      let same : (closed o v ws).count ≡ c.0 = omega (arith, c.1) in
      record {
        normal = n;
        replaced =
            ap (λ (k : ℕ). steps P k (spell 1 v ++ letters slots)) same
            ∙ collected-steps P (valid nums accepts) (rank_of nums) 1 (whole P) normal over c.2;
        ended = normal-ends P (valid nums accepts) (rank_of nums) 1 (closed o v ws).vector (whole P) n;
      }

  -- 10 where the starting slots exceed the room; else what the rules come to.
  begun-by-rules : {q : Outcome} → length slots ≤ room_of ws → Runs nums budget (room_of ws) v slots 0 q → begun nums budget (room_of ws) v slots 0 ≡ q
  begun-by-rules h r =
      rw (le-ltb (room_of ws) (length slots) h, begun) (outcome-is nums budget (room_of ws) (valid nums accepts) (paired nums accepts) normal formed r)

  larger : (budget' : ℕ) (ws' : List ℕ) → budget ≤ budget' → room_of ws ≤ room_of ws' → (closed o v ws).number ≡ 0
      → Unchanged (closed o v ws) (closed (begun nums budget' (room_of ws') v slots 0) v ws')
  larger budget' ws' a b e =
      let x = begun-larger nums accepts budget (room_of ws) budget' (room_of ws') a b v slots 0 normal formed (is-done e) in
      let y : closed (begun nums budget' (room_of ws') v slots 0) v ws' ≡ closed (done (closed o v ws).vector (closed o v ws).count) v ws' =
      ap (λ (q : Outcome). closed q v ws') x in
      record { number = e ∙ ap (λ (l : Left). l.number) (sym y); count = ap (λ (l : Left). l.count) (sym y); vector = ap (λ (l : Left). l.vector) (sym y) }

-- Collecting.
module _ (nums : List ℕ) (v : Vector) (w : List ℕ) (budget : ℕ) (ws : List ℕ) where
  pub record CollectAccepts : Type 0 where
    pub first : Accepts nums v
    pub word-right : word_right nums w ≡ true

  pub collect-accepted : (collect_call nums v w budget ws).number ≡ 0 → CollectAccepts
  collect-accepted e = test (word_right nums w) refl
    where
      a : Accepts nums v
      a = accepted-by nums v ws _ e

      test : (b : Bool) → word_right nums w ≡ b → CollectAccepts
      test true x = record { first = a; word-right = x }
      test false x =
          let z : ◌≡◌ {A = ℕ} 8 0 = sym (ap (λ (l : Left). l.number) (word-refused nums v a budget ws w x)) ∙ e in absurd (omega arith)

  collect-is : CollectAccepts → collect_call nums v w budget ws ≡ closed (begun nums budget (room_of ws) v (word_slots w) 0) v ws
  collect-is a = word-accepted nums v a.first budget ws w a.word-right

  pub collect-means : (collect_call nums v w budget ws).number ≡ 0
      → Collected nums v (relations.letters w) (collect_call nums v w budget ws).count (collect_call nums v w budget ws).vector
  collect-means e =
      let a = collect-accepted e in
      let is = collect-is a in
      subst (λ (u : Word). Collected nums v u (collect_call nums v w budget ws).count (collect_call nums v w budget ws).vector) (word-letters w)
      (subst (λ (l : Left). Collected nums v (letters (word_slots w)) l.count l.vector) (sym is)
      (begun-means nums a.first.accepts budget v (vector-normal nums v a.first.vector-right) (word_slots w) (word-formed nums w a.word-right) ws
      (ap (λ (l : Left). l.number) (sym is) ∙ e)))

  pub collect-vector : (collect_call nums v w budget ws).number ≡ 0
      → (collect_call nums v w budget ws).vector ≡ collect (presentation nums) (rank_of nums) 1 v (relations.letters w)
  collect-vector e =
      let a = collect-accepted e in
      let is = collect-is a in
      ap (λ (l : Left). l.vector) is
      ∙ begun-vector nums a.first.accepts budget v (vector-normal nums v a.first.vector-right) (word_slots w) (word-formed nums w a.word-right) ws
      (ap (λ (l : Left). l.number) (sym is) ∙ e)
      ∙ ap (collect (presentation nums) (rank_of nums) 1 v) (word-letters w)

  pub collect-by-rules : {o : Outcome} → CollectAccepts → length (word_slots w) ≤ room_of ws → Runs nums budget (room_of ws) v (word_slots w) 0 o
      → collect_call nums v w budget ws ≡ closed o v ws
  collect-by-rules a h r =
      collect-is a
      ∙ ap (λ (q : Outcome). closed q v ws)
      (begun-by-rules nums a.first.accepts budget v (vector-normal nums v a.first.vector-right) (word_slots w) (word-formed nums w a.word-right) ws h r)

  pub collect-larger : (budget' : ℕ) (ws' : List ℕ) → budget ≤ budget' → room_of ws ≤ room_of ws' → (collect_call nums v w budget ws).number ≡ 0
      → Unchanged (collect_call nums v w budget ws) (collect_call nums v w budget' ws')
  collect-larger budget' ws' b h e =
      let a = collect-accepted e in
      let is = collect-is a in
      subst (Unchanged (collect_call nums v w budget ws)) (sym (word-accepted nums v a.first budget' ws' w a.word-right))
      (subst (λ (l : Left). Unchanged l (closed (begun nums budget' (room_of ws') v (word_slots w) 0) v ws')) (sym is)
      (larger nums a.first.accepts budget v (vector-normal nums v a.first.vector-right) (word_slots w) (word-formed nums w a.word-right) ws budget' ws' b h
      (ap (λ (l : Left). l.number) (sym is) ∙ e)))

-- Products.
module _ (nums : List ℕ) (u v : Vector) (budget : ℕ) (ws : List ℕ) where
  pub record ProductAccepts : Type 0 where
    pub first : Accepts nums u
    pub right-right : vector_right nums v ≡ true

  pub product-accepted : (product_call nums u v budget ws).number ≡ 0 → ProductAccepts
  product-accepted e = test (vector_right nums v) refl
    where
      a : Accepts nums u
      a = accepted-by nums u ws _ e

      test : (b : Bool) → vector_right nums v ≡ b → ProductAccepts
      test true x = record { first = a; right-right = x }
      test false x =
          let z : ◌≡◌ {A = ℕ} 7 0 = sym (ap (λ (l : Left). l.number) (right-refused nums u a budget ws v x)) ∙ e in absurd (omega arith)

  product_is : ProductAccepts → product_call nums u v budget ws ≡ closed (begun nums budget (room_of ws) u (power_slots 1 v) 0) u ws
  product_is a = right-accepted nums u a.first budget ws v a.right-right

  formed : ProductAccepts → AllWellFormed (rank_of nums) (power_slots 1 v)
  formed a = power-formed nums v (vector-normal nums v a.right-right)

  pub product-means : (product_call nums u v budget ws).number ≡ 0
      → Collected nums u (spell 1 v) (product_call nums u v budget ws).count (product_call nums u v budget ws).vector
  product-means e =
      let a = product-accepted e in
      let is = product_is a in
      subst (λ (x : Word). Collected nums u x (product_call nums u v budget ws).count (product_call nums u v budget ws).vector) (power-letters 1 v)
      (subst (λ (l : Left). Collected nums u (letters (power_slots 1 v)) l.count l.vector) (sym is)
      (begun-means nums a.first.accepts budget u (vector-normal nums u a.first.vector-right) (power_slots 1 v) (formed a) ws
      (ap (λ (l : Left). l.number) (sym is) ∙ e)))

  pub product-vector : (product_call nums u v budget ws).number ≡ 0
      → (product_call nums u v budget ws).vector ≡ product (presentation nums) (rank_of nums) 1 u v
  product-vector e =
      let a = product-accepted e in
      let is = product_is a in
      ap (λ (l : Left). l.vector) is
      ∙ begun-vector nums a.first.accepts budget u (vector-normal nums u a.first.vector-right) (power_slots 1 v) (formed a) ws
      (ap (λ (l : Left). l.number) (sym is) ∙ e)
      ∙ ap (collect (presentation nums) (rank_of nums) 1 u) (power-letters 1 v)

  pub product-by-rules : {o : Outcome} → ProductAccepts → length (power_slots 1 v) ≤ room_of ws → Runs nums budget (room_of ws) u (power_slots 1 v) 0 o
      → product_call nums u v budget ws ≡ closed o u ws
  product-by-rules a h r =
      product_is a
      ∙ ap (λ (q : Outcome). closed q u ws)
      (begun-by-rules nums a.first.accepts budget u (vector-normal nums u a.first.vector-right) (power_slots 1 v) (formed a) ws h r)

  pub product-larger : (budget' : ℕ) (ws' : List ℕ) → budget ≤ budget' → room_of ws ≤ room_of ws' → (product_call nums u v budget ws).number ≡ 0
      → Unchanged (product_call nums u v budget ws) (product_call nums u v budget' ws')
  product-larger budget' ws' b h e =
      let a = product-accepted e in
      let is = product_is a in
      subst (Unchanged (product_call nums u v budget ws)) (sym (right-accepted nums u a.first budget' ws' v a.right-right))
      (subst (λ (l : Left). Unchanged l (closed (begun nums budget' (room_of ws') u (power_slots 1 v) 0) u ws')) (sym is)
      (larger nums a.first.accepts budget u (vector-normal nums u a.first.vector-right) (power_slots 1 v) (formed a) ws budget' ws' b h
      (ap (λ (l : Left). l.number) (sym is) ∙ e)))

-- Inverses.
module _ (nums : List ℕ) (v : Vector) (budget : ℕ) (ws : List ℕ) where
  pub inverse-accepted : (inverse_call nums v budget ws).number ≡ 0 → Accepts nums v
  inverse-accepted e = accepted-by nums v ws _ e

  abbrev inverted : Outcome
  inverted = inverting nums budget (room_of ws) (rank_of nums) 1 v 0

  inverse-is : Accepts nums v → inverse_call nums v budget ws ≡ closed inverted v ws
  inverse-is a = go-first nums v ws (closed inverted v ws) a

  inverse-done : Accepts nums v → (inverse_call nums v budget ws).number ≡ 0
      → inverted ≡ done (inverse_call nums v budget ws).vector (inverse_call nums v budget ws).count
  inverse-done a e =
      closed-done inverted v ws
      (inverting-refuses nums a.accepts budget (room_of ws) (rank_of nums) 1 v 0 (omega arith) (omega arith)
      (vector-normal nums v a.vector-right)
      (omega arith))
      (ap (λ (l : Left). l.number) (sym (inverse-is a)) ∙ e)
      ∙ ap (λ (l : Left). done l.vector l.count) (sym (inverse-is a))

  pub inverse-means : (inverse_call nums v budget ws).number ≡ 0 → Inverted nums v (inverse_call nums v budget ws).count (inverse_call nums v budget ws).vector
  inverse-means e =
      let a = inverse-accepted e in
      let P = presentation nums in
      let n = rank_of nums in
      let va = valid nums a.accepts in
      let p = vector-normal nums v a.vector-right in
      let c = inverting-clears nums a.accepts budget (room_of ws) n 0 1 v 0 _ _ (omega arith) (omega arith) p (inverse-done a e) in
      let r = (inverse_call nums v budget ws).vector in
      let normal : Normal P n 1 r = subst (Normal P n 1) (sym c.inverse-is) (invert-normal P va n 1 v (whole P) p) in
      let same : (inverse_call nums v budget ws).count ≡ c.replacements = omega (arith, c.counted) in
      record {
        normal = normal;
        replaced =
            ap (λ (k : ℕ). steps P k (spell 1 v ++ spell 1 r)) same
            ∙ collected-steps P va n 1 (whole P) p (spell-over P n 1 r (omega arith) normal) c.clears
            ∙ ap some (spell-identity P n 1);
        clears = ap (λ (x : Vector). collect P n 1 v (spell 1 x)) c.inverse-is ∙ invert-clears P va n 1 v (whole P) p;
        only = λ s q x. invert-only P va n 1 v s (whole P) p q x ∙ sym c.inverse-is;
      }

  pub inverse-larger : (budget' : ℕ) (ws' : List ℕ) → budget ≤ budget' → room_of ws ≤ room_of ws' → (inverse_call nums v budget ws).number ≡ 0
      → Unchanged (inverse_call nums v budget ws) (inverse_call nums v budget' ws')
  inverse-larger budget' ws' b h e =
      let a = inverse-accepted e in
      let p = vector-normal nums v a.vector-right in
      let x =
      inverting-larger nums a.accepts budget (room_of ws) budget' (room_of ws') b h (rank_of nums) 1 v 0 _ _ (omega arith) (omega arith) p
      (omega arith)
      (inverse-done a e) in
      let y : inverse_call nums v budget' ws' ≡ closed (done (inverse_call nums v budget ws).vector (inverse_call nums v budget ws).count) v ws' =
      go-first nums v ws' _ a ∙ ap (λ (q : Outcome). closed q v ws') x in
      record { number = e ∙ ap (λ (l : Left). l.number) (sym y); count = ap (λ (l : Left). l.count) (sym y); vector = ap (λ (l : Left). l.vector) (sym y) }

-- What the workspace held.
module _ (nums : List ℕ) (v : Vector) (ws ws' : List ℕ) (same : length ws ≡ length ws') where
  closed-work : (o : Outcome) → Unchanged (closed o v ws) (closed o v ws')
  closed-work (done r c) = record { number = refl; count = refl; vector = refl }
  closed-work (refused k c) = record { number = refl; count = refl; vector = refl }

  untouched-work : (k : ℕ) → Unchanged (untouched k v ws) (untouched k v ws')
  untouched-work k = record { number = refl; count = refl; vector = refl }

  tested-work : (b : Bool) (k : ℕ) (x y : Left) → Unchanged x y
      → Unchanged (elim b [ true ↦ x | false ↦ untouched k v ws ]) (elim b [ true ↦ y | false ↦ untouched k v ws' ])
  tested-work true k x y u = u
  tested-work false k x y u = untouched-work k

  room-work : (f : ℕ → Outcome) → Unchanged (closed (f (room_of ws)) v ws) (closed (f (room_of ws')) v ws')
  room-work f =
      let r : room_of ws ≡ room_of ws' = ap (λ (x : ℕ). x / 3) same in
      subst (λ (x : ℕ). Unchanged (closed (f (room_of ws)) v ws) (closed (f x) v ws')) r (closed-work (f (room_of ws)))

  first-work : (x y : Left) → Unchanged x y
      → Unchanged (judged_first nums v ws (vector_first (vector_right nums v) v ws x)) (judged_first nums v ws' (vector_first (vector_right nums v) v ws' y))
  first-work x y u = tested-work (eqb (judged nums) 0) (judged nums) _ _ (tested-work (vector_right nums v) 7 x y u)

  pub collect-work : (w : List ℕ) (budget : ℕ) → Unchanged (collect_call nums v w budget ws) (collect_call nums v w budget ws')
  collect-work w budget = first-work _ _ (tested-work (word_right nums w) 8 _ _ (room-work (λ room. begun nums budget room v (word_slots w) 0)))

  pub product-work : (u : Vector) (budget : ℕ) → Unchanged (product_call nums v u budget ws) (product_call nums v u budget ws')
  product-work u budget = first-work _ _ (tested-work (vector_right nums u) 7 _ _ (room-work (λ room. begun nums budget room v (power_slots 1 u) 0)))

  pub inverse-work : (budget : ℕ) → Unchanged (inverse_call nums v budget ws) (inverse_call nums v budget ws')
  inverse-work budget = first-work _ _ (room-work (λ room. inverting nums budget room (rank_of nums) 1 v 0))
