-- What DONE means of a run, of one turn of the inverse and of the whole inverse, in the words of the theory; and that DONE stays under a larger
-- budget or room.
--
-- Main results: `begun-collects`, `begun-larger`; `inverting-clears`, `inverting-larger`.
use mathlib.Core.Path.{◌≡◌, refl, sym, ap, ◌∙◌, subst, subst₂}
use mathlib.Core.List.{List, [], ◌∷◌, ◌++◌, append-nil, tail}
use mathlib.Core.Bool.{Bool, true, false}
use Prim.Native.Nat.{ℕ, zero, suc, ◌+◌, ◌-◌, ◌≤◌, ◌<◌}
use native.Mathlib.Omega.{arith}
use lib.ListN.{length, get_or, replicate}
use lib.Dec.{ltb, eqb}
use borrow.Author.Tests.{ltb-false, le-ltb, eqb-true, eqb-false}
use Rattle.theory.specs.Presentation.{Presentation, Word, Vector, spell, identity, Normal, Over}
use Rattle.theory.specs.Placing.{Collects, done as placed-all, collect, complement, invert}
use Rattle.theory.proofs.Words.{over-block, over-weaken}
use Rattle.theory.proofs.Collecting.{Level, above, whole, collects-append, collects-to}
use Rattle.theory.proofs.Inverse.{block-left, complement-clears, above-normal}
use Rattle.theory.proofs.Arrays.{collect-deep, normal-at}
use Rattle.layout.specs.Header.{prime_of, rank_of, exponent_of}
use Rattle.layout.specs.Contents.{stretch_of}
use Rattle.layout.specs.Judged.{judged}
use Rattle.layout.specs.Relations.{presentation}
use Rattle.layout.proofs.Valid.{valid}
use Rattle.slots.specs.Pieces.{Piece, power, letters, Pairs, AllWellFormed}
use Rattle.collector.specs.Run.{Outcome, done, refused, Runs, outcome, begun}
use Rattle.collector.specs.Calls.{turned, inverting, behind}
use Rattle.collector.proofs.Outcomes.{runs-outcome, runs-collects, runs-larger, outcome-is}
use Rattle.collector.proofs.Grounding.{relation-formed}
use Rattle.collector.proofs.Finished.{Fine, turned-fine}

complement-is : (e a : ℕ) → (a ≡ 0 → ⊥) → e - a ≡ complement e a
complement-is e zero h = absurd (h refl)
complement-is e (suc a) h = refl

module _ (nums : List ℕ) (accepts : judged nums ≡ 0) where
  abbrev P : Presentation
  P = presentation nums

  abbrev n : ℕ
  n = rank_of nums

  pub paired : (i g : ℕ) → 1 ≤ i → i < g → g ≤ rank_of nums → Pairs (rank_of nums) (stretch_of nums i g)
  paired i g a b h = relation-formed nums accepts i g a (omega arith) h

  -- A run that starts and is DONE.
  module _ (budget room : ℕ) where
    begun-runs : (v : Vector) (slots : List Piece) (c : ℕ) {r : Vector} {d : ℕ} → Normal P n 1 v → AllWellFormed n slots
        → begun nums budget room v slots c ≡ done r d → (length slots ≤ room) × Runs nums budget room v slots c (done r d)
    begun-runs v slots c {r} {d} p w e = go (ltb room (length slots)) refl
      where
        go : (b : Bool) → ltb room (length slots) ≡ b → (length slots ≤ room) × Runs nums budget room v slots c (done r d)
        go true x = let y : refused 10 c ≡ done r d = rw (x, begun) at e in let z : ◌≡◌ {A = ℕ} 0 1 = cc in absurd (omega arith)
        go false x =
            let y : outcome nums budget room v slots c ≡ done r d = rw (x, begun) at e in (
              ltb-false room (length slots) x,
              subst (Runs nums budget room v slots c) y (runs-outcome nums budget room (valid nums accepts) paired v slots c p w),
            )

    pub begun-collects : (v : Vector) (slots : List Piece) (c : ℕ) {r : Vector} {d : ℕ} → Normal P n 1 v → AllWellFormed n slots
        → begun nums budget room v slots c ≡ done r d → (t : ℕ) × (d ≡ c + t) × Collects P 1 v (letters slots) t r
    begun-collects v slots c p w e = runs-collects nums budget room (valid nums accepts) paired p w (begun-runs v slots c p w e).1

    -- One turn of the inverse.
    pub turned-collects : (i : ℕ) (v : Vector) (c : ℕ) (r : Vector) (d : ℕ) → 1 ≤ i → i ≤ n → Normal P n 1 v → turned nums budget room i v c ≡ done r d
        → (t : ℕ) × (d ≡ c + t) × Collects P 1 v (replicate (complement (exponent_of nums i) (get_or v (i - 1) 0)) i) t r
    turned-collects i v c r d low high p e = go (eqb (get_or v (i - 1) 0) 0) refl
      where
        go : (b : Bool) → eqb (get_or v (i - 1) 0) 0 ≡ b
            → (t : ℕ) × (d ≡ c + t) × Collects P 1 v (replicate (complement (exponent_of nums i) (get_or v (i - 1) 0)) i) t r
        go true x =
            let y : done v c ≡ done r d = rw (x, turned) at e in
            let vr : v ≡ r = cc in
            let cd : c ≡ d = cc in
            rw (eqb-true (get_or v (i - 1) 0) 0 x) (0, omega arith, subst (Collects P 1 v [] 0) vr placed-all)
        go false x =
            let b = exponent_of nums i - get_or v (i - 1) 0 in
            let y : begun nums budget room v (power i b ∷ []) c ≡ done r d = rw (x, turned) at e in
            let l : get_or v (i - 1) 0 < prime_of nums = normal-at P n 1 (i - 1) v p (omega arith) in
            let q = begun-collects v (power i b ∷ []) c p (record { low = low; high = high; some = omega arith }, tt) y in
            let w : replicate b i ++ [] ≡ replicate (complement (exponent_of nums i) (get_or v (i - 1) 0)) i =
            append-nil (replicate b i)
            ∙ ap (λ (z : ℕ). replicate z i) (complement-is (exponent_of nums i) (get_or v (i - 1) 0) (eqb-false (get_or v (i - 1) 0) 0 x)) in
            (q.0, q.1, subst (λ (u : Word). Collects P 1 v u q.0 r) w q.2)

    -- Entries 0 before a vector.
    deep-normal : (e k l m j : ℕ) (h : Vector) → l ≡ e + k → j ≡ e + m → Level P l m → Normal P k j h → Normal P l m (identity e ++ h)
    deep-normal zero k l m j h a b v p = let q : l ≡ k = omega arith in let r : m ≡ j = omega arith in rw (q, r) p
    deep-normal (suc e) k zero m j h a b v p = absurd (omega arith)
    deep-normal (suc e) k (suc l) m j h a b v p =
        let x : 2 ≤ P.exponent m = (valid nums accepts).exponents m v.first (omega (arith, v.fits)) in
        (omega arith, deep-normal e k l (suc m) j h (omega arith) (omega arith) (above v) p)

    deep-entry : (e a : ℕ) (h : Vector) → get_or (identity e ++ (a ∷ h)) e 0 ≡ a
    deep-entry zero a h = refl
    deep-entry (suc e) a h = deep-entry e a h

    one_deeper : (e : ℕ) (h : Vector) → identity e ++ (0 ∷ h) ≡ identity (suc e) ++ h
    one_deeper zero h = refl
    one_deeper (suc e) h = ap {B = Vector} (λ x. 0 ∷ x) (one_deeper e h)

    -- What is left of the vector once x_i^b is placed for b the complement of its first entry that may not be 0: one entry 0 more.
    abbrev next-left : (k i a : ℕ) → Vector → Vector
    next-left k i a h = tail (collect P (suc k) i (a ∷ h) (replicate (complement (P.exponent i) a) i))

    turned_left : (k e i a : ℕ) (h : Vector) {t : ℕ} {r : Vector} → suc k + e ≡ n → i ≡ e + 1 → Normal P (suc k) i (a ∷ h)
        → Collects P 1 (identity e ++ (a ∷ h)) (replicate (complement (P.exponent i) a) i) t r → r ≡ identity (suc e) ++ next-left k i a h
    turned_left k e i a h q s p x =
        let b = complement (P.exponent i) a in
        let l : Level P (suc k) i = record { first = omega arith; fits = omega arith } in
        let o : Over P i (replicate b i) = over-block P i b i (omega arith) (omega arith) in
        (collects-to P (valid nums accepts) n 1 (whole P)
        (deep-normal e (suc k) n 1 i (a ∷ h) (omega arith) s (whole P) p)
        (over-weaken P 1 i (replicate b i) (omega arith) o) x).1
        ∙ collect-deep P e (suc k) n 1 i (a ∷ h) (replicate b i) (omega arith) s o
        ∙ ap (λ (y : Vector). identity e ++ y) (block-left P (valid nums accepts) k i b a h l p)
        ∙ ap (λ (y : ℕ). identity e ++ (y ∷ next-left k i a h)) (complement-clears P (valid nums accepts) (P.exponent i) a p.0)
        ∙ one_deeper e (next-left k i a h)

    -- The whole inverse, from a vector whose first e entries are 0 already.
    pub record Clears (k e i : ℕ) (h : Vector) (c : ℕ) (r : Vector) (d : ℕ) : Type 0 where
      pub inverse-is : r ≡ invert P k i h
      pub replacements : ℕ
      pub counted : d ≡ c + replacements
      pub clears : Collects P 1 (identity e ++ h) (spell i r) replacements (identity n)

    behind-done : (b : ℕ) (o : Outcome) (r : Vector) (d : ℕ) → behind b o ≡ done r d → (s : Vector) × (o ≡ done s d) × (r ≡ b ∷ s)
    behind-done b (done s q) r d e = (s, cc, cc)
    behind-done b (refused k q) r d e = let z : ◌≡◌ {A = ℕ} 0 1 = cc in absurd (omega arith)

    pub inverting-clears : (k e i : ℕ) (h : Vector) (c : ℕ) (r : Vector) (d : ℕ) → k + e ≡ n → i ≡ e + 1 → Normal P k i h
        → inverting nums budget room k i (identity e ++ h) c ≡ done r d → Clears k e i h c r d
    inverting-clears zero e i (a ∷ h) c r d q s p x = absurd p
    inverting-clears zero e i [] c r d q s p x =
        let rr : r ≡ [] = cc in
        let dd : d ≡ c = cc in
        let en : e ≡ n = omega arith in
        record {
          inverse-is = rr;
          replacements = 0;
          counted = omega arith;
          clears =
              rw (rr) (subst₂ (λ (v u : Vector). Collects P 1 v [] 0 u) (sym (append-nil (identity e))) (ap identity en) placed-all);
        }
    inverting-clears (suc k) e i [] c r d q s p x = absurd p
    inverting-clears (suc k) e i (a ∷ h) c r d q s p x =
        go (turned nums budget room i (identity e ++ (a ∷ h)) c) refl
        (λ u c' r' y z. inverting-clears k (suc e) (suc i) u c' r' d (omega arith) (omega arith) y z)
      where
        v : Vector
        v = identity e ++ (a ∷ h)

        b : ℕ
        b = complement (P.exponent i) a

        entry : get_or v (i - 1) 0 ≡ a
        entry = let y : i - 1 ≡ e = omega arith in ap (λ (z : ℕ). get_or v z 0) y ∙ deep-entry e a h

        go : (o : Outcome) → turned nums budget room i v c ≡ o
            → ((u : Vector) (c' : ℕ) (r' : Vector) → Normal P k (suc i) u
            → inverting nums budget room k (suc i) (identity (suc e) ++ u) c' ≡ done r' d → Clears k (suc e) (suc i) u c' r' d)
            → Clears (suc k) e i (a ∷ h) c r d
        go (refused z w) y rest = let f : refused z w ≡ done r d = rw (y, inverting) at x in let g : ◌≡◌ {A = ℕ} 0 1 = cc in absurd (omega arith)
        go (done r₁ d₁) y rest =
            let f : behind (complement (exponent_of nums i) (get_or v (i - 1) 0)) (inverting nums budget room k (suc i) r₁ d₁) ≡ done r d =
            rw (y, inverting) at x in
            let g = behind-done _ (inverting nums budget room k (suc i) r₁ d₁) r d f in
            let l : Level P (suc k) i = record { first = omega arith; fits = omega arith } in
            let m = turned-collects i v c r₁ d₁ (omega arith) (omega arith) (deep-normal e (suc k) n 1 i (a ∷ h) (omega arith) s (whole P) p) y in
            let w : Collects P 1 v (replicate b i) m.0 r₁ = subst (λ (z : ℕ). Collects P 1 v (replicate (complement (P.exponent i) z) i) m.0 r₁) entry m.2 in
            let left : r₁ ≡ identity (suc e) ++ next-left k i a h = turned_left k e i a h q s p w in
            let on = rest (next-left k i a h) d₁ g.0 (above-normal P (valid nums accepts) k i b a h l p)
            (ap (λ (z : Vector). inverting nums budget room k (suc i) z d₁) (sym left) ∙ g.1) in
            let rr : r ≡ b ∷ g.0 = g.2 ∙ ap (λ (z : ℕ). complement (P.exponent i) z ∷ g.0) entry in
            record {
              inverse-is = rr ∙ ap (λ (z : Vector). b ∷ z) on.inverse-is;
              replacements = m.0 + on.replacements;
              counted = omega (arith, m.1, on.counted);
              clears =
                  subst (λ (z : Vector). Collects P 1 v (spell i z) (m.0 + on.replacements) (identity n)) (sym rr)
                  (collects-append P (subst (Collects P 1 v (replicate b i) m.0) left w) on.clears);
            }

  -- A larger budget or room.
  module _ (budget room budget' room' : ℕ) (more : budget ≤ budget') (wider : room ≤ room') where
    pub begun-larger : (v : Vector) (slots : List Piece) (c : ℕ) {r : Vector} {d : ℕ} → Normal P n 1 v → AllWellFormed n slots
        → begun nums budget room v slots c ≡ done r d → begun nums budget' room' v slots c ≡ done r d
    begun-larger v slots c {r} {d} p w e =
        let x = begun-runs budget room v slots c p w e in
        let y = runs-larger nums budget room budget' room' more wider x.1 in
        let z : outcome nums budget' room' v slots c ≡ done r d = outcome-is nums budget' room' (valid nums accepts) paired p w y in
        rw (le-ltb room' (length slots) (omega (arith, x.0)), begun) z

    turned-larger : (i : ℕ) (v : Vector) (c : ℕ) (r : Vector) (d : ℕ) → 1 ≤ i → i ≤ n → Normal P n 1 v → turned nums budget room i v c ≡ done r d
        → turned nums budget' room' i v c ≡ done r d
    turned-larger i v c r d low high p e = go (eqb (get_or v (i - 1) 0) 0) refl
      where
        go : (b : Bool) → eqb (get_or v (i - 1) 0) 0 ≡ b → turned nums budget' room' i v c ≡ done r d
        go true x = let y : done v c ≡ done r d = rw (x, turned) at e in rw (x, turned) y
        go false x =
            let y : begun nums budget room v (power i (exponent_of nums i - get_or v (i - 1) 0) ∷ []) c ≡ done r d = rw (x, turned) at e in
            let l : get_or v (i - 1) 0 < prime_of nums = normal-at P n 1 (i - 1) v p (omega arith) in
            rw (x, turned)
            (begun-larger v (power i (exponent_of nums i - get_or v (i - 1) 0) ∷ []) c p (record { low = low; high = high; some = omega arith }, tt) y)

    pub inverting-larger : (k i : ℕ) (v : Vector) (c : ℕ) (r : Vector) (d : ℕ) → 1 ≤ i → k + i ≡ suc n → Normal P n 1 v → c ≤ budget
        → inverting nums budget room k i v c ≡ done r d → inverting nums budget' room' k i v c ≡ done r d
    inverting-larger zero i v c r d low fits p h e = e
    inverting-larger (suc k) i v c r d low fits p h e =
        go (turned nums budget room i v c) refl (λ u c' s y z w. inverting-larger k (suc i) u c' s d (omega arith) (omega arith) y z w)
      where
        go : (o : Outcome) → turned nums budget room i v c ≡ o
            → ((u : Vector) (c' : ℕ) (s : Vector) → Normal P n 1 u → c' ≤ budget → inverting nums budget room k (suc i) u c' ≡ done s d
            → inverting nums budget' room' k (suc i) u c' ≡ done s d)
            → inverting nums budget' room' (suc k) i v c ≡ done r d
        go (refused z w) y rest = let f : refused z w ≡ done r d = rw (y, inverting) at e in let g : ◌≡◌ {A = ℕ} 0 1 = cc in absurd (omega arith)
        go (done r₁ d₁) y rest =
            let b = complement (exponent_of nums i) (get_or v (i - 1) 0) in
            let f : behind b (inverting nums budget room k (suc i) r₁ d₁) ≡ done r d = rw (y, inverting) at e in
            let g = behind-done budget room b (inverting nums budget room k (suc i) r₁ d₁) r d f in
            let fine : Fine nums budget (done r₁ d₁) = subst (Fine nums budget) y (turned-fine nums accepts budget room i v c low (omega arith) p h) in
            let on = rest r₁ d₁ g.0 fine.0 fine.1 g.1 in
            let t = turned-larger i v c r₁ d₁ low (omega arith) p y in
            rw (t, inverting) (ap (behind b) on ∙ ap (λ (z : Vector). done z d) (sym g.2))
