-- Collecting, on any valid presentation, consistent or not.
--
-- Main results:
--   `collect-append`   a word in two parts is collected part by part
--   `collect-above`    letters above the first generator leave the first entry alone
--   `put-normal`, `collect-normal`   vectors stay normal
--   `fill`             a normal word collected onto the identity gives its vector back
--   `collects`         collecting always ends, at `collect` with `count`
--   `unique`           and at one vector and count only
use mathlib.Core.Path.{◌≡◌, refl, sym, ap, ap₂, ◌∙◌, subst, subst₂}
use mathlib.Core.List.{[], ◌∷◌, ◌++◌, append_assoc, append-nil}
use mathlib.Core.Bool.{Bool, true, false}
use mathlib.Core.Logic.{◌⊎◌, inl, inr}
use Prim.Native.Nat.{ℕ, zero, suc, ◌+◌, ◌≤◌, ◌<◌}
use native.Mathlib.Omega.{arith}
use lib.ListN.{length, replicate}
use lib.Dec.{eqb}
use borrow.Author.Tests.{eqb-true, eqb-false, ne_eqb}
use Rattle.theory.specs.Presentation.{Presentation, Word, Vector, spell, identity, Normal, Over, Valid}
use Rattle.theory.specs.Placing.{Placed, cost, conjugates, reached, raised, set_down, place, placed_here, keeping, folded, summed, put, put_count, collect, count, Collects, done, next}
use Rattle.theory.proofs.Words.{over-append, over-weaken, spell-over, normal-length, spell-identity, conjugates-over, place-here, place-above, put-here, put-above, put_count-here, put_count-above}

-- The k entries of a vector that starts at the generator m reach to the last generator.
pub record Level (P : Presentation) (k m : ℕ) : Type 0 where
  pub first : 1 ≤ m
  pub fits : k + m ≡ suc P.rank

pub above : {P : Presentation} {k m : ℕ} → Level P (suc k) m → Level P k (suc m)
above l = record { first = omega arith; fits = omega arith }

-- The whole group: n entries from the generator 1 on.
pub whole : (P : Presentation) → Level P P.rank 1
whole P = record { first = omega arith; fits = omega arith }

-- A generator in range is the first one or above it.
pub first-or-above : (m i : ℕ) → m ≤ i → (i ≡ m) ⊎ (m < i)
first-or-above m i h = go (eqb i m) refl
  where
    go : (b : Bool) → eqb i m ≡ b → (i ≡ m) ⊎ (m < i)
    go true e = inl (eqb-true i m e)
    go false e = let d : i ≡ m → ⊥ = eqb-false i m e in inr (omega arith)

-- One entry raised by one.
pub raised-low : (e a : ℕ) → suc a < e → raised e a ≡ suc a
raised-low e a h = rw (ne_eqb (suc a) e (λ q. omega arith), raised)

pub raised_below : (e a : ℕ) → a < e → raised e a < e
raised_below e a h = go (eqb (suc a) e) refl
  where
    go : (b : Bool) → eqb (suc a) e ≡ b → raised e a < e
    go true q = rw (q, raised) (omega arith)
    go false q = let d : suc a ≡ e → ⊥ = eqb-false (suc a) e q in rw (q, raised) (omega arith)

pub folded-append : (f : Vector → ℕ → Vector) (v : Vector) (u w : Word) → folded f v (u ++ w) ≡ folded f (folded f v u) w
folded-append f v [] w = refl
folded-append f v (i ∷ u) w = folded-append f (f v i) u w

folded_keeps : (N : Vector → Type 0) (f : Vector → ℕ → Vector) → ((v : Vector) (i : ℕ) → N v → N (f v i)) → (v : Vector) (w : Word) → N v → N (folded f v w)
folded_keeps N f h v [] p = p
folded_keeps N f h v (i ∷ w) p = folded_keeps N f h (f v i) w (h v i p)

module _ (P : Presentation) where
  pub collect-append : (k m : ℕ) (v : Vector) (u w : Word) → collect P k m v (u ++ w) ≡ collect P k m (collect P k m v u) w
  collect-append k m v u w = folded-append (put P k m) v u w

  pub collect-above : (k m a : ℕ) (v : Vector) (w : Word) → Over P (suc m) w → collect P (suc k) m (a ∷ v) w ≡ a ∷ collect P k (suc m) v w
  collect-above k m a v [] p = refl
  collect-above k m a v (i ∷ w) p =
      ap (λ (x : Vector). collect P (suc k) m x w) (put-above P k m a i v p.0.0) ∙ collect-above k m a (put P k (suc m) v i) w p.1

  pub set_down-low : (k m a : ℕ) → suc a < P.exponent m → set_down P k m a ≡ identity k
  set_down-low k m a h = rw (ne_eqb (suc a) (P.exponent m) (λ q. omega arith), set_down)

  -- A placing at its own generator, given by what it leaves, puts and costs.
  next-as : {m : ℕ} {v : Vector} {i : ℕ} {w : Word} {c : ℕ} {r : Vector} (q : Placed)
      → place P m v i ≡ q → Collects P m q.vector (q.puts ++ w) c r → Collects P m v (i ∷ w) (cost q + c) r
  next-as {m} {v} {i} {w} {c} {r} q e x =
      subst (λ (y : Placed). Collects P m y.vector (y.puts ++ w) c r → Collects P m v (i ∷ w) (cost y + c) r) e next x

  recount : {m : ℕ} {v : Vector} {w : Word} {c d : ℕ} {r : Vector} → c ≡ d → Collects P m v w c r → Collects P m v w d r
  recount {m} {v} {w} {c} {d} {r} e x = subst (λ (y : ℕ). Collects P m v w y r) e x

  ends_at : {m : ℕ} {v : Vector} {w : Word} {c d : ℕ} {r s : Vector} → c ≡ d → r ≡ s → Collects P m v w c r → Collects P m v w d s
  ends_at {m} {v} {w} {c} {d} {r} {s} e f x = subst₂ (λ (y : ℕ) (z : Vector). Collects P m v w y z) e f x

  pub collects-append : {m : ℕ} {v r s : Vector} {u w : Word} {c d : ℕ} → Collects P m v u c r → Collects P m r w d s → Collects P m v (u ++ w) (c + d) s
  collects-append {d = d} done y = let h : d ≡ 0 + d = omega arith in recount h y
  collects-append {m} {s = s} {w = w} {d = d} (next {v = v} {i = i} {w = u} {c = c} x) y =
      let q = place P m v i in
      let h : cost q + (c + d) ≡ cost q + c + d = omega arith in
      recount h (next (subst (λ (z : Word). Collects P m q.vector z (c + d) s) (append_assoc q.puts u w) (collects-append x y)))

  pub unique : {m : ℕ} {v r s : Vector} {w : Word} {c d : ℕ} → Collects P m v w c r → Collects P m v w d s → (c ≡ d) × (r ≡ s)
  unique done done = (refl, refl)
  unique {m} (next {v = v} {i = i} x) (next y) = let h = unique x y in (ap (λ (z : ℕ). cost (place P m v i) + z) h.0, h.1)

  module _ (valid : Valid P) where
    pub identity-normal : (k m : ℕ) → Level P k m → Normal P k m (identity k)
    identity-normal zero m l = tt
    identity-normal (suc k) m l =
        let h : 2 ≤ P.exponent m = valid.exponents m l.first (omega arith) in
        (omega arith, identity-normal k (suc m) (above l))

    pub set_down-normal : (k m a : ℕ) → Level P (suc k) m → Normal P k (suc m) (set_down P k m a)
    set_down-normal k m a l = go (reached (P.exponent m) a)
      where
        go : (b : Bool) → Normal P k (suc m) (elim b [ true ↦ P.power m | false ↦ identity k ])
        go true = valid.powers m k l.first (omega arith)
        go false = identity-normal k (suc m) (above l)

    pub put-normal : (k m : ℕ) (v : Vector) (i : ℕ) → Level P k m → Normal P k m v → Normal P k m (put P k m v i)
    put-normal zero m v i l p = p
    put-normal (suc k) m [] i l p = absurd p
    put-normal (suc k) m (a ∷ v) i l p = go (eqb i m) refl (λ x j q. put-normal k (suc m) x j (above l) q)
      where
        go : (b : Bool) → eqb i m ≡ b → ((x : Vector) (j : ℕ) → Normal P k (suc m) x → Normal P k (suc m) (put P k (suc m) x j))
            → Normal P (suc k) m (put P (suc k) m (a ∷ v) i)
        go true e h =
            rw (e, put) (
              raised_below (P.exponent m) a p.0,
              folded_keeps (Normal P k (suc m)) (put P k (suc m)) h (set_down P k m a) (conjugates P m (spell (suc m) v)) (set_down-normal k m a l),
            )
        go false e h = rw (e, put) (p.0, h v i p.1)

    pub collect-normal : (k m : ℕ) (v : Vector) (w : Word) → Level P k m → Normal P k m v → Normal P k m (collect P k m v w)
    collect-normal k m v w l p = folded_keeps (Normal P k m) (put P k m) (λ x i q. put-normal k m x i l q) v w p

    -- A block of the first generator's letters, as long as its exponent is not reached.
    pub block_on : (k m a b : ℕ) → b + a < P.exponent m
        → collect P (suc k) m (b ∷ identity k) (replicate a m) ≡ (b + a) ∷ identity k
    block_on k m zero b h = let e : b ≡ b + 0 = omega arith in ap (λ (x : ℕ). x ∷ identity k) e
    block_on k m (suc a) b h =
        let e : suc b + a ≡ b + suc a = omega arith in
        let s : suc b < P.exponent m = omega arith in
        ap (λ (x : Vector). collect P (suc k) m x (replicate a m)) (one s)
        ∙ block_on k m a (suc b) (omega arith)
        ∙ ap (λ (x : ℕ). x ∷ identity k) e
      where
        one : suc b < P.exponent m → put P (suc k) m (b ∷ identity k) m ≡ suc b ∷ identity k
        one s =
            put-here P k m b (identity k)
            ∙ ap₂ (λ (x : ℕ) (y : Word). x ∷ collect P k (suc m) (set_down P k m b) (conjugates P m y)) (raised-low (P.exponent m) b s) (spell-identity P k (suc m))
            ∙ ap (λ (x : Vector). suc b ∷ x) (set_down-low k m b s)

    pub fill : (k m : ℕ) (v : Vector) → Level P k m → Normal P k m v → collect P k m (identity k) (spell m v) ≡ v
    fill zero m [] l p = refl
    fill zero m (a ∷ v) l p = absurd p
    fill (suc k) m [] l p = absurd p
    fill (suc k) m (a ∷ v) l p =
        let e : 0 + a ≡ a = omega arith in
        collect-append (suc k) m (identity (suc k)) (replicate a m) (spell (suc m) v)
        ∙ ap (λ (x : Vector). collect P (suc k) m x (spell (suc m) v)) (block_on k m a 0 (omega arith))
        ∙ collect-above k m (0 + a) (identity k) (spell (suc m) v) (spell-over P k (suc m) v (omega arith) p.1)
        ∙ ap₂ (λ (x : ℕ) (y : Vector). x ∷ y) e (fill k (suc m) v (above l) p.1)

    -- Collecting onto v is collecting onto the identity with v's word in front.
    pub collect-from : (k m : ℕ) (v : Vector) (w : Word) → Level P k m → Normal P k m v
        → collect P k m v w ≡ collect P k m (identity k) (spell m v ++ w)
    collect-from k m v w l p =
        ap (λ (x : Vector). collect P k m x w) (sym (fill k m v l p)) ∙ sym (collect-append k m (identity k) (spell m v) w)

    -- A placing keeps the vector normal, and puts only generators above the placed one.
    pub place-normal : (k m : ℕ) (v : Vector) (i : ℕ) → Level P k m → Normal P k m v → Normal P k m (place P m v i).vector
    place-normal zero m [] i l p = tt
    place-normal zero m (a ∷ v) i l p = absurd p
    place-normal (suc k) m [] i l p = absurd p
    place-normal (suc k) m (a ∷ v) i l p = go (eqb i m) refl (place-normal k (suc m) v i (above l) p.1)
      where
        go : (b : Bool) → eqb i m ≡ b → Normal P k (suc m) (place P (suc m) v i).vector → Normal P (suc k) m (place P m (a ∷ v) i).vector
        go true e h =
            rw (e, place) (
              raised_below (P.exponent m) a p.0,
              subst (λ (x : ℕ). Normal P k (suc m) (set_down P x m a)) (sym (normal-length P k (suc m) v p.1)) (set_down-normal k m a l),
            )
        go false e h = rw (e, place) (p.0, h)

    pub place-over : (k m : ℕ) (v : Vector) (i : ℕ) → Level P k m → Normal P k m v → Over P (suc m) (place P m v i).puts
    place-over zero m [] i l p = tt
    place-over zero m (a ∷ v) i l p = absurd p
    place-over (suc k) m [] i l p = absurd p
    place-over (suc k) m (a ∷ v) i l p = go (eqb i m) refl (place-over k (suc m) v i (above l) p.1)
      where
        go : (b : Bool) → eqb i m ≡ b → Over P (suc (suc m)) (place P (suc m) v i).puts → Over P (suc m) (place P m (a ∷ v) i).puts
        go true e h = rw (e, place) (conjugates-over P valid m (spell (suc m) v) l.first (spell-over P k (suc m) v (omega arith) p.1))
        go false e h = rw (e, place) (over-weaken P (suc m) (suc (suc m)) (place P (suc m) v i).puts (omega arith) h)

    -- What is collected among the entries above the first one.
    pub collects-above : {k m : ℕ} (a : ℕ) {v r : Vector} {w : Word} {c : ℕ} → Level P (suc k) m → Normal P k (suc m) v → Over P (suc m) w
        → Collects P (suc m) v w c r → Collects P m (a ∷ v) w c (a ∷ r)
    collects-above a l p o done = done
    collects-above {k} {m} a l p o (next {v = v} {i = i} {w = w} x) =
        next-as (keeping a (place P (suc m) v i)) (place-above P m a i v o.0.0)
        (collects-above a l (place-normal k (suc m) v i (above l) p)
        (over-append P (suc m) (place P (suc m) v i).puts w
        (over-weaken P (suc m) (suc (suc m)) (place P (suc m) v i).puts (omega arith) (place-over k (suc m) v i (above l) p)) o.1)
        x)

    -- Collecting ends: a word, if each letter's collecting does.
    letters-end : (k m : ℕ) → Level P k m
        → ((v : Vector) (i : ℕ) → Normal P k m v → m ≤ i → i ≤ P.rank → Collects P m v (i ∷ []) (put_count P k m v i) (put P k m v i))
        → (v : Vector) (w : Word) → Normal P k m v → Over P m w → Collects P m v w (count P k m v w) (collect P k m v w)
    letters-end k m l one v [] p o = done
    letters-end k m l one v (i ∷ w) p o =
        collects-append (one v i p o.0.0 o.0.1) (letters-end k m l one (put P k m v i) w (put-normal k m v i l p) o.1)

    letter-ends : (k m : ℕ) → Level P k m → (v : Vector) (i : ℕ) → Normal P k m v → m ≤ i → i ≤ P.rank
        → Collects P m v (i ∷ []) (put_count P k m v i) (put P k m v i)
    letter-ends zero m l v i p h f = absurd (omega arith)
    letter-ends (suc k) m l [] i p h f = absurd p
    letter-ends (suc k) m l (a ∷ v) i p h f =
        go (first-or-above m i h) (letters-end k (suc m) (above l) (letter-ends k (suc m) (above l)))
        (λ g. letter-ends k (suc m) (above l) v i p.1 g f)
      where
        Ends : ℕ → Type 0
        Ends j = Collects P m (a ∷ v) (j ∷ []) (put_count P (suc k) m (a ∷ v) j) (put P (suc k) m (a ∷ v) j)

        Here : Word → Vector → Type 0
        Here w x = Collects P m (raised (P.exponent m) a ∷ x) w
            (summed (put P k (suc m)) (put_count P k (suc m)) (set_down P k m a) (conjugates P m (spell (suc m) v)))
            (raised (P.exponent m) a ∷ collect P k (suc m) (set_down P k m a) (conjugates P m (spell (suc m) v)))

        go : (i ≡ m) ⊎ (m < i)
            → ((x : Vector) (w : Word) → Normal P k (suc m) x → Over P (suc m) w → Collects P (suc m) x w (count P k (suc m) x w) (collect P k (suc m) x w))
            → (m < i → Collects P (suc m) v (i ∷ []) (put_count P k (suc m) v i) (put P k (suc m) v i))
            → Ends i
        go (inl e) many one =
            let w = conjugates P m (spell (suc m) v) in
            let o : Over P (suc m) w = conjugates-over P valid m (spell (suc m) v) l.first (spell-over P k (suc m) v (omega arith) p.1) in
            let d : Normal P k (suc m) (set_down P k m a) = set_down-normal k m a l in
            let x : Here w (set_down P k m a) = collects-above (raised (P.exponent m) a) l d o (many (set_down P k m a) w d o) in
            let y : Here w (set_down P (length v) m a) = subst (λ (z : ℕ). Here w (set_down P z m a)) (sym (normal-length P k (suc m) v p.1)) x in
            let z : Here (w ++ []) (set_down P (length v) m a) = subst (λ (u : Word). Here u (set_down P (length v) m a)) (sym (append-nil w)) y in
            subst Ends (sym e)
            (ends_at (sym (put_count-here P k m a v)) (sym (put-here P k m a v)) (next-as (placed_here P m a v) (place-here P m a v) z))
        go (inr g) many one =
            ends_at (sym (put_count-above P k m a i v g)) (sym (put-above P k m a i v g))
            (collects-above a l p.1 ((g, f), tt) (one g))

    pub collects : (k m : ℕ) (v : Vector) (w : Word) → Level P k m → Normal P k m v → Over P m w
        → Collects P m v w (count P k m v w) (collect P k m v w)
    collects k m v w l p o = letters-end k m l (letter-ends k m l) v w p o

    -- What a word collects to is `collect`, and its count is `count`.
    pub collects-to : (k m : ℕ) {v r : Vector} {w : Word} {c : ℕ} → Level P k m → Normal P k m v → Over P m w → Collects P m v w c r
        → (c ≡ count P k m v w) × (r ≡ collect P k m v w)
    collects-to k m {v} {r} {w} l p o x = unique x (collects k m v w l p o)
