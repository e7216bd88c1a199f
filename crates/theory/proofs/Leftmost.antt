-- Collecting is leftmost replacement, on any valid presentation, consistent or not.
--
-- Main results:
--   `one-placing`       one placing is as many leftmost replacements as it counts
--   `collected-steps`   so collecting ends where leftmost replacement leads after exactly the counted number of replacements
--   `normal-ends`       and no replacement is possible there
use mathlib.Core.Path.{◌≡◌, refl, sym, ap, ap₂, ◌∙◌, subst}
use mathlib.Core.List.{[], ◌∷◌, ◌++◌, append_assoc, append-nil}
use mathlib.Core.Option.{Option, none, some}
use mathlib.Core.Bool.{Bool, true, false}
use mathlib.Core.Logic.{◌⊎◌, inl, inr}
use Prim.Native.Nat.{ℕ, zero, suc, ◌+◌, ◌≤◌, ◌<◌}
use native.Mathlib.Omega.{arith}
use lib.ListN.{length, replicate}
use borrow.Author.Tests.{eqb-true, ne_eqb, lt-ltb, le-ltb}
use Rattle.theory.specs.Presentation.{Presentation, Word, Vector, spell, identity, Normal, Over, Valid, power_word}
use Rattle.theory.specs.Replacement.{strip, replace_power, replace_first, behind, leftmost, steps}
use Rattle.theory.specs.Placing.{Placed, cost, conjugates, total, reached, raised, set_down, power_uses, place, placed_here, Collects, done, next}
use Rattle.theory.proofs.Words.{eqb_same, block-snoc, over-append, over-weaken, spell-over, spell-identity, conjugates-append, conjugates-block, place-here, place-above}
use Rattle.theory.proofs.Collecting.{Level, above, first-or-above, place-normal, place-over}

-- The word does not begin below m; it may be empty.
abbrev Starts : ℕ → Word → Type 0
Starts m [] = Unit {0}
Starts m (i ∷ w) = m ≤ i

-- The word does not begin with i.
abbrev Differs : ℕ → Word → Type 0
Differs i [] = Unit {0}
Differs i (j ∷ w) = j ≡ i → ⊥

starts-differs : (i : ℕ) (w : Word) → Starts (suc i) w → Differs i w
starts-differs i [] h = tt
starts-differs i (j ∷ w) h = λ e. omega arith

-- A block of letters before another letter.
strip-short : (c a i : ℕ) (u : Word) → a < c → Differs i u → strip c i (replicate a i ++ u) ≡ none
strip-short zero a i u h d = absurd (omega arith)
strip-short (suc c) zero i [] h d = refl
strip-short (suc c) zero i (j ∷ u) h d = rw (ne_eqb j i d, strip)
strip-short (suc c) (suc a) i u h d = rw (eqb_same i, strip) (strip-short c a i u (omega arith) d)

strip-whole : (c i : ℕ) (u : Word) → strip c i (replicate c i ++ u) ≡ some u
strip-whole zero i u = refl
strip-whole (suc c) i u = rw (eqb_same i, strip) (strip-whole c i u)

-- What is kept in front of a replaced word.
fronted : ℕ → ℕ → Option Word → Option Word
fronted a m none = none
fronted a m (some x) = some (replicate a m ++ x)

-- A chain of leftmost replacements in which no word that is replaced begins below m.
data Chain (P : Presentation) (m : ℕ) : ℕ → Word → Word → Type 0 where
  stop : {u : Word} → Chain P m 0 u u
  step : {c : ℕ} {u x w : Word} → Starts m u → leftmost P u ≡ some x → Chain P m c x w → Chain P m (suc c) u w

module _ (P : Presentation) where
  recast : {m c d : ℕ} {u v w x : Word} → c ≡ d → u ≡ v → w ≡ x → Chain P m c u w → Chain P m d v x
  recast {m} {c} {d} {u} {v} {w} {x} e f g t =
      subst (λ (y : ℕ). Chain P m y v x) e (subst (λ (y : Word). Chain P m c y x) f (subst (λ (y : Word). Chain P m c u y) g t))

  chain-append : {m c d : ℕ} {u v w : Word} → Chain P m c u v → Chain P m d v w → Chain P m (c + d) u w
  chain-append {d = d} stop t = let h : d ≡ 0 + d = omega arith in recast h refl refl t
  chain-append {d = d} (step {c = c} s e r) t =
      let h : suc (c + d) ≡ suc c + d = omega arith in recast h refl refl (step s e (chain-append r t))

  leftmost-behind : (j : ℕ) (w : Word) → replace_first P (j ∷ w) ≡ none → leftmost P (j ∷ w) ≡ behind j (leftmost P w)
  leftmost-behind j w e = rw (e, leftmost)

  leftmost-here : (j : ℕ) (w x : Word) → replace_first P (j ∷ w) ≡ some x → leftmost P (j ∷ w) ≡ some x
  leftmost-here j w x e = rw (e, leftmost)

  replace_power-short : (a g : ℕ) (u : Word) → a < P.exponent g → Differs g u → replace_power P g (replicate a g ++ u) ≡ none
  replace_power-short a g u h d = rw (strip-short (P.exponent g) a g u h d, replace_power)

  -- No non-normal subword starts where a letter stands before an equal one, in a block that is too short, or before a larger one.
  block_none : (a g : ℕ) (u : Word) → suc (suc a) < P.exponent g → Differs g u → replace_first P (replicate (suc (suc a)) g ++ u) ≡ none
  block_none a g u h d = rw (le-ltb g g (omega arith), replace_first) (replace_power-short (suc (suc a)) g u h d)

  last_none : (g : ℕ) (u : Word) → 1 < P.exponent g → Starts (suc g) u → replace_first P (g ∷ u) ≡ none
  last_none g [] h s = replace_power-short 1 g [] h tt
  last_none g (j ∷ u) h s = rw (le-ltb j g (omega arith), replace_first) (replace_power-short 1 g (j ∷ u) h (starts-differs g (j ∷ u) s))

  -- A block of letters m, too short to be replaced, before a word that begins above m: replacing goes on behind it.
  leftmost-front : (a m : ℕ) (u : Word) → a < P.exponent m → Starts (suc m) u → leftmost P (replicate a m ++ u) ≡ fronted a m (leftmost P u)
  unfolding fronted
  leftmost-front zero m u h s = go (leftmost P u)
    where
      go : (o : Option Word) → o ≡ fronted 0 m o
      go none = refl
      go (some x) = refl
  leftmost-front (suc a) m u h s =
      leftmost-behind m (replicate a m ++ u) (clear a h) ∙ ap (behind m) (leftmost-front a m u (omega arith) s) ∙ more (leftmost P u)
    where
      clear : (b : ℕ) → suc b < P.exponent m → replace_first P (replicate (suc b) m ++ u) ≡ none
      clear zero l = last_none m u l s
      clear (suc b) l = block_none b m u l (starts-differs m u s)

      more : (o : Option Word) → behind m (fronted a m o) ≡ fronted (suc a) m o
      more none = refl
      more (some x) = refl

  starts-front : (a m : ℕ) (u : Word) → Starts (suc m) u → Starts m (replicate a m ++ u)
  starts-front zero m [] s = tt
  starts-front zero m (i ∷ u) s = omega arith
  starts-front (suc a) m u s = omega arith

  front : {m c : ℕ} {u w : Word} (a : ℕ) → a < P.exponent m → Chain P (suc m) c u w → Chain P m c (replicate a m ++ u) (replicate a m ++ w)
  unfolding fronted
  front a h stop = stop
  front {m} a h (step {u = u} s e t) =
      step (starts-front a m u s) (leftmost-front a m u h s ∙ ap (fronted a m) e) (front a h t)

  -- x_g x_i = x_i v_ig, behind a block of letters g.
  exchange-step : (b g i : ℕ) (z : Word) → i < g → suc b < P.exponent g
      → leftmost P (replicate (suc b) g ++ (i ∷ z)) ≡ some (replicate b g ++ (i ∷ (P.conjugate i g ++ z)))
  exchange-step zero g i z l h = leftmost-here g (i ∷ z) (i ∷ (P.conjugate i g ++ z)) (rw (lt-ltb i g l, replace_first))
  exchange-step (suc b) g i z l h =
      leftmost-behind g (replicate (suc b) g ++ (i ∷ z)) (block_none b g (i ∷ z) h (λ e. omega arith))
      ∙ ap (behind g) (exchange-step b g i z l (omega arith))

  -- x_g^e = w_g.
  power-step : (a g : ℕ) (z : Word) → 2 ≤ P.exponent g → suc a ≡ P.exponent g → leftmost P (replicate (suc a) g ++ z) ≡ some (power_word P g ++ z)
  power-step zero g z h e = absurd (omega arith)
  power-step (suc c) g z h e =
      leftmost-here g (replicate (suc c) g ++ z) (power_word P g ++ z) (rw (le-ltb g g (omega arith), replace_first) replaced)
    where
      whole : strip (P.exponent g) g (replicate (suc (suc c)) g ++ z) ≡ some z
      whole = ap (λ (x : ℕ). strip x g (replicate (suc (suc c)) g ++ z)) (sym e) ∙ strip-whole (suc (suc c)) g z

      replaced : replace_power P g (replicate (suc (suc c)) g ++ z) ≡ some (power_word P g ++ z)
      replaced = rw (whole, replace_power)

  -- x_i moves to the left through a block of letters g, and then through the word of a whole tail.
  pass-block : (b g i : ℕ) (z : Word) → i < g → b < P.exponent g
      → Chain P g b (replicate b g ++ (i ∷ z)) (i ∷ (conjugates P i (replicate b g) ++ z))
  pass-block zero g i z l h = stop
  pass-block (suc b) g i z l h =
      let r : g ≤ g = omega arith in
      step {u = replicate (suc b) g ++ (i ∷ z)} r (exchange-step b g i z l h)
      (recast refl refl (ap {B = Word} (λ x. i ∷ x) (conjugates-block P i b g z)) (pass-block b g i (P.conjugate i g ++ z) l (omega arith)))

  pass : (k g i : ℕ) (v : Vector) (z : Word) → i < g → Normal P k g v
      → Chain P g (total v) (spell g v ++ (i ∷ z)) (i ∷ (conjugates P i (spell g v) ++ z))
  pass zero g i [] z l p = stop
  pass zero g i (b ∷ v) z l p = absurd p
  pass (suc k) g i [] z l p = absurd p
  pass (suc k) g i (b ∷ v) z l p =
      let s = spell (suc g) v in
      let h : total v + b ≡ b + total v = omega arith in
      let e = sym (append_assoc (replicate b g) s (i ∷ z)) in
      let f = sym (append_assoc (conjugates P i (replicate b g)) (conjugates P i s) z)
      ∙ ap (λ (x : Word). x ++ z) (sym (conjugates-append P i (replicate b g) s)) in
      recast h e (ap {B = Word} (λ x. i ∷ x) f)
      (chain-append (front b p.0 (pass k (suc g) i v z (omega arith) p.1)) (pass-block b g i (conjugates P i s ++ z) l p.0))

  over-starts : (m : ℕ) (w : Word) → Over P m w → Starts m w
  over-starts m [] o = tt
  over-starts m (i ∷ w) o = o.0.0

  chain_steps : {m c : ℕ} {u w : Word} → Chain P m c u w → steps P c u ≡ some w
  chain_steps stop = refl
  chain_steps (step {c = c} s e t) = rw (e, steps) (chain_steps t)

  pub steps-append : (c d : ℕ) (u v : Word) (o : Option Word) → steps P c u ≡ some v → steps P d v ≡ o → steps P (c + d) u ≡ o
  steps-append zero d u v o e f = let h : 0 + d ≡ d = omega arith in let q : u ≡ v = cc in ap (λ (x : ℕ). steps P x u) h ∙ ap (steps P d) q ∙ f
  steps-append (suc c) d u v o e f = go (leftmost P u) refl (λ x p. steps-append c d x v o p f)
    where
      h : suc c + d ≡ suc (c + d)
      h = omega arith

      go : (q : Option Word) → leftmost P u ≡ q → ((x : Word) → steps P c x ≡ some v → steps P (c + d) x ≡ o) → steps P (suc c + d) u ≡ o
      go none q r = let z : ◌≡◌ {A = Option Word} none (some v) = rw (q, steps) at e in absurd (let y : ◌≡◌ {A = ℕ} 0 1 = cc in omega arith)
      go (some x) q r = ap (λ (y : ℕ). steps P y u) h ∙ rw (q, steps) (r x (rw (q, steps) at e))

  module _ (valid : Valid P) where
    -- One placing is as many leftmost replacements as it counts.
    placing-chain : (k m : ℕ) (v : Vector) (i : ℕ) (w : Word) → Level P k m → Normal P k m v → m ≤ i → i ≤ P.rank
        → Chain P m (cost (place P m v i)) (spell m v ++ (i ∷ w)) (spell m (place P m v i).vector ++ ((place P m v i).puts ++ w))
    placing-chain zero m v i w l p h f = absurd (omega arith)
    placing-chain (suc k) m [] i w l p h f = absurd p
    placing-chain (suc k) m (a ∷ v) i w l p h f =
        go (first-or-above m i h) (λ g. placing-chain k (suc m) v i w (above l) p.1 g f)
      where
        s : Word
        s = spell (suc m) v

        Moves : ℕ → Placed → Type 0
        Moves j q = Chain P m (cost q) ((replicate a m ++ s) ++ (j ∷ w)) (spell m q.vector ++ (q.puts ++ w))

        e₀ : ℕ
        e₀ = P.exponent m

        image : Word
        image = conjugates P m s ++ w

        big : 2 ≤ e₀
        big = valid.exponents m l.first (omega arith)

        moved : Chain P m (total v) ((replicate a m ++ s) ++ (m ∷ w)) (replicate (suc a) m ++ image)
        moved =
            recast refl (sym (append_assoc (replicate a m) s (m ∷ w))) (block-snoc a m image)
            (front a p.0 (pass k (suc m) m v w (omega arith) p.1))

        here : (b : Bool) → reached e₀ a ≡ b → Moves m (placed_here P m a v)
        here false e =
            let u : power_uses e₀ a ≡ 0 = rw (e, power_uses) in
            let x : raised e₀ a ≡ suc a = rw (e, raised) in
            let y : set_down P (length v) m a ≡ identity (length v) = rw (e, set_down) in
            let c : total v ≡ total v + power_uses e₀ a = omega arith in
            let z = ap₂ (λ (x : ℕ) (y : Vector). replicate x m ++ spell (suc m) y) x y
            ∙ ap (λ (t : Word). replicate (suc a) m ++ t) (spell-identity P (length v) (suc m)) ∙ append-nil (replicate (suc a) m) in
            recast c refl (ap (λ (t : Word). t ++ image) (sym z)) moved
        here true e =
            let u : power_uses e₀ a ≡ 1 = rw (e, power_uses) in
            let x : raised e₀ a ≡ 0 = rw (e, raised) in
            let y : set_down P (length v) m a ≡ P.power m = rw (e, set_down) in
            let c : total v + 1 ≡ total v + power_uses e₀ a = omega arith in
            let z = ap₂ (λ (x : ℕ) (y : Vector). replicate x m ++ spell (suc m) y) x y in
            let r : m ≤ m = omega arith in
            recast c refl (ap (λ (t : Word). t ++ image) (sym z))
            (chain-append moved (step {u = replicate (suc a) m ++ image} r (power-step a m image big (eqb-true (suc a) e₀ e)) stop))

        go : (i ≡ m) ⊎ (m < i)
            → (m < i → Chain P (suc m) (cost (place P (suc m) v i)) (s ++ (i ∷ w)) (spell (suc m) (place P (suc m) v i).vector ++ ((place P (suc m) v i).puts ++ w)))
            → Moves i (place P m (a ∷ v) i)
        go (inl e) rest =
            subst (λ (j : ℕ). Moves j (place P m (a ∷ v) j)) (sym e) (subst (Moves m) (sym (place-here P m a v)) (here (reached e₀ a) refl))
        go (inr g) rest =
            let q = place P (suc m) v i in
            subst (Moves i) (sym (place-above P m a i v g))
            (recast refl (sym (append_assoc (replicate a m) s (i ∷ w))) (sym (append_assoc (replicate a m) (spell (suc m) q.vector) (q.puts ++ w)))
            (front a p.0 (rest g)))

    pub one-placing : (k m : ℕ) (v : Vector) (i : ℕ) (w : Word) → Level P k m → Normal P k m v → m ≤ i → i ≤ P.rank
        → steps P (cost (place P m v i)) (spell m v ++ (i ∷ w)) ≡ some (spell m (place P m v i).vector ++ ((place P m v i).puts ++ w))
    one-placing k m v i w l p h f = chain_steps (placing-chain k m v i w l p h f)

    pub collected-steps : (k m : ℕ) {v r : Vector} {w : Word} {c : ℕ} → Level P k m → Normal P k m v → Over P m w → Collects P m v w c r
        → steps P c (spell m v ++ w) ≡ some (spell m r)
    collected-steps k m {v} l p o done = ap some (append-nil (spell m v))
    collected-steps k m l p o (next {v = v} {i = i} {w = w} {c = c} {r = r} x) =
        let q = place P m v i in
        steps-append (cost q) c (spell m v ++ (i ∷ w)) (spell m q.vector ++ (q.puts ++ w)) (some (spell m r))
        (one-placing k m v i w l p o.0.0 o.0.1)
        (collected-steps k m l (place-normal P valid k m v i l p)
        (over-append P m q.puts w (over-weaken P m (suc m) q.puts (omega arith) (place-over P valid k m v i l p)) o.1) x)

    pub normal-ends : (k m : ℕ) (v : Vector) → Level P k m → Normal P k m v → leftmost P (spell m v) ≡ none
    unfolding fronted
    normal-ends zero m [] l p = refl
    normal-ends zero m (a ∷ v) l p = absurd p
    normal-ends (suc k) m [] l p = absurd p
    normal-ends (suc k) m (a ∷ v) l p =
        leftmost-front a m (spell (suc m) v) p.0 (over-starts (suc m) (spell (suc m) v) (spell-over P k (suc m) v (omega arith) p.1))
        ∙ ap (fronted a m) (normal-ends k (suc m) v (above l) p.1)
