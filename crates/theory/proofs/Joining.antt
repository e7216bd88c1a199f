-- Joined words.
--
-- Main results:
--   `joined-append`, `joined-trans`, `joined-sym`   joining is an equivalence that goes with products of words
--   `leftmost-link`     every leftmost replacement is a link
--   `collect-joined`    so a word is joined to the word of the vector that it collects to
--   `sides-joined`      the two sides of every overlap are joined, on any presentation
use mathlib.Core.Path.{◌≡◌, refl, sym, ap, ap₂, ◌∙◌, subst, subst₂}
use mathlib.Core.List.{[], ◌∷◌, ◌++◌, append_assoc, append-nil}
use mathlib.Core.Option.{Option, none, some}
use mathlib.Core.Bool.{Bool, true, false}
use Prim.Native.Nat.{ℕ, zero, suc, ◌-◌, ◌≤◌}
use native.Mathlib.Omega.{arith}
use lib.ListN.{replicate}
use lib.Dec.{eqb, ltb}
use borrow.Author.Tests.{eqb-true, ltb-true}
use Rattle.theory.specs.Presentation.{Presentation, Word, Vector, spell, Normal, Over, Valid, power_word}
use Rattle.theory.specs.Replacement.{strip, replace_power, replace_first, behind, leftmost, steps}
use Rattle.theory.specs.Joined.{Relation, power, exchange, Link, forth, back, Joined, same, link}
use Rattle.theory.specs.Placing.{collect, count}
use Rattle.theory.specs.Overlaps.{Overlap, triple, upper, lower, single, Among, left_side, right_side, overlapped}
use Rattle.theory.proofs.Words.{block-snoc, over-append, over-weaken, over-block, spell-over, conjugate-over, power-over}
use Rattle.theory.proofs.Collecting.{Level, collects}
use Rattle.theory.proofs.Leftmost.{collected-steps}

strip-sound : (c i : ℕ) (w rest : Word) → strip c i w ≡ some rest → w ≡ replicate c i ++ rest
strip-sound zero i w rest e = cc
strip-sound (suc c) i [] rest e = let z : ◌≡◌ {A = ℕ} 0 1 = cc in absurd (omega arith)
strip-sound (suc c) i (j ∷ w) rest e = go (eqb j i) refl (λ f. strip-sound c i w rest f)
  where
    go : (b : Bool) → eqb j i ≡ b → (strip c i w ≡ some rest → w ≡ replicate c i ++ rest) → j ∷ w ≡ i ∷ (replicate c i ++ rest)
    go true q r = ap₂ (λ (x : ℕ) (y : Word). x ∷ y) (eqb-true j i q) (r (rw (q, strip) at e))
    go false q r = let f : ◌≡◌ {A = Option Word} none (some rest) = rw (q, strip) at e in let z : ◌≡◌ {A = ℕ} 0 1 = cc in absurd (omega arith)

module _ (P : Presentation) where
  pub joined-trans : {m : ℕ} {u v w : Word} → Joined P m u v → Joined P m v w → Joined P m u w
  joined-trans same y = y
  joined-trans (link k x) y = link k (joined-trans x y)

  link-sym : {m : ℕ} {u w : Word} → Link P m u w → Link P m w u
  link-sym (forth a b r) = back a b r
  link-sym (back a b r) = forth a b r

  pub joined-sym : {m : ℕ} {u w : Word} → Joined P m u w → Joined P m w u
  joined-sym same = same
  joined-sym (link k x) = joined-trans (joined-sym x) (link (link-sym k) same)

  pub joined_at : {m : ℕ} {u v w x : Word} → u ≡ v → w ≡ x → Joined P m u w → Joined P m v x
  joined_at {m} e f j = subst₂ (λ (y z : Word). Joined P m y z) e f j

  -- Links and chains within a longer word.
  regroup : (x a l b y : Word) → (x ++ a) ++ (l ++ (b ++ y)) ≡ x ++ ((a ++ (l ++ b)) ++ y)
  regroup x a l b y = simp append_assoc

  link-within : {m : ℕ} {u w : Word} (x y : Word) → Link P m u w → Link P m (x ++ (u ++ y)) (x ++ (w ++ y))
  link-within {m} x y (forth a b {l = l} {r = r} t) = subst₂ (λ (p q : Word). Link P m p q) (regroup x a l b y) (regroup x a r b y) (forth (x ++ a) (b ++ y) t)
  link-within {m} x y (back a b {l = l} {r = r} t) = subst₂ (λ (p q : Word). Link P m p q) (regroup x a r b y) (regroup x a l b y) (back (x ++ a) (b ++ y) t)

  pub joined-within : {m : ℕ} {u w : Word} (x y : Word) → Joined P m u w → Joined P m (x ++ (u ++ y)) (x ++ (w ++ y))
  joined-within x y same = same
  joined-within x y (link k j) = link (link-within x y k) (joined-within x y j)

  pub joined-append : {m : ℕ} {u v w x : Word} → Joined P m u v → Joined P m w x → Joined P m (u ++ w) (v ++ x)
  joined-append {m} {u} {v} {w} {x} j k =
      joined-trans
      (joined-within [] w j)
      (joined_at (ap (λ (y : Word). v ++ y) (append-nil w)) (ap (λ (y : Word). v ++ y) (append-nil x)) (joined-within v [] k))

  pub relation-joined : {m : ℕ} {l r : Word} (a b : Word) → Relation P m l r → Joined P m (a ++ (l ++ b)) (a ++ (r ++ b))
  relation-joined a b t = link (forth a b t) same

  -- Relations of fewer generators.
  relation-weaken : {l m : ℕ} {u w : Word} → l ≤ m → Relation P m u w → Relation P l u w
  relation-weaken h (power i a b) = power i (omega arith) b
  relation-weaken h (exchange i j a b c) = exchange i j (omega arith) b c

  -- A replacement is a link.
  link-behind : {m : ℕ} {u w : Word} (j : ℕ) → Link P m u w → Link P m (j ∷ u) (j ∷ w)
  link-behind j (forth a b r) = forth (j ∷ a) b r
  link-behind j (back a b r) = back (j ∷ a) b r

  power-link : (m j : ℕ) (w x : Word) → m ≤ j → j ≤ P.rank → replace_power P j w ≡ some x → Link P m w x
  power-link m j w x h f e = go (strip (P.exponent j) j w) refl
    where
      go : (o : Option Word) → strip (P.exponent j) j w ≡ o → Link P m w x
      go none q = let g : ◌≡◌ {A = Option Word} none (some x) = rw (q, replace_power) at e in let z : ◌≡◌ {A = ℕ} 0 1 = cc in absurd (omega arith)
      go (some rest) q =
          let g : ◌≡◌ {A = Option Word} (some (power_word P j ++ rest)) (some x) = rw (q, replace_power) at e in
          let y : power_word P j ++ rest ≡ x = cc in
          subst₂ (λ (s t : Word). Link P m s t) (sym (strip-sound (P.exponent j) j w rest q)) y (forth [] rest (power j h f))

  first-link : (m : ℕ) (w x : Word) → Over P m w → replace_first P w ≡ some x → Link P m w x
  first-link m [] x o e = let z : ◌≡◌ {A = ℕ} 0 1 = cc in absurd (omega arith)
  first-link m (j ∷ []) x o e = power-link m j (j ∷ []) x o.0.0 o.0.1 e
  first-link m (j ∷ i ∷ w) x o e = go (ltb i j) refl
    where
      go : (b : Bool) → ltb i j ≡ b → Link P m (j ∷ i ∷ w) x
      go true q =
          let g : ◌≡◌ {A = Option Word} (some (i ∷ (P.conjugate i j ++ w))) (some x) = rw (q, replace_first) at e in
          let y : i ∷ (P.conjugate i j ++ w) ≡ x = cc in
          subst (λ (t : Word). Link P m (j ∷ i ∷ w) t) y (forth [] w (exchange i j o.1.0.0 (ltb-true i j q) o.0.1))
      go false q = power-link m j (j ∷ i ∷ w) x o.0.0 o.0.1 (rw (q, replace_first) at e)

  pub leftmost-link : (m : ℕ) (w x : Word) → Over P m w → leftmost P w ≡ some x → Link P m w x
  leftmost-link m [] x o e = let z : ◌≡◌ {A = ℕ} 0 1 = cc in absurd (omega arith)
  leftmost-link m (j ∷ w) x o e = go (replace_first P (j ∷ w)) refl (leftmost P w) refl (λ y f. leftmost-link m w y o.1 f)
    where
      go : (a : Option Word) → replace_first P (j ∷ w) ≡ a → (b : Option Word) → leftmost P w ≡ b → ((y : Word) → leftmost P w ≡ some y → Link P m w y)
          → Link P m (j ∷ w) x
      go (some y) q b r h = let g : ◌≡◌ {A = Option Word} (some y) (some x) = rw (q, leftmost) at e in first-link m (j ∷ w) x o (q ∙ g)
      go none q none r h = let g : ◌≡◌ {A = Option Word} (behind j (leftmost P w)) (some x) = rw (q, leftmost) at e in
          let f : ◌≡◌ {A = Option Word} none (some x) = ap (behind j) (sym r) ∙ g in let z : ◌≡◌ {A = ℕ} 0 1 = cc in absurd (omega arith)
      go none q (some y) r h = let g : ◌≡◌ {A = Option Word} (behind j (leftmost P w)) (some x) = rw (q, leftmost) at e in
          let f : ◌≡◌ {A = Option Word} (some (j ∷ y)) (some x) = ap (behind j) (sym r) ∙ g in
          let t : j ∷ y ≡ x = cc in
          subst (λ (s : Word). Link P m (j ∷ w) s) t (link-behind j (h y r))

  over-left : (m : ℕ) (u w : Word) → Over P m (u ++ w) → Over P m u
  over-left m [] w o = tt
  over-left m (i ∷ u) w o = (o.0, over-left m u w o.1)

  over-right : (m : ℕ) (u w : Word) → Over P m (u ++ w) → Over P m w
  over-right m [] w o = o
  over-right m (i ∷ u) w o = over-right m u w o.1

  module _ (valid : Valid P) where
    pub relation-over : {m : ℕ} {l r : Word} → 1 ≤ m → Relation P m l r → Over P m l × Over P m r
    relation-over {m} h (power i a b) =
        (over-block P m (P.exponent i) i a b, over-weaken P m (suc i) (power_word P i) (omega arith) (power-over P valid i (omega arith) b))
    relation-over {m} h (exchange i j a b c) =
        let ir : i ≤ P.rank = omega arith in
        let mj : m ≤ j = omega arith in
        (((mj, c), ((a, ir), tt)), ((a, ir), over-weaken P m (suc i) (P.conjugate i j) (omega arith) (conjugate-over P valid i j (omega arith) b c)))

    exchanged-over : (m : ℕ) (a b l r : Word) → Over P m r → Over P m (a ++ (l ++ b)) → Over P m (a ++ (r ++ b))
    exchanged-over m a b l r p o =
        over-append P m a (r ++ b) (over-left m a (l ++ b) o) (over-append P m r b p (over-right m l b (over-right m a (l ++ b) o)))

    pub link-over : {m : ℕ} {u w : Word} → 1 ≤ m → Link P m u w → Over P m u → Over P m w
    link-over {m} h (forth a b {l = l} {r = r} t) o = exchanged-over m a b l r (relation-over h t).1 o
    link-over {m} h (back a b {l = l} {r = r} t) o = exchanged-over m a b r l (relation-over h t).0 o

    pub steps-joined : (m c : ℕ) (u w : Word) → 1 ≤ m → Over P m u → steps P c u ≡ some w → Joined P m u w
    steps-joined m zero u w h o e = let q : u ≡ w = cc in subst (λ (x : Word). Joined P m u x) q same
    steps-joined m (suc c) u w h o e = go (leftmost P u) refl (λ x p f. steps-joined m c x w h p f)
      where
        go : (a : Option Word) → leftmost P u ≡ a → ((x : Word) → Over P m x → steps P c x ≡ some w → Joined P m x w) → Joined P m u w
        go none q r = let f : ◌≡◌ {A = Option Word} none (some w) = rw (q, steps) at e in let z : ◌≡◌ {A = ℕ} 0 1 = cc in absurd (omega arith)
        go (some x) q r = let k : Link P m u x = leftmost-link m u x o q in link k (r x (link-over h k o) (rw (q, steps) at e))

    -- A word is joined to what it collects to.
    pub collect-joined : (k m : ℕ) (v : Vector) (w : Word) → Level P k m → Normal P k m v → Over P m w
        → Joined P m (spell m v ++ w) (spell m (collect P k m v w))
    collect-joined k m v w l p o =
        steps-joined m (count P k m v w) (spell m v ++ w) (spell m (collect P k m v w)) l.first
        (over-append P m (spell m v) w (spell-over P k m v l.fits p) o)
        (collected-steps P valid k m l p o (collects P valid k m v w l p o))

    -- The sides of an overlap: over the generators from the lowest one on, and joined to the overlapped word.
    exponent-suc : (i : ℕ) → 1 ≤ i → i ≤ P.rank → P.exponent i ≡ suc (P.exponent i - 1)
    exponent-suc i h f = let b : 2 ≤ P.exponent i = valid.exponents i h f in omega arith

    pub sides-over : (m : ℕ) (o : Overlap) → 1 ≤ m → Among P m o → Over P m (left_side P o) × Over P m (right_side P o)
    sides-over m (triple i j k) h a =
        let mj : m ≤ j = omega arith in let jr : j ≤ P.rank = omega arith in let ir : i ≤ P.rank = omega arith in let mk : m ≤ k = omega arith in (
          ((mj, jr), over-append P m (P.conjugate j k) (i ∷ []) (over-weaken P m (suc j) (P.conjugate j k) (omega arith) (conjugate-over P valid j k (omega arith) a.2 a.3)) ((a.0, ir), tt)),
          ((mk, a.3), ((a.0, ir), over-weaken P m (suc i) (P.conjugate i j) (omega arith) (conjugate-over P valid i j (omega arith) a.1 jr))),
        )
    sides-over m (upper i j) h a =
        let mj : m ≤ j = omega arith in let ir : i ≤ P.rank = omega arith in (
          over-append P m (power_word P j) (i ∷ []) (over-weaken P m (suc j) (power_word P j) (omega arith) (power-over P valid j (omega arith) a.2)) ((a.0, ir), tt),
          over-append P m (replicate (P.exponent j - 1) j) (i ∷ P.conjugate i j) (over-block P m (P.exponent j - 1) j mj a.2)
              ((a.0, ir), over-weaken P m (suc i) (P.conjugate i j) (omega arith) (conjugate-over P valid i j (omega arith) a.1 a.2)),
        )
    sides-over m (lower i j) h a =
        let mj : m ≤ j = omega arith in let ir : i ≤ P.rank = omega arith in (
          (
            (a.0, ir),
            over-append P m (P.conjugate i j) (replicate (P.exponent i - 1) i)
                (over-weaken P m (suc i) (P.conjugate i j) (omega arith) (conjugate-over P valid i j (omega arith) a.1 a.2)) (over-block P m (P.exponent i - 1) i a.0 ir),
          ),
          ((mj, a.2), over-weaken P m (suc i) (power_word P i) (omega arith) (power-over P valid i (omega arith) ir)),
        )
    sides-over m (single i) h a =
        let w : Over P m (power_word P i) = over-weaken P m (suc i) (power_word P i) (omega arith) (power-over P valid i (omega arith) a.1) in
        (over-append P m (power_word P i) (i ∷ []) w ((a.0, a.1), tt), ((a.0, a.1), w))

    left-joined : (m : ℕ) (o : Overlap) → 1 ≤ m → Among P m o → Joined P m (overlapped P o) (left_side P o)
    left-joined m (triple i j k) h a = relation-joined [] (i ∷ []) (exchange j k (omega arith) a.2 a.3)
    left-joined m (upper i j) h a = relation-joined [] (i ∷ []) (power j (omega arith) a.2)
    left-joined m (lower i j) h a =
        let e : P.exponent i ≡ suc (P.exponent i - 1) = exponent-suc i (omega arith) (omega arith) in
        subst (λ (x : ℕ). Joined P m (j ∷ replicate x i) (left_side P (lower i j))) (sym e)
        (relation-joined [] (replicate (P.exponent i - 1) i) (exchange i j a.0 a.1 a.2))
    left-joined m (single i) h a =
        joined_at (block-snoc (P.exponent i) i [] ∙ ap {B = Word} (λ x. i ∷ x) (append-nil (replicate (P.exponent i) i))) refl
        (relation-joined [] (i ∷ []) (power i a.0 a.1))

    right-joined : (m : ℕ) (o : Overlap) → 1 ≤ m → Among P m o → Joined P m (overlapped P o) (right_side P o)
    right-joined m (triple i j k) h a =
        joined_at refl (ap {B = Word} (λ x. k ∷ i ∷ x) (append-nil (P.conjugate i j))) (relation-joined (k ∷ []) [] (exchange i j a.0 a.1 (omega arith)))
    right-joined m (upper i j) h a =
        let e : P.exponent j ≡ suc (P.exponent j - 1) = exponent-suc j (omega arith) a.2 in
        let d = P.exponent j - 1 in
        joined_at (block-snoc d j (i ∷ []) ∙ ap (λ (x : ℕ). replicate x j ++ (i ∷ [])) (sym e)) (ap {B = Word} (λ x. replicate d j ++ (i ∷ x)) (append-nil (P.conjugate i j)))
        (relation-joined (replicate d j) [] (exchange i j a.0 a.1 a.2))
    right-joined m (lower i j) h a =
        joined_at (ap {B = Word} (λ x. j ∷ x) (append-nil (replicate (P.exponent i) i))) (ap {B = Word} (λ x. j ∷ x) (append-nil (power_word P i)))
        (relation-joined (j ∷ []) [] (power i a.0 (omega arith)))
    right-joined m (single i) h a =
        joined_at (ap {B = Word} (λ x. i ∷ x) (append-nil (replicate (P.exponent i) i))) (ap {B = Word} (λ x. i ∷ x) (append-nil (power_word P i)))
        (relation-joined (i ∷ []) [] (power i a.0 a.1))

    pub sides-joined : (m : ℕ) (o : Overlap) → 1 ≤ m → Among P m o → Joined P m (left_side P o) (right_side P o)
    sides-joined m o h a = joined-trans (joined-sym (left-joined m o h a)) (right-joined m o h a)
