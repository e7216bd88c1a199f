-- The consistency theorem: if the two sides of every overlap collect from the identity to the same vector, then joined words,
-- collected onto one normal vector, end at the same vector.
--
-- Main results:
--   `consistency`   the theorem
--   `converse`      if joined words always collect to the same vector, every overlap agrees
--
-- The proof goes by the first generator m, falling; k is the number of generators from m on. All relations among the generators
-- above m are sound already (`sound`): joined words above m collect to the same vector. Let Φ take each letter g above m to v_mg.
--   `meet`          words above m that collect to the same vector are joined above m
--   `images`        words joined above m have joined images under Φ: for a relation this is overlap 1 or 2
--   `swap`          so x_j x_m and x_m v_mj agree on every vector
--   `slide`         w_m Φ^e(w) is joined to w w_m for every word w above m: overlap 3
--   `power-settles` so x_m^e and w_m agree on every vector: with overlap 4, Φ(w_m) is joined to w_m
use mathlib.Core.Path.{◌≡◌, refl, sym, ap, ap₂, ◌∙◌, subst, subst₂}
use mathlib.Core.List.{[], ◌∷◌, ◌++◌, append_assoc, append-nil}
use mathlib.Core.Bool.{true}
use mathlib.Core.Logic.{◌⊎◌, inl, inr}
use Prim.Native.Nat.{ℕ, zero, suc, ◌+◌, ◌-◌, ◌≤◌, ◌<◌}
use native.Mathlib.Omega.{arith}
use lib.ListN.{replicate, replicate-append-replicate}
use borrow.Author.Tests.{eq-eqb}
use Rattle.theory.specs.Presentation.{Presentation, Word, Vector, spell, identity, Normal, NormalWord, Over, Valid, power_word}
use Rattle.theory.specs.Joined.{Relation, power, exchange, forth, back, Joined, same, link}
use Rattle.theory.specs.Placing.{conjugates, raised, reached, set_down, put, collect}
use Rattle.theory.specs.Overlaps.{Overlap, triple, upper, lower, single, Among, left_side, right_side, Agrees, Consistent}
use Rattle.theory.proofs.Words.{over-append, spell-over, spell-identity, conjugates-append, conjugates-block, conjugate-over, conjugates-over, power-over, put-here, put-above}
use Rattle.theory.proofs.Collecting.{Level, above, whole, first-or-above, raised-low, set_down-low, set_down-normal, identity-normal, collect-normal, collect-append, collect-above, fill, collect-from}
use Rattle.theory.proofs.Joining.{joined-trans, joined-sym, joined_at, joined-append, joined-within, relation-joined, relation-over, collect-joined, sides-over, sides-joined}

module _ (P : Presentation) (valid : Valid P) where
  -- What a word collects to from the identity.
  abbrev value : ℕ → ℕ → Word → Vector
  value k m u = collect P k m (identity k) u

  abbrev Sound : ℕ → ℕ → Type 0
  Sound k m = (u w : Word) → Joined P m u w → value k m u ≡ value k m w

  abbrev AgreeFrom : ℕ → ℕ → Type 0
  AgreeFrom k m = (o : Overlap) → Among P m o → Agrees P k m o

  -- Normal words among more generators.
  lowered : (k m : ℕ) (w : Word) → Level P (suc k) m → NormalWord P k (suc m) w → NormalWord P (suc k) m w
  lowered k m w l c =
      let h : 2 ≤ P.exponent m = valid.exponents m l.first (omega arith) in
      record { vector = 0 ∷ c.vector; normal = (omega arith, c.normal); spelled = c.spelled }

  lowered-to : (d k m j : ℕ) (w : Word) → 1 ≤ m → j ≡ d + m → Level P k j → NormalWord P k j w → NormalWord P (d + k) m w
  lowered-to zero k m j w h e l c =
      let f : j ≡ m = omega arith in let g : k ≡ 0 + k = omega arith in subst₂ (λ (x y : ℕ). NormalWord P x y w) g f c
  lowered-to (suc d) k m j w h e l c =
      let g : suc (d + k) ≡ suc d + k = omega arith in
      subst (λ (x : ℕ). NormalWord P x m w) g
      (lowered (d + k) m w (record { first = h; fits = omega arith }) (lowered-to d k (suc m) j w (omega arith) (omega arith) l c))

  module _ (k m : ℕ) (l : Level P (suc k) m) (agree : AgreeFrom (suc k) m) (sound : Sound k (suc m)) where
    abbrev Φ : Word → Word
    Φ w = conjugates P m w

    abbrev e : ℕ
    e = P.exponent m

    big : 2 ≤ e
    big = valid.exponents m l.first (omega arith)

    abbrev W : Word
    W = power_word P m

    abbrev J : Word → Word → Type 0
    J u w = Joined P (suc m) u w

    abbrev val : Word → Vector
    val u = value k (suc m) u

    up : Level P k (suc m)
    up = above l

    val-normal : (u : Word) → Normal P k (suc m) (val u)
    val-normal u = collect-normal P valid k (suc m) (identity k) u up (identity-normal P valid k (suc m) up)

    -- A word above m is joined to the word of its value, so words of one value are joined.
    reach : (u : Word) → Over P (suc m) u → J u (spell (suc m) (val u))
    reach u o =
        joined_at P (ap (λ (x : Word). x ++ u) (spell-identity P k (suc m))) refl
        (collect-joined P valid k (suc m) (identity k) u up (identity-normal P valid k (suc m) up) o)

    meet : (u w : Word) → Over P (suc m) u → Over P (suc m) w → val u ≡ val w → J u w
    meet u w o p q =
        joined-trans P (reach u o) (joined_at P (ap (spell (suc m)) (sym q)) refl (joined-sym P (reach w p)))

    -- Joined words agree on every normal vector above m.
    settle : (v : Vector) (u w : Word) → Normal P k (suc m) v → J u w → collect P k (suc m) v u ≡ collect P k (suc m) v w
    settle v u w p j =
        collect-from P valid k (suc m) v u up p
        ∙ sound (spell (suc m) v ++ u) (spell (suc m) v ++ w) (joined-append P (same {u = spell (suc m) v}) j)
        ∙ sym (collect-from P valid k (suc m) v w up p)

    val-append : (u w : Word) → collect P k (suc m) (val u) w ≡ val (u ++ w)
    val-append u w = sym (collect-append P k (suc m) (identity k) u w)

    -- A normal word above m, then x_m, then a word above m, from the identity.
    shift : (u w : Word) → NormalWord P k (suc m) u → Over P (suc m) w → value (suc k) m (u ++ (m ∷ w)) ≡ 1 ∷ val (Φ u ++ w)
    shift u w c o =
        let y = c.vector in
        collect-append P (suc k) m (identity (suc k)) u (m ∷ w)
        ∙ ap (λ (x : Vector). collect P (suc k) m x (m ∷ w))
        (collect-above P k m 0 (identity k) u uo ∙ ap {B = Vector} (λ x. 0 ∷ x) (ap val c.spelled ∙ fill P valid k (suc m) y up c.normal))
        ∙ ap (λ (x : Vector). collect P (suc k) m x w) (put-here P k m 0 y)
        ∙ ap₂ (λ (x : ℕ) (z : Vector). collect P (suc k) m (x ∷ collect P k (suc m) z (Φ (spell (suc m) y))) w) (raised-low e 0 (omega (arith, big))) (set_down-low P k m 0 (omega (arith, big)))
        ∙ ap (λ (x : Word). collect P (suc k) m (1 ∷ val (Φ x)) w) (sym c.spelled)
        ∙ collect-above P k m 1 (val (Φ u)) w o
        ∙ ap {B = Vector} (λ x. 1 ∷ x) (val-append (Φ u) w)
      where
        uo : Over P (suc m) u
        uo = rw c.spelled (spell-over P k (suc m) c.vector up.fits c.normal)

    empty : NormalWord P k (suc m) []
    empty = record { vector = identity k; normal = identity-normal P valid k (suc m) up; spelled = sym (spell-identity P k (suc m)) }

    -- Normal words of one generator j above m and of those above it.
    from : (j kj : ℕ) (w : Word) → suc m ≤ j → Level P kj j → NormalWord P kj j w → NormalWord P k (suc m) w
    from j kj w h lj c =
        let d = j - suc m in
        let g : d + kj ≡ k = omega (arith, lj.fits, l.fits) in
        subst (λ (x : ℕ). NormalWord P x (suc m) w) g (lowered-to d kj (suc m) j w (omega arith) (omega arith) lj c)

    from-above : (j : ℕ) (w : Word) → suc m ≤ j → j ≤ P.rank → NormalWord P (P.rank - j) (suc j) w → NormalWord P k (suc m) w
    from-above j w h f c = from (suc j) (P.rank - j) w (omega arith) (record { first = omega arith; fits = omega arith }) c

    from-letter : (j : ℕ) (w : Word) → suc m ≤ j → j ≤ P.rank → NormalWord P (P.rank - j) (suc j) w → NormalWord P k (suc m) (j ∷ w)
    from-letter j w h f c =
        let b : 2 ≤ P.exponent j = valid.exponents j (omega arith) f in
        from j (suc (P.rank - j)) (j ∷ w) h (record { first = omega arith; fits = omega arith })
        (record { vector = 1 ∷ c.vector; normal = (omega arith, c.normal); spelled = ap {B = Word} (λ x. j ∷ x) c.spelled })

    from_block : (j a : ℕ) → suc m ≤ j → j ≤ P.rank → a < P.exponent j → NormalWord P k (suc m) (replicate a j)
    from_block j a h f b =
        let d = P.rank - j in
        from j (suc d) (replicate a j) h (record { first = omega arith; fits = omega arith })
        (record {
          vector = a ∷ identity d;
          normal = (b, identity-normal P valid d (suc j) (record { first = omega arith; fits = omega arith }));
          spelled = sym (ap (λ (x : Word). replicate a j ++ x) (spell-identity P d (suc j)) ∙ append-nil (replicate a j));
        })

    from-power : (j : ℕ) → m ≤ j → j ≤ P.rank → NormalWord P (P.rank - j) (suc j) (power_word P j)
    from-power j h f = record { vector = P.power j; normal = valid.powers j (P.rank - j) (omega (arith, l.first)) (omega arith); spelled = refl }

    -- Words joined above m have joined images: overlaps 1 and 2.
    agree-tails : (u w : Vector) → 1 ∷ u ≡ 1 ∷ w → u ≡ w
    agree-tails u w q = cc

    Φ-over : (u : Word) → Over P (suc m) u → Over P (suc m) (Φ u)
    Φ-over u o = conjugates-over P valid m u l.first o

    image-relation : {u w : Word} → Relation P (suc m) u w → J (Φ u) (Φ w)
    image-relation (exchange i j a b c) =
        meet (Φ (j ∷ i ∷ [])) (Φ (i ∷ P.conjugate i j)) (Φ-over (j ∷ i ∷ []) r.0) (Φ-over (i ∷ P.conjugate i j) r.1)
        (ap val (ap (λ (x : Word). P.conjugate m j ++ x) (append-nil (P.conjugate m i)) ∙ ap (λ (x : Word). x ++ P.conjugate m i) (sym (append-nil (P.conjugate m j))))
        ∙ sym both
        ∙ ap val (append-nil (Φ (i ∷ P.conjugate i j))))
      where
        r : Over P (suc m) (j ∷ i ∷ []) × Over P (suc m) (i ∷ P.conjugate i j)
        r = relation-over P valid (omega arith) (exchange i j a b c)

        mi : m < i
        mi = omega arith

        left : value (suc k) m (left_side P (triple m i j)) ≡ 1 ∷ val (Φ (i ∷ P.conjugate i j) ++ [])
        left = shift (i ∷ P.conjugate i j) [] (from-letter i (P.conjugate i j) a (omega arith) (valid.conjugates i j (P.rank - i) (omega arith) b c (omega arith))) tt

        right : value (suc k) m (right_side P (triple m i j)) ≡ 1 ∷ val (Φ (j ∷ []) ++ P.conjugate m i)
        right = shift (j ∷ []) (P.conjugate m i) (from_block j 1 (omega arith) c (omega (arith, valid.exponents j (omega arith) c))) (conjugate-over P valid m i l.first mi (omega arith))

        both : val (Φ (i ∷ P.conjugate i j) ++ []) ≡ val (Φ (j ∷ []) ++ P.conjugate m i)
        both = agree-tails _ _ (sym left ∙ agree (triple m i j) (omega arith, mi, b, c) ∙ right)
    image-relation (power j a b) =
        meet (Φ (replicate (P.exponent j) j)) (Φ (power_word P j)) (Φ-over (replicate (P.exponent j) j) r.0) (Φ-over (power_word P j) r.1)
        (ap (λ (x : ℕ). val (Φ (replicate x j))) ej
        ∙ ap val (sym (append-nil (Φ (replicate (suc d) j))) ∙ sym (conjugates-block P m d j []) ∙ ap (λ (x : Word). Φ (replicate d j) ++ x) (append-nil (P.conjugate m j)))
        ∙ sym both
        ∙ ap val (append-nil (Φ (power_word P j))))
      where
        d : ℕ
        d = P.exponent j - 1

        bigj : 2 ≤ P.exponent j
        bigj = valid.exponents j (omega arith) b

        ej : P.exponent j ≡ suc d
        ej = omega (arith, bigj)

        r : Over P (suc m) (replicate (P.exponent j) j) × Over P (suc m) (power_word P j)
        r = relation-over P valid (omega arith) (power j a b)

        left : value (suc k) m (left_side P (upper m j)) ≡ 1 ∷ val (Φ (power_word P j) ++ [])
        left = shift (power_word P j) [] (from-above j (power_word P j) a b (from-power j (omega arith) b)) tt

        right : value (suc k) m (right_side P (upper m j)) ≡ 1 ∷ val (Φ (replicate d j) ++ P.conjugate m j)
        right = shift (replicate d j) (P.conjugate m j) (from_block j d a b (omega (arith, ej))) (conjugate-over P valid m j l.first a b)

        both : val (Φ (power_word P j) ++ []) ≡ val (Φ (replicate d j) ++ P.conjugate m j)
        both = agree-tails _ _ (sym left ∙ agree (upper m j) (omega arith, a, b) ∙ right)

    Φ-parts : (a x b : Word) → Φ (a ++ (x ++ b)) ≡ Φ a ++ (Φ x ++ Φ b)
    Φ-parts a x b = conjugates-append P m a (x ++ b) ∙ ap (λ (z : Word). Φ a ++ z) (conjugates-append P m x b)

    image : {u w : Word} → J u w → J (Φ u) (Φ w)
    image same = same
    image (link (forth a b {l = x} {r = y} r) j) =
        joined-trans P (joined_at P (sym (Φ-parts a x b)) (sym (Φ-parts a y b)) (joined-within P (Φ a) (Φ b) (image-relation r))) (image j)
    image (link (back a b {l = x} {r = y} r) j) =
        joined-trans P
        (joined_at P (sym (Φ-parts a y b)) (sym (Φ-parts a x b)) (joined-within P (Φ a) (Φ b) (joined-sym P (image-relation r)))) (image j)

    -- Placing x_m on an entry b over the value of a word u: the entry is raised, over the value of Φ(u), behind w_m if e was reached.
    image-value : (u : Word) → Over P (suc m) u → J (Φ (spell (suc m) (val u))) (Φ u)
    image-value u o = joined-sym P (image (reach u o))

    turn_low : (b : ℕ) (u : Word) → Over P (suc m) u → suc b < e → put P (suc k) m (b ∷ val u) m ≡ suc b ∷ val (Φ u)
    turn_low b u o h =
        put-here P k m b (val u)
        ∙ ap₂ (λ (x : ℕ) (y : Vector). x ∷ collect P k (suc m) y (Φ (spell (suc m) (val u)))) (raised-low e b h) (set_down-low P k m b h)
        ∙ ap {B = Vector} (λ x. suc b ∷ x) (sound (Φ (spell (suc m) (val u))) (Φ u) (image-value u o))

    turn-over : (b : ℕ) (u : Word) → Over P (suc m) u → suc b ≡ e → put P (suc k) m (b ∷ val u) m ≡ 0 ∷ val (W ++ Φ u)
    turn-over b u o h =
        let r : reached e b ≡ true = eq-eqb (suc b) e h in
        let x : raised e b ≡ 0 = rw (r, raised) in
        let y : set_down P k m b ≡ P.power m = rw (r, set_down) in
        let n : Normal P k (suc m) (P.power m) = valid.powers m k l.first (omega (arith, l.fits)) in
        put-here P k m b (val u)
        ∙ ap₂ (λ (s : ℕ) (t : Vector). s ∷ collect P k (suc m) t (Φ (spell (suc m) (val u)))) x y
        ∙ ap {B = Vector} (λ t. 0 ∷ t)
        (settle (P.power m) (Φ (spell (suc m) (val u))) (Φ u) n (image-value u o)
        ∙ ap (λ (t : Vector). collect P k (suc m) t (Φ u)) (sym (fill P valid k (suc m) (P.power m) up n))
        ∙ val-append W (Φ u))

    -- Φ again and again.
    abbrev images : ℕ → Word → Word
    images zero u = u
    images (suc t) u = images t (Φ u)

    images-over : (t : ℕ) (u : Word) → Over P (suc m) u → Over P (suc m) (images t u)
    images-over zero u o = o
    images-over (suc t) u o = images-over t (Φ u) (Φ-over u o)

    images-append : (t : ℕ) (u w : Word) → images t (u ++ w) ≡ images t u ++ images t w
    images-append zero u w = refl
    images-append (suc t) u w = ap (images t) (conjugates-append P m u w) ∙ images-append t (Φ u) (Φ w)

    images-add : (s t : ℕ) (u : Word) → images s (images t u) ≡ images (t + s) u
    images-add s zero u = let h : s ≡ 0 + s = omega arith in ap (λ (x : ℕ). images x u) h
    images-add s (suc t) u = let h : suc (t + s) ≡ suc t + s = omega arith in images-add s t (Φ u) ∙ ap (λ (x : ℕ). images x u) h

    images-joined : (t : ℕ) {u w : Word} → J u w → J (images t u) (images t w)
    images-joined zero j = j
    images-joined (suc t) j = images-joined t (image j)

    images-empty : (t : ℕ) → images t [] ≡ []
    images-empty zero = refl
    images-empty (suc t) = images-empty t

    -- A block of letters x_m: below the exponent, and up to it.
    spin-low : (t b : ℕ) (u : Word) → Over P (suc m) u → b + t < e → collect P (suc k) m (b ∷ val u) (replicate t m) ≡ (b + t) ∷ val (images t u)
    spin-low zero b u o h = let q : b ≡ b + 0 = omega arith in ap (λ (x : ℕ). x ∷ val u) q
    spin-low (suc t) b u o h =
        let q : suc b + t ≡ b + suc t = omega arith in
        ap (λ (x : Vector). collect P (suc k) m x (replicate t m)) (turn_low b u o (omega arith))
        ∙ spin-low t (suc b) (Φ u) (Φ-over u o) (omega arith)
        ∙ ap (λ (x : ℕ). x ∷ val (images t (Φ u))) q

    spin-over : (t b : ℕ) (u : Word) → Over P (suc m) u → b + suc t ≡ e
        → collect P (suc k) m (b ∷ val u) (replicate (suc t) m) ≡ 0 ∷ val (W ++ images (suc t) u)
    spin-over zero b u o h = turn-over b u o (omega arith)
    spin-over (suc t) b u o h =
        ap (λ (x : Vector). collect P (suc k) m x (replicate (suc t) m)) (turn_low b u o (omega arith))
        ∙ spin-over t (suc b) (Φ u) (Φ-over u o) (omega arith)

    W-over : Over P (suc m) W
    W-over = power-over P valid m l.first (omega (arith, l.fits))

    W-normal : NormalWord P k (suc m) W
    W-normal = record { vector = P.power m; normal = valid.powers m k l.first (omega (arith, l.fits)); spelled = refl }

    -- Overlap 4: Φ(w_m) is joined to w_m.
    image-W : J (Φ W) W
    image-W =
        meet (Φ W) W (Φ-over W W-over) W-over
        (ap val (sym (append-nil (Φ W)))
        ∙ agree-tails _ _ (sym (shift W [] W-normal tt) ∙ agree (single m) (omega arith, omega (arith, l.fits)) ∙ shift [] W empty W-over))

    images-W : (t : ℕ) → J (images t W) W
    images-W zero = same
    images-W (suc t) = joined-trans P (images-joined t image-W) (images-W t)

    -- Overlap 3: w_m Φ^e(x_j) is joined to x_j w_m.
    slide-letter : (j : ℕ) → m < j → j ≤ P.rank → J (W ++ images e (j ∷ [])) (j ∷ W)
    slide-letter j h f =
        meet (W ++ images e (j ∷ [])) (j ∷ W) (over-append P (suc m) W (images e (j ∷ [])) W-over (images-over e (j ∷ []) ((h, f), tt))) ((h, f), W-over)
        (zeros _ _ (sym left ∙ agree (lower m j) (omega arith, h, f) ∙ right))
      where
        c : Word
        c = P.conjugate m j

        t : ℕ
        t = e - 2

        co : Over P (suc m) (P.conjugate m j)
        co = conjugate-over P valid m j l.first h f

        zeros : (x y : Vector) → 0 ∷ x ≡ 0 ∷ y → x ≡ y
        zeros x y q = cc

        right : value (suc k) m (right_side P (lower m j)) ≡ 0 ∷ val (j ∷ W)
        right = collect-above P k m 0 (identity k) (j ∷ W) ((h, f), W-over)

        d : e - 1 ≡ suc (e - 2)
        d = omega (arith, big)

        ee : suc (suc (e - 2)) ≡ e
        ee = omega (arith, big)

        block : collect P (suc k) m (1 ∷ val (P.conjugate m j)) (replicate (suc (e - 2)) m) ≡ 0 ∷ val (W ++ images (suc (e - 2)) (P.conjugate m j))
        block = spin-over (e - 2) 1 (P.conjugate m j) co (omega (arith, big))

        word : images (suc (e - 2)) (P.conjugate m j) ≡ images e (j ∷ [])
        word = ap (images (suc (e - 2))) (sym (append-nil (P.conjugate m j))) ∙ ap (λ (x : ℕ). images x (j ∷ [])) ee

        left : value (suc k) m (left_side P (lower m j)) ≡ 0 ∷ val (W ++ images e (j ∷ []))
        left =
            collect-append P (suc k) m (identity (suc k)) (m ∷ P.conjugate m j) (replicate (e - 1) m)
            ∙ ap (λ (x : Vector). collect P (suc k) m x (replicate (e - 1) m)) (shift [] (P.conjugate m j) empty co)
            ∙ ap (λ (x : ℕ). collect P (suc k) m (1 ∷ val (P.conjugate m j)) (replicate x m)) d
            ∙ block
            ∙ ap {B = Vector} (λ x. 0 ∷ val (W ++ x)) word

    slide : (w : Word) → Over P (suc m) w → J (W ++ images e w) (w ++ W)
    slide [] o = joined_at P (ap (λ (x : Word). W ++ x) (sym (images-empty e))) refl (joined_at P (sym (append-nil W)) refl same)
    slide (j ∷ w) o =
        joined-trans P
        (joined_at P
        (append_assoc W (images e (j ∷ [])) (images e w) ∙ ap (λ (x : Word). W ++ x) (sym (images-append e (j ∷ []) w)))
        refl
        (joined-append P (slide-letter j o.0.0 o.0.1) (same {u = images e w})))
        (joined-append P (same {u = j ∷ []}) (slide w o.1))

    -- x_j x_m and x_m v_mj agree on every vector.
    swap : (j a : ℕ) (h : Vector) → m < j → j ≤ P.rank → Normal P k (suc m) h
        → collect P (suc k) m (a ∷ h) (j ∷ m ∷ []) ≡ collect P (suc k) m (a ∷ h) (m ∷ P.conjugate m j)
    swap j a h g f p =
        ap (λ (x : Vector). put P (suc k) m x m) (put-above P k m a j h g)
        ∙ put-here P k m a (put P k (suc m) h j)
        ∙ ap {B = Vector} (λ x. raised e a ∷ x)
        (settle (set_down P k m a) (Φ (spell (suc m) (put P k (suc m) h j))) (Φ (spell (suc m) h) ++ P.conjugate m j) (set_down-normal P valid k m a l) moved
        ∙ collect-append P k (suc m) (set_down P k m a) (Φ (spell (suc m) h)) (P.conjugate m j))
        ∙ sym (collect-above P k m (raised e a) (collect P k (suc m) (set_down P k m a) (Φ (spell (suc m) h))) (P.conjugate m j) (conjugate-over P valid m j l.first g f))
        ∙ ap (λ (x : Vector). collect P (suc k) m x (P.conjugate m j)) (sym (put-here P k m a h))
      where
        moved : J (Φ (spell (suc m) (put P k (suc m) h j))) (Φ (spell (suc m) h) ++ P.conjugate m j)
        moved =
            joined_at P refl
            (conjugates-append P m (spell (suc m) h) (j ∷ []) ∙ ap (λ (x : Word). Φ (spell (suc m) h) ++ x) (append-nil (P.conjugate m j)))
            (image (joined-sym P (collect-joined P valid k (suc m) h (j ∷ []) up p ((g, f), tt))))

    -- x_m^e and w_m agree on every vector.
    power-settles : (a : ℕ) (h : Vector) → a < e → Normal P k (suc m) h
        → collect P (suc k) m (a ∷ h) (replicate e m) ≡ collect P (suc k) m (a ∷ h) W
    power-settles a h b p =
        ap (λ (x : Word). collect P (suc k) m (a ∷ h) x) split
        ∙ collect-append P (suc k) m (a ∷ h) (replicate (suc t) m) (replicate a m)
        ∙ ap (λ (x : Vector). collect P (suc k) m x (replicate a m)) (ap {B = Vector} (λ x. collect P (suc k) m (a ∷ x) (replicate (suc t) m)) (sym filled) ∙ spin-over t a s so (omega (arith, b)))
        ∙ spin-low a 0 (W ++ images (suc t) s) (over-append P (suc m) W (images (suc t) s) W-over (images-over (suc t) s so)) (omega (arith, b))
        ∙ ap₂ (λ (x : ℕ) (y : Vector). x ∷ y) za (sound (images a (W ++ images (suc t) s)) (s ++ W) chain)
        ∙ ap {B = Vector} (λ x. a ∷ x) (sym (val-append s W) ∙ ap (λ (x : Vector). collect P k (suc m) x W) filled)
        ∙ sym (collect-above P k m a h W W-over)
      where
        t : ℕ
        t = e - suc a

        s : Word
        s = spell (suc m) h

        za : 0 + a ≡ a
        za = omega arith

        et : suc (e - suc a) + a ≡ e
        et = omega (arith, b)

        so : Over P (suc m) (spell (suc m) h)
        so = spell-over P k (suc m) h up.fits p

        filled : val (spell (suc m) h) ≡ h
        filled = fill P valid k (suc m) h up p

        split : replicate e m ≡ replicate (suc (e - suc a)) m ++ replicate a m
        split = ap (λ (x : ℕ). replicate x m) (sym et) ∙ sym (replicate-append-replicate (suc (e - suc a)) a m)

        chain : J (images a (W ++ images (suc (e - suc a)) (spell (suc m) h))) (spell (suc m) h ++ W)
        chain =
            joined_at P
            (sym (images-append a W (images (suc (e - suc a)) (spell (suc m) h)) ∙ ap (λ (x : Word). images a W ++ x) (images-add a (suc (e - suc a)) (spell (suc m) h) ∙ ap (λ (x : ℕ). images x (spell (suc m) h)) et)))
            refl
            (joined-trans P (joined-append P (images-W a) (same {u = images e (spell (suc m) h)})) (slide (spell (suc m) h) so))

    -- Every relation from m on agrees on every vector.
    relation-above : {u w : Word} → Relation P (suc m) u w → (c : ℕ) (h : Vector) → Normal P k (suc m) h
        → collect P (suc k) m (c ∷ h) u ≡ collect P (suc k) m (c ∷ h) w
    relation-above {u} {w} r c h p =
        let o = relation-over P valid (omega arith) r in
        collect-above P k m c h u o.0
        ∙ ap {B = Vector} (λ x. c ∷ x) (settle h u w p (joined_at P (append-nil u) (append-nil w) (relation-joined P [] [] r)))
        ∙ sym (collect-above P k m c h w o.1)

    relation-settles : {u w : Word} → Relation P m u w → (v : Vector) → Normal P (suc k) m v → collect P (suc k) m v u ≡ collect P (suc k) m v w
    relation-settles r [] p = absurd p
    relation-settles (power i a b) (c ∷ h) p = go (first-or-above m i a)
      where
        go : (i ≡ m) ⊎ (m < i) → collect P (suc k) m (c ∷ h) (replicate (P.exponent i) i) ≡ collect P (suc k) m (c ∷ h) (power_word P i)
        go (inl q) =
            subst (λ (x : ℕ). collect P (suc k) m (c ∷ h) (replicate (P.exponent x) x) ≡ collect P (suc k) m (c ∷ h) (power_word P x)) (sym q)
            (power-settles c h p.0 p.1)
        go (inr g) = relation-above (power i g b) c h p.1
    relation-settles (exchange i j a b d) (c ∷ h) p = go (first-or-above m i a)
      where
        go : (i ≡ m) ⊎ (m < i) → collect P (suc k) m (c ∷ h) (j ∷ i ∷ []) ≡ collect P (suc k) m (c ∷ h) (i ∷ P.conjugate i j)
        go (inl q) =
            subst (λ (x : ℕ). collect P (suc k) m (c ∷ h) (j ∷ x ∷ []) ≡ collect P (suc k) m (c ∷ h) (x ∷ P.conjugate x j)) (sym q)
            (swap j c h (omega arith) d p.1)
        go (inr g) = relation-above (exchange i j g b d) c h p.1

    -- So every link keeps the value, and every chain.
    within : (a u w b : Word) → ((v : Vector) → Normal P (suc k) m v → collect P (suc k) m v u ≡ collect P (suc k) m v w)
        → value (suc k) m (a ++ (u ++ b)) ≡ value (suc k) m (a ++ (w ++ b))
    within a u w b h = all u ∙ ap (λ (x : Vector). collect P (suc k) m x b) (h (value (suc k) m a) normal) ∙ sym (all w)
      where
        normal : Normal P (suc k) m (value (suc k) m a)
        normal = collect-normal P valid (suc k) m (identity (suc k)) a l (identity-normal P valid (suc k) m l)

        all : (x : Word) → value (suc k) m (a ++ (x ++ b)) ≡ collect P (suc k) m (collect P (suc k) m (value (suc k) m a) x) b
        all x = collect-append P (suc k) m (identity (suc k)) a (x ++ b) ∙ collect-append P (suc k) m (value (suc k) m a) x b

    joined-settles : Sound (suc k) m
    joined-settles u w same = refl
    joined-settles u w (link (forth a b {l = x} {r = y} r) j) = within a x y b (relation-settles r) ∙ joined-settles (a ++ (y ++ b)) w j
    joined-settles u w (link (back a b {l = x} {r = y} r) j) = within a y x b (λ v p. sym (relation-settles r v p)) ∙ joined-settles (a ++ (x ++ b)) w j

  -- Overlaps of fewer generators.
  agree-above : (k m : ℕ) → Level P (suc k) m → AgreeFrom (suc k) m → AgreeFrom k (suc m)
  agree-above k m l agree o a =
      let s = sides-over P valid (suc m) o (omega arith) a in
      tails _ _ (sym (collect-above P k m 0 (identity k) (left_side P o) s.0) ∙ agree o (weaken o a) ∙ collect-above P k m 0 (identity k) (right_side P o) s.1)
    where
      tails : (x y : Vector) → 0 ∷ x ≡ 0 ∷ y → x ≡ y
      tails x y q = cc

      weaken : (q : Overlap) → Among P (suc m) q → Among P m q
      weaken (triple i j t) b = (omega arith, b.1, b.2, b.3)
      weaken (upper i j) b = (omega arith, b.1, b.2)
      weaken (lower i j) b = (omega arith, b.1, b.2)
      weaken (single i) b = (omega arith, b.1)

  nothing-moves : (m : ℕ) (v : Vector) (w : Word) → collect P zero m v w ≡ v
  nothing-moves m v [] = refl
  nothing-moves m v (i ∷ w) = nothing-moves m v w

  sound-from : (k m : ℕ) → Level P k m → AgreeFrom k m → Sound k m
  sound-from zero m l agree u w j = nothing-moves m [] u ∙ sym (nothing-moves m [] w)
  sound-from (suc k) m l agree u w j = joined-settles k m l agree (λ x y i. sound-from k (suc m) (above l) (agree-above k m l agree) x y i) u w j

  -- The consistency theorem.
  pub consistency : Consistent P → (v : Vector) (u w : Word) → Normal P P.rank 1 v → Joined P 1 u w
      → collect P P.rank 1 v u ≡ collect P P.rank 1 v w
  consistency agree v u w p j =
      collect-from P valid P.rank 1 v u (whole P) p
      ∙ sound-from P.rank 1 (whole P) agree (spell 1 v ++ u) (spell 1 v ++ w) (joined-append P (same {u = spell 1 v}) j)
      ∙ sym (collect-from P valid P.rank 1 v w (whole P) p)

  -- Its converse.
  pub converse : ((u w : Word) → Over P 1 u → Over P 1 w → Joined P 1 u w → collect P P.rank 1 (identity P.rank) u ≡ collect P P.rank 1 (identity P.rank) w)
      → Consistent P
  converse h o a =
      let s = sides-over P valid 1 o (omega arith) a in
      h (left_side P o) (right_side P o) s.0 s.1 (sides-joined P valid 1 o (omega arith) a)
