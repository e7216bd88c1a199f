-- The theory as code on an array meets it: the vector is a whole list, and the entry of the generator d + m stands at its index d.
--
-- Main results: `place_is`, one placing by the index of its entry; `conjugate-length` and `conjugates-length`, bounds of the letters
-- that a placing puts.
use mathlib.Core.Path.{◌≡◌, refl, ap, ap₂, ◌∙◌, subst, subst₂}
use mathlib.Core.List.{[], ◌∷◌, ◌++◌}
use Prim.Native.Nat.{ℕ, zero, suc, ◌+◌, ◌-◌, ◌*◌, ◌≤◌, ◌<◌}
use native.Mathlib.Omega.{arith}
use native.Mathlib.Nat.{mul-le-mul_right}
use lib.ListN.{length, get_or, take, drop, replicate, length-append, length-replicate}
use Rattle.theory.specs.Presentation.{Presentation, Word, Vector, spell, identity, Normal, Over, Valid}
use Rattle.theory.specs.Placing.{Placed, collect, conjugates, total, raised, set_down, power_uses, place, keeping}
use Rattle.theory.proofs.Words.{over-weaken, place-here, place-above}
use Rattle.theory.proofs.Collecting.{collect-above}

module _ (P : Presentation) where
  -- Placing x_i: the entry of x_i is raised, the entries above it are cleared, or w_i is set down there.
  abbrev pub placed_at : Vector → ℕ → ℕ → Placed
  placed_at v i d =
      record {
        vector = take d v ++ (raised (P.exponent i) (get_or v d 0) ∷ set_down P (length v - suc d) i (get_or v d 0));
        puts = conjugates P i (spell (suc i) (drop (suc d) v));
        exchanges = total (drop (suc d) v);
        powers = power_uses (P.exponent i) (get_or v d 0);
      }

  pub place_is : (m : ℕ) (v : Vector) (i d : ℕ) → d + m ≡ i → d < length v → place P m v i ≡ placed_at v i d
  place_is m [] i d h f = absurd (omega arith)
  place_is m (a ∷ v) i zero h f =
      let q : m ≡ i = omega arith in
      let s : length v ≡ suc (length v) - 1 = omega arith in
      subst (λ (x : ℕ). place P m (a ∷ v) x ≡ placed_at (a ∷ v) x zero) q
      (place-here P m a v
      ∙ ap (λ (k : ℕ). record {
        vector = raised (P.exponent m) a ∷ set_down P k m a;
        puts = conjugates P m (spell (suc m) v);
        exchanges = total v;
        powers = power_uses (P.exponent m) a;
      }) s)
  place_is m (a ∷ v) i (suc d) h f =
      let s : length v - suc d ≡ suc (length v) - suc (suc d) = omega arith in
      place-above P m a i v (omega arith)
      ∙ ap (keeping a) (place_is (suc m) v i d (omega arith) (omega arith))
      ∙ ap (λ (k : ℕ). record {
        vector = a ∷ (take d v ++ (raised (P.exponent i) (get_or v d 0) ∷ set_down P k i (get_or v d 0)));
        puts = conjugates P i (spell (suc i) (drop (suc d) v));
        exchanges = total (drop (suc d) v);
        powers = power_uses (P.exponent i) (get_or v d 0);
      }) s

  -- A vector's word has as many letters as the entries' sum.
  pub spell-length : (m : ℕ) (v : Vector) → length (spell m v) ≡ total v
  spell-length m [] = refl
  spell-length m (a ∷ v) =
      length-append (replicate a m) (spell (suc m) v) ∙ ap₂ (λ (x y : ℕ). x + y) (length-replicate a m) (spell-length (suc m) v)

  -- The entries of a normal vector sum to at most k times a bound of the exponents.
  pub normal-total : (k m b : ℕ) (v : Vector) → ((i : ℕ) → P.exponent i ≤ b) → Normal P k m v → total v ≤ k * b
  normal-total zero m b [] h p = omega arith
  normal-total zero m b (a ∷ v) h p = absurd p
  normal-total (suc k) m b [] h p = absurd p
  normal-total (suc k) m b (a ∷ v) h p =
      let r = normal-total k (suc m) b v h p.1 in
      let e : P.exponent m ≤ b = h m in
      let s : suc k * b ≡ b + k * b = omega arith in
      omega (arith, p.0)

  -- A bound of the letters that exchanging one letter puts.
  pub conjugate-length : Valid P → (b i g : ℕ) → ((j : ℕ) → P.exponent j ≤ b) → 1 ≤ i → i < g → g ≤ P.rank
      → length (P.conjugate i g) ≤ P.rank * b
  conjugate-length valid b i g h l f r =
      let c = valid.conjugates i g (P.rank - i) l f r (omega arith) in
      let t : total c.vector ≤ (P.rank - i) * b = normal-total (P.rank - i) (suc i) b c.vector h c.normal in
      let u : (P.rank - i) * b ≤ P.rank * b = mul-le-mul_right b (omega arith) in
      let e : length (P.conjugate i g) ≡ total c.vector = ap length c.spelled ∙ spell-length (suc i) c.vector in
      omega arith

  pub conjugates-length : (i b : ℕ) (w : Word) → Over P (suc i) w → ((g : ℕ) → i < g → g ≤ P.rank → length (P.conjugate i g) ≤ b)
      → length (conjugates P i w) ≤ length w * b
  conjugates-length i b [] o h = omega arith
  conjugates-length i b (g ∷ w) o h =
      let e = length-append (P.conjugate i g) (conjugates P i w) in
      let r = conjugates-length i b w o.1 h in
      let s : length (P.conjugate i g) ≤ b = h g o.0.0 o.0.1 in
      let t : suc (length w) * b ≡ b + length w * b = omega arith in
      omega (arith, e)

  -- The entries from an index on.
  pub drop-normal : (d k l m j : ℕ) (v : Vector) → l ≡ d + k → j ≡ d + m → Normal P l m v → Normal P k j (drop d v)
  drop-normal zero k l m j v a b p =
      let q : l ≡ k = omega arith in let r : m ≡ j = omega arith in subst₂ (λ (x y : ℕ). Normal P x y v) q r p
  drop-normal (suc d) k zero m j v a b p = absurd (omega arith)
  drop-normal (suc d) k (suc l) m j [] a b p = absurd p
  drop-normal (suc d) k (suc l) m j (x ∷ v) a b p = drop-normal d k l (suc m) j v (omega arith) (omega arith) p.1

  -- One entry of a normal vector.
  pub normal-at : (k m d : ℕ) (v : Vector) → Normal P k m v → d < k → get_or v d 0 < P.exponent (d + m)
  normal-at zero m d v p h = absurd (omega arith)
  normal-at (suc k) m d [] p h = absurd p
  normal-at (suc k) m zero (a ∷ v) p h = let e : m ≡ 0 + m = omega arith in subst (λ (x : ℕ). a < P.exponent x) e p.0
  normal-at (suc k) m (suc d) (a ∷ v) p h =
      let e : d + suc m ≡ suc d + m = omega arith in
      subst (λ (x : ℕ). get_or v d 0 < P.exponent x) e (normal-at k (suc m) d v p.1 (omega arith))

  -- Below its letters a vector keeps its entries: here, zeros.
  pub collect-deep : (d k l m j : ℕ) (h : Vector) (w : Word) → l ≡ d + k → j ≡ d + m → Over P j w
      → collect P l m (identity d ++ h) w ≡ identity d ++ collect P k j h w
  collect-deep zero k l m j h w a b o =
      let q : l ≡ k = omega arith in let r : m ≡ j = omega arith in
      ap₂ (λ (x y : ℕ). collect P x y h w) q r
  collect-deep (suc d) k zero m j h w a b o = absurd (omega arith)
  collect-deep (suc d) k (suc l) m j h w a b o =
      collect-above P l m 0 (identity d ++ h) w (over-weaken P (suc m) j w (omega arith) o)
      ∙ ap {B = Vector} (λ x. 0 ∷ x) (collect-deep d k l (suc m) j h w (omega arith) (omega arith) o)
