-- What is known of numbers that were judged 0: for this crate's words and for the crates above.
--
-- Main results: `Accepted`, `accepted`.
use mathlib.Core.Path.{◌≡◌, refl}
use mathlib.Core.List.{List}
use mathlib.Core.Bool.{Bool, true, false, ◌&&◌}
use Prim.Native.Nat.{ℕ, ◌<◌, ◌≤◌}
use native.Mathlib.Omega.{arith}
use borrow.Author.Tests.{leb-true, ltb-false, eqb-true}
use lib.ListN.{length}
use lib.Dec.{leb, ltb}
use Rattle.layout.specs.Header.{prime_of, rank_of, bodies_at, entries}
use Rattle.layout.specs.Prime.{Prime}
use Rattle.layout.specs.Contents.{Measured, place_of, starts_right, contents_right}
use Rattle.layout.specs.Bodies.{bodies_right}
use Rattle.layout.specs.Judged.{rank_right, judged}
use Rattle.layout.proofs.Primes.{passes-prime}
use Rattle.layout.proofs.Cascade.{passed}
use Rattle.layout.proofs.Rows.{place-fits}

pub record Accepted (nums : List ℕ) : Type 0 where
  pub long : 2 ≤ length nums
  pub prime : Prime (prime_of nums)
  pub prime-most : prime_of nums ≤ 251
  pub measured : Measured nums
  pub bodies : bodies_right nums ≡ true

pub and_left : (a b : Bool) → a && b ≡ true → a ≡ true
and_left true b h = refl
and_left false b h = h

pub and_right : (a b : Bool) → a && b ≡ true → b ≡ true
and_right true b h = h
and_right false b h = let z : ◌≡◌ {A = ℕ} 0 1 = cc in absurd (omega arith)

pub rank-within : (n : ℕ) → rank_right n ≡ true → (1 ≤ n) × (n ≤ 40)
rank-within n h = (leb-true 1 n (and_left _ (leb n 40) h), leb-true n 40 (and_right (leb 1 n) _ h))

contents-are : (nums : List ℕ) → contents_right nums ≡ true → (bodies_at nums ≤ length nums) × (starts_right nums ≡ true)
contents-are nums h = go (ltb (length nums) (bodies_at nums)) refl h
  where
    go : (b : Bool) → ltb (length nums) (bodies_at nums) ≡ b → elim b [ true ↦ false | false ↦ starts_right nums ] ≡ true
        → (bodies_at nums ≤ length nums) × (starts_right nums ≡ true)
    go true e t = let z : ◌≡◌ {A = ℕ} 0 1 = cc in absurd (omega arith)
    go false e t = (ltb-false _ _ e, t)

pub accepted : (nums : List ℕ) → judged nums ≡ 0 → Accepted nums
accepted nums h =
    let t = passed nums h in
    record {
      long = leb-true 2 (length nums) t.header;
      prime = (passes-prime (prime_of nums) t.prime).0;
      prime-most = (passes-prime (prime_of nums) t.prime).1;
      measured =
          record {
            least = (rank-within (rank_of nums) t.rank).0;
            most = (rank-within (rank_of nums) t.rank).1;
            whole = (contents-are nums t.contents).0;
            starts = (contents-are nums t.contents).1;
            size = eqb-true _ _ t.size;
          };
      bodies = t.bodies;
    }

-- The place of (i, j) is one of the contents.
pub place_listed : (nums : List ℕ) (i j : ℕ) → judged nums ≡ 0 → 1 ≤ i → i ≤ j → j ≤ rank_of nums
    → place_of (rank_of nums) i j < entries (rank_of nums)
place_listed nums i j h = place-fits (rank_of nums) i j (accepted nums h).measured.most
