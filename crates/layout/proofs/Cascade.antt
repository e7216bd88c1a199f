-- The cascade of tests that `judged` is: the number at each test that fails, and what 0 says of all of them.
--
-- Main results: `Passed`, `passed`, and a law for each number.
use mathlib.Core.Path.{◌≡◌, refl}
use mathlib.Core.List.{List}
use mathlib.Core.Bool.{Bool, true, false}
use Prim.Native.Nat.{ℕ}
use native.Mathlib.Omega.{arith}
use lib.ListN.{length}
use lib.Dec.{eqb}
use Rattle.layout.specs.Header.{headed, prime_of, rank_of}
use Rattle.layout.specs.Prime.{prime_to_251}
use Rattle.layout.specs.Contents.{contents_right, length_due}
use Rattle.layout.specs.Bodies.{bodies_right}
use Rattle.layout.specs.Judged.{rank_right, judged}

-- The shape of `judged`, over any tests.
abbrev cascade : Bool → Bool → Bool → Bool → Bool → Bool → ℕ
cascade a b c d e f =
    elim a [
      | false ↦ 1
      | true ↦ elim b [
        | false ↦ 2
        | true ↦ elim c [
          | false ↦ 3
          | true ↦ elim d [
            | false ↦ 4
            | true ↦ elim e [
              | false ↦ 5
              | true ↦ elim f [ false ↦ 6 | true ↦ 0 ]
            ]
          ]
        ]
      ]
    ]

-- The number at the first test that fails, and at none.
at_1 : (a b c d e f : Bool) → a ≡ false → 1 ≡ cascade a b c d e f
at_1 a b c d e f p = rw p

at-2 : (a b c d e f : Bool) → a ≡ true → b ≡ false → 2 ≡ cascade a b c d e f
at-2 a b c d e f p q = rw (p, q)

at-3 : (a b c d e f : Bool) → a ≡ true → b ≡ true → c ≡ false → 3 ≡ cascade a b c d e f
at-3 a b c d e f p q r = rw (p, q, r)

at-4 : (a b c d e f : Bool) → a ≡ true → b ≡ true → c ≡ true → d ≡ false → 4 ≡ cascade a b c d e f
at-4 a b c d e f p q r s = rw (p, q, r, s)

at_5 : (a b c d e f : Bool) → a ≡ true → b ≡ true → c ≡ true → d ≡ true → e ≡ false → 5 ≡ cascade a b c d e f
at_5 a b c d e f p q r s t = rw (p, q, r, s, t)

at-6 : (a b c d e f : Bool) → a ≡ true → b ≡ true → c ≡ true → d ≡ true → e ≡ true → f ≡ false → 6 ≡ cascade a b c d e f
at-6 a b c d e f p q r s t u = rw (p, q, r, s, t, u)

at-0 : (a b c d e f : Bool) → a ≡ true → b ≡ true → c ≡ true → d ≡ true → e ≡ true → f ≡ true → 0 ≡ cascade a b c d e f
at-0 a b c d e f p q r s t u = rw (p, q, r, s, t, u)

-- 0 is given only where every test passes.
pub record Passed (a b c d e f : Bool) : Type 0 where
  pub header : a ≡ true
  pub prime : b ≡ true
  pub rank : c ≡ true
  pub contents : d ≡ true
  pub size : e ≡ true
  pub bodies : f ≡ true

all : (a b c d e f : Bool) → cascade a b c d e f ≡ 0 → Passed a b c d e f
all false b c d e f h = absurd (omega arith)
all true false c d e f h = absurd (omega arith)
all true true false d e f h = absurd (omega arith)
all true true true false e f h = absurd (omega arith)
all true true true true false f h = absurd (omega arith)
all true true true true true false h = absurd (omega arith)
all true true true true true true h =
    record { header = refl; prime = refl; rank = refl; contents = refl; size = refl; bodies = refl }

-- The same at the tests of the table.
module _ (nums : List ℕ) where
  abbrev a : Bool
  a = headed nums

  abbrev b : Bool
  b = prime_to_251 (prime_of nums)

  abbrev c : Bool
  c = rank_right (rank_of nums)

  abbrev d : Bool
  d = contents_right nums

  abbrev e : Bool
  e = eqb (length nums) (length_due nums)

  abbrev f : Bool
  f = bodies_right nums

  pub short : a ≡ false → 1 ≡ judged nums
  short = at_1 a b c d e f

  pub no-prime : a ≡ true → b ≡ false → 2 ≡ judged nums
  no-prime = at-2 a b c d e f

  pub no-rank : a ≡ true → b ≡ true → c ≡ false → 3 ≡ judged nums
  no-rank = at-3 a b c d e f

  pub no-contents : a ≡ true → b ≡ true → c ≡ true → d ≡ false → 4 ≡ judged nums
  no-contents = at-4 a b c d e f

  pub no_length : a ≡ true → b ≡ true → c ≡ true → d ≡ true → e ≡ false → 5 ≡ judged nums
  no_length = at_5 a b c d e f

  pub no_body : a ≡ true → b ≡ true → c ≡ true → d ≡ true → e ≡ true → f ≡ false → 6 ≡ judged nums
  no_body = at-6 a b c d e f

  pub none-fails : a ≡ true → b ≡ true → c ≡ true → d ≡ true → e ≡ true → f ≡ true → 0 ≡ judged nums
  none-fails = at-0 a b c d e f

  pub passed : judged nums ≡ 0 → Passed a b c d e f
  passed = all a b c d e f
