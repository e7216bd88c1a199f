-- What opening gives: p and n of numbers that are accepted, 0 of others, and the part of the lent numbers that the record stands over.
--
-- Main definitions: `prime_in`, `rank_in`, `stood`, `Stands`, `Opens`.
use Rattle.std.specs.Prelude.{◌≡◌, Bool, true, false, List, [], ℕ, eqb}
use Rattle.std.specs.Borrow.{Bor}
use Rattle.layout.specs.declared.View.{View}
use Rattle.layout.specs.Header.{prime_of, rank_of}
use Rattle.layout.specs.Judged.{judged}
use Rattle.layout.specs.Refusals.{given}
use Rattle.presentation.specs.declared.Presentation.{Presentation}

-- Of numbers that were accepted, or not: "a refused opening has p and n 0 and stands over no numbers".
abbrev pub if_accepted : Bool → ℕ → ℕ
if_accepted true x = x
if_accepted false x = 0

abbrev pub all_or_none : Bool → List ℕ → List ℕ
all_or_none true nums = nums
all_or_none false nums = []

abbrev pub accepted : List ℕ → Bool
accepted nums = eqb (judged nums) 0

-- p and n
abbrev pub prime_in : List ℕ → ℕ
prime_in nums = if_accepted (accepted nums) (prime_of nums)

abbrev pub rank_in : List ℕ → ℕ
rank_in nums = if_accepted (accepted nums) (rank_of nums)

-- The view says them. Where the contents and the bodies begin, an opened presentation does not tell.
pub record Shows (nums : List ℕ) (view : View) : Type 0 where
  pub prime : view.prime.0 ≡ prime_in nums
  pub rank : view.rank.0 ≡ rank_in nums

-- The numbers that the record stands over.
abbrev pub stood : List ℕ → List ℕ
stood nums = all_or_none (accepted nums) nums

-- The empty part at the beginning of lent numbers.
pub record Empty (lent held : Bor (List ℕ)) : Type 0 where
  pub holds : held.now ≡ []
  pub block : held.ref_ptr.0 ≡ lent.ref_ptr.0
  pub offset : held.ref_ptr.1 ≡ lent.ref_ptr.1

-- "The opened presentation stands over the caller's numbers and copies none of them": it lies where they lie, and
-- where they are accepted it is the very slice that was lent.
pub record Stands (lent held : Bor (List ℕ)) : Type 0 where
  pub holds : held.now ≡ stood lent.now
  pub block : held.ref_ptr.0 ≡ lent.ref_ptr.0
  pub offset : held.ref_ptr.1 ≡ lent.ref_ptr.1
  pub same : judged lent.now ≡ 0 → held ≡ lent

-- The record that opening hands back, field by field.
pub record Opens (lent : Bor (List ℕ)) (opened : Presentation) : Type 0 where
  pub number : given opened.judged ≡ judged lent.now
  pub prime : opened.p.0 ≡ prime_in lent.now
  pub rank : opened.n.0 ≡ rank_in lent.now
  pub stands : Stands lent opened.numbers
