-- "A refused opening has p and n 0 and stands over no numbers. .. over no numbers they answer 1": what an opening tells, and what each call says of no numbers.
--     refused-opening, accepted-opening    the record that is opened over numbers that are refused, and over others
--     refused-judged   over what a refused opening stands on, every call judges 1
--     word-of-none, .., check-none         what each call answers over no numbers, and that it touches nothing
use mathlib.Core.Path.{◌≡◌, refl, ap, ◌∙◌}
use mathlib.Core.Bool.{Bool, true, false}
use mathlib.Core.List.{List, []}
use Prim.Native.Nat.{ℕ}
use borrow.Author.Tests.{eq-eqb, ne_eqb}
use denote.Ref.{Bor}
use Rattle.layout.specs.Header.{prime_of, rank_of}
use Rattle.layout.specs.Judged.{judged}
use Rattle.layout.specs.Words.{word_of, word_at}
use Rattle.collector.specs.Calls.{untouched, collect_call, product_call, inverse_call, depth_call}
use Rattle.consistency.specs.Check.{check_of, refused_with, work_after}
use Rattle.presentation.specs.Opened.{if_accepted, all_or_none, accepted, Opens}
use Rattle.presentation.specs.declared.Presentation.{Presentation}

module _ (lent : Bor (List ℕ)) (d : Presentation) (o : Opens lent d) where
  pub refused-opening : (judged lent.now ≡ 0 → ⊥) → (d.p.0 ≡ 0) × (d.n.0 ≡ 0) × (d.numbers.now ≡ [])
  refused-opening h =
      let f : accepted lent.now ≡ false = ne_eqb (judged lent.now) 0 h in (
        o.prime ∙ ap (λ (t : Bool). if_accepted t (prime_of lent.now)) f,
        o.rank ∙ ap (λ (t : Bool). if_accepted t (rank_of lent.now)) f,
        o.stands.holds ∙ ap (λ (t : Bool). all_or_none t lent.now) f,
      )

  pub accepted-opening : judged lent.now ≡ 0 → (d.p.0 ≡ prime_of lent.now) × (d.n.0 ≡ rank_of lent.now) × (d.numbers ≡ lent)
  accepted-opening z =
      let f : accepted lent.now ≡ true = eq-eqb (judged lent.now) 0 z in
      (o.prime ∙ ap (λ (t : Bool). if_accepted t (prime_of lent.now)) f, o.rank ∙ ap (λ (t : Bool). if_accepted t (rank_of lent.now)) f, o.stands.same z)

  pub refused-judged : (judged lent.now ≡ 0 → ⊥) → judged d.numbers.now ≡ 1
  refused-judged h = ap judged (refused-opening h).2

-- ---- over no numbers
pub word-of-none : (i j : ℕ) → (word_of [] i j ≡ []) × (word_at [] i j ≡ 0)
word-of-none i j = (refl, refl)

pub collect-none : (vector word : List ℕ) (budget : ℕ) (work : List ℕ) → collect_call [] vector word budget work ≡ untouched 1 vector work
collect-none vector word budget work = refl

pub product-none : (left right : List ℕ) (budget : ℕ) (work : List ℕ) → product_call [] left right budget work ≡ untouched 1 left work
product-none left right budget work = refl

pub inverse-none : (vector : List ℕ) (budget : ℕ) (work : List ℕ) → inverse_call [] vector budget work ≡ untouched 1 vector work
inverse-none vector budget work = refl

pub depth-none : (vector : List ℕ) → depth_call [] vector ≡ record { number = 1; depth = 0 }
depth-none vector = refl

pub check-none : (budget room : ℕ) (work : List ℕ) → (check_of [] budget room ≡ refused_with 1) × (work_after [] work ≡ work)
unfolding check_of
check-none budget room work = (refl, refl)
