-- What a judged number tells of an opening.
--
-- Main results:
--   `not_short`               numbers that do not get 1 have a header
--   `shows-none`, `shows-all` p and n of numbers that are refused, and of others
--   `held_none`, `held_all`   the record stands over the empty part at the beginning of numbers that are refused, and over the very slice
--                             of others
use mathlib.Core.Path.{◌≡◌, refl, sym, ap, ◌∙◌}
use mathlib.Core.Bool.{Bool, true, false}
use mathlib.Core.List.{List}
use Prim.Native.Nat.{ℕ, ◌≤◌}
use lib.ListN.{length}
use borrow.Author.Tests.{leb-true, eq-eqb, ne_eqb}
use denote.Ref.{Bor}
use Rattle.layout.specs.declared.View.{View}
use Rattle.layout.specs.Header.{Seen, headed, prime_of, rank_of}
use Rattle.layout.specs.Judged.{judged}
use Rattle.layout.proofs.Cascade.{short}
use Rattle.presentation.specs.Opened.{if_accepted, all_or_none, accepted, Shows, Empty, Stands}

-- numbers that do not get 1 have a header
pub not_short : (nums : List ℕ) → (judged nums ≡ 1 → ⊥) → 2 ≤ length nums
not_short nums h = go (headed nums) refl
  where
    go : (b : Bool) → headed nums ≡ b → 2 ≤ length nums
    go true e = leb-true 2 (length nums) e
    go false e = absurd (h (sym (short nums e)))

-- p and n, from the number: 0 where it says refused, else as the view of the numbers has them
pub shows-none : (nums : List ℕ) (number : ℕ) (view : View) → number ≡ judged nums → (number ≡ 0 → ⊥)
    → view.prime.0 ≡ if_accepted false (prime_of nums) → view.rank.0 ≡ if_accepted false (rank_of nums) → Shows nums view
shows-none nums number view e h p n =
    let f : accepted nums ≡ false = ne_eqb (judged nums) 0 (λ z. h (e ∙ z)) in
    record {
      prime = p ∙ ap (λ (t : Bool). if_accepted t (prime_of nums)) (sym f);
      rank = n ∙ ap (λ (t : Bool). if_accepted t (rank_of nums)) (sym f);
    }

pub shows-all : (nums : List ℕ) (number : ℕ) (view : View) → number ≡ judged nums → number ≡ 0 → Seen nums view → Shows nums view
shows-all nums number view e z seen =
    let f : accepted nums ≡ true = eq-eqb (judged nums) 0 (sym e ∙ z) in
    record {
      prime = seen.prime ∙ ap (λ (t : Bool). if_accepted t (prime_of nums)) (sym f);
      rank = seen.rank ∙ ap (λ (t : Bool). if_accepted t (rank_of nums)) (sym f);
    }

pub held_none : (lent held : Bor (List ℕ)) (r : ℕ) → r ≡ judged lent.now → (r ≡ 0 → ⊥) → Empty lent held → Stands lent held
held_none lent held r e h m = record {
  holds = m.holds ∙ ap (λ (t : Bool). all_or_none t lent.now) (sym (ne_eqb (judged lent.now) 0 (λ z. h (e ∙ z))));
  block = m.block;
  offset = m.offset;
  same = λ z. absurd (h (e ∙ z));
}

pub held_all : (lent held : Bor (List ℕ)) (r : ℕ) → r ≡ judged lent.now → r ≡ 0 → held ≡ lent → Stands lent held
held_all lent held r e z w = record {
  holds = ap (λ (x : Bor (List ℕ)). x.now) w ∙ ap (λ (t : Bool). all_or_none t lent.now) (sym (eq-eqb (judged lent.now) 0 (sym e ∙ z)));
  block = ap (λ (x : Bor (List ℕ)). x.ref_ptr.0) w;
  offset = ap (λ (x : Bor (List ℕ)). x.ref_ptr.1) w;
  same = λ _. w;
}
