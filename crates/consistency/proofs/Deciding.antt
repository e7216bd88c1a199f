-- Which overlap settles the verdict.
--
-- Main results: `same-equal`, `same-itself`; `agreed`, `differed`; `else-first`, `settles-none`, `decided-pass`; `decide-append`, `decide-passes`,
-- `decide-differs`.
use mathlib.Core.Path.{◌≡◌, refl, sym, ap, ap₂, ◌∙◌}
use mathlib.Core.List.Memᴰ
use mathlib.Core.List.{List, [], ◌∷◌, ◌++◌, Memᴰ}
use mathlib.Core.Bool.{Bool, true, false}
use mathlib.Core.Logic.{◌⊎◌, inl, inr}
use Prim.Native.Nat.{ℕ}
use lib.Dec.{eqb}
use borrow.Author.Tests.{eq-eqb, eqb-true}
use Rattle.theory.specs.Presentation.{Vector}
use Rattle.theory.specs.Overlaps.{Overlap}
use Rattle.collector.specs.Run.{Outcome, done, refused}
use Rattle.std.specs.Prelude.{is_err}
use Rattle.consistency.specs.declared.Verdict.TheVariants.{Pass}
use Rattle.consistency.specs.Check.{Judgement, agree, differ, stop, same, compared, judging, judgement, Decision, passes, differs, stops, settling, decide, verdict_of, settles}

-- The test of two vectors.
pub same-equal : (l r : Vector) → same l r ≡ true → l ≡ r
same-equal [] [] h = refl
same-equal [] (b ∷ r) h = cc
same-equal (a ∷ l) [] h = cc
same-equal (a ∷ l) (b ∷ r) h = go (eqb a b) refl (same-equal l r)
  where
    go : (t : Bool) → eqb a b ≡ t → (same l r ≡ true → l ≡ r) → a ∷ l ≡ b ∷ r
    go true e rest = ap₂ {C = Vector} (λ x y. x ∷ y) (eqb-true a b e) (rest (rw (e, same) at h))
    go false e rest = let q : ◌≡◌ {A = Bool} false true = rw (e, same) at h in cc

pub same-itself : (l : Vector) → same l l ≡ true
same-itself [] = refl
same-itself (a ∷ l) = rw (eq-eqb a a refl, same) (same-itself l)

-- What a judgement says of the two sides.
pub record Agreed (left right : Outcome) : Type 0 where
  pub vector : Vector
  pub left-count : ℕ
  pub right-count : ℕ
  pub left-done : left ≡ done vector left-count
  pub right-done : right ≡ done vector right-count

pub record Differed (left right : Outcome) (l r : Vector) : Type 0 where
  pub left-count : ℕ
  pub right-count : ℕ
  pub left-done : left ≡ done l left-count
  pub right-done : right ≡ done r right-count
  pub apart : l ≡ r → ⊥

pub agreed : (left right : Outcome) → judging left right ≡ agree → Agreed left right
agreed (refused k c) right e = cc
agreed (done l c) (refused k d) e = cc
agreed (done l c) (done r d) e = go (same l r) refl
  where
    go : (t : Bool) → same l r ≡ t → Agreed (done l c) (done r d)
    go true s = record { vector = l; left-count = c; right-count = d; left-done = refl; right-done = ap (λ (x : Vector). done x d) (sym (same-equal l r s)) }
    go false s = let q : ◌≡◌ {A = Judgement} (differ l r) agree = rw (s, compared) at e in cc

pub differed : (left right : Outcome) (a b : Vector) → judging left right ≡ differ a b → Differed left right a b
differed (refused k c) right a b e = cc
differed (done l c) (refused k d) a b e = cc
differed (done l c) (done r d) a b e = go (same l r) refl
  where
    go : (t : Bool) → same l r ≡ t → Differed (done l c) (done r d) a b
    go true s = let q : ◌≡◌ {A = Judgement} agree (differ a b) = rw (s, compared) at e in cc
    go false s =
        let q : ◌≡◌ {A = Judgement} (differ l r) (differ a b) = rw (s, compared) at e in
        let x : l ≡ a = cc in
        let y : r ≡ b = cc in
        let apart : l ≡ r → ⊥ = λ (h : l ≡ r). contrary (sym (ap (same l) (sym h) ∙ same-itself l) ∙ s) in
        record {
          left-count = c;
          right-count = d;
          left-done = ap (λ (v : Vector). done v c) x;
          right-done = ap (λ (v : Vector). done v d) y;
          apart = λ h. apart (x ∙ h ∙ sym y);
        }
      where
        contrary : true ≡ false → ⊥
        contrary h = cc

-- A decision that leaves the rest to decide.
abbrev pub or_else : Decision → Decision → Decision
or_else passes rest = rest
or_else (differs o l r) rest = differs o l r
or_else (stops k o) rest = stops k o

-- What the search's answer says of the decision that it comes from.
pub else-first : (n : ℕ) (d rest : Decision) → is_err (settles n d) ≡ true → or_else d rest ≡ d
else-first n passes rest h = cc
else-first n (differs o l r) rest h = refl
else-first n (stops k o) rest h = refl

pub settles-none : (n : ℕ) (d : Decision) → is_err (settles n d) ≡ false → d ≡ passes
settles-none n passes e = refl
settles-none n (differs o l r) e = cc
settles-none n (stops k o) e = cc

-- What a verdict that comes from a decision says of it.
pub decided-pass : (d : Decision) → verdict_of d ≡ Pass → d ≡ passes
decided-pass passes e = refl
decided-pass (differs o l r) e = cc
decided-pass (stops k o) e = cc

settling-else : (o : Overlap) (j : Judgement) (d rest : Decision) → settling o j (or_else d rest) ≡ or_else (settling o j d) rest
settling-else o agree d rest = refl
settling-else o (differ l r) d rest = refl
settling-else o (stop k) d rest = refl

-- One overlap after another.
module _ (nums : List ℕ) (budget room : ℕ) where
  abbrev judge : Overlap → Judgement
  judge o = judgement nums budget room o

  abbrev dec : List Overlap → Decision
  dec os = decide nums budget room os

  pub decide-append : (os qs : List Overlap) → dec (os ++ qs) ≡ or_else (dec os) (dec qs)
  decide-append [] qs = refl
  decide-append (o ∷ os) qs = ap (settling o (judge o)) (decide-append os qs) ∙ settling-else o (judge o) (dec os) (dec qs)

  pub decide-passes : (os : List Overlap) → dec os ≡ passes → (o : Overlap) → Memᴰ o os → judge o ≡ agree
  decide-passes [] e o m = absurd (Memᴰ.not-nil m)
  decide-passes (q ∷ os) e o m = go (judge q) refl (Memᴰ.cases_cons m) (λ x y. decide-passes os x o y)
    where
      go : (j : Judgement) → judge q ≡ j → (o ≡ q) ⊎ Memᴰ o os → (dec os ≡ passes → Memᴰ o os → judge o ≡ agree) → judge o ≡ agree
      go agree is (inl h) rest = ap judge h ∙ is
      go agree is (inr t) rest = rest (ap (λ (j : Judgement). settling q j (dec os)) (sym is) ∙ e) t
      go (differ l r) is t rest =
          let z : ◌≡◌ {A = Decision} (differs q l r) passes = ap (λ (j : Judgement). settling q j (dec os)) (sym is) ∙ e in
          cc
      go (stop k) is t rest =
          let z : ◌≡◌ {A = Decision} (stops k q) passes = ap (λ (j : Judgement). settling q j (dec os)) (sym is) ∙ e in
          cc

  pub record Differing (os : List Overlap) (o : Overlap) (l r : Vector) : Type 0 where
    pub listed : Memᴰ o os
    pub judged-so : judge o ≡ differ l r

  pub decide-differs : (os : List Overlap) (o : Overlap) (l r : Vector) → dec os ≡ differs o l r → Differing os o l r
  decide-differs [] o l r e = cc
  decide-differs (q ∷ os) o l r e = go (judge q) refl (decide-differs os o l r)
    where
      go : (j : Judgement) → judge q ≡ j → (dec os ≡ differs o l r → Differing os o l r) → Differing (q ∷ os) o l r
      go agree is rest =
          let d = rest (ap (λ (j : Judgement). settling q j (dec os)) (sym is) ∙ e) in
          record { listed = Memᴰ.tail d.listed; judged-so = d.judged-so }
      go (differ a b) is rest =
          let z : ◌≡◌ {A = Decision} (differs q a b) (differs o l r) = ap (λ (j : Judgement). settling q j (dec os)) (sym is) ∙ e in
          let h : o ≡ q = cc in
          let x : a ≡ l = cc in
          let y : b ≡ r = cc in
          record { listed = Memᴰ.head h; judged-so = ap judge h ∙ is ∙ ap₂ differ x y }
      go (stop k) is rest =
          let z : ◌≡◌ {A = Decision} (stops k q) (differs o l r) = ap (λ (j : Judgement). settling q j (dec os)) (sym is) ∙ e in
          cc
