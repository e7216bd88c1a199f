-- The numbers of a refused check: 1 to 6 without an overlap, 9 or 10 with one.
--
-- Main results: `verdict-numbered`; `number-judged`, `number-decided`.
use mathlib.Core.Path.{◌≡◌, refl, sym, ap, ◌∙◌, subst}
use mathlib.Core.List.{List, [], ◌∷◌}
use mathlib.Core.Bool.{Bool, true, false}
use Prim.Native.Nat.{ℕ, ◌≤◌}
use native.Mathlib.Omega.{arith}
use lib.ListN.{length}
use lib.Dec.{eqb}
use borrow.Author.Tests.{eqb-true, eqb-false}
use Rattle.theory.specs.Presentation.{Vector}
use Rattle.theory.specs.Overlaps.{Overlap, overlaps}
use Rattle.layout.specs.Header.{headed, prime_of, rank_of}
use Rattle.layout.specs.Prime.{prime_to_251}
use Rattle.layout.specs.Contents.{contents_right, length_due}
use Rattle.layout.specs.Bodies.{bodies_right}
use Rattle.layout.specs.Judged.{rank_right, judged}
use Rattle.layout.specs.Refusals.{refusal_number}
use Rattle.layout.proofs.Refusals.{number-of-refusal}
use Rattle.collector.specs.Run.{Outcome, done, refused}
use Rattle.consistency.specs.declared.Checked.{Checked}
use Rattle.consistency.specs.declared.Verdict.{Verdict}
use Rattle.consistency.specs.declared.Verdict.TheVariants.{Pass, Differs, Refused, Stopped}
use Rattle.consistency.specs.Sides.{left_pieces, right_pieces}
use Rattle.consistency.specs.Check.{side_outcome, Judgement, agree, differ, stop, same, compared, judging, judgement, Decision, passes, differs, stops, settling, decide, verdict_of, decision, check_of}
use Rattle.consistency.specs.Verdict.{number_of}
use Rattle.consistency.proofs.Collecting.{Late, LateOutcome, late-side}
use Rattle.consistency.proofs.Checking.{check-accepted, check-refused}

abbrev LateJudgement : Judgement → Type 0
LateJudgement agree = Unit {0}
LateJudgement (differ l r) = Unit {0}
LateJudgement (stop k) = Late k

abbrev LateDecision : Decision → Type 0
LateDecision passes = Unit {0}
LateDecision (differs o l r) = Unit {0}
LateDecision (stops k o) = Late k

-- From a side up to the decision, each refusal is handed on.
module _ (nums : List ℕ) (room : ℕ) where
  module _ (budget : ℕ) where
    late-decision : (os : List Overlap) → LateDecision (decide nums budget room os)
    late-decision [] = tt
    late-decision (o ∷ os) =
        settled (judgement nums budget room o)
        (judged-late (side_outcome nums budget room (left_pieces nums o)) (side_outcome nums budget room (right_pieces nums o))
        (late-side nums room budget (left_pieces nums o)) (late-side nums room budget (right_pieces nums o)))
        (late-decision os)
      where
        compared-late : (l r : Vector) → LateJudgement (compared l r)
        compared-late l r = go (same l r) refl
          where
            go : (b : Bool) → same l r ≡ b → LateJudgement (compared l r)
            go true e = rw (e, compared) tt
            go false e = rw (e, compared) tt

        judged-late : (a b : Outcome) → LateOutcome a → LateOutcome b → LateJudgement (judging a b)
        judged-late (done l c) (done r d) h k = compared-late l r
        judged-late (done l c) (refused n d) h k = k
        judged-late (refused n c) b h k = h

        settled : (j : Judgement) → LateJudgement j → LateDecision (decide nums budget room os) → LateDecision (settling o j (decide nums budget room os))
        settled agree h rest = rest
        settled (differ l r) h rest = tt
        settled (stop k) h rest = h

-- Judging gives 1 to 6 to what it does not accept.
judged-few : (nums : List ℕ) → judged nums ≤ 6
judged-few nums =
    go (headed nums) refl (prime_to_251 (prime_of nums)) refl (rank_right (rank_of nums)) refl (contents_right nums) refl
    (eqb (length nums) (length_due nums)) refl (bodies_right nums) refl
  where
    go : (a : Bool) → headed nums ≡ a → (b : Bool) → prime_to_251 (prime_of nums) ≡ b → (c : Bool) → rank_right (rank_of nums) ≡ c
        → (d : Bool) → contents_right nums ≡ d → (e : Bool) → eqb (length nums) (length_due nums) ≡ e → (f : Bool) → bodies_right nums ≡ f
        → judged nums ≤ 6
    go false h b i c j d k e l f m = rw (h, judged) (omega arith)
    go true h false i c j d k e l f m = rw (h, i, judged) (omega arith)
    go true h true i false j d k e l f m = rw (h, i, j, judged) (omega arith)
    go true h true i true j false k e l f m = rw (h, i, j, k, judged) (omega arith)
    go true h true i true j true k false l f m = rw (h, i, j, k, l, judged) (omega arith)
    go true h true i true j true k true l false m = rw (h, i, j, k, l, m, judged) (omega arith)
    go true h true i true j true k true l true m = rw (h, i, j, k, l, m, judged) (omega arith)

-- The numbers of the two refusals.
abbrev pub Numbered : Verdict → Type 0
Numbered Pass = Unit {0}
Numbered (Differs o) = Unit {0}
Numbered (Refused refusal) = (1 ≤ refusal_number refusal) × (refusal_number refusal ≤ 6)
Numbered (Stopped refusal o) = Late (refusal_number refusal)

decided-numbered : (d : Decision) → LateDecision d → Numbered (verdict_of d)
decided-numbered passes h = tt
decided-numbered (differs o l r) h = tt
decided-numbered (stops k o) h = subst Late (sym (number-of-refusal k (omega (arith, h.low)) h.high)) h

pub verdict-numbered : (nums : List ℕ) (budget room : ℕ) → Numbered (check_of nums budget room).verdict
verdict-numbered nums budget room = go (eqb (judged nums) 0) refl
  where
    is : {a b : Checked} → a ≡ b → Numbered b.verdict → Numbered a.verdict
    is e h = subst (λ (x : Checked). Numbered x.verdict) (sym e) h

    go : (b : Bool) → eqb (judged nums) 0 ≡ b → Numbered (check_of nums budget room).verdict
    go true e =
        is (check-accepted nums budget room (eqb-true (judged nums) 0 e))
        (decided-numbered (decide nums budget room (overlaps (rank_of nums))) (late-decision nums room budget (overlaps (rank_of nums))))
    go false e =
        let few = judged-few nums in
        let some = eqb-false (judged nums) 0 e in
        let number = number-of-refusal (judged nums) (omega arith) (omega arith) in
        is (check-refused nums budget room some) (omega arith, omega arith)

-- The verdict's number: the one by which the numbers are judged, or by which the side was refused that the decision names.
abbrev pub decision_number : Decision → ℕ
decision_number passes = 0
decision_number (differs o l r) = 0
decision_number (stops k o) = k

decided-number : (d : Decision) → LateDecision d → number_of (verdict_of d) ≡ decision_number d
decided-number passes h = refl
decided-number (differs o l r) h = refl
decided-number (stops k o) h = number-of-refusal k (omega (arith, h.low)) h.high

module _ (nums : List ℕ) (budget room : ℕ) where
  pub number-judged : (judged nums ≡ 0 → ⊥) → number_of (check_of nums budget room).verdict ≡ judged nums
  number-judged some =
      ap (λ (x : Checked). number_of x.verdict) (check-refused nums budget room some)
      ∙ number-of-refusal (judged nums) (omega arith) (omega (arith, judged-few nums))

  pub number-decided : judged nums ≡ 0 → number_of (check_of nums budget room).verdict ≡ decision_number (decision nums budget room)
  number-decided h =
      ap (λ (x : Checked). number_of x.verdict) (check-accepted nums budget room h)
      ∙ decided-number (decision nums budget room) (late-decision nums room budget (overlaps (rank_of nums)))
