-- The answer at one overlap, from the arrays that its sides are collected to.
--
-- Main results: `named-overlap`; `settled-none`, `settled-with`; `stopped`, `alike`, `apart`.
use mathlib.Core.Path.{◌≡◌, refl, sym, ap, ap₂, ◌∙◌}
use mathlib.Core.Bool.{Bool, true, false}
use Prim.Native.Nat.{ℕ, ◌-◌, ◌≤◌}
use lib.ListN.{replicate}
use lib.Pointwise.{pointwise}
use Rattle.std.specs.Prelude.{Result, Ok, Err, is_err, nat_eq}
use Rattle.std.specs.Cmp.Lexicographic.{same_text, other_text}
use Rattle.std.proofs.lemmas.List.{append_cancel_right}
use Rattle.theory.specs.Presentation.{Vector, identity}
use Rattle.layout.specs.declared.refusal.Refusal.{Refusal}
use Rattle.layout.specs.Refusals.{refusal_number, refusal_of}
use Rattle.layout.proofs.Refusals.{refusal-of-number}
use Rattle.consistency.specs.declared.Checked.{Checked}
use Rattle.consistency.specs.declared.Overlap.{Overlap as Named}
use Rattle.consistency.specs.declared.Overlap.TheVariants.{Triple, Pair, Single}
use Rattle.consistency.specs.declared.Family.TheVariants.{Upper, Lower}
use Rattle.consistency.specs.declared.Verdict.{Verdict}
use Rattle.consistency.specs.declared.Verdict.TheVariants.{Pass, Differs, Stopped}
use Rattle.consistency.specs.Check.{overlap_of, named, Judgement, stop, same, compared, settling, Decision, passes, differs, stops, padded, without_vectors, checked_of, settles}
use Rattle.consistency.proofs.Deciding.{same-equal, same-itself, settles-none}
use Rattle.consistency.proofs.Collecting.{padded-zeros}

-- The code's overlap of a code's overlap, by way of the theory.
pub named-overlap : (o : Named) → named (overlap_of o) ≡ o
named-overlap (Triple i j k) = refl
named-overlap (Pair Upper i j) = refl
named-overlap (Pair Lower i j) = refl
named-overlap (Single i) = refl

-- A verdict without vectors, with the identity of n entries in their place.
pub blank : (n : ℕ) (v : Verdict) → n ≤ 40 → without_vectors v ≡ record { verdict = v; left = padded n (identity n); right = padded n (identity n) }
blank n v few = ap (λ (x : Vector). record { verdict = v; left = x; right = x }) (padded-zeros n few)

-- What the check says where the search settled nothing, and where it settled the verdict.
pub settled-none : (n : ℕ) → n ≤ 40 → (d : Decision) (u : Unit {0}) → settles n d ≡ Ok u → without_vectors Pass ≡ checked_of n d
settled-none n few d u e = blank n Pass few ∙ ap (checked_of n) (sym (settles-none n d (ap is_err e)))

pub settled-with : (n : ℕ) (d : Decision) (c : Checked) → settles n d ≡ Err c → c ≡ checked_of n d
settled-with n passes c e = cc
settled-with n (differs o l r) c e = cc
settled-with n (stops k o) c e = cc

-- What the code answers of the overlap o, whose judgement is j.
module _ (n : ℕ) (few : n ≤ 40) (o : Named) (j : Judgement) where
  -- A side is refused.
  pub stopped : (why : Refusal) → j ≡ stop (refusal_number why)
      → ◌≡◌ {A = Result (Unit {0}) Checked} (Err (without_vectors (Stopped why o))) (settles n (settling (overlap_of o) j passes))
  stopped why e =
      ap (λ (v : Verdict). Err (without_vectors v)) (ap₂ Stopped (sym (refusal-of-number why)) (sym (named-overlap o)))
      ∙ ap Err (blank n (Stopped (refusal_of (refusal_number why)) (named (overlap_of o))) few)
      ∙ ap (λ (x : Judgement). settles n (settling (overlap_of o) x passes)) (sym e)

  -- Both are done, and the arrays a and b hold what they are collected to.
  module _ (l r : Vector) {a b : Vector} (is : j ≡ compared l r) (left : a ≡ padded n l) (right : b ≡ padded n r) where
    pub alike : true ≡ pointwise nat_eq a b → ◌≡◌ {A = Result (Unit {0}) Checked} (Ok tt) (settles n (settling (overlap_of o) j passes))
    alike s =
        let e : l ≡ r = append_cancel_right l r (replicate (40 - n) 0) (sym left ∙ same_text a b s ∙ right) in
        let t : same l r ≡ true = ap (same l) (sym e) ∙ same-itself l in
        rw (is, t, compared) refl

    pub apart : false ≡ pointwise nat_eq a b
        → ◌≡◌ {A = Result (Unit {0}) Checked} (Err (record { verdict = Differs o; left = a; right = b })) (settles n (settling (overlap_of o) j passes))
    apart s = go (same l r) refl
      where
        go : (t : Bool) → same l r ≡ t
            → ◌≡◌ {A = Result (Unit {0}) Checked} (Err (record { verdict = Differs o; left = a; right = b })) (settles n (settling (overlap_of o) j passes))
        go true e = absurd (other_text a b s (left ∙ ap (padded n) (same-equal l r e) ∙ sym right))
        go false e =
            rw (is, e, compared)
            (ap (λ (x : Named). Err (record { verdict = Differs x; left = a; right = b })) (sym (named-overlap o))
            ∙ ap₂ (λ (x y : Vector). Err (record { verdict = Differs (named (overlap_of o)); left = x; right = y })) left right)
