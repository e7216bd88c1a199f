-- The loop of the inverse: what it keeps from generator to generator.
--
-- Main results: `Sofar`, `sofar-next`, `sofar-refused`, `sofar-end`.
use mathlib.Core.Path.{◌≡◌, refl, sym, ap, ◌∙◌, subst}
use mathlib.Core.List.{List, [], ◌∷◌, ◌++◌, append_assoc, append-nil}
use Prim.Native.Nat.{ℕ, suc, ◌+◌, ◌-◌, ◌/◌, ◌≤◌, ◌<◌}
use native.Mathlib.Omega.{arith}
use native.Mathlib.Numerals.{add-one}
use lib.ListN.{length, get_or, set, take, length-set}
use lib.Seq.{take-suc-set, take_all}
use borrow.Author.Tests.{eq-eqb}
use Rattle.theory.specs.Presentation.{Vector, Normal}
use Rattle.theory.specs.Placing.{complement}
use Rattle.layout.specs.Header.{rank_of, exponent_of}
use Rattle.layout.specs.Judged.{judged}
use Rattle.layout.specs.Relations.{presentation}
use Rattle.std.specs.Prelude.{Result, Ok}
use Rattle.collector.specs.declared.Refused.{Refused}
use Rattle.collector.specs.Given.{number_in, count_in}
use Rattle.collector.specs.Run.{Outcome, done, refused}
use Rattle.collector.specs.Calls.{behind, turned, inverting}
use Rattle.collector.specs.Running.{Tells, Answers}
use Rattle.collector.proofs.Finished.{Fine, fine-refuses, turned-fine, tells-done, tells-refused}

-- The entries found before those that follow.
abbrev ahead : Vector → Outcome → Outcome
ahead front (done r c) = done (front ++ r) c
ahead front (refused k c) = refused k c

ahead-behind : (front : Vector) (a : ℕ) (o : Outcome) → ahead front (behind a o) ≡ ahead (front ++ (a ∷ [])) o
ahead-behind front a (done r c) = ap (λ (x : Vector). done x c) (sym (append_assoc front (a ∷ []) r))
ahead-behind front a (refused k c) = refl

ahead_none : (o : Outcome) → ahead [] o ≡ o
ahead_none (done r c) = refl
ahead_none (refused k c) = refl

-- The case of an entry 0, at the index before its generator.
pub turned_zero : (nums : List ℕ) (budget room : ℕ) (v : Vector) (at c : ℕ) → get_or v at 0 ≡ 0 → turned nums budget room (at + 1) v c ≡ done v c
turned_zero nums budget room v at c z =
    let b : at + 1 - 1 ≡ at = omega arith in
    rw (eq-eqb (get_or v (at + 1 - 1) 0) 0 (ap (λ (x : ℕ). get_or v x 0) b ∙ z), turned)

module _ (nums : List ℕ) (budget room k i : ℕ) (v : Vector) (c : ℕ) where
  turn-refused : (q d : ℕ) → turned nums budget room i v c ≡ refused q d → inverting nums budget room (suc k) i v c ≡ refused q d
  turn-refused q d e = rw (e, inverting)

  turn-done : (r : Vector) (d : ℕ) → turned nums budget room i v c ≡ done r d
      → inverting nums budget room (suc k) i v c ≡ behind (complement (exponent_of nums i) (get_or v (i - 1) 0)) (inverting nums budget room k (suc i) r d)
  turn-done r d e = rw (e, inverting)

-- The first `at` entries are found, `own` is what is left of the vector, and the rest comes to the same outcome as the whole.
pub record Sofar (nums : List ℕ) (budget : ℕ) (ws₀ : List ℕ) (v₀ : Vector) (own found : Vector) (ws : List ℕ) (count at : ℕ) : Type 0 where
  pub normal : Normal (presentation nums) (rank_of nums) 1 own
  pub paid : count ≤ budget
  pub kept : length ws ≡ length ws₀
  pub long : length found ≡ rank_of nums
  pub within : at ≤ rank_of nums
  pub same : ahead (take at found) (inverting nums budget (length ws₀ / 3) (rank_of nums - at) (at + 1) own count)
      ≡ inverting nums budget (length ws₀ / 3) (rank_of nums) 1 v₀ 0

module _ {nums : List ℕ} (accepts : judged nums ≡ 0) {budget : ℕ} {ws₀ : List ℕ} {v₀ own found : Vector} {ws : List ℕ} {count at : ℕ}
    (so : Sofar nums budget ws₀ v₀ own found ws count at) where
  pub sofar-end : at ≡ rank_of nums → Answers (inverting nums budget (length ws₀ / 3) (rank_of nums) 1 v₀ 0) ws₀ found ws (Ok count)
  sofar-end e =
      let z : rank_of nums - at ≡ 0 = omega arith in
      let whole : take at found ≡ found = take_all at found (omega (arith, so.long)) in
      let is : done (found ++ []) count ≡ inverting nums budget (length ws₀ / 3) (rank_of nums) 1 v₀ 0 =
      ap (λ (x : Vector). done (x ++ []) count) (sym whole)
      ∙ ap (λ (k : ℕ). ahead (take at found) (inverting nums budget (length ws₀ / 3) k (at + 1) own count)) (sym z)
      ∙ so.same in
      record {
        kept = so.kept;
        tells =
            subst (λ (o : Outcome). Tells o (Ok count) found)
            (ap (λ (x : Vector). done x count) (sym (append-nil found)) ∙ is) (refl, refl, refl);
      }

  module _ (more : at < rank_of nums) {own' : Vector} {ws' : List ℕ} {answer : Result ℕ Refused}
      (t : Answers (turned nums budget (length ws / 3) (at + 1) own count) ws own' ws' answer) where
    room-is : length ws / 3 ≡ length ws₀ / 3
    room-is = ap (λ (x : ℕ). x / 3) so.kept

    tells : Tells (turned nums budget (length ws₀ / 3) (at + 1) own count) answer own'
    tells = subst (λ (x : ℕ). Tells (turned nums budget x (at + 1) own count) answer own') room-is t.tells

    fine : Fine nums budget (turned nums budget (length ws₀ / 3) (at + 1) own count)
    fine = turned-fine nums accepts budget (length ws₀ / 3) (at + 1) own count (omega arith) (omega arith) so.normal so.paid

    one_more : rank_of nums - at ≡ suc (rank_of nums - (at + 1))
    one_more = omega arith

    pub sofar-refused : {found' : Vector} → (number_in answer ≡ 0 → ⊥)
        → Answers (inverting nums budget (length ws₀ / 3) (rank_of nums) 1 v₀ 0) ws₀ found' ws' answer
    sofar-refused {found'} z =
        let r : turned nums budget (length ws₀ / 3) (at + 1) own count ≡ refused (number_in answer) (count_in answer) = tells-refused _ answer own' tells z in
        let is : refused (number_in answer) (count_in answer) ≡ inverting nums budget (length ws₀ / 3) (rank_of nums) 1 v₀ 0 =
        ap (ahead (take at found))
        (sym
        (ap (λ (k : ℕ). inverting nums budget (length ws₀ / 3) k (at + 1) own count) one_more
        ∙ turn-refused nums budget (length ws₀ / 3) (rank_of nums - (at + 1)) (at + 1) own count (number_in answer) (count_in answer) r))
        ∙ so.same in
        record { kept = t.kept ∙ so.kept; tells = subst (λ (o : Outcome). Tells o answer found') is (refl, refl) }

    is-done : number_in answer ≡ 0 → turned nums budget (length ws₀ / 3) (at + 1) own count ≡ done own' (count_in answer)
    is-done z = tells-done _ answer own' (λ k d e y. fine-refuses nums accepts budget (length ws₀ / 3) _ fine k d e y) tells z

    pub sofar-next : number_in answer ≡ 0
        → Sofar nums budget ws₀ v₀ own' (set found at (complement (exponent_of nums (at + 1)) (get_or own at 0))) ws' (count_in answer) (at + 1)
    sofar-next z =
        let e = exponent_of nums (at + 1) in
        let b = complement e (get_or own at 0) in
        let k = rank_of nums - (at + 1) in
        let room = length ws₀ / 3 in
        let rest = inverting nums budget room k (suc (at + 1)) own' (count_in answer) in
        let f = subst (Fine nums budget) (is-done z) fine in
        let two : suc (at + 1) ≡ at + 1 + 1 = omega arith in
        let back : at + 1 - 1 ≡ at = omega arith in
        record {
          normal = f.0;
          paid = f.1;
          kept = t.kept ∙ so.kept;
          long = length-set found at b ∙ so.long;
          within = omega arith;
          same =
              ap (λ (x : Vector). ahead x (inverting nums budget room k (at + 1 + 1) own' (count_in answer)))
              (ap (λ (x : ℕ). take x (set found at b)) (add-one at) ∙ take-suc-set found at b (omega (arith, so.long)))
              ∙ sym (ahead-behind (take at found) b (inverting nums budget room k (at + 1 + 1) own' (count_in answer)))
              ∙ ap (λ (x : ℕ). ahead (take at found) (behind b (inverting nums budget room k x own' (count_in answer)))) (sym two)
              ∙ ap (λ (x : ℕ). ahead (take at found) (behind (complement e (get_or own x 0)) rest))
              (sym back)
              ∙ ap (ahead (take at found))
              (sym
              (ap (λ (x : ℕ). inverting nums budget room x (at + 1) own count) one_more
              ∙ turn-done nums budget room k (at + 1) own count own' (count_in answer) (is-done z)))
              ∙ so.same;
        }
