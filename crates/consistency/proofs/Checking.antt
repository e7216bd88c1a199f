-- What the check's verdict means: demand 3.
--
-- Main results:
--   `passed`          if the check passes, the presentation is consistent
--   `differs-joined`  if it differs, the two vectors are normal, different, and their words joined
use mathlib.Core.Path.{◌≡◌, refl, sym, ap, ◌∙◌, subst}
use mathlib.Core.List.{List, ◌++◌}
use mathlib.Core.Bool.{Bool, true, false}
use Prim.Native.Nat.{ℕ}
use native.Mathlib.Omega.{arith}
use lib.Dec.{eqb}
use borrow.Author.Tests.{eq-eqb, ne_eqb, eqb-true, eqb-false}
use Rattle.theory.specs.Presentation.{Presentation, Word, Vector, Normal, Over, spell, identity}
use Rattle.theory.specs.Placing.{collect}
use Rattle.theory.specs.Joined.{Joined}
use Rattle.theory.specs.Overlaps.{Overlap, triple, upper, lower, single, Among, left_side, right_side, Consistent, overlaps}
use Rattle.theory.proofs.Words.{spell-identity}
use Rattle.theory.proofs.Collecting.{whole, collect-normal}
use Rattle.theory.proofs.Joining.{joined-trans, joined-sym, joined_at, collect-joined, sides-over, sides-joined}
use Rattle.theory.proofs.Listing.{listed, among}
use Rattle.layout.specs.Header.{rank_of}
use Rattle.layout.specs.declared.refusal.Refusal.{Refusal}
use Rattle.layout.specs.Refusals.{refusal_number, refusal_of}
use Rattle.layout.specs.Judged.{judged}
use Rattle.layout.specs.Relations.{presentation}
use Rattle.layout.proofs.Refusals.{refusal-of-number, number-some}
use Rattle.layout.proofs.Valid.{valid}
use Rattle.consistency.specs.declared.Checked.{Checked}
use Rattle.consistency.specs.declared.Overlap.{Overlap as Named}
use Rattle.consistency.specs.declared.Verdict.{Verdict}
use Rattle.consistency.specs.declared.Verdict.TheVariants.{Pass, Differs, Refused}
use Rattle.consistency.specs.Sides.{left_pieces, right_pieces}
use Rattle.consistency.specs.Check.{overlap_of, named, side_outcome, Decision, passes, differs, stops, decision, verdict_of, padded, left_of, right_of, without_vectors, checked_of, refused_with, check_of}
use Rattle.consistency.proofs.Spelling.{left-collects, right-collects, start-normal}
use Rattle.consistency.proofs.Deciding.{Differed, agreed, differed, decided-pass, Differing, decide-passes, decide-differs}

-- The code's overlap of a theory's overlap, and back.
pub overlap-named : (o : Overlap) → overlap_of (named o) ≡ o
overlap-named (triple i j k) = refl
overlap-named (upper i j) = refl
overlap-named (lower i j) = refl
overlap-named (single i) = refl

module _ (nums : List ℕ) (budget room : ℕ) where
  -- The two cases of judging.
  pub check-accepted : judged nums ≡ 0 → check_of nums budget room ≡ checked_of (rank_of nums) (decision nums budget room)
  unfolding check_of
  check-accepted h = rw (eq-eqb (judged nums) 0 h, check_of)

  pub check-refused : (judged nums ≡ 0 → ⊥) → check_of nums budget room ≡ refused_with (judged nums)
  unfolding check_of
  check-refused h = rw (ne_eqb (judged nums) 0 h, check_of)

-- What a decision that names an overlap as differing was.
pub record Came (d : Decision) (o : Named) : Type 0 where
  pub overlap : Overlap
  pub left : Vector
  pub right : Vector
  pub decided : d ≡ differs overlap left right
  pub names : named overlap ≡ o

decided-differs : (d : Decision) (o : Named) → verdict_of d ≡ Differs o → Came d o
decided-differs passes o e = cc
decided-differs (differs q l r) o e = record { overlap = q; left = l; right = r; decided = refl; names = cc }
decided-differs (stops k q) o e = cc

-- What accepting the numbers says: why they are refused.
pub refused-first : (nums : List ℕ) (budget room : ℕ) (refusal : Refusal) → refusal_number refusal ≡ judged nums
    → without_vectors (Refused refusal) ≡ check_of nums budget room
refused-first nums budget room refusal e =
    ap (λ (r : Refusal). without_vectors (Refused r)) (sym (refusal-of-number refusal) ∙ ap refusal_of e)
    ∙ sym (check-refused nums budget room (λ z. omega (arith, number-some refusal)))

-- Any other verdict than a refusal with 1 to 6 was given to accepted numbers.
pub accepted-first : (nums : List ℕ) (budget room : ℕ) → ((r : Refusal) → (check_of nums budget room).verdict ≡ Refused r → ⊥) → judged nums ≡ 0
accepted-first nums budget room h = go (eqb (judged nums) 0) refl
  where
    go : (b : Bool) → eqb (judged nums) 0 ≡ b → judged nums ≡ 0
    go true e = eqb-true (judged nums) 0 e
    go false e =
        absurd (h (refusal_of (judged nums)) (ap (λ (x : Checked). x.verdict) (check-refused nums budget room (eqb-false (judged nums) 0 e))))

pass-apart : (r : Refusal) {v : Verdict} → v ≡ Pass → v ≡ Refused r → ⊥
pass-apart r p q = cc

differs-apart : (r : Refusal) (o : Named) {v : Verdict} → v ≡ Differs o → v ≡ Refused r → ⊥
differs-apart r o p q = cc

module _ (nums : List ℕ) (budget room : ℕ) where
  abbrev P : Presentation
  P = presentation nums

  abbrev n : ℕ
  n = rank_of nums

  -- If the check passes, the numbers are accepted and the presentation is consistent.
  pub passed-accepted : (check_of nums budget room).verdict ≡ Pass → judged nums ≡ 0
  passed-accepted e = accepted-first nums budget room (λ r. pass-apart r e)

  pub passed : (check_of nums budget room).verdict ≡ Pass → Consistent (presentation nums)
  passed e o a =
      let h = passed-accepted e in
      let d : decision nums budget room ≡ passes =
      decided-pass (decision nums budget room) (sym (ap (λ (x : Checked). x.verdict) (check-accepted nums budget room h)) ∙ e) in
      let both = agreed (side_outcome nums budget room (left_pieces nums o)) (side_outcome nums budget room (right_pieces nums o))
      (decide-passes nums budget room (overlaps n) d o (listed P o a)) in
      sym (left-collects nums h budget room o a both.vector both.left-count both.left-done)
      ∙ right-collects nums h budget room o a both.vector both.right-count both.right-done

  -- The vectors of a check that differs at the overlap o: normal, different, joined, and answered as 01 says.
  pub record Apart (o : Named) : Type 0 where
    pub accepts : judged nums ≡ 0
    pub among : Among (presentation nums) 1 (overlap_of o)
    pub left : Vector
    pub right : Vector
    pub left-answered : (check_of nums budget room).left ≡ padded (rank_of nums) left
    pub right-answered : (check_of nums budget room).right ≡ padded (rank_of nums) right
    pub left-normal : Normal (presentation nums) (rank_of nums) 1 left
    pub right-normal : Normal (presentation nums) (rank_of nums) 1 right
    pub left-collected : left ≡ collect (presentation nums) (rank_of nums) 1 (identity (rank_of nums)) (left_side (presentation nums) (overlap_of o))
    pub right-collected : right ≡ collect (presentation nums) (rank_of nums) 1 (identity (rank_of nums)) (right_side (presentation nums) (overlap_of o))
    pub apart : left ≡ right → ⊥
    pub joined : Joined (presentation nums) 1 (spell 1 left) (spell 1 right)

  -- A word that collects to v from the identity is joined to the word of v.
  collected-joined : (h : judged nums ≡ 0) (u : Word) (v : Vector) → Over P 1 u → v ≡ collect P n 1 (identity n) u → Joined P 1 u (spell 1 v)
  collected-joined h u v o e =
      joined_at P (ap (λ (x : Word). x ++ u) (spell-identity P n 1)) (ap (spell 1) (sym e))
      (collect-joined P (valid nums h) n 1 (identity n) u (whole P) (start-normal nums h) o)

  collected-normal : (h : judged nums ≡ 0) (u : Word) (v : Vector) → v ≡ collect P n 1 (identity n) u → Normal P n 1 v
  collected-normal h u v e =
      subst (Normal P n 1) (sym e) (collect-normal P (valid nums h) n 1 (identity n) u (whole P) (start-normal nums h))

  pub differs-joined : (o : Named) → (check_of nums budget room).verdict ≡ Differs o → Apart o
  differs-joined o e = subst Apart came.names answer
    where
      h : judged nums ≡ 0
      h = accepted-first nums budget room (λ r. differs-apart r o e)

      came : Came (decision nums budget room) o
      came = decided-differs (decision nums budget room) o (sym (ap (λ (x : Checked). x.verdict) (check-accepted nums budget room h)) ∙ e)

      q : Overlap
      q = came.overlap

      found : Differing nums budget room (overlaps n) came.overlap came.left came.right
      found = decide-differs nums budget room (overlaps n) came.overlap came.left came.right came.decided

      a : Among P 1 came.overlap
      a = among P came.overlap found.listed

      both : Differed (side_outcome nums budget room (left_pieces nums came.overlap)) (side_outcome nums budget room (right_pieces nums came.overlap))
          came.left came.right
      both =
          differed (side_outcome nums budget room (left_pieces nums came.overlap)) (side_outcome nums budget room (right_pieces nums came.overlap))
          came.left came.right found.judged-so

      lc : came.left ≡ collect P n 1 (identity n) (left_side P came.overlap)
      lc = left-collects nums h budget room came.overlap a came.left both.left-count both.left-done

      rc : came.right ≡ collect P n 1 (identity n) (right_side P came.overlap)
      rc = right-collects nums h budget room came.overlap a came.right both.right-count both.right-done

      over : Over P 1 (left_side P came.overlap) × Over P 1 (right_side P came.overlap)
      over = sides-over P (valid nums h) 1 came.overlap (omega arith) a

      back : overlap_of (named came.overlap) ≡ came.overlap
      back = overlap-named came.overlap

      answer : Apart (named came.overlap)
      answer =
          record {
            accepts = h;
            among = subst (Among P 1) (sym back) a;
            left = came.left;
            right = came.right;
            left-answered = ap (λ (x : Checked). x.left) (check-accepted nums budget room h) ∙ ap (λ (d : Decision). padded n (left_of n d)) came.decided;
            right-answered = ap (λ (x : Checked). x.right) (check-accepted nums budget room h) ∙ ap (λ (d : Decision). padded n (right_of n d)) came.decided;
            left-normal = collected-normal h (left_side P came.overlap) came.left lc;
            right-normal = collected-normal h (right_side P came.overlap) came.right rc;
            left-collected = subst (λ (x : Overlap). came.left ≡ collect P n 1 (identity n) (left_side P x)) (sym back) lc;
            right-collected = subst (λ (x : Overlap). came.right ≡ collect P n 1 (identity n) (right_side P x)) (sym back) rc;
            apart = both.apart;
            joined =
                joined-trans P (joined-sym P (collected-joined h (left_side P came.overlap) came.left over.0 lc))
                (joined-trans P (sides-joined P (valid nums h) 1 came.overlap (omega arith) a)
                (collected-joined h (right_side P came.overlap) came.right over.1 rc));
          }
