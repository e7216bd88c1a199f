-- Judging a vector and a word by their entries and pairs all at once, as the code does: what that says of the judgements of the definitions.
--
-- Main results:
--   `vector-long`            the length of a vector
--   `vector-all`             a vector is right just if all its entries are below p
--   `test-pair`              the test of a pair
--   `word_is`, `word-not`    a word is right just if it is short and even, and each pair of it is right
use mathlib.Core.Path.{◌≡◌, refl, sym, ap, ◌∙◌}
use mathlib.Core.List.{List, [], ◌∷◌}
use mathlib.Core.Bool.{Bool, true, false, ◌&&◌}
use Prim.Native.Nat.{ℕ, suc, ◌/◌, ◌%◌, ◌≤◌, ◌+◌, ◌<◌}
use native.Mathlib.Omega.{arith}
use native.Mathlib.Decide.{dec_le, dec_lt}
use borrow.Author.Tests.{leb-true, le-leb, lt-leb, eq-eqb, ne_eqb}
use lib.ListN.{length, get_or, drop, drop_of_length-le}
use lib.Dec.{leb, ltb, eqb}
use lib.Seq.{drop-cons}
use Rattle.std.specs.List.{list_all}
use Rattle.std.specs.Simd.{first_chunks}
use Rattle.theory.specs.Presentation.{Vector}
use Rattle.layout.specs.declared.View.{View}
use Rattle.layout.specs.Header.{Seen, rank_of, exponent_of}
use Rattle.layout.proofs.Accepted.{and_left, and_right}
use Rattle.slots.specs.Pieces.{Pair}
use Rattle.collector.specs.Inputs.{entries_right, vector_right, pairs_right, most_numbers, word_right}

-- The shape of a judgement: what is judged next counts only if this test holds.
abbrev both : Bool → Bool → Bool
both b c = elim b [ true ↦ c | false ↦ false ]

both-and : (b c : Bool) → b && c ≡ both b c
both-and true c = refl
both-and false c = refl

both-none : (b : Bool) → both b false ≡ false
both-none true = refl
both-none false = refl

-- A vector: its length, and its entries.
entries-all : (e : ℕ → ℕ) (p : ℕ) → ((g : ℕ) → e g ≡ p) → (g : ℕ) (v : Vector) → list_all (λ (a : ℕ). ltb a p) v ≡ entries_right e g v
entries-all e p is g [] = refl
entries-all e p is g (a ∷ v) =
    both-and (ltb a p) (list_all (λ (x : ℕ). ltb x p) v) ∙ ap (both (ltb a p)) (entries-all e p is (suc g) v)
    ∙ ap (λ (k : ℕ). both (ltb a k) (entries_right e (suc g) v)) (sym (is g))

module _ (nums : List ℕ) (v : Vector) where
  pub vector-long : length v ≡ rank_of nums → vector_right nums v ≡ entries_right (exponent_of nums) 1 v
  vector-long h = ap (λ (b : Bool). both b (entries_right (exponent_of nums) 1 v)) (eq-eqb (length v) (rank_of nums) h)

  pub vector-all : (view : View) → Seen nums view → length v ≡ rank_of nums → list_all (λ (a : ℕ). ltb a view.prime.0) v ≡ vector_right nums v
  vector-all view seen h = entries-all (exponent_of nums) view.prime.0 (λ g. sym seen.prime) 1 v ∙ sym (vector-long h)

-- The test of a pair says what `Pair` says.
abbrev pair_test : ℕ → ℕ → ℕ → Bool
pair_test n g a = leb 1 g && (leb g n && leb 1 a)

pub test-pair : (n g a : ℕ) → leb 1 g && (leb g n && leb 1 a) ≡ true → Pair n g a
test-pair n g a h =
    let t : leb g n && leb 1 a ≡ true = and_right (leb 1 g) _ h in
    record {
      low = leb-true 1 g (and_left (leb 1 g) _ h);
      high = leb-true g n (and_left (leb g n) _ t);
      some = leb-true 1 a (and_right (leb g n) _ t);
    }

-- The same of a pair as it is cut off a word.
abbrev pub chunk_test : ℕ → List ℕ → Bool
chunk_test n x = pair_test n (get_or x 0 0) (get_or x 1 0)

chunks-all : (n : ℕ) (w : List ℕ) → length w % 2 ≡ 0 → list_all (chunk_test n) (first_chunks 2 (length w / 2) w) ≡ pairs_right n w
chunks-all n [] h = refl
chunks-all n (g ∷ []) h = absurd (omega arith)
chunks-all n (g ∷ a ∷ w) h =
    let half : length (g ∷ a ∷ w) / 2 ≡ suc (length w / 2) = omega arith in
    ap (λ (k : ℕ). list_all (chunk_test n) (first_chunks 2 k (g ∷ a ∷ w))) half
    ∙ both-and (pair_test n g a) (list_all (chunk_test n) (first_chunks 2 (length w / 2) w))
    ∙ ap (both (pair_test n g a)) (chunks-all n w (omega arith))

pairs-odd : (n : ℕ) (w : List ℕ) → (length w % 2 ≡ 0 → ⊥) → pairs_right n w ≡ false
pairs-odd n [] h = absurd (h refl)
pairs-odd n (g ∷ []) h = refl
pairs-odd n (g ∷ a ∷ w) h = ap (both (pair_test n g a)) (pairs-odd n w (λ z. h (omega arith))) ∙ both-none (pair_test n g a)

module _ (nums w : List ℕ) where
  word-few : length w ≤ most_numbers → word_right nums w ≡ pairs_right (rank_of nums) w
  word-few h = ap (λ (b : Bool). both b (pairs_right (rank_of nums) w)) (le-leb (length w) most_numbers h)

  pub word_is : (n : ℕ) → n ≡ rank_of nums → length w ≤ most_numbers → length w % 2 ≡ 0
      → list_all (chunk_test n) (first_chunks 2 (length w / 2) w) ≡ word_right nums w
  word_is n is l h = chunks-all n w h ∙ ap (λ (k : ℕ). pairs_right k w) is ∙ sym (word-few l)

  pub word-not : (length w ≤ most_numbers → length w % 2 ≡ 0 → ⊥) → word_right nums w ≡ false
  word-not h = go (dec_le (length w) most_numbers)
    where
      go : Dec (length w ≤ most_numbers) → word_right nums w ≡ false
      go (yes l) = word-few l ∙ pairs-odd (rank_of nums) w (h l)
      go (no m) = ap (λ (b : Bool). both b (pairs_right (rank_of nums) w)) (lt-leb (length w) most_numbers (omega arith))

-- Behind the last pair nothing is left, or half a pair.
pub pairs_end : (n : ℕ) (w : List ℕ) (at : ℕ) → at ≤ length w → length w ≤ at + 1 → pairs_right n (drop at w) ≡ eqb at (length w)
pairs_end n w at l h = go (dec_lt at (length w))
  where
    go : Dec (at < length w) → pairs_right n (drop at w) ≡ eqb at (length w)
    go (yes m) =
        rw (drop-cons w at 0 m, drop_of_length-le w {i = suc at} (omega arith)) (sym (ne_eqb at (length w) (omega arith)))
    go (no m) =
        let z : length w ≤ at = omega arith in
        rw (drop_of_length-le w z) (sym (eq-eqb at (length w) (omega arith)))
