-- What a collection stands on, from the judgements alone: accepted numbers and a right word are `Ground`.
--
-- Main results: `ground` and `ground-empty`; `bodies-formed` and `relation-formed`, the pairs of the bodies and of each relation as the
-- slots have them.
use mathlib.Core.Path.{◌≡◌, refl, sym, ap, ◌∙◌, subst}
use mathlib.Core.List.{List, [], ◌∷◌, ◌++◌}
use mathlib.Core.Bool.{true}
use Prim.Native.Nat.{ℕ, zero, suc, ◌+◌, ◌-◌, ◌*◌, ◌≤◌, ◌<◌}
use native.Mathlib.Omega.{arith}
use native.Mathlib.Decide.{dec_le}
use lib.ListN.{length, take, drop, length-drop}
use lib.Seq.{take-add, take_all, drop-drop}
use Rattle.layout.specs.declared.View.{View}
use Rattle.layout.specs.Header.{Seen, rank_of, bodies_at, entries}
use Rattle.layout.specs.Contents.{row_at, length_of, pairs_before, stretch_at, stretch_of}
use Rattle.layout.specs.Judged.{judged}
use Rattle.layout.proofs.Rows.{rows_all}
use Rattle.layout.proofs.Stretches.{start_is}
use Rattle.layout.proofs.Accepted.{accepted}
use Rattle.layout.proofs.Relations as relations
use Rattle.layout.proofs.Valid.{entry-pairs, relation-pairs}
use Rattle.layout.proofs.Bounds.{all-few}
use Rattle.slots.specs.Pieces.{Pairs}
use Rattle.placing.specs.Ready.{Ground}
use Rattle.collector.specs.Inputs.{word_right}
use Rattle.collector.proofs.Judging.{word-pairs, word-short}

-- The pairs of a relation are pairs: that their generators increase and their exponents stay small is forgotten.
paired : {e : ℕ → ℕ} {n low : ℕ} {w : List ℕ} → relations.Pairs e n low w → Pairs n w
paired relations.none = tt
paired (relations.pair l m s t r) = (record { low = omega arith; high = m; some = omega arith }, paired r)

pub relation-formed : (nums : List ℕ) → judged nums ≡ 0 → (i g : ℕ) → 1 ≤ i → i ≤ g → g ≤ rank_of nums → Pairs (rank_of nums) (stretch_of nums i g)
relation-formed nums h i g l m k = paired (relation-pairs nums h i g l m k)

pairs-append : (n : ℕ) (u w : List ℕ) → Pairs n u → Pairs n w → Pairs n (u ++ w)
pairs-append n [] w p q = q
pairs-append n (g ∷ []) w p q = absurd p
pairs-append n (g ∷ a ∷ u) w p q = (p.0, pairs-append n u w p.1 q)

-- Every entry stands in a row: where.
record Spot (n x : ℕ) : Type 0 where
  row : ℕ
  column : ℕ
  place : x ≡ row_at n row + column
  first : row < n
  within : column < n - row

spot : (n i x : ℕ) → i ≤ n → x < row_at n i → Spot n x
spot n zero x h l = absurd (omega arith)
spot n (suc i) x h l = go (dec_le (row_at n i) x) (λ m. spot n i x (omega arith) m)
  where
    go : Dec (row_at n i ≤ x) → (x < row_at n i → Spot n x) → Spot n x
    go (yes m) r = record { row = i; column = x - row_at n i; place = omega arith; first = omega arith; within = omega arith }
    go (no m) r = r (omega arith)

module _ (nums : List ℕ) (h : judged nums ≡ 0) where
  entry-formed : (e : ℕ) → e < entries (rank_of nums) → Pairs (rank_of nums) (stretch_at nums e)
  entry-formed e l =
      go (spot (rank_of nums) (rank_of nums) e (omega arith) (omega (arith, rows_all (rank_of nums) (accepted nums h).measured.most)))
    where
      go : Spot (rank_of nums) e → Pairs (rank_of nums) (stretch_at nums e)
      go s =
          subst (λ (x : ℕ). Pairs (rank_of nums) (stretch_at nums x)) (sym s.place)
          (paired (entry-pairs nums h s.row s.column s.first s.within))

  abbrev bodies : List ℕ
  bodies = drop (bodies_at nums) nums

  -- One entry more: its stretch stands behind those of the entries before it.
  next-stretch : (e : ℕ) → e < entries (rank_of nums)
      → take (2 * pairs_before nums (suc e)) bodies ≡ take (2 * pairs_before nums e) bodies ++ stretch_at nums e
  next-stretch e l =
      ap (λ (k : ℕ). take k bodies) (twice (pairs_before nums e) (length_of nums e))
      ∙ take-add (2 * pairs_before nums e) (2 * length_of nums e) bodies
      ∙ ap (λ (x : List ℕ). take (2 * pairs_before nums e) bodies ++ take (2 * length_of nums e) x)
      (drop-drop (2 * pairs_before nums e) (bodies_at nums) nums
      ∙ ap (λ (s : ℕ). drop (bodies_at nums + 2 * s) nums) (sym (start_is nums e (accepted nums h).measured.starts l)))
    where
      twice : (a b : ℕ) → 2 * (a + b) ≡ 2 * a + 2 * b
      twice a b = omega arith

  first-bodies : (e : ℕ) → e ≤ entries (rank_of nums) → Pairs (rank_of nums) (take (2 * pairs_before nums e) bodies)
  first-bodies zero l = tt
  first-bodies (suc e) l =
      subst (Pairs (rank_of nums)) (sym (next-stretch e l))
      (pairs-append (rank_of nums) (take (2 * pairs_before nums e) bodies) (stretch_at nums e) (first-bodies e (omega arith)) (entry-formed e l))

  bodies-long : length bodies ≡ 2 * pairs_before nums (entries (rank_of nums))
  bodies-long = length-drop (bodies_at nums) nums
      ∙ less (length nums) (bodies_at nums) (2 * pairs_before nums (entries (rank_of nums))) (accepted nums h).measured.size
    where
      less : (l b k : ℕ) → l ≡ b + k → l - b ≡ k
      less l b k e = omega arith

  -- All bodies together are pairs.
  pub bodies-formed : Pairs (rank_of nums) (drop (bodies_at nums) nums)
  bodies-formed =
      subst (Pairs (rank_of nums)) (take_all (2 * pairs_before nums (entries (rank_of nums))) bodies (omega (arith, bodies-long)))
      (first-bodies (entries (rank_of nums)) (omega arith))

  module _ (view : View) (seen : Seen nums view) where
    from-pairs : (word : List ℕ) → Pairs (rank_of nums) word → length word ≤ 2 * 4096 → Ground nums view (drop (bodies_at nums) nums) word
    from-pairs word p l =
        record {
          accepts = h;
          seen = seen;
          bodies_are = refl;
          sources =
              record {
                rank = (accepted nums h).measured.most;
                body_pairs = bodies-formed;
                body_count = omega (arith, bodies-long, all-few nums h);
                word_pairs = p;
                word_count = l;
              };
        }

pub ground : (nums word : List ℕ) (view : View) → judged nums ≡ 0 → Seen nums view → word_right nums word ≡ true
    → Ground nums view (drop (bodies_at nums) nums) word
ground nums word view h s r = from-pairs nums h view s word (word-pairs nums word r) (word-short nums word r)

-- Where no word is read: products, inverses and the check.
pub ground-empty : (nums : List ℕ) (view : View) → judged nums ≡ 0 → Seen nums view → Ground nums view (drop (bodies_at nums) nums) []
ground-empty nums view h s = from-pairs nums h view s [] tt (omega arith)
