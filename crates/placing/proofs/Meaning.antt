-- What the exchanged slots stand for: the slots that the workspace is made to hold mean the pieces that document 01's step 2 puts.
--
-- Main results: `meaning-exchange`, `standing-exchange`.
use mathlib.Core.Path.{◌≡◌, refl, sym, ap, ◌∙◌, subst}
use mathlib.Core.List.{List, [], ◌∷◌, map}
use mathlib.Core.Bool.{Bool, true, false}
use Prim.Native.Nat.{ℕ, zero, suc, ◌+◌, ◌-◌, ◌*◌, ◌≤◌, ◌<◌}
use native.Mathlib.Omega.{arith}
use lib.ListN.{length, take, drop, length-drop}
use lib.Seq.{drop-drop}
use lib.Dec.{eqb}
use borrow.Author.Tests.{eqb-true, eqb-false, ne_eqb}
use Rattle.theory.specs.Presentation.{Vector}
use Rattle.layout.specs.declared.Generator.{Generator}
use Rattle.layout.specs.declared.Span.{Span}
use Rattle.layout.specs.Header.{rank_of, bodies_at}
use Rattle.layout.specs.Contents.{start_of, length_of, entry_at, place_of, stretch_at, stretch_of}
use Rattle.layout.specs.Judged.{judged}
use Rattle.layout.proofs.Bounds.{Relation, relation}
use Rattle.slots.specs.declared.Slot.{Slot}
use Rattle.slots.specs.declared.Slot.TheVariants as variant
use Rattle.slots.specs.Pieces.{Piece, power, string, stretch, meaning}
use Rattle.slots.specs.Stacked.{Inside, AllStanding}
use Rattle.slots.proofs.Strings.{stretch-step}
use Rattle.placing.specs.Exchange.{copies, exchanged, exchange, copies_of, entry_slots, span_of, exchange_slots}

module _ (bodies word : List ℕ) where
  abbrev means : List Slot → List Piece
  means l = map (meaning bodies word) l

  meaning-copies : (b s k : ℕ) (g : Generator) (below : List Slot)
      → means (copies_of b (variant.Relation s k) g below) ≡ copies b (stretch bodies s k) g.0 (means below)
  meaning-copies zero s k g below = refl
  meaning-copies (suc b) s k g below =
      ap (λ (l : List Piece). power g.0 1 ∷ string (stretch bodies s k) ∷ l) (meaning-copies b s k g below)

  -- A span is empty, or its pairs stand inside the bodies.
  abbrev Spanned : Span → Type 0
  Spanned span = (span.pairs ≡ 0 → ⊥) → Inside bodies span.start span.pairs

  meaning-entry : (span : Span) (g : Generator) (b : ℕ) (below : List Slot) → Spanned span
      → means (entry_slots span g b below) ≡ exchanged (stretch bodies span.start span.pairs) g.0 b (means below)
  meaning-entry span g zero below h = refl
  meaning-entry span g (suc b) below h = go (eqb span.pairs 0) refl
    where
      s : ℕ
      s = span.start

      k : ℕ
      k = span.pairs

      go : (t : Bool) → eqb span.pairs 0 ≡ t
          → means (entry_slots span g (suc b) below) ≡ exchanged (stretch bodies span.start span.pairs) g.0 (suc b) (means below)
      go true e =
          rw (e, entry_slots)
          (sym (ap (λ (x : ℕ). exchanged (take (2 * x) (drop (2 * span.start) bodies)) g.0 (suc b) (means below)) (eqb-true span.pairs 0 e)))
      go false e =
          let st = stretch-step bodies span.start span.pairs (h (eqb-false span.pairs 0 e)) in
          rw (e, entry_slots)
          (meaning-copies (suc b) span.start span.pairs g below
          ∙ ap (λ (l : List ℕ). copies (suc b) l g.0 (means below)) st
          ∙ sym (ap (λ (l : List ℕ). exchanged l g.0 (suc b) (means below)) st))

  -- Standing slots.
  standing-copies : (n b s k : ℕ) (g : Generator) (below : List Slot) → 1 ≤ g.0 → g.0 ≤ n → Inside bodies s k
      → AllStanding n bodies word below → AllStanding n bodies word (copies_of b (variant.Relation s k) g below)
  standing-copies n zero s k g below l f h all = all
  standing-copies n (suc b) s k g below l f h all =
      (record { low = l; high = f; some = omega arith }, (h, standing-copies n b s k g below l f h all))

  standing-entry : (n : ℕ) (span : Span) (g : Generator) (b : ℕ) (below : List Slot) → 1 ≤ g.0 → g.0 ≤ n → Spanned span
      → AllStanding n bodies word below → AllStanding n bodies word (entry_slots span g b below)
  standing-entry n span g zero below l f h all = all
  standing-entry n span g (suc b) below l f h all = go (eqb span.pairs 0) refl
    where
      go : (t : Bool) → eqb span.pairs 0 ≡ t → AllStanding n bodies word (entry_slots span g (suc b) below)
      go true e = rw (e, entry_slots) (record { low = l; high = f; some = omega arith }, all)
      go false e =
          rw (e, entry_slots) (standing-copies n (suc b) span.start span.pairs g below l f (h (eqb-false span.pairs 0 e)) all)

  module _ (nums : List ℕ) (accepts : judged nums ≡ 0) (are : bodies ≡ drop (bodies_at nums) nums) where
    abbrev n : ℕ
    n = rank_of nums

    -- The entry of w_ig, for i < g.
    abbrev entry : ℕ → ℕ → ℕ
    entry i g = entry_at (rank_of nums) i g

    place-entry : (i g : ℕ) → i < g → place_of (rank_of nums) i g ≡ entry_at (rank_of nums) i g
    place-entry i g h = rw (ne_eqb i g (λ e. omega arith), place_of)

    known : (i g : ℕ) → 1 ≤ i → i < g → g ≤ rank_of nums → Relation nums i g (entry_at (rank_of nums) i g)
    known i g l h f = subst (Relation nums i g) (place-entry i g h) (relation nums accepts i g l (omega arith) f)

    spanned : (i g : ℕ) → 1 ≤ i → i < g → g ≤ rank_of nums → Spanned (span_of nums (entry_at (rank_of nums) i g))
    spanned i g l h f z =
        let r = known i g l h f in
        let e : length bodies ≡ length nums - bodies_at nums = ap length are ∙ length-drop (bodies_at nums) nums in
        record { some = omega arith; within = omega (arith, r.inside, e) }

    stretch-is : (i g : ℕ) → i < g
        → stretch bodies (start_of nums (entry_at (rank_of nums) i g)) (length_of nums (entry_at (rank_of nums) i g)) ≡ stretch_of nums i g
    stretch-is i g h =
        let e = entry_at (rank_of nums) i g in
        ap (λ (l : List ℕ). take (2 * length_of nums e) (drop (2 * start_of nums e) l)) are
        ∙ ap (take (2 * length_of nums e)) (drop-drop (2 * start_of nums e) (bodies_at nums) nums)
        ∙ sym (ap (stretch_at nums) (place-entry i g h))

    pub meaning-exchange : (i g : ℕ) (v : Vector) (below : List Slot) → 1 ≤ i → i < g → length v + g ≤ suc (rank_of nums)
        → means (exchange_slots nums i g v below) ≡ exchange nums i g v (means below)
    meaning-exchange i g [] below l h f = refl
    meaning-exchange i g (b ∷ v) below l h f =
        meaning-entry (span_of nums (entry_at (rank_of nums) i g)) (record { 0 = g }) b (exchange_slots nums i (suc g) v below) (spanned i g l h (omega arith))
        ∙ ap (λ (w : List ℕ). exchanged w g b (means (exchange_slots nums i (suc g) v below))) (stretch-is i g h)
        ∙ ap (exchanged (stretch_of nums i g) g b) (meaning-exchange i (suc g) v below l (omega arith) (omega arith))

    pub standing-exchange : (i g : ℕ) (v : Vector) (below : List Slot) → 1 ≤ i → i < g → length v + g ≤ suc (rank_of nums)
        → AllStanding (rank_of nums) bodies word below → AllStanding (rank_of nums) bodies word (exchange_slots nums i g v below)
    standing-exchange i g [] below l h f all = all
    standing-exchange i g (b ∷ v) below l h f all =
        standing-entry (rank_of nums) (span_of nums (entry_at (rank_of nums) i g)) (record { 0 = g }) b (exchange_slots nums i (suc g) v below)
        (omega arith) (omega arith) (spanned i g l h (omega arith))
        (standing-exchange i (suc g) v below l (omega arith) (omega arith) all)
