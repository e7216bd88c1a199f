-- Putting the parts of a side one by one: what the workspace holds then stands for the side's pieces.
--
-- Main results: `laid_none`, `part-some`, `word_some`; `start_small`.
use mathlib.Core.Path.{◌≡◌, refl, sym, ap, ap₂, ◌∙◌}
use mathlib.Core.List.{List, [], ◌∷◌}
use Prim.Native.Nat.{ℕ, ◌+◌, ◌-◌, ◌*◌, ◌≤◌}
use native.Mathlib.Omega.{arith}
use lib.ListN.{length, take, drop, length-drop}
use lib.Seq.{drop-drop}
use Rattle.layout.specs.declared.Span.{Span}
use Rattle.layout.specs.Header.{rank_of, bodies_at}
use Rattle.layout.specs.Contents.{Spans, start_of, length_of, place_of, stretch_of}
use Rattle.layout.specs.Judged.{judged}
use Rattle.layout.proofs.Bounds.{Relation, relation}
use Rattle.slots.specs.declared.Slot.TheVariants.{Power, Relation as Body}
use Rattle.slots.specs.Pieces.{Piece, power, string, unread}
use Rattle.std.specs.Prelude.{Some}
use Rattle.collector.specs.Starting.{Put}
use Rattle.collector.proofs.Holding.{held_none, held-put}
use Rattle.consistency.specs.declared.Part.{Part}
use Rattle.consistency.specs.Sides.{worded}
use Rattle.consistency.specs.Laying.{Laid, Lays, LaysPart}

pub laid_none : (n : ℕ) (bodies ws : List ℕ) → Laid n bodies [] ws 0
laid_none n bodies ws = record { slots = []; held = held_none ws; standing = tt; means = refl }

pub part-some : (part : Part) {ws ws' : List ℕ} {d : ℕ} → Put (Power part.0 part.1) ws d ws' → LaysPart (Some part) ws d ws' (d + 1)
part-some part {ws} {ws'} {d} p =
    record {
      most = omega arith;
      lays = λ n bodies right ps l.
          record {
            slots = Power part.0 part.1 ∷ l.slots;
            held = held-put l.held p;
            standing = (record { low = right.low; high = right.high; some = right.some }, l.standing);
            means = ap (λ (x : List Piece). power part.0.0 part.1.0 ∷ x) l.means;
          };
    }

-- A stretch of some number.
unread-some : (w : List ℕ) (below : List Piece) → (length w ≡ 0 → ⊥) → unread w below ≡ string w ∷ below
unread-some [] below h = absurd (h refl)
unread-some (g ∷ w) below h = refl

module _ (nums : List ℕ) (accepts : judged nums ≡ 0) (i j : ℕ) (named : (1 ≤ i) × (i ≤ j) × (j ≤ rank_of nums)) (span : Span)
    (spans : Spans nums (place_of (rank_of nums) i j) span) where
  abbrev entry : ℕ
  entry = place_of (rank_of nums) i j

  abbrev bodies : List ℕ
  bodies = drop (bodies_at nums) nums

  rel : Relation nums i j entry
  rel = relation nums accepts i j named.0 named.1 named.2

  pub start_small : span.start ≤ 10660
  start_small = omega (arith, rel.few, spans.start)

  long : length (stretch_of nums i j) ≡ 2 * span.pairs
  long = rel.long ∙ ap (λ (k : ℕ). 2 * k) (sym spans.pairs)

  -- What the slot stands for is the stretch itself.
  read : take (2 * span.pairs) (drop (2 * span.start) bodies) ≡ stretch_of nums i j
  read =
      ap₂ (λ (k s : ℕ). take (2 * k) (drop (2 * s) bodies)) spans.pairs spans.start
      ∙ ap (λ (x : List ℕ). take (2 * length_of nums entry) x) (drop-drop (2 * start_of nums entry) (bodies_at nums) nums)

  inside : 2 * (span.start + span.pairs) ≤ length bodies
  inside =
      let h : length bodies ≡ length nums - bodies_at nums = length-drop (bodies_at nums) nums in
      omega (arith, h, rel.inside, spans.start, spans.pairs)

  pub word_some : {ws ws' : List ℕ} {d : ℕ} → (span.pairs ≡ 0 → ⊥) → Put (Body span.start span.pairs) ws d ws'
      → Lays (rank_of nums) bodies (worded nums i j) ws d ws' (d + 1)
  word_some {ws} {ws'} {d} z p =
      record {
        most = omega arith;
        lays = λ ps l.
            record {
              slots = Body span.start span.pairs ∷ l.slots;
              held = held-put l.held p;
              standing = (record { some = omega (arith, z); within = inside }, l.standing);
              means =
                  ap₂ (λ (s : List ℕ) (x : List Piece). string s ∷ x) read l.means
                  ∙ sym (unread-some (stretch_of nums i j) ps (λ e. z (omega (arith, long, e))));
            };
      }
