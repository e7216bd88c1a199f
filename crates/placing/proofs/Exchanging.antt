-- Step 2 of a placing, from the last entry down: what its loop keeps.
--
-- Main results: `met_start`, `met_zero`, `met_put`, `met_over`, `met_filled`, `met_all`: the turns of the loop and its ends.
use mathlib.Core.Path.{◌≡◌, refl, sym, ap, ◌∙◌, subst}
use mathlib.Core.List.{List}
use Prim.Native.Nat.{ℕ, zero, suc, ◌+◌, ◌-◌, ◌*◌, ◌≤◌, ◌<◌}
use native.Mathlib.Omega.{arith}
use native.Mathlib.Numerals.{add-one}
use lib.ListN.{length, get_or, set, drop}
use Rattle.theory.specs.Presentation.{Vector}
use Rattle.theory.specs.Placing.{total}
use Rattle.layout.specs.declared.Generator.{Generator}
use Rattle.layout.specs.declared.Span.{Span}
use Rattle.layout.specs.declared.View.{View}
use Rattle.layout.specs.Header.{Seen, rank_of, bodies_at, entries}
use Rattle.layout.specs.Contents.{Spans, Measured, row_at}
use Rattle.layout.proofs.Rows.{in_row}
use Rattle.slots.specs.declared.Slot.{Slot}
use Rattle.slots.specs.Slots.{stack, Brought}
use Rattle.slots.proofs.Stores.{length-stack}
use Rattle.placing.specs.Exchange.{entry_slots, exchange_slots, cleared, Filled}
use Rattle.placing.proofs.Tails.{total-from, total-none, total-part}
use Rattle.placing.proofs.Clearing.{cleared-none, cleared-entry, cleared-next, cleared-zero, cleared-zeros}
use Rattle.placing.proofs.Copies.{start_small, entry-small, exchange-none, exchange-zeros, turn-none, turn-put, turn-over}

-- The entries of v from the index `at` on are met: `u` is the vector then, `left` what the entries between i and `at` sum to, and the d
-- slots of ws are those of the entries that are met, on the slots below.
pub record Met (nums : List ℕ) (i : ℕ) (v : Vector) (below : List Slot) (at left : ℕ) (u : Vector) (ws : List ℕ) (d : ℕ) : Type 0 where
  pub above : i ≤ at
  pub within : at ≤ length v
  pub sum : left + total (drop at v) ≡ total (drop i v)
  pub vector : u ≡ cleared at v
  pub slots : stack ws d ≡ exchange_slots nums i (at + 1) (drop at v) below
  pub fits : 3 * d ≤ length ws

-- Before the first turn no entry is met.
pub met_start : (nums : List ℕ) (i : ℕ) (v : Vector) (ws : List ℕ) (d : ℕ) → i ≤ length v → 3 * d ≤ length ws
    → Met nums i v (stack ws d) (length v) (total (drop i v)) v ws d
met_start nums i v ws d h f =
    record {
      above = h;
      within = omega arith;
      sum = omega (arith, total-none v (length v) (omega arith));
      vector = cleared-none v (length v) (omega arith);
      slots = sym (exchange-none nums i v (stack ws d) (length v) (omega arith));
      fits = f;
    }

module _ {nums : List ℕ} {i : ℕ} {v : Vector} {below : List Slot} {at left : ℕ} {u : Vector} {ws : List ℕ} {d : ℕ}
    (met : Met nums i v below at left u ws d) where
  -- Something is left, so there is an entry before those that are met; `low` is i, as the code has it.
  pub met_more : {low : ℕ} → low ≡ i → (left ≡ 0 → ⊥) → low < at
  met_more {low} low_is some = go (at - i) refl
    where
      go : (k : ℕ) → at - i ≡ k → low < at
      go zero e =
          let s : at ≡ i = omega (arith, e, met.above) in
          let t : total (drop at v) ≡ total (drop i v) = ap (λ (x : ℕ). total (drop x v)) s in
          absurd (some (omega (arith, t, met.sum)))
      go (suc k) e = omega (arith, e, low_is)

  module _ {low : ℕ} (low_is : low ≡ i) (more : low < at) where
    met-entry : get_or u (at - 1) 0 ≡ get_or v (at - 1) 0
    met-entry = ap (λ (x : Vector). get_or x (at - 1) 0) met.vector ∙ cleared-entry v at (omega (arith, more)) met.within

    met-total : total (drop (at - 1) v) ≡ get_or u (at - 1) 0 + total (drop at v)
    met-total =
        let e : at - 1 + 1 ≡ at = omega (arith, more) in
        total-from v (at - 1) (omega (arith, more, met.within))
        ∙ ap (λ (x : ℕ). get_or v (at - 1) 0 + total (drop x v)) e
        ∙ ap (λ (x : ℕ). x + total (drop at v)) (sym met-entry)

    -- It is part of what is left.
    pub met_part : get_or u (at - 1) 0 ≤ left
    met_part =
        let e : i + (at - 1 - i) ≡ at - 1 = omega (arith, low_is, more) in
        let s = ap (λ (x : ℕ). total (drop x v)) e in
        omega (arith, s, met-total, met.sum, total-part v (at - 1 - i) i (omega (arith, low_is, more, met.within)))

    -- An entry 0 puts nothing.
    pub met_zero : get_or u (at - 1) 0 ≡ 0 → Met nums i v below (at - 1) left u ws d
    met_zero z =
        record {
          above = omega (arith, low_is, more);
          within = omega (arith, met.within);
          sum = omega (arith, z, met-total, met.sum);
          vector = met.vector ∙ cleared-zero v at (omega (arith, more)) met.within (sym met-entry ∙ z);
          slots = turn-none nums i v below at (omega (arith, low_is, more)) met.within met.slots (sym met-entry ∙ z);
          fits = met.fits;
        }

    -- Another one has its place in row i of the contents ..
    module _ (measured : Measured nums) (long : length v ≡ rank_of nums) where
      pub met_generator : at - 1 + 1 ≤ 40
      met_generator = omega (arith, more, met.within, long, measured.most)

      module _ {view : View} (seen : Seen nums view) {row : ℕ} (row_is : row ≡ row_at view.rank.0 i) where
        pub met_listed : row + (at - 1 - low) < entries (rank_of nums)
        met_listed =
            let e = row_is ∙ ap (λ (x : ℕ). row_at x i) seen.rank in
            let h = in_row (rank_of nums) i (at - 1 - i) measured.most (omega (arith, low_is, more, met.within, long))
            (omega (arith, low_is, more, met.within, long)) in
            omega (arith, e, h, low_is)

        -- .. where what is put for it starts, ..
        module _ (few : length nums ≤ bodies_at nums + 2 * 10660) {span : Span} (spans : Spans nums (row + (at - 1 - low)) span) where
          pub met_from : span.start ≤ 10660
          met_from = omega (arith, spans.start, start_small nums (row + (at - 1 - low)) measured few met_listed)

          -- .. and puts its slots.
          module _ {g : Generator} (named : g.0 ≡ at - 1 + 1) {r : ℕ} {ws' : List ℕ}
              (put : Brought (entry_slots span g (get_or u (at - 1) 0) (stack ws d)) ws ws' r) where
            named-is : g ≡ record { 0 = at - 1 + 1 }
            named-is = λ i. record { 0 = named i }

            turned : Brought (exchange_slots nums i (at - 1 + 1) (drop (at - 1) v) below) ws ws' r
            turned =
                turn-put nums i v below at (omega (arith, low_is, more)) met.within d row met.slots (row_is ∙ ap (λ (x : ℕ). row_at x i) seen.rank)
                (subst (λ (x : ℕ). Spans nums (row + (at - 1 - x)) span) low_is spans)
                (subst (λ (x : ℕ). Brought (entry_slots span (record { 0 = at - 1 + 1 }) x (stack ws d)) ws ws' r) met-entry
                (subst (λ (x : Generator). Brought (entry_slots span x (get_or u (at - 1) 0) (stack ws d)) ws ws' r) named-is put))

            -- They are at most two for each of at most 255.
            pub met_near : get_or u (at - 1) 0 < 256 → 3 * r ≤ length ws + 1530
            met_near small =
                let k = entry-small span g (stack ws d) (get_or u (at - 1) 0) in
                omega (arith, length-stack ws d, k, put.depth, small, met.fits)

            pub met_put : {x : ℕ} → x ≡ get_or u (at - 1) 0 → 3 * r ≤ length ws' → Met nums i v below (at - 1) (left - x) (set u (at - 1) 0) ws' r
            met_put e room =
                record {
                  above = omega (arith, low_is, more);
                  within = omega (arith, met.within);
                  sum = omega (arith, e, met_part, met-total, met.sum);
                  vector = ap (λ (x : Vector). set x (at - 1) 0) met.vector ∙ cleared-next v at (omega (arith, more)) met.within;
                  slots = turned.stacked (omega (arith, room, put.kept));
                  fits = room;
                }

            -- Where there is no room for them, there is none for all.
            pub met_over : {ws₀ : List ℕ} → length ws ≡ length ws₀ → get_or u (at - 1) 0 < 256 → length ws' < 3 * r
                → Filled (exchange_slots nums i (suc i) (drop i v) below) ws₀ ws' r
            met_over {ws₀} kept small full =
                let o = turn-over nums i v below at (omega (arith, low_is, more)) met.within r (length ws) turned.depth (omega (arith, full, put.kept)) in
                let one = ap (λ (x : ℕ). length (exchange_slots nums i x (drop i v) below)) (add-one i) in
                record {
                  kept = put.kept ∙ kept;
                  fits = λ room. absurd (omega (arith, room, full, put.kept, kept));
                  over = λ h. omega (arith, o, one, kept);
                  near = omega (arith, met_near small, kept);
                }

  -- Nothing is left: the entries that are not met are 0.
  module _ (none : left ≡ 0) where
    ends : (i + (at - i) ≡ at) × (total (drop i v) ≡ total (drop (i + (at - i)) v))
    ends =
        let e : i + (at - i) ≡ at = omega (arith, met.above) in
        let t = ap (λ (x : ℕ). total (drop x v)) e in
        (e, omega (arith, t, none, met.sum))

    pub met_all : u ≡ cleared i v
    met_all =
        met.vector
        ∙ ap (λ (x : ℕ). cleared x v) (sym ends.0)
        ∙ cleared-zeros v (at - i) i (omega (arith, met.above, met.within)) ends.1

    met-slots : stack ws d ≡ exchange_slots nums i (suc i) (drop i v) below
    met-slots =
        met.slots
        ∙ ap (λ (x : ℕ). exchange_slots nums i (x + 1) (drop x v) below) (sym ends.0)
        ∙ exchange-zeros nums i v below (at - i) i (omega (arith, met.above, met.within)) ends.1
        ∙ ap (λ (x : ℕ). exchange_slots nums i x (drop i v) below) (add-one i)

    pub met_filled : {ws₀ : List ℕ} → length ws ≡ length ws₀ → Filled (exchange_slots nums i (suc i) (drop i v) below) ws₀ ws d
    met_filled kept =
        record {
          kept = kept;
          fits = λ room. met-slots;
          over = λ full. absurd (omega (arith, full, kept, met.fits));
          near = omega (arith, kept, met.fits);
        }
