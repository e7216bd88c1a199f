-- The slots of one entry: how they are brought about, and what they stand for.
--
-- Main results: `depth_copies`, `entry-power`, `exchange-more`, `exchange-grows`, `exchange-zeros`.
use mathlib.Core.Path.{◌≡◌, refl, sym, ap, ◌∙◌}
use mathlib.Core.List.{List, ◌∷◌}
use mathlib.Core.Bool.{Bool, true, false}
use Prim.Native.Nat.{ℕ, zero, suc, ◌+◌, ◌-◌, ◌*◌, ◌≤◌, ◌<◌}
use native.Mathlib.Omega.{arith}
use native.Mathlib.Numerals.{add-one}
use lib.ListN.{length, get_or, drop, drop_of_length-le}
use lib.Seq.{drop-cons}
use lib.Dec.{eqb}
use borrow.Author.Tests.{eq-eqb}
use Rattle.theory.specs.Presentation.{Vector}
use Rattle.theory.specs.Placing.{total}
use Rattle.layout.specs.declared.Generator.{Generator}
use Rattle.layout.specs.declared.Span.{Span}
use Rattle.layout.specs.Header.{rank_of, bodies_at, entries}
use Rattle.layout.specs.Contents.{Spans, Measured, start_of, length_of, row_at, entry_at, body_at}
use Rattle.layout.proofs.Stretches.{stretch-fits}
use Rattle.slots.specs.declared.Slot.{Slot}
use Rattle.slots.specs.declared.Slot.TheVariants.{Relation}
use Rattle.slots.specs.Slots.{stack, Brought, power_of}
use Rattle.slots.proofs.Stores.{length-stack}
use Rattle.slots.proofs.Brings.{brought-from}
use Rattle.placing.specs.Exchange.{copies_of, entry_slots, span_of, exchange_slots}
use Rattle.placing.proofs.Tails.{total-zeros}

pub length-copies : (b : ℕ) (x : Slot) (g : Generator) (below : List Slot) → length (copies_of b x g below) ≡ length below + 2 * b
length-copies zero x g below = omega arith
length-copies (suc b) x g below =
    let h : length (copies_of b x g below) ≡ length below + 2 * b = length-copies b x g below in omega arith

-- What b copies come to, on the d slots of ws.
pub depth_copies : (b : ℕ) (x : Slot) (g : Generator) (ws : List ℕ) (d : ℕ) → d + 2 * b ≡ length (copies_of b x g (stack ws d))
depth_copies b x g ws d =
    let l : length (stack ws d) ≡ d = length-stack ws d in
    let h : length (copies_of b x g (stack ws d)) ≡ length (stack ws d) + 2 * b = length-copies b x g (stack ws d) in
    omega arith

-- The slots of an entry b, by its cases.
module _ (span : Span) (g : Generator) (below : List Slot) where
  pub entry-power : (b : ℕ) → (b ≡ 0 → ⊥) → span.pairs ≡ 0 → entry_slots span g b below ≡ power_of g b ∷ below
  entry-power zero h k = absurd (h refl)
  entry-power (suc b) h k = rw (eq-eqb span.pairs 0 k, entry_slots)

  pub entry-none : (b : ℕ) → b ≡ 0 → entry_slots span g b below ≡ below
  entry-none b h = ap (λ (k : ℕ). entry_slots span g k below) h

  -- It adds at most two slots for each of the b, and takes none away.
  entry-size : (b : ℕ) → (length below ≤ length (entry_slots span g b below)) × (length (entry_slots span g b below) ≤ length below + 2 * b)
  entry-size zero = (omega arith, omega arith)
  entry-size (suc b) = go (eqb span.pairs 0) refl
    where
      go : (t : Bool) → eqb span.pairs 0 ≡ t
          → (length below ≤ length (entry_slots span g (suc b) below)) × (length (entry_slots span g (suc b) below) ≤ length below + 2 * suc b)
      go true e = rw (e, entry_slots) (omega arith, omega arith)
      go false e =
          let l = length-copies (suc b) (Relation span.start span.pairs) g below in
          rw (e, entry_slots) (omega (arith, l), omega (arith, l))

  pub entry-grows : (b : ℕ) → length below ≤ length (entry_slots span g b below)
  entry-grows b = (entry-size b).0

  pub entry-small : (b : ℕ) → length (entry_slots span g b below) ≤ length below + 2 * b
  entry-small b = (entry-size b).1

pub span-is : {nums : List ℕ} {e : ℕ} {span : Span} → Spans nums e span → span ≡ span_of nums e
span-is s = λ i. record { start = s.start i; pairs = s.pairs i }

-- A start is at most the number of pairs.
pub start_small : (nums : List ℕ) (e : ℕ) → Measured nums → length nums ≤ bodies_at nums + 2 * 10660 → e < entries (rank_of nums)
    → start_of nums e ≤ 10660
start_small nums e m h l = let f : body_at nums e + 2 * length_of nums e ≤ length nums = stretch-fits nums e m l in omega arith

-- One entry more, from the last down.
module _ (nums : List ℕ) (i : ℕ) (v : Vector) (below : List Slot) where
  pub exchange-more : (at : ℕ) → at < length v
      → exchange_slots nums i (at + 1) (drop at v) below
      ≡ entry_slots (span_of nums (entry_at (rank_of nums) i (at + 1))) (record { 0 = at + 1 }) (get_or v at 0)
      (exchange_slots nums i (at + 1 + 1) (drop (at + 1) v) below)
  exchange-more at h =
      ap (λ (l : Vector). exchange_slots nums i (at + 1) l below) (drop-cons v at 0 h)
      ∙ ap (λ (k : ℕ).
      entry_slots (span_of nums (entry_at (rank_of nums) i (at + 1))) (record { 0 = at + 1 }) (get_or v at 0)
      (exchange_slots nums i (suc (at + 1)) (drop k v) below)) (sym (add-one at))
      ∙ ap (λ (k : ℕ).
      entry_slots (span_of nums (entry_at (rank_of nums) i (at + 1))) (record { 0 = at + 1 }) (get_or v at 0)
      (exchange_slots nums i k (drop (at + 1) v) below)) (sym (add-one (at + 1)))

  pub exchange-none : (at : ℕ) → length v ≤ at → exchange_slots nums i (at + 1) (drop at v) below ≡ below
  exchange-none at h = ap (λ (l : Vector). exchange_slots nums i (at + 1) l below) (drop_of_length-le v h)

  -- Each entry only adds slots.
  pub exchange-grows : (k at : ℕ) → at + k ≤ length v
      → length (exchange_slots nums i (at + k + 1) (drop (at + k) v) below) ≤ length (exchange_slots nums i (at + 1) (drop at v) below)
  exchange-grows zero at h =
      let z : at + 0 ≡ at = omega arith in
      let e : length (exchange_slots nums i (at + 0 + 1) (drop (at + 0) v) below) ≡ length (exchange_slots nums i (at + 1) (drop at v) below) =
      ap (λ (x : ℕ). length (exchange_slots nums i (x + 1) (drop x v) below)) z in
      omega arith
  exchange-grows (suc k) at h =
      let z : at + 1 + k ≡ at + suc k = omega arith in
      let e : length (exchange_slots nums i (at + 1 + k + 1) (drop (at + 1 + k) v) below)
      ≡ length (exchange_slots nums i (at + suc k + 1) (drop (at + suc k) v) below) =
      ap (λ (x : ℕ). length (exchange_slots nums i (x + 1) (drop x v) below)) z in
      let r = exchange-grows k (at + 1) (omega arith) in
      let s = ap length (exchange-more at (omega arith)) in
      let t = entry-grows (span_of nums (entry_at (rank_of nums) i (at + 1))) (record { 0 = at + 1 })
      (exchange_slots nums i (at + 1 + 1) (drop (at + 1) v) below) (get_or v at 0) in
      omega (arith, e, r, s, t)

  -- Entries 0 put nothing.
  pub exchange-zeros : (k at : ℕ) → at + k ≤ length v → total (drop at v) ≡ total (drop (at + k) v)
      → exchange_slots nums i (at + k + 1) (drop (at + k) v) below ≡ exchange_slots nums i (at + 1) (drop at v) below
  exchange-zeros zero at h t = let z : at + 0 ≡ at = omega arith in ap (λ (x : ℕ). exchange_slots nums i (x + 1) (drop x v) below) z
  exchange-zeros (suc k) at h t =
      let z : at + suc k ≡ at + 1 + k = omega arith in
      let r = total-zeros v k at h t in
      ap (λ (x : ℕ). exchange_slots nums i (x + 1) (drop x v) below) z
      ∙ exchange-zeros k (at + 1) (omega arith) r.1
      ∙ sym (exchange-more at (omega arith) ∙ entry-none _ _ _ (get_or v at 0) r.0)

  -- A turn of the loop that exchanges the entries: the entries from at on are exchanged, and the one before them is next.
  module _ (at : ℕ) (above : i < at) (within : at ≤ length v) where
    next-entry
        : exchange_slots nums i (at - 1 + 1) (drop (at - 1) v) below
        ≡ entry_slots (span_of nums (row_at (rank_of nums) i + (at - 1 - i))) (record { 0 = at - 1 + 1 }) (get_or v (at - 1) 0)
        (exchange_slots nums i (at + 1) (drop at v) below)
    next-entry =
        let e : at - 1 + 1 ≡ at = omega arith in
        let f : entry_at (rank_of nums) i (at - 1 + 1) ≡ row_at (rank_of nums) i + (at - 1 - i) = omega arith in
        exchange-more (at - 1) (omega arith)
        ∙ ap (λ (k : ℕ).
        entry_slots (span_of nums (entry_at (rank_of nums) i (at - 1 + 1))) (record { 0 = at - 1 + 1 }) (get_or v (at - 1) 0)
        (exchange_slots nums i (k + 1) (drop k v) below)) e
        ∙ ap (λ (k : ℕ).
        entry_slots (span_of nums k) (record { 0 = at - 1 + 1 }) (get_or v (at - 1) 0) (exchange_slots nums i (at + 1) (drop at v) below)) f

    -- An entry 0 puts nothing.
    pub turn-none : {l : List Slot} → l ≡ exchange_slots nums i (at + 1) (drop at v) below → get_or v (at - 1) 0 ≡ 0
        → l ≡ exchange_slots nums i (at - 1 + 1) (drop (at - 1) v) below
    turn-none e z = e ∙ sym (next-entry ∙ entry-none _ _ _ (get_or v (at - 1) 0) z)

    -- Another entry puts its slots.
    pub turn-put
        : (d row : ℕ) {ws ws' : List ℕ} {r : ℕ} {span : Span} → stack ws d ≡ exchange_slots nums i (at + 1) (drop at v) below
        → row ≡ row_at (rank_of nums) i → Spans nums (row + (at - 1 - i)) span
        → Brought (entry_slots span (record { 0 = at - 1 + 1 }) (get_or v (at - 1) 0) (stack ws d)) ws ws' r
        → Brought (exchange_slots nums i (at - 1 + 1) (drop (at - 1) v) below) ws ws' r
    turn-put d row {ws} {ws'} {r} {span} e f s b =
        let g : Generator = record { 0 = at - 1 + 1 } in
        brought-from
        (ap (λ (x : Span). entry_slots x g (get_or v (at - 1) 0) (stack ws d)) (span-is s ∙ ap (λ (x : ℕ). span_of nums (x + (at - 1 - i))) f)
        ∙ ap (λ (l : List Slot). entry_slots (span_of nums (row_at (rank_of nums) i + (at - 1 - i))) g (get_or v (at - 1) 0) l) e
        ∙ sym next-entry)
        refl b

    -- Where there is no room for what is put so far, there is none for all.
    pub turn-over : (r room : ℕ) → r ≡ length (exchange_slots nums i (at - 1 + 1) (drop (at - 1) v) below) → room < 3 * r
        → room < 3 * length (exchange_slots nums i (i + 1) (drop i v) below)
    turn-over r room e h =
        let z : i + (at - 1 - i) ≡ at - 1 = omega arith in
        let t : length (exchange_slots nums i (i + (at - 1 - i) + 1) (drop (i + (at - 1 - i)) v) below)
        ≡ length (exchange_slots nums i (at - 1 + 1) (drop (at - 1) v) below) =
        ap (λ (x : ℕ). length (exchange_slots nums i (x + 1) (drop x v) below)) z in
        omega (arith, exchange-grows (at - 1 - i) i (omega arith), t)
