-- Bringing the workspace to hold a stack, step by step: what storing, or not storing, one slot brings about.
use mathlib.Core.Path.{◌≡◌, refl, sym, ap, ◌∙◌}
use mathlib.Core.List.{List}
use Prim.Native.Nat.{ℕ, suc, ◌+◌, ◌*◌, ◌≤◌, ◌<◌}
use native.Mathlib.Omega.{arith}
use native.Mathlib.Numerals.{add-one}
use lib.ListN.{length}
use lib.Dec.{ltb}
use Rattle.slots.specs.declared.Slot.{Slot}
use Rattle.slots.specs.Slots.{stack, Pushed, Brought, on_top}
use Rattle.slots.proofs.Stores.{length-stack}
use Rattle.slots.proofs.OnTop.{put, not-put}

-- A slot x that is put on the d slots of ws if m < e.
module _ (m e : ℕ) (x : Slot) (ws : List ℕ) (d : ℕ) where
  pub brought-none : e ≤ m → Brought (on_top (ltb m e) x (stack ws d)) ws ws d
  brought-none h =
      let same : on_top (ltb m e) x (stack ws d) ≡ stack ws d = not-put m e x (stack ws d) h in
      record { kept = refl; depth = sym (ap (length {A = Slot}) same ∙ length-stack ws d); stacked = λ room. sym same }

  more : m < e → d + 1 ≡ length (on_top (ltb m e) x (stack ws d))
  more h = add-one d ∙ sym (ap (length {A = Slot}) (put m e x (stack ws d) h) ∙ ap suc (length-stack ws d))

  pub brought-full : m < e → length ws < 3 * (d + 1) → Brought (on_top (ltb m e) x (stack ws d)) ws ws (d + 1)
  brought-full h full = record { kept = refl; depth = more h; stacked = λ room. absurd (omega arith) }

  pub brought-put : m < e → {ws' : List ℕ} → Pushed x ws d ws' → Brought (on_top (ltb m e) x (stack ws d)) ws ws' (d + 1)
  brought-put h p =
      record { kept = p.kept; depth = more h; stacked = λ room. p.stacked ∙ sym (put m e x (stack ws d) h) }

-- What lessening a power brings about, whichever way it goes.
pub ruleset lessens = (brought-none, brought-full, brought-put)

-- The same stack, brought about from a workspace of the same length.
pub brought-from
    : {xs ys : List Slot} {ws ws₁ ws' : List ℕ} {r : ℕ} → xs ≡ ys → length ws₁ ≡ length ws → Brought xs ws₁ ws' r
    → Brought ys ws ws' r
brought-from e l b =
    record {
      kept = b.kept ∙ l;
      depth = b.depth ∙ ap (length {A = Slot}) e;
      stacked = λ room. b.stacked (omega arith) ∙ e;
    }
