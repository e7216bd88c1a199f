-- The number that a pass prints is the number of document 01's overlaps, at every rank that is accepted: one computed table over
-- the ranks up to 40.
--
-- Main law: `overlaps-counted`.
use Rattle.std.proofs.Common.{◌≡◌, refl, sym, ap, ◌∙◌, ℕ, ◌≤◌, List, map, length, get_or, arith}
use Rattle.std.specs.List.{range_with_len}
use Rattle.std.proofs.lemmas.List.FromFn.{get_or-map-range_with_len}
use Rattle.theory.specs.Overlaps.{overlaps}
use Rattle.line.specs.Line.{overlaps_of}

table : map (λ (n : ℕ). length (overlaps n)) (range_with_len 0 41) ≡ map overlaps_of (range_with_len 0 41)
table = refl

pub overlaps-counted : (n : ℕ) → n ≤ 40 → length (overlaps n) ≡ overlaps_of n
overlaps-counted n h =
    sym (get_or-map-range_with_len (λ (n : ℕ). length (overlaps n)) 0 41 n n 0 (omega arith) (omega arith))
    ∙ ap (λ (l : List ℕ). get_or l n 0) table
    ∙ get_or-map-range_with_len overlaps_of 0 41 n n 0 (omega arith) (omega arith)
