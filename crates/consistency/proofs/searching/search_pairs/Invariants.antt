-- `search_pairs` meets its contract. The invariant of the inner loop (`Seeking`, proofs/Seeking): nothing is settled yet, and left to decide are the pairs
-- of x_i from x_j on and those of the generators after x_i; of the outer one, all pairs from x_i on. The labelled break leaves both with what was
-- found (`seek-found`).
use Rattle.std.proofs.Common.{[], ◌∷◌, ◌++◌, ◌+◌, ◌≤◌, ◌<◌, length}
use Rattle.layout.specs.Header.{rank_of}
use Rattle.consistency.specs.Check.{pair_of, pairs_of}
use Rattle.consistency.proofs.Seeking.{from, rows, Seeking}
use Rattle.consistency.proofs.searching.search_pairs.Given as goal

abbrev pub invariant-loop-j : goal.invariant-loop-j
invariant-loop-j l =
    let nums = l.group.numbers.now in
    let n = rank_of nums in
    record {
      seeks : Seeking nums l.budget (length l.fn.work) (pairs_of l.family n)
          (from n l.j (λ y. pair_of l.family l.i y ∷ []) ++ from n (l.i + 1) (rows n (λ x y. pair_of l.family x y ∷ []))) l.found;
      some : 1 ≤ l.i;
      above : l.i < l.j;
    }

abbrev pub invariant-search : goal.invariant-search
invariant-search l =
    let nums = l.group.numbers.now in
    let n = rank_of nums in
    record {
      seeks : Seeking nums l.budget (length l.fn.work) (pairs_of l.family n) (from n l.i (rows n (λ x y. pair_of l.family x y ∷ []))) l.found;
      some : 1 ≤ l.i;
    }
