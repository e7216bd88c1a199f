-- `search_triples` meets its contract. The invariant of the innermost loop (`Seeking`, proofs/Seeking): nothing is settled yet, and left to decide are the
-- triples of x_i, x_j from x_k on, those of x_i after x_j, and those after x_i; of the outer loops, the same from x_j and from x_i on. The labelled break
-- leaves all three with what was found (`seek-found`).
use Rattle.std.proofs.Common.{[], ◌∷◌, ◌++◌, ◌+◌, ◌≤◌, ◌<◌, length}
use Rattle.theory.specs.Overlaps.{triple}
use Rattle.layout.specs.Header.{rank_of}
use Rattle.consistency.specs.Check.{triples_of}
use Rattle.consistency.proofs.Seeking.{from, rows, Seeking}
use Rattle.consistency.proofs.searching.search_triples.Given as goal

abbrev pub invariant-loop-k : goal.invariant-loop-k
invariant-loop-k l =
    let nums = l.group.numbers.now in
    let n = rank_of nums in
    record {
      seeks : Seeking nums l.budget (length l.fn.work) (triples_of n)
          (from n l.k (λ z. triple l.i l.j z ∷ [])
          ++ (from n (l.j + 1) (rows n (λ y z. triple l.i y z ∷ [])) ++ from n (l.i + 1) (rows n (λ x. rows n (λ y z. triple x y z ∷ [])))))
          l.found;
      some : 1 ≤ l.i;
      above : l.i < l.j;
      beyond : l.j < l.k;
    }

abbrev pub invariant-loop-j : goal.invariant-loop-j
invariant-loop-j l =
    let nums = l.group.numbers.now in
    let n = rank_of nums in
    record {
      seeks : Seeking nums l.budget (length l.fn.work) (triples_of n)
          (from n l.j (rows n (λ y z. triple l.i y z ∷ [])) ++ from n (l.i + 1) (rows n (λ x. rows n (λ y z. triple x y z ∷ [])))) l.found;
      some : 1 ≤ l.i;
      above : l.i < l.j;
    }

abbrev pub invariant-search : goal.invariant-search
invariant-search l =
    let nums = l.group.numbers.now in
    let n = rank_of nums in
    record {
      seeks : Seeking nums l.budget (length l.fn.work) (triples_of n) (from n l.i (rows n (λ x. rows n (λ y z. triple x y z ∷ [])))) l.found;
      some : 1 ≤ l.i;
    }
