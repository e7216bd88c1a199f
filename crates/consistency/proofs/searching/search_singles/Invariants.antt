-- `search_singles` meets its contract. The invariant (`Seeking`, proofs/Seeking): nothing is settled yet, and the overlaps from x_i on are left to decide.
use Rattle.std.proofs.Common.{[], ◌∷◌, ◌≤◌, length}
use Rattle.theory.specs.Overlaps.{single}
use Rattle.layout.specs.Header.{rank_of}
use Rattle.consistency.specs.Check.{singles_of}
use Rattle.consistency.proofs.Seeking.{from, Seeking}
use Rattle.consistency.proofs.searching.search_singles.Given as goal

abbrev pub invariant-search : goal.invariant-search
invariant-search l =
    let nums = l.group.numbers.now in
    let n = rank_of nums in
    record {
      seeks : Seeking nums l.budget (length l.fn.work) (singles_of n) (from n l.i (λ x. single x ∷ [])) l.found;
      some : 1 ≤ l.i;
    }
