-- `search_singles` meets its contract: an overlap that settles nothing leaves the rest to decide (`seek-next`), and one that settles the verdict settles
-- it for all of them (`seek-found`; proofs/Seeking).
use Rattle.std.proofs.Common.{[], ◌∷◌, ◌+◌, rules, arith}
use Rattle.theory.specs.Overlaps.{single}
use Rattle.layout.specs.Header.{rank_of}
use Rattle.consistency.proofs.Seeking.{from_all, from_step, from_end, seek-start, seek-as, seek-end, seek-found, seek-next}
use Rattle.consistency.proofs.searching.search_singles.Goals as goal

pub search-init : goal.search-init
search-init c =
    record {
      seeks =
          seek-start (from_all (rank_of c.args.group.numbers.now) (λ x. single x ∷ []));
      some = omega arith;
    }

pub search-preserved : goal.search-preserved
search-preserved c =
    let n = rank_of c.args.group.numbers.now in
    record {
      seeks =
          seek-next (seek-as (from_step n (λ x. single x ∷ []) c.search.i (omega arith)) c.search.invariant.seeks) c.search.auto.work
          c.judge_overlap-found.ensures (search rules);
      some = omega arith;
    }

pub returns-then-is_err : goal.returns-then-is_err
returns-then-is_err c =
    let n = rank_of c.args.group.numbers.now in
    seek-found (seek-as (from_step n (λ x. single x ∷ []) c.search.i (omega arith)) c.search.invariant.seeks) c.search.auto.work
    c.judge_overlap-found.ensures (search rules)

pub returns-else-is_err : goal.returns-else-is_err
returns-else-is_err c =
    let n = rank_of c.args.group.numbers.now in
    let i = c.search.i in
    seek-end
    (seek-as (from_end n (λ x. single x ∷ []) (i + 1) (omega arith))
    (seek-next (seek-as (from_step n (λ x. single x ∷ []) i (omega arith)) c.search.invariant.seeks) c.search.auto.work
    c.judge_overlap-found.ensures (search rules)))
