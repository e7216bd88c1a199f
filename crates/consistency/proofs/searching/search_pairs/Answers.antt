-- `search_pairs` meets its contract: a row is opened (`open_row`) and left behind its last pair (`row-over`); an overlap that settles nothing leaves the rest
-- to decide (`seek-next`), and one that settles the verdict settles it for all of them (`seek-found`; proofs/Seeking).
use Rattle.std.proofs.Common.{[], ◌∷◌, ◌+◌, ◌∙◌, rules, arith}
use Rattle.layout.specs.Header.{rank_of}
use Rattle.consistency.specs.Check.{pair_of}
use Rattle.consistency.proofs.Seeking.{from, rows, from_all, open_row, open-item, row-over, seek-start, seek-as, seek-next, seek-found}
use Rattle.consistency.proofs.searching.search_pairs.Goals as goal
use Rattle.consistency.proofs.searching.search_pairs.Goals.{else-loop-j-test, then-loop-j-test+else-is_err+else-j-n}

pub search-init : goal.search-init
search-init c =
    let n = rank_of c.args.group.numbers.now in
    record {
      seeks = seek-start (from_all n (rows n (λ x y. pair_of c.args.family x y ∷ [])));
      some = omega arith;
    }

pub loop-j-init : goal.loop-j-init
loop-j-init c =
    let n = rank_of c.args.group.numbers.now in
    record {
      seeks = seek-as (open_row n (λ x y. pair_of c.args.family x y ∷ []) c.search.i (omega arith)) c.search.invariant.seeks;
      some = omega arith;
      above = omega arith;
    }

pub loop-j-preserved : goal.loop-j-preserved
loop-j-preserved c =
    let n = rank_of c.args.group.numbers.now in
    let f = c.args.family in
    let i = c.search.i in
    record {
      seeks =
          seek-next
          (seek-as (open-item n (λ y. pair_of f i y) c.loop-j.j (from n (i + 1) (rows n (λ x y. pair_of f x y ∷ []))) (omega arith)) c.loop-j.invariant.seeks)
          (c.loop-j.auto.work ∙ c.search.auto.work) c.judge_overlap-found.ensures (search rules);
      some = omega arith;
      above = omega arith;
    }

pub search-preserved : goal.search-preserved
search-preserved c =
    let n = rank_of c.args.group.numbers.now in
    let f = c.args.family in
    let i = c.search.i in
    let j = c.loop-j.j in
    let after = from n (i + 1) (rows n (λ x y. pair_of f x y ∷ [])) in
    record {
      seeks =
          elim c.loop-j-test.branch [
            | else-loop-j-test w ↦
                rw w.found-is (seek-as (row-over n (λ y. pair_of f i y ∷ []) j after (omega arith)) c.loop-j.invariant.seeks)
            | then-loop-j-test+else-is_err+else-j-n w ↦
                rw w.found-is
                (seek-as (row-over n (λ y. pair_of f i y ∷ []) (j + 1) after (omega arith))
                (seek-next (seek-as (open-item n (λ y. pair_of f i y) j after (omega arith)) c.loop-j.invariant.seeks) (c.loop-j.auto.work ∙ c.search.auto.work)
                w.judge_overlap-found.ensures (search rules)))
          ];
      some = omega arith;
    }

pub returns-then-is_err : goal.returns-then-is_err
returns-then-is_err c =
    let n = rank_of c.args.group.numbers.now in
    let f = c.args.family in
    let i = c.search.i in
    seek-found
    (seek-as (open-item n (λ y. pair_of f i y) c.loop-j.j (from n (i + 1) (rows n (λ x y. pair_of f x y ∷ []))) (omega arith)) c.loop-j.invariant.seeks)
    (c.loop-j.auto.work ∙ c.search.auto.work) c.judge_overlap-found.ensures (search rules)
