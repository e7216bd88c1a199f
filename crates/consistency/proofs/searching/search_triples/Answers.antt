-- `search_triples` meets its contract: a row is opened at each loop's start (`open_row`, `open-inner`) and left behind its last triple (`row-over`); an
-- overlap that settles nothing leaves the rest to decide (`seek-next`), and one that settles the verdict settles it for all of them (`seek-found`;
-- proofs/Seeking).
use Rattle.std.proofs.Common.{[], ◌∷◌, ◌++◌, ◌+◌, ◌∙◌, rules, arith}
use Rattle.theory.specs.Overlaps.{triple}
use Rattle.layout.specs.Header.{rank_of}
use Rattle.consistency.proofs.Seeking.{from, rows, from_all, open_row, open-inner, open-item, row-over, seek-start, seek-as, seek-next, seek-found}
use Rattle.consistency.proofs.searching.search_triples.Goals as goal
use Rattle.consistency.proofs.searching.search_triples.Goals.{else-loop-j-test, then-loop-j-test+else-j-n, else-loop-k-test, then-loop-k-test+else-is_err+else-k-n}

pub search-init : goal.search-init
search-init c =
    let n = rank_of c.args.group.numbers.now in
    record {
      seeks = seek-start (from_all n (rows n (λ x. rows n (λ y z. triple x y z ∷ []))));
      some = omega arith;
    }

pub loop-j-init : goal.loop-j-init
loop-j-init c =
    let n = rank_of c.args.group.numbers.now in
    record {
      seeks = seek-as (open_row n (λ x. rows n (λ y z. triple x y z ∷ [])) c.search.i (omega arith)) c.search.invariant.seeks;
      some = omega arith;
      above = omega arith;
    }

pub loop-k-init : goal.loop-k-init
loop-k-init c =
    let n = rank_of c.args.group.numbers.now in
    let i = c.search.i in
    record {
      seeks =
          seek-as (open-inner n (λ y z. triple i y z ∷ []) c.loop-j.j (from n (i + 1) (rows n (λ x. rows n (λ y z. triple x y z ∷ [])))) (omega arith))
          c.loop-j.invariant.seeks;
      some = omega arith;
      above = omega arith;
      beyond = omega arith;
    }

pub loop-k-preserved : goal.loop-k-preserved
loop-k-preserved c =
    let n = rank_of c.args.group.numbers.now in
    let i = c.search.i in
    let j = c.loop-j.j in
    let after = from n (j + 1) (rows n (λ y z. triple i y z ∷ [])) ++ from n (i + 1) (rows n (λ x. rows n (λ y z. triple x y z ∷ []))) in
    record {
      seeks =
          seek-next (seek-as (open-item n (λ z. triple i j z) c.loop-k.k after (omega arith)) c.loop-k.invariant.seeks)
          (c.loop-k.auto.work ∙ c.loop-j.auto.work ∙ c.search.auto.work) c.judge_overlap-found.ensures (search rules);
      some = omega arith;
      above = omega arith;
      beyond = omega arith;
    }

pub loop-j-preserved : goal.loop-j-preserved
loop-j-preserved c =
    let n = rank_of c.args.group.numbers.now in
    let i = c.search.i in
    let j = c.loop-j.j in
    let k = c.loop-k.k in
    let after = from n (j + 1) (rows n (λ y z. triple i y z ∷ [])) ++ from n (i + 1) (rows n (λ x. rows n (λ y z. triple x y z ∷ []))) in
    record {
      seeks =
          elim c.loop-k-test.branch [
            | else-loop-k-test w ↦
                rw w.found-is (seek-as (row-over n (λ z. triple i j z ∷ []) k after (omega arith)) c.loop-k.invariant.seeks)
            | then-loop-k-test+else-is_err+else-k-n w ↦
                rw w.found-is
                (seek-as (row-over n (λ z. triple i j z ∷ []) (k + 1) after (omega arith))
                (seek-next (seek-as (open-item n (λ z. triple i j z) k after (omega arith)) c.loop-k.invariant.seeks)
                (c.loop-k.auto.work ∙ c.loop-j.auto.work ∙ c.search.auto.work) w.judge_overlap-found.ensures (search rules)))
          ];
      some = omega arith;
      above = omega arith;
    }

pub search-preserved : goal.search-preserved
search-preserved c =
    let n = rank_of c.args.group.numbers.now in
    let i = c.search.i in
    let j = c.loop-j.j in
    let after = from n (i + 1) (rows n (λ x. rows n (λ y z. triple x y z ∷ []))) in
    record {
      seeks =
          elim c.loop-j-test.branch [
            | else-loop-j-test w ↦
                rw w.found-is (seek-as (row-over n (rows n (λ y z. triple i y z ∷ [])) j after (omega arith)) c.loop-j.invariant.seeks)
            | then-loop-j-test+else-j-n w ↦
                elim w.loop-k-test.branch [
                  | else-loop-k-test v ↦
                      rw w.found-is
                      (rw v.found-is
                      (seek-as
                      (row-over n (λ z. triple i j z ∷ []) w.loop-k.k (from n (j + 1) (rows n (λ y z. triple i y z ∷ [])) ++ after) (omega arith)
                      ∙ row-over n (rows n (λ y z. triple i y z ∷ [])) (j + 1) after (omega arith))
                      w.loop-k.invariant.seeks))
                  | then-loop-k-test+else-is_err+else-k-n v ↦ absurd (omega arith)
                ]
          ];
      some = omega arith;
    }

pub returns-then-is_err : goal.returns-then-is_err
returns-then-is_err c =
    let n = rank_of c.args.group.numbers.now in
    let i = c.search.i in
    let j = c.loop-j.j in
    let after = from n (j + 1) (rows n (λ y z. triple i y z ∷ [])) ++ from n (i + 1) (rows n (λ x. rows n (λ y z. triple x y z ∷ []))) in
    seek-found (seek-as (open-item n (λ z. triple i j z) c.loop-k.k after (omega arith)) c.loop-k.invariant.seeks)
    (c.loop-k.auto.work ∙ c.loop-j.auto.work ∙ c.search.auto.work) c.judge_overlap-found.ensures (search rules)
