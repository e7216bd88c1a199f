-- `judge_overlap` meets its contract: what the two sides come to (`outcome-done`, `outcome-refused`; proofs/Collecting), and a law of proofs/Comparing for
-- each way out.
use Rattle.std.proofs.Common.{◌/◌, length, Err, refl, sym, ap, ap₂, ◌∙◌}
use Rattle.layout.specs.Header.{rank_of}
use Rattle.layout.proofs.Accepted.{accepted}
use Rattle.collector.specs.Run.{Outcome}
use Rattle.consistency.specs.Sides.{right_pieces}
use Rattle.consistency.specs.Check.{overlap_of, side_outcome, judging, judgement}
use Rattle.consistency.proofs.Collecting.{outcome-done, outcome-refused, rest-zeros}
use Rattle.consistency.proofs.Comparing.{stopped, alike, apart}
use Rattle.consistency.proofs.judging.judge_overlap.Goals as goal

pub returns-in-Err : goal.returns-in-Err
returns-in-Err c =
    let nums = c.args.group.numbers.now in
    let size = length c.args.work.now in
    let o = overlap_of c.args.o in
    let left = outcome-refused nums c.args.budget size refl c.sides_of.ensures.left_value c.collect_side.ensures c.in-Err.refused c.in-Err.is in
    ap Err c.without_vectors.ensures
    ∙ stopped (rank_of nums) (accepted nums c.args.group.accepts).measured.most c.args.o (judgement nums c.args.budget (size / 3) o) c.in-Err.refused.refusal
    (ap (λ (x : Outcome). judging x (side_outcome nums c.args.budget (size / 3) (right_pieces nums o))) left)

pub returns-in-Err-collect_side : goal.returns-in-Err-collect_side
returns-in-Err-collect_side c =
    let nums = c.args.group.numbers.now in
    let size = length c.args.work.now in
    let why = c.in-Err-collect_side in
    let left = outcome-done nums c.args.budget size refl c.sides_of.ensures.left_value c.collect_side.ensures c.in_default.field-0 c.in_default.is in
    let right = outcome-refused nums c.args.budget size c.collect_side.auto.work c.sides_of.ensures.right_value c.collect_side-2.ensures why.refused why.is in
    ap Err c.without_vectors-in-Err-collect_side.ensures
    ∙ stopped (rank_of nums) (accepted nums c.args.group.accepts).measured.most c.args.o
    (judgement nums c.args.budget (size / 3) (overlap_of c.args.o)) why.refused.refusal (ap₂ judging left right)

pub returns-then-eq : goal.returns-then-eq
returns-then-eq c =
    let nums = c.args.group.numbers.now in
    let n = rank_of nums in
    let size = length c.args.work.now in
    let few = (accepted nums c.args.group.accepts).measured.most in
    let long = c.from-n.ensures ∙ c.args.group.seen.rank in
    let done = c.in_default-collect_side in
    let left = outcome-done nums c.args.budget size refl c.sides_of.ensures.left_value c.collect_side.ensures c.in_default.field-0 c.in_default.is in
    let right = outcome-done nums c.args.budget size c.collect_side.auto.work c.sides_of.ensures.right_value c.collect_side-2.ensures done.field-0 done.is in
    alike n few c.args.o (judgement nums c.args.budget (size / 3) (overlap_of c.args.o)) c.collect_side.new.vector c.collect_side-2.new.vector (ap₂ judging left right)
    (rest-zeros n c.from-n.result long few c.collect_side.new.vector) (rest-zeros n c.from-n.result long few c.collect_side-2.new.vector)
    (sym c.if-eq.true ∙ c.eq.ensures)

pub returns : goal.returns
returns c =
    let nums = c.args.group.numbers.now in
    let n = rank_of nums in
    let size = length c.args.work.now in
    let few = (accepted nums c.args.group.accepts).measured.most in
    let long = c.from-n.ensures ∙ c.args.group.seen.rank in
    let done = c.in_default-collect_side in
    let left = outcome-done nums c.args.budget size refl c.sides_of.ensures.left_value c.collect_side.ensures c.in_default.field-0 c.in_default.is in
    let right = outcome-done nums c.args.budget size c.collect_side.auto.work c.sides_of.ensures.right_value c.collect_side-2.ensures done.field-0 done.is in
    apart n few c.args.o (judgement nums c.args.budget (size / 3) (overlap_of c.args.o)) c.collect_side.new.vector c.collect_side-2.new.vector (ap₂ judging left right)
    (rest-zeros n c.from-n.result long few c.collect_side.new.vector) (rest-zeros n c.from-n.result long few c.collect_side-2.new.vector)
    (sym c.if-eq.false ∙ c.eq.ensures)
