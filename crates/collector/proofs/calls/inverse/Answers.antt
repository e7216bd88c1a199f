-- `inverse`: what `invert` finds is the definition's, and closing hands it out (proofs/Finished).
use Rattle.std.proofs.Common.{◌/◌, length, sym, arith}
use Rattle.layout.specs.Header.{rank_of}
use Rattle.collector.specs.Calls.{inverting}
use Rattle.collector.proofs.Judging.{vector-normal}
use Rattle.collector.proofs.Finished.{inverting-refuses, closes}
use Rattle.collector.proofs.Calling.{accepted-first, go-first, leaves-as}
use Rattle.collector.proofs.calls.inverse.Goals as goal

pub invert-answer-requires-clause-normal : goal.invert-answer-requires-clause-normal
invert-answer-requires-clause-normal c =
    let accepts = accepted-first c.args.numbers.now c.args.vector.now (sym c.in_ok-group.ensures.number) in
    rw (c.in_ok-group.ensures.same, c.copy_from_slice.ensures.after) (vector-normal c.args.numbers.now c.args.vector.now accepts.vector-right)

pub returns : goal.returns
returns c =
    let nums = c.args.numbers.now in
    let v = c.args.vector.now in
    let ws = c.args.work.now in
    let budget = c.args.budget in
    let accepts = accepted-first nums v (sym c.in_ok-group.ensures.number) in
    let o = inverting nums budget (length ws / 3) (rank_of nums) 1 v 0 in
    let found = rw (c.in_ok-group.ensures.same, c.copy_from_slice.ensures.after) at c.invert-answer.ensures in
    leaves-as (go-first nums v ws _ accepts)
    (closes o v c.invert-answer.new.found ws c.invert-answer.new.work
    (inverting-refuses nums accepts.accepts budget (length ws / 3) (rank_of nums) 1 v 0 (omega arith) (omega arith)
    (vector-normal nums v accepts.vector-right) (omega arith))
    found.tells found.kept c.close.ensures.work_after c.close.ensures.vector_after)
