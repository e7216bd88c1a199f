-- `put_word` meets its contract: an empty relation word is not put, and any other is put as one string, whose start is small enough for a slot (proofs/Laying).
use Rattle.consistency.proofs.Laying.{start_small, word_some}
use Rattle.consistency.proofs.sides.put_word.Goals as goal

pub put-requires : goal.put-requires
put-requires c =
    let s = c.span_of-span in (
      c.requires.depth_bound,
      rw c.from.ensures (start_small c.args.group.numbers.now c.args.group.accepts c.args.i.0 c.args.j.0 c.requires.le_i s.result s.ensures),
    )

pub returns : goal.returns
returns c =
    let s = c.span_of-span in
    word_some c.args.group.numbers.now c.args.group.accepts c.args.i.0 c.args.j.0 c.requires.le_i s.result s.ensures c.if-span-eq0.false
    (rw c.from.ensures at c.put.ensures)
