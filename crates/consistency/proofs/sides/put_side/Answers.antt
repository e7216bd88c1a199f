-- `put_side` meets its contract: the parts are put from the last one on, each over the slots of those behind it, so that the first part is on top.
use Rattle.std.proofs.Common.{[], drop}
use Rattle.layout.specs.Header.{rank_of, bodies_at}
use Rattle.consistency.proofs.Laying.{laid_none}
use Rattle.consistency.proofs.sides.put_side.Goals as goal

pub returns-clause-laid : goal.returns-clause-laid
returns-clause-laid c =
    let a = c.args in
    let n = rank_of a.group.numbers.now in
    let bodies = drop (bodies_at a.group.numbers.now) a.group.numbers.now in
    let right = c.requires in
    c.put_part.ensures.lays n bodies right.first _
    (c.put_part-second.ensures.lays n bodies right.second _
    (c.put_part-third.ensures.lays n bodies right.third _
    (c.put_word-word.ensures.lays _
    (c.put_part-last.ensures.lays n bodies right.last [] (laid_none n bodies a.work.now)))))
