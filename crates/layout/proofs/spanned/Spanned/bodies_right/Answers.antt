-- `bodies_right` judges every row: a row that is wrong settles it.
use Rattle.std.proofs.Common.{◌≡◌, false, arith, sym}
use Rattle.layout.specs.Header.{rank_of}
use Rattle.layout.specs.Bodies.{row_right}
use Rattle.layout.proofs.Every.{fail}
use Rattle.layout.proofs.spanned.Spanned.bodies_right.Goals as goal

pub returns-then-not-row_right : goal.returns-then-not-row_right
returns-then-not-row_right c =
    let t : row_right c.args.self.listed.numbers.now c.loop-i.i ≡ false = cc in
    sym (fail (row_right c.args.self.listed.numbers.now) (rank_of c.args.self.listed.numbers.now) c.loop-i.i (omega arith) t)
