-- `bodies_right` judges every row. The loop's invariant: `first` is where row `i` begins, and the rows before it are right.
use Rattle.std.proofs.Common.{◌*◌, ◌≡◌, ◌≤◌, true}
use Rattle.layout.specs.Every.{every}
use Rattle.layout.specs.Header.{rank_of}
use Rattle.layout.specs.Contents.{row_at}
use Rattle.layout.specs.Bodies.{row_right}
use Rattle.layout.proofs.spanned.Spanned.bodies_right.Given as goal

abbrev pub invariant-loop-i : goal.invariant-loop-i
invariant-loop-i l =
    record {
      begins : l.first ≡ row_at (rank_of l.self.listed.numbers.now) l.i;
      small : l.first ≤ 40 * l.i;
      right : every (row_right l.self.listed.numbers.now) l.i ≡ true;
    }
