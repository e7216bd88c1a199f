-- `row_of` is `row_at`. The loop's invariant: `row` is where row `a` begins.
use Rattle.std.proofs.Common.{◌*◌, ◌≡◌, ◌≤◌}
use Rattle.layout.specs.Contents.{row_at}
use Rattle.layout.proofs.contents.row_of.Given as goal

abbrev pub invariant-loop-a : goal.invariant-loop-a
invariant-loop-a l = record { begins : l.row ≡ row_at l.rank.0 l.a; small : l.row ≤ 65535 * l.a }
