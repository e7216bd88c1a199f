-- `row_right` judges every entry of its row. The loop's invariant: the entries so far are right.
use Rattle.std.proofs.Common.{◌≡◌, true}
use Rattle.layout.specs.Every.{every}
use Rattle.layout.specs.Bodies.{entry_right}
use Rattle.layout.proofs.spanned.Spanned.row_right.Given as goal

abbrev pub invariant-loop-c : goal.invariant-loop-c
invariant-loop-c l = every (entry_right l.self.listed.numbers.now l.i) l.c ≡ true
