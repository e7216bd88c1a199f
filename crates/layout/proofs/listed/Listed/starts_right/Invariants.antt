-- `starts_right` judges every start. The loop's invariant: the starts so far are right, and `sum` is the sum of their lengths. It
-- stays small: up to here each start, of 16 bits, was the sum.
use Rattle.std.proofs.Common.{◌≡◌, ◌≤◌, true}
use Rattle.layout.specs.Every.{every}
use Rattle.layout.specs.Contents.{start_right, pairs_before}
use Rattle.layout.proofs.listed.Listed.starts_right.Given as goal

abbrev pub invariant-loop-entry : goal.invariant-loop-entry
invariant-loop-entry l =
    record {
      right : every (start_right l.self.numbers.now) l.entry ≡ true;
      lengths : l.sum ≡ pairs_before l.self.numbers.now l.entry;
      small : l.sum ≤ 131070;
    }
