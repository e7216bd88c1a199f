-- `starts_right` judges every start: one that is not the sum of the earlier lengths settles it.
use Rattle.std.proofs.Common.{◌≡◌, false, arith, sym}
use Rattle.layout.specs.Header.{rank_of, entries}
use Rattle.layout.specs.Contents.{start_right}
use Rattle.layout.proofs.Every.{fail}
use Rattle.layout.proofs.listed.Listed.starts_right.Goals as goal

pub returns-then-not-starts_at : goal.returns-then-not-starts_at
returns-then-not-starts_at c =
    let t : start_right c.args.self.numbers.now c.loop-entry.entry ≡ false = cc in
    let m : c.entries-entry-end.result ≡ entries (rank_of c.args.self.numbers.now) = cc in
    sym (fail (start_right c.args.self.numbers.now) (entries (rank_of c.args.self.numbers.now)) c.loop-entry.entry (omega arith) t)
