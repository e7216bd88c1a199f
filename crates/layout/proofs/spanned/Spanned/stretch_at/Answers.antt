-- `stretch_at` gives the very part that the entry names, which lies within the numbers.
use Rattle.std.proofs.Common.{arith}
use Rattle.layout.proofs.Stretches.{stretch-fits}
use Rattle.layout.proofs.spanned.Spanned.stretch_at.Goals as goal

pub slice_bounds-result-end : goal.slice_bounds-result-end
slice_bounds-result-end c =
    omega (arith, stretch-fits c.args.self.listed.numbers.now c.args.entry c.args.self.measured c.requires)
