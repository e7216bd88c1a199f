-- `stretch_right` is `stretch_right`: each right pair leaves the rest to be judged.
use Rattle.std.proofs.Common.{ℕ, nat_eq, sym, ap, ◌∙◌, arith}
use Rattle.layout.specs.Header.{exponent_in}
use Rattle.layout.proofs.Pairs.{pair-passes, pair-fails, pairs-end}
use Rattle.layout.proofs.bodies.stretch_right.Goals as goal

pub returns-then-not-pair_right : goal.returns-then-not-pair_right
returns-then-not-pair_right c =
    sym (pair-fails (exponent_in c.args.view) c.args.view.rank.0 c.loop-g.low.0 c.args.stretch.now c.as_chunks.ensures.front (omega arith)
    (sym c.pair_right.ensures ∙ c.if-not-pair_right.true)) ∙ c.loop-g.invariant

pub loop-g-preserved : goal.loop-g-preserved
loop-g-preserved c =
    sym (pair-passes (exponent_in c.args.view) c.args.view.rank.0 c.loop-g.low.0 c.args.stretch.now c.as_chunks.ensures.front (omega arith)
    (sym c.pair_right.ensures ∙ c.if-not-pair_right.false)) ∙ c.loop-g.invariant

pub returns : goal.returns
returns c =
    c.is_empty.ensures
    ∙ ap (λ (k : ℕ). nat_eq k 0) c.as_chunks.ensures.back_len
    ∙ sym (pairs-end (exponent_in c.args.view) c.args.view.rank.0 c.loop-g.low.0 c.args.stretch.now c.loop-g.g-index (omega arith))
    ∙ c.loop-g.invariant
