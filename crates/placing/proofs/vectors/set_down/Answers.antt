-- Each pair that is set down is a generator's with an entry and a byte; at the end no pair is left.
use Rattle.std.proofs.Common.{[], ℕ, ◌+◌, ◌-◌, ◌*◌, get_or, drop, slice_set, sym, ap, ◌∙◌, arith}
use Rattle.std.proofs.lemmas.List.{length-drop}
use Rattle.layout.specs.Relations.{settled}
use Rattle.placing.proofs.Settling.{settable_front, settled_front, settled_end}
use Rattle.placing.proofs.vectors.set_down.Goals as goal

pub overflow_cast-vector : goal.overflow_cast-vector
overflow_cast-vector c =
    omega (arith, (settable_front c.args.stretch.now c.as_chunks.ensures.front (omega arith) _ c.loop-g.invariant.0).0)

pub overflow_sub-vector : goal.overflow_sub-vector
overflow_sub-vector c =
    omega (arith, c.from.ensures, (settable_front c.args.stretch.now c.as_chunks.ensures.front (omega arith) _ c.loop-g.invariant.0).0)

pub bounds-vector-from : goal.bounds-vector-from
bounds-vector-from c =
    omega (arith, c.from.ensures, (settable_front c.args.stretch.now c.as_chunks.ensures.front (omega arith) _ c.loop-g.invariant.0).0)

pub loop-g-preserved : goal.loop-g-preserved
loop-g-preserved c =
    let a = get_or (get_or c.as_chunks.result.0.now c.loop-g.g-index []) 1 0 in (
      (settable_front c.args.stretch.now c.as_chunks.ensures.front (omega arith) _ c.loop-g.invariant.0).1,
      ap (λ (g : ℕ). settled (slice_set c.loop-g.vector (g - 1) a) (drop (2 * (c.loop-g.g-index + 1)) c.args.stretch.now)) c.from.ensures
          ∙ settled_front c.args.stretch.now c.as_chunks.ensures.front (omega arith) c.loop-g.vector
          ∙ c.loop-g.invariant.1,
    )

pub returns : goal.returns
returns c =
    sym (settled_end c.loop-g.vector (drop (2 * c.loop-g.g-index) c.args.stretch.now)
    (omega (arith, length-drop (2 * c.loop-g.g-index) c.args.stretch.now, c.as_chunks.ensures.front_len))) ∙ c.loop-g.invariant.1
