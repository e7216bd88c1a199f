-- The turns of the loop and its ends, by the laws of `Met`: what is put for one entry, or that there is no room for it, or that the entry is 0.
use Rattle.std.proofs.Common.{arith}
use Rattle.placing.proofs.Exchanging.{met_more, met_part, met_listed, met_generator, met_from, met_zero, met_put, met_over, met_all, met_filled}
use Rattle.placing.proofs.entries.exchange.Goals as goal

pub overflow_sub-left : goal.overflow_sub-left
overflow_sub-left c =
    let low = c.from-low.ensures in
    let more = met_more c.loop-left.invariant low (λ none. omega arith) in
    omega (arith, c.from-left.ensures, met_part c.loop-left.invariant low more)

pub span_at-span-requires : goal.span_at-span-requires
span_at-span-requires c =
    let low = c.from-low.ensures in
    let more = met_more c.loop-left.invariant low (λ none. omega arith) in
    met_listed c.loop-left.invariant low more c.args.spanned.measured c.requires.le_i.2 c.args.spanned.listed.seen c.row_of-row.ensures.0

pub put_entry-d-requires-clause-g_bound : goal.put_entry-d-requires-clause-g_bound
put_entry-d-requires-clause-g_bound c =
    let low = c.from-low.ensures in
    let more = met_more c.loop-left.invariant low (λ none. omega arith) in (
      omega (arith, c.at.ensures, met_generator c.loop-left.invariant low more c.args.spanned.measured c.requires.le_i.2),
      met_from c.loop-left.invariant low more c.args.spanned.measured c.requires.le_i.2 c.args.spanned.listed.seen c.row_of-row.ensures.0
          c.requires.numbers_len_bound c.span_at-span.ensures,
    )

pub returns-then-room-d-clause-filled : goal.returns-then-room-d-clause-filled
returns-then-room-d-clause-filled c =
    let low = c.from-low.ensures in
    let more = met_more c.loop-left.invariant low (λ none. omega arith) in
    met_over c.loop-left.invariant low more c.args.spanned.measured c.requires.le_i.2 c.args.spanned.listed.seen c.row_of-row.ensures.0
    c.requires.numbers_len_bound c.span_at-span.ensures c.at.ensures c.put_entry-d.ensures c.loop-left.auto.work (omega arith) (omega arith)

pub loop-left-preserved-else-room-d : goal.loop-left-preserved-else-room-d
loop-left-preserved-else-room-d c =
    let low = c.from-low.ensures in
    let more = met_more c.loop-left.invariant low (λ none. omega arith) in
    met_put c.loop-left.invariant low more c.args.spanned.measured c.requires.le_i.2 c.args.spanned.listed.seen c.row_of-row.ensures.0
    c.requires.numbers_len_bound c.span_at-span.ensures c.at.ensures c.put_entry-d.ensures c.from-left.ensures (omega arith)

pub loop-left-preserved : goal.loop-left-preserved
loop-left-preserved c =
    let low = c.from-low.ensures in
    met_zero c.loop-left.invariant low (met_more c.loop-left.invariant low (λ none. omega arith)) (omega arith)

pub returns-clause-filled : goal.returns-clause-filled
returns-clause-filled c = met_filled c.loop-left.invariant (omega arith) c.loop-left.auto.work

pub returns-clause-vector_after : goal.returns-clause-vector_after
returns-clause-vector_after c = λ room. met_all c.loop-left.invariant (omega arith)
