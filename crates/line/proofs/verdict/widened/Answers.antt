-- `widened` leaves each entry as it is.
use Rattle.std.proofs.Common.{rules, arith}
use Rattle.std.proofs.lemmas.List.{ext_get_or}
use Rattle.line.proofs.verdict.widened.Goals as goal

pub returns : goal.returns
returns c = ext_get_or 0 c.map.result c.args.vector (omega arith) (λ i h. let k = (c.map.ensures.items.at i 0 0 (omega arith)).2 in search rules)
