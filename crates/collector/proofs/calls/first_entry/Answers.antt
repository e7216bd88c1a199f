-- `first_entry`: the place of the first entry that isn't 0 is told by `position` (proofs/Depths).
use Rattle.std.proofs.Common.{◌∙◌, rules, tests}
use Rattle.std.proofs.lemmas.Iterator.{YieldsList-from_slice}
use Rattle.std.proofs.lemmas.Iterator.Search.{position_from_yields_List}
use Rattle.collector.proofs.Depths.{some_entry, first-is, depth-told}
use Rattle.collector.proofs.calls.first_entry.Goals as goal

pub returns : goal.returns
returns c =
    let v = c.args.vector.now in
    depth-told c.args.none _ c.position.result _ c.map_or.ensures (λ at q. search rules)
    ∙ first-is c.args.none v c.position.result
    (position_from_yields_List some_entry _ _ _ c.position.ensures.ran (YieldsList-from_slice v cc) (λ x b q k. search (rules, tests)))
