-- `vector_right`: each entry is below p just if the vector is right (proofs/Looking).
use Rattle.std.proofs.Common.{◌∙◌, ℕ, ltb, rules, arith, tests}
use Rattle.std.proofs.lemmas.Iterator.{YieldsList-from_slice}
use Rattle.std.proofs.lemmas.Iterator.Search.{all_from_yields_List}
use Rattle.collector.proofs.Looking.{vector-all}
use Rattle.collector.proofs.inputs.vector_right.Goals as goal

pub returns-then-vector-from : goal.returns-then-vector-from
returns-then-vector-from c =
    let v = c.args.vector.now in
    let view = c.args.view in
    all_from_yields_List (λ (a : ℕ). ltb a view.prime.0) _ _ _ c.all.ensures.ran (YieldsList-from_slice v cc) (λ x b q k. search (rules, tests))
    ∙ vector-all c.args.numbers.now v view c.requires (omega (arith, c.requires))
