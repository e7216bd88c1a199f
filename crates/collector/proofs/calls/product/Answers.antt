-- `product`: the right vector's entries stand as starting slots, and from there the call is the definition's (proofs/Starts, Holding, Calling).
use Rattle.std.proofs.Common.{◌≡◌, ◌∙◌, List, ℕ, Bor, ap, sym, arith}
use Rattle.theory.proofs.Words.{normal-length}
use Rattle.layout.specs.Header.{rank_of}
use Rattle.layout.specs.Relations.{presentation}
use Rattle.layout.specs.declared.group.Group.{Group}
use Rattle.layout.proofs.Accepted.{accepted}
use Rattle.collector.specs.Inputs.{power_slots}
use Rattle.collector.proofs.Judging.{vector-normal}
use Rattle.collector.proofs.Holding.{sets-held, power-start-few}
use Rattle.collector.proofs.Starts.{power-start-means, power-start-standing}
use Rattle.collector.proofs.Calling.{accepted-first, right-accepted, leaves-as, call-closes}
use Rattle.collector.proofs.calls.product.Goals as goal

pub finish-requires-clause-sets : goal.finish-requires-clause-sets
finish-requires-clause-sets c =
    let nums = c.args.numbers.now in
    let v = c.args.right.now in
    let t = c.wordless.result in
    let is : t.group.numbers.now ≡ nums =
    ap (λ (g : Group). g.numbers.now) c.wordless.ensures.0 ∙ ap (λ (b : Bor (List ℕ)). b.now) c.in_ok-group.ensures.same in
    let accepts = accepted-first nums c.args.left.now (sym c.in_ok-group.ensures.number) in
    let left = vector-normal nums c.args.left.now accepts.vector-right in
    let held = c.start_powers-depth.ensures.held in
    let right = rw c.in_ok-group.ensures.same at (sym c.vector_right.ensures ∙ c.if-not-vector_right.false) in
    let long = normal-length (presentation nums) (rank_of nums) 1 v (vector-normal nums v right) in
    let standing = power-start-standing (rank_of t.group.numbers.now) t.group.bodies.now t.word.now 1 v (omega arith) (omega (arith, long, ap rank_of is)) in
    sets-held t.ground held standing (rw is left) (omega arith)
    (omega (arith, held.depth, power-start-few 1 v, long, (accepted nums accepts.accepts).measured.most))

pub returns : goal.returns
returns c =
    let nums = c.args.numbers.now in
    let v = c.args.left.now in
    let u = c.args.right.now in
    let ws = c.args.work.now in
    let t = c.wordless.result in
    let is : t.group.numbers.now ≡ nums =
    ap (λ (g : Group). g.numbers.now) c.wordless.ensures.0 ∙ ap (λ (b : Bor (List ℕ)). b.now) c.in_ok-group.ensures.same in
    let right = rw c.in_ok-group.ensures.same at (sym c.vector_right.ensures ∙ c.if-not-vector_right.false) in
    let start = c.start_powers-depth.ensures in
    let left = call-closes t.group.numbers.now t.group.bodies.now t.word.now start.held v c.args.budget (power_slots 1 u) ws
    (power-start-means (rank_of t.group.numbers.now) _ t.word.now 1 u) start.work_len_unchanged c.finish.ensures in
    leaves-as (right-accepted nums v (accepted-first nums v (sym c.in_ok-group.ensures.number)) c.args.budget ws u right) (rw is at left)
