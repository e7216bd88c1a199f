use Rattle.std.proofs.Common.{◌≡◌, ◌∙◌, ℕ, List, Bor, ap, sym, arith}
use Rattle.layout.specs.Header.{rank_of}
use Rattle.layout.specs.declared.group.Group.{Group}
use Rattle.layout.proofs.Refusals.{number-some}
use Rattle.collector.specs.Inputs.{word_slots}
use Rattle.collector.proofs.Judging.{vector-normal}
use Rattle.collector.proofs.Holding.{sets-held, word-start-few}
use Rattle.collector.proofs.Starts.{word-start-means, word-start-standing}
use Rattle.collector.proofs.Calling.{accepted-first, word-refuses, word-accepted, word-number, leaves-refused, leaves-as, call-closes}
use Rattle.collector.proofs.calls.collect.Goals as goal

pub returns-in_err-texts : goal.returns-in_err-texts
returns-in_err-texts c =
    let nums = c.args.numbers.now in
    let v = c.args.vector.now in
    let s = c.in_err-texts.field-0.0 in
    let accepts = accepted-first nums v (sym c.in_ok-group.ensures.number) in
    let is = rw c.in_ok-group.ensures.same at c.in_err-texts.ensures.number in
    leaves-refused s v c.args.work.now (word-refuses nums v accepts c.args.budget c.args.work.now c.args.word.now _ is (number-some s))
    c.from_residual-in_err-texts.ensures.1

pub finish-requires-clause-sets : goal.finish-requires-clause-sets
finish-requires-clause-sets c =
    let t = c.in_ok-texts.texts in
    let w = t.word.now in
    let accepts = accepted-first c.args.numbers.now c.args.vector.now (sym c.in_ok-group.ensures.number) in
    let normal = vector-normal c.args.numbers.now c.args.vector.now accepts.vector-right in
    let is : t.group.numbers.now ≡ c.args.numbers.now =
    ap (λ (g : Group). g.numbers.now) c.in_ok-texts.ensures.same.0 ∙ ap (λ (b : Bor (List ℕ)). b.now) c.in_ok-group.ensures.same in
    let held = c.start_word-depth.ensures.held in
    sets-held t.ground held (word-start-standing (rank_of t.group.numbers.now) _ w t.ground.sources.word_pairs) (rw is normal) (omega arith)
    (omega (arith, held.depth, word-start-few w))

pub returns : goal.returns
returns c =
    let t = c.in_ok-texts.texts in
    let nums = c.args.numbers.now in
    let v = c.args.vector.now in
    let w = c.args.word.now in
    let ws = c.args.work.now in
    let accepts = accepted-first nums v (sym c.in_ok-group.ensures.number) in
    let is : t.group.numbers.now ≡ nums =
    ap (λ (g : Group). g.numbers.now) c.in_ok-texts.ensures.same.0 ∙ ap (λ (b : Bor (List ℕ)). b.now) c.in_ok-group.ensures.same in
    let word : t.word.now ≡ w = ap (λ (b : Bor (List ℕ)). b.now) c.in_ok-texts.ensures.same.1 in
    let start = c.start_word-depth.ensures in
    let left = call-closes t.group.numbers.now t.group.bodies.now t.word.now start.held v c.args.budget (word_slots t.word.now) ws
    (word-start-means (rank_of t.group.numbers.now) _ t.word.now t.ground.sources.word_pairs) start.work_len_unchanged c.finish.ensures in
    let right = word-number nums w (rw c.in_ok-group.ensures.same at c.in_ok-texts.ensures.number) in
    leaves-as (word-accepted nums v accepts c.args.budget ws w right) (rw (is, word) at left)
