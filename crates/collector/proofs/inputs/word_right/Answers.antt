-- `word_right`: cut into pairs, an even word is right just if each pair is (proofs/Looking).
use Rattle.std.proofs.Common.{◌≡◌, ◌∙◌, sym, ap, rules, arith, tests}
use Rattle.std.proofs.lemmas.Iterator.{YieldsList-from_slice}
use Rattle.std.proofs.lemmas.Iterator.Search.{all_from_yields_List}
use borrow.Author.Tests.{eqb-true, eqb-false}
use Rattle.std.specs.List.{list_all}
use Rattle.collector.proofs.Looking.{chunk_test, word_is, word-not}
use Rattle.collector.proofs.inputs.word_right.Goals as goal

pub returns-then-is_empty : goal.returns-then-is_empty
returns-then-is_empty c =
    let n = c.args.view.rank.0 in
    let test = chunk_test n in
    let pairs = c.as_chunks.result.0.now in
    let none = eqb-true _ _ (sym c.is_empty.ensures ∙ c.if-is_empty.true) in
    let h : c.all.result ≡ list_all test pairs =
    all_from_yields_List test _ _ _ c.all.ensures.ran (YieldsList-from_slice pairs cc) (λ x b q k. search (rules, tests)) in
    h ∙ ap (list_all test) c.as_chunks.ensures.front
    ∙ word_is c.args.numbers.now c.args.word.now n c.requires.rank (omega arith) (omega (arith, none, c.as_chunks.ensures.back_len))

pub returns-else-is_empty : goal.returns-else-is_empty
returns-else-is_empty c =
    let some = eqb-false _ _ (sym c.is_empty.ensures ∙ c.if-is_empty.false) in
    c.if-is_empty.false ∙ sym (word-not c.args.numbers.now c.args.word.now (λ l z. omega (arith, some, c.as_chunks.ensures.back_len)))
