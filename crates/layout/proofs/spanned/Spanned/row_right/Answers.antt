-- `row_right` judges every entry of its row, each of them one of the contents.
use Rattle.std.proofs.Common.{◌≡◌, List, ℕ, ◌+◌, ◌-◌, false, true, sym, ap, ◌∙◌, arith, rules}
use Rattle.layout.specs.declared.View.{View}
use Rattle.layout.specs.Header.{Seen, rank_of, exponent_in}
use Rattle.layout.specs.Contents.{row_at, stretch_at}
use Rattle.layout.specs.Bodies.{stretch_right, entry_right}
use Rattle.layout.proofs.Every.{pass, fail}
use Rattle.layout.proofs.Rows.{in_row, entries-few}
use Rattle.layout.proofs.spanned.Spanned.row_right.Goals as goal

-- What judging the stretch that was fetched at `entry` says of the c-th entry of row i.
entry-is : (nums : List ℕ) (view : View) (i c entry : ℕ) (s : List ℕ) → Seen nums view → entry ≡ row_at (rank_of nums) i + c
    → s ≡ stretch_at nums entry → stretch_right (exponent_in view) view.rank.0 (i + c + 1) s ≡ entry_right nums i c
entry-is nums view i c entry s v p h =
    simp (h, p, v.rank)
    (ap (λ (q : ℕ). stretch_right (λ g. q) (rank_of nums) (i + c + 1) (stretch_at nums (row_at (rank_of nums) i + c))) v.prime)

pub overflow_add-first : goal.overflow_add-first
overflow_add-first c =
    let n = rank_of c.args.self.listed.numbers.now in
    omega (arith, in_row n c.args.i c.loop-c.c c.args.self.measured.most (omega arith) (omega arith), entries-few n c.args.self.measured.most)

pub stretch_at-stretch-requires : goal.stretch_at-stretch-requires
stretch_at-stretch-requires c =
    omega (arith, in_row (rank_of c.args.self.listed.numbers.now) c.args.i c.loop-c.c c.args.self.measured.most (omega arith) (omega arith))

pub returns-then-not-stretch_right : goal.returns-then-not-stretch_right
returns-then-not-stretch_right c =
    let nums = c.args.self.listed.numbers.now in
    let view = c.args.self.listed.view in
    let s = c.stretch_at-stretch.result.now in
    let e = entry-is nums view c.args.i c.loop-c.c _ s c.args.self.listed.seen (omega arith) c.stretch_at-stretch.ensures.result_value in
    let t : stretch_right (exponent_in view) view.rank.0 (c.args.i + c.loop-c.c + 1) s ≡ false = search rules in
    sym (fail (entry_right nums c.args.i) (rank_of nums - c.args.i) c.loop-c.c (omega arith) (sym e ∙ t))

pub loop-c-preserved : goal.loop-c-preserved
loop-c-preserved c =
    let nums = c.args.self.listed.numbers.now in
    let view = c.args.self.listed.view in
    let s = c.stretch_at-stretch.result.now in
    let e = entry-is nums view c.args.i c.loop-c.c _ s c.args.self.listed.seen (omega arith) c.stretch_at-stretch.ensures.result_value in
    let t : stretch_right (exponent_in view) view.rank.0 (c.args.i + c.loop-c.c + 1) s ≡ true = search rules in
    pass (entry_right nums c.args.i) c.loop-c.c c.loop-c.invariant (sym e ∙ t)
