-- Any two outcomes that the promise of a function of the face allows coincide: what it returns, and everything that it may write, at exit.
-- Stated over the promises themselves, as callers learn them.
--
-- Main results: `judge-one`, `fetch-one`, `collect-one`, `product-one`, `inverse-one`, `depth-one`, `check-one`.
use mathlib.Core.Path.{◌≡◌, sym, ◌∙◌}
use mathlib.Core.List.{List}
use Prim.Native.Nat.{ℕ}
use contract.Lifetimes.{Lfts}
use borrow.Fn.World as World
use denote.Triple.Clauses as Clauses
use borrow.Fn.Kinds as Kinds
use Rattle.collector.specs.Calls.{Left}
use Rattle.yavarosht.specs.Handed.{Handed}
use Rattle.yavarosht.specs.contracts.opening.yav_judge as judge
use Rattle.yavarosht.proofs.opening.yav_judge.Kinds as judge-kinds
use Rattle.yavarosht.proofs.opening.yav_judge.Reads as judge-reads
use Rattle.yavarosht.specs.contracts.opening.yav_fetch as fetch
use Rattle.yavarosht.proofs.opening.yav_fetch.Kinds as fetch-kinds
use Rattle.yavarosht.proofs.opening.yav_fetch.Reads as fetch-reads
use Rattle.yavarosht.specs.contracts.calls.yav_collect as collect
use Rattle.yavarosht.proofs.calls.yav_collect.Kinds as collect-kinds
use Rattle.yavarosht.proofs.calls.yav_collect.Reads as collect-reads
use Rattle.yavarosht.specs.contracts.calls.yav_product as product
use Rattle.yavarosht.proofs.calls.yav_product.Kinds as product-kinds
use Rattle.yavarosht.proofs.calls.yav_product.Reads as product-reads
use Rattle.yavarosht.specs.contracts.calls.yav_inverse as inverse
use Rattle.yavarosht.proofs.calls.yav_inverse.Kinds as inverse-kinds
use Rattle.yavarosht.proofs.calls.yav_inverse.Reads as inverse-reads
use Rattle.yavarosht.specs.contracts.calls.yav_depth as depth
use Rattle.yavarosht.proofs.calls.yav_depth.Kinds as depth-kinds
use Rattle.yavarosht.proofs.calls.yav_depth.Reads as depth-reads
use Rattle.yavarosht.specs.contracts.checking.yav_check as check
use Rattle.yavarosht.proofs.checking.yav_check.Kinds as check-kinds
use Rattle.yavarosht.proofs.checking.yav_check.Reads as check-reads

pub judge-one : (κs : Lfts 1) (a : World.ArgsD judge.signature κs) (r s : World.ResD judge.signature κs)
    (x y : Clauses.AtExit (Kinds.ended_of 1 judge-kinds.ps judge-kinds.r) κs)
    → judge-reads.Post κs a r x → judge-reads.Post κs a s y → r ≡ s
judge-one κs a r s x y p q = p ∙ sym q

-- Where the word begins and how many numbers it has.
pub fetch-one : (κs : Lfts 3) (a : World.ArgsD fetch.signature κs) (r s : World.ResD fetch.signature κs)
    (x y : Clauses.AtExit (Kinds.ended_of 3 fetch-kinds.ps fetch-kinds.r) κs)
    → fetch-reads.Post κs a r x → fetch-reads.Post κs a s y
    → (r ≡ s) × (x.1.1.1.0.now ≡ y.1.1.1.0.now) × (x.1.1.1.1.0.now ≡ y.1.1.1.1.0.now)
fetch-one κs a r s x y p q = (p.number_is ∙ sym q.number_is, p.start_is ∙ sym q.start_is, p.count_is ∙ sym q.count_is)

handed-one : {left : Left} {n m c d : ℕ} {v w s t : List ℕ} → Handed left n c v s → Handed left m d w t → (n ≡ m) × (v ≡ w) × (s ≡ t) × (c ≡ d)
handed-one p q =
    (p.number_is ∙ sym q.number_is, p.vector_is ∙ sym q.vector_is, p.work_is ∙ sym q.work_is, p.count_is ∙ sym q.count_is)

-- The vector, the workspace and the count.
pub collect-one : (κs : Lfts 5) (a : World.ArgsD collect.signature κs) (r s : World.ResD collect.signature κs)
    (x y : Clauses.AtExit (Kinds.ended_of 5 collect-kinds.ps collect-kinds.r) κs)
    → collect-reads.Post κs a r x → collect-reads.Post κs a s y
    → (r ≡ s) × (x.1.0.now ≡ y.1.0.now) × (x.1.1.1.1.0.now ≡ y.1.1.1.1.0.now) × (x.1.1.1.1.1.0.now ≡ y.1.1.1.1.1.0.now)
collect-one κs a r s x y p q = handed-one p q

pub product-one : (κs : Lfts 5) (a : World.ArgsD product.signature κs) (r s : World.ResD product.signature κs)
    (x y : Clauses.AtExit (Kinds.ended_of 5 product-kinds.ps product-kinds.r) κs)
    → product-reads.Post κs a r x → product-reads.Post κs a s y
    → (r ≡ s) × (x.1.0.now ≡ y.1.0.now) × (x.1.1.1.1.0.now ≡ y.1.1.1.1.0.now) × (x.1.1.1.1.1.0.now ≡ y.1.1.1.1.1.0.now)
product-one κs a r s x y p q = handed-one p q

pub inverse-one : (κs : Lfts 4) (a : World.ArgsD inverse.signature κs) (r s : World.ResD inverse.signature κs)
    (x y : Clauses.AtExit (Kinds.ended_of 4 inverse-kinds.ps inverse-kinds.r) κs)
    → inverse-reads.Post κs a r x → inverse-reads.Post κs a s y
    → (r ≡ s) × (x.1.0.now ≡ y.1.0.now) × (x.1.1.1.0.now ≡ y.1.1.1.0.now) × (x.1.1.1.1.0.now ≡ y.1.1.1.1.0.now)
inverse-one κs a r s x y p q = handed-one p q

pub depth-one : (κs : Lfts 3) (a : World.ArgsD depth.signature κs) (r s : World.ResD depth.signature κs)
    (x y : Clauses.AtExit (Kinds.ended_of 3 depth-kinds.ps depth-kinds.r) κs)
    → depth-reads.Post κs a r x → depth-reads.Post κs a s y → (r ≡ s) × (x.1.1.0.now ≡ y.1.1.0.now)
depth-one κs a r s x y p q = (p.number_is ∙ sym q.number_is, p.depth_is ∙ sym q.depth_is)

-- The workspace, the overlap and both vectors.
pub check-one : (κs : Lfts 5) (a : World.ArgsD check.signature κs) (r s : World.ResD check.signature κs)
    (x y : Clauses.AtExit (Kinds.ended_of 5 check-kinds.ps check-kinds.r) κs)
    → check-reads.Post κs a r x → check-reads.Post κs a s y
    → (r ≡ s) × (x.1.1.0.now ≡ y.1.1.0.now) × (x.1.1.1.0.now ≡ y.1.1.1.0.now)
    × (x.1.1.1.1.0.now ≡ y.1.1.1.1.0.now) × (x.1.1.1.1.1.0.now ≡ y.1.1.1.1.1.0.now)
check-one κs a r s x y p q = (
  p.number_is ∙ sym q.number_is,
  p.work_is ∙ sym q.work_is,
  p.overlap_is ∙ sym q.overlap_is,
  p.left_is ∙ sym q.left_is,
  p.right_is ∙ sym q.right_is,
)
