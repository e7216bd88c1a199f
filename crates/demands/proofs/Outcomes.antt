-- Any two outcomes that a public call's promise allows coincide: the answer, and every lent slice that it may write, at exit. Stated over the
-- promises themselves, as callers learn them.
--
-- Main results: `collect-one`, `product-one`, `inverse-one`, `depth-one`.
use mathlib.Core.Path.{◌≡◌}
use contract.Lifetimes.{Lfts}
use borrow.Fn.World as World
use denote.Triple.Clauses as Clauses
use borrow.Fn.Kinds as Kinds
use Rattle.collector.specs.contracts.calls.collect as collect
use Rattle.collector.proofs.calls.collect.Kinds as collect-kinds
use Rattle.collector.proofs.calls.collect.Reads as collect-reads
use Rattle.collector.specs.contracts.calls.product as product
use Rattle.collector.proofs.calls.product.Kinds as product-kinds
use Rattle.collector.proofs.calls.product.Reads as product-reads
use Rattle.collector.specs.contracts.calls.inverse as inverse
use Rattle.collector.proofs.calls.inverse.Kinds as inverse-kinds
use Rattle.collector.proofs.calls.inverse.Reads as inverse-reads
use Rattle.collector.specs.contracts.calls.depth as depth
use Rattle.collector.proofs.calls.depth.Kinds as depth-kinds
use Rattle.collector.proofs.calls.depth.Reads as depth-reads
use Rattle.collector.proofs.Once.{leaves-once, fathoms-once}

-- Of the lent slices at exit, the vector and the workspace; the others are only read.
pub collect-one : (κs : Lfts 4) (a : World.ArgsD collect.signature κs) (r s : World.ResD collect.signature κs)
    (x y : Clauses.AtExit (Kinds.ended_of 4 collect-kinds.ps collect-kinds.r) κs)
    → collect-reads.Post κs a r x → collect-reads.Post κs a s y → (r ≡ s) × (x.1.0.now ≡ y.1.0.now) × (x.1.1.1.1.0.now ≡ y.1.1.1.1.0.now)
collect-one κs a r s x y p q = leaves-once p q

pub product-one : (κs : Lfts 4) (a : World.ArgsD product.signature κs) (r s : World.ResD product.signature κs)
    (x y : Clauses.AtExit (Kinds.ended_of 4 product-kinds.ps product-kinds.r) κs)
    → product-reads.Post κs a r x → product-reads.Post κs a s y → (r ≡ s) × (x.1.0.now ≡ y.1.0.now) × (x.1.1.1.1.0.now ≡ y.1.1.1.1.0.now)
product-one κs a r s x y p q = leaves-once p q

pub inverse-one : (κs : Lfts 3) (a : World.ArgsD inverse.signature κs) (r s : World.ResD inverse.signature κs)
    (x y : Clauses.AtExit (Kinds.ended_of 3 inverse-kinds.ps inverse-kinds.r) κs)
    → inverse-reads.Post κs a r x → inverse-reads.Post κs a s y → (r ≡ s) × (x.1.0.now ≡ y.1.0.now) × (x.1.1.1.0.now ≡ y.1.1.1.0.now)
inverse-one κs a r s x y p q = leaves-once p q

pub depth-one : (κs : Lfts 2) (a : World.ArgsD depth.signature κs) (r s : World.ResD depth.signature κs)
    (x y : Clauses.AtExit (Kinds.ended_of 2 depth-kinds.ps depth-kinds.r) κs)
    → depth-reads.Post κs a r x → depth-reads.Post κs a s y → r ≡ s
depth-one κs a r s x y p q = fathoms-once p q
