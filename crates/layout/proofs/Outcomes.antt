-- Any two outcomes that a public function's promise allows coincide. Stated over the promises themselves, as callers learn them.
--
-- Main results: `judge-one`, `accept-one`, `word-of-one`.
use mathlib.Core.Path.{◌≡◌, sym, ap, ◌∙◌}
use mathlib.Core.List.{List}
use Prim.Native.Nat.{ℕ}
use native.Mathlib.Omega.{arith}
use lib.ListN.{drop}
use contract.Lifetimes.{Lfts}
use borrow.Fn.World as World
use denote.Triple.Clauses as Clauses
use borrow.Fn.Kinds as Kinds
use denote.Ref.{Bor}
use Rattle.std.specs.Prelude.{Result, Ok, Err}
use Rattle.layout.specs.Header.{prime_of, rank_of, contents_at, bodies_at}
use Rattle.layout.specs.Contents.{Lies}
use Rattle.layout.specs.declared.group.Group.{Group}
use Rattle.layout.specs.declared.refusal.Refusal.{Refusal}
use Rattle.layout.proofs.Refusals.{refusal-once, given-once, number-some}
use Rattle.layout.specs.contracts.judging.accept as accept
use Rattle.layout.proofs.judging.accept.Kinds as accept-kinds
use Rattle.layout.proofs.judging.accept.Reads as accept-reads
use Rattle.layout.specs.contracts.judging.judge as judge
use Rattle.layout.proofs.judging.judge.Kinds as judge-kinds
use Rattle.layout.proofs.judging.judge.Reads as judge-reads
use Rattle.layout.specs.contracts.words.word_of as word_of
use Rattle.layout.proofs.words.word_of.Kinds as word-of-kinds
use Rattle.layout.proofs.words.word_of.Reads as word-of-reads

pub judge-one : (κs : Lfts 1) (a : World.ArgsD judge.signature κs) (r s : World.ResD judge.signature κs)
    (x y : Clauses.AtExit (Kinds.ended_of 1 judge-kinds.ps judge-kinds.r) κs)
    → judge-reads.Post κs a r x → judge-reads.Post κs a s y → r ≡ s
judge-one κs a r s x y p q = given-once r s (p ∙ sym q)

-- What of two accepted groups can be told apart: what they stand over, the header, and of the bodies what they hold and where they lie.
pub record Same (g h : Group) : Type 0 where
  pub numbers : g.numbers ≡ h.numbers
  pub view : g.view ≡ h.view
  pub bodies : g.bodies.now ≡ h.bodies.now
  pub place : g.bodies.ref_ptr ≡ h.bodies.ref_ptr

-- Two answers of `accept` that are one: groups that are the same, or the same refusal.
abbrev pub One : Result Group Refusal → Result Group Refusal → Type 0
One (Ok g) (Ok h) = Same g h
One (Ok g) (Err s) = ⊥
One (Err r) (Ok h) = ⊥
One (Err r) (Err s) = r ≡ s

-- The groups over one slice.
same-over
    : (lent : Bor (List ℕ)) (g h : Group) → g.numbers ≡ lent → h.numbers ≡ lent → Lies lent (bodies_at lent.now) g.bodies
    → Lies lent (bodies_at lent.now) h.bodies → Same g h
same-over lent g h d e p q =
    let over : g.numbers ≡ h.numbers = d ∙ sym e in
    let held : g.numbers.now ≡ h.numbers.now = ap (λ (b : Bor (List ℕ)). b.now) over in
    record {
      numbers = over;
      view = λ i. record {
        prime = record { 0 = (g.seen.prime ∙ ap prime_of held ∙ sym h.seen.prime) i };
        rank = record { 0 = (g.seen.rank ∙ ap rank_of held ∙ sym h.seen.rank) i };
        contents = (g.seen.contents ∙ ap contents_at held ∙ sym h.seen.contents) i;
        bodies = (g.seen.bodies ∙ ap bodies_at held ∙ sym h.seen.bodies) i;
      };
      bodies = g.bodies_are ∙ ap (λ (l : List ℕ). drop (bodies_at l) l) held ∙ sym h.bodies_are;
      place = λ i. ((p.block ∙ sym q.block) i, (p.offset ∙ sym q.offset) i);
    }

pub accept-one : (κs : Lfts 1) (a : World.ArgsD accept.signature κs) (r s : World.ResD accept.signature κs)
    (x y : Clauses.AtExit (Kinds.ended_of 1 accept-kinds.ps accept-kinds.r) κs)
    → accept-reads.Post κs a r x → accept-reads.Post κs a s y → One r s
accept-one κs a (Ok g) (Ok h) x y p q = same-over _ g h p.1.0 q.1.0 p.1.1 q.1.1
accept-one κs a (Ok g) (Err s) x y p q = absurd (omega (arith, number-some s, p.0, q.0))
accept-one κs a (Err r) (Ok h) x y p q = absurd (omega (arith, number-some r, p.0, q.0))
accept-one κs a (Err r) (Err s) x y p q = refusal-once r s (p.0 ∙ sym q.0)

-- Of a fetched stretch: what it holds, and where it lies.
pub word-of-one : (κs : Lfts 1) (a : World.ArgsD word_of.signature κs) (r s : World.ResD word_of.signature κs)
    (x y : Clauses.AtExit (Kinds.ended_of 1 word-of-kinds.ps word-of-kinds.r) κs)
    → word-of-reads.Post κs a r x → word-of-reads.Post κs a s y → (r.now ≡ s.now) × (r.ref_ptr ≡ s.ref_ptr)
word-of-one κs a r s x y p q = (
  p.0 ∙ sym q.0,
  λ i. ((p.1.block ∙ sym q.1.block) i, (p.1.offset ∙ sym q.1.offset) i),
)
