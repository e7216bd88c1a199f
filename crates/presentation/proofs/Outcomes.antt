-- Any two outcomes that a promise of this crate allows coincide, and what a record says it was judged, its p and its n are read by no call.
--
-- Main results:
--   `opens-once`     two records that one slice may be opened to agree in every field, in what they stand over and in where that lies;
--                    `opens-same`: where the numbers are accepted they are one
--   `open-one`, `word-of-one`, .., `check-one`, `collect-opened-one`
--                    of each function: two promises of it, at the same arguments, tell that the answers and the lent slices at exit are the same
--   `word-of-as-plain`, .., `check-as-plain`
--                    the contract at the record is that of the function on plain parameters at the numbers that it stands over: the call says
--                    all that the plain one says, lent slices at exit included
--   `remade`         the record judged otherwise, with another p and n; `word-of-ignores`, .., `check-ignores`: the contract at the record is the
--                    contract at any such other
use mathlib.Core.Path.{◌≡◌, refl, sym, ◌∙◌}
use Prim.Native.Nat.{ℕ}
use mathlib.Core.List.{List, [], ◌∷◌}
use Rattle.std.specs.Prelude.{Result}
use seplogic.Ra.Ura.{Ura}
use base.Logic.{SProp, ent, sep, id⊢, via, fst∗, snd∗}
use prog.Memory.{Memory}
use prog.Routine.{Routine}
use types.Logic.{Logic}
use contract.Lifetimes.{Lfts}
use contract.Monad.{Fun, fact, fact_i, fact_use}
use denote.RattleType.{Denots}
use denote.Ref.{Bor}
use denote.Signature.{Slot, types_at}
use denote.Triple.Clauses.{AtExit}
use denote.Triple.Entry.{Args, Res}
use Rattle.layout.specs.Contents.{Lies}
use Rattle.layout.specs.Judged.{judged}
use Rattle.layout.specs.declared.refusal.Refusal.{Refusal}
use Rattle.layout.proofs.Refusals.{given-once}
use Rattle.collector.proofs.Once.{leaves-once, fathoms-once}
use Rattle.layout.specs.contracts.word_of as plain-word-of
use Rattle.collector.specs.contracts.collect as plain-collect
use Rattle.collector.specs.contracts.product as plain-product
use Rattle.collector.specs.contracts.inverse as plain-inverse
use Rattle.collector.specs.contracts.depth as plain-depth
use Rattle.consistency.specs.contracts.check as plain-check
use Rattle.presentation.specs.Opened.{Opens}
use Rattle.presentation.specs.declared.Presentation.{Presentation}
use Rattle.presentation.specs.contracts.open as opening
use Rattle.presentation.specs.contracts.word_of as word_of
use Rattle.presentation.specs.contracts.collect as collect
use Rattle.presentation.specs.contracts.product as product
use Rattle.presentation.specs.contracts.inverse as inverse
use Rattle.presentation.specs.contracts.depth as depth
use Rattle.presentation.specs.contracts.check as check
use Rattle.presentation.specs.contracts.collect_opened as collect-opened

pub opens-once : (lent : Bor (List ℕ)) (d e : Presentation) → Opens lent d → Opens lent e
    → (d.judged ≡ e.judged) × (d.p ≡ e.p) × (d.n ≡ e.n) × (d.numbers.now ≡ e.numbers.now)
    × (d.numbers.ref_ptr.0 ≡ e.numbers.ref_ptr.0) × (d.numbers.ref_ptr.1 ≡ e.numbers.ref_ptr.1)
opens-once lent d e a b = (
  given-once d.judged e.judged (a.number ∙ sym b.number),
  λ i. record { 0 = (a.prime ∙ sym b.prime) i },
  λ i. record { 0 = (a.rank ∙ sym b.rank) i },
  a.stands.holds ∙ sym b.stands.holds,
  a.stands.block ∙ sym b.stands.block,
  a.stands.offset ∙ sym b.stands.offset,
)

pub opens-same : (lent : Bor (List ℕ)) (d e : Presentation) → judged lent.now ≡ 0 → Opens lent d → Opens lent e → d ≡ e
opens-same lent d e z a b i = record {
  judged = given-once d.judged e.judged (a.number ∙ sym b.number) i;
  p = record { 0 = (a.prime ∙ sym b.prime) i };
  n = record { 0 = (a.rank ∙ sym b.rank) i };
  numbers = (a.stands.same z ∙ sym (b.stands.same z)) i;
}

lies-one : {lent r s : Bor (List ℕ)} {at : ℕ} → Lies lent at r → Lies lent at s → r.ref_ptr ≡ s.ref_ptr
lies-one x y i = ((x.block ∙ sym y.block) i, (x.offset ∙ sym y.offset) i)

-- ---- the promises, as a caller holds them
module _ {M : Type 1} {𝓤 : Ura M} (𝓛 : Logic 𝓤) (mem : Memory → SProp 𝓤) (run : Routine → Fun 𝓤) where
  -- two facts tell what follows from them
  both : (P Q : SProp 𝓤) (φ ψ χ : Type 0) → ent 𝓤 P (fact 𝓤 φ) → ent 𝓤 Q (fact 𝓤 ψ) → (φ → ψ → χ) → ent 𝓤 (sep 𝓤 P Q) (fact 𝓤 χ)
  both P Q φ ψ χ p q k =
      fact_use 𝓤 φ (via 𝓤 P (fst∗ 𝓤 P Q) p)
      (λ a. fact_use 𝓤 ψ (via 𝓤 Q (snd∗ 𝓤 P Q) q) (λ b. fact_i 𝓤 χ (sep 𝓤 P Q) (k a b)))

  facts : (φ ψ χ : Type 0) → (φ → ψ → χ) → ent 𝓤 (sep 𝓤 (fact 𝓤 φ) (fact 𝓤 ψ)) (fact 𝓤 χ)
  facts φ ψ χ k = both (fact 𝓤 φ) (fact 𝓤 ψ) φ ψ χ (id⊢ 𝓤 (fact 𝓤 φ)) (id⊢ 𝓤 (fact 𝓤 ψ)) k

  -- of promises that are two facts each
  pairs : (φ φ' ψ ψ' χ : Type 0) → (φ × φ' → ψ × ψ' → χ)
      → ent 𝓤 (sep 𝓤 (sep 𝓤 (fact 𝓤 φ) (fact 𝓤 φ')) (sep 𝓤 (fact 𝓤 ψ) (fact 𝓤 ψ'))) (fact 𝓤 χ)
  pairs φ φ' ψ ψ' χ k =
      both (sep 𝓤 (fact 𝓤 φ) (fact 𝓤 φ')) (sep 𝓤 (fact 𝓤 ψ) (fact 𝓤 ψ')) (φ × φ') (ψ × ψ') χ
      (facts φ φ' (φ × φ') (λ a b. (a, b)))
      (facts ψ ψ' (ψ × ψ') (λ a b. (a, b)))
      k

  pub open-one : (κs : Lfts 1) (a : Args opening.signature κs) (r s : Presentation) (x y : AtExit opening.ended κs)
      → ent 𝓤 (sep 𝓤 ((opening.clauses 𝓛 mem run κs a).ensures tt r x) ((opening.clauses 𝓛 mem run κs a).ensures tt s y))
      (fact 𝓤 ((r.judged ≡ s.judged) × (r.p ≡ s.p) × (r.n ≡ s.n) × (r.numbers.now ≡ s.numbers.now)
      × (r.numbers.ref_ptr.0 ≡ s.numbers.ref_ptr.0) × (r.numbers.ref_ptr.1 ≡ s.numbers.ref_ptr.1)))
  open-one κs a r s x y = facts _ _ _ (opens-once a.0 r s)

  pub word-of-one : (κs : Lfts 1) (a : Args word_of.signature κs) (r s : Res word_of.signature κs) (x y : AtExit word_of.ended κs)
      → ent 𝓤 (sep 𝓤 ((word_of.clauses 𝓛 mem run κs a).ensures tt r x) ((word_of.clauses 𝓛 mem run κs a).ensures tt s y))
      (fact 𝓤 ((r.now ≡ s.now) × (r.ref_ptr ≡ s.ref_ptr)))
  word-of-one κs a r s x y = pairs _ _ _ _ _ (λ p q. (p.0 ∙ sym q.0, lies-one p.1 q.1))

  pub collect-one : (κs : Lfts 4) (a : Args collect.signature κs) (r s : Res collect.signature κs) (x y : AtExit collect.ended κs)
      → ent 𝓤 (sep 𝓤 ((collect.clauses 𝓛 mem run κs a).ensures tt r x) ((collect.clauses 𝓛 mem run κs a).ensures tt s y))
      (fact 𝓤 ((r ≡ s) × (x.1.0.now ≡ y.1.0.now) × (x.1.1.1.1.0.now ≡ y.1.1.1.1.0.now)))
  collect-one κs a r s x y = facts _ _ _ leaves-once

  pub product-one : (κs : Lfts 4) (a : Args product.signature κs) (r s : Res product.signature κs) (x y : AtExit product.ended κs)
      → ent 𝓤 (sep 𝓤 ((product.clauses 𝓛 mem run κs a).ensures tt r x) ((product.clauses 𝓛 mem run κs a).ensures tt s y))
      (fact 𝓤 ((r ≡ s) × (x.1.0.now ≡ y.1.0.now) × (x.1.1.1.1.0.now ≡ y.1.1.1.1.0.now)))
  product-one κs a r s x y = facts _ _ _ leaves-once

  pub inverse-one : (κs : Lfts 3) (a : Args inverse.signature κs) (r s : Res inverse.signature κs) (x y : AtExit inverse.ended κs)
      → ent 𝓤 (sep 𝓤 ((inverse.clauses 𝓛 mem run κs a).ensures tt r x) ((inverse.clauses 𝓛 mem run κs a).ensures tt s y))
      (fact 𝓤 ((r ≡ s) × (x.1.0.now ≡ y.1.0.now) × (x.1.1.1.0.now ≡ y.1.1.1.0.now)))
  inverse-one κs a r s x y = facts _ _ _ leaves-once

  pub depth-one : (κs : Lfts 2) (a : Args depth.signature κs) (r s : Res depth.signature κs) (x y : AtExit depth.ended κs)
      → ent 𝓤 (sep 𝓤 ((depth.clauses 𝓛 mem run κs a).ensures tt r x) ((depth.clauses 𝓛 mem run κs a).ensures tt s y))
      (fact 𝓤 (r ≡ s))
  depth-one κs a r s x y = facts _ _ _ fathoms-once

  pub check-one : (κs : Lfts 2) (a : Args check.signature κs) (r s : Res check.signature κs) (x y : AtExit check.ended κs)
      → ent 𝓤 (sep 𝓤 ((check.clauses 𝓛 mem run κs a).ensures tt r x) ((check.clauses 𝓛 mem run κs a).ensures tt s y))
      (fact 𝓤 ((r ≡ s) × (x.1.1.0.now ≡ y.1.1.0.now)))
  check-one κs a r s x y = pairs _ _ _ _ _ (λ p q. (p.0 ∙ sym q.0, p.1 ∙ sym q.1))

  pub collect-opened-one : (κs : Lfts 4) (a : Args collect-opened.signature κs) (r s : Res collect-opened.signature κs) (x y : AtExit collect-opened.ended κs)
      → ent 𝓤 (sep 𝓤 ((collect-opened.clauses 𝓛 mem run κs a).ensures tt r x) ((collect-opened.clauses 𝓛 mem run κs a).ensures tt s y))
      (fact 𝓤 ((r ≡ s) × (x.1.0.now ≡ y.1.0.now) × (x.1.1.1.1.0.now ≡ y.1.1.1.1.0.now)))
  collect-opened-one κs a r s x y = facts _ _ _ leaves-once

-- ---- what a call over the record says, beside what the plain one says
-- The parameters after the first.
abbrev pub rest_of : {n : ℕ} → List (Slot n) → List (Slot n)
rest_of [] = []
rest_of (s ∷ ss) = ss

module _ {M : Type 1} {𝓤 : Ura M} (𝓛 : Logic 𝓤) (mem : Memory → SProp 𝓤) (run : Routine → Fun 𝓤) (d : Presentation) where
  pub word-of-as-plain : (κs : Lfts 1) (a : Denots (types_at (rest_of (word_of.signature).params) κs)) (r : Res word_of.signature κs)
      → (word_of.spec 𝓛 mem run κs (d, a)).ensures tt r
      ≡ (plain-word-of.spec 𝓛 mem run κs (d.numbers, a)).ensures tt r
  word-of-as-plain κs a r = refl

  pub collect-as-plain : (κs : Lfts 4) (a : Denots (types_at (rest_of (collect.signature).params) κs)) (r : Res collect.signature κs)
      → (collect.spec 𝓛 mem run κs (d, a)).ensures tt r
      ≡ (plain-collect.spec 𝓛 mem run κs (d.numbers, a)).ensures tt r
  collect-as-plain κs a r = refl

  pub product-as-plain : (κs : Lfts 4) (a : Denots (types_at (rest_of (product.signature).params) κs)) (r : Res product.signature κs)
      → (product.spec 𝓛 mem run κs (d, a)).ensures tt r
      ≡ (plain-product.spec 𝓛 mem run κs (d.numbers, a)).ensures tt r
  product-as-plain κs a r = refl

  pub inverse-as-plain : (κs : Lfts 3) (a : Denots (types_at (rest_of (inverse.signature).params) κs)) (r : Res inverse.signature κs)
      → (inverse.spec 𝓛 mem run κs (d, a)).ensures tt r
      ≡ (plain-inverse.spec 𝓛 mem run κs (d.numbers, a)).ensures tt r
  inverse-as-plain κs a r = refl

  pub depth-as-plain : (κs : Lfts 2) (a : Denots (types_at (rest_of (depth.signature).params) κs)) (r : Res depth.signature κs)
      → (depth.spec 𝓛 mem run κs (d, a)).ensures tt r
      ≡ (plain-depth.spec 𝓛 mem run κs (d.numbers, a)).ensures tt r
  depth-as-plain κs a r = refl

  pub check-as-plain : (κs : Lfts 2) (a : Denots (types_at (rest_of (check.signature).params) κs)) (r : Res check.signature κs)
      → (check.spec 𝓛 mem run κs (d, a)).ensures tt r
      ≡ (plain-check.spec 𝓛 mem run κs (d.numbers, a)).ensures tt r
  check-as-plain κs a r = refl

-- ---- a record that was put together by hand
abbrev pub remade : Presentation → Result (Unit {0}) Refusal → ℕ → ℕ → Presentation
remade d x y z = record { judged = x; p = record { 0 = y }; n = record { 0 = z }; numbers = d.numbers }

module _ {M : Type 1} {𝓤 : Ura M} (𝓛 : Logic 𝓤) (mem : Memory → SProp 𝓤) (run : Routine → Fun 𝓤) (d : Presentation)
    (x : Result (Unit {0}) Refusal) (y z : ℕ) where
  pub word-of-ignores : (κs : Lfts 1) (a : Denots (types_at (rest_of (word_of.signature).params) κs))
      → word_of.spec 𝓛 mem run κs (d, a) ≡ word_of.spec 𝓛 mem run κs (remade d x y z, a)
  word-of-ignores κs a = refl

  pub collect-ignores : (κs : Lfts 4) (a : Denots (types_at (rest_of (collect.signature).params) κs))
      → collect.spec 𝓛 mem run κs (d, a) ≡ collect.spec 𝓛 mem run κs (remade d x y z, a)
  collect-ignores κs a = refl

  pub product-ignores : (κs : Lfts 4) (a : Denots (types_at (rest_of (product.signature).params) κs))
      → product.spec 𝓛 mem run κs (d, a) ≡ product.spec 𝓛 mem run κs (remade d x y z, a)
  product-ignores κs a = refl

  pub inverse-ignores : (κs : Lfts 3) (a : Denots (types_at (rest_of (inverse.signature).params) κs))
      → inverse.spec 𝓛 mem run κs (d, a) ≡ inverse.spec 𝓛 mem run κs (remade d x y z, a)
  inverse-ignores κs a = refl

  pub depth-ignores : (κs : Lfts 2) (a : Denots (types_at (rest_of (depth.signature).params) κs))
      → depth.spec 𝓛 mem run κs (d, a) ≡ depth.spec 𝓛 mem run κs (remade d x y z, a)
  depth-ignores κs a = refl

  pub check-ignores : (κs : Lfts 2) (a : Denots (types_at (rest_of (check.signature).params) κs))
      → check.spec 𝓛 mem run κs (d, a) ≡ check.spec 𝓛 mem run κs (remade d x y z, a)
  check-ignores κs a = refl
