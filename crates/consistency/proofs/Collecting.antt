-- Collecting a side: which numbers refuse it, and what the code's answer says of it.
--
-- Main results: `Late`, `late-side`; `outcome-done`, `outcome-refused`; `front-zeros`, `rest-zeros`; `side-sets`, `side-answers`; `padded-zeros`.
use mathlib.Core.Path.{◌≡◌, refl, sym, ap, ap₂, ◌∙◌, subst, subst₂}
use mathlib.Core.List.{List, [], ◌∷◌, ◌++◌}
use mathlib.Core.Bool.{Bool, true, false}
use Prim.Native.Nat.{ℕ, zero, suc, ◌+◌, ◌-◌, ◌/◌, ◌≤◌}
use native.Mathlib.Omega.{arith}
use lib.ListN.{length, take, drop, replicate-append-replicate}
use lib.Dec.{ltb}
use Rattle.std.specs.Prelude.{Result, Ok, Err}
use Rattle.std.proofs.lemmas.List.{take-replicate, drop-replicate}
use Rattle.theory.specs.Presentation.{Vector, Normal, identity}
use Rattle.theory.specs.Placing.{cost}
use Rattle.layout.specs.declared.group.Group.{Group}
use Rattle.layout.specs.Header.{rank_of, bodies_at}
use Rattle.layout.specs.Refusals.{refusal_number}
use Rattle.layout.specs.Relations.{presentation}
use Rattle.layout.proofs.Refusals.{number-some}
use Rattle.slots.specs.Pieces.{Piece}
use Rattle.placing.specs.declared.texts.Texts.{Texts}
use Rattle.placing.specs.Ready.{Ground}
use Rattle.placing.specs.Step.{placing_of, slots_after, Step, refuse, lead, step}
use Rattle.collector.specs.declared.Refused.{Refused}
use Rattle.collector.specs.Given.{number_in, count_in}
use Rattle.collector.specs.Run.{Outcome, done, refused, run, enough, begun}
use Rattle.collector.specs.Running.{Sets, Settled, Answers}
use Rattle.collector.proofs.Finished.{tells-done, tells-refused}
use Rattle.collector.proofs.Holding.{sets-held, told}
use Rattle.consistency.specs.Check.{side_outcome, padded}
use Rattle.consistency.specs.Laying.{Laid}
use Rattle.consistency.proofs.Spelling.{start-normal}

-- 9 or 10.
pub record Late (k : ℕ) : Type 0 where
  pub low : 9 ≤ k
  pub high : k ≤ 10

abbrev LateStep : Step → Type 0
LateStep (refuse k) = Late k
LateStep (lead v slots e p) = Unit {0}

abbrev pub LateOutcome : Outcome → Type 0
LateOutcome (done v c) = Unit {0}
LateOutcome (refused k c) = Late k

nine : Late 9
nine = record { low = omega arith; high = omega arith }

ten : Late 10
ten = record { low = omega arith; high = omega arith }

-- From a placing up to a side, each refusal is handed on.
module _ (nums : List ℕ) (room : ℕ) where
  late-step : (left : ℕ) (v : Vector) (slots : List Piece) → LateStep (step nums left room v slots)
  late-step left v slots = go (ltb left (cost (placing_of nums v slots))) refl (ltb room (length (slots_after nums v slots))) refl
    where
      go : (a : Bool) → ltb left (cost (placing_of nums v slots)) ≡ a → (b : Bool) → ltb room (length (slots_after nums v slots)) ≡ b
          → LateStep (step nums left room v slots)
      go true e b f = rw (e, step) nine
      go false e true f = rw (e, f, step) ten
      go false e false f = rw (e, f, step) tt

  module _ (budget : ℕ) where
    late-run : (fuel : ℕ) (v : Vector) (slots : List Piece) (c : ℕ) → LateOutcome (run fuel nums budget room v slots c)
    late-run zero v slots c = nine
    late-run (suc fuel) v [] c = tt
    late-run (suc fuel) v (x ∷ below) c =
        go (step nums (budget - c) room v (x ∷ below)) refl (late-step (budget - c) v (x ∷ below)) (λ w s d. late-run fuel w s d)
      where
        go : (s : Step) → step nums (budget - c) room v (x ∷ below) ≡ s → LateStep s
            → ((w : Vector) (s : List Piece) (d : ℕ) → LateOutcome (run fuel nums budget room w s d))
            → LateOutcome (run (suc fuel) nums budget room v (x ∷ below) c)
        go (refuse k) e h rest = rw (e, run) h
        go (lead w s d p) e h rest = rw (e, run) (rest w s (c + (d + p)))

    pub late-side : (side : List Piece) → LateOutcome (side_outcome nums budget room side)
    late-side side = go (ltb room (length side)) refl
      where
        go : (b : Bool) → ltb room (length side) ≡ b → LateOutcome (side_outcome nums budget room side)
        go true e = rw (e, begun) ten
        go false e = rw (e, begun) (late-run (enough nums budget side 0) (identity (rank_of nums)) side 0)

-- So it isn't 0, and an answer says which way out it was.
late-some : (o : Outcome) → LateOutcome o → (k d : ℕ) → o ≡ refused k d → k ≡ 0 → ⊥
late-some (done r c) l k d e z = cc
late-some (refused q c) l k d e z = let s : q ≡ k = cc in absurd (omega (arith, l.low))

-- What the answer of a side says of its outcome, where the workspace is as long as at first.
module _ (nums : List ℕ) (budget size : ℕ) {k : ℕ} (long : k ≡ size) {ps qs : List Piece} (same : ps ≡ qs) {ws : List ℕ} {v : Vector} {ws' : List ℕ}
    {answer : Result ℕ Refused} (a : Answers (side_outcome nums budget (k / 3) ps) ws v ws' answer) where
  moved : side_outcome nums budget (size / 3) qs ≡ side_outcome nums budget (k / 3) ps
  moved = sym (ap₂ (λ (m : ℕ) (x : List Piece). side_outcome nums budget (m / 3) x) long same)

  pub outcome-done : (count : ℕ) → answer ≡ Ok count → side_outcome nums budget (size / 3) qs ≡ done v (count_in answer)
  outcome-done count e =
      moved
      ∙ tells-done (side_outcome nums budget (k / 3) ps) answer v
      (late-some (side_outcome nums budget (k / 3) ps) (late-side nums (k / 3) budget ps)) a.tells (ap number_in e)

  pub outcome-refused : (why : Refused) → answer ≡ Err why → side_outcome nums budget (size / 3) qs ≡ refused (refusal_number why.refusal) (count_in answer)
  outcome-refused why e =
      let named : number_in answer ≡ refusal_number why.refusal = ap number_in e in
      moved
      ∙ tells-refused (side_outcome nums budget (k / 3) ps) answer v a.tells (λ z. omega (arith, number-some why.refusal))
      ∙ ap (λ (x : ℕ). refused x (count_in answer)) named

-- n entries of an array of zeros are the identity, and the others are 0 past it.
module _ (n k : ℕ) (is : k ≡ n) (few : n ≤ 40) where
  pub front-zeros : take k (identity 40) ≡ identity n
  front-zeros = take-replicate k 40 0 (omega arith) ∙ ap identity is

  pub rest-zeros : (v : Vector) → v ++ drop k (identity 40) ≡ padded n v
  rest-zeros v = ap (λ (x : Vector). v ++ x) (drop-replicate k 40 0 ∙ ap (λ (m : ℕ). identity (40 - m)) is)

pub padded-zeros : (n : ℕ) → n ≤ 40 → identity 40 ≡ padded n (identity n)
padded-zeros n few =
    let e : 40 ≡ n + (40 - n) = omega arith in
    ap (λ (x : ℕ). identity x) e ∙ sym (replicate-append-replicate n (40 - n) 0)

-- A side's slots settled from the identity, where no word is read.
module _ {group : Group} (texts : Texts) (reads : (texts.group ≡ group) × (texts.word.now ≡ [])) {side : List Piece} {ws₁ : List ℕ} {d : ℕ} {start : Vector}
    (laid : Laid (rank_of group.numbers.now) (drop (bodies_at group.numbers.now) group.numbers.now) side ws₁ d)
    (from-identity : start ≡ identity (rank_of group.numbers.now)) where
  abbrev nums : List ℕ
  nums = group.numbers.now

  ground : Ground group.numbers.now group.view group.bodies.now []
  ground =
      subst (λ (g : Group). Ground g.numbers.now g.view g.bodies.now []) reads.0
      (subst (λ (w : List ℕ). Ground texts.group.numbers.now texts.group.view texts.group.bodies.now w) reads.1 texts.ground)

  here : Laid (rank_of nums) group.bodies.now side ws₁ d
  here = subst (λ (x : List ℕ). Laid (rank_of nums) x side ws₁ d) (sym group.bodies_are) laid

  pub side-sets : (budget : ℕ) → d ≤ 1000 → Sets texts.group.numbers.now texts.group.bodies.now start texts.word.now budget 0 ws₁ d
  side-sets budget small =
      subst (λ (g : Group). Sets g.numbers.now g.bodies.now start texts.word.now budget 0 ws₁ d) (sym reads.0)
      (subst (λ (w : List ℕ). Sets nums group.bodies.now start w budget 0 ws₁ d) (sym reads.1)
      (sets-held ground here.held here.standing
      (subst (Normal (presentation nums) (rank_of nums) 1) (sym from-identity) (start-normal nums group.accepts)) (omega arith) small))

  module _ (budget : ℕ) (ws : List ℕ) {v' : Vector} {ws' : List ℕ} {answer : Result ℕ Refused} (kept : length ws₁ ≡ length ws)
      (s : Settled texts.group.numbers.now texts.group.bodies.now start texts.word.now budget 0 ws₁ d v' ws' answer) where
    settled : Settled nums group.bodies.now start [] budget 0 ws₁ d v' ws' answer
    settled =
        subst (λ (w : List ℕ). Settled nums group.bodies.now start w budget 0 ws₁ d v' ws' answer) reads.1
        (subst (λ (g : Group). Settled g.numbers.now g.bodies.now start texts.word.now budget 0 ws₁ d v' ws' answer) reads.0 s)

    pub side-answers : Answers (side_outcome group.numbers.now budget (length ws / 3) side) ws v' ws' answer
    side-answers =
        subst₂ (λ (x : Vector) (ps : List Piece). Answers (begun nums budget (length ws / 3) x ps 0) ws v' ws' answer) from-identity here.means
        (told ground here.held kept settled)
