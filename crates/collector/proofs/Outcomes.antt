-- The run has one outcome, and always one; what DONE means; a larger budget or room changes nothing.
--
-- Main results:
--   `runs-unique`      one outcome only
--   `runs-outcome`     and always one: that of the function `outcome`
--   `runs-collects`    DONE is collecting, as the theory has it, with its count
--   `runs-larger`      DONE stays under a larger budget or room
use mathlib.Core.Path.{◌≡◌, refl, sym, ap, ap₂, ◌∙◌, subst, subst₂}
use mathlib.Core.List.{List, [], ◌∷◌}
use mathlib.Core.Bool.{Bool, true, false}
use Prim.Native.Nat.{ℕ, zero, suc, ◌+◌, ◌-◌, ◌*◌, ◌≤◌, ◌<◌}
use native.Mathlib.Omega.{arith}
use native.Mathlib.Nat.{mul-add}
use lib.ListN.{length, length-append, drop}
use lib.Dec.{ltb}
use borrow.Author.Tests.{ltb-false, le-ltb}
use Rattle.theory.specs.Presentation.{Presentation, Word, Vector, spell, Normal, Over, Valid}
use Rattle.theory.specs.Placing.{Placed, cost, conjugates, Collects, done as placed-all, next}
use Rattle.theory.proofs.Words.{spell-over, normal-length}
use Rattle.theory.proofs.Collecting.{whole, place-normal}
use Rattle.theory.proofs.Arrays.{place_is, drop-normal, spell-length, conjugate-length, conjugates-length}
use Rattle.layout.specs.Header.{prime_of, rank_of}
use Rattle.layout.specs.Contents.{stretch_of}
use Rattle.layout.specs.Relations.{presentation}
use Rattle.slots.specs.Pieces.{Piece, letters, leading, taken, Pairs, AllWellFormed}
use Rattle.slots.proofs.Letters.{letters-taken, leading-one}
use Rattle.placing.specs.Step.{Step, refuse, lead, step, placing_of, slots_after}
use Rattle.placing.proofs.Spelled.{letters-after, formed-after}
use Rattle.collector.specs.Run.{Outcome, done, refused, Runs, ends, stops, goes, run, enough, outcome}

-- What a step that leads on says: the budget and the room allow it, and where it leads.
pub record Leads (nums : List ℕ) (left room : ℕ) (v : Vector) (slots : List Piece) (v' : Vector) (after : List Piece) (e p : ℕ) : Type 0 where
  pub budgeted : cost (placing_of nums v slots) ≤ left
  pub fits : length (slots_after nums v slots) ≤ room
  pub vector : v' ≡ (placing_of nums v slots).vector
  pub slots-are : after ≡ slots_after nums v slots
  pub exchanges : e ≡ (placing_of nums v slots).exchanges
  pub powers : p ≡ (placing_of nums v slots).powers

pub leads : (nums : List ℕ) (left room : ℕ) (v : Vector) (slots : List Piece) (v' : Vector) (after : List Piece) (e p : ℕ)
    → step nums left room v slots ≡ lead v' after e p → Leads nums left room v slots v' after e p
leads nums left room v slots v' after e p h = go (ltb left (cost (placing_of nums v slots))) refl (ltb room (length (slots_after nums v slots))) refl
  where
    go : (a : Bool) → ltb left (cost (placing_of nums v slots)) ≡ a → (b : Bool) → ltb room (length (slots_after nums v slots)) ≡ b
        → Leads nums left room v slots v' after e p
    go true x b y = let q : ◌≡◌ {A = Step} (refuse 9) (lead v' after e p) = rw (x, step) at h in let z : ◌≡◌ {A = ℕ} 0 1 = cc in absurd (omega arith)
    go false x true y = let q : ◌≡◌ {A = Step} (refuse 10) (lead v' after e p) = rw (x, y, step) at h in let z : ◌≡◌ {A = ℕ} 0 1 = cc in absurd (omega arith)
    go false x false y =
        let s = placing_of nums v slots in
        let q : ◌≡◌ {A = Step} (lead s.vector (slots_after nums v slots) s.exchanges s.powers) (lead v' after e p) = rw (x, y, step) at h in
        record { budgeted = ltb-false _ _ x; fits = ltb-false _ _ y; vector = cc; slots-are = cc; exchanges = cc; powers = cc }

pub step-leads : (nums : List ℕ) (left room : ℕ) (v : Vector) (slots : List Piece)
    → cost (placing_of nums v slots) ≤ left → length (slots_after nums v slots) ≤ room
    → step nums left room v slots
    ≡ lead (placing_of nums v slots).vector (slots_after nums v slots) (placing_of nums v slots).exchanges (placing_of nums v slots).powers
step-leads nums left room v slots h f = rw (le-ltb left (cost (placing_of nums v slots)) h, le-ltb room (length (slots_after nums v slots)) f, step)

module _ (nums : List ℕ) (budget room : ℕ) where
  moved : (c : ℕ) {v w : Vector} {s t : List Piece} {e p f g : ℕ} {o : Outcome} → v ≡ w → s ≡ t → e ≡ f → p ≡ g
      → Runs nums budget room w t (c + (f + g)) o → Runs nums budget room v s (c + (e + p)) o
  moved c {v} {w} {s} {t} {e} {p} {f} {g} {o} a b h k r =
      let q : c + (f + g) ≡ c + (e + p) = omega arith in
      subst (λ (x : Vector). Runs nums budget room x s (c + (e + p)) o) (sym a)
      (subst (λ (x : List Piece). Runs nums budget room w x (c + (e + p)) o) (sym b) (subst (λ (x : ℕ). Runs nums budget room w t x o) q r))

  pub runs-unique : {v : Vector} {slots : List Piece} {c : ℕ} {o q : Outcome} → Runs nums budget room v slots c o → Runs nums budget room v slots c q → o ≡ q
  runs-unique ends ends = refl
  runs-unique (stops {c = c} a) (stops b) = ap (λ (x : ℕ). refused x c) (number a b)
    where
      number : {s : Step} {k l : ℕ} → s ≡ refuse k → s ≡ refuse l → k ≡ l
      number x y = cc
  runs-unique (stops a) (goes b y) = never a b
    where
      never : {s : Step} {k : ℕ} {v : Vector} {t : List Piece} {e p : ℕ} {o q : Outcome} → s ≡ refuse k → s ≡ lead v t e p → o ≡ q
      never x y = cc
  runs-unique (goes a x) (stops b) = never a b
    where
      never : {s : Step} {k : ℕ} {v : Vector} {t : List Piece} {e p : ℕ} {o q : Outcome} → s ≡ lead v t e p → s ≡ refuse k → o ≡ q
      never x y = cc
  runs-unique (goes {c = c} a x) (goes b y) = let h = parts a b in runs-unique x (moved c h.0 h.1 h.2 h.3 y)
    where
      parts : {s : Step} {v w : Vector} {t u : List Piece} {e p f g : ℕ} → s ≡ lead v t e p → s ≡ lead w u f g
          → (v ≡ w) × (t ≡ u) × (e ≡ f) × (p ≡ g)
      parts x y = (cc, cc, cc, cc)

  -- A larger budget or room.
  pub runs-larger : {v r : Vector} {slots : List Piece} {c d : ℕ} (budget' room' : ℕ) → budget ≤ budget' → room ≤ room'
      → Runs nums budget room v slots c (done r d) → Runs nums budget' room' v slots c (done r d)
  runs-larger b' r' h f ends = ends
  runs-larger b' r' h f (goes {v = v} {v' = v'} {x = x} {below = below} {slots = t} {c = c} {e = e} {p = p} a y) =
      let l = leads nums (budget - c) room v (x ∷ below) v' t e p a in
      goes
      (step-leads nums (b' - c) r' v (x ∷ below) (omega (arith, l.budgeted)) (omega (arith, l.fits))
      ∙ sym (step-leads nums (budget - c) room v (x ∷ below) l.budgeted l.fits)
      ∙ a)
      (runs-larger b' r' h f y)

  -- DONE is collecting.
  module _ (valid : Valid (presentation nums)) (paired : (i g : ℕ) → 1 ≤ i → i < g → g ≤ rank_of nums → Pairs (rank_of nums) (stretch_of nums i g)) where
    abbrev P : Presentation
    P = presentation nums

    abbrev n : ℕ
    n = rank_of nums

    recollect : {v v' r : Vector} {w w' : Word} {c : ℕ} → v ≡ v' → w ≡ w' → Collects P 1 v w c r → Collects P 1 v' w' c r
    recollect {v} {v'} {r} {w} {w'} {c} a b x = subst₂ (λ (y : Vector) (z : Word). Collects P 1 y z c r) a b x

    pub runs-collects : {v r : Vector} {slots : List Piece} {c d : ℕ} → Normal P n 1 v → AllWellFormed n slots
        → Runs nums budget room v slots c (done r d) → (t : ℕ) × (d ≡ c + t) × Collects P 1 v (letters slots) t r
    runs-collects {c = c} p w ends = (0, omega arith, placed-all)
    runs-collects {r = r} p w (goes {v = v} {v' = v'} {x = x} {below = below} {slots = t} {c = c} {e = e} {p = q} a y) =
        let s = x ∷ below in
        let l = leads nums (budget - c) room v s v' t e q a in
        let len : length v ≡ n = normal-length P n 1 v p in
        let n' : Normal P n 1 v' = subst (Normal P n 1) (sym l.vector) (place-normal P valid n 1 v (leading s) (whole P) p) in
        let w' : AllWellFormed n t = subst (AllWellFormed n) (sym l.slots-are) (formed-after nums paired v s (omega arith) w len) in
        let rest = runs-collects n' w' y in
        let z = recollect l.vector (ap letters l.slots-are ∙ letters-after nums v s (omega arith) w len) rest.2 in
        let u : cost (placing_of nums v s) ≡ e + q = ap₂ (λ (f g : ℕ). f + g) (sym l.exchanges) (sym l.powers) in (
          cost (placing_of nums v s) + rest.0,
          omega (arith, rest.1),
          subst (λ (x : Word). Collects P 1 v x (cost (placing_of nums v s) + rest.0) r) (sym (letters-taken n s (omega arith) w)) (next z),
        )

    -- How many letters a placing leaves on the slots.
    abbrev bound : ℕ
    bound = rank_of nums * prime_of nums

    letters-left : (v : Vector) (slots : List Piece) → 1 ≤ length slots → Normal P n 1 v → AllWellFormed n slots
        → suc (length (letters (slots_after nums v slots))) ≤ length (letters slots) + (placing_of nums v slots).exchanges * bound
    letters-left v slots h p w =
        let i = leading slots in
        let r = leading-one n slots h w in
        let len : length v ≡ n = normal-length P n 1 v p in
        let is = place_is P 1 v i (i - 1) (omega (arith, r.0)) (omega (arith, r.0, r.1)) in
        let after : length (letters (slots_after nums v slots)) ≡ length (placing_of nums v slots).puts + length (letters (taken slots)) =
        ap length (letters-after nums v slots h w len) ∙ length-append (placing_of nums v slots).puts (letters (taken slots)) in
        let before : length (letters slots) ≡ suc (length (letters (taken slots))) = ap length (letters-taken n slots h w) in
        let tail : Vector = drop (suc (i - 1)) v in
        let rest = drop-normal P (suc (i - 1)) (n - i) n 1 (suc i) v (omega (arith, r.0, r.1)) (omega (arith, r.0)) p in
        let o : Over P (suc i) (spell (suc i) tail) = spell-over P (n - i) (suc i) tail (omega (arith, r.1)) rest in
        let puts : length (conjugates P i (spell (suc i) tail)) ≤ length (spell (suc i) tail) * bound =
        conjugates-length P i bound (spell (suc i) tail) o (λ g a b. conjugate-length P valid (prime_of nums) i g (λ j. omega arith) r.0 a b) in
        let same : length (placing_of nums v slots).puts ≡ length (conjugates P i (spell (suc i) tail)) = ap (λ (x : Placed). length x.puts) is in
        let sum : (placing_of nums v slots).exchanges ≡ length (spell (suc i) tail) = ap (λ (x : Placed). x.exchanges) is ∙ sym (spell-length P (suc i) tail) in
        let times : (placing_of nums v slots).exchanges * bound ≡ length (spell (suc i) tail) * bound = ap (λ (x : ℕ). x * bound) sum in
        omega arith

    -- Each placing brings the letters on the slots, and what the budget leaves for exchanges, down.
    pub falls : (c : ℕ) {v v' : Vector} {slots t : List Piece} {e q : ℕ} → 1 ≤ length slots → Normal P n 1 v → AllWellFormed n slots
        → Leads nums (budget - c) room v slots v' t e q
        → length (letters t) + bound * (budget - (c + (e + q))) < length (letters slots) + bound * (budget - c)
    falls c {v} {v'} {slots} {t} {e} {q} some p w l =
        let left : suc (length (letters (slots_after nums v slots))) ≤ length (letters slots) + (placing_of nums v slots).exchanges * bound =
        letters-left v slots some p w in
        let lt : length (letters t) ≡ length (letters (slots_after nums v slots)) = ap (λ (y : List Piece). length (letters y)) l.slots-are in
        let ex : e * bound ≡ (placing_of nums v slots).exchanges * bound = ap (λ (y : ℕ). y * bound) l.exchanges in
        let pays : e + q ≤ budget - c = omega (arith, l.budgeted, l.exchanges, l.powers) in
        let left_over : budget - (c + (e + q)) + (e + q) ≡ budget - c = omega arith in
        let spent : bound * (budget - (c + (e + q))) + bound * (e + q) ≡ bound * (budget - c) =
        sym (mul-add bound (budget - (c + (e + q))) (e + q)) ∙ ap (λ (y : ℕ). bound * y) left_over in
        let more : e * bound ≤ bound * (e + q) = omega arith in
        omega arith

    -- Where a placing leads, the vector is normal and the slots are well formed again.
    pub leads-normal : {left : ℕ} {v v' : Vector} {slots t : List Piece} {e q : ℕ} → Normal P n 1 v → Leads nums left room v slots v' t e q → Normal P n 1 v'
    leads-normal {v = v} {slots = slots} p l = subst (Normal P n 1) (sym l.vector) (place-normal P valid n 1 v (leading slots) (whole P) p)

    pub leads-formed : {left : ℕ} {v v' : Vector} {slots t : List Piece} {e q : ℕ} → 1 ≤ length slots → Normal P n 1 v → AllWellFormed n slots
        → Leads nums left room v slots v' t e q → AllWellFormed n t
    leads-formed {v = v} {slots = slots} some p w l =
        subst (AllWellFormed n) (sym l.slots-are) (formed-after nums paired v slots some w (normal-length P n 1 v p))

    -- The function makes placings enough.
    runs-run : (f : ℕ) (v : Vector) (slots : List Piece) (c : ℕ) → Normal P n 1 v → AllWellFormed n slots
        → length (letters slots) + bound * (budget - c) < f → Runs nums budget room v slots c (run f nums budget room v slots c)
    runs-run zero v slots c p w h = absurd (omega arith)
    runs-run (suc f) v [] c p w h = ends
    runs-run (suc f) v (x ∷ below) c p w h =
        go (step nums (budget - c) room v (x ∷ below)) refl (λ v' t d q u g. runs-run f v' t d q u g)
      where
        go : (a : Step) → step nums (budget - c) room v (x ∷ below) ≡ a
            → ((v' : Vector) (t : List Piece) (d : ℕ) → Normal P n 1 v' → AllWellFormed n t → length (letters t) + bound * (budget - d) < f
            → Runs nums budget room v' t d (run f nums budget room v' t d))
            → Runs nums budget room v (x ∷ below) c (run (suc f) nums budget room v (x ∷ below) c)
        go (refuse k) e rest = rw (e, run) (stops e)
        go (lead v' t e q) a rest =
            let l = leads nums (budget - c) room v (x ∷ below) v' t e q a in
            let less = falls c (omega arith) p w l in
            rw (a, run) (goes a (rest v' t (c + (e + q)) (leads-normal p l) (leads-formed (omega arith) p w l) (omega (arith, less))))

    pub runs-outcome : (v : Vector) (slots : List Piece) (c : ℕ) → Normal P n 1 v → AllWellFormed n slots
        → Runs nums budget room v slots c (outcome nums budget room v slots c)
    runs-outcome v slots c p w = runs-run (enough nums budget slots c) v slots c p w (omega arith)

    -- So an outcome by the rules is the function's.
    pub outcome-is : {v : Vector} {slots : List Piece} {c : ℕ} {o : Outcome} → Normal P n 1 v → AllWellFormed n slots
        → Runs nums budget room v slots c o → outcome nums budget room v slots c ≡ o
    outcome-is {v} {slots} {c} p w r = runs-unique (runs-outcome v slots c p w) r
