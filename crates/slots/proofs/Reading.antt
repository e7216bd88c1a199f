-- Reading the top slot: what it allows, which generator it begins with, and what taking it brings about.
--
-- Main laws: `top-sound`, `top-rest`, `leads`, `low`, `took-some`, `took-none`.
use mathlib.Core.Path.{◌≡◌, refl, sym, ap, ◌∙◌}
use mathlib.Core.List.{List, ◌∷◌, map}
use Prim.Native.Nat.{ℕ, ◌+◌, ◌-◌, ◌≤◌}
use native.Mathlib.Omega.{arith}
use lib.ListN.{length, length-map}
use Rattle.std.specs.Prelude.{Some, None}
use Rattle.layout.specs.declared.Generator.{Generator}
use Rattle.layout.specs.declared.Exponent.{Exponent}
use Rattle.slots.specs.declared.Slot.{Slot}
use Rattle.slots.specs.declared.Slot.TheVariants.{Power, Relation, Input}
use Rattle.slots.specs.Slots.{slot_at, stack, lessened, power_of, front_of, rest_of, Sound, Pushed, Brought}
use Rattle.slots.specs.Pieces.{Piece, string, meaning, pieces, leading, generator_of, taken}
use Rattle.slots.specs.Stacked.{Standing, Stacked, Took}
use Rattle.slots.proofs.Brings.{brought-from}
use Rattle.slots.proofs.Stores.{stack_top}
use Rattle.slots.proofs.Strings.{stretch-step}
use Rattle.slots.proofs.Remaining.{remaining, over, remaining-is, meaning-remaining, standing-remaining, rest-sound}
use Rattle.slots.proofs.Stacks.{sound, standing-top, leading_top}

-- What reading the top slot starts from: the stack stands, and x is its top slot.
pub record Top (bodies word ws : List ℕ) (d : ℕ) (x : Slot) : Type 0 where
  pub some : 1 ≤ d
  pub stands : Stacked 40 bodies word ws d
  pub is : slot_at ws (d - 1) ≡ x

pub top_of
    : {bodies word ws : List ℕ} {d : ℕ} {x : Slot} → (1 ≤ d) × Stacked 40 bodies word ws d → x ≡ slot_at ws (d - 1)
    → Top bodies word ws d x
top_of h e = record { some = h.0; stands = h.1; is = sym e }

-- A slot begins with the generator that its piece begins with.
front-leads
    : (n : ℕ) (bodies word : List ℕ) (x : Slot) → Standing n bodies word x
    → (front_of bodies word x).0.0 ≡ generator_of (meaning bodies word x)
front-leads n bodies word (Power i e) h = refl
front-leads n bodies word (Relation s k) h = sym (ap (λ (l : List ℕ). generator_of (string l)) (stretch-step bodies s k h))
front-leads n bodies word (Input s k) h = sym (ap (λ (l : List ℕ). generator_of (string l)) (stretch-step word s k h))

module _ (bodies word : List ℕ) where
  top-stands : {ws : List ℕ} {d : ℕ} {x : Slot} → Top bodies word ws d x → Standing 40 bodies word x
  top-stands {x = x} t = (standing-top bodies word 40 x t.some t.stands t.is).0

  -- The top slot and its rest can be stored.
  pub top-sound : {ws : List ℕ} {d : ℕ} {x : Slot} → Top bodies word ws d x → Sound x
  top-sound {x = x} t = sound bodies word 40 x t.stands.sources (top-stands t)

  pub top-rest : {ws : List ℕ} {d : ℕ} {x y : Slot} → Top bodies word ws d x → rest_of x ≡ Some y → Sound y
  top-rest {x = x} {y = y} t r = rest-sound 40 bodies word x y t.stands.sources (top-stands t) r

  -- The pieces of a stack whose top slot is known.
  pub pieces-top
      : {ws : List ℕ} {d : ℕ} {x : Slot} → Top bodies word ws d x
      → pieces bodies word ws d ≡ meaning bodies word x ∷ map (meaning bodies word) (stack ws (d - 1))
  pieces-top {ws} {d} t =
      ap (map (meaning bodies word)) (stack_top ws d t.some ∙ ap (λ (y : Slot). y ∷ stack ws (d - 1)) t.is)

  -- The generator that the stack begins with is the top slot's.
  pub leads
      : {ws : List ℕ} {d : ℕ} {x : Slot} → Top bodies word ws d x
      → (front_of bodies word x).0.0 ≡ leading (pieces bodies word ws d)
  leads {x = x} t = front-leads 40 bodies word x (top-stands t) ∙ sym (ap leading (pieces-top t))

  pub low : {ws : List ℕ} {d : ℕ} {x : Slot} → Top bodies word ws d x → (front_of bodies word x).0.0 ≤ 40
  low t = rw (leads t) (leading_top bodies word 40 t.some t.stands).1

  -- Taking the top slot: from what was put back, what it means.
  pub took
      : {ws ws' : List ℕ} {d r : ℕ} {x : Slot} → Top bodies word ws d x
      → Brought (remaining bodies word x (stack ws (d - 1))) ws ws' r → Took bodies word ws d ws' r
  took {ws} {ws'} {d} {r} {x} t b =
      let left : map (meaning bodies word) (remaining bodies word x (stack ws (d - 1))) ≡ taken (pieces bodies word ws d) =
      meaning-remaining bodies word 40 x (stack ws (d - 1)) (top-stands t) ∙ sym (ap taken (pieces-top t)) in
      record {
        kept = b.kept;
        depth =
            b.depth
            ∙ sym (length-map (remaining bodies word x (stack ws (d - 1))) (meaning bodies word))
            ∙ ap (length {A = Piece}) left;
        left = λ room. ap (map (meaning bodies word)) (b.stacked room) ∙ left;
        stacked = λ n sn room.
            let all = standing-top bodies word n x t.some sn t.is in
            record {
              sources = sn.sources;
              fits = omega arith;
              slots = rw (b.stacked room) (standing-remaining bodies word n x (stack ws (d - 1)) sn.sources all.0 all.1);
            };
      }

  -- The same from lessening the power that it begins with, on top of its rest.
  took-over
      : {ws ws₁ ws' : List ℕ} {d r : ℕ} {x : Slot} {f : Generator × Exponent} (xs : List Slot) → Top bodies word ws d x
      → f ≡ front_of bodies word x → length ws₁ ≡ length ws → xs ≡ over (rest_of x) (stack ws (d - 1))
      → Brought (lessened (power_of f.0) f.1.0 xs) ws₁ ws' r → Took bodies word ws d ws' r
  took-over {ws} {d = d} {x = x} xs t is l s b =
      took t (brought-from (rw (s, is) (sym (remaining-is bodies word x (stack ws (d - 1))))) l b)

  pub took-none
      : {ws ws' : List ℕ} {d r : ℕ} {x : Slot} {f : Generator × Exponent} → Top bodies word ws d x → f ≡ front_of bodies word x
      → rest_of x ≡ None → Brought (lessened (power_of f.0) f.1.0 (stack ws (d - 1))) ws ws' r → Took bodies word ws d ws' r
  took-none {ws} {d = d} t is none b = took-over (stack ws (d - 1)) t is refl (rw none refl) b

  pub took-some
      : {ws ws₁ ws' : List ℕ} {d r : ℕ} {x y : Slot} {f : Generator × Exponent} → Top bodies word ws d x
      → f ≡ front_of bodies word x → rest_of x ≡ Some y → Pushed y ws (d - 1) ws₁
      → Brought (lessened (power_of f.0) f.1.0 (stack ws₁ d)) ws₁ ws' r → Took bodies word ws d ws' r
  took-some {ws₁ = ws₁} {d = d} t is some p b =
      let same : d ≡ d - 1 + 1 = omega arith in
      took-over (stack ws₁ d) t is p.kept (rw some (ap (stack ws₁) same ∙ p.stacked)) b
