-- What a collection stands on holds in at most one way, so that a value of the code can carry it.
--
-- Main result: `ground-prop`.
use Rattle.std.specs.Prelude.{◌≡◌, List, [], ◌∷◌, ℕ}
use Rattle.std.specs.Coded.{×_prop, Unit-prop, le_prop, Coded-set, coded_ℕ, coded_list}
use Rattle.layout.specs.declared.View.{View}
use Rattle.layout.specs.Header.{Seen}
use Rattle.slots.specs.Pieces.{Pair, Pairs}
use Rattle.slots.specs.Stacked.{Sources}
use Rattle.placing.specs.Ready.{Ground}

same : (m n : ℕ) → IsProp (m ≡ n)
same m n = Coded-set coded_ℕ m n

pair-prop : (n g a : ℕ) → IsProp (Pair n g a)
pair-prop n g a x y i = record { low = le_prop x.low y.low i; high = le_prop x.high y.high i; some = le_prop x.some y.some i }

pairs-prop : (n : ℕ) (pairs : List ℕ) → IsProp (Pairs n pairs)
pairs-prop n [] = Unit-prop
pairs-prop n (g ∷ []) = λ x y. absurd x
pairs-prop n (g ∷ a ∷ pairs) = ×_prop (pair-prop n g a) (pairs-prop n pairs)

sources-prop : (n : ℕ) (bodies word : List ℕ) → IsProp (Sources n bodies word)
sources-prop n bodies word x y i = record {
  rank = le_prop x.rank y.rank i;
  body_pairs = pairs-prop n bodies x.body_pairs y.body_pairs i;
  body_count = le_prop x.body_count y.body_count i;
  word_pairs = pairs-prop n word x.word_pairs y.word_pairs i;
  word_count = le_prop x.word_count y.word_count i;
}

seen-prop : (nums : List ℕ) (view : View) → IsProp (Seen nums view)
seen-prop nums view x y i = record {
  prime = same _ _ x.prime y.prime i;
  rank = same _ _ x.rank y.rank i;
  contents = same _ _ x.contents y.contents i;
  bodies = same _ _ x.bodies y.bodies i;
}

pub ground-prop : (nums : List ℕ) (view : View) (bodies word : List ℕ) → IsProp (Ground nums view bodies word)
ground-prop nums view bodies word x y i = record {
  accepts = same _ _ x.accepts y.accepts i;
  seen = seen-prop nums view x.seen y.seen i;
  bodies_are = Coded-set (coded_list coded_ℕ) _ _ x.bodies_are y.bodies_are i;
  sources = sources-prop (Rattle.layout.specs.Header.rank_of nums) bodies word x.sources y.sources i;
}
