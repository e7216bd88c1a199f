-- The header: p, n, and where the contents and the bodies begin. This is the one place that says where a header number stands;
-- all else asks `prime_of`, `rank_of`, `exponent_of`, `contents_at`, `bodies_at` or the view.
--
-- Main definitions: `entries`, `view_of`, `Seen`.
use Rattle.std.specs.Prelude.{◌≡◌, List, Bool, ℕ, ◌+◌, ◌*◌, ◌/◌, get_or, length, leb}
use Rattle.layout.specs.declared.View.{View}

-- "SHORT: presentation has fewer than 2 numbers": otherwise the header is there.
abbrev pub headed : List ℕ → Bool
headed nums = leb 2 (length nums)

-- "A presentation is a lent slice of 16-bit numbers: p, n, the contents, the bodies."
abbrev pub prime_of : List ℕ → ℕ
prime_of nums = get_or nums 0 0

abbrev pub rank_of : List ℕ → ℕ
rank_of nums = get_or nums 1 0

abbrev pub contents_at : List ℕ → ℕ
contents_at nums = 2

-- "Let R = n(n + 1)/2. The contents have R entries of two numbers."
abbrev pub entries : ℕ → ℕ
entries n = n * (n + 1) / 2

abbrev pub bodies_at : List ℕ → ℕ
bodies_at nums = contents_at nums + 2 * entries (rank_of nums)

-- The header by value, as the code has it.
abbrev pub view_of : List ℕ → View
view_of nums =
    record {
      prime = record { 0 = prime_of nums };
      rank = record { 0 = rank_of nums };
      contents = contents_at nums;
      bodies = bodies_at nums;
    }

-- The view is that of the numbers: `view ≡ view_of nums`, field by field.
pub record Seen (nums : List ℕ) (view : View) : Type 0 where
  pub prime : view.prime.0 ≡ prime_of nums
  pub rank : view.rank.0 ≡ rank_of nums
  pub contents : view.contents ≡ contents_at nums
  pub bodies : view.bodies ≡ bodies_at nums

-- "x_i^p = w_i": the exponent of the generator i, the same for each.
abbrev pub exponent_in : View → ℕ → ℕ
exponent_in view i = view.prime.0

abbrev pub exponent_of : List ℕ → ℕ → ℕ
exponent_of nums = exponent_in (view_of nums)
