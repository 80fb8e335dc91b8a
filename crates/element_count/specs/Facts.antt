-- What the proofs of the product cite, and whoever goes on with it. Assumes nothing.
use Rattle.std.specs.Prelude.{ℕ, suc, ◌+◌, ◌-◌, ◌*◌, ◌/◌, ◌^◌, ◌≤◌, ◌<◌, ◌≡◌, refl, Bool, true, false, List, [], ◌∷◌, ◌++◌, ltb, length, take, get_or, Option, Some, None}
use Rattle.std.specs.Option.{SomeIff}
use Rattle.std.proofs.Common.{ap, sym, ◌∙◌, one-mul, mul-one, mul_assoc, mul_comm, le-mul_of_pos_right, le-div_iff_mul-le, div-lt_iff_lt-mul, arith, take-suc, ltb-true, ltb-false, lt-ltb, le-ltb}
use Rattle.records.specs.Elements.{product, count_of}

-- the product of one size more
product-append : (xs : List ℕ) (x : ℕ) → product (xs ++ (x ∷ [])) ≡ product xs * x
unfolding product
product-append [] x = mul-one x ∙ sym (one-mul x)
product-append (y ∷ ys) x = ap (λ (n : ℕ). y * n) (product-append ys x) ∙ sym (mul_assoc y (product ys) x)

pub product_more : (xs : List ℕ) (i : ℕ) → i < length xs → product (take i xs) * get_or xs i 0 ≡ product (take (i + 1) xs)
product_more xs i h =
    let e : i + 1 ≡ suc i = omega arith in
    rw (e, take-suc xs i 0 h) (sym (product-append (take i xs) (get_or xs i 0)))

-- a product by its factors: too large, and not
pub too_large : (a b : ℕ) → (a ≡ 0 → ⊥) → (2 ^ 64 - 1) / a < b → 2 ^ 64 ≤ a * b
too_large a b z h =
    let l : 2 ^ 64 - 1 < b * a = (div-lt_iff_lt-mul {k = a} {x = 2 ^ 64 - 1} {y = b} (omega arith)).0 h in
    omega (arith, mul_comm a b)

pub not_too_large : (a b : ℕ) → (a ≡ 0 → ⊥) → b ≤ (2 ^ 64 - 1) / a → a * b < 2 ^ 64
not_too_large a b z h =
    let l : b * a ≤ 2 ^ 64 - 1 = (le-div_iff_mul-le {k = a} {x = b} {y = 2 ^ 64 - 1} (omega arith)).0 h in
    omega (arith, mul_comm a b)

-- a number that fits is the count, and one that does not is too many; and back
pub count_fits : (n : ℕ) → n < 2 ^ 64 → count_of n ≡ Some n
count_fits n h = rw (lt-ltb n (2 ^ 64) h)

pub count_many : (n : ℕ) → 2 ^ 64 ≤ n → count_of n ≡ None
count_many n h = rw (le-ltb n (2 ^ 64) h)

pub fits_count : (k n : ℕ) → Some k ≡ count_of n → k ≡ n
fits_count k n d = go (ltb n (2 ^ 64)) refl
  where
    go : (t : Bool) → ltb n (2 ^ 64) ≡ t → k ≡ n
    go true e = let f = count_fits n (ltb-true n (2 ^ 64) e) in cc
    go false e = let f = count_many n (ltb-false n (2 ^ 64) e) in cc

pub many_count : (n : ℕ) → None ≡ count_of n → 2 ^ 64 ≤ n
many_count n d = go (ltb n (2 ^ 64)) refl
  where
    go : (t : Bool) → ltb n (2 ^ 64) ≡ t → 2 ^ 64 ≤ n
    go true e = let f = count_fits n (ltb-true n (2 ^ 64) e) in cc
    go false e = ltb-false n (2 ^ 64) e

-- a checked product is the count of the product
pub checked_count : (r : Option ℕ) (n : ℕ) → SomeIff r (n < 2 ^ 64) n → r ≡ count_of n
checked_count (Some x) n h = ap Some h.1 ∙ sym (count_fits n h.0)
checked_count None n h = sym (count_many n (omega arith))

-- too many, some times, are too many
pub many_times : (m n : ℕ) → (n ≡ 0 → ⊥) → 2 ^ 64 ≤ m → 2 ^ 64 ≤ m * n
many_times m n z h = let l : m ≤ m * n = le-mul_of_pos_right m (omega arith) in omega arith
