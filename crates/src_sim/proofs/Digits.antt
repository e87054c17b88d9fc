-- Digits read one by one. Assumes nothing.
use Rattle.std.proofs.Common.{◌≡◌, ℕ, suc, ◌+◌, ◌*◌, ◌<◌, min, Bool, true, false, cond, ◌&&◌, ltb, List, [], ◌∷◌, length, get_or, drop, Some, None, Option, refl, ap, ⊎_elim, le-mul_of_pos_right, add-one, arith, drop-cons}
use Rattle.std.specs.Str.Parse.{digits_value_after}
use Rattle.std.specs.Char.{digit_value}
use Rattle.std.proofs.str.Laws.{order}
use Rattle.src_sim.specs.Numbers.{digit_of, all_digits, most, numeral}
use Rattle.src_sim.specs.Bases.{radix_of}
use Rattle.src_sim.specs.declared.numbers.Base.{Base}
use Rattle.src_sim.specs.declared.numbers.Base.TheVariants.{Decimal, Hexadecimal}

-- the digits cs read after those of n
abbrev pub read_on : ℕ → ℕ → List ℕ → Option ℕ
read_on base n [] = Some (min most n)
read_on base n (c ∷ cs) = cond (ltb (digit_value c) base) (read_on base (n * base + digit_value c) cs) None

by_value : (base n : ℕ) (cs : List ℕ) → read_on base n cs ≡ cond (all_digits base cs) (Some (min most (digits_value_after base n cs))) None
by_value base n [] = refl
by_value base n (c ∷ cs) =
    let m : ℕ = n * base + digit_value c in
    elim (ltb (digit_value c) base) as (λ b. cond b (read_on base m cs) None ≡ cond (b && all_digits base cs) (Some (min most (digits_value_after base m cs))) None) [ true ↦ by_value base m cs | false ↦ refl ]

-- digits are read from nothing
pub from_none : (base : ℕ) (cs : List ℕ) → 0 < length cs → read_on base 0 cs ≡ numeral base cs
from_none base [] h = absurd (omega arith)
from_none base (c ∷ cs) h = by_value base 0 (c ∷ cs)

cap_more : (m n base d : ℕ) → 0 < base → min most m ≡ min most n → min most (m * base + d) ≡ min most (n * base + d)
cap_more m n base d pos e =
    ⊎_elim
    (λ low. let same : m ≡ n = omega (arith, e) in ap (λ k. min most (k * base + d)) same)
    (λ high. omega (arith, e, le-mul_of_pos_right m pos, le-mul_of_pos_right n pos))
    (order m most)

-- only what is below the largest number counts
pub capped_on : (base : ℕ) (m n : ℕ) (cs : List ℕ) → 0 < base → min most m ≡ min most n → read_on base m cs ≡ read_on base n cs
capped_on base m n [] pos e = ap Some e
capped_on base m n (c ∷ cs) pos e =
    ap (λ o. cond (ltb (digit_value c) base) o None) (capped_on base (m * base + digit_value c) (n * base + digit_value c) cs pos (cap_more m n base (digit_value c) pos e))

digit_step : (b : Bool) (base n v d : ℕ) (rest : List ℕ) → 0 < base → cond b (Some v) None ≡ Some d → read_on base (min most (n * base + d)) rest ≡ cond b (read_on base (n * base + v) rest) None
digit_step true base n v d rest pos is =
    let same : v ≡ d = cc in
    capped_on base (min most (n * base + d)) (n * base + v) rest pos (omega (arith, ap (λ k. n * base + k) same))
digit_step false base n v d rest pos is = let never : ◌≡◌ {A = ℕ} 0 1 = cc in absurd (omega arith)

-- one digit more
pub one_more : (base n d i : ℕ) (cs : List ℕ) → 0 < base → i < length cs → digit_of base (get_or cs i 0) ≡ Some d → read_on base (min most (n * base + d)) (drop (i + 1) cs) ≡ read_on base n (drop i cs)
one_more base n d i cs pos lt is =
    rw (add-one, drop-cons cs i 0) (digit_step (ltb (digit_value (get_or cs i 0)) base) base n (digit_value (get_or cs i 0)) d (drop (suc i) cs) pos is)

-- a base has digits
pub has_digits : (base : Base) → 0 < radix_of base
has_digits Decimal = omega arith
has_digits Hexadecimal = omega arith
