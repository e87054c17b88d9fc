-- Shifts by one place, done n times, are a shift by n places. Assumes nothing.
use Rattle.std.proofs.Common.{◌≡◌, ℕ, zero, suc, ◌+◌, ◌-◌, ◌*◌, ◌/◌, ◌%◌, ◌^◌, ◌<◌, ◌≤◌, Bool, true, false, cond, sym, refl, ap, ◌∙◌, mod-lt, mul_assoc, mul_comm, add-mul, add_comm, pow-suc, div-add-mod', div-one, mul_left_comm, one-add, arith, pow_pos, pow_mono, pow-add, shr-shr, eq-eqb, ne_eqb, eqb-true}
use native.Mathlib.Nat.{add-mul-div_right, add-mul-mod_self_right}
use lib.Arith.{digits_div, digits_mod}
use borrow.Author.Tests.{eqb-false}
use Rattle.isa.specs.declared.operation.Shift.{Shift}
use Rattle.isa.specs.declared.operation.Shift.TheVariants.{Shr, Shra, Shl, Shc}
use Rattle.isa.specs.Arithmetic.{sign, shifted_once, shifted}

unfoldable pub iterate : Shift → ℕ → ℕ → ℕ
iterate h zero x = x
iterate h (suc k) x = iterate h k (shifted_once h x)

-- right
shr_all : (k x : ℕ) → iterate Shr k x ≡ x / 2 ^ k
unfolding iterate
shr_all zero x = sym (div-one x)
shr_all (suc k) x = shr_all k (x / 2) ∙ shr-shr x 1 k ∙ ap (λ (j : ℕ). x / 2 ^ j) (one-add k)

-- left
regroup : (x p q r m : ℕ) → q * m + r ≡ x * 2 → x * (p * 2) ≡ r * p + q * p * m
regroup x p q r m e =
    let a : x * (p * 2) ≡ x * 2 * p = simp (mul_assoc, mul_comm, mul_left_comm) in
    let b : (q * m + r) * p ≡ r * p + q * p * m = simp (add-mul, mul_assoc, mul_comm, mul_left_comm, add_comm) in
    a ∙ ap (λ (y : ℕ). y * p) (sym e) ∙ b

left_more : (k x m : ℕ) → x * 2 % m * 2 ^ k % m ≡ x * 2 ^ suc k % m
left_more k x m =
    sym (add-mul-mod_self_right (x * 2 % m * 2 ^ k) (x * 2 / m * 2 ^ k) m)
    ∙ ap (λ (y : ℕ). y % m) (sym (ap (λ (y : ℕ). x * y) (pow-suc 2 k) ∙ regroup x (2 ^ k) (x * 2 / m) (x * 2 % m) m (div-add-mod' (x * 2) m)))

shl_all : (k x : ℕ) → x < 2 ^ 32 → iterate Shl k x ≡ x * 2 ^ k % 2 ^ 32
unfolding iterate
shl_all zero x h = omega arith
shl_all (suc k) x h =
    let b : x * 2 % 2 ^ 32 < 2 ^ 32 = omega arith in
    shl_all k (x * 2 % 2 ^ 32) b ∙ left_more k x (2 ^ 32)

-- right, with the sign
sign_set : (x : ℕ) → 2 ^ 31 ≤ x → x < 2 ^ 32 → sign x ≡ true
sign_set x h l = eq-eqb (x / 2 ^ 31 % 2) 1 (omega arith)

sign_clear : (x : ℕ) → x < 2 ^ 31 → sign x ≡ false
sign_clear x h = ne_eqb (x / 2 ^ 31 % 2) 1 (λ e. omega arith)

clear_all : (k x : ℕ) → x < 2 ^ 31 → iterate Shra k x ≡ x / 2 ^ k
unfolding iterate
clear_all zero x h = sym (div-one x)
clear_all (suc k) x h =
    let b : x / 2 < 2 ^ 31 = omega arith in
    ap (λ (s : Bool). iterate Shra k (cond s (x / 2 + 2 ^ 31) (x / 2))) (sign_clear x h)
    ∙ clear_all k (x / 2) b ∙ shr-shr x 1 k ∙ ap (λ (j : ℕ). x / 2 ^ j) (one-add k)

set_more : (j k x : ℕ) → j + k ≡ 31 → (x / 2 + 2 ^ 31) / 2 ^ k + (2 ^ 32 - 2 ^ suc j) ≡ x / 2 ^ suc k + (2 ^ 32 - 2 ^ j)
set_more j k x e =
    let p : 2 ^ j * 2 ^ k ≡ 2 ^ 31 = sym (pow-add 2 j k) ∙ ap (λ (i : ℕ). 2 ^ i) e in
    let d : (x / 2 + 2 ^ 31) / 2 ^ k ≡ x / 2 / 2 ^ k + 2 ^ j = ap (λ (y : ℕ). (x / 2 + y) / 2 ^ k) (sym p) ∙ add-mul-div_right (x / 2) (2 ^ j) (pow_pos k) in
    let f : x / 2 / 2 ^ k ≡ x / 2 ^ suc k = shr-shr x 1 k ∙ ap (λ (i : ℕ). x / 2 ^ i) (one-add k) in
    let l : j ≤ 31 = omega arith in
    let m : 2 ^ j ≤ 2 ^ 31 = pow_mono l in
    let s : 2 ^ suc j ≡ 2 ^ j * 2 = pow-suc 2 j in
    omega arith

set_all : (j k x : ℕ) → j + k ≡ 32 → 0 < j → 2 ^ 31 ≤ x → x < 2 ^ 32 → iterate Shra k x ≡ x / 2 ^ k + (2 ^ 32 - 2 ^ j)
unfolding iterate
set_all j zero x e p h l =
    let a : 32 ≡ j = omega arith in
    let z : x ≡ x / 2 ^ 0 + (2 ^ 32 - 2 ^ 32) = omega arith in
    z ∙ ap (λ (i : ℕ). x / 2 ^ 0 + (2 ^ 32 - 2 ^ i)) a
set_all zero (suc k) x e p h l = absurd (omega arith)
set_all (suc j) (suc k) x e p h l =
    let b : 2 ^ 31 ≤ x / 2 + 2 ^ 31 = omega arith in
    let c : x / 2 + 2 ^ 31 < 2 ^ 32 = omega arith in
    let d : suc (suc j) + k ≡ 32 = omega arith in
    let f : suc j + k ≡ 31 = omega arith in
    ap (λ (s : Bool). iterate Shra k (cond s (x / 2 + 2 ^ 31) (x / 2))) (sign_set x h l)
    ∙ set_all (suc (suc j)) k (x / 2 + 2 ^ 31) d (omega arith) b c ∙ set_more (suc j) k x f

-- round
round_more : (p q b h l : ℕ) → l < q → b ≤ 1 →
    (h * (q * 2) + (l * 2 + b)) % (q * 2) * p + (h * (q * 2) + (l * 2 + b)) / (q * 2)
    ≡ ((b * p + h) * q + l) % q * (p * 2) + ((b * p + h) * q + l) / q
round_more p q b h l i j =
    let m : l * 2 + b < q * 2 = omega arith in
    let e1 = digits_div h m in
    let e2 = digits_mod h m in
    let e3 = digits_div (b * p + h) i in
    let e4 = digits_mod (b * p + h) i in
    let f : (l * 2 + b) * p + h ≡ l * (p * 2) + (b * p + h) = simp (add-mul, mul_assoc, mul_comm 2 p) (omega arith) in
    cc

round_step : (j k x : ℕ) → j + k ≡ 31 → x < 2 ^ 32 →
    (x * 2 % 2 ^ 32 + x / 2 ^ 31) % 2 ^ suc j * 2 ^ k + (x * 2 % 2 ^ 32 + x / 2 ^ 31) / 2 ^ suc j ≡ x % 2 ^ j * 2 ^ suc k + x / 2 ^ j
round_step j k x e l =
    let p : 2 ^ k * 2 ^ j ≡ 2 ^ 31 = sym (pow-add 2 k j) ∙ ap (λ (i : ℕ). 2 ^ i) (add_comm k j ∙ e) in
    let b : ℕ = x / 2 ^ 31 in
    let h : ℕ = x % 2 ^ 31 / 2 ^ j in
    let r : ℕ = x % 2 ^ 31 % 2 ^ j in
    let d : h * 2 ^ j + r ≡ x % 2 ^ 31 = div-add-mod' (x % 2 ^ 31) (2 ^ j) in
    let y : x * 2 % 2 ^ 32 + x / 2 ^ 31 ≡ h * (2 ^ j * 2) + (r * 2 + b) = omega (arith, mul_assoc h (2 ^ j) 2) in
    let u : x ≡ (b * 2 ^ k + h) * 2 ^ j + r =
    omega (arith, add-mul (b * 2 ^ k) h (2 ^ j), mul_assoc b (2 ^ k) (2 ^ j) ∙ ap (λ (i : ℕ). b * i) p) in
    let i : r < 2 ^ j = mod-lt (x % 2 ^ 31) (pow_pos j) in
    let m : b ≤ 1 = omega arith in
    let main = round_more (2 ^ k) (2 ^ j) b h r i m in
    let sj : 2 ^ suc j ≡ 2 ^ j * 2 = pow-suc 2 j in
    let sk : 2 ^ suc k ≡ 2 ^ k * 2 = pow-suc 2 k in
    cc

round_all : (j k x : ℕ) → j + k ≡ 32 → 0 < j → x < 2 ^ 32 → iterate Shc k x ≡ x % 2 ^ j * 2 ^ k + x / 2 ^ j
unfolding iterate
round_all j zero x e p l =
    let a : 32 ≡ j = omega arith in
    let z : x ≡ x % 2 ^ 32 * 2 ^ 0 + x / 2 ^ 32 = omega arith in
    z ∙ ap (λ (i : ℕ). x % 2 ^ i * 2 ^ 0 + x / 2 ^ i) a
round_all j (suc k) x e p l =
    let c : x * 2 % 2 ^ 32 + x / 2 ^ 31 < 2 ^ 32 = omega arith in
    let d : suc j + k ≡ 32 = omega arith in
    let f : j + k ≡ 31 = omega arith in
    round_all (suc j) k (x * 2 % 2 ^ 32 + x / 2 ^ 31) d (omega arith) c ∙ round_step j k x f l

shra_all : (k x : ℕ) (b : Bool) → k < 32 → x < 2 ^ 32 → sign x ≡ b → iterate Shra k x ≡ cond b (x / 2 ^ k + (2 ^ 32 - 2 ^ (32 - k))) (x / 2 ^ k)
shra_all k x true h l e = let f : x / 2 ^ 31 % 2 ≡ 1 = eqb-true (x / 2 ^ 31 % 2) 1 e in set_all (32 - k) k x (omega arith) (omega arith) (omega arith) l
shra_all k x false h l e = clear_all k x (let f = eqb-false (x / 2 ^ 31 % 2) 1 e in omega arith)

pub all_places : (h : Shift) (k x : ℕ) → k < 32 → x < 2 ^ 32 → iterate h k x ≡ shifted h k x
unfolding shifted
all_places Shr k x h l = shr_all k x
all_places Shra k x h l = shra_all k x (sign x) h l refl
all_places Shl k x h l = shl_all k x l
all_places Shc k x h l = round_all (32 - k) k x (omega arith) (omega arith) l
