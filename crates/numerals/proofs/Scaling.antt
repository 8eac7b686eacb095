-- What a pass over the digits of a numeral finds.
use Rattle.std.proofs.Common.{ℕ, zero, suc, ◌≡◌, ◌+◌, ◌-◌, ◌*◌, ◌/◌, ◌%◌, ◌^◌, ◌<◌, ◌≤◌, List, [], ◌∷◌, ◌++◌, Bool, true, false, not, ◌&&◌, ◌==◌, min, refl, ap, ◌∙◌, sym, subst, length, take, drop, arith, length-append, append-nil, take-append-drop, add_assoc, add-one, zero-mul, lit≤, mul_assoc, zero-add, lit<, ne_eqb, IsTrue, ◌⊎◌, inl, inr}
use Rattle.std.proofs.lemmas.Bool.{cases_lt}
use Rattle.std.proofs.lemmas.Bool.Decides.{nat_tests}
use Rattle.std.proofs.lemmas.List.Sums.{fold-append}
use Rattle.std.proofs.lemmas.Nat.{div-mul-add, mod-mul-add}
use Rattle.std.proofs.Math.Nat.{mul-le-mul_right, mul-le-mul_left, pow-le-pow_right, one-le-pow, pow-suc}
use Rattle.std.specs.List.{list_all}
use Rattle.numerals.specs.Bytes.{is_digit}
use Rattle.numerals.specs.Numeral.{number_onto, number_of}
use Rattle.numerals.specs.Scaling.{AreDigits, IsCut}
use Rattle.numerals.specs.Units.{units_cap}
use Rattle.numerals.specs.declared.numerals.Scaled.{Scaled}

digit_small : (b : ℕ) → is_digit b ≡ true → b - 48 < 10
digit_small b e = grind (arith, nat_tests)

-- ten times a power
pub pow_ten : (k : ℕ) → 10 ^ suc k ≡ 10 ^ k * 10
pow_ten k = pow-suc 10 k

-- a number of this many digits, and of one more
pub word_size : (k n : ℕ) → n < 10 ^ k → k < 19 → n < 10 ^ 18
word_size k n l h =
    let few : k ≤ 18 = omega arith in
    let most : 10 ^ k ≤ 10 ^ 18 = pow-le-pow_right (lit< tt) few in
    omega (arith, l, most)

pub digit_more : (before count n d : ℕ) → n < 10 ^ (before + count) → d < 10 → n * 10 + d < 10 ^ (before + (count + 1))
digit_more before count n d l h =
    let next : before + (count + 1) ≡ suc (before + count) = omega arith in
    let wide : 10 ^ (before + (count + 1)) ≡ 10 ^ (before + count) * 10 = ap (λ (k : ℕ). 10 ^ k) next ∙ pow_ten (before + count) in
    omega (arith, l, h, wide)

expand : (n d P : ℕ) → (n * 10 + d) * P ≡ n * (P * 10) + d * P
expand n d P = omega arith

-- ## Numbers of digits

pub number_onto-append : (n : ℕ) (xs ys : List ℕ) → number_onto n (xs ++ ys) ≡ number_onto (number_onto n xs) ys
number_onto-append n xs ys = fold-append (λ (n : ℕ) (b : ℕ). n * 10 + (b - 48)) n xs ys

pub number_onto-sum : (n : ℕ) (xs : List ℕ) → number_onto n xs ≡ n * 10 ^ length xs + number_of xs
number_onto-sum n [] = omega arith
number_onto-sum n (b ∷ xs) =
    let P : ℕ = 10 ^ length xs in
    let d : ℕ = b - 48 in
    let left : number_onto (n * 10 + d) xs ≡ (n * 10 + d) * P + number_of xs = number_onto-sum (n * 10 + d) xs in
    let right : number_onto (0 * 10 + d) xs ≡ d * P + number_of xs = number_onto-sum (0 * 10 + d) xs ∙ ap (λ (x : ℕ). x * P + number_of xs) (zero-add d) in
    left ∙ ap (λ (x : ℕ). x + number_of xs) (expand n d P) ∙ add_assoc (n * (P * 10)) (d * P) (number_of xs)
    ∙ ap (λ (x : ℕ). n * (P * 10) + x) (sym right) ∙ ap (λ (x : ℕ). n * x + number_of (b ∷ xs)) (sym (pow_ten (length xs)))

pub number_of-small : (xs : List ℕ) → AreDigits xs → number_of xs < 10 ^ length xs
number_of-small [] h = omega arith
number_of-small (b ∷ xs) h =
    let P : ℕ = 10 ^ length xs in
    let d : ℕ = b - 48 in
    let sum : number_onto (0 * 10 + d) xs ≡ d * P + number_of xs = number_onto-sum (0 * 10 + d) xs ∙ ap (λ (x : ℕ). x * P + number_of xs) (zero-add d) in
    let wide : 10 ^ suc (length xs) ≡ P * 10 = pow_ten (length xs) in
    let rest : number_of xs < P = number_of-small xs h.1 in
    let small : d ≤ 9 = omega (arith, digit_small b h.0) in
    let times : d * P ≤ 9 * P = mul-le-mul_right P small in
    omega (arith, sum, rest, times, wide)

pub digits_append : (xs ys : List ℕ) → AreDigits xs → AreDigits ys → AreDigits (xs ++ ys)
digits_append [] ys h k = k
digits_append (b ∷ xs) ys h k = (h.0, digits_append xs ys h.1 k)

pub digits_drop : (n : ℕ) (xs : List ℕ) → AreDigits xs → AreDigits (drop n xs)
digits_drop zero xs h = h
digits_drop (suc n) [] h = h
digits_drop (suc n) (b ∷ xs) h = digits_drop n xs h.1

-- counting with a cap
pub capped_onto : (n c : ℕ) (xs : List ℕ) → min (number_onto (min n c) xs) c ≡ min (number_onto n xs) c
capped_onto n c [] = omega arith
capped_onto n c (b ∷ xs) =
    let d : ℕ = b - 48 in
    let same : min (min n c * 10 + d) c ≡ min (n * 10 + d) c = omega arith in
    sym (capped_onto (min n c * 10 + d) c xs) ∙ ap (λ (m : ℕ). min (number_onto m xs) c) same ∙ capped_onto (n * 10 + d) c xs

-- ## Zeros

above_zero : (b : ℕ) → is_digit b ≡ true → (b == 48) ≡ false → 1 ≤ b - 48
above_zero b h e = grind (arith, nat_tests)

and_assoc : (a b c : Bool) → ((a && b) && c) ≡ (a && (b && c))
and_assoc true b c = refl
and_assoc false b c = refl

zeros_number : (xs : List ℕ) → AreDigits xs → list_all (λ b. b == 48) xs ≡ (number_of xs == 0)
zeros_number [] h = refl
zeros_number (b ∷ xs) h = go (b == 48) refl (zeros_number xs h.1)
  where
    go : (t : Bool) → (b == 48) ≡ t → list_all (λ b. b == 48) xs ≡ (number_of xs == 0) → list_all (λ b. b == 48) (b ∷ xs) ≡ (number_of (b ∷ xs) == 0)
    go true e k =
        let here : b ≡ 48 = grind (arith, nat_tests) in
        let none : 0 * 10 + (b - 48) ≡ 0 = omega arith in
        ap (λ (t : Bool). t && list_all (λ b. b == 48) xs) e ∙ k ∙ ap (λ (n : ℕ). number_onto n xs == 0) (sym none)
    go false e k =
        let sum : number_onto (0 * 10 + (b - 48)) xs ≡ (0 * 10 + (b - 48)) * 10 ^ length xs + number_of xs = number_onto-sum (0 * 10 + (b - 48)) xs in
        let above : 1 ≤ b - 48 = above_zero b h.0 e in
        let one : 1 ≤ 10 ^ length xs = one-le-pow (length xs) 10 (lit< tt) in
        let times : 1 * 10 ^ length xs ≤ (b - 48) * 10 ^ length xs = mul-le-mul_right (10 ^ length xs) above in
        let positive : 0 < number_onto (0 * 10 + (b - 48)) xs = omega (arith, sum, one, times) in
        ap (λ (t : Bool). t && list_all (λ b. b == 48) xs) e ∙ sym (ne_eqb (number_onto (0 * 10 + (b - 48)) xs) 0 (λ z. absurd (omega (arith, z, positive))))

list_all-pair : (xs ys : List ℕ) → (list_all (λ b. b == 48) xs && list_all (λ b. b == 48) ys) ≡ list_all (λ b. b == 48) (xs ++ ys)
list_all-pair [] ys = refl
list_all-pair (b ∷ xs) ys = and_assoc (b == 48) (list_all (λ b. b == 48) xs) (list_all (λ b. b == 48) ys) ∙ ap (λ (t : Bool). (b == 48) && t) (list_all-pair xs ys)

pub zeros_pair : (xs ys : List ℕ) → AreDigits xs → AreDigits ys → (list_all (λ b. b == 48) xs && list_all (λ b. b == 48) ys) ≡ (number_of (xs ++ ys) == 0)
zeros_pair xs ys h k = list_all-pair xs ys ∙ zeros_number (xs ++ ys) (digits_append xs ys h k)

-- ## Cutting

pub div-small : (m w : ℕ) → m < w → m / w ≡ 0
div-small m w l =
    let same : m ≡ 0 * w + m = omega arith in
    ap (λ (x : ℕ). x / w) same ∙ div-mul-add 0 w m l

pub mod-small : (m w : ℕ) → m < w → m % w ≡ m
mod-small m w l =
    let same : m ≡ 0 * w + m = omega arith in
    ap (λ (x : ℕ). x % w) same ∙ mod-mul-add 0 w m l

pub cut_number : (n k d r : ℕ) → d < 10 → r < 10 ^ k → ((n * 10 + d) * 10 ^ k + r) / 10 ^ suc k ≡ n
cut_number n k d r h l =
    let P : ℕ = 10 ^ k in
    let times : d * P ≤ 9 * P = mul-le-mul_right P (omega arith) in
    let wide : 10 ^ suc k ≡ P * 10 = pow_ten k in
    let split : (n * 10 + d) * P + r ≡ n * (10 ^ suc k) + (d * P + r) = ap (λ (x : ℕ). x + r) (expand n d P) ∙ add_assoc (n * (P * 10)) (d * P) r ∙ ap (λ (x : ℕ). n * x + (d * P + r)) (sym wide) in
    let low : d * P + r < 10 ^ suc k = omega (arith, wide, times, l) in
    ap (λ (m : ℕ). m / 10 ^ suc k) split ∙ div-mul-add n (10 ^ suc k) (d * P + r) low

pub cut_rest : (n k d r : ℕ) → d < 10 → r < 10 ^ k → ((n * 10 + d) * 10 ^ k + r) % 10 ^ suc k / 10 ^ k ≡ d
cut_rest n k d r h l =
    let P : ℕ = 10 ^ k in
    let times : d * P ≤ 9 * P = mul-le-mul_right P (omega arith) in
    let wide : 10 ^ suc k ≡ P * 10 = pow_ten k in
    let split : (n * 10 + d) * P + r ≡ n * (10 ^ suc k) + (d * P + r) = ap (λ (x : ℕ). x + r) (expand n d P) ∙ add_assoc (n * (P * 10)) (d * P) r ∙ ap (λ (x : ℕ). n * x + (d * P + r)) (sym wide) in
    let low : d * P + r < 10 ^ suc k = omega (arith, wide, times, l) in
    ap (λ (m : ℕ). m % 10 ^ suc k / 10 ^ k) split ∙ ap (λ (m : ℕ). m / 10 ^ k) (mod-mul-add n (10 ^ suc k) (d * P + r) low) ∙ div-mul-add d P r l

pub cut_more : (n k d r : ℕ) → r < 10 ^ k → ((n * 10 + d) * 10 ^ k + r) % 10 ^ k ≡ r
cut_more n k d r l = mod-mul-add (n * 10 + d) (10 ^ k) r l

-- the units, the digit after them and more, of digits cut before their first
pub cut_is : (n k : ℕ) (units d : ℕ) (rest : List ℕ) (more : Bool) → units ≡ min n units_cap → length rest ≡ k → IsTrue (is_digit d) → AreDigits rest → more ≡ not (number_of rest == 0)
    → IsCut (number_onto n (d ∷ rest)) k (record { units = units; tenths = d - 48; more = more })
cut_is n k units d rest more u l h r m =
    let small : number_of rest < 10 ^ k = subst (λ (j : ℕ). number_of rest < 10 ^ j) l (number_of-small rest r) in
    let sum : number_onto (n * 10 + (d - 48)) rest ≡ (n * 10 + (d - 48)) * 10 ^ k + number_of rest = subst (λ (j : ℕ). number_onto (n * 10 + (d - 48)) rest ≡ (n * 10 + (d - 48)) * 10 ^ j + number_of rest) l (number_onto-sum (n * 10 + (d - 48)) rest) in
    record {
      units = u ∙ ap (λ (x : ℕ). min x units_cap) (sym (ap (λ (x : ℕ). x / 10 ^ suc k) sum ∙ cut_number n k (d - 48) (number_of rest) (digit_small d h) small));
      tenths = sym (ap (λ (x : ℕ). x % 10 ^ suc k / 10 ^ k) sum ∙ cut_rest n k (d - 48) (number_of rest) (digit_small d h) small);
      more = m ∙ ap (λ (x : ℕ). not (x == 0)) (sym (ap (λ (x : ℕ). x % 10 ^ k) sum ∙ cut_more n k (d - 48) (number_of rest) small));
    }

-- fewer digits than are cut off
pub cut_all : (m k : ℕ) (more : Bool) → m < 10 ^ k → more ≡ not (m == 0) → IsCut m k (record { units = 0; tenths = 0; more = more })
cut_all m k more l e =
    let grows : 10 ^ suc k ≡ 10 ^ k * 10 = pow_ten k in
    let wide : m < 10 ^ suc k = omega (arith, grows, l) in
    record {
      units = ap (λ (x : ℕ). min x units_cap) (sym (div-small m (10 ^ suc k) wide));
      tenths = sym (ap (λ (x : ℕ). x / 10 ^ k) (mod-small m (10 ^ suc k) wide) ∙ div-small m (10 ^ k) l);
      more = e ∙ ap (λ (x : ℕ). not (x == 0)) (sym (mod-small m (10 ^ k) l));
    }

pub all_cut : (w f : List ℕ) (k : ℕ) (more : Bool) → AreDigits w → AreDigits f → length w + length f ≤ k → more ≡ (number_of (w ++ f) == 0) → IsCut (number_of (w ++ f)) k (record { units = 0; tenths = 0; more = not more })
all_cut w f k more h i l e =
    let shorter : length (w ++ f) ≤ k = omega (arith, length-append w f) in
    let power : 10 ^ length (w ++ f) ≤ 10 ^ k = pow-le-pow_right (lit< tt) shorter in
    let small : number_of (w ++ f) < 10 ^ length (w ++ f) = number_of-small (w ++ f) (digits_append w f h i) in
    cut_all (number_of (w ++ f)) k (not more) (omega (arith, power, small)) (ap (λ (b : Bool). not b) e)

pub cut_in_fraction : (w f front back : List ℕ) (k : ℕ) (r : Scaled) → front ++ back ≡ f → IsCut (number_onto (number_onto (number_of w) front) (back ++ [])) k r → IsCut (number_of (w ++ f)) k r
cut_in_fraction w f front back k r e h =
    subst (λ (n : ℕ). IsCut n k r) (ap (λ (l : List ℕ). number_onto (number_onto (number_of w) front) l) (append-nil back) ∙ sym (number_onto-append (number_of w) front back) ∙ ap (λ (l : List ℕ). number_onto (number_of w) l) e ∙ sym (number_onto-append 0 w f)) h

pub counted_twice : (w front : List ℕ) (x y : ℕ) → x ≡ min (number_of w) units_cap → y ≡ min (number_onto x front) units_cap → y ≡ min (number_onto (number_of w) front) units_cap
counted_twice w front x y a b = b ∙ ap (λ (n : ℕ). min (number_onto n front) units_cap) a ∙ capped_onto (number_of w) units_cap front

capped_times : (n c p : ℕ) → 1 ≤ p → min (min n c * p) c ≡ min (n * p) c
capped_times n c p h = go (cases_lt n c)
  where
    go : (n < c) ⊎ (c ≤ n) → min (min n c * p) c ≡ min (n * p) c
    go (inl l) =
        let same : min n c ≡ n = omega arith in
        ap (λ (z : ℕ). min (z * p) c) same
    go (inr l) =
        let same : min n c ≡ c = omega arith in
        let a : c * 1 ≤ c * p = mul-le-mul_left c h in
        let b : c * p ≤ n * p = mul-le-mul_right p l in
        let x : ℕ = c * p in
        let y : ℕ = n * p in
        let both : min (c * p) c ≡ min (n * p) c = omega (arith, a, b) in
        ap (λ (z : ℕ). min (z * p) c) same ∙ both

-- powers of ten, with a cap
pub raised_step : (n c p x y : ℕ) → x ≡ min (n * 10 ^ p) c → y ≡ min (x * 10) c → y ≡ min (n * 10 ^ (p + 1)) c
raised_step n c p x y a b =
    let wide : 10 ^ (p + 1) ≡ 10 ^ p * 10 = ap (λ (k : ℕ). 10 ^ k) (add-one p) ∙ pow_ten p in
    let times : n * (10 ^ p * 10) ≡ (n * 10 ^ p) * 10 = sym (mul_assoc n (10 ^ p) 10) in
    let m : ℕ = n * 10 ^ p in
    let capped : min (min m c * 10) c ≡ min (m * 10) c = omega arith in
    b ∙ ap (λ (z : ℕ). min (z * 10) c) a ∙ capped ∙ ap (λ (z : ℕ). min z c) (sym (ap (λ (z : ℕ). n * z) wide ∙ times))

-- past thirty-seven zeros a number that is not 0 is past the cap
pub saturated : (n p q : ℕ) → 37 ≤ p → 37 ≤ q → min (n * 10 ^ p) units_cap ≡ min (n * 10 ^ q) units_cap
saturated zero p q h k =
    let a : 0 * 10 ^ p ≡ 0 = zero-mul (10 ^ p) in
    let b : 0 * 10 ^ q ≡ 0 = zero-mul (10 ^ q) in
    ap (λ (z : ℕ). min z units_cap) (a ∙ sym b)
saturated (suc n) p q h k =
    let a : 10 ^ 37 ≤ 10 ^ p = pow-le-pow_right (lit< tt) h in
    let b : 10 ^ 37 ≤ 10 ^ q = pow-le-pow_right (lit< tt) k in
    let c : 1 * 10 ^ p ≤ suc n * 10 ^ p = mul-le-mul_right (10 ^ p) (omega arith) in
    let d : 1 * 10 ^ q ≤ suc n * 10 ^ q = mul-le-mul_right (10 ^ q) (omega arith) in
    let x : ℕ = suc n * 10 ^ p in
    let y : ℕ = suc n * 10 ^ q in
    omega (arith, a, b, c, d)

pub raised_end : (n p i x : ℕ) → i ≡ min p 37 → x ≡ min (n * 10 ^ i) units_cap → x ≡ min (n * 10 ^ p) units_cap
raised_end n p i x e h = go (cases_lt p 37)
  where
    go : (p < 37) ⊎ (37 ≤ p) → x ≡ min (n * 10 ^ p) units_cap
    go (inl l) =
        let same : i ≡ p = omega arith in
        h ∙ ap (λ (k : ℕ). min (n * 10 ^ k) units_cap) same
    go (inr l) =
        let last : i ≡ 37 = omega arith in
        h ∙ ap (λ (k : ℕ). min (n * 10 ^ k) units_cap) last ∙ saturated n 37 p (lit≤ tt) l

-- raising a capped number
pub raised_capped : (n p x y : ℕ) → x ≡ min n units_cap → y ≡ min (x * 10 ^ p) units_cap → y ≡ min (n * 10 ^ p) units_cap
raised_capped n p x y a b =
    let one : 1 ≤ 10 ^ p = one-le-pow p 10 (lit< tt) in
    b ∙ ap (λ (z : ℕ). min (z * 10 ^ p) units_cap) a ∙ capped_times n units_cap (10 ^ p) one

pub split_parts : (n : ℕ) (l a b : List ℕ) → a ≡ take n l → b ≡ drop n l → a ++ b ≡ l
split_parts n l a b f g = ap (λ (x : List ℕ). x ++ b) f ∙ ap (λ (x : List ℕ). take n l ++ x) g ∙ take-append-drop n l
