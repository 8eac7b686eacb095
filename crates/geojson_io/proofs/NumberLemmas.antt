-- The text of a grid number, written from its end.
use Rattle.std.proofs.Common.{ℕ, zero, suc, ◌≡◌, ◌≢◌, ◌+◌, ◌-◌, ◌*◌, ◌/◌, ◌%◌, ◌^◌, ◌<◌, ◌≤◌, List, [], ◌∷◌, ◌++◌, Bool, true, cond, ℤ, pos, negsuc, ◌*ℤ◌, neg_ℤ, lit<, refl, ap, ◌∙◌, sym, subst, length, drop, set, get_or, arith, add-one, append_assoc, decimal, drop-cons, ne_eqb, ⊎_elim, inr}
use Rattle.std.specs.Prelude.{unsigned_abs}
use Rattle.std.proofs.lemmas.Bool.{cases_eq}
use Rattle.std.proofs.lemmas.List.{drop-set}
use Rattle.std.proofs.lemmas.Fmt.{decimal_digit, decimal_step, length-decimal-le}
use Rattle.std.proofs.lemmas.Int.{unsigned_abs-mul}
use Rattle.std.proofs.lemmas.Nat.{pow-add, div-add-mod', mod-mul-add}
use Rattle.std.proofs.Math.Nat.{mod-lt, div-le_self, mul_assoc, mul-lt-mul_of_pos_right, mul-div-mul_right, mul-div_left, mul-mod_left, one-le-pow}
use Rattle.grid_base.specs.Sizes.{most_step}
use Rattle.numerals.specs.Decimal.{of_grid, fraction_text as decimal_fraction, is_negative, last_digits, sign_text, trimmed_digits}
use Rattle.numerals.proofs.Digits.{decimal_text-parts, fraction_text-zero, fraction_text-other, trim_end, trim_many, trimmed_digits-zero}
use Rattle.numerals.proofs.Scaling.{pow_ten}
use Rattle.geojson_io.specs.Numbers.{fraction_text, whole_digits}
use Rattle.geojson_io.specs.Texts.{grid_text, point_text}

-- ## Digits after a 1

-- a 1 and the k last digits of f
one_and_digits : (k f n : ℕ) → f < 10 ^ k → n ≡ 10 ^ k + f → n < 2 ^ 64 → decimal n ≡ 49 ∷ last_digits k f
unfolding last_digits
one_and_digits zero f n below is fits =
    let one : n ≡ 1 = omega arith in
    decimal_digit n (omega arith) ∙ ap (λ (m : ℕ). (48 + m) ∷ []) one
one_and_digits (suc k) f n below is fits =
    let P : ℕ = 10 ^ k in
    let positive : 0 < P = one-le-pow k 10 (lit< tt) in
    let ten : 10 ^ suc k ≡ P * 10 = pow_ten k in
    let front : n / 10 ≡ P + f / 10 = omega arith in
    let last : n % 10 ≡ f % 10 = omega arith in
    decimal_step n (omega arith) fits
    ∙ (λ i. one_and_digits k (f / 10) (n / 10) (omega arith) front (omega arith) i ++ (48 + last i) ∷ [])

-- n is a 1 and digits that are those of the fraction, where zeros at the end don't count
pub record IsOneAnd (places fraction n : ℕ) : Type 0 where
  pub count : ℕ
  pub digits : ℕ
  pub is : n ≡ 10 ^ count + digits
  pub below : digits < 10 ^ count
  pub some : digits ≢ 0
  pub same : trimmed_digits places fraction ≡ trimmed_digits count digits

-- there is a digit after the 1
no_digits : (digits : ℕ) → digits < 10 ^ 0 → digits ≢ 0 → ⊥
no_digits digits below some = omega arith

less_by : (places fraction n count digits : ℕ) → n % 10 ≡ 0 → n ≡ 10 ^ count + digits → digits < 10 ^ count → digits ≢ 0
    → trimmed_digits places fraction ≡ trimmed_digits count digits → IsOneAnd places fraction (n / 10)
less_by places fraction n zero digits e is below some same = absurd (no_digits digits below some)
less_by places fraction n (suc k) digits e is below some same =
    let P : ℕ = 10 ^ k in
    let ten : 10 ^ suc k ≡ P * 10 = pow_ten k in
    let last : digits % 10 ≡ 0 = omega arith in
    record { count = k; digits = digits / 10; is = omega arith; below = omega arith; some = omega arith; same = same ∙ trimmed_digits-zero k digits last }

pub zero_less : (places fraction n : ℕ) → n % 10 ≡ 0 → IsOneAnd places fraction n → IsOneAnd places fraction (n / 10)
zero_less places fraction n e h = less_by places fraction n h.count h.digits e h.is h.below h.some h.same

last_stays : (count digits n : ℕ) → n % 10 ≢ 0 → n ≡ 10 ^ count + digits → digits < 10 ^ count → digits ≢ 0 → digits % 10 ≢ 0
last_stays zero digits n d is below some = absurd (no_digits digits below some)
last_stays (suc k) digits n d is below some = let ten : 10 ^ suc k ≡ 10 ^ k * 10 = pow_ten k in omega arith

pub no_zero_left : (places fraction n : ℕ) → n % 10 ≢ 0 → n < 2 ^ 64 → IsOneAnd places fraction n → decimal n ≡ 49 ∷ trimmed_digits places fraction
no_zero_left places fraction n d fits h =
    one_and_digits h.count h.digits n h.below h.is fits
    ∙ ap (λ (t : List ℕ). 49 ∷ t) (sym (trim_end h.count h.digits (inr (last_stays h.count h.digits n d h.is h.below h.some))) ∙ sym h.same)

-- ## A fraction

fraction_some : (places n : ℕ) → n ≢ 0 → fraction_text places n ≡ 46 ∷ trimmed_digits places n
fraction_some places n d = ap (λ (b : Bool). cond b [] (46 ∷ trimmed_digits places n)) (ne_eqb n 0 d)

-- the point in place of the 1
pub point_for_one : (room tail : List ℕ) (start places n m : ℕ) → n ≢ 0 → start < length room → decimal m ≡ 49 ∷ trimmed_digits places n
    → drop start room ≡ decimal m ++ tail → drop start (set room start 46) ≡ fraction_text places n ++ tail
point_for_one room tail start places n m some l digits h =
    let first : drop start room ≡ get_or room start 0 ∷ drop (suc start) room = drop-cons room start 0 l in
    let all : drop start room ≡ 49 ∷ (trimmed_digits places n ++ tail) = h ∙ ap (λ (t : List ℕ). t ++ tail) digits in
    let after : drop (suc start) room ≡ trimmed_digits places n ++ tail = cc in
    drop-set room start 46 l ∙ ap (λ (i : ℕ). 46 ∷ drop i room) (add-one start) ∙ ap (λ (t : List ℕ). 46 ∷ t) after
    ∙ ap (λ (t : List ℕ). t ++ tail) (sym (fraction_some places n some))

zero_times : (p : ℕ) → 0 * p ≡ 0
zero_times p = omega arith

-- a fraction of 10 ^ places, as one of 10 ^ 18
fraction_scaled : (places k n : ℕ) → places + k ≡ 18 → decimal_fraction (n * 10 ^ k) ≡ fraction_text places n
fraction_scaled places k n e = ⊎_elim none some (cases_eq n 0)
  where
    positive : 0 < 10 ^ k
    positive = one-le-pow k 10 (lit< tt)

    none : n ≡ 0 → decimal_fraction (n * 10 ^ k) ≡ fraction_text places n
    none z = ap decimal_fraction (ap (λ (m : ℕ). m * 10 ^ k) z ∙ zero_times (10 ^ k)) ∙ fraction_text-zero ∙ ap (fraction_text places) (sym z)

    some : n ≢ 0 → decimal_fraction (n * 10 ^ k) ≡ fraction_text places n
    some d =
        let P : ℕ = 10 ^ k in
        let more : n * P ≢ 0 = λ z. d (sym (mul-div_left n positive) ∙ ap (λ (x : ℕ). x / P) (z ∙ sym (zero_times P)) ∙ mul-div_left 0 positive) in
        fraction_text-other (n * P) (ne_eqb (n * P) 0 more)
        ∙ ap (λ (t : List ℕ). 46 ∷ t) (ap (λ (c : ℕ). trimmed_digits c (n * P)) (sym e) ∙ trim_many k places (n * P) (mul-mod_left n P) ∙ ap (λ (m : ℕ). trimmed_digits places m) (mul-div_left n positive))
        ∙ sym (fraction_some places n d)

-- ## A grid number

negative_minus : (m : ℕ) → 0 < m → is_negative (neg_ℤ (pos m)) ≡ true
negative_minus zero l = absurd (omega arith)
negative_minus (suc m) l = refl

mul_positive : (n p : ℕ) → 0 < p → 0 < suc n * p
mul_positive n p l = omega (arith, l)

negative_scaled : (g : ℤ) (p : ℕ) → 0 < p → is_negative (g *ℤ pos p) ≡ is_negative g
negative_scaled (pos n) p l = refl
negative_scaled (negsuc n) p l = negative_minus (suc n * p) (mul_positive n p l)

mod_scaled : (n U P : ℕ) → 0 < U → 0 < P → (n * P) % (U * P) ≡ (n % U) * P
mod_scaled n U P some positive =
    let q : ℕ = n / U in
    let r : ℕ = n % U in
    let below : r * P < U * P = mul-lt-mul_of_pos_right (mod-lt n some) positive in
    let parted : n * P ≡ q * (U * P) + r * P = ap (λ (m : ℕ). m * P) (sym (div-add-mod' n U)) ∙ spread q U r P in
    ap (λ (m : ℕ). m % (U * P)) parted ∙ mod-mul-add q (U * P) (r * P) below
  where
    spread : (q u r p : ℕ) → (q * u + r) * p ≡ q * (u * p) + r * p
    spread q u r p = let a : (q * u + r) * p ≡ q * u * p + r * p = omega arith in a ∙ ap (λ (m : ℕ). m + r * p) (mul_assoc q u p)

pub grid_parts : (g : ℤ) (places : ℕ) → places ≤ 18 → grid_text places g ≡ sign_text (is_negative g) ++ (decimal (unsigned_abs g / 10 ^ places) ++ fraction_text places (unsigned_abs g % 10 ^ places))
grid_parts g places le =
    let k : ℕ = 18 - places in
    let P : ℕ = 10 ^ k in
    let U : ℕ = 10 ^ places in
    let n : ℕ = unsigned_abs g in
    let together : places + k ≡ 18 = omega arith in
    let positive : 0 < P = one-le-pow k 10 (lit< tt) in
    let size : unsigned_abs (of_grid g places) ≡ n * P = unsigned_abs-mul g (pos P) in
    let unit : 10 ^ 18 ≡ U * P = ap (λ (e : ℕ). 10 ^ e) (sym together) ∙ pow-add 10 places k in
    let whole : unsigned_abs (of_grid g places) / 10 ^ 18 ≡ n / U = (λ i. size i / unit i) ∙ mul-div-mul_right n U positive in
    let rest : unsigned_abs (of_grid g places) % 10 ^ 18 ≡ (n % U) * P = (λ i. size i % unit i) ∙ mod_scaled n U P (one-le-pow places 10 (lit< tt)) positive in
    decimal_text-parts (of_grid g places)
    ∙ append_assoc (sign_text (is_negative (of_grid g places))) (decimal (unsigned_abs (of_grid g places) / 10 ^ 18)) (decimal_fraction (unsigned_abs (of_grid g places) % 10 ^ 18))
    ∙ (λ i. sign_text (negative_scaled g P positive i) ++ (decimal (whole i) ++ decimal_fraction (rest i)))
    ∙ ap (λ (t : List ℕ). sign_text (is_negative g) ++ (decimal (n / U) ++ t)) (fraction_scaled places k (n % U) together)

-- ## A number in parts

pub unit_positive : (unit places : ℕ) → unit ≡ 10 ^ places → 0 < unit
unit_positive unit places e = subst (λ (u : ℕ). 0 < u) (sym e) (one-le-pow places 10 (lit< tt))

pub short_whole : (n size unit : ℕ) → n ≡ size → size ≤ most_step → length (decimal (n / unit)) ≤ whole_digits
short_whole n size unit e l =
    let smaller : n / unit ≤ n = div-le_self n unit in
    let small : n ≤ most_step = omega (arith, e, l) in
    length-decimal-le whole_digits (n / unit) (omega arith) (omega (arith, smaller, small)) (omega (arith, smaller, small))

pub number_written : (g : ℤ) (places : ℕ) (n unit : ℕ) (negative : Bool) (a b c tail : List ℕ) → places ≤ 18 → n ≡ unsigned_abs g → unit ≡ 10 ^ places → negative ≡ is_negative g
    → a ≡ fraction_text places (n % unit) ++ tail → b ≡ decimal (n / unit) ++ a → c ≡ sign_text negative ++ b → c ≡ grid_text places g ++ tail
number_written g places n unit negative a b c tail le size scale sign ea eb ec =
    let s : List ℕ = sign_text (is_negative g) in
    let d : List ℕ = decimal (unsigned_abs g / 10 ^ places) in
    let f : List ℕ = fraction_text places (unsigned_abs g % 10 ^ places) in
    ec ∙ (λ i. sign_text (sign i) ++ eb i) ∙ (λ i. s ++ (decimal (size i / scale i) ++ ea i)) ∙ (λ i. s ++ (d ++ (fraction_text places (size i % scale i) ++ tail)))
    ∙ ap (λ (t : List ℕ). s ++ t) (sym (append_assoc d f tail)) ∙ sym (append_assoc s (d ++ f) tail) ∙ ap (λ (t : List ℕ). t ++ tail) (sym (grid_parts g places le))

-- a point's text, from its end
pub point_by_numbers : (places : ℕ) (x y : ℤ) (a b c d : List ℕ)
    → a ≡ grid_text places y ++ 93 ∷ [] → b ≡ 44 ∷ a → c ≡ grid_text places x ++ b → d ≡ 91 ∷ c → d ≡ point_text places (record { x = x; y = y })
point_by_numbers places x y a b c d ea eb ec ed = ed ∙ ap (λ (t : List ℕ). 91 ∷ t) (ec ∙ ap (λ (t : List ℕ). grid_text places x ++ t) (eb ∙ ap (λ (t : List ℕ). 44 ∷ t) ea))
