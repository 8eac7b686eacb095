-- The least numbers of classes: what they are, and that shortening a way keeps them and one write joins two classes.
use Rattle.std.proofs.Common.{◌≡◌, refl, sym, ap, ◌∙◌, subst, arith, ℕ, zero, suc, ◌+◌, ◌<◌, ◌≤◌, Bool, cond, List, [], ◌∷◌, ◌++◌, length, get_or, set, map, inl, inr, length-set}
use Rattle.std.proofs.lemmas.Bool.{cases_lt, cases_eq, eq-eqb, ne_eqb, lt-ltb, le-ltb}
use Rattle.std.proofs.lemmas.List.{length-map, length_push, get_or_append_left, get_or_push, get_or_default, get_or_past, get_or-set_same, get_or-set_other, get_or-map, ext_get_or}
use Rattle.face_walk.specs.Joining.{GoesDown, least_from, least_numbers, AreClasses, AreAlone, renamed, made_one}

-- ---- one number after another

length_from : (found ks : List ℕ) → length (least_from found ks) ≡ length found + length ks
length_from found [] = omega arith
length_from found (k ∷ ks) =
    let x = get_or found k (length found) in
    let more = length_from (found ++ x ∷ []) ks in
    let pushed = length_push found x in
    omega arith

front_from : (found ks : List ℕ) (i d : ℕ) → i < length found → get_or (least_from found ks) i d ≡ get_or found i d
front_from found [] i d l = refl
front_from found (k ∷ ks) i d l =
    let x = get_or found k (length found) in
    let pushed = length_push found x in
    front_from (found ++ x ∷ []) ks i d (omega arith) ∙ get_or_append_left found (x ∷ []) d i l

led_from : (found ks : List ℕ) (j n : ℕ) → n ≡ length found + j → j < length ks → get_or ks j 0 < n → get_or (least_from found ks) n 0 ≡ get_or (least_from found ks) (get_or ks j 0) 0
led_from found [] j n e l less = absurd (omega arith)
led_from found (k ∷ ks) zero n e l less =
    let x = get_or found k (length found) in
    let pushed = length_push found x in
    let here : k < length found = omega arith in
    front_from (found ++ x ∷ []) ks n 0 (omega arith) ∙ get_or_push found x 0 n (omega arith) ∙ get_or_default found k (length found) 0 here ∙ sym (front_from found (k ∷ ks) k 0 here)
led_from found (k ∷ ks) (suc j) n e l less =
    let x = get_or found k (length found) in
    let pushed = length_push found x in
    led_from (found ++ x ∷ []) ks j n (omega arith) (omega arith) less

own_from : (found ks : List ℕ) (j n : ℕ) → n ≡ length found + j → j < length ks → n ≤ get_or ks j 0 → get_or (least_from found ks) n 0 ≡ n
own_from found [] j n e l less = absurd (omega arith)
own_from found (k ∷ ks) zero n e l less =
    let x = get_or found k (length found) in
    let pushed = length_push found x in
    front_from (found ++ x ∷ []) ks n 0 (omega arith) ∙ get_or_push found x 0 n (omega arith) ∙ get_or_past found k (length found) (omega arith) ∙ omega arith
own_from found (k ∷ ks) (suc j) n e l less =
    let x = get_or found k (length found) in
    let pushed = length_push found x in
    own_from (found ++ x ∷ []) ks j n (omega arith) (omega arith) less

pub length_least : (lesser : List ℕ) → length (least_numbers lesser) ≡ length lesser
length_least lesser = let e = length_from [] lesser in omega arith

pub least_led : (lesser : List ℕ) (n : ℕ) → n < length lesser → get_or lesser n 0 < n → get_or (least_numbers lesser) n 0 ≡ get_or (least_numbers lesser) (get_or lesser n 0) 0
least_led lesser n l less = led_from [] lesser n n (omega arith) l less

pub least_own : (lesser : List ℕ) (n : ℕ) → n < length lesser → get_or lesser n 0 ≡ n → get_or (least_numbers lesser) n 0 ≡ n
least_own lesser n l e = own_from [] lesser n n (omega arith) l (omega arith)

-- a number is of the class of the one that it leads to
pub least_next : (lesser : List ℕ) (n : ℕ) → GoesDown lesser → n < length lesser → get_or (least_numbers lesser) n 0 ≡ get_or (least_numbers lesser) (get_or lesser n 0) 0
least_next lesser n down l = elim (cases_lt (get_or lesser n 0) n) [
  | inl less ↦ least_led lesser n l less
  | inr more ↦ let e : get_or lesser n 0 ≡ n = (let d = down n l in omega arith) in ap (λ (k : ℕ). get_or (least_numbers lesser) k 0) (sym e)
]

-- ---- they are classes

are_down : (lesser : List ℕ) → GoesDown lesser → (m n : ℕ) → n < m → n < length lesser → get_or (least_numbers lesser) n 0 ≤ n
are_down lesser down zero n h l = absurd (omega arith)
are_down lesser down (suc m) n h l = elim (cases_lt (get_or lesser n 0) n) [
  | inl less ↦ (let e = least_led lesser n l less in let r = are_down lesser down m (get_or lesser n 0) (omega arith) (omega arith) in omega arith)
  | inr more ↦ (let d = down n l in let e = least_own lesser n l (omega arith) in omega arith)
]

are_inside : (lesser : List ℕ) → GoesDown lesser → (m n : ℕ) → n < m → n < length lesser → get_or (least_numbers lesser) (get_or (least_numbers lesser) n 0) 0 ≡ get_or (least_numbers lesser) n 0
are_inside lesser down zero n h l = absurd (omega arith)
are_inside lesser down (suc m) n h l = elim (cases_lt (get_or lesser n 0) n) [
  | inl less ↦
      (let e = least_led lesser n l less in ap (λ (k : ℕ). get_or (least_numbers lesser) k 0) e ∙ are_inside lesser down m (get_or lesser n 0) (omega arith) (omega arith) ∙ sym e)
  | inr more ↦ (let d = down n l in let e = least_own lesser n l (omega arith) in ap (λ (k : ℕ). get_or (least_numbers lesser) k 0) e)
]

pub are_classes : (lesser : List ℕ) → GoesDown lesser → AreClasses (least_numbers lesser)
are_classes lesser down =
    let e = length_least lesser in
    record {
      least = λ k l. are_down lesser down (k + 1) k (omega arith) (omega arith);
      inside = λ k l. are_inside lesser down (k + 1) k (omega arith) (omega arith);
    }

-- ---- and the only list of that kind

record Follows (lesser xs : List ℕ) : Type 0 where
  each : length xs ≡ length lesser
  led : (n : ℕ) → n < length lesser → get_or lesser n 0 < n → get_or xs n 0 ≡ get_or xs (get_or lesser n 0) 0
  own : (n : ℕ) → n < length lesser → get_or lesser n 0 ≡ n → get_or xs n 0 ≡ n

same_below : (lesser xs : List ℕ) → GoesDown lesser → Follows lesser xs → (m n : ℕ) → n < m → n < length lesser → get_or xs n 0 ≡ get_or (least_numbers lesser) n 0
same_below lesser xs down f zero n h l = absurd (omega arith)
same_below lesser xs down f (suc m) n h l = elim (cases_lt (get_or lesser n 0) n) [
  | inl less ↦ f.led n l less ∙ same_below lesser xs down f m (get_or lesser n 0) (omega arith) (omega arith) ∙ sym (least_led lesser n l less)
  | inr more ↦ (let d = down n l in f.own n l (omega arith) ∙ sym (least_own lesser n l (omega arith)))
]

same_least : (lesser xs : List ℕ) → GoesDown lesser → Follows lesser xs → least_numbers lesser ≡ xs
same_least lesser xs down f =
    let e = f.each in
    let g = length_least lesser in
    sym (ext_get_or 0 xs (least_numbers lesser) (omega arith) (λ i l. same_below lesser xs down f (i + 1) i (omega arith) (omega arith)))

-- ---- writes

pub set_down : (lesser : List ℕ) (n k : ℕ) → GoesDown lesser → k ≤ n → GoesDown (set lesser n k)
set_down lesser n k down less i l =
    let e = length-set lesser n k in
    elim (cases_eq i n) [
      | inl same ↦ (let h : get_or (set lesser n k) n 0 ≡ k = get_or-set_same lesser n k 0 (omega arith) in subst (λ (j : ℕ). get_or (set lesser n k) j 0 ≤ j) (sym same) (omega arith))
      | inr other ↦ (let h = get_or-set_other lesser n i k 0 other in let d = down i (omega arith) in omega arith)
    ]

-- led past the next number, a number stays in its class
pub shortened : (lesser : List ℕ) (n over next : ℕ) → GoesDown lesser → n < length lesser → over ≡ get_or lesser n 0 → next ≡ get_or lesser over 0 → over < n → least_numbers (set lesser n next) ≡ least_numbers lesser
shortened lesser n over next down l is_over is_next less =
    let d : next ≤ over = (let d = down over (omega arith) in omega arith) in
    same_least (set lesser n next) (least_numbers lesser) (set_down lesser n next down (omega arith)) (record {
      each = length_least lesser ∙ sym (length-set lesser n next);
      led = λ i k h. elim (cases_eq i n) [
        | inl same ↦ go i same
        | inr other ↦
            (let e : get_or (set lesser n next) i 0 ≡ get_or lesser i 0 = get_or-set_other lesser n i next 0 other in
            subst (λ (j : ℕ). get_or (least_numbers lesser) i 0 ≡ get_or (least_numbers lesser) j 0) (sym e) (least_next lesser i down (let f = length-set lesser n next in omega arith)))
      ];
      own = λ i k h. elim (cases_eq i n) [
        | inl same ↦ (let e : get_or (set lesser n next) n 0 ≡ next = get_or-set_same lesser n next 0 l in let f : get_or (set lesser n next) n 0 ≡ n = subst (λ (j : ℕ). get_or (set lesser n next) j 0 ≡ j) same h in absurd (omega arith))
        | inr other ↦ (let e = get_or-set_other lesser n i next 0 other in let f = length-set lesser n next in least_own lesser i (omega arith) (omega arith))
      ];
    })
  where
    go : (i : ℕ) → i ≡ n → get_or (least_numbers lesser) i 0 ≡ get_or (least_numbers lesser) (get_or (set lesser n next) i 0) 0
    go i same =
        let e : get_or (set lesser n next) n 0 ≡ next = get_or-set_same lesser n next 0 l in
        subst (λ (j : ℕ). get_or (least_numbers lesser) j 0 ≡ get_or (least_numbers lesser) (get_or (set lesser n next) j 0) 0) (sym same)
        (subst (λ (j : ℕ). get_or (least_numbers lesser) n 0 ≡ get_or (least_numbers lesser) j 0) (sym e)
        (least_next lesser n down l ∙ ap (λ (j : ℕ). get_or (least_numbers lesser) j 0) (sym is_over)
        ∙ least_next lesser over down (omega arith) ∙ ap (λ (j : ℕ). get_or (least_numbers lesser) j 0) (sym is_next)))

renamed_yes : (m n k : ℕ) → k ≡ m → renamed m n k ≡ n
renamed_yes m n k e = ap (λ (b : Bool). cond b n k) (eq-eqb k m e)

renamed_no : (m n k : ℕ) → (k ≡ m → ⊥) → renamed m n k ≡ k
renamed_no m n k e = ap (λ (b : Bool). cond b n k) (ne_eqb k m e)

-- the least number of one class led to that of another
pub joined_by_write : (lesser : List ℕ) (a b : ℕ) → GoesDown lesser → a ≤ b → b < length lesser → get_or (least_numbers lesser) a 0 ≡ a → get_or (least_numbers lesser) b 0 ≡ b
    → least_numbers (set lesser b a) ≡ map (renamed b a) (least_numbers lesser)
joined_by_write lesser a b down le l ra rb =
    same_least (set lesser b a) new (set_down lesser b a down le) (record {
      each = length-map old (renamed b a) ∙ length_least lesser ∙ sym (length-set lesser b a);
      led = λ i k h. elim (cases_eq i b) [
        | inl same ↦ at_b i same
        | inr other ↦ (let e : get_or (set lesser b a) i 0 ≡ get_or lesser i 0 = get_or-set_other lesser b i a 0 other in
            let f = length-set lesser b a in
            let d = down i (omega arith) in
            read i (omega arith) ∙ ap (renamed b a) (least_next lesser i down (omega arith)) ∙ sym (read (get_or lesser i 0) (omega arith)) ∙ ap (λ (j : ℕ). get_or new j 0) (sym e))
      ];
      own = λ i k h. elim (cases_eq i b) [
        | inl same ↦ (let e : get_or (set lesser b a) b 0 ≡ a = get_or-set_same lesser b a 0 l in let f : get_or (set lesser b a) b 0 ≡ b = subst (λ (j : ℕ). get_or (set lesser b a) j 0 ≡ j) same h in
            subst (λ (j : ℕ). get_or new j 0 ≡ j) (sym same) (new_b ∙ (omega arith)))
        | inr other ↦ (let e = get_or-set_other lesser b i a 0 other in let f = length-set lesser b a in
            let g : get_or old i 0 ≡ i = least_own lesser i (omega arith) (omega arith) in
            read i (omega arith) ∙ renamed_no b a (get_or old i 0) (λ x. other (sym g ∙ x)) ∙ g)
      ];
    })
  where
    old : List ℕ
    old = least_numbers lesser

    new : List ℕ
    new = map (renamed b a) old

    read : (i : ℕ) → i < length lesser → get_or new i 0 ≡ renamed b a (get_or old i 0)
    read i k = get_or-map (renamed b a) old i 0 0 (let e = length_least lesser in omega arith)

    new_b : get_or new b 0 ≡ a
    new_b = read b l ∙ renamed_yes b a (get_or old b 0) rb

    new_a : get_or new a 0 ≡ a
    new_a = elim (cases_eq a b) [
      | inl same ↦ ap (λ (j : ℕ). get_or new j 0) same ∙ new_b
      | inr other ↦ read a (omega arith) ∙ renamed_no b a (get_or old a 0) (λ x. other (sym ra ∙ x)) ∙ ra
    ]

    at_b : (i : ℕ) → i ≡ b → get_or new i 0 ≡ get_or new (get_or (set lesser b a) i 0) 0
    at_b i same =
        let e : get_or (set lesser b a) b 0 ≡ a = get_or-set_same lesser b a 0 l in
        subst (λ (j : ℕ). get_or new j 0 ≡ get_or new (get_or (set lesser b a) j 0) 0) (sym same) (new_b ∙ sym new_a ∙ ap (λ (j : ℕ). get_or new j 0) (sym e))

made_less : (classes : List ℕ) (m n : ℕ) → get_or classes m 0 < get_or classes n 0 → made_one m n classes ≡ map (renamed (get_or classes n 0) (get_or classes m 0)) classes
made_less classes m n l = ap (λ (t : Bool). cond t (map (renamed (get_or classes n 0) (get_or classes m 0)) classes) (map (renamed (get_or classes m 0) (get_or classes n 0)) classes)) (lt-ltb (get_or classes m 0) (get_or classes n 0) l)

made_more : (classes : List ℕ) (m n : ℕ) → get_or classes n 0 ≤ get_or classes m 0 → made_one m n classes ≡ map (renamed (get_or classes m 0) (get_or classes n 0)) classes
made_more classes m n l = ap (λ (t : Bool). cond t (map (renamed (get_or classes n 0) (get_or classes m 0)) classes) (map (renamed (get_or classes m 0) (get_or classes n 0)) classes)) (le-ltb (get_or classes m 0) (get_or classes n 0) l)

-- of two numbers, whose ways may have been shortened, the least numbers are found, and the greater is led to the other
module _ (old last : List ℕ) (m n a b : ℕ) (down : GoesDown old) (last_down : GoesDown last) (same : least_numbers last ≡ least_numbers old) (each : length last ≡ length old) (lm : m < length old) (ln : n < length old)
    (is_a : a ≡ get_or (least_numbers old) m 0) (is_b : b ≡ get_or (least_numbers old) n 0) where
  own : (k c : ℕ) → k < length old → c ≡ get_or (least_numbers old) k 0 → get_or (least_numbers last) c 0 ≡ c
  own k c l e =
      let g = length_least old in
      (λ i. get_or (same i) (e i) 0) ∙ (are_classes old down).inside k (omega arith) ∙ sym e

  pub one_if_less : a < b → least_numbers (set last b a) ≡ made_one m n (least_numbers old)
  one_if_less less =
      let g = length_least old in
      let r = (are_classes old down).least n (omega arith) in
      joined_by_write last a b last_down (omega arith) (omega arith) (own m a lm is_a) (own n b ln is_b) ∙ (λ i. map (renamed (is_b i) (is_a i)) (same i)) ∙ sym (made_less (least_numbers old) m n (omega arith))

  pub one_if_more : b ≤ a → least_numbers (set last a b) ≡ made_one m n (least_numbers old)
  one_if_more less =
      let g = length_least old in
      let r = (are_classes old down).least m (omega arith) in
      joined_by_write last b a last_down less (omega arith) (own n b ln is_b) (own m a lm is_a) ∙ (λ i. map (renamed (is_a i) (is_b i)) (same i)) ∙ sym (made_more (least_numbers old) m n (omega arith))

pub alone_if_own : (lesser : List ℕ) → ((k : ℕ) → k < length lesser → get_or lesser k 0 ≡ k) → AreAlone (least_numbers lesser)
alone_if_own lesser own k l = let e = length_least lesser in let h : k < length lesser = omega arith in least_own lesser k h (own k h)
