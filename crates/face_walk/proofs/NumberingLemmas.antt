-- Numbering classes one element after another.
use Rattle.std.proofs.Common.{◌≡◌, ◌⊎◌, sym, ap, ◌∙◌, subst, arith, ℕ, ◌+◌, ◌<◌, ◌≤◌, List, [], ◌∷◌, ◌++◌, length, get_or, nat_eq, take, All, Contains, inl, inr, length-take}
use Rattle.std.proofs.lemmas.Bool.{cases_lt, eq-eqb, eqb-true}
use Rattle.std.proofs.lemmas.List.{length_push, get_or_append_left, get_or_push, get_or_default, get_or-take, take_more}
use Rattle.std.proofs.lemmas.List.Folds.{list_any_at, Any-from_list_any}
use Rattle.face_walk.specs.Joining.{AreClasses}
use Rattle.face_walk.specs.Numbering.{AreAllBelow, IsNumbering}

-- an element of two lists, each with one more
abbrev IsOld : List ℕ → List ℕ → List ℕ → List ℕ → ℕ → ℕ → Type 0
IsOld xs ps more_xs more_ps j i = (i < length xs) × (get_or more_xs j 0 ≡ get_or xs i 0) × (get_or more_ps j 0 ≡ get_or ps i 0)

pushed : (xs ps : List ℕ) (c p j : ℕ) → length ps ≡ length xs → j < length (xs ++ c ∷ []) →
    IsOld xs ps (xs ++ c ∷ []) (ps ++ p ∷ []) j j ⊎ ((get_or (xs ++ c ∷ []) j 0 ≡ c) × (get_or (ps ++ p ∷ []) j 0 ≡ p))
pushed xs ps c p j e l = elim (cases_lt j (length xs)) [
  | inl less ↦ inl (less, get_or_append_left xs (c ∷ []) 0 j less, get_or_append_left ps (p ∷ []) 0 j (omega arith))
  | inr more ↦ (let m = length_push xs c in inr (get_or_push xs c 0 j (omega arith), get_or_push ps p 0 j (omega arith)))
]

numbered_again : (xs ps : List ℕ) (count c : ℕ) → IsNumbering xs ps count → c < length xs → get_or xs c 0 ≡ c → IsNumbering (xs ++ c ∷ []) (ps ++ get_or ps c 0 ∷ []) count
numbered_again xs ps count c h there own =
    record {
      each = (let m = length_push xs c in let n = length_push ps (get_or ps c 0) in let e = h.each in omega arith);
      same = λ j k l m.
          let (i, (il, ix, ip)) = old j l in
          let (g, (gl, gx, gp)) = old k m in
          let both = h.same i g il gl in (
            λ e. ix ∙ both.0 (sym ip ∙ e ∙ gp) ∙ sym gx,
            λ e. ip ∙ both.1 (sym ix ∙ e ∙ gx) ∙ sym gp,
          );
      order = λ j k l m less.
          let (i, (il, ix, ip)) = old j l in
          let (g, (gl, gx, gp)) = old k m in
          let r = h.order i g il gl (omega arith) in omega arith;
      below = λ j l. let (i, (il, ix, ip)) = old j l in let r = h.below i il in omega arith;
      used = λ n l.
          let (j, jl, jn) = h.used n l in
          (j, (let m = length_push xs c in omega arith), get_or_append_left ps (get_or ps c 0 ∷ []) 0 j (let e = h.each in omega arith) ∙ jn);
    }
  where
    old : (j : ℕ) → j < length (xs ++ c ∷ []) → (i : ℕ) × IsOld xs ps (xs ++ c ∷ []) (ps ++ get_or ps c 0 ∷ []) j i
    old j l = elim (pushed xs ps c (get_or ps c 0) j h.each l) [
      | inl a ↦ (j, a)
      | inr b ↦ (c, (there, b.0 ∙ sym own, b.1))
    ]

numbered_new : (xs ps : List ℕ) (count c : ℕ) → IsNumbering xs ps count → ((j : ℕ) → j < length xs → get_or xs j 0 ≤ j) → c ≡ length xs → IsNumbering (xs ++ c ∷ []) (ps ++ count ∷ []) (count + 1)
numbered_new xs ps count c h least is =
    record {
      each = (let m = length_push xs c in let n = length_push ps count in let e = h.each in omega arith);
      same = λ j k l m. elim (at j l) [
        | inl a ↦ elim (at k m) [
          | inl b ↦ (let both = h.same j k a.0 b.0 in (λ e. a.1 ∙ both.0 (sym a.2 ∙ e ∙ b.2) ∙ sym b.1, λ e. a.2 ∙ both.1 (sym a.1 ∙ e ∙ b.1) ∙ sym b.2))
          | inr b ↦ (let r = h.below j a.0 in let s = least j a.0 in let x = a.1 in let y = a.2 in let (z, w) = b in (λ e. absurd (omega arith), λ e. absurd (omega arith)))
        ]
        | inr a ↦ elim (at k m) [
          | inl b ↦ (let r = h.below k b.0 in let s = least k b.0 in let x = b.1 in let y = b.2 in let (z, w) = a in (λ e. absurd (omega arith), λ e. absurd (omega arith)))
          | inr b ↦ (λ e. a.0 ∙ sym b.0, λ e. a.1 ∙ sym b.1)
        ]
      ];
      order = λ j k l m less. elim (at j l) [
        | inl a ↦ elim (at k m) [
          | inl b ↦ (let x = a.1 in let y = a.2 in let z = b.1 in let w = b.2 in let r = h.order j k a.0 b.0 (omega arith) in omega arith)
          | inr b ↦ (let x = a.1 in let y = a.2 in let (z, w) = b in let r = h.below j a.0 in omega arith)
        ]
        | inr a ↦ elim (at k m) [
          | inl b ↦ (let x = b.1 in let y = b.2 in let (z, w) = a in let s = least k b.0 in absurd (omega arith))
          | inr b ↦ (let (x, y) = a in let (z, w) = b in absurd (omega arith))
        ]
      ];
      below = λ j l. elim (at j l) [
        | inl a ↦ (let x = a.1 in let y = a.2 in let r = h.below j a.0 in omega arith)
        | inr a ↦ (let (x, y) = a in omega arith)
      ];
      used = λ n l. elim (cases_lt n count) [
        | inl less ↦
            (let (j, jl, jn) = h.used n less in
            (j, (let m = length_push xs c in omega arith), get_or_append_left ps (count ∷ []) 0 j (let e = h.each in omega arith) ∙ jn))
        | inr more ↦ (length xs, (let m = length_push xs c in omega arith), get_or_push ps count 0 (length xs) h.each ∙ (omega arith))
      ];
    }
  where
    at : (j : ℕ) → j < length (xs ++ c ∷ []) → IsOld xs ps (xs ++ c ∷ []) (ps ++ count ∷ []) j j ⊎ ((get_or (xs ++ c ∷ []) j 0 ≡ c) × (get_or (ps ++ count ∷ []) j 0 ≡ count))
    at j l = pushed xs ps c count j h.each l

-- ---- the same of the first elements of classes

more_of : (classes : List ℕ) (n : ℕ) → n < length classes → take (n + 1) classes ≡ take n classes ++ get_or classes n 0 ∷ []
more_of classes n l = take_more classes n 0 l

pub numbering_again : (classes ps : List ℕ) (count n least : ℕ) → AreClasses classes → n < length classes → least ≡ get_or classes n 0 → least < n →
    IsNumbering (take n classes) ps count → IsNumbering (take (n + 1) classes) (ps ++ get_or ps least 0 ∷ []) count
numbering_again classes ps count n least are l is less h =
    let e = length-take n classes in
    let own : get_or (take n classes) least 0 ≡ least = get_or-take n classes least 0 less ∙ ap (λ (k : ℕ). get_or classes k 0) is ∙ are.inside n l ∙ sym is in
    subst (λ (xs : List ℕ). IsNumbering xs (ps ++ get_or ps least 0 ∷ []) count) (sym (more_of classes n l ∙ ap (λ (k : ℕ). take n classes ++ k ∷ []) (sym is)))
    (numbered_again (take n classes) ps count least h (omega arith) own)

pub numbering_new : (classes ps : List ℕ) (count n least : ℕ) → AreClasses classes → n < length classes → least ≡ get_or classes n 0 → n ≤ least →
    IsNumbering (take n classes) ps count → IsNumbering (take (n + 1) classes) (ps ++ count ∷ []) (count + 1)
numbering_new classes ps count n least are l is more h =
    let e = length-take n classes in
    let down = are.least n l in
    subst (λ (xs : List ℕ). IsNumbering xs (ps ++ count ∷ []) (count + 1)) (sym (more_of classes n l ∙ ap (λ (k : ℕ). take n classes ++ k ∷ []) (sym is)))
    (numbered_new (take n classes) ps count least h (λ j k. subst (λ (i : ℕ). i ≤ j) (sym (get_or-take n classes j 0 (omega arith))) (are.least j (omega arith))) (omega arith))

-- ---- a loop's step

pub numbers_below : (classes numbers : List ℕ) (count : ℕ) → IsNumbering classes numbers count → All (λ k. k < count) numbers
numbers_below classes numbers count h k d l =
    let e = h.each in
    let b : get_or numbers k 0 < count = h.below k (omega arith) in
    subst (λ (m : ℕ). m < count) (get_or_default numbers k 0 d l) b

-- none is left out
pub none_left_out : (classes numbers : List ℕ) (count : ℕ) → IsNumbering classes numbers count → AreAllBelow count numbers
none_left_out classes numbers count h = record {
  below = numbers_below classes numbers count h;
  used = λ n l.
      let (j, there, is) = h.used n l in
      let e = h.each in list_any_at (nat_eq n) numbers j 0 (omega arith) (eq-eqb n (get_or numbers j 0) (sym is));
}

pub number_there : (count : ℕ) (numbers : List ℕ) → AreAllBelow count numbers → (n : ℕ) → n < count → Contains numbers n
number_there count numbers h n below =
    let (i, d, l, at, same) = Any-from_list_any (nat_eq n) numbers (h.used n below) in
    (i, l, get_or_default numbers i n d l ∙ at ∙ sym (eqb-true n d same))

pub numbered_step : (classes numbers : List ℕ) (count n : ℕ) → n < length classes → count ≤ n + 1 → IsNumbering (take (n + 1) classes) numbers count →
    (length numbers ≡ n + 1) × (count ≤ n + 1) × All (λ k. k < count) numbers × IsNumbering (take (n + 1) classes) numbers count
numbered_step classes numbers count n l few h =
    let e = h.each in
    let t = length-take (n + 1) classes in
    (omega arith, few, numbers_below (take (n + 1) classes) numbers count h, h)
