-- A path or its reverse goes along its arc in the arc's direction.
use Rattle.std.proofs.Common.{◌≡◌, ◌-◌, ◌<◌, ℕ, pos, Bool, true, false, ◌&&◌, ◌||◌, length, reverse, get_or, refl, sym, ap, subst, ◌∙◌, arith}
use Rattle.std.specs.Prelude.{if◌then◌else◌}
use Rattle.std.proofs.lemmas.List.{get_or-reverse, length-reverse}
use Rattle.plane_model.specs.Points.{GridPoint, Path, same_point, is_before}
use Rattle.plane_model.proofs.PointOrder.{same_point_from, is_before-IsStrictOrder}
use Rattle.arc_table.specs.Direction.{point_at, is_backward, in_direction, IsForward}

abbrev origin : GridPoint
origin = record { x = pos 0; y = pos 0 }

pub length-in_direction : (path : Path) → length (in_direction path) ≡ length path
length-in_direction path = go (is_backward path)
  where
    go : (b : Bool) → length (if b then reverse path else path) ≡ length path
    go true = length-reverse path
    go false = refl

-- ---- turning a path that goes backward makes it go forward

before_once : (p q : GridPoint) → is_before p q ≡ true → is_before q p ≡ true → ⊥
before_once p q h k = is_before-IsStrictOrder.irreflexive p (is_before-IsStrictOrder.trans p q p h k)

before_apart : (p q : GridPoint) → is_before p q ≡ true → same_point q p ≡ true → ⊥
before_apart p q h k = is_before-IsStrictOrder.irreflexive p (subst (λ (r : GridPoint). is_before p r ≡ true) (same_point_from q p k) h)

same_apart : (p q : GridPoint) → same_point p q ≡ true → is_before q p ≡ true → ⊥
same_apart p q h k = before_apart q p k h

choose : (a b c d e f : Bool) → (a || (b && c)) ≡ true → (a ≡ true → d ≡ true → ⊥) → (a ≡ true → e ≡ true → ⊥) → (b ≡ true → d ≡ true → ⊥) → (c ≡ true → f ≡ true → ⊥) → (d || (e && f)) ≡ false
choose true b c true e f h one two three four = absurd (one refl refl)
choose false true c true e f h one two three four = absurd (three refl refl)
choose false false c true e f h one two three four = absurd (cc)
choose a b c false false f h one two three four = refl
choose a b c false true false h one two three four = refl
choose true b c false true true h one two three four = absurd (two refl refl)
choose false true true false true true h one two three four = absurd (four refl refl)
choose false true false false true true h one two three four = absurd (cc)
choose false false c false true true h one two three four = absurd (cc)

turned_about : (first last second before_last : GridPoint) →
    (is_before last first || (same_point last first && is_before before_last second)) ≡ true →
    (is_before first last || (same_point first last && is_before second before_last)) ≡ false
turned_about first last second before_last h =
    choose (is_before last first) (same_point last first) (is_before before_last second) (is_before first last) (same_point first last) (is_before second before_last) h
    (before_once last first) (before_apart last first) (same_apart last first) (before_once before_last second)

reverse_at : (path : Path) (i k : ℕ) → i < length path → k ≡ length path - 1 - i → point_at (reverse path) i ≡ point_at path k
reverse_at path i k l e = get_or-reverse path i origin l ∙ ap (λ (n : ℕ). get_or path n origin) (sym e)

pub IsForward-in_direction : (path : Path) → 1 < length path → IsForward (in_direction path)
IsForward-in_direction path l = record { forward = go (is_backward path) refl }
  where
    n : length (reverse path) ≡ length path
    n = length-reverse path

    back : is_backward path ≡ true → is_backward (reverse path) ≡ false
    back h =
        let first = reverse_at path 0 (length path - 1) (omega arith) (omega arith) in
        let last = reverse_at path (length path - 1) 0 (omega arith) (omega arith) in
        let second = reverse_at path 1 (length path - 2) (omega arith) (omega arith) in
        let before_last = reverse_at path (length path - 2) 1 (omega arith) (omega arith) in
        (λ i. is_before (point_at (reverse path) (n i - 1)) (point_at (reverse path) 0) || (same_point (point_at (reverse path) (n i - 1)) (point_at (reverse path) 0) && is_before (point_at (reverse path) (n i - 2)) (point_at (reverse path) 1)))
        ∙ (λ i. is_before (last i) (first i) || (same_point (last i) (first i) && is_before (before_last i) (second i)))
        ∙ turned_about (point_at path 0) (point_at path (length path - 1)) (point_at path 1) (point_at path (length path - 2)) h

    go : (b : Bool) → is_backward path ≡ b → is_backward (if b then reverse path else path) ≡ false
    go true h = back h
    go false h = h
