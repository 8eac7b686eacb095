-- The sums of quantized positions: both stay within the limit, or none is answered.
use Rattle.std.proofs.Common.{◌≡◌, Bool, true, false, cond, refl, sym, ap, ◌∙◌, ℤ, ◌+ℤ◌, Some, None, Ok, Err}
use Rattle.std.specs.Prelude.{◌&&◌, if◌then◌else◌}
use Rattle.json_values.specs.Json.{JsonValue}
use Rattle.std.proofs.lemmas.Option.{none-some, same_Some}
use Rattle.topo_io.specs.Positions.{is_sum, sums_after, sums_from, whole_pair}
use Rattle.topo_io.specs.declared.fault.TopoWhy.TheVariants.{TransformRange}
use Rattle.topo_io.specs.declared.reading.positions.Sums.{Sums}

abbrev pub sums_of : ℤ → ℤ → Sums
sums_of x y = record { x = x; y = y }

pub sums_are : (j : JsonValue) (before : Sums) (x y dx dy : ℤ) → whole_pair j ≡ Some (dx, dy)
    → Some x ≡ (if is_sum (before.x +ℤ dx) then Some (before.x +ℤ dx) else None) → Some y ≡ (if is_sum (before.y +ℤ dy) then Some (before.y +ℤ dy) else None)
    → Ok (sums_of x y) ≡ sums_after j before
sums_are j before x y dx dy w e f = both_in (is_sum (before.x +ℤ dx)) (is_sum (before.y +ℤ dy)) e f ∙ sym (ap (sums_from before) w)
  where
    both_in : (a b : Bool) → Some x ≡ cond a (Some (before.x +ℤ dx)) None → Some y ≡ cond b (Some (before.y +ℤ dy)) None
        → Ok (sums_of x y) ≡ cond (a && b) (Ok (sums_of (before.x +ℤ dx) (before.y +ℤ dy))) (Err TransformRange)
    both_in true true e f = λ i. Ok (sums_of (same_Some x (before.x +ℤ dx) e i) (same_Some y (before.y +ℤ dy) f i))
    both_in true false e f = absurd (none-some y (sym f))
    both_in false b e f = absurd (none-some x (sym e))

pub sums_past : (j : JsonValue) (before : Sums) (dx dy : ℤ) → whole_pair j ≡ Some (dx, dy) → None ≡ (if is_sum (before.y +ℤ dy) then Some (before.y +ℤ dy) else None) → Err TransformRange ≡ sums_after j before
sums_past j before dx dy w f = past (is_sum (before.x +ℤ dx)) (is_sum (before.y +ℤ dy)) f ∙ sym (ap (sums_from before) w)
  where
    past : (a b : Bool) → None ≡ cond b (Some (before.y +ℤ dy)) None → Err TransformRange ≡ cond (a && b) (Ok (sums_of (before.x +ℤ dx) (before.y +ℤ dy))) (Err TransformRange)
    past a true f = absurd (none-some (before.y +ℤ dy) f)
    past true false f = refl
    past false false f = refl
