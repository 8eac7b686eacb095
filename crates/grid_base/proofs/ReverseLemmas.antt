-- Points in reverse order, one after the other.
use Rattle.std.proofs.Common.{◌≡◌, ◌-◌, ◌+◌, ℕ, ◌<◌, [], ◌∷◌, ◌++◌, length, take, get_or, sym, ap, ◌∙◌, arith, append_assoc}
use Rattle.std.specs.Prelude.{reverse}
use Rattle.std.proofs.lemmas.List.{take_more, length-reverse, get_or-reverse}
use Rattle.plane_model.specs.Points.{GridPoint, Path}

-- the next point from the last on
pub reversed_next : (before points way more : Path) (p : GridPoint) (k : ℕ) → points ≡ before ++ take k (reverse way) → k < length way → p ≡ get_or way (length way - 1 - k) p → more ≡ points ++ p ∷ [] → more ≡ before ++ take (k + 1) (reverse way)
reversed_next before points way more p k so_far there is pushed =
    let at : get_or (reverse way) k p ≡ p = get_or-reverse way k p there ∙ sym is in
    let less : k < length (reverse way) = omega (arith, length-reverse way) in
    let next : take (k + 1) (reverse way) ≡ take k (reverse way) ++ p ∷ [] = take_more (reverse way) k p less ∙ ap (λ (z : GridPoint). take k (reverse way) ++ z ∷ []) at in
    pushed ∙ ap (λ (ps : Path). ps ++ p ∷ []) so_far ∙ append_assoc before (take k (reverse way)) (p ∷ []) ∙ ap (λ (ps : Path). before ++ ps) (sym next)
