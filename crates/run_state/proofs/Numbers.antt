-- The shapes that the numbers below a count give.
use Rattle.std.proofs.Common.{◌≡◌, ap, ◌∙◌, refl, not, List, length, map}
use Rattle.std.proofs.lemmas.List.FromFn.{fill_by_all}
use Rattle.std.specs.List.{filter, range_with_len}
use Rattle.face_walk.proofs.ListedLemmas.{filter_mapped}
use Rattle.run_plane.specs.Shapes.{is_empty, shape_at, with_geometry}
use Rattle.run_plane.specs.declared.layer.Shape.{Shape}
use Rattle.run_plane.specs.declared.layer.Shape.TheVariants.{Nothing}

-- the shapes with geometry are those with their numbers
pub shapes_left : (shapes : List Shape) → filter (λ (shape : Shape). not (is_empty shape)) shapes ≡ map (shape_at shapes) (with_geometry shapes (range_with_len 0 (length shapes)))
shapes_left shapes =
    ap (filter (λ (shape : Shape). not (is_empty shape))) (fill_by_all (shape_at shapes) shapes (length shapes) Nothing refl (λ k l. refl))
    ∙ filter_mapped (shape_at shapes) (λ (shape : Shape). not (is_empty shape)) (range_with_len 0 (length shapes))
