-- The numbers that `synth` tells of its made-up mosaic, by regions.
use Rattle.std.specs.Prelude.{◌≡◌, ℕ, ◌*◌, not, List, map, count_by, length}
use Rattle.std.specs.List.{range_with_len}
use Rattle.plane_model.specs.Joined.{IsFaceCount}
use Rattle.grid_base.specs.declared.kinds.OverlapRule.TheVariants as rule
use Rattle.table_terms.specs.Names.{Text}
use Rattle.region_model.specs.Region.{Region, feature}
use Rattle.region_model.specs.Answers.{Plane, Answers, is_empty, area_of}
use Rattle.region_model.specs.PolygonCommands.{cleaned, dissolved}
use Rattle.synth_model.specs.Line.{line_text}

-- what clean leaves of each cell, and the dissolve of all cells
abbrev pub cleaned_cells : Plane → Answers → ℕ → List Region
cleaned_cells P A n = map (cleaned P A rule.MaxArea feature (n * n)) (range_with_len 0 (n * n))

abbrev pub dissolved_cells : ℕ → Region
dissolved_cells n = dissolved feature (range_with_len 0 (n * n))

-- the numbers of cells, of arcs, of faces, of features that clean leaves, and twice the area of the dissolve
abbrev pub synth_line : Plane → Answers → ℕ → ℕ → Text
synth_line P A n faces =
    line_text (n * n) (length P.arcs) faces (count_by (λ (r : Region). not (is_empty P A r)) (cleaned_cells P A n)) (area_of P A (dissolved_cells n))

abbrev pub IsSynthLine : Plane → Answers → ℕ → Text → Type 0
IsSynthLine P A n text = (faces : ℕ) × IsFaceCount P.links faces × (text ≡ synth_line P A n faces)
