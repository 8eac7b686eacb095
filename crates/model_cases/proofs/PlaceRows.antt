-- Joins by place: points that take from two squares, and squares that count points and add up a field.
use Rattle.std.proofs.Common.{◌≡◌, refl, ℕ, List, [], ◌∷◌, codes, Some, None, false}
use Rattle.grid_base.specs.declared.kinds.Kind.{Kind}
use Rattle.grid_base.specs.declared.kinds.Kind.TheVariants as kind
use Rattle.json_values.specs.Table.{TableContent}
use Rattle.json_values.specs.declared.value.Value.TheVariants.{Null, Text as Words}
use Rattle.geojson_io.specs.LayerContent.{LayerContent}
use Rattle.geojson_io.specs.declared.shape.GeoShape.{GeoShape}
use Rattle.geojson_io.specs.declared.shape.GeoShape.TheVariants.{Lines, Points}
use Rattle.join_terms.specs.declared.calculations.Calc.TheVariants.{Count, Sum}
use Rattle.join_terms.specs.declared.calculations.CalcSpec.{CalcSpec}
use Rattle.table_rows.specs.declared.fault.TableWhy.TheVariants.{FieldTwice, NotNumber}
use Rattle.job_terms.specs.declared.job.Action.TheVariants as c
use Rattle.job_terms.specs.declared.job.LayerAction.TheVariants as each
use Rattle.job_terms.specs.declared.job.Origin.TheVariants as origin
use Rattle.region_model.specs.Region.{feature}
use Rattle.chain_model.specs.Outcome.{Outcome, done, refused, no_layer, many_layers, wrong_kind, in_table}
use Rattle.chain_model.specs.State as st
use Rattle.chain_model.specs.State.{Shape, StateLayer}
use Rattle.chain_model.specs.Running.{Output}
use Rattle.model_cases.proofs.Drawings.{point}
use Rattle.model_cases.proofs.RunRows.{n, apply, print, printed, run_over, square}

-- the layers that a join by place with those of a source prints, and the end
abbrev joined : LayerContent → List LayerContent → CalcSpec → List (List StateLayer) × Outcome
joined l source spec =
    let r : List Output × Outcome = run_over (l ∷ []) source [] (apply (c.Each (each.SpatialJoin (origin.Source 2) spec)) ∷ print ∷ []) in
    (printed r, r.1)

abbrev layer : Kind → TableContent → List GeoShape → LayerContent
layer k table shapes = record { name = codes "in"; kind = k; table = table; shapes = shapes }

abbrev prints : Kind → TableContent → List Shape → List (List StateLayer) × Outcome
prints k table shapes = ((record { name = codes "in"; kind = k; table = table; shapes = shapes } ∷ []) ∷ [], done)

abbrev spot : ℕ → ℕ → GeoShape
spot x y = Points (point x y ∷ [])

abbrev spots : ℕ → ℕ → Shape
spots x y = st.points (point x y ∷ [])

-- one point inside the first square, one on the side of both, and one outside
abbrev pts : LayerContent
pts = layer kind.Point
    (record { names = codes "id" ∷ codes "v" ∷ []; rows = (Words (codes "p") ∷ n 5 ∷ []) ∷ (Words (codes "q") ∷ n 7 ∷ []) ∷ (Words (codes "r") ∷ n 1 ∷ []) ∷ [] })
    (spot 1 1 ∷ spot 2 1 ∷ spot 9 9 ∷ [])

abbrev sq : LayerContent
sq = layer kind.Polygon (record { names = codes "s" ∷ []; rows = (Words (codes "A") ∷ []) ∷ (Words (codes "B") ∷ []) ∷ [] }) (square 0 0 2 2 ∷ square 2 0 4 2 ∷ [])

abbrev plain : CalcSpec
plain = record { fields = None; force = false; test = None; prefix = []; calc = [] }

-- the first of both squares goes to a point on the side
points_take : joined pts (sq ∷ []) plain
    ≡ prints kind.Point
    (record {
      names = codes "id" ∷ codes "v" ∷ codes "s" ∷ [];
      rows = (Words (codes "p") ∷ n 5 ∷ Words (codes "A") ∷ []) ∷ (Words (codes "q") ∷ n 7 ∷ Words (codes "A") ∷ []) ∷ (Words (codes "r") ∷ n 1 ∷ Null ∷ []) ∷ [];
    })
    (spots 1 1 ∷ spots 2 1 ∷ spots 9 9 ∷ [])
points_take = refl

-- both count and add the one on the side
squares_count : joined sq (pts ∷ []) (record plain { fields = Some (codes "id" ∷ []); calc = Count (codes "n") ∷ Sum (codes "t") (codes "v") ∷ [] })
    ≡ prints kind.Polygon
    (record {
      names = codes "s" ∷ codes "id" ∷ codes "n" ∷ codes "t" ∷ [];
      rows = (Words (codes "A") ∷ Words (codes "p") ∷ n 2 ∷ n 12 ∷ []) ∷ (Words (codes "B") ∷ Words (codes "q") ∷ n 1 ∷ n 7 ∷ []) ∷ [];
    })
    (st.region (feature 0) ∷ st.region (feature 1) ∷ [])
squares_count = refl

-- a text is added up by the first square that has it
not_a_number : joined sq (pts ∷ []) (record plain { calc = Sum (codes "t") (codes "id") ∷ [] }) ≡ ([], refused 1 (in_table (NotNumber 0)))
not_a_number = refl

name_taken : joined sq (pts ∷ []) (record plain { calc = Count (codes "v") ∷ [] }) ≡ ([], refused 1 (in_table (FieldTwice 0)))
name_taken = refl

-- ---- kinds, and sources that are not there

squares_with_squares : joined sq (sq ∷ []) plain ≡ ([], refused 1 wrong_kind)
squares_with_squares = refl

points_with_points : joined pts (pts ∷ []) plain ≡ ([], refused 1 wrong_kind)
points_with_points = refl

abbrev line : LayerContent
line = layer kind.Line (record { names = []; rows = [] ∷ [] }) (Lines ((point 0 0 ∷ point 4 0 ∷ []) ∷ []) ∷ [])

lines_as_source : joined pts (line ∷ []) plain ≡ ([], refused 1 wrong_kind)
lines_as_source = refl

lines_as_target : joined line (sq ∷ []) plain ≡ ([], refused 1 wrong_kind)
lines_as_target = refl

no_source : joined pts [] plain ≡ ([], refused 1 no_layer)
no_source = refl

two_sources : joined pts (sq ∷ pts ∷ []) plain ≡ ([], refused 1 many_layers)
two_sources = refl
