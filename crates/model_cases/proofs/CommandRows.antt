-- Small runs of one command: gaps that are filled, fields that are set, rows sorted and told apart, and islands that
-- go.
use Rattle.std.proofs.Common.{◌≡◌, refl, ℕ, List, [], ◌∷◌, Ok, codes, true, false}
use Rattle.grid_base.specs.declared.kinds.Kind.{Kind}
use Rattle.grid_base.specs.declared.kinds.Kind.TheVariants as kind
use Rattle.grid_base.specs.declared.kinds.OverlapRule.TheVariants.{MaxArea, MinArea}
use Rattle.json_values.specs.Table.{TableContent}
use Rattle.json_values.specs.declared.value.Value.TheVariants.{Null, Text as Words}
use Rattle.geojson_io.specs.LayerContent.{LayerContent}
use Rattle.geojson_io.specs.declared.shape.GeoShape.{GeoShape}
use Rattle.geojson_io.specs.declared.shape.GeoShape.TheVariants.{Points, Polygons}
use Rattle.expr_lang.specs.Tree.{Assigned, binary, column, constant}
use Rattle.expr_lang.specs.declared.expr.Expr.{Expr}
use Rattle.expr_lang.specs.declared.expr.Node.{Node}
use Rattle.expr_lang.specs.declared.expr.Node.TheVariants as node
use Rattle.expr_lang.specs.declared.token.Operator.TheVariants.{Plus, Times}
use Rattle.table_rows.specs.declared.fault.EvalWhy.TheVariants.{Unknown}
use Rattle.table_rows.specs.declared.fault.TableWhy.TheVariants.{Eval}
use Rattle.job_terms.specs.declared.job.Action.TheVariants as c
use Rattle.job_terms.specs.declared.job.LayerAction.{LayerAction}
use Rattle.job_terms.specs.declared.job.LayerAction.TheVariants as each
use Rattle.calc_ops.specs.EachRow.{each_rows}
use Rattle.region_model.specs.Region.{feature, any_of, less, gap_of, part}
use Rattle.chain_model.specs.Outcome.{Outcome, done, refused, wrong_kind, in_table}
use Rattle.chain_model.specs.State as st
use Rattle.chain_model.specs.State.{Shape, StateLayer}
use Rattle.chain_model.specs.Running.{Output}
use Rattle.model_cases.proofs.Drawings.{point, ring}
use Rattle.model_cases.proofs.RunRows.{n, apply, print, printed, run_over, square}

-- the layers that one command prints over a layer, and the end
abbrev after : LayerContent → LayerAction → List (List StateLayer) × Outcome
after l a =
    let r : List Output × Outcome = run_over (l ∷ []) [] [] (apply (c.Each a) ∷ print ∷ []) in
    (printed r, r.1)

abbrev layer : Kind → TableContent → List GeoShape → LayerContent
layer k table shapes = record { name = codes "in"; kind = k; table = table; shapes = shapes }

abbrev prints : Kind → TableContent → List Shape → List (List StateLayer) × Outcome
prints k table shapes = ((record { name = codes "in"; kind = k; table = table; shapes = shapes } ∷ []) ∷ [], done)

-- ---- clean with gaps: a square with a hole, and one over half of the hole, leave a gap of twice the area 4

abbrev a_and_b : TableContent
a_and_b = record { names = codes "n" ∷ []; rows = (Words (codes "a") ∷ []) ∷ (Words (codes "b") ∷ []) ∷ [] }

abbrev holed : LayerContent
holed = layer kind.Polygon a_and_b (Polygons ((ring 0 0 4 4 ∷ (point 1 1 ∷ point 1 3 ∷ point 3 3 ∷ point 3 1 ∷ point 1 1 ∷ []) ∷ []) ∷ []) ∷ square 1 1 2 3 ∷ [])

filled : after holed (each.Clean MaxArea false 4) ≡ prints kind.Polygon a_and_b
    (st.region (any_of (less (feature 0) (any_of []) ∷ gap_of (feature 0 ∷ feature 1 ∷ []) 0 ∷ [])) ∷ st.region (any_of (less (feature 1) (any_of (feature 0 ∷ [])) ∷ [])) ∷ [])
filled = refl

filled_by_min_area : after holed (each.Clean MinArea false 4) ≡ prints kind.Polygon a_and_b
    (st.region (any_of (less (feature 0) (any_of (feature 1 ∷ [])) ∷ [])) ∷ st.region (any_of (less (feature 1) (any_of []) ∷ gap_of (feature 0 ∷ feature 1 ∷ []) 0 ∷ [])) ∷ [])
filled_by_min_area = refl

not_filled : after holed (each.Clean MaxArea false 3) ≡ prints kind.Polygon a_and_b
    (st.region (any_of (less (feature 0) (any_of []) ∷ [])) ∷ st.region (any_of (less (feature 1) (any_of (feature 0 ∷ [])) ∷ [])) ∷ [])
not_filled = refl

-- ---- fields that are set

abbrev spot : ℕ → ℕ → GeoShape
spot x y = Points (point x y ∷ [])

abbrev spots : ℕ → ℕ → Shape
spots x y = st.points (point x y ∷ [])

abbrev one_point : LayerContent
one_point = layer kind.Point (record { names = codes "pop" ∷ []; rows = (n 3 ∷ []) ∷ [] }) (spot 1 1 ∷ [])

-- twice the population, and one more than that
abbrev doubled_and_more : List Assigned
doubled_and_more = (codes "d", binary 8 Times (column 4 (codes "pop")) (constant (n 2))) ∷ (codes "e", binary 19 Plus (column 17 (codes "d")) (constant (n 1))) ∷ []

fields_set : each_rows (record { names = codes "pop" ∷ []; rows = (n 3 ∷ []) ∷ [] }) doubled_and_more ≡ Ok (record { names = codes "pop" ∷ codes "d" ∷ codes "e" ∷ []; rows = (n 3 ∷ n 6 ∷ n 7 ∷ []) ∷ [] })
fields_set = refl

-- also where there are no rows
columns_set : each_rows (record { names = codes "pop" ∷ []; rows = [] }) doubled_and_more ≡ Ok (record { names = codes "pop" ∷ codes "d" ∷ codes "e" ∷ []; rows = [] })
columns_set = refl

abbrev rooted : Node → Expr
rooted root = record { root = root }

-- a field that is set twice, and one that takes what it was set to before
one_set : after one_point (each.Each (
    record { name = codes "pop"; value = rooted (node.Constant (n 4)) } ∷ record { name = codes "d"; value = rooted (node.Column 10 (codes "pop")) } ∷ record { name = codes "pop"; value = rooted (node.Constant (n 5)) } ∷ []
    )) ≡ prints kind.Point (record { names = codes "pop" ∷ codes "d" ∷ []; rows = (n 5 ∷ n 4 ∷ []) ∷ [] }) (spots 1 1 ∷ [])
one_set = refl

unknown_name : after one_point (each.Each (record { name = codes "x"; value = rooted (node.Column 4 (codes "y")) } ∷ [])) ≡ ([], refused 1 (in_table (Eval 0 4 Unknown)))
unknown_name = refl

-- ---- rows in order, and rows told apart

abbrev four : LayerContent
four = layer kind.Point (record { names = codes "v" ∷ []; rows = (n 2 ∷ []) ∷ (Null ∷ []) ∷ (n 1 ∷ []) ∷ (n 2 ∷ []) ∷ [] }) (spot 1 1 ∷ spot 2 2 ∷ spot 3 3 ∷ spot 4 4 ∷ [])

abbrev v : Expr
v = rooted (node.Column 0 (codes "v"))

sorted : after four (each.Sort v true) ≡ prints kind.Point (record { names = codes "v" ∷ []; rows = (n 2 ∷ []) ∷ (n 2 ∷ []) ∷ (n 1 ∷ []) ∷ (Null ∷ []) ∷ [] }) (spots 1 1 ∷ spots 4 4 ∷ spots 3 3 ∷ spots 2 2 ∷ [])
sorted = refl

first_of_each : after four (each.Uniq v 1 false) ≡ prints kind.Point (record { names = codes "v" ∷ []; rows = (n 2 ∷ []) ∷ (Null ∷ []) ∷ (n 1 ∷ []) ∷ [] }) (spots 1 1 ∷ spots 2 2 ∷ spots 3 3 ∷ [])
first_of_each = refl

others : after four (each.Uniq v 1 true) ≡ prints kind.Point (record { names = codes "v" ∷ []; rows = (n 2 ∷ []) ∷ [] }) (spots 4 4 ∷ [])
others = refl

-- ---- islands: two squares with a common side, and a small one apart

abbrev three : LayerContent
three = layer kind.Polygon (record { names = []; rows = [] ∷ [] ∷ [] ∷ [] }) (square 0 0 2 2 ∷ square 2 0 4 2 ∷ square 10 0 11 1 ∷ [])

-- what stays of a feature: its one part
abbrev whole : ℕ → Shape
whole k = st.region (any_of (part (feature k) 0 ∷ []))

island_goes : after three (each.FilterIslands 4 0 true) ≡ prints kind.Polygon (record { names = []; rows = [] ∷ [] ∷ [] }) (whole 0 ∷ whole 1 ∷ [])
island_goes = refl

-- the squares with a common side are not detached
large_area : after three (each.FilterIslands 200 0 true) ≡ prints kind.Polygon (record { names = []; rows = [] ∷ [] ∷ [] }) (whole 0 ∷ whole 1 ∷ [])
large_area = refl

just_as_large : after three (each.FilterIslands 2 0 false) ≡ prints kind.Polygon (record { names = []; rows = [] ∷ [] ∷ [] ∷ [] }) (whole 0 ∷ whole 1 ∷ whole 2 ∷ [])
just_as_large = refl

few_links : after three (each.FilterIslands 0 5 false) ≡ prints kind.Polygon (record { names = []; rows = [] ∷ [] ∷ [] ∷ [] }) (whole 0 ∷ whole 1 ∷ st.region (any_of []) ∷ [])
few_links = refl

no_islands_of_points : after four (each.FilterIslands 1 0 false) ≡ ([], refused 1 wrong_kind)
no_islands_of_points = refl
