-- Small runs, by the counted answers.
use Rattle.std.proofs.Common.{◌≡◌, refl, ℕ, List, [], ◌∷◌, ◌++◌, map, pos, Some, None, codes, true, false}
use Rattle.grid_base.specs.Grid.{Corners}
use Rattle.grid_base.specs.declared.kinds.Kind.TheVariants as kind
use Rattle.grid_base.specs.declared.kinds.OverlapRule.TheVariants.{MaxArea}
use Rattle.numerals.specs.Decimal.{of_grid}
use Rattle.json_values.specs.declared.value.Value.{Value}
use Rattle.json_values.specs.declared.value.Value.TheVariants.{Null, Num, Text as Words}
use Rattle.geojson_io.specs.LayerContent.{LayerContent}
use Rattle.geojson_io.specs.declared.shape.GeoShape.{GeoShape}
use Rattle.geojson_io.specs.declared.shape.GeoShape.TheVariants.{Polygons, Points}
use Rattle.table_terms.specs.Names.{Text}
use Rattle.table_rows.specs.declared.fault.TableWhy.TheVariants.{NoField, NotNumber, FieldsDiffer}
use Rattle.table_terms.specs.declared.groupings.GroupSpec.{GroupSpec}
use Rattle.job_terms.specs.declared.job.Action.{Action}
use Rattle.job_terms.specs.declared.job.Action.TheVariants as c
use Rattle.job_terms.specs.declared.job.LayerAction.TheVariants as each
use Rattle.job_terms.specs.declared.job.JointAction.TheVariants as joint
use Rattle.job_terms.specs.declared.job.Command.{Command}
use Rattle.job_terms.specs.declared.job.Origin.TheVariants as origin
use Rattle.job_terms.specs.declared.job.OutForm.TheVariants.{Geo}
use Rattle.job_terms.specs.declared.job.Target.TheVariants as target
use Rattle.region_model.specs.Region.{feature, any_of, less, both, box}
use Rattle.region_model.specs.Answers.{Plane, plane_of}
use Rattle.chain_model.specs.Outcome.{Outcome, refused, wrong_kind, no_group_points, many_layers, no_layer, in_table}
use Rattle.chain_model.specs.State as st
use Rattle.chain_model.specs.State.{StateLayer}
use Rattle.chain_model.specs.Beginning.{drawing_of, first_state, first_layers, first_sources}
use Rattle.chain_model.specs.Running.{run_from, Output}
use Rattle.model_cases.specs.Counted.{counted}
use Rattle.model_cases.proofs.Drawings as drawn
use Rattle.model_cases.proofs.Drawings.{point}

abbrev pub n : ℕ → Value
n k = Num (of_grid (pos k) 0)

abbrev pub apply : Action → Command
apply a = record { target = target.Default; name = None; keep = false; action = a }

abbrev pub print : Command
print = apply (c.Write (codes "-") true Geo)

-- a run over some layers and boxes, with the layers of one source file of a command
abbrev pub run_over : List LayerContent → List LayerContent → List Corners → List Command → List Output × Outcome
run_over ls source boxes commands =
    let P : Plane = plane_of (drawing_of (ls ++ source) boxes) in
    run_from P (counted P) (first_sources P [] (ls ∷ source ∷ [])) 1 (first_state (first_layers P [] ls)) commands

-- the layers that a run prints, and its end
abbrev pub printed : List Output × Outcome → List (List StateLayer)
printed r = map (λ (o : Output). o.written.layers) r.0

abbrev pub square : ℕ → ℕ → ℕ → ℕ → GeoShape
square a b d e = Polygons (drawn.square a b d e)

-- ---- three squares in a row, dissolved by STATE with sums

abbrev states : LayerContent
states = record {
  name = codes "in";
  kind = kind.Polygon;
  table = record { names = codes "STATE" ∷ codes "pop" ∷ []; rows = (Words (codes "X") ∷ n 1 ∷ []) ∷ (Words (codes "X") ∷ n 2 ∷ []) ∷ (Words (codes "Y") ∷ n 3 ∷ []) ∷ [] };
  shapes = square 0 0 5 5 ∷ square 5 0 10 5 ∷ square 10 0 15 5 ∷ [];
}

abbrev by_state : GroupSpec
by_state = record { by = codes "STATE" ∷ []; copy = []; sum = codes "pop" ∷ [] }

dissolved : printed (run_over (states ∷ []) [] [] (apply (c.Each (each.Dissolve by_state false)) ∷ print ∷ []))
    ≡ (record {
      name = codes "in";
      kind = kind.Polygon;
      table = record { names = codes "STATE" ∷ codes "pop" ∷ []; rows = (Words (codes "X") ∷ n 3 ∷ []) ∷ (Words (codes "Y") ∷ n 3 ∷ []) ∷ [] };
      shapes = st.region (any_of (feature 0 ∷ feature 1 ∷ [])) ∷ st.region (any_of (feature 2 ∷ [])) ∷ [];
    } ∷ []) ∷ []
dissolved = refl

not_a_number : (run_over (states ∷ []) [] [] (apply (c.Each (each.Dissolve (record { by = []; copy = []; sum = codes "STATE" ∷ [] }) false)) ∷ print ∷ [])).1 ≡ refused 1 (in_table (NotNumber 0))
not_a_number = refl

-- split by STATE gives a layer for each value; without a target the two are too many
abbrev names_printed : List Output × Outcome → List (List Text)
names_printed r = map (map (λ (l : StateLayer). l.name)) (printed r)

split_names : names_printed (run_over (states ∷ []) [] [] (apply (c.Each (each.Split (Some (codes "STATE")))) ∷ record print { target = target.Names (codes "X" ∷ []) } ∷ [])) ≡ (codes "X" ∷ []) ∷ []
split_names = refl

split_needs_a_target : (run_over (states ∷ []) [] [] (apply (c.Each (each.Split (Some (codes "STATE")))) ∷ print ∷ [])).1 ≡ refused 2 many_layers
split_needs_a_target = refl

no_such_layer : (run_over (states ∷ []) [] [] (apply (c.Each (each.Clip (origin.Layer (codes "other")))) ∷ print ∷ [])).1 ≡ refused 1 no_layer
no_such_layer = refl

no_such_field : (run_over (states ∷ []) [] [] (apply (c.Each (each.FilterFields (codes "nope" ∷ []))) ∷ print ∷ [])).1 ≡ refused 1 (in_table (NoField 0))
no_such_field = refl

-- ---- two overlapping squares, erased by themselves

abbrev overlapping : LayerContent
overlapping = record {
  name = codes "in";
  kind = kind.Polygon;
  table = record { names = codes "n" ∷ []; rows = (Words (codes "a") ∷ []) ∷ (Words (codes "b") ∷ []) ∷ [] };
  shapes = square 0 0 4 4 ∷ square 2 2 6 6 ∷ [];
}

-- by a source file with the same squares, whose features have the numbers 2 and 3: nothing is left
erased : printed (run_over (overlapping ∷ []) (overlapping ∷ []) [] (apply (c.Each (each.Erase (origin.Source 2))) ∷ print ∷ []))
    ≡ (record { name = codes "in"; kind = kind.Polygon; table = record { names = codes "n" ∷ []; rows = [] }; shapes = [] } ∷ []) ∷ []
erased = refl

-- the second of two equal squares is left empty by clean, and goes unless empty ones are allowed
abbrev equal_squares : LayerContent
equal_squares = record overlapping { shapes = square 0 0 4 4 ∷ square 0 0 4 4 ∷ [] }

cleaned : printed (run_over (equal_squares ∷ []) [] [] (apply (c.Each (each.Clean MaxArea false 0)) ∷ print ∷ []))
    ≡ (record { name = codes "in"; kind = kind.Polygon; table = record { names = codes "n" ∷ []; rows = (Words (codes "a") ∷ []) ∷ [] }; shapes = st.region (any_of (less (feature 0) (any_of []) ∷ [])) ∷ [] } ∷ []) ∷ []
cleaned = refl

-- ---- a square and boxes

abbrev one_square : LayerContent
one_square = record { name = codes "in"; kind = kind.Polygon; table = record { names = []; rows = [] ∷ [] }; shapes = square 0 0 4 4 ∷ [] }

abbrev rect : ℕ → ℕ → ℕ → ℕ → Corners
rect a b d e = record { low = point a b; high = point d e }

flat_box : printed (run_over (one_square ∷ []) [] (rect 2 0 2 4 ∷ []) (apply (c.Each (each.Clip (origin.Area 0))) ∷ print ∷ []))
    ≡ (record { name = codes "in"; kind = kind.Polygon; table = record { names = []; rows = [] }; shapes = [] } ∷ []) ∷ []
flat_box = refl

clipped : printed (run_over (one_square ∷ []) [] (rect 0 0 2 4 ∷ []) (apply (c.Each (each.Clip (origin.Area 0))) ∷ print ∷ []))
    ≡ (record { name = codes "in"; kind = kind.Polygon; table = record { names = []; rows = [] ∷ [] }; shapes = st.region (both (feature 0) (box 0)) ∷ [] } ∷ []) ∷ []
clipped = refl

-- ---- points

abbrev two_points : LayerContent
two_points = record { name = codes "in"; kind = kind.Point; table = record { names = []; rows = [] ∷ [] ∷ [] }; shapes = Points (point 0 2 ∷ []) ∷ Points (point 5 5 ∷ []) ∷ [] }

-- a point on the side of the box is inside
clipped_points : printed (run_over (two_points ∷ []) [] (rect 0 0 4 4 ∷ []) (apply (c.Each (each.Clip (origin.Area 0))) ∷ print ∷ []))
    ≡ (record { name = codes "in"; kind = kind.Point; table = record { names = []; rows = [] ∷ [] }; shapes = st.points (point 0 2 ∷ []) ∷ [] } ∷ []) ∷ []
clipped_points = refl

no_lines_of_points : (run_over (two_points ∷ []) [] [] (apply (c.Each each.InnerLines) ∷ print ∷ [])).1 ≡ refused 1 wrong_kind
no_lines_of_points = refl

points_need_a_word : (run_over (two_points ∷ []) [] [] (apply (c.Each (each.Dissolve (record { by = []; copy = []; sum = [] }) false)) ∷ print ∷ [])).1 ≡ refused 1 no_group_points
points_need_a_word = refl

grouped_points : printed (run_over (two_points ∷ []) [] [] (apply (c.Each (each.Dissolve (record { by = []; copy = []; sum = [] }) true)) ∷ print ∷ []))
    ≡ (record { name = codes "in"; kind = kind.Point; table = record { names = []; rows = [] ∷ [] }; shapes = st.points (point 0 2 ∷ point 5 5 ∷ []) ∷ [] } ∷ []) ∷ []
grouped_points = refl

-- ---- layers of other columns

abbrev with_column : Text → Text → LayerContent
with_column name column = record { name = name; kind = kind.Point; table = record { names = column ∷ []; rows = (n 1 ∷ []) ∷ [] }; shapes = Points (point 1 1 ∷ []) ∷ [] }

differing : (run_over (with_column (codes "a") (codes "x") ∷ with_column (codes "b") (codes "y") ∷ []) [] [] (apply (c.Together (joint.MergeLayers false)) ∷ print ∷ [])).1 ≡ refused 1 (in_table (FieldsDiffer 1))
differing = refl

forced : printed (run_over (with_column (codes "a") (codes "x") ∷ with_column (codes "b") (codes "y") ∷ []) [] [] (apply (c.Together (joint.MergeLayers true)) ∷ print ∷ []))
    ≡ (record { name = codes "a"; kind = kind.Point; table = record { names = codes "x" ∷ codes "y" ∷ []; rows = (n 1 ∷ Null ∷ []) ∷ (Null ∷ n 1 ∷ []) ∷ [] }; shapes = st.points (point 1 1 ∷ []) ∷ st.points (point 1 1 ∷ []) ∷ [] } ∷ []) ∷ []
forced = refl

-- ---- lines of two squares

abbrev two_squares : LayerContent
two_squares = record { name = codes "in"; kind = kind.Polygon; table = record { names = []; rows = [] ∷ [] ∷ [] }; shapes = square 0 0 2 2 ∷ square 2 0 4 2 ∷ [] }

outer_inner_outer : printed (run_over (two_squares ∷ []) [] [] (apply (c.Each (each.Lines [])) ∷ print ∷ []))
    ≡ (record {
      name = codes "in";
      kind = kind.Line;
      table = record { names = codes "TYPE" ∷ codes "RANK" ∷ []; rows = (Words (codes "outer") ∷ n 0 ∷ []) ∷ (Words (codes "inner") ∷ n 1 ∷ []) ∷ (Words (codes "outer") ∷ n 0 ∷ []) ∷ [] };
      shapes = st.paths ((point 2 0 ∷ point 0 0 ∷ point 0 2 ∷ point 2 2 ∷ []) ∷ []) ∷ st.paths ((point 2 0 ∷ point 2 2 ∷ []) ∷ []) ∷ st.paths ((point 2 0 ∷ point 4 0 ∷ point 4 2 ∷ point 2 2 ∷ []) ∷ []) ∷ [];
    } ∷ []) ∷ []
outer_inner_outer = refl
