-- The state of a run: its layers, in order, and its default target.
use Rattle.std.specs.Prelude.{ℕ, Bool, true, not, List, [], map, slice_index_or}
use Rattle.lists.specs.Lists.{numbers_where}
use Rattle.plane_model.specs.Points.{GridPoint, Path}
use Rattle.grid_base.specs.declared.kinds.Kind.{Kind}
use Rattle.json_values.specs.Table.{TableContent}
use Rattle.table_terms.specs.Names.{Text}
use Rattle.table_rows.specs.Rows.{take_rows}
use Rattle.region_model.specs.Region.{Region, any_of}
use Rattle.region_model.specs.Answers.{Plane, Answers, is_empty, is_nil}

-- the shape of a polygon, a line or a point feature; a row of a table has none
pub data Shape : Type 0 where
  region : Region → Shape
  paths : List Path → Shape
  points : List GridPoint → Shape
  no_shape : Shape

-- a row and a shape for each feature
pub record StateLayer : Type 0 where
  pub name : Text
  pub kind : Kind
  pub table : TableContent
  pub shapes : List Shape

pub record State : Type 0 where
  pub layers : List StateLayer
  -- the numbers of the layers of the default target
  pub target : List ℕ

-- ---- features

abbrev pub region_of : Shape → Region
region_of (region r) = r
region_of _ = any_of []

abbrev pub paths_of : Shape → List Path
paths_of (paths ps) = ps
paths_of _ = []

abbrev pub points_of : Shape → List GridPoint
points_of (points ps) = ps
points_of _ = []

abbrev pub shape_at : StateLayer → ℕ → Shape
shape_at l n = slice_index_or l.shapes n no_shape

-- the regions of the features, as a list and by their numbers
abbrev pub regions_in : StateLayer → List Region
regions_in l = map region_of l.shapes

abbrev pub region_at : StateLayer → ℕ → Region
region_at l n = region_of (shape_at l n)

-- a feature without geometry
abbrev pub is_empty_shape : Plane → Answers → Shape → Bool
is_empty_shape P A (region r) = is_empty P A r
is_empty_shape P A (paths ps) = is_nil ps
is_empty_shape P A (points ps) = is_nil ps
is_empty_shape P A no_shape = true

-- the features with these numbers
abbrev pub take_features : StateLayer → List ℕ → StateLayer
take_features l ns = record l { table = take_rows l.table ns; shapes = map (shape_at l) ns }

-- the features that have a geometry
abbrev pub without_empty : Plane → Answers → StateLayer → StateLayer
without_empty P A l = take_features l (numbers_where (λ (s : Shape). not (is_empty_shape P A s)) l.shapes)
