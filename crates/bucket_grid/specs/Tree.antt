-- A tree of divisions, stored as a list of nodes: how it leads a point to the place of a rectangle.
use Rattle.std.specs.Prelude.{◌≡◌, ℕ, zero, suc, ◌+◌, ◌-◌, Option, Some, None, List, ◌++◌, map, length, ◌<◌, slice_get, slice_index_or}
use Rattle.plane_model.specs.Points.{GridPoint}
use Rattle.grid_base.specs.Grid.{Corners}
use Rattle.bucket_grid.specs.declared.tree.Node.{Node}
use Rattle.bucket_grid.specs.declared.tree.Node.TheVariants.{Leaf, Split}
use Rattle.bucket_grid.specs.Rects.{Holds, IsPlaceOf, boxes_near}
use Rattle.bucket_grid.specs.Slabs.{along, slab_at}

-- the place that a node gives g, or that of the node to which it sends g: of its slabs' nodes, which go from the last
-- slab's to the first's
abbrev pub place_by : (ℕ → Option ℕ) → Option Node → GridPoint → Option ℕ
place_by next None g = None
place_by next (Some (Leaf place)) g = Some place
place_by next (Some (Split s children)) g = next (children + (s.last - slab_at s (along s.axis g)))

-- the place to which node i leads g, in at most a given number of steps
abbrev pub place_from : ℕ → List Node → ℕ → GridPoint → Option ℕ
place_from zero nodes i g = None
place_from (suc steps) nodes i g = place_by (λ j. place_from steps nodes j g) (slice_get nodes i) g

-- the place to which a node that is not in the list leads g, in at most `steps` more steps
abbrev pub place_under : ℕ → List Node → Node → GridPoint → Option ℕ
place_under steps nodes top g = place_by (λ j. place_from steps nodes j g) (Some top) g

-- What trees over a region add to lists of nodes, rectangles and boxes near them: places, one for each of the region's
-- points, to which the top node of each leads them.
pub record Grew (steps : ℕ) (boxes : List Corners) (region : GridPoint → Type 0) (nodes new_nodes : List Node) (rects new_rects : List Corners) (near new_near : List (List ℕ)) (top : GridPoint → Node) : Type 0 where
  pub more_nodes : List Node
  pub more_rects : List Corners
  pub nodes_are : new_nodes ≡ nodes ++ more_nodes
  pub rects_are : new_rects ≡ rects ++ more_rects
  pub near_are : new_near ≡ near ++ map (boxes_near boxes) more_rects
  pub leads : (g : GridPoint) → region g → (k : ℕ) × (place_under steps new_nodes (top g) g ≡ Some (length rects + k)) × IsPlaceOf more_rects g k
  pub inside : (k : ℕ) (d : Corners) (g : GridPoint) → k < length more_rects → Holds (slice_index_or more_rects k d) g → region g
