-- The arcs that layers use: they are numbered anew from 0, in order of their numbers.
use Rattle.std.specs.Prelude.{ℕ, ◌+◌, ◌<◌, Bool, true, false, if◌then◌else◌, List, [], ◌∷◌, ◌++◌, All, map, slice_set, replicate}
use Rattle.std.specs.List.{flat_map}
use Rattle.plane_model.specs.Arcs.{SignedArc}
use Rattle.topo_io.specs.ArcLayerContent.{ArcLayerContent}
use Rattle.topo_io.specs.declared.arc_layer.ArcShape.{ArcShape}
use Rattle.topo_io.specs.declared.arc_layer.ArcShape.TheVariants.{Nothing, Polygons, Lines, Points}

-- one of the first n arcs
abbrev pub IsBelow : ℕ → SignedArc → Type 0
IsBelow n a = a.arc < n

abbrev pub ShapeIsBelow : ℕ → ArcShape → Type 0
ShapeIsBelow n Nothing = Unit {0}
ShapeIsBelow n (Polygons ps) = All (All (All (IsBelow n))) ps
ShapeIsBelow n (Lines ls) = All (All (IsBelow n)) ls
ShapeIsBelow n (Points ps) = Unit {0}

abbrev pub LayerIsBelow : ℕ → ArcLayerContent → Type 0
LayerIsBelow n l = All (ShapeIsBelow n) l.shapes

-- ## The numbers of the arcs that layers name

abbrev pub named_in_path : List SignedArc → List ℕ
named_in_path path = map (λ (a : SignedArc). a.arc) path

abbrev pub named_in_paths : List (List SignedArc) → List ℕ
named_in_paths paths = flat_map named_in_path paths

abbrev pub named_in_shape : ArcShape → List ℕ
named_in_shape Nothing = []
named_in_shape (Polygons ps) = flat_map named_in_paths ps
named_in_shape (Lines ls) = named_in_paths ls
named_in_shape (Points ps) = []

abbrev pub named_in_layer : ArcLayerContent → List ℕ
named_in_layer l = flat_map named_in_shape l.shapes

abbrev pub named_in_layers : List ArcLayerContent → List ℕ
named_in_layers ls = flat_map named_in_layer ls

-- marks, and then one at each of these numbers
abbrev pub marked : List Bool → List ℕ → List Bool
marked marks [] = marks
marked marks (n ∷ ns) = marked (slice_set marks n true) ns

-- of the first n arcs, which ones the layers name
abbrev pub is_named : ℕ → List ArcLayerContent → List Bool
is_named n ls = marked (replicate n false) (named_in_layers ls)

-- the numbers of the marks, from n on
abbrev pub numbers_of_marks : ℕ → List Bool → List ℕ
numbers_of_marks n [] = []
numbers_of_marks n (is_marked ∷ rest) = (if is_marked then n ∷ [] else []) ++ numbers_of_marks (n + 1) rest

-- of each mark, how many stand before it, with n before the first
abbrev pub marks_before : ℕ → List Bool → List ℕ
marks_before n [] = []
marks_before n (is_marked ∷ rest) = n ∷ marks_before (if is_marked then n + 1 else n) rest
