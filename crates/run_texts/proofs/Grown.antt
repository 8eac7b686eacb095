-- Topology layers whose arcs are all below a count, and one more.
use Rattle.std.proofs.Common.{ℕ, List, [], ◌∷◌, ◌++◌, All}
use Rattle.std.proofs.lemmas.List.Elements.{All-push}
use Rattle.topo_io.specs.ArcLayerContent.{ArcLayerContent}
use Rattle.topo_io.specs.Arcs.{LayerIsBelow}

pub layers_grown : (n : ℕ) (layers : List ArcLayerContent) (layer : ArcLayerContent) → All (LayerIsBelow n) layers → LayerIsBelow n layer → All (LayerIsBelow n) (layers ++ layer ∷ [])
layers_grown n layers layer h k = All-push (LayerIsBelow n) layers layer h k
