-- The links along a path, and along the chains of segments.
use Rattle.std.specs.Prelude.{if◌then◌else◌, List, Option, Some, None}
use Rattle.std.specs.List.{flat_map}
use Rattle.std.specs.Option.{option_to_list}
use Rattle.plane_model.specs.Points.{GridPoint, Segment, Path, same_point, link_between}
use Rattle.plane_model.specs.Drawing.{steps}
use Rattle.plane_model.specs.Hot.{chain_among}

abbrev pub link_along : Segment → Option Segment
link_along s = if same_point s.start s.stop then None else Some (link_between s)

-- the links along the steps of a path, in order, with repeats
abbrev pub path_links : Path → List Segment
path_links path = flat_map (λ s. option_to_list (link_along s)) (steps path)

-- those along the chains of segments
abbrev pub links_of_chains : List GridPoint → List Segment → List Segment
links_of_chains points segments = flat_map (λ s. path_links (chain_among points s)) segments
