-- Drawings that a plane is made of.
use Rattle.std.specs.Prelude.{◌≤◌}
use Rattle.plane_model.specs.Drawing.{Drawing}
use Rattle.plane_model.specs.Snapped.{link_count, snapped}
use Rattle.snap_round.specs.Snapping.{most_links}

-- its snapped paths have no more links together than they may have, repeats counted
abbrev pub IsFew : Drawing → Type 0
IsFew d = link_count (snapped d) ≤ most_links
