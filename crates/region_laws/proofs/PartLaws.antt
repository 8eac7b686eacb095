-- The parts of sets follow the parts of their regions.
use Rattle.std.proofs.Common.{subst, ℕ, List, [], Contains, get_or}
use Rattle.lists.proofs.Members.{Contains-nil}
use Rattle.plane_model.specs.Snapped.{links_of, snapped}
use Rattle.plane_faces.proofs.Order.{place_exists}
use Rattle.region_ops.specs.Dissolved.{set_at}
use Rattle.region_model.specs.Region.{Has}
use Rattle.region_laws.specs.Followed.{ExplodedSetsAreFollowed, PartsAreFollowed}
use Rattle.region_laws.proofs.Parts.{part_followed, some_part, some_point}
use Rattle.region_laws.proofs.Walked.{arcs_free, labels_faces, links_arranged, links_distinct}

pub parts_are_followed : PartsAreFollowed
parts_are_followed d arcs faces label walked set inner r follows parts are = record {
  each = λ j below z off a here. part_followed (links_of (snapped d)) (links_arranged d) (links_distinct d) arcs walked.table.long walked.table.links (arcs_free d arcs faces label walked) faces walked.built
      label walked.labelled (labels_faces d arcs faces label walked) set inner parts are (Has (snapped d) arcs r) follows j below z off a here;
  some = λ j below. some_point (links_of (snapped d)) (links_arranged d) (links_distinct d) arcs walked.table.long walked.table.links (arcs_free d arcs faces label walked) faces walked.built
      label walked.labelled (labels_faces d arcs faces label walked) set inner parts are (Has (snapped d) arcs r) follows j below;
  all = λ z off in_r. some_part (links_of (snapped d)) (links_arranged d) (links_distinct d) arcs walked.table.long walked.table.links (arcs_free d arcs faces label walked) faces walked.built
      label walked.labelled (labels_faces d arcs faces label walked) set inner parts are (Has (snapped d) arcs r) follows z off in_r;
}

pub exploded_sets_are_followed : ExplodedSetsAreFollowed
exploded_sets_are_followed d arcs faces label walked sets inner region each items is = record {
  pieces = is.pieces;
  each = is.each;
  listed = is.listed;
  empty = λ n below none. (
    (is.are n below).empty none,
    λ z off in_r.
        let (a, here) = place_exists (links_of (snapped d)) (links_arranged d) z in
        Contains-nil (label a) (subst (λ (set : List ℕ). Contains set (label a)) none ((each n below z off a here).0 in_r)),
  );
  parts = λ n below some. parts_are_followed d arcs faces label walked (set_at sets n) (inner n [] below) (region n) (each n below) (get_or is.pieces n []) ((is.are n below).parts some);
}
