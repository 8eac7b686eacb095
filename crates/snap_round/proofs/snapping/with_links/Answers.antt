use Rattle.std.proofs.Common.{◌≡◌, ◌++◌, ◌∙◌, ap, sym, subst, Contains}
use Rattle.plane_model.specs.Points.{GridPoint, Segment, IsOn, at}
use Rattle.plane_model.specs.Drawing.{Drawing, vertices_of}
use Rattle.plane_model.specs.Arrangement.{IsArrangement, IsEnd}
use Rattle.plane_model.specs.Snapped.{snapped, links_of}
use Rattle.plane_snapping.proofs.SnappedLinks.{snapped_links_are_an_arrangement, no_vertex_inside}
use Rattle.snap_round.specs.Paths.{without_points}
use Rattle.snap_round.proofs.snapping.with_links.Goals as goal

-- the points added to the snapped paths
whole : (d paths made : Drawing) → paths ≡ without_points (snapped d) → made ≡ record paths { points = paths.points ++ d.points } → made ≡ snapped d
whole d paths made e f = f ∙ ap (λ (o : Drawing). record o { points = o.points ++ d.points }) e

pub new-requires-clause-links : goal.new-requires-clause-links
new-requires-clause-links c = c.in_ok-links.ensures.exact ∙ ap links_of (sym (whole c.args.d.now c.args.paths c.add_point_features.new.out c.requires.paths c.in_ok-add_point_features.ensures.ok))

pub new-requires-clause-arrangement : goal.new-requires-clause-arrangement
new-requires-clause-arrangement c =
    subst (λ (d : Drawing). IsArrangement (links_of d)) (sym (whole c.args.d.now c.args.paths c.add_point_features.new.out c.requires.paths c.in_ok-add_point_features.ensures.ok))
    (snapped_links_are_an_arrangement c.args.d.now).0

pub new-requires-clause-no_vertex_inside : goal.new-requires-clause-no_vertex_inside
new-requires-clause-no_vertex_inside c =
    subst (λ (d : Drawing). (l : Segment) (p : GridPoint) → Contains (links_of d) l → Contains (vertices_of d) p → IsOn l (at p) → IsEnd l (at p))
    (sym (whole c.args.d.now c.args.paths c.add_point_features.new.out c.requires.paths c.in_ok-add_point_features.ensures.ok))
    (no_vertex_inside c.args.d.now)

pub returns : goal.returns
returns c = record { exact = c.new.ensures.kept ∙ whole c.args.d.now c.args.paths c.add_point_features.new.out c.requires.paths c.in_ok-add_point_features.ensures.ok }
