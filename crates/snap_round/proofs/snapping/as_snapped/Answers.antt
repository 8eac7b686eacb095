use Rattle.std.proofs.Common.{◌∙◌, sym, subst, Contains}
use Rattle.plane_model.specs.Points.{GridPoint, Segment, IsOn, at}
use Rattle.plane_model.specs.Drawing.{Drawing, vertices_of}
use Rattle.plane_model.specs.Arrangement.{IsArrangement, IsEnd}
use Rattle.plane_model.specs.Snapped.{links_of}
use Rattle.plane_snapping.proofs.SnappedLinks.{snapped_links_are_an_arrangement, no_vertex_inside}
use Rattle.snap_round.proofs.PointLemmas.{points_stay, no_links, no_link_count}
use Rattle.snap_round.proofs.snapping.as_snapped.Goals as goal

pub new-requires-clause-links : goal.new-requires-clause-links
new-requires-clause-links c = c.new-links.ensures.empty ∙ sym (no_links c.args.d c.requires.alone)

pub new-requires-clause-arrangement : goal.new-requires-clause-arrangement
new-requires-clause-arrangement c = subst (λ (d : Drawing). IsArrangement (links_of d)) (sym (points_stay c.args.d c.requires.alone)) (snapped_links_are_an_arrangement c.args.d).0

pub new-requires-clause-no_vertex_inside : goal.new-requires-clause-no_vertex_inside
new-requires-clause-no_vertex_inside c =
    subst (λ (d : Drawing). (l : Segment) (p : GridPoint) → Contains (links_of d) l → Contains (vertices_of d) p → IsOn l (at p) → IsEnd l (at p))
    (sym (points_stay c.args.d c.requires.alone)) (no_vertex_inside c.args.d)

pub returns-clause-exact : goal.returns-clause-exact
returns-clause-exact c = c.new.ensures.kept ∙ points_stay c.args.d c.requires.alone

pub returns-clause-few : goal.returns-clause-few
returns-clause-few c = no_link_count c.args.d c.requires.alone
