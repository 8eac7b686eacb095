use Rattle.std.proofs.Common.{◌≡◌, ◌∙◌, ap, List}
use Rattle.std.proofs.lemmas.Result.{IfOk-weaker}
use Rattle.lists.specs.Lists.{ascending}
use Rattle.plane_model.specs.Points.{Segment, link_before}
use Rattle.plane_model.specs.Snapped.{snapped, links_of}
use Rattle.snap_round.proofs.LinkLemmas.{links_are}
use Rattle.snap_round.proofs.snapping.links_along.Goals as goal

pub returns : goal.returns
returns c =
    record { exact = IfOk-weaker _ (λ (links : List Segment). links ≡ ascending link_before c.in_ok-found.found.items) (λ (links : List Segment). links ≡ links_of (snapped c.args.d.now)) (λ links e. e ∙ ap (ascending link_before) c.in_ok-found.ensures.exact ∙ links_are c.args.d.now c.args.hot.points c.args.hot.edges c.requires.hot c.requires.edges) c.links_in_order.ensures.exact }
