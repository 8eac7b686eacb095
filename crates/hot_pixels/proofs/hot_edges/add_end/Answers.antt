use Rattle.std.proofs.Common.{◌∙◌, sym}
use Rattle.plane_model.proofs.PointOrder.{same_point_from}
use Rattle.hot_pixels.proofs.EndLemmas.{end_is_last, end_is_new}
use Rattle.hot_pixels.proofs.hot_edges.add_end.Goals as goal

pub returns-then-is_same : goal.returns-then-is_same
returns-then-is_same c = record { ok = end_is_last c.args.p c.args.last c.args.points.now.items (same_point_from c.args.p c.args.last (sym c.is_same.ensures.exact ∙ c.if-is_same.true)) c.requires.last }

pub returns : goal.returns
returns c = record { ok = end_is_new c.args.p c.args.points.now.items c.push.new.self.items c.in_ok-push.ensures.items }
