use Rattle.std.proofs.Common.{sym, subst}
use Rattle.std.proofs.lemmas.Result.{IfOk-weaker}
use Rattle.run_plane.specs.OnPlane.{AreOn}
use Rattle.run_shapes.specs.Exploding.{AreSplitOf}
use Rattle.run_shapes.proofs.OnPlane.{apart_on}
use Rattle.run_shapes.proofs.exploding.pieces_of.Goals as goal

pub returns-in-Line-clause-on : goal.returns-in-Line-clause-on
returns-in-Line-clause-on c =
    let plane = c.args.plane.now in
    let shapes = c.deref-in-Line.result.now in
    IfOk-weaker c.split.result (λ p. AreSplitOf shapes p.numbers p.shapes.items) (λ p. AreOn plane p.shapes.items)
    (λ p h. subst (AreOn plane) (sym h.shown) (apart_on plane shapes (subst (AreOn plane) (sym c.deref-in-Line.ensures.value) c.requires.on))) c.split.ensures.are
