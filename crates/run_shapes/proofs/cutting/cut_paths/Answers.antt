use Rattle.std.proofs.Common.{◌≡◌, IfOk, length, sym, subst}
use Rattle.run_plane.proofs.OnPlane.{arcs_there}
use Rattle.run_shapes.specs.Cutting.{cut_paths}
use Rattle.run_shapes.specs.declared.cutting.CutKeeps.{CutKeeps}
use Rattle.run_shapes.proofs.cutting.cut_paths.Goals as goal

pub clip_paths-requires : goal.clip_paths-requires
clip_paths-requires c = let plane = c.args.plane.now in record { arcs = arcs_there plane.arcs plane.faces plane.built c.args.paths.now c.requires.on }

pub erase_paths-requires : goal.erase_paths-requires
erase_paths-requires c = let plane = c.args.plane.now in record { arcs = arcs_there plane.arcs plane.faces plane.built c.args.paths.now c.requires.on }

pub returns-in-Inside : goal.returns-in-Inside
returns-in-Inside c = record {
  exact = subst (λ (k : CutKeeps). IfOk c.clip_paths.result (λ left. left ≡ cut_paths k c.args.plane.now c.args.cut_set.now c.args.paths.now)) (sym c.in-Inside.is) c.clip_paths.ensures.exact;
  on = c.clip_paths.ensures.there (length c.args.plane.now.arcs) c.requires.on;
}

pub returns-in-Outside : goal.returns-in-Outside
returns-in-Outside c = record {
  exact = subst (λ (k : CutKeeps). IfOk c.erase_paths.result (λ left. left ≡ cut_paths k c.args.plane.now c.args.cut_set.now c.args.paths.now)) (sym c.in-Outside.is) c.erase_paths.ensures.exact;
  on = c.erase_paths.ensures.there (length c.args.plane.now.arcs) c.requires.on;
}
