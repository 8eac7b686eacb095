use Rattle.std.proofs.Common.{◌∙◌, sym, ap, [], ◌++◌, length, take, get_or, arith}
use Rattle.std.specs.List.{flat_map}
use Rattle.std.proofs.lemmas.List.{flat_map_more, take_all, take_more}
use Rattle.face_sets.specs.Boundary.{outward_at}
use Rattle.calc_ops.proofs.islands.border_of.Goals as goal

pub loop-face-preserved : goal.loop-face-preserved
loop-face-preserved c = record {
  so_far = λ arcs built.
      let faces = c.faces-faces.result.now in
      let i = c.loop-face.face-index in
      let face = c.face-item.result in
      let part = outward_at c.args.f.now.places (length arcs) c.args.piece.now in
      c.in_ok-push_border.ensures.exact arcs built
      ∙ (λ j. c.loop-face.invariant.so_far arcs built j ++ part (c.face-item.is j))
      ∙ flat_map_more part [] (take i faces) (get_or faces i face) ∙ sym (ap (flat_map part) (take_more faces i face c.loop-face-test.true));
  there = c.in_ok-push_border.ensures.there;
}

pub returns-clause-exact : goal.returns-clause-exact
returns-clause-exact c = λ arcs built.
    let part = outward_at c.args.f.now.places (length arcs) c.args.piece.now in
    let done = c.loop-face-test.false in
    c.loop-face.invariant.so_far arcs built ∙ ap (flat_map part) (take_all c.loop-face.face-index c.faces-faces.result.now (omega arith) ∙ c.faces-faces.ensures.all)
