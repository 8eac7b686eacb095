use Rattle.std.proofs.Common.{sym, subst, List, [], ◌∷◌, map}
use Rattle.std.proofs.lemmas.Result.{on_ok_weaker}
use Rattle.plane_model.specs.Arcs.{SignedArc}
use Rattle.line_ops.specs.Inside.{left_of}
use Rattle.spatial_join.specs.Beside.{AreBeside}
use Rattle.spatial_join.proofs.BesideLemmas.{beside_arc, beside_face, found_left, found_over, from_both}
use Rattle.spatial_join.proofs.beside.push_off_nodes.Goals as goal

pub returns-in-Some : goal.returns-in-Some
returns-in-Some c =
    let arcs = c.args.t.now in
    let f = c.args.f.now in
    let p = c.args.p in
    let sides : List SignedArc = c.forward.result ∷ c.backward.result ∷ [] in
    let beside : AreBeside arcs f p (map (left_of f) sides) =
    subst (λ (around : List SignedArc). AreBeside arcs f p (map (left_of f) around)) (λ i. sym c.forward.ensures.made i ∷ sym c.backward.ensures.made i ∷ []) (beside_arc arcs f p c.requires.off c.in-Some.id c.in-Some.ensures.exact) in
    record {
      found = from_both c.push_left_of.result (found_left arcs f p c.args.owners.now sides c.args.found.now.items c.push_left_of.new.found.items beside) c.push_left_of.ensures.found c.push_left_of.ensures.there;
    }

pub returns-in-None : goal.returns-in-None
returns-in-None c =
    let arcs = c.args.t.now in
    let f = c.args.f.now in
    let p = c.args.p in
    let k = c.at.result in
    record {
      found = on_ok_weaker c.push_sets_of.result
          (found_over arcs f p c.args.owners.now k c.args.found.now.items c.push_sets_of.new.found.items (beside_face arcs f p c.requires.off c.in-None.ensures.exact k c.at.ensures.exact) c.at.ensures.there)
          c.push_sets_of.ensures.found;
    }
