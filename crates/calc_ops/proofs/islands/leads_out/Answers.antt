use Rattle.std.proofs.Common.{◌∙◌, ap, not, nat_eq}
use Rattle.lists.specs.Lists.{has}
use Rattle.face_sets.proofs.BoundaryLemmas.{right_is}
use Rattle.calc_ops.proofs.islands.leads_out.Goals as goal

pub returns : goal.returns
returns c = record {
  exact = ap not (c.has.ensures.exact ∙ ap (has nat_eq c.args.piece.now) (right_is c.args.f.now.places c.args.arc c.flip.result c.left_of.result c.flip.ensures.turned c.left_of.ensures.exact));
}
