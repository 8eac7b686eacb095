use Rattle.std.proofs.Common.{◌∙◌, ap, nat_eq, ◌&&◌, [], ◌∷◌}
use Rattle.lists.specs.Lists.{same_list}
use Rattle.face_sets.specs.Owners.{owners_of}
use Rattle.calc_ops.proofs.IslandLemmas.{other_side}
use Rattle.calc_ops.proofs.islands.stands_alone.Goals as goal

pub returns : goal.returns
returns c = record {
  exact = λ sets h.
      let left = c.sets_left_of-left.ensures.exact sets h in
      let right = c.sets_left_of-right.ensures.exact sets h ∙ ap (owners_of sets) (other_side c.args.f.now.places c.args.arc c.flip.result c.flip.ensures.turned) in
      c.are_alone.ensures.exact ∙ (λ j. same_list nat_eq (left j) (c.args.n ∷ []) && same_list nat_eq (right j) []);
}
