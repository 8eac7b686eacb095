use Rattle.std.proofs.Common.{◌∙◌, sym, subst, Contains}
use Rattle.std.proofs.lemmas.Option.{IfSome_then}
use Rattle.face_sets.proofs.BoundaryLemmas.{right_is}
use Rattle.face_sets.proofs.joined_faces.place_across.Goals as goal

pub returns-clause-found : goal.returns-clause-found
returns-clause-found c =
    IfSome_then c.place_of.result c.place_of.ensures.found
    (λ i e. e ∙ right_is c.args.f.now.places c.args.arc c.flip.result c.left_of.result c.flip.ensures.turned c.left_of.ensures.exact)

pub returns-clause-missed : goal.returns-clause-missed
returns-clause-missed c = λ e there.
    c.place_of.ensures.missed e
    (subst (Contains c.args.faces.now) (sym (right_is c.args.f.now.places c.args.arc c.flip.result c.left_of.result c.flip.ensures.turned c.left_of.ensures.exact)) there)
