use Rattle.face_sets.proofs.SetLemmas.{search_place, search_misses}
use Rattle.face_sets.proofs.BoundaryLemmas.{not_across}
use Rattle.face_sets.proofs.joined_faces.place_of.Goals as goal

pub returns-in-Ok-clause-found : goal.returns-in-Ok-clause-found
returns-in-Ok-clause-found c = search_place c.args.faces.now c.args.face c.in-Ok.i c.requires.ascending c.in-Ok.ensures.position

pub returns-in-Err-clause-missed : goal.returns-in-Err-clause-missed
returns-in-Err-clause-missed c = λ e there.
    not_across c.args.faces.now c.args.face (search_misses c.args.faces.now c.args.face c.in-Err.field-0 c.requires.ascending c.in-Err.ensures.position) there
