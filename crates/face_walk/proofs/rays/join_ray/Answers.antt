use Rattle.std.proofs.Common.{◌≡◌, ◌∙◌, refl, ap, subst, List}
use Rattle.plane_model.specs.Points.{GridPoint}
use Rattle.face_walk.specs.Joining.{made_one}
use Rattle.face_walk.specs.Places.{place_of}
use Rattle.face_walk.specs.Sectors.{place_right_of}
use Rattle.face_walk.specs.Rays.{IsTopmostBelow, place_met}
use Rattle.link_search.specs.Rows.{IsFirstOfRow, start_at}
use Rattle.link_search.specs.declared.links.ArcLink.{ArcLink}
use Rattle.link_search.proofs.RowLemmas.{first_from}
use Rattle.face_walk.proofs.rays.join_ray.Goals as goal

pub returns-clause-exact : goal.returns-clause-exact
returns-clause-exact c =
    let links = c.args.search.now.links.items in
    let i = c.args.i in
    let first = c.first_round-first.result in
    let met = c.topmost_below-met.result in
    let row : IsFirstOfRow links i first = subst (λ (xs : List ArcLink). IsFirstOfRow xs i first) c.deref.ensures.value c.first_round-first.ensures.exact in
    let low : c.low.result ≡ start_at links i = c.low.ensures.lesser ∙ row.leaves in (
      (place_met met, place_right_of first.along),
      record {
        vertex = c.requires.vertex;
        first = first;
        is_first = first_from links c.args.search.now.sorted i first c.requires.row c.requires.link row;
        met = met;
        is_met = subst (λ (q : GridPoint). IsTopmostBelow links q met) low c.topmost_below-met.ensures.exact;
        ends = refl;
        starts = refl;
      },
      c.join.ensures.exact ∙ (λ t. made_one (c.place_met.ensures.exact t) ((c.place_of.ensures.exact ∙ ap place_of c.flip.ensures.turned) t) c.args.joining.now),
    )
