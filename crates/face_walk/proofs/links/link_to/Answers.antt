use Rattle.std.proofs.Common.{◌≡◌, ◌++◌, ◌∙◌, ◌-◌, ap, sym, arith, get_or, take, Option}
use Rattle.std.specs.Option.{option_to_list}
use Rattle.std.proofs.lemmas.List.{get_or_default}
use Rattle.plane_model.specs.Points.{GridPoint, Path}
use Rattle.face_walk.specs.Rays.{link_at, links_along}
use Rattle.link_search.specs.declared.links.ArcLink.{ArcLink}
use Rattle.face_walk.proofs.LinkLemmas.{links_taken}
use Rattle.face_walk.proofs.links.link_to.Goals as goal

pub returns-clause-next : goal.returns-clause-next
returns-clause-next c =
    let id = c.args.id in
    let points : Path = c.args.points.now in
    let i = c.args.i in
    let after = c.requires.after in
    let there = c.requires.there in
    let d : GridPoint = c.index-points-i.result in
    let from : c.index-points-i.result ≡ get_or points (i - 1) d = c.index-points-i.is in
    let to : c.index-points-i-2.result ≡ get_or points i d = c.index-points-i-2.is ∙ get_or_default points i c.index-points-i-2.result d (omega arith) in
    let is : c.step_along.result ≡ link_at id (record { start = get_or points (i - 1) d; stop = get_or points i d }) = c.step_along.ensures.exact ∙ (λ t. link_at id (record { start = from t; stop = to t })) in
    links_taken id points i d (omega arith) (omega arith) ∙ ap (λ (o : Option ArcLink). links_along id (take i points) ++ option_to_list o) (sym is)
