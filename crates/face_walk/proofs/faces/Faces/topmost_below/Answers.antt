use Rattle.std.proofs.Common.{◌≡◌, ◌∙◌, ap, subst, length, All, IfSome, List, Option}
use Rattle.link_search.specs.Topmost.{IsTopmostBelow}
use Rattle.link_search.specs.declared.links.ArcLink.{ArcLink}
use Rattle.link_search.specs.declared.search.LinkSearch.{LinkSearch}
use Rattle.link_search.proofs.TopmostLemmas.{topmost_has, topmost_in_any_order}
use Rattle.face_walk.specs.Places.{FaceTable, HasArc}
use Rattle.face_walk.specs.Rays.{links_below}
use Rattle.face_walk.proofs.faces.Faces.topmost_below.Goals as goal

pub returns-in-Some : goal.returns-in-Some
returns-in-Some c =
    let inside = c.self.inside in
    let faces : FaceTable = c.args.self.now in
    let p = c.args.p in
    let result = c.topmost_below.result in
    let same : c.in-Some.search.links.items ≡ inside.links.value.items = subst (λ (o : Option LinkSearch). IfSome o (λ s. s.links.items ≡ inside.links.value.items)) c.in-Some.is c.self.invariant.7 in
    let exact : IsTopmostBelow faces.links p result = subst (λ (links : List ArcLink). IsTopmostBelow links p result) (same ∙ ap (λ (f : FaceTable). f.links) c.self.view_is) c.topmost_below.ensures.exact in
    record {
      exact = exact;
      there = topmost_has (λ (l : ArcLink). HasArc faces l.along) faces.links p result (subst (λ (f : FaceTable). All (λ (l : ArcLink). HasArc f l.along) f.links) c.self.view_is c.self.invariant.5) exact;
    }

pub returns-in-None : goal.returns-in-None
returns-in-None c =
    let arcs = c.args.t.now in
    let faces : FaceTable = c.args.self.now in
    let p = c.args.p in
    let result = c.topmost_of_arcs.result in
    let exact : IsTopmostBelow faces.links p result = topmost_in_any_order (links_below arcs (length arcs)) faces.links p result c.requires.built.all_links (λ links. links.all) c.topmost_of_arcs.ensures.exact in
    record {
      exact = exact;
      there = topmost_has (λ (l : ArcLink). HasArc faces l.along) faces.links p result (subst (λ (f : FaceTable). All (λ (l : ArcLink). HasArc f l.along) f.links) c.self.view_is c.self.invariant.5) exact;
    }
