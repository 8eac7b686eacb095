use Rattle.std.proofs.Common.{◌∙◌, ◌<◌, List, All, ap, map, sym, subst, arith, length}
use Rattle.std.proofs.lemmas.List.{length-map}
use Rattle.std.proofs.lemmas.List.Elements.{All-weaker}
use Rattle.plane_model.specs.Arcs.{SignedArc}
use Rattle.arc_table.specs.Around.{start_of}
use Rattle.face_walk.specs.Joins.{joined_by}
use Rattle.face_walk.specs.Places.{HasJoins}
use Rattle.face_walk.specs.Rays.{AreLinksOf}
use Rattle.link_search.specs.PlaceNumbers.{HasPlaces}
use Rattle.link_search.specs.declared.links.ArcLink.{ArcLink}
use Rattle.face_walk.proofs.BuiltLemmas.{built_by}
use Rattle.face_walk.proofs.NumberingLemmas.{none_left_out}
use Rattle.face_walk.proofs.faces.Faces.made.Goals as goal

pub of_sides-requires-clause-joined : goal.of_sides-requires-clause-joined
of_sides-requires-clause-joined c =
    let arcs = c.args.t.now in
    let links = c.in_ok-search.search.links.items in
    let same = c.in_ok-search.ensures.same in
    let outs = c.rows.result.1.now in
    let starts = map (start_of arcs) outs in
    let (nodes, table) = c.rows.ensures.rows in
    let alone = c.in_ok-joining.joining in
    let numbering = c.in_ok-numbering.numbering in
    let few = c.if-count-gt-MAX_ARCS.false in
    let counted = c.count.ensures.exact in
    let again = c.count-2.ensures.exact in
    let many = c.in_ok-joining.ensures.count in
    let (rays, r, e) = c.join_rays.ensures.exact in
    subst (λ (ls : List ArcLink). HasJoins arcs ls numbering.places.items) (sym c.of-links.ensures.links) (built_by arcs links starts outs alone _ numbering.places.items numbering.count c.rows.ensures.turned (length-map outs (start_of arcs))
    (All-weaker (λ (a : SignedArc). a.arc < length arcs) (HasPlaces (length alone)) (λ a h. omega arith) outs c.rows.ensures.there)
    (All-weaker (λ (l : ArcLink). l.along.arc < length arcs) (λ (l : ArcLink). HasPlaces (length alone) l.along) (λ l h. omega arith) links (subst (All (λ (l : ArcLink). l.along.arc < length arcs)) (sym same) c.in_ok-links.ensures.there))
    (omega arith) c.in_ok-joining.ensures.alone rays r (e ∙ ap (joined_by rays) (c.join_sectors.ensures.exact starts nodes (length-map outs (start_of arcs)) table)) c.in_ok-numbering.ensures.exact)

pub of_sides-requires-clause-all : goal.of_sides-requires-clause-all
of_sides-requires-clause-all c = subst (AreLinksOf c.args.t.now) (sym (c.of-links.ensures.links ∙ c.in_ok-search.ensures.same)) c.in_ok-links.ensures.all

pub of_sides-requires-clause-links : goal.of_sides-requires-clause-links
of_sides-requires-clause-links c =
    let places = c.in_ok-numbering.numbering.places.items in
    let few = c.if-count-gt-MAX_ARCS.false in
    let counted = c.count.ensures.exact in
    let again = c.count-2.ensures.exact in
    let each = c.in_ok-numbering.ensures.each in
    let rays = c.join_rays.ensures.count in
    let sectors = c.join_sectors.ensures.count in
    let many = c.in_ok-joining.ensures.count in
    subst (All (λ (l : ArcLink). HasPlaces (length places) l.along)) (sym (c.of-links.ensures.links ∙ c.in_ok-search.ensures.same))
    (All-weaker (λ (l : ArcLink). l.along.arc < length c.args.t.now) (λ (l : ArcLink). HasPlaces (length places) l.along) (λ l h. omega arith) c.in_ok-links.links.items c.in_ok-links.ensures.there)

pub of_sides-requires-clause-numbered : goal.of_sides-requires-clause-numbered
of_sides-requires-clause-numbered c =
    let numbering = c.in_ok-numbering.numbering in none_left_out _ numbering.places.items numbering.count c.in_ok-numbering.ensures.exact
