use Rattle.std.proofs.Common.{◌≡◌, ◌∙◌, ap, arith, rules, subst, sym, List, [], ◌∷◌, length}
use Rattle.std.specs.Prelude.{All}
use Rattle.std.specs.Vec.Iter.{into_iter_items}
use Rattle.std.proofs.lemmas.List.{nil_from_length}
use Rattle.std.proofs.lemmas.List.Elements.{All-tail, All-head}
use Rattle.lists.specs.Lists.{last_of}
use Rattle.plane_model.specs.Points.{Path}
use Rattle.plane_model.specs.Drawing.{Drawing}
use Rattle.geojson_io.specs.Sound.{IsRing}
use Rattle.snap_round.specs.Paths.{with_rings}
use Rattle.run_beginning.specs.Drawing.{drawn_rings}
use Rattle.run_beginning.proofs.DrawingLemmas.{no_rings, rings_next, rings_stay}
use Rattle.run_beginning.proofs.drawing.add_rings.Goals as goal

pub add_ring-requires : goal.add_ring-requires
add_ring-requires c =
    let steps = c.in-Some.ensures.steps in
    let ring = c.in-Some.ring in
    let rest = into_iter_items c.next.new.self in
    let here : IsRing ring = All-head IsRing ring rest (subst (All IsRing) steps.0 c.loop-ring.invariant.sound) in
    record { polygon = c.loop-ring.invariant.polygon; not_empty = here.0; closed = here.1 }

pub loop-ring-preserved : goal.loop-ring-preserved
loop-ring-preserved c =
    let steps = c.in-Some.ensures.steps in
    let ring = c.in-Some.ring in
    let rest = into_iter_items c.next.new.self in
    let before = c.loop-ring.drawing in
    let so_far = c.loop-ring.invariant in
    let stay : length (last_of [] c.add_ring.new.self.polygons) ≡ length (last_of [] before.polygons) =
    ap (λ (d : Drawing). length (last_of [] d.polygons)) c.in_ok-add_ring.ensures.ok ∙ rings_stay (drawn_rings (ring ∷ [])) before in
    let there = so_far.polygon in
    record {
      added = ap (with_rings (drawn_rings rest)) c.in_ok-add_ring.ensures.ok
          ∙ rings_next before ring rest
          ∙ ap (λ (rings : List Path). with_rings (drawn_rings rings) before) (sym steps.0)
          ∙ so_far.added;
      polygon = omega arith;
      sound = All-tail IsRing ring rest (subst (All IsRing) steps.0 so_far.sound);
      count = search rules;
    }

pub returns : goal.returns
returns c =
    let left = c.loop-ring.drawing in
    let none = nil_from_length (into_iter_items c.loop-ring.ring-iterator) (sym c.loop-ring.invariant.count ∙ c.in-None.ensures.steps.0) in
    record { added = no_rings left ∙ ap (λ (rings : List Path). with_rings (drawn_rings rings) left) (sym none) ∙ c.loop-ring.invariant.added }
