use Rattle.std.proofs.Common.{◌-◌, ◌<◌, length, arith, List, ◌∷◌, [], ◌++◌, ◌∙◌, ap, subst, sym}
use Rattle.std.specs.Prelude.{All}
use Rattle.std.proofs.lemmas.List.{length-set}
use Rattle.std.proofs.lemmas.List.Elements.{All-set}
use Rattle.std.proofs.lemmas.Result.{on_ok_weaker}
use Rattle.plane_model.specs.Points.{Path}
use Rattle.plane_model.specs.Drawing.{Polygon}
use Rattle.grid_base.specs.Drawn.{IsRing, with_last}
use Rattle.grid_base.proofs.LastLemmas.{write_last, holds_of_last, after_push, some_in_last, ring_in_last, last_read}
use Rattle.grid_base.proofs.RepeatLemmas.{is_ring}
use Rattle.grid_base.proofs.drawing.Drawing.add_ring.Goals as goal

pub push_ring-requires : goal.push_ring-requires
push_ring-requires c =
    let features = c.self.inside.polygons.items in
    last_read features c.args.self.now.polygons c.len-last.result c.index_mut-feature.result.now (λ i. (c.self.view_is i).polygons) (omega (arith, c.self.inside.polygons.ok.0)) c.requires.polygon c.index_mut-feature.ensures.value

pub invariant_of-self : goal.invariant_of-self
invariant_of-self c =
    let kept = c.self.invariant.0 in
    let features = c.self.inside.polygons.items in
    let feature = c.index_mut-feature.result.now in
    let some : 0 < length c.args.self.now.polygons = some_in_last c.args.self.now.polygons c.requires.polygon in
    let before : All (All IsRing) feature =
    holds_of_last (All (All IsRing)) features c.len-last.result feature (omega (arith, c.self.inside.polygons.ok.0)) (omega (arith, ap length (λ i. (c.self.view_is i).polygons))) c.index_mut-feature.ensures.value kept.rings in
    let ring : IsRing c.without_repeats-ring.result = subst IsRing (sym c.without_repeats-ring.ensures.exact) (is_ring c.args.ring c.requires.not_empty c.requires.closed) in
    let after : All (All IsRing) c.push_ring.new.polygons =
    after_push (All (All IsRing)) c.push_ring.result feature (with_last (λ (polygon : Polygon). polygon ++ c.without_repeats-ring.result ∷ []) feature) c.push_ring.new.polygons c.push_ring.ensures.ok c.push_ring.ensures.err
    (ring_in_last IsRing c.without_repeats-ring.result ring feature before) before in (
      record { rings = All-set (All (All IsRing)) features (c.len-last.result - 1) c.push_ring.new.polygons after kept.rings; lines = kept.lines; boxes = kept.boxes },
      ((let l = c.self.invariant.1.0 in omega (arith, length-set features (c.len-last.result - 1) c.push_ring.new.polygons)), c.self.invariant.1.1),
      c.self.invariant.2,
    )

pub returns-clause-ok : goal.returns-clause-ok
returns-clause-ok c =
    let put : Path → List Polygon → List Polygon = λ ring. with_last (λ (polygon : Polygon). polygon ++ ring ∷ []) in
    on_ok_weaker c.push_ring.result (λ h. λ i. record (c.self.view_is i) { polygons = (h ∙ ap (λ (ring : Path). with_last (put ring) c.args.self.now.polygons) c.without_repeats-ring.ensures.exact) i })
    (write_last (put c.without_repeats-ring.result) c.self.inside.polygons.items c.args.self.now.polygons c.push_ring.result c.len-last.result c.index_mut-feature.result.now c.push_ring.new.polygons
    (λ i. (c.self.view_is i).polygons) (omega (arith, c.self.inside.polygons.ok.0)) (some_in_last c.args.self.now.polygons c.requires.polygon) c.index_mut-feature.ensures.value c.push_ring.ensures.ok)
