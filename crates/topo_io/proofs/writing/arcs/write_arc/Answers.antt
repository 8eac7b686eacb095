use Rattle.std.proofs.Common.{◌≡◌, ◌+◌, ◌++◌, ◌∷◌, [], ◌∙◌, rules, subst, sym, arith, drop, pos, ◌-ℤ◌, w64, FitsSigned, to_z-of_z}
use Rattle.std.proofs.lemmas.Result.{on_ok_weaker}
use Rattle.plane_model.specs.Points.{GridPoint}
use Rattle.grid_base.specs.Sizes.{IsGridNumber}
use Rattle.grid_base.proofs.Bounds.{x_small, y_small}
use Rattle.geojson_io.specs.Texts.{point_text}
use Rattle.geojson_io.proofs.TextLemmas.{shown_to, written_more, list_written}
use Rattle.topo_io.specs.Texts.{differences}
use Rattle.topo_io.proofs.DifferenceLemmas.{length-differences, way, way_at, ways_after, way_inside}
use Rattle.topo_io.proofs.writing.arcs.write_arc.Goals as goal

abbrev origin : GridPoint
origin = record { x = pos 0; y = pos 0 }

pub loop-i-preserved : goal.loop-i-preserved
loop-i-preserved c =
    let ps = c.args.points.now in
    let i = c.loop-i.i in
    let b : GridPoint = record { x = c.loop-i.x; y = c.loop-i.y } in
    let p = c.index-points-i.result in
    let l = c.loop-i-test.true in
    let is = c.index-points-i.is in
    let inv = c.loop-i.invariant in
    let here : drop i (differences origin ps) ≡ differences b (drop i ps) = inv.2 ∙ (λ j. differences (record { x = c.loop-i.x-is j; y = c.loop-i.y-is j }) (drop i ps)) in
    let drawn : c.write_difference.new.out ≡ c.write_comma.new.out ++ point_text 0 (way b p) =
    c.in_ok-write_difference.ensures.written ∙ (λ j. c.write_comma.new.out ++ point_text 0 (record { x = p.x -ℤ c.loop-i.x-is j; y = p.y -ℤ c.loop-i.y-is j })) in
    let f₁ : FitsSigned w64 c.x-x.result = search rules in
    let f₂ : FitsSigned w64 c.y-y.result = search rules in
    let ex : c.x-x.result ≡ p.x = c.x-x.ensures.exact in
    let ey : c.y-y.result ≡ p.y = c.y-y.ensures.exact in
    let bx : IsGridNumber c.x-x.result = subst IsGridNumber (sym ex) (x_small p c.x-x.ensures.bounded) in
    let by : IsGridNumber c.y-y.result = subst IsGridNumber (sym ey) (y_small p c.x-x.ensures.bounded) in
    let after : drop (i + 1) (differences origin ps) ≡ differences (record { x = c.x-x.result; y = c.y-y.result }) (drop (i + 1) ps) =
    ways_after origin ps i b p l is here ∙ (λ j. differences (record { x = sym ex j; y = sym ey j }) (drop (i + 1) ps)) in
    let more : c.write_difference.new.out ≡ c.push.new.self ++ shown_to (point_text 0) (44 ∷ []) (differences origin ps) (i + 1) =
    written_more (point_text 0) (44 ∷ []) c.loop-i.out c.push.new.self c.write_comma.new.out c.write_difference.new.out (differences origin ps) i (way b p)
    (way_inside origin ps i b p l is here) (way_at origin ps i b p l is here) inv.3 c.in_ok-write_comma.ensures.written drawn in
    let all : (IsGridNumber c.x-x.result) × (IsGridNumber c.y-y.result)
    × (drop (i + 1) (differences origin ps) ≡ differences (record { x = c.x-x.result; y = c.y-y.result }) (drop (i + 1) ps))
    × (c.write_difference.new.out ≡ c.push.new.self ++ shown_to (point_text 0) (44 ∷ []) (differences origin ps) (i + 1)) = (bx, by, after, more) in
    simp to_z-of_z all

pub returns : goal.returns
returns c =
    let ps = c.args.points.now in
    record { written = on_ok_weaker c.push-2.result (λ h. list_written (point_text 0) c.args.out.now c.push.new.self c.loop-i.out c.push-2.new.self (differences origin ps) c.loop-i.i (let l = c.loop-i-test.false in omega (arith, length-differences origin ps)) c.in_ok-push.ensures.ok c.loop-i.invariant.3 h) c.push-2.ensures.ok }
