use Rattle.std.proofs.Common.{◌≡◌, ◌-◌, ◌++◌, ◌∷◌, [], ◌∙◌, List, ℕ, take, drop, ap, arith, length-drop, to_z-of_z}
use Rattle.std.proofs.lemmas.List.{take_all}
use Rattle.std.proofs.lemmas.Result.{on_ok_weaker}
use Rattle.geojson_io.specs.Texts.{grid_text}
use Rattle.geojson_io.proofs.NumberLemmas.{point_by_numbers}
use Rattle.geojson_io.proofs.writing.geometries.write_pair.Goals as goal

pub returns : goal.returns
returns c =
    let across = c.ranges.x in
    let upward = c.ranges.y in
    let first : drop c.put_number-start.result c.put_number-start.new.room ≡ grid_text c.args.places c.args.y ++ 93 ∷ [] = simp to_z-of_z at c.put_number-start.ensures.written in
    let second : drop c.put_number-start-2.result c.put_number-start-2.new.room ≡ grid_text c.args.places c.args.x ++ drop c.put_byte-start.result c.put_byte-start.new.room = simp to_z-of_z at c.put_number-start-2.ensures.written in
    let start : ℕ = c.put_byte-start-2.result in
    let room : List ℕ = c.put_byte-start-2.new.room in
    let all : take (64 - start) (drop start room) ≡ drop start room = take_all (64 - start) (drop start room) (omega (arith, length-drop start room)) in
    let point = point_by_numbers c.args.places c.args.x c.args.y _ _ _ _ first c.put_byte-start.ensures.written second c.put_byte-start-2.ensures.written in
    record { written = on_ok_weaker c.extend.result (λ h. h ∙ ap (λ (t : List ℕ). c.args.out.now ++ t) (all ∙ point)) c.extend.ensures.ok }
