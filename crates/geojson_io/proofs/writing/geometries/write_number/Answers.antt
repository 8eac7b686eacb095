use Rattle.std.proofs.Common.{◌≡◌, ◌-◌, ◌++◌, [], ◌∙◌, List, ℕ, take, drop, ap, arith, length-drop, to_z-of_z}
use Rattle.std.proofs.lemmas.List.{append-nil, take_all}
use Rattle.std.proofs.lemmas.Result.{on_ok_weaker}
use Rattle.geojson_io.specs.Texts.{grid_text}
use Rattle.geojson_io.proofs.writing.geometries.write_number.Goals as goal

pub returns : goal.returns
returns c =
    let size = c.ranges.g in
    let start : ℕ = c.put_number-start.result in
    let room : List ℕ = c.put_number-start.new.room in
    let all : take (32 - start) (drop start room) ≡ drop start room = take_all (32 - start) (drop start room) (omega (arith, length-drop start room)) in
    let text : drop start room ≡ grid_text c.args.places c.args.g ++ [] = simp to_z-of_z at c.put_number-start.ensures.written in
    record { written = on_ok_weaker c.extend.result (λ h. h ∙ ap (λ (t : List ℕ). c.args.out.now ++ t) (all ∙ text ∙ append-nil (grid_text c.args.places c.args.g))) c.extend.ensures.ok }
