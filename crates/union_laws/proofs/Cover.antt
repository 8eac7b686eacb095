-- The features of a union have each point of the regions of its layers.
use Rattle.std.proofs.Common.{◌≡◌, ℕ, true, List, length, map}
use Rattle.std.specs.List.{range_with_len}
use Rattle.lists.proofs.Members.{Contains-flat_map, Contains-map}
use Rattle.plane_model.specs.Snapped.{links_of, snapped}
use Rattle.plane_faces.proofs.Order.{place_exists}
use Rattle.plane_faces.proofs.FaceLaws.{place_beside}
use Rattle.face_sets.proofs.GapLemmas.{in_range}
use Rattle.union_ops.specs.Choices.{choice_of, has_number}
use Rattle.region_model.specs.Region.{Region, part}
use Rattle.region_model.specs.PolygonCommands.{parts_of}
use Rattle.region_model.specs.UnionCommand.{Choice, union_region}
use Rattle.region_laws.proofs.PartLaws.{parts_are_followed}
use Rattle.region_laws.proofs.PartsExist.{parts_exist}
use Rattle.region_laws.proofs.Sets.{some_has}
use Rattle.region_laws.proofs.Walked.{label_below, links_arranged}
use Rattle.union_laws.specs.United.{UnitedCover}
use Rattle.union_laws.proofs.ChoiceLists.{one_each}
use Rattle.union_laws.proofs.ChosenPoints.{as_many, first_sets, held_numbered, in_choices, left_by_choice}
use Rattle.union_laws.proofs.UnionTold.{face_leaves, faces_with, follow_choice, inner_choice, rising_choice}

pub united_cover : UnitedCover
united_cover d arcs faces label walked layers inner regions follow A tell z off layer among r in_layer held =
    let (a, here) = place_exists (links_of (snapped d)) (links_arranged d) z in
    let c : Choice = choice_of layers (label a) in
    let first = first_sets (snapped d) arcs label z off a here layers regions follow in
    let some : has_number c ≡ true = held_numbered (snapped d) arcs z regions c first layer among (some_has (snapped d) arcs z layer r in_layer held) in
    let long : length c ≡ length regions = one_each regions c (in_choices layers regions (label a) (as_many (snapped d) arcs label layers regions follow)) in
    let left : Region = union_region regions c in
    let set : List ℕ = faces_with d arcs faces label walked layers inner regions follow c in
    let set_inner = inner_choice d arcs faces label walked layers inner regions follow c some in
    let set_follows = follow_choice d arcs faces label walked layers inner regions follow c long some in
    let (parts, are) = parts_exist arcs faces walked.built set (rising_choice d arcs faces label walked layers inner regions follow c) in
    let (j, below, in_part) = (parts_are_followed d arcs faces label walked set set_inner left set_follows parts are).all z off ((left_by_choice (snapped d) arcs z regions c long some).1 first) in
    let numbered = (tell.parts c j).1 (z, off, in_part) in
    let made : Choice → List (Choice × Region) = λ (e : Choice). map (λ (s : Region). (e, s)) (parts_of A (union_region regions e)) in
    let leaves = face_leaves d arcs faces label walked layers inner regions follow A tell (label a) (label_below d arcs faces label walked a (place_beside (links_of (snapped d)) z a here)) some in (
      (c, part left j),
      Contains-flat_map made _ c (c, part left j) leaves (Contains-map (λ (s : Region). (c, s)) (parts_of A left) (part left j) (Contains-map (part left) (range_with_len 0 (A.parts left)) j (in_range (A.parts left) j numbered))),
      in_part,
    )
