-- Commands on polygons make the same of the same answers.
use Rattle.std.proofs.Common.{◌≡◌, ap, ◌∙◌, ℕ, Bool, not, ◌&&◌, ◌||◌, ℤ, pos, List, [], ◌∷◌, map, filter, take, length}
use Rattle.std.specs.Prelude.{int_le, int_lt, is_some, nat_eq, nat_lt, if◌then◌else◌}
use Rattle.std.specs.List.{flat_map, list_all, list_any, range_with_len}
use Rattle.std.proofs.Math.Path.{fun_ext}
use Rattle.lists.specs.Lists.{numbers_where, same_list, sort_stable}
use Rattle.plane_model.specs.Points.{Segment}
use Rattle.plane_model.specs.Boundary.{twice_area}
use Rattle.grid_base.specs.declared.kinds.OverlapRule.{OverlapRule}
use Rattle.region_model.specs.Region.{Region, Regions, any_of, gap_of, less, part, regions_of}
use Rattle.region_model.specs.Answers.{Answers, Plane, area_of, boundary, is_empty, is_nil}
use Rattle.region_model.specs.LineCommands.{on_left, on_right}
use Rattle.region_model.specs.PolygonCommands.{all_regions, ascending_lists, borders, cleaned_and_filled, exactly, exploded, is_detached, mosaic, ranks_before, regions_at, stands_alone, without_islands}
use Rattle.region_model.specs.UnionCommand.{Choice, choices, united, union_region}
use Rattle.outcome_laws.specs.Laws.{IsAlong}
use Rattle.outcome_laws.proofs.Every.{SameAt, every_by, same_all, same_any}
use Rattle.outcome_laws.proofs.Alike.{AreAlike, boundary_along, right_alike}

-- ## Commands by what they ask

abbrev cleaned_by : (Region → ℤ) → OverlapRule → (ℕ → Region) → ℕ → ℕ → Region
cleaned_by area rule region many n = less (region n) (any_of (regions_at region (filter (λ (m : ℕ). ranks_before rule m (area (region m)) n (area (region n))) (range_with_len 0 many))))

abbrev gaps_by : (Region → ℤ) → (Regions → ℕ) → ℕ → List Region → List ℕ
gaps_by area gaps most rs = filter (λ (j : ℕ). int_le (area (gap_of rs j)) (pos most)) (range_with_len 0 (gaps (regions_of rs)))

abbrev goes_by : (Region → ℤ) → (Region → Region → Bool) → OverlapRule → (ℕ → Region) → ℕ → ℕ → List ℕ
goes_by area beside rule region many j =
    take 1 (filter (λ (n : ℕ). beside (gap_of (all_regions region many) j) (cleaned_by area rule region many n)) (sort_stable (λ (m n : ℕ). ranks_before rule m (area (region m)) n (area (region n))) (range_with_len 0 many)))

abbrev filled_by : (Region → ℤ) → (Region → Region → Bool) → (Regions → ℕ) → OverlapRule → ℕ → (ℕ → Region) → ℕ → ℕ → Region
filled_by area beside gaps rule most region many n =
    any_of (cleaned_by area rule region many n ∷ map (gap_of (all_regions region many)) (filter (λ (j : ℕ). same_list nat_eq (n ∷ []) (goes_by area beside rule region many j)) (gaps_by area gaps most (all_regions region many))))

abbrev parts_by : (Region → ℕ) → Region → List Region
parts_by parts r = map (part r) (range_with_len 0 (parts r))

abbrev mosaic_by : (Region → Bool) → (Region → ℕ) → (ℕ → Region) → ℕ → List (List ℕ × Region)
mosaic_by empty parts region many = flat_map (λ (L : List ℕ). map (λ (r : Region). (L, r)) (parts_by parts (exactly region many L))) (filter (λ (L : List ℕ). not (empty (exactly region many L))) (ascending_lists (range_with_len 0 many)))

abbrev left_by : (List Region → ℕ → Region → Bool) → (Region → ℤ) → (Region → List Segment) → (Region → ℕ) → ℕ → ℕ → (ℕ → Region) → ℕ → ℕ → Region
left_by detached area border parts least_area least_links region many n =
    any_of (filter (λ (piece : Region). not (detached (all_regions region many) n piece && (int_lt (area piece) (pos least_area) || nat_lt (length (border piece)) least_links))) (parts_by parts (region n)))

abbrev united_by : (Region → Bool) → (Region → ℕ) → List (List Region) → List (Choice × Region)
united_by empty parts layers = flat_map (λ (c : Choice). map (λ (r : Region). (c, r)) (parts_by parts (union_region layers c)))
    (filter (λ (c : Choice). list_any is_some c && not (empty (union_region layers c))) (choices layers))

-- ## What they ask is the same

module _ (P : Plane) (A B : Answers) (alike : AreAlike P A B) where
  pub empty_same : is_empty P A ≡ is_empty P B
  empty_same = λ i r. is_nil (alike.boundaries i r)

  area_same : area_of P A ≡ area_of P B
  area_same = λ i r. twice_area (alike.boundaries i r)

  borders_same : borders P A ≡ borders P B
  borders_same = fun_ext (λ hole. fun_ext (λ r.
      ap (list_any (on_right A r)) (λ i. alike.boundaries i hole)
      ∙ same_any (on_right A r) (on_right B r) (boundary P B hole) (every_by (IsAlong P.links) (SameAt (on_right A r) (on_right B r)) (right_alike P A B alike r) (boundary P B hole) (boundary_along P B hole))))

  alone_same : (rs : List Region) (n : ℕ) (s : Segment) → IsAlong P.links s → stands_alone A rs n s ≡ stands_alone B rs n s
  alone_same rs n s a =
      let right : (λ (r : Region). on_right A r s) ≡ (λ (r : Region). on_right B r s) = fun_ext (λ r. right_alike P A B alike r s a) in
      let left : (λ (r : Region). on_left A r s) ≡ (λ (r : Region). on_left B r s) = fun_ext (λ r. alike.left r s a) in
      λ i. is_nil (numbers_where (right i) rs) && same_list nat_eq (numbers_where (left i) rs) (n ∷ [])

  detached_same : is_detached P A ≡ is_detached P B
  detached_same = fun_ext (λ rs. fun_ext (λ n. fun_ext (λ piece.
      ap (list_all (stands_alone A rs n)) (λ i. alike.boundaries i piece)
      ∙ same_all (stands_alone A rs n) (stands_alone B rs n) (boundary P B piece) (every_by (IsAlong P.links) (SameAt (stands_alone A rs n) (stands_alone B rs n)) (alone_same rs n) (boundary P B piece) (boundary_along P B piece)))))

  -- ## And so is what they make

  pub filled_same : cleaned_and_filled P A ≡ cleaned_and_filled P B
  filled_same = λ i. filled_by (area_same i) (borders_same i) (alike.gaps i)

  pub mosaic_same : mosaic P A ≡ mosaic P B
  mosaic_same = λ i. mosaic_by (empty_same i) (alike.parts i)

  pub exploded_same : exploded P A ≡ exploded P B
  exploded_same = λ i r. if empty_same i r then r ∷ [] else parts_by (alike.parts i) r

  pub islands_same : without_islands P A ≡ without_islands P B
  islands_same = λ i. left_by (detached_same i) (area_same i) (alike.boundaries i) (alike.parts i)

  pub united_same : united P A ≡ united P B
  united_same = λ i. united_by (empty_same i) (alike.parts i)
