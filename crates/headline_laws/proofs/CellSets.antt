-- The sets of the features of a view, and what is left of them where each face goes to one.
use Rattle.std.proofs.Common.{◌≡◌, refl, sym, ap, ap₂, ◌∙◌, subst, arith, ℕ, ◌+◌, ◌<◌, ◌==◌, Bool, not, cond, List, [], ◌∷◌, length, map, nat_lt, All, get_or}
use Rattle.std.specs.Prelude.{count_by}
use Rattle.std.specs.List.{AllZip, range_with_len}
use Rattle.std.specs.List.Sorted.{IsStrictlyIncreasing}
use Rattle.std.proofs.lemmas.List.Elements.{All-filter, All-from_get_or, All-get_or}
use Rattle.std.proofs.lemmas.List.FromFn.{get_or-map-range_with_len, length-map-range_with_len}
use Rattle.std.proofs.lemmas.List.Kept.{IsStrictlyIncreasing-filter}
use Rattle.std.proofs.lemmas.List.Sums.{sum_by-cons}
use Rattle.lists.specs.Lists.{ascending, joined_up}
use Rattle.plane_model.specs.Snapped.{snapped}
use Rattle.grid_base.specs.declared.kinds.Kind.TheVariants as kinds
use Rattle.grid_base.specs.declared.kinds.OverlapRule.{OverlapRule}
use Rattle.face_sets.specs.Sets.{IsInnerFace, IsSetOf, area_of}
use Rattle.region_ops.specs.Cleaned.{IsCleaned, is_lost}
use Rattle.region_ops.specs.Dissolved.{set_at}
use Rattle.region_model.specs.Region.{Region, any_of, feature}
use Rattle.region_model.specs.Answers.{is_empty}
use Rattle.region_model.specs.Answers as answers
use Rattle.region_model.specs.PolygonCommands.{cleaned}
use Rattle.region_laws.specs.Regions.{Follows, FollowEach}
use Rattle.region_laws.proofs.Answered.{cleaned_as_told}
use Rattle.region_laws.proofs.Areas.{areas_are_those_of_regions}
use Rattle.run_plane.specs.declared.layer.Shape.TheVariants as shape
use Rattle.chain_model.specs.State as state
use Rattle.layer_laws.specs.Shown.{View, IsView, FacesShow, plane_of}
use Rattle.layer_laws.specs.Views.{ShowEach}
use Rattle.layer_laws.proofs.Empty.{emptiness_shows}
use Rattle.layer_laws.proofs.PolygonSets.{joined_show, show_in_order}

module _ (v : View) (view : IsView v) where
  -- ---- sets that show regions, by their numbers

  module _ (sets : List (List ℕ)) (made : ℕ → Region) (rising : All IsStrictlyIncreasing sets) (inner : All (IsSetOf v.faces) sets) (follow : FollowEach (snapped v.drawing) v.arcs v.label sets made) where
    numbered : AllZip (FacesShow v) sets (map made (range_with_len 0 (length sets)))
    numbered = show_in_order v sets (map made (range_with_len 0 (length sets))) rising inner (length-map-range_with_len made 0 (length sets)) (λ n l.
        subst (λ (r : Region). Follows (snapped v.drawing) v.arcs v.label (get_or sets n []) r) (sym (get_or-map-range_with_len made 0 (length sets) n n (any_of []) l (omega arith))) (follow n l))

  -- ---- emptiness

  abbrev pub has_face : List ℕ → Bool
  has_face set = not (length set == 0)

  abbrev pub has_point : Region → Bool
  has_point r = not (is_empty (plane_of v) v.answers r)

  one_counted : (set : List ℕ) (r : Region) → FacesShow v set r → has_face set ≡ has_point r
  one_counted set r shows = ap not (emptiness_shows v view kinds.Polygon (shape.Faces set) (state.region r) (record { set = set; region = r; has = refl; is = refl; shows = shows }))

  all_counted : (sets : List (List ℕ)) (rs : List Region) → AllZip (FacesShow v) sets rs → count_by has_face sets ≡ count_by has_point rs
  all_counted [] [] z = refl
  all_counted [] (r ∷ rs) z = absurd z
  all_counted (set ∷ sets) [] z = absurd z
  all_counted (set ∷ sets) (r ∷ rs) z =
      sum_by-cons (λ (s : List ℕ). cond (has_face s) 1 0) set sets
      ∙ ap₂ (λ (b : Bool) (n : ℕ). cond b 1 0 + n) (one_counted set r z.0) (all_counted sets rs z.1)
      ∙ sym (sum_by-cons (λ (s : Region). cond (has_point s) 1 0) r rs)

  -- ---- the sets of features

  module _ (sets : List (List ℕ)) (shown : ShowEach v sets feature) where
    rise : All IsStrictlyIncreasing sets
    rise = All-from_get_or IsStrictlyIncreasing sets [] (λ n l. (shown n l).rising)

    inner : All (IsSetOf v.faces) sets
    inner = All-from_get_or (IsSetOf v.faces) sets [] (λ n l. (shown n l).inner)

    follow : FollowEach (snapped v.drawing) v.arcs v.label sets feature
    follow n l = (shown n l).follows

    -- all of them together
    pub area_same : area_of v.faces.areas (ascending nat_lt (joined_up sets)) ≡ answers.area_of (plane_of v) v.answers (any_of (map feature (range_with_len 0 (length sets))))
    area_same =
        let all : Region = any_of (map feature (range_with_len 0 (length sets))) in
        let shows : FacesShow v (ascending nat_lt (joined_up sets)) all = joined_show v sets (map feature (range_with_len 0 (length sets))) (numbered sets feature rise inner follow) in
        areas_are_those_of_regions v.drawing v.arcs v.faces v.label view.walked (ascending nat_lt (joined_up sets)) shows.rising shows.inner all shows.follows (v.answers.left all) (v.answers.right all) (view.right.sides all)

    module _ (rule : OverlapRule) (left : List (List ℕ)) (is : IsCleaned rule v.faces.areas sets left) where
      abbrev kept : ℕ → ℕ → Bool
      kept n k = not (is_lost rule v.faces.areas sets n k)

      left_rise : All IsStrictlyIncreasing left
      left_rise = All-from_get_or IsStrictlyIncreasing left [] (λ n l.
          let count = is.count in
          let below : n < length sets = omega (arith, l, count) in
          subst IsStrictlyIncreasing (sym (is.kept n below)) (IsStrictlyIncreasing-filter (kept n) (set_at sets n) (All-get_or IsStrictlyIncreasing sets n [] below rise)))

      left_inner : All (IsSetOf v.faces) left
      left_inner = All-from_get_or (IsSetOf v.faces) left [] (λ n l.
          let count = is.count in
          let below : n < length sets = omega (arith, l, count) in
          subst (IsSetOf v.faces) (sym (is.kept n below)) (All-filter (kept n) (IsInnerFace v.faces) (set_at sets n) (All-get_or (IsSetOf v.faces) sets n [] below inner)))

      pub filled_same : count_by has_face left ≡ count_by has_point (map (cleaned (plane_of v) v.answers rule feature (length sets)) (range_with_len 0 (length sets)))
      filled_same =
          let made : ℕ → Region = cleaned (plane_of v) v.answers rule feature (length sets) in
          let followed : FollowEach (snapped v.drawing) v.arcs v.label left made = cleaned_as_told v.drawing v.arcs v.faces v.label view.walked sets rise inner feature follow v.answers (λ n below. view.right.sides (feature n)) rule left is in
          all_counted left (map made (range_with_len 0 (length left))) (numbered left made left_rise left_inner followed)
          ∙ ap (λ (many : ℕ). count_by has_point (map made (range_with_len 0 many))) is.count
