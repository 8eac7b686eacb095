-- The features of a face are those that have a polygon which holds its points.
use Rattle.std.proofs.Common.{◌≡◌, inl, inr, refl, sym, ap, subst, ◌∙◌, arith, ℕ, zero, suc, ◌+◌, ◌-◌, ◌<◌, Bool, true, Some, None, List, [], ◌∷◌, ◌++◌, Contains, length, map}
use Rattle.std.specs.Prelude.{◌↔◌, slice_get}
use Rattle.std.specs.List.{list_any}
use Rattle.std.proofs.lemmas.Bool.{cases_lt}
use Rattle.std.proofs.lemmas.List.{get_or_append_left, length-map}
use Rattle.std.proofs.lemmas.Option.{get_or_from_slice_get, same_Some, slice_get-get_or}
use Rattle.lists.specs.Lists.{joined_up}
use Rattle.plane_model.specs.Points.{at}
use Rattle.plane_model.specs.Drawing.{Polygon}
use Rattle.plane_model.specs.Parity.{rings_hold}
use Rattle.plane_model.specs.Snapped.{snapped}
use Rattle.bucket_grid.proofs.Growth.{slice_get-append_left, slice_get-append_right}
use Rattle.face_walk.specs.Holders.{AreOwnersOf, list_at}
use Rattle.face_walk.specs.RingSteps.{owners_from}
use Rattle.face_laws.specs.Holders.{FeaturesOfADrawing}
use Rattle.face_laws.proofs.HolderLemmas.{there_any, any_there}
use Rattle.face_laws.proofs.HoldingLemmas.{items_of_a_drawing}

-- ---- joined lists

get_first : {X : Type 0} (xs ys : List X) (i : ℕ) (x : X) → i < length xs → slice_get (xs ++ ys) i ≡ Some x → slice_get xs i ≡ Some x
get_first xs ys i x l e = slice_get-get_or xs i x l ∙ ap Some (sym (get_or_append_left xs ys x i l) ∙ get_or_from_slice_get (xs ++ ys) i x x e)

same_value : (k : ℕ) (polygons : List Polygon) (i n : ℕ) → slice_get (map (λ (p : Polygon). k) polygons) i ≡ Some n → k ≡ n
same_value k [] i n e = absurd (let f : None ≡ Some n = e in cc)
same_value k (p ∷ polygons) zero n e = same_Some k n e
same_value k (p ∷ polygons) (suc i) n e = same_value k polygons i n e

value_at : (k : ℕ) (polygons : List Polygon) (i : ℕ) → i < length polygons → slice_get (map (λ (p : Polygon). k) polygons) i ≡ Some k
value_at k [] i l = absurd (omega arith)
value_at k (p ∷ polygons) zero l = refl
value_at k (p ∷ polygons) (suc i) l = value_at k polygons i (omega arith)

-- a polygon is one of its owner's
owner_has : (k : ℕ) (features : List (List Polygon)) (i n : ℕ) (polygon : Polygon) → slice_get (joined_up features) i ≡ Some polygon → slice_get (owners_from k features) i ≡ Some n →
    (j : ℕ) × (feature : List Polygon) × (n ≡ k + j) × (slice_get features j ≡ Some feature) × Contains feature polygon
owner_has k [] i n polygon e f = absurd (let g : None ≡ Some polygon = e in cc)
owner_has k (polygons ∷ features) i n polygon e f = elim (cases_lt i (length polygons)) [
  | inl less ↦ (
      let many = length-map polygons (λ (p : Polygon). k) in
      let same = same_value k polygons i n (get_first (map (λ (p : Polygon). k) polygons) (owners_from (k + 1) features) i n (omega arith) f) in
      let there = get_first polygons (joined_up features) i polygon less e in
      (0, polygons, omega arith, refl, (i, less, get_or_from_slice_get polygons i polygon polygon there)))
  | inr more ↦ (
      let many = length-map polygons (λ (p : Polygon). k) in
      let at_one : length polygons + (i - length polygons) ≡ i = omega arith in
      let at_two : length (map (λ (p : Polygon). k) polygons) + (i - length polygons) ≡ i = omega arith in
      let one = sym (slice_get-append_right polygons (joined_up features) (i - length polygons)) ∙ ap (slice_get (polygons ++ joined_up features)) at_one ∙ e in
      let two = sym (slice_get-append_right (map (λ (p : Polygon). k) polygons) (owners_from (k + 1) features) (i - length polygons)) ∙ ap (slice_get (map (λ (p : Polygon). k) polygons ++ owners_from (k + 1) features)) at_two ∙ f in
      let (j, feature, is, found, there) = owner_has (k + 1) features (i - length polygons) n polygon one two in
      (suc j, feature, omega arith, found, there))
]

-- and each polygon of a feature is listed as its own
has_owned : (k : ℕ) (features : List (List Polygon)) (j : ℕ) (feature : List Polygon) (polygon : Polygon) → slice_get features j ≡ Some feature → Contains feature polygon →
    (i : ℕ) × (slice_get (joined_up features) i ≡ Some polygon) × (slice_get (owners_from k features) i ≡ Some (k + j))
has_owned k [] j feature polygon e c = absurd (let g : None ≡ Some feature = e in cc)
has_owned k (polygons ∷ features) zero feature polygon e c =
    let same : polygons ≡ feature = same_Some polygons feature e in
    let (i, less, is) = subst (λ (ps : List Polygon). Contains ps polygon) (sym same) c in
    let value : k ≡ k + 0 = omega arith in (
      i,
      slice_get-append_left polygons (joined_up features) i polygon (slice_get-get_or polygons i polygon less ∙ ap Some is),
      slice_get-append_left (map (λ (p : Polygon). k) polygons) (owners_from (k + 1) features) i (k + 0) (value_at k polygons i less ∙ ap Some value),
    )
has_owned k (polygons ∷ features) (suc j) feature polygon e c =
    let (i, found, owned) = has_owned (k + 1) features j feature polygon e c in
    let many = length-map polygons (λ (p : Polygon). k) in
    let moved : length polygons + i ≡ length (map (λ (p : Polygon). k) polygons) + i = omega arith in
    let value : k + 1 + j ≡ k + suc j = omega arith in (
      length polygons + i,
      slice_get-append_right polygons (joined_up features) i ∙ found,
      ap (slice_get (map (λ (p : Polygon). k) polygons ++ owners_from (k + 1) features)) moved ∙ slice_get-append_right (map (λ (p : Polygon). k) polygons) (owners_from (k + 1) features) i ∙ owned ∙ ap Some value,
    )

-- the owners of the polygons that pass a test are the features of which a polygon passes it
pub owners_with : (holds : Polygon → Bool) (features : List (List Polygon)) (items list : List ℕ) →
    ((i : ℕ) → Contains items i ↔ ((polygon : Polygon) × (slice_get (joined_up features) i ≡ Some polygon) × (holds polygon ≡ true))) → AreOwnersOf (owners_from 0 features) items list →
    (n : ℕ) → Contains list n ↔ ((feature : List Polygon) × (slice_get features n ≡ Some feature) × (list_any holds feature ≡ true))
owners_with holds features items list held owned n = (
  λ c.
      (let (i, there, owner) = (owned.each n).0 c in
      let (polygon, found, is_held) = (held i).0 there in
      let (j, feature, is, at_j, in_feature) = owner_has 0 features i n polygon found owner in
      let same : j ≡ n = omega arith in
      (feature, ap (slice_get features) (sym same) ∙ at_j, there_any holds feature polygon in_feature is_held)),
  λ (feature, at_n, has).
      (let (polygon, in_feature, is_held) = any_there holds feature has in
      let (i, found, owner) = has_owned 0 features n feature polygon at_n in_feature in
      let zeroth : 0 + n ≡ n = omega arith in
      (owned.each n).1 (i, (held i).1 (polygon, found, is_held), owner ∙ ap Some zeroth)),
)

pub features_of_a_drawing : FeaturesOfADrawing
features_of_a_drawing d has arcs table faces built labels h p f over below =
    owners_with (rings_hold (at p)) (snapped d).polygons (list_at h.polygons f) (list_at labels.holders f) (items_of_a_drawing d has arcs table faces built labels h p f over).0 (h.owned f below)
