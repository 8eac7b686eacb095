-- The pieces of a mosaic follow the parts of what just their regions have.
use Rattle.std.proofs.Common.{◌≡◌, inl, inr, refl, sym, ap, subst, ◌∙◌, ℕ, ◌<◌, true, false, not, List, [], ◌∷◌, All, Contains, length, filter, get_or, map, nat_eq, nat_lt}
use Rattle.std.specs.Prelude.{◌↔◌}
use Rattle.std.specs.List.{range_with_len}
use Rattle.std.specs.List.Sorted.{IsStrictlyIncreasing}
use Rattle.std.proofs.lemmas.Bool.{cases_Bool}
use Rattle.std.proofs.lemmas.List.Elements.{All-contains, Contains-get_or}
use Rattle.lists.specs.Lists.{has, same_list}
use Rattle.lists.proofs.Ascending.{one_ascending}
use Rattle.lists.proofs.Members.{Contains-cases, Contains-filter, Contains-head, Contains-later, Contains-map, Contains-nil, filter-Contains, map-Contains}
use Rattle.plane_model.specs.Points.{RationalPoint, Path}
use Rattle.plane_model.specs.Drawing.{Drawing}
use Rattle.plane_model.specs.Sees.{IsOffLinks}
use Rattle.plane_model.specs.Snapped.{links_of, snapped}
use Rattle.plane_faces.specs.Places.{Place, IsPlaceOf}
use Rattle.plane_faces.proofs.Order.{place_exists}
use Rattle.plane_faces.proofs.FaceLaws.{place_beside}
use Rattle.face_walk.specs.Places.{FaceTable}
use Rattle.face_sets.specs.Owners.{owners_of}
use Rattle.face_sets.specs.Sets.{IsInnerFace, IsSetOf}
use Rattle.face_sets.proofs.BoundaryLemmas.{Contains_has, has_Contains}
use Rattle.face_sets.proofs.GapLemmas.{in_range, of_range}
use Rattle.face_sets.proofs.SetLemmas.{from_ascending, nat_order, to_ascending, same_from_test, test_from_same, first_of}
use Rattle.region_ops.specs.Mosaic.{Group, faces_of}
use Rattle.region_model.specs.Region.{Region, Has}
use Rattle.region_laws.specs.Regions.{Follows, FollowEach}
use Rattle.region_model.specs.PolygonCommands.{all_of, exactly, regions_at}
use Rattle.region_laws.specs.Followed.{ExactlyHasPoints, FollowParts, IsWalked, MosaicsAreFollowed}
use Rattle.region_ops.proofs.OwnerSets.{in_owners, of_owners}
use Rattle.region_laws.proofs.Numbers.{owners_rise}
use Rattle.region_laws.proofs.PartLaws.{parts_are_followed}
use Rattle.region_laws.proofs.Sets.{at_some, some_at}
use Rattle.region_laws.proofs.Walked.{label_below, links_arranged}

-- ---- all of some regions

module _ (d : Drawing) (arcs : List Path) (z : RationalPoint) where
  pub each_has : (rs : List Region) → Has d arcs (all_of rs) z → (r : Region) → Contains rs r → Has d arcs r z
  each_has [] h r c = Contains-nil r c
  each_has (s ∷ []) h r c = elim (Contains-cases s [] r c) [
    | inl e ↦ subst (λ (t : Region). Has d arcs t z) e h
    | inr more ↦ Contains-nil r more
  ]
  each_has (s ∷ t ∷ rs) h r c = elim (Contains-cases s (t ∷ rs) r c) [
    | inl e ↦ subst (λ (u : Region). Has d arcs u z) e h.0
    | inr more ↦ each_has (t ∷ rs) h.1 r more
  ]

  pub has_each : (r : Region) (rs : List Region) → ((s : Region) → Contains (r ∷ rs) s → Has d arcs s z) → Has d arcs (all_of (r ∷ rs)) z
  has_each r [] h = h r (Contains-head r [])
  has_each r (s ∷ rs) h = (h r (Contains-head r (s ∷ rs)), has_each s rs (λ t c. h t (Contains-later r (s ∷ rs) t c)))

  all_at : (region : ℕ → Region) (numbers : List ℕ) → (numbers ≡ [] → ⊥) → ((n : ℕ) → Contains numbers n → Has d arcs (region n) z) → Has d arcs (all_of (regions_at region numbers)) z
  all_at region [] some h = absurd (some refl)
  all_at region (n ∷ numbers) some h = has_each (region n) (map region numbers) (λ r c. go r (map-Contains region (n ∷ numbers) r c))
    where
      go : (r : Region) → (m : ℕ) × Contains (n ∷ numbers) m × (region m ≡ r) → Has d arcs r z
      go r (m, there, is) = subst (λ (u : Region). Has d arcs u z) is (h m there)

-- the numbers below a count that are not of a list
abbrev others : ℕ → List ℕ → List ℕ
others many numbers = filter (λ (n : ℕ). not (has nat_eq numbers n)) (range_with_len 0 many)

pub exactly_has_points : ExactlyHasPoints
exactly_has_points d arcs region many numbers some below z = (to, from)
  where
    to : Has d arcs (exactly region many numbers) z → (n : ℕ) → n < many → Contains numbers n ↔ Has d arcs (region n) z
    to (every, none) n l = (
      λ c. each_has d arcs z (regions_at region numbers) every (region n) (Contains-map region numbers n c),
      λ h. elim (cases_Bool (has nat_eq numbers n)) [
        | inl e ↦ has_Contains numbers n e
        | inr e ↦ absurd (none (some_at d arcs z region (others many numbers) n (Contains-filter (λ (m : ℕ). not (has nat_eq numbers m)) (range_with_len 0 many) n (in_range many n l) (ap not e)) h))
      ],
    )

    from : ((n : ℕ) → n < many → Contains numbers n ↔ Has d arcs (region n) z) → Has d arcs (exactly region many numbers) z
    from h = (
      all_at d arcs z region numbers some (λ n c. (h n (All-contains (λ (m : ℕ). m < many) numbers n below c)).0 c),
      λ other.
          (let (n, there, has_z) = at_some d arcs z region (others many numbers) other in
          let (in_all, not_one) = filter-Contains (λ (m : ℕ). not (has nat_eq numbers m)) (range_with_len 0 many) n there in
          let one = Contains_has numbers n ((h n (of_range many n in_all)).1 has_z) in
          let clash : false ≡ true = ap not (sym one) ∙ not_one in
          absurd (cc)),
    )

-- ---- the faces that just some sets have

module _ (sets : List (List ℕ)) (count : ℕ) (ids : List ℕ) where
  pub in_faces : (k : ℕ) → k < count → owners_of sets k ≡ ids → Contains (faces_of sets count ids) k
  in_faces k l e = Contains-filter (λ (j : ℕ). same_list nat_eq (owners_of sets j) ids) (range_with_len 0 count) k (in_range count k l) (test_from_same (owners_of sets k) ids e)

  pub of_faces : (k : ℕ) → Contains (faces_of sets count ids) k → (k < count) × (owners_of sets k ≡ ids)
  of_faces k c =
      let (in_all, e) = filter-Contains (λ (j : ℕ). same_list nat_eq (owners_of sets j) ids) (range_with_len 0 count) k c in
      (of_range count k in_all, same_from_test (owners_of sets k) ids e)

module _ (d : Drawing) (arcs : List Path) (faces : FaceTable) (label : Place → ℕ) (walked : IsWalked d arcs faces label) (sets : List (List ℕ)) (inner : All (IsSetOf faces) sets)
    (region : ℕ → Region) (each : FollowEach (snapped d) arcs label sets region) where
  -- the sets that have the face of a point are those whose regions have the point
  module _ (z : RationalPoint) (off : IsOffLinks (links_of (snapped d)) z) (a : Place) (here : IsPlaceOf (links_of (snapped d)) z a) where
    owners_have : (n : ℕ) → n < length sets → Contains (owners_of sets (label a)) n ↔ Has (snapped d) arcs (region n) z
    owners_have n l = (
      λ c. (each n l z off a here).1 (of_owners sets (label a) n c).1,
      λ h. in_owners sets (label a) n l ((each n l z off a here).0 h),
    )

    these : (numbers : List ℕ) → (numbers ≡ [] → ⊥) → All (λ n. n < length sets) numbers → IsStrictlyIncreasing numbers → Has (snapped d) arcs (exactly region (length sets) numbers) z → owners_of sets (label a) ≡ numbers
    these numbers some below up h =
        let by = (exactly_has_points (snapped d) arcs region (length sets) numbers some below z).0 h in
        one_ascending nat_lt nat_order (owners_of sets (label a)) numbers (owners_rise sets (label a)) (to_ascending numbers up)
        (λ n c. (let l = (of_owners sets (label a) n c).0 in (by n l).1 ((owners_have n l).0 c)))
        (λ n c. (let l = All-contains (λ (m : ℕ). m < length sets) numbers n below c in (owners_have n l).1 ((by n l).0 c)))

  pub faces_followed : (ids : List ℕ) → (ids ≡ [] → ⊥) → All (λ n. n < length sets) ids → IsStrictlyIncreasing ids → Follows (snapped d) arcs label (faces_of sets faces.count ids) (exactly region (length sets) ids)
  faces_followed ids some below up z off a here = (
    λ h. in_faces sets faces.count ids (label a) (label_below d arcs faces label walked a (place_beside (links_of (snapped d)) z a here)) (these z off a here ids some below up h),
    λ c.
        (let (l, same) = of_faces sets faces.count ids (label a) c in
        (exactly_has_points (snapped d) arcs region (length sets) ids some below z).1
        (λ n m. subst (λ (ns : List ℕ). Contains ns n ↔ Has (snapped d) arcs (region n) z) same (owners_have z off a here n m))),
  )

  pub faces_inner : (ids : List ℕ) → (ids ≡ [] → ⊥) → IsSetOf faces (faces_of sets faces.count ids)
  faces_inner ids some i e l =
      let k : ℕ = get_or (faces_of sets faces.count ids) i e in
      let (below, same) = of_faces sets faces.count ids k (Contains-get_or (faces_of sets faces.count ids) i e l) in
      let (n, c) = first_of ids some in
      let (there, in_set) = of_owners sets k n (subst (λ (ns : List ℕ). Contains ns n) (sym same) c) in
      All-contains (IsInnerFace faces) (get_or sets n []) k (inner n [] there) in_set

pub mosaics_are_followed : MosaicsAreFollowed
mosaics_are_followed d arcs faces label walked sets inner region each items is = record {
  groups = is.groups;
  in_order = is.in_order;
  listed = is.listed;
  some = is.some;
  below = below;
  rising = rising;
  parts = parts;
  not_empty = λ g c.
      (let (k, l, same) = is.used g c in
      let (j, there, in_part) = (is.parts g c).divided.each k (in_faces sets faces.count g.ids k l same) in
      let (z, off, (held, in_j)) = (parts g c).some j there in
      (z, off, held));
  all = λ numbers some all_below up z off h.
      (let (a, here) = place_exists (links_of (snapped d)) (links_arranged d) z in
      let same = these d arcs faces label walked sets inner region each z off a here numbers some all_below up h in
      let (g, there, ids_are) = is.all (label a) (label_below d arcs faces label walked a (place_beside (links_of (snapped d)) z a here)) (λ e. some (sym same ∙ e)) in
      (g, there, ids_are ∙ same));
}
  where
    below : (g : Group) → Contains is.groups g → All (λ n. n < length sets) g.ids
    below g c i e l =
        let (k, k_below, same) = is.used g c in
        (of_owners sets k (get_or g.ids i e) (subst (λ (ns : List ℕ). Contains ns (get_or g.ids i e)) (sym same) (Contains-get_or g.ids i e l))).0

    rising : (g : Group) → Contains is.groups g → IsStrictlyIncreasing g.ids
    rising g c = let (k, k_below, same) = is.used g c in subst (λ (ns : List ℕ). IsStrictlyIncreasing ns) same (from_ascending (owners_of sets k) (owners_rise sets k))

    parts : (g : Group) → Contains is.groups g → FollowParts (snapped d) arcs label g.parts (exactly region (length sets) g.ids)
    parts g c =
        parts_are_followed d arcs faces label walked (faces_of sets faces.count g.ids) (faces_inner d arcs faces label walked sets inner region each g.ids (is.some g c)) (exactly region (length sets) g.ids)
        (faces_followed d arcs faces label walked sets inner region each g.ids (is.some g c) (below g c) (rising g c)) g.parts (is.parts g c)
