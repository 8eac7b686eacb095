-- The faces that features and boxes hold follow them.
use Rattle.std.proofs.Common.{◌≡◌, refl, sym, ap, ◌∙◌, ℕ, zero, suc, Bool, true, false, Some, None, List, [], ◌∷◌, Contains, get_or, map}
use Rattle.std.specs.Prelude.{◌↔◌, slice_get}
use Rattle.std.proofs.lemmas.Option.{get_or_from_slice_get, same_Some}
use Rattle.lists.specs.Lists.{joined_up}
use Rattle.plane_model.specs.Points.{RationalPoint, Segment, Path}
use Rattle.plane_model.specs.Drawing.{Drawing, Polygon}
use Rattle.plane_model.specs.Parity.{feature_holds, links_of_paths, rings_hold}
use Rattle.plane_model.specs.Snapped.{links_of, snapped}
use Rattle.plane_faces.specs.Places.{Place, IsPlaceOf, odd_at}
use Rattle.plane_faces.proofs.Connected.{parity_at_place}
use Rattle.plane_faces.proofs.FaceLaws.{place_beside}
use Rattle.face_walk.specs.Crossings.{outer_of}
use Rattle.face_walk.specs.Holders.{AreHeldBy, AreHolders, HolderTable, list_at}
use Rattle.face_walk.specs.Places.{FaceTable}
use Rattle.face_walk.specs.RingSteps.{AreStepsOf}
use Rattle.face_walk.specs.declared.ring_steps.RingStep.{RingStep}
use Rattle.face_laws.proofs.FeatureLemmas.{owners_with}
use Rattle.face_laws.proofs.HoldingLemmas.{IsSound, boxes_sound, polygons_sound}
use Rattle.face_laws.proofs.SideLemmas.{held_at_place}
use Rattle.region_laws.specs.Followed.{BoxesAreFollowed, FeaturesAreFollowed, IsWalked}
use Rattle.region_laws.proofs.Walked.{labels_faces, label_below, links_arranged, links_distinct}

-- an element that passes, where the default does not, is there
passing_is_there : {X : Type 0} (test : X → Bool) (xs : List X) (n : ℕ) (e : X) → test e ≡ false → test (get_or xs n e) ≡ true → slice_get xs n ≡ Some (get_or xs n e)
passing_is_there test [] n e f t = absurd (let g : true ≡ false = sym t ∙ f in cc)
passing_is_there test (x ∷ xs) zero e f t = refl
passing_is_there test (x ∷ xs) (suc n) e f t = passing_is_there test xs n e f t

module _ (d : Drawing) (arcs : List Path) (faces : FaceTable) (label : Place → ℕ) (walked : IsWalked d arcs faces label) (labels : HolderTable) (h : AreHolders arcs (snapped d) faces labels) where
  abbrev S : List Segment
  S = links_of (snapped d)

  -- the items of a face are those whose links are odd at its points
  items_hold : (items : List (List Path)) → ((i : ℕ) (paths : List Path) → slice_get items i ≡ Some paths → IsSound (snapped d) paths) → (steps : List RingStep) → AreStepsOf arcs items steps →
      (held : List (List ℕ)) → AreHeldBy steps (outer_of faces) h.crossings held → (z : RationalPoint) (a : Place) → IsPlaceOf S z a →
      (i : ℕ) → Contains (list_at held (label a)) i ↔ ((paths : List Path) × (slice_get items i ≡ Some paths) × (rings_hold z paths ≡ true))
  items_hold items sound steps of_items held lists z a here i =
      let both_ways = held_at_place (snapped d) (links_arranged d) (links_distinct d) arcs walked.table faces walked.built label walked.labelled (labels_faces d arcs faces label walked)
      h.crossings h.crossed h.all items sound steps of_items held lists a (place_beside S z a here) i in
      let same : (paths : List Path) → slice_get items i ≡ Some paths → rings_hold z paths ≡ odd_at (links_of_paths paths) a =
      (λ paths found. parity_at_place S (links_of_paths paths) (links_arranged d) (sound i paths found).even.within (sound i paths found).even.even z a here) in (
        λ c. (let (paths, found, odd) = both_ways.0 c in (paths, found, same paths found ∙ odd)),
        λ (paths, found, holds). both_ways.1 (paths, found, sym (same paths found) ∙ holds),
      )

  holders_hold : (z : RationalPoint) (a : Place) → IsPlaceOf S z a → (n : ℕ) →
      Contains (list_at labels.holders (label a)) n ↔ ((feature : List Polygon) × (slice_get (snapped d).polygons n ≡ Some feature) × (feature_holds z feature ≡ true))
  holders_hold z a here =
      owners_with (rings_hold z) (snapped d).polygons (list_at h.polygons (label a)) (list_at labels.holders (label a))
      (items_hold (joined_up (snapped d).polygons) (polygons_sound (snapped d) walked.paths) h.polygon_steps h.of_polygons h.polygons h.held z a here)
      (h.owned (label a) (label_below d arcs faces label walked a (place_beside S z a here)))

pub features_are_followed : FeaturesAreFollowed
features_are_followed d arcs faces label walked labels h n set has z off a here =
    let below = label_below d arcs faces label walked a (place_beside (links_of (snapped d)) z a here) in
    let holders = holders_hold d arcs faces label walked labels h z a here n in (
      λ held. (has (label a) below).1 (holders.1 (get_or (snapped d).polygons n [], passing_is_there (feature_holds z) (snapped d).polygons n [] refl held, held)),
      λ c. (let (feature, found, held) = holders.0 ((has (label a) below).0 c) in ap (feature_holds z) (get_or_from_slice_get (snapped d).polygons n feature [] found) ∙ held),
    )

pub boxes_are_followed : BoxesAreFollowed
boxes_are_followed d arcs faces label walked labels h n set has z off a here =
    let below = label_below d arcs faces label walked a (place_beside (links_of (snapped d)) z a here) in
    let boxes = items_hold d arcs faces label walked labels h (map (λ (path : Path). path ∷ []) (snapped d).boxes) (boxes_sound (snapped d) walked.paths) h.box_steps h.of_boxes labels.boxes h.boxed z a here n in (
      λ held. (has (label a) below).1 (boxes.1 (get_or (snapped d).boxes n [] ∷ [], mapped (snapped d).boxes n (get_or (snapped d).boxes n []) (passing_is_there (λ (path : Path). rings_hold z (path ∷ [])) (snapped d).boxes n [] refl held), held)),
      λ c. (let (paths, found, held) = boxes.0 ((has (label a) below).0 c) in ap (rings_hold z) (of_mapped (snapped d).boxes n paths found) ∙ held),
    )
  where
    mapped : (xs : List Path) (n : ℕ) (x : Path) → slice_get xs n ≡ Some x → slice_get (map (λ (path : Path). path ∷ []) xs) n ≡ Some (x ∷ [])
    mapped [] n x e = absurd (let f : None ≡ Some x = e in cc)
    mapped (y ∷ xs) zero x e = ap (λ (p : Path). Some (p ∷ [])) (same_Some y x e)
    mapped (y ∷ xs) (suc n) x e = mapped xs n x e

    of_mapped : (xs : List Path) (n : ℕ) (paths : List Path) → slice_get (map (λ (path : Path). path ∷ []) xs) n ≡ Some paths → get_or xs n [] ∷ [] ≡ paths
    of_mapped [] n paths e = absurd (let f : None ≡ Some paths = e in cc)
    of_mapped (x ∷ xs) zero paths e = same_Some (x ∷ []) paths e
    of_mapped (x ∷ xs) (suc n) paths e = of_mapped xs n paths e
