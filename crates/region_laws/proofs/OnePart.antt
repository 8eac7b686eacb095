-- A polygon of a trace is the trace of its part alone.
use Rattle.std.proofs.Common.{◌≡◌, refl, sym, ap, subst, ◌∙◌, arith, ℕ, zero, suc, ◌<◌, Bool, true, cond, List, [], ◌∷◌, All, AllPairs, Contains, length, get_or, map, nat_eq, nat_lt}
use Rattle.std.specs.Prelude.{◌↔◌}
use Rattle.std.specs.List.Sorted.{IsStrictlyIncreasing}
use Rattle.std.proofs.lemmas.List.{append-nil}
use Rattle.std.proofs.lemmas.List.Elements.{All-cons, All-nil, All-contains, All-contains_itself, Contains-get_or}
use Rattle.std.proofs.lemmas.List.Sums.{sum_by-cons}
use Rattle.lists.specs.Lists.{has}
use Rattle.lists.proofs.Members.{filter-Contains}
use Rattle.plane_model.specs.Points.{Segment, Path}
use Rattle.plane_model.specs.Arcs.{SignedArc}
use Rattle.plane_model.specs.Rings.{UsesOnce}
use Rattle.plane_model.specs.Snapped.{links_of, snapped}
use Rattle.plane_faces.specs.Places.{Place, left_side, right_side}
use Rattle.plane_faces.specs.UsedOnce.{border_steps}
use Rattle.arc_table.specs.Around.{start_of}
use Rattle.face_walk.specs.Places.{FaceTable}
use Rattle.face_laws.specs.Faces.{IsFaceOfPlace}
use Rattle.face_sets.specs.Boundary.{boundary, face_right_of}
use Rattle.face_sets.specs.Joined.{AreJoined, AreParts, IsChain}
use Rattle.ring_trace.specs.Pairing.{stop_of}
use Rattle.face_sets.specs.Parts.{IsPieceOf}
use Rattle.face_sets.specs.Sets.{IsInnerFace, IsSetOf}
use Rattle.ring_trace.specs.Traced.{BeginsWithLeast, UsesBoundary, bounded, is_of_boundary, once_if, times_round}
use Rattle.ring_trace.specs.Turns.{MayStandBefore, round_of}
use Rattle.ring_trace.specs.Ways.{IsSimpleRing}
use Rattle.face_sets.proofs.JoinedLemmas.{joined_over}
use Rattle.part_laws.specs.Parts.{AreFacesOf, AreTraced}
use Rattle.part_laws.proofs.BoundedLaws.{parts_have_boundaries}
use Rattle.part_laws.proofs.TogetherLaws.{traces_use_the_border}
use Rattle.region_model.specs.Region.{part}
use Rattle.region_laws.specs.Printed.{PolygonsUseBoundaries}
use Rattle.region_laws.proofs.PartLaws.{parts_are_followed}
use Rattle.region_laws.proofs.Prints.{faces_of_links}
use Rattle.region_laws.proofs.SideTests.{left_same, one_boundary, right_same}

alone : {X : Type 0} (P : X → Type 0) (x : X) → P x → All P (x ∷ [])
alone P x h = All-cons P x [] h (All-nil P)

module _ (S : List Segment) (arcs : List Path) (faces : FaceTable) (table : AreFacesOf S arcs faces) (set : List ℕ) (parts : List (List ℕ)) (polygons : List (List (List SignedArc))) (traced : AreTraced arcs faces set parts polygons)
    (label : Place → ℕ) (by : IsFaceOfPlace arcs faces label) (k : ℕ) (below : k < length polygons) where
  abbrev p : List ℕ
  p = get_or parts k []

  abbrev q : List (List SignedArc)
  q = get_or polygons k []

  all_kept : bounded faces.places (length arcs) parts ≡ parts
  all_kept = (parts_have_boundaries S arcs faces table set traced.inner parts traced.parted).1

  there : k < length parts
  there = let many = (parts_have_boundaries S arcs faces table set traced.inner parts traced.parted).2 polygons traced.used in omega arith

  inner : IsSetOf faces p
  inner i d l = All-contains (IsInnerFace faces) set (get_or p i d) traced.inner ((traced.parted.divided.faces k [] there).faces i d l)

  -- ---- the part is one

  -- a chain from a face of the part stays in it
  stays : (f g : ℕ) (xs : List SignedArc) → Contains p f → IsChain faces set f xs g → IsChain faces p f xs g
  stays f g [] c h = h
  stays f g (a ∷ xs) c (over, rest) =
      let (j, m, d) = traced.parted.divided.each (face_right_of faces.places a) over.into in
      let same : k ≡ j = (traced.parted.joined k j f (face_right_of faces.places a) there m c d).1 (joined_over faces set f a over) in
      let into : Contains p (face_right_of faces.places a) = subst (λ (i : ℕ). Contains (get_or parts i []) (face_right_of faces.places a)) (sym same) d in
      (record { arc = over.arc; from = over.from; into = into }, stays (face_right_of faces.places a) g xs into rest)

  some : (i : ℕ) → i < length (p ∷ []) → get_or (p ∷ []) i [] ≡ [] → ⊥
  some zero l = traced.parted.divided.some k there
  some (suc i) l = absurd (omega arith)

  joined : (i j f g : ℕ) → i < length (p ∷ []) → j < length (p ∷ []) → Contains (get_or (p ∷ []) i []) f → Contains (get_or (p ∷ []) j []) g → (i ≡ j) ↔ AreJoined faces p f g
  joined zero zero f g li lj cf cg = ((λ e. (let (xs, chain) = (traced.parted.joined k k f g there there cf cg).0 refl in (xs, stays f g xs cf chain))), λ h. refl)
  joined zero (suc j) f g li lj cf cg = absurd (omega arith)
  joined (suc i) j f g li lj cf cg = absurd (omega arith)

  one_part : AreParts faces p (p ∷ [])
  one_part = record {
    divided = record { faces = alone (IsPieceOf p) p (record { faces = All-contains_itself p }); some = some; each = λ f c. (0, omega arith, c); once = λ i j f li lj cf cg. (omega arith) };
    ascending = alone IsStrictlyIncreasing p (traced.parted.ascending k [] there);
    joined = joined;
    in_order = λ i j m n less l. absurd (omega arith);
  }

  -- ---- its trace

  has_arcs : nat_lt 0 (length (boundary faces.places (length arcs) p)) ≡ true
  has_arcs =
      (filter-Contains (λ (part : List ℕ). nat_lt 0 (length (boundary faces.places (length arcs) part))) parts p
      (subst (λ (ps : List (List ℕ)). Contains ps p) (sym all_kept) (Contains-get_or parts k [] there))).1

  kept_alone : bounded faces.places (length arcs) (p ∷ []) ≡ p ∷ []
  kept_alone = ap (λ (b : Bool). cond b (p ∷ []) []) has_arcs

  used_once : (a : SignedArc) → times_round a q ≡ once_if (is_of_boundary faces.places (length arcs) p a)
  used_once a = traced.used.once k a below ∙ ap (λ (ps : List (List ℕ)). once_if (is_of_boundary faces.places (length arcs) (get_or ps k []) a)) all_kept

  used_alone : (i : ℕ) (a : SignedArc) → i < length (q ∷ []) → times_round a (get_or (q ∷ []) i []) ≡ once_if (is_of_boundary faces.places (length arcs) (get_or (bounded faces.places (length arcs) (p ∷ [])) i []) a)
  used_alone zero a l = used_once a ∙ sym (ap (λ (ps : List (List ℕ)). once_if (is_of_boundary faces.places (length arcs) (get_or ps 0 []) a)) kept_alone)
  used_alone (suc i) a l = absurd (omega arith)

  traced_alone : AreTraced arcs faces p (p ∷ []) (q ∷ [])
  traced_alone = record {
    inner = inner;
    parted = one_part;
    there = alone (All (All (λ a. a.arc < length arcs))) q (traced.there k [] below);
    least_first = alone (All BeginsWithLeast) q (traced.least_first k [] below);
    simple = alone (All (IsSimpleRing (start_of arcs) (stop_of arcs))) q (traced.simple k [] below);
    in_order = alone (AllPairs (MayStandBefore arcs)) q (traced.in_order k [] below);
    used = record { each = sym (ap (λ (ps : List (List ℕ)). length ps) kept_alone); once = used_alone };
  }

  boundary_alone : UsesBoundary faces.places (length arcs) p (q ∷ [])
  boundary_alone = record { once = λ a. (let one = sum_by-cons (times_round a) q [] in let is = used_once a in omega arith) }

  pub uses_alone : UsesOnce (border_steps (λ (place : Place). has nat_eq (get_or parts k []) (label place)) S) (map (round_of arcs) (get_or polygons k []))
  uses_alone =
      subst (λ (rings : List (List SignedArc)). UsesOnce (border_steps (λ (place : Place). has nat_eq p (label place)) S) (map (round_of arcs) rings)) (append-nil q)
      (traces_use_the_border S arcs faces table p (p ∷ []) (q ∷ []) traced_alone boundary_alone label by)

pub polygons_use_boundaries : PolygonsUseBoundaries
polygons_use_boundaries d arcs faces label walked set parts polygons traced r follows k below left right sides =
    let S : List Segment = links_of (snapped d) in
    let table = faces_of_links d arcs faces label walked in
    let part_followed = (parts_are_followed d arcs faces label walked set traced.inner r follows parts traced.parted).each k (there S arcs faces table set parts polygons traced label walked.labelled k below) in
    subst (λ (steps : List Segment). UsesOnce steps (map (round_of arcs) (get_or polygons k [])))
    (one_boundary (λ (l : Segment). has nat_eq (get_or parts k []) (label (left_side l))) (λ (l : Segment). has nat_eq (get_or parts k []) (label (right_side l))) left right S
    (λ l c. left_same d arcs faces label walked (get_or parts k []) (part r k) part_followed left right sides l c) (λ l c. right_same d arcs faces label walked (get_or parts k []) (part r k) part_followed left right sides l c))
    (uses_alone S arcs faces table set parts polygons traced label walked.labelled k below)
