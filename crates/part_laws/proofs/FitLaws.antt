-- The rings of a traced polygon fit the part that it stands for.
use Rattle.std.proofs.Common.{◌≡◌, inl, inr, refl, sym, ap, ◌∙◌, subst, arith, ℕ, zero, suc, ◌+◌, ◌<◌, ◌≤◌, Bool, true, false, ◌||◌, List, [], ◌∷◌, map, length, get_or, All, AllPairs, Contains, pos}
use Rattle.std.specs.Prelude.{IsTrue, ◌<ℤ◌}
use Rattle.std.specs.List.{sum_by}
use Rattle.std.proofs.lemmas.List.{get_or_default, get_or-map, length-append, length-map}
use Rattle.std.proofs.lemmas.List.Elements.{All-cons, All-map, All-nil}
use Rattle.std.proofs.lemmas.List.Sums.{get_or-le-sum_by, sum_by-cons}
use Rattle.std.proofs.Math.Numerals.{lt_of_le_of_ne}
use Rattle.plane_parity.proofs.Abscissa.{same_link-self}
use Rattle.plane_model.specs.Points.{Segment, Path, same_segment}
use Rattle.plane_model.specs.Drawing.{steps}
use Rattle.plane_model.specs.Arcs.{SignedArc, begins_arc, points_of}
use Rattle.plane_model.specs.Rings.{AreExteriorAndHoles, BeginsAtLeastArc, IsSimple, least_arc, turn_at_least}
use Rattle.plane_faces.specs.Rings.{IsRing}
use Rattle.arc_table.specs.Around.{start_of}
use Rattle.arc_table.proofs.DrawnPaths.{points_counted}
use Rattle.face_sets.specs.Boundary.{IsOnBoundary}
use Rattle.ring_trace.specs.Pairing.{stop_of}
use Rattle.ring_trace.specs.Traced.{BeginsWithLeast, bounded, is_of_boundary, once_if, times, times_round}
use Rattle.ring_trace.specs.Turns.{first_number, round_of}
use Rattle.ring_trace.specs.Ways.{IsSimpleRing}
use Rattle.face_sets.proofs.BoundaryLemmas.{same_or_other}
use Rattle.ring_trace.proofs.PartSides.{of_test}
use Rattle.face_walk.specs.Places.{FaceTable, face_left_of}
use Rattle.part_laws.specs.Parts.{AreFacesOf, AreTraced, HasExteriorFirst, TracedPolygonsFit}
use Rattle.part_laws.proofs.ArcCounts.{ring_steps}
use Rattle.part_laws.proofs.NumberLaws.{first_along, least_is, some_steps, steps_along}
use Rattle.part_laws.proofs.PolygonLaws.{are_rings, at_least_one, once_most, used_true, uses}
use Rattle.part_laws.proofs.TracedLaws.{some_arc, traced_polygons_have_exteriors}

-- ---- rings

pub ring_is_simple : (ring : Path) → IsRing ring → IsSimple ring
ring_is_simple [] h = absurd h
ring_is_simple (p ∷ []) h = absurd h
ring_is_simple (p ∷ q ∷ rest) h = h.1

-- a path begins with its first step
begins_with : (path : Path) (s : Segment) → 1 < length path → get_or (steps path) 0 s ≡ s → begins_arc s path ≡ true
begins_with [] s l e = absurd (omega arith)
begins_with (p ∷ []) s l e = absurd (omega arith)
begins_with (p ∷ q ∷ rest) s l e = ap (λ (b : Bool). b || false) (ap (same_segment s) e ∙ same_link-self s)

begins_at : (arcs : List Path) (path : Path) (d : Segment) (a : SignedArc) → 0 < length (steps path) → least_arc arcs path ≡ a.arc → begins_arc (get_or (steps path) 0 d) (points_of arcs a) ≡ true → BeginsAtLeastArc arcs path
begins_at arcs [] d a l e h = absurd (omega arith)
begins_at arcs (p ∷ []) d a l e h = absurd (omega arith)
begins_at arcs (p ∷ q ∷ rest) d a l e h = (
  a.is_reversed,
  All-cons (λ s. IsTrue (begins_arc s (points_of arcs (record { arc = least_arc arcs (p ∷ q ∷ rest); is_reversed = a.is_reversed })))) (get_or (steps (p ∷ q ∷ rest)) 0 d) []
      (ap (λ (n : ℕ). begins_arc (get_or (steps (p ∷ q ∷ rest)) 0 d) (points_of arcs (record { arc = n; is_reversed = a.is_reversed }))) e ∙ h) (All-nil _),
)

pub two_summed : {X : Type 0} (f : X → ℕ) (xs : List X) (i j : ℕ) (d : X) → i < j → j < length xs → f (get_or xs i d) + f (get_or xs j d) ≤ sum_by f xs
two_summed f [] i j d less l = absurd (omega arith)
two_summed f (x ∷ xs) i zero d less l = absurd (omega arith)
two_summed f (x ∷ xs) zero (suc j) d less l =
    let m = sum_by-cons f x xs in
    let r = get_or-le-sum_by f xs j d (omega arith) in
    omega arith
two_summed f (x ∷ xs) (suc i) (suc j) d less l =
    let m = sum_by-cons f x xs in
    let r = two_summed f xs i j d (omega arith) (omega arith) in
    omega arith

-- ---- the polygons of a trace

module _ (S : List Segment) (arcs : List Path) (faces : FaceTable) (table : AreFacesOf S arcs faces) (set : List ℕ) (parts : List (List ℕ)) (polygons : List (List (List SignedArc))) (traced : AreTraced arcs faces set parts polygons)
    (k : ℕ) (l : k < length polygons) where
  abbrev part : List ℕ
  part = get_or (bounded faces.places (length arcs) parts) k []

  abbrev polygon : List (List SignedArc)
  polygon = get_or polygons k []

  there : All (All (λ a. a.arc < length arcs)) polygon
  there = traced.there k [] l

  least : All BeginsWithLeast polygon
  least = traced.least_first k [] l

  simple : All (IsSimpleRing (start_of arcs) (stop_of arcs)) polygon
  simple = traced.simple k [] l

  used : (a : SignedArc) → times_round a polygon ≡ once_if (is_of_boundary faces.places (length arcs) part a)
  used a = traced.used.once k a l

  number_is : (i : ℕ) (d : List SignedArc) → i < length polygon → least_arc arcs (round_of arcs (get_or polygon i d)) ≡ first_number (get_or polygon i d)
  number_is i d m = least_is S table.arrangement arcs table.long table.along (get_or polygon i d) (there i d m) (least i d m) (simple i d m)

  begins : All (BeginsAtLeastArc arcs) (map (round_of arcs) polygon)
  begins = All-map (BeginsAtLeastArc arcs) (round_of arcs) polygon (λ i d m. ring_begins (get_or polygon i d) (there i d m) (least i d m) (simple i d m) (number_is i d m))
    where
      ring_begins : (ring : List SignedArc) → All (λ a. a.arc < length arcs) ring → BeginsWithLeast ring → IsSimpleRing (start_of arcs) (stop_of arcs) ring → least_arc arcs (round_of arcs ring) ≡ first_number ring → BeginsAtLeastArc arcs (round_of arcs ring)
      ring_begins [] below first round e = absurd first
      ring_begins (a ∷ rest) below first round e =
          let la : a.arc < length arcs = below 0 a (omega arith) in
          let none : Segment = record { start = record { x = pos 0; y = pos 0 }; stop = record { x = pos 0; y = pos 0 } } in
          let around = ring_steps S table.arrangement arcs table.long table.along (a ∷ rest) (omega arith) below round in
          let s : Segment = get_or (steps (points_of arcs a)) 0 none in
          let some = some_steps S table.arrangement arcs table.long table.along a la in
          let is : get_or (steps (round_of arcs (a ∷ rest))) 0 none ≡ s =
          ap (λ (ss : List Segment). get_or ss 0 none) around ∙ first_along S table.arrangement arcs table.long table.along a rest la none in
          let longer : 1 < length (points_of arcs a) = (let m = points_counted arcs a in let n = table.long a.arc [] la in omega arith) in
          let all : 0 < length (steps (round_of arcs (a ∷ rest))) = subst (λ (ss : List Segment). 0 < length ss) (sym around) (let joined = length-append (steps (points_of arcs a)) (steps_along S table.arrangement arcs table.long table.along rest) in omega arith) in
          begins_at arcs (round_of arcs (a ∷ rest)) none a all e
          (ap (λ (t : Segment). begins_arc t (points_of arcs a)) is ∙ begins_with (points_of arcs a) s longer (get_or_default (steps (points_of arcs a)) 0 s none some))

  -- no two rings begin with one arc
  first_apart : (i j : ℕ) (d : List SignedArc) → i < j → j < length polygon → first_number (get_or polygon i d) ≡ first_number (get_or polygon j d) → ⊥
  first_apart i j d less m same =
      let (a, a_is, a_there) = first_of (get_or polygon i d) (least i d (omega arith)) in
      let (b, b_is, b_there) = first_of (get_or polygon j d) (least j d m) in
      let one = at_least_one a (get_or polygon i d) a_there in
      let two = at_least_one b (get_or polygon j d) b_there in
      elim (same_or_other a b (sym a_is ∙ same ∙ b_is)) [
        | inl e ↦ (
            let r = two_summed (times b) polygon i j d less m in
            let o = once_most (is_of_boundary faces.places (length arcs) part b) in
            let u = used b in
            let q : 1 ≤ times b (get_or polygon i d) = subst (λ (c : SignedArc). 1 ≤ times c (get_or polygon i d)) e one in
            omega arith)
        | inr e ↦ (
            let on_a = on a (get_or-le-sum_by (times a) polygon i d (omega arith)) one in
            let on_b = on b (get_or-le-sum_by (times b) polygon j d m) two in
            on_b.right (subst (λ (c : SignedArc). Contains part (face_left_of faces.places c)) e on_a.left))
      ]
    where
      first_of : (ring : List SignedArc) → BeginsWithLeast ring → (a : SignedArc) × (first_number ring ≡ a.arc) × Contains ring a
      first_of [] h = absurd h
      first_of (a ∷ rest) h = (a, refl, (0, omega arith, refl))

      on : (a : SignedArc) → {n : ℕ} → n ≤ times_round a polygon → 1 ≤ n → IsOnBoundary faces part a
      on a r q = of_test faces (length arcs) part a table.built.places_counted (used_true (is_of_boundary faces.places (length arcs) part a) (let u = used a in omega arith))

  order : HasExteriorFirst arcs polygon → AreExteriorAndHoles arcs (map (round_of arcs) polygon)
  order first = subst (λ (rings : List (List SignedArc)). AreExteriorAndHoles arcs (map (round_of arcs) rings)) (sym first.are) (
    first.exterior_turns_left,
    All-map (λ hole. turn_at_least hole <ℤ pos 0) (round_of arcs) first.holes first.holes_turn_right,
    rising,
  )
    where
      hole_at : (i : ℕ) (d : List SignedArc) → get_or polygon (suc i) d ≡ get_or first.holes i d
      hole_at i d = ap (λ (rings : List (List SignedArc)). get_or rings (suc i) d) first.are

      rising : AllPairs (λ g h. least_arc arcs g < least_arc arcs h) (map (round_of arcs) first.holes)
      rising i j d less m =
          let size = length-map first.holes (round_of arcs) in
          let all : length polygon ≡ suc (length first.holes) = ap (λ (rings : List (List SignedArc)). length rings) first.are in
          let none : List SignedArc = [] in
          let at_i = get_or-map (round_of arcs) first.holes i none d (omega arith) in
          let at_j = get_or-map (round_of arcs) first.holes j none d (omega arith) in
          let up : first_number (get_or first.holes i none) ≤ first_number (get_or first.holes j none) = first.in_order i j none less (omega arith) in
          let n_i : least_arc arcs (round_of arcs (get_or first.holes i none)) ≡ first_number (get_or first.holes i none) =
          subst (λ (r : List SignedArc). least_arc arcs (round_of arcs r) ≡ first_number r) (hole_at i none) (number_is (suc i) none (omega arith)) in
          let n_j : least_arc arcs (round_of arcs (get_or first.holes j none)) ≡ first_number (get_or first.holes j none) =
          subst (λ (r : List SignedArc). least_arc arcs (round_of arcs r) ≡ first_number r) (hole_at j none) (number_is (suc j) none (omega arith)) in
          let apart : first_number (get_or first.holes i none) ≡ first_number (get_or first.holes j none) → ⊥ =
          (λ e. first_apart (suc i) (suc j) none (omega arith) (omega arith) (ap first_number (hole_at i none) ∙ e ∙ sym (ap first_number (hole_at j none)))) in
          let e_i = ap (least_arc arcs) at_i in
          let e_j = ap (least_arc arcs) at_j in
          let strict = lt_of_le_of_ne up apart in
          omega arith

pub traced_polygons_fit : TracedPolygonsFit
traced_polygons_fit S arcs faces table set parts polygons traced label by k l =
    let (first, is) = traced_polygons_have_exteriors S table.arrangement table.distinct arcs table.long table.along table.free faces table.built label by set traced.inner parts traced.parted polygons traced.there traced.least_first traced.simple traced.in_order traced.used k l in
    let ring_there : All (λ ring. 0 < length ring) (get_or polygons k []) = (λ j d n. some_arc (get_or (get_or polygons k []) j d) (traced.least_first k [] l j d n)) in
    let rings = are_rings S table.arrangement table.distinct arcs table.long table.along table.free faces table.built label by (get_or (bounded faces.places (length arcs) parts) k []) (get_or polygons k []) (traced.there k [] l) ring_there (traced.simple k [] l)
    (λ a. traced.used.once k a l) in
    record {
      uses = uses S table.arrangement table.distinct arcs table.long table.along table.free faces table.built label by (get_or (bounded faces.places (length arcs) parts) k []) (get_or polygons k []) (traced.there k [] l) ring_there (traced.simple k [] l)
          (λ a. traced.used.once k a l);
      simple = λ j d n. ring_is_simple (get_or (map (round_of arcs) (get_or polygons k [])) j d) (rings j d n);
      order = order S arcs faces table set parts polygons traced k l first;
      begins = begins S arcs faces table set parts polygons traced k l;
    }
