-- A part of a set stands alone along its boundary, by the owners of the faces beside its arcs, exactly if its region
-- does, by the regions that have the sides of the links of its boundary.
use Rattle.std.proofs.Common.{◌≡◌, inl, inr, refl, sym, ap, ◌∙◌, subst, arith, ℕ, ◌<◌, Bool, true, false, cond, ◌&&◌, List, [], ◌∷◌, Contains, Option, Some, length, get_or, nat_eq}
use Rattle.std.specs.Cmp.{both_ways}
use Rattle.std.specs.List.{list_all}
use Rattle.std.proofs.lemmas.Bool.{and_from, and_parts, eq-eqb, eqb-true, false_from_ne_true}
use Rattle.std.proofs.lemmas.List.Elements.{All-contains}
use Rattle.std.proofs.lemmas.List.FromFn.{get_or-map-range_with_len, length-map-range_with_len}
use Rattle.std.proofs.lemmas.Option.{same_Some}
use Rattle.lists.specs.Lists.{has, numbers_where, same_list}
use Rattle.lists.proofs.Members.{Contains-cases, Contains-filter, Contains-filter_map, Contains-flat_map, Contains-head, Contains-later, filter-Contains, filter_map-Contains, flat_map-Contains}
use Rattle.plane_model.specs.Points.{Segment, Path, reversed}
use Rattle.plane_model.specs.Arcs.{SignedArc}
use Rattle.plane_model.specs.Arrangement.{IsBefore}
use Rattle.plane_model.specs.Boundary.{boundary_step}
use Rattle.plane_model.specs.Drawing.{Drawing}
use Rattle.plane_model.specs.Snapped.{links_of, snapped}
use Rattle.plane_model.proofs.PointOrder.{before_to}
use Rattle.plane_faces.specs.Places.{Place, left_side, right_side}
use Rattle.plane_faces.proofs.Order.{before_not_back}
use Rattle.arc_table.proofs.SignedArcs.{Contains-signed_below}
use Rattle.face_walk.specs.Places.{FaceTable, arcs_with_left, face_left_of, has_left, signed_below}
use Rattle.face_sets.specs.Boundary.{face_right_of, is_outward, other_way, outward_at}
use Rattle.face_sets.specs.Owners.{owners_of}
use Rattle.face_sets.proofs.BoundaryLemmas.{Contains_has, back_again, below_arc, has_Contains, outward_from, outward_if, same_or_other}
use Rattle.face_sets.proofs.OwnerLemmas.{numbers_alike}
use Rattle.part_laws.proofs.LinkLemmas.{GoesAlong, arc_of_link, link_of_arc}
use Rattle.calc_ops.specs.Islands as sets
use Rattle.calc_ops.specs.Islands.{border}
use Rattle.region_model.specs.Region.{Region, any_of}
use Rattle.region_model.specs.Answers.{Answers, boundary, is_nil}
use Rattle.region_model.specs.LineCommands.{on_left, on_right}
use Rattle.region_model.specs.PolygonCommands as model
use Rattle.region_model.specs.PolygonCommands.{all_regions}
use Rattle.region_laws.specs.Regions.{Follows, FollowEach}
use Rattle.region_laws.specs.Followed.{IsWalked}
use Rattle.region_laws.specs.Answered.{TellSides, plane_with}
use Rattle.region_laws.proofs.SideTests.{left_same, right_same}
use Rattle.region_laws.proofs.Walked.{links_arranged}

-- ---- lists

all_pass : {X : Type 0} (t : X → Bool) (xs : List X) → list_all t xs ≡ true → (x : X) → Contains xs x → t x ≡ true
all_pass t [] e x (i, l, is) = absurd (omega arith)
all_pass t (y ∷ xs) e x c = elim (Contains-cases y xs x c) [
  | inl same ↦ ap t (sym same) ∙ (and_parts (t y) (list_all t xs) e).0
  | inr more ↦ all_pass t xs (and_parts (t y) (list_all t xs) e).1 x more
]

pass_all : {X : Type 0} (t : X → Bool) (xs : List X) → ((x : X) → Contains xs x → t x ≡ true) → list_all t xs ≡ true
pass_all t [] h = refl
pass_all t (x ∷ xs) h = and_from (t x) (list_all t xs) (h x (Contains-head x xs)) (pass_all t xs (λ y c. h y (Contains-later x xs y c)))

-- both definitions of what stands alone say the same of lists at two sides
said_alike : (n : ℕ) (xs ys : List ℕ) → (same_list nat_eq xs (n ∷ []) && same_list nat_eq ys []) ≡ (is_nil ys && same_list nat_eq xs (n ∷ []))
said_alike n xs [] = with_true (same_list nat_eq xs (n ∷ []))
  where
    with_true : (b : Bool) → (b && true) ≡ b
    with_true true = refl
    with_true false = refl
said_alike n xs (y ∷ ys) = with_false (same_list nat_eq xs (n ∷ []))
  where
    with_false : (b : Bool) → (b && false) ≡ false
    with_false true = refl
    with_false false = refl

-- ---- the boundary of a set, arc by arc

record IsBorder (arcs : List Path) (faces : FaceTable) (set : List ℕ) (a : SignedArc) : Type 0 where
  pub there : a.arc < length arcs
  pub left : Contains set (face_left_of faces.places a)
  pub right : Contains set (face_right_of faces.places a) → ⊥

of_border : (arcs : List Path) (faces : FaceTable) (set : List ℕ) (a : SignedArc) → Contains (border arcs faces set) a → IsBorder arcs faces set a
of_border arcs faces set a c =
    let (f, in_set, at_face) = flat_map-Contains (outward_at faces.places (length arcs) set) set a c in
    let (round, out) = filter-Contains (is_outward faces.places set) (arcs_with_left faces.places (length arcs) f) a at_face in
    let (below, is_left) = filter-Contains (has_left faces.places f) (signed_below (length arcs)) a round in
    record {
      there = below_arc (length arcs) a below;
      left = subst (Contains set) (sym (eqb-true (face_left_of faces.places a) f is_left)) in_set;
      right = outward_from faces.places set a out;
    }

in_border : (arcs : List Path) (faces : FaceTable) (set : List ℕ) (a : SignedArc) → IsBorder arcs faces set a → Contains (border arcs faces set) a
in_border arcs faces set a is =
    let f : ℕ = face_left_of faces.places a in
    Contains-flat_map (outward_at faces.places (length arcs) set) set f a is.left
    (Contains-filter (is_outward faces.places set) (arcs_with_left faces.places (length arcs) f) a
    (Contains-filter (has_left faces.places f) (signed_below (length arcs)) a (Contains-signed_below (length arcs) a is.there) (eq-eqb f f refl))
    (outward_if faces.places set a is.right))

module _ (d : Drawing) (arcs : List Path) (faces : FaceTable) (label : Place → ℕ) (walked : IsWalked d arcs faces label) (A : Answers) where
  abbrev S : List Segment
  S = links_of (snapped d)

  -- ---- the sides of a step along a link

  in_order : (l : Segment) → Contains (links_of (snapped d)) l → IsBefore l.start l.stop
  in_order l on = All-contains (λ (k : Segment). IsBefore k.start k.stop) S l (links_arranged d).ordered on

  left_along : (q : Region) (l : Segment) → Contains (links_of (snapped d)) l → on_left A q l ≡ A.left q l
  left_along q l on = λ i. cond (before_to l.start l.stop (in_order l on) i) (A.left q l) (A.right q (reversed l))

  right_along : (q : Region) (l : Segment) → Contains (links_of (snapped d)) l → on_right A q l ≡ A.right q l
  right_along q l on = λ i. cond (before_not_back l.start l.stop (in_order l on) i) (A.left q (reversed l)) (A.right q l)

  -- ---- who has the sides

  module _ (owned : List (List ℕ)) (region : ℕ → Region) (each : FollowEach (snapped d) arcs label owned region) (told : (n : ℕ) → n < length owned → TellSides (plane_with d arcs) A (region n)) where
    abbrev all : List Region
    all = all_regions region (length owned)

    -- a face is in the sets of just those regions that pass a test which is, for each, whether its set has the face
    owners_alike : (k : ℕ) (test : Region → Bool) → ((n : ℕ) → n < length owned → has nat_eq (get_or owned n []) k ≡ test (region n)) → owners_of owned k ≡ numbers_where test all
    owners_alike k test h =
        numbers_alike 0 (λ (set : List ℕ). has nat_eq set k) test owned all [] (any_of []) (length-map-range_with_len region 0 (length owned))
        (λ n l. h n l ∙ sym (ap test (get_or-map-range_with_len region 0 (length owned) n n (any_of []) (omega arith) (omega arith))))

    module _ (l : Segment) (on : Contains (links_of (snapped d)) l) where
      has_left_side : (n : ℕ) → n < length owned → has nat_eq (get_or owned n []) (label (left_side l)) ≡ A.left (region n) l
      has_left_side n below = left_same d arcs faces label walked (get_or owned n []) (region n) (each n below) (A.left (region n)) (A.right (region n)) (told n below) l on

      has_right_side : (n : ℕ) → n < length owned → has nat_eq (get_or owned n []) (label (right_side l)) ≡ A.right (region n) l
      has_right_side n below = right_same d arcs faces label walked (get_or owned n []) (region n) (each n below) (A.left (region n)) (A.right (region n)) (told n below) l on

      -- an arc that goes along the link stands alone as the link does, and so do they the other way
      module _ (n : ℕ) (a : SignedArc) (goes : GoesAlong (links_of (snapped d)) (links_arranged d) arcs walked.table.long walked.table.links faces label walked.labelled a l) where
        abbrev tells : List ℕ → List ℕ → Bool
        tells xs ys = is_nil ys && same_list nat_eq xs (n ∷ [])

        alone_along : sets.stands_alone faces owned n a ≡ model.stands_alone A all n l
        alone_along =
            let on_its_left : owners_of owned (face_left_of faces.places a) ≡ numbers_where (λ (r : Region). on_left A r l) all =
            ap (owners_of owned) (sym goes.left) ∙ owners_alike (label (left_side l)) (λ (r : Region). on_left A r l) (λ m below. has_left_side m below ∙ sym (left_along (region m) l on)) in
            let on_its_right : owners_of owned (face_right_of faces.places a) ≡ numbers_where (λ (r : Region). on_right A r l) all =
            ap (owners_of owned) (sym goes.right) ∙ owners_alike (label (right_side l)) (λ (r : Region). on_right A r l) (λ m below. has_right_side m below ∙ sym (right_along (region m) l on)) in
            said_alike n (owners_of owned (face_left_of faces.places a)) (owners_of owned (face_right_of faces.places a))
            ∙ (λ i. tells (on_its_left i) (on_its_right i))

        alone_back : sets.stands_alone faces owned n (other_way a) ≡ model.stands_alone A all n (reversed l)
        alone_back =
            let on_its_left : owners_of owned (face_left_of faces.places (other_way a)) ≡ numbers_where (λ (r : Region). on_left A r (reversed l)) all =
            ap (owners_of owned) (sym goes.right) ∙ owners_alike (label (right_side l)) (λ (r : Region). on_left A r (reversed l)) (λ m below. has_right_side m below ∙ sym (right_along (region m) l on)) in
            let on_its_right : owners_of owned (face_right_of faces.places (other_way a)) ≡ numbers_where (λ (r : Region). on_right A r (reversed l)) all =
            ap (λ (b : SignedArc). owners_of owned (face_left_of faces.places b)) (back_again a) ∙ ap (owners_of owned) (sym goes.left)
            ∙ owners_alike (label (left_side l)) (λ (r : Region). on_right A r (reversed l)) (λ m below. has_left_side m below ∙ sym (left_along (region m) l on)) in
            said_alike n (owners_of owned (face_left_of faces.places (other_way a))) (owners_of owned (face_right_of faces.places (other_way a)))
            ∙ (λ i. tells (on_its_left i) (on_its_right i))

    -- ---- all along the boundary

    module _ (n : ℕ) (set : List ℕ) (q : Region) (follows : Follows (snapped d) arcs label set q) (sides : TellSides (plane_with d arcs) A q) where
      abbrev step : Segment → Option Segment
      step l = boundary_step (A.left q l) (A.right q l) l

      abbrev alone_by_set : SignedArc → Bool
      alone_by_set a = sets.stands_alone faces owned n a

      abbrev alone_by_side : Segment → Bool
      alone_by_side s = model.stands_alone A all n s

      on_the_left : (l : Segment) → Contains (links_of (snapped d)) l → has nat_eq set (label (left_side l)) ≡ A.left q l
      on_the_left l on = left_same d arcs faces label walked set q follows (A.left q) (A.right q) sides l on

      on_the_right : (l : Segment) → Contains (links_of (snapped d)) l → has nat_eq set (label (right_side l)) ≡ A.right q l
      on_the_right l on = right_same d arcs faces label walked set q follows (A.left q) (A.right q) sides l on

      in_by : (k : ℕ) (b : Bool) → has nat_eq set k ≡ b → b ≡ true → Contains set k
      in_by k b e f = has_Contains set k (e ∙ f)

      out_by : (k : ℕ) (b : Bool) → has nat_eq set k ≡ b → b ≡ false → Contains set k → ⊥
      out_by k b e f c = let g : false ≡ true = sym (e ∙ f) ∙ Contains_has set k c in absurd (cc)

      to_steps : list_all alone_by_set (border arcs faces set) ≡ true → (s : Segment) → Contains (boundary (plane_with d arcs) A q) s → alone_by_side s ≡ true
      to_steps e s c =
          let (l, on, is) = filter_map-Contains step S s c in
          let (a, goes) = arc_of_link S (links_arranged d) arcs walked.table.long walked.table.links faces label walked.labelled l on in
          go l on a goes (A.left q l) (A.right q l) refl refl is
        where
          go : (l : Segment) (on : Contains (links_of (snapped d)) l) (a : SignedArc) → GoesAlong (links_of (snapped d)) (links_arranged d) arcs walked.table.long walked.table.links faces label walked.labelled a l →
              (x y : Bool) → A.left q l ≡ x → A.right q l ≡ y → boundary_step x y l ≡ Some s → alone_by_side s ≡ true
          go l on a goes true true f g is = absurd (cc)
          go l on a goes false false f g is = absurd (cc)
          go l on a goes true false f g is =
              let here : IsBorder arcs faces set a = record {
                there = goes.arc;
                left = subst (Contains set) goes.left (in_by (label (left_side l)) (A.left q l) (on_the_left l on) f);
                right = λ c. out_by (label (right_side l)) (A.right q l) (on_the_right l on) g (subst (Contains set) (sym goes.right) c);
              } in
              ap alone_by_side (sym (same_Some l s is)) ∙ sym (alone_along l on n a goes) ∙ all_pass alone_by_set (border arcs faces set) e a (in_border arcs faces set a here)
          go l on a goes false true f g is =
              let here : IsBorder arcs faces set (other_way a) = record {
                there = goes.arc;
                left = subst (Contains set) goes.right (in_by (label (right_side l)) (A.right q l) (on_the_right l on) g);
                right = λ c. out_by (label (left_side l)) (A.left q l) (on_the_left l on) f (subst (Contains set) (ap (face_left_of faces.places) (back_again a) ∙ sym goes.left) c);
              } in
              ap alone_by_side (sym (same_Some (reversed l) s is)) ∙ sym (alone_back l on n a goes) ∙ all_pass alone_by_set (border arcs faces set) e (other_way a) (in_border arcs faces set (other_way a) here)

      to_arcs : list_all alone_by_side (boundary (plane_with d arcs) A q) ≡ true → (a : SignedArc) → Contains (border arcs faces set) a → alone_by_set a ≡ true
      to_arcs e a c =
          let is = of_border arcs faces set a c in
          let (l, on, b, same, goes) = link_of_arc S (links_arranged d) arcs walked.table.long walked.table.links faces label walked.labelled a.arc is.there in
          elim (same_or_other a b (sym same)) [
            | inl f ↦ (
                let yes : A.left q l ≡ true = sym (on_the_left l on) ∙ Contains_has set (label (left_side l)) (subst (Contains set) (ap (face_left_of faces.places) f ∙ sym goes.left) is.left) in
                let no : A.right q l ≡ false = false_from_ne_true (A.right q l) (λ g. is.right (subst (Contains set) (goes.right ∙ sym (ap (face_right_of faces.places) f)) (in_by (label (right_side l)) (A.right q l) (on_the_right l on) g))) in
                ap alone_by_set f ∙ alone_along l on n b goes ∙ all_pass alone_by_side (boundary (plane_with d arcs) A q) e l (Contains-filter_map step S l l on (λ i. boundary_step (yes i) (no i) l)))
            | inr f ↦ (
                let yes : A.right q l ≡ true = sym (on_the_right l on) ∙ Contains_has set (label (right_side l)) (subst (Contains set) (ap (face_left_of faces.places) f ∙ sym goes.right) is.left) in
                let no : A.left q l ≡ false = false_from_ne_true (A.left q l) (λ g. is.right (subst (Contains set) (goes.left ∙ ap (face_left_of faces.places) (sym (back_again b)) ∙ sym (ap (face_right_of faces.places) f)) (in_by (label (left_side l)) (A.left q l) (on_the_left l on) g))) in
                ap alone_by_set f ∙ alone_back l on n b goes ∙ all_pass alone_by_side (boundary (plane_with d arcs) A q) e (reversed l) (Contains-filter_map step S l (reversed l) on (λ i. boundary_step (no i) (yes i) l)))
          ]

      pub detached_alike : sets.is_detached faces owned n (border arcs faces set) ≡ model.is_detached (plane_with d arcs) A (all_regions region (length owned)) n q
      detached_alike = both_ways (sets.is_detached faces owned n (border arcs faces set)) (model.is_detached (plane_with d arcs) A all n q)
          (λ e. pass_all alone_by_side (boundary (plane_with d arcs) A q) (to_steps e)) (λ e. pass_all alone_by_set (border arcs faces set) (to_arcs e))
