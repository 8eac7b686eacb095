-- The rings of all polygons of a trace together.
use Rattle.std.proofs.Common.{◌≡◌, refl, sym, ap, ◌∙◌, subst, arith, ℕ, zero, suc, ◌<◌, Bool, true, false, not, List, [], ◌∷◌, map, length, get_or, All}
use Rattle.std.specs.Prelude.{◌↔◌}
use Rattle.std.specs.List.{sum_by}
use Rattle.std.proofs.lemmas.Bool.{false_from_ne_true}
use Rattle.std.proofs.lemmas.Grind.{flat_map-append}
use Rattle.std.proofs.lemmas.List.{get_or_default, map-append}
use Rattle.std.proofs.lemmas.List.Elements.{All-nil, All-append, All-head, All-tail}
use Rattle.std.proofs.lemmas.List.Sums.{sum_by-append, sum_by-cons}
use Rattle.lists.specs.Lists.{joined_up}
use Rattle.plane_model.specs.Points.{Path, RationalPoint, link_between}
use Rattle.plane_model.specs.Drawing.{steps, steps_of_paths}
use Rattle.plane_model.specs.Arcs.{SignedArc}
use Rattle.plane_model.specs.Parity.{is_below, links_of_paths, odd_count, rings_hold, xor}
use Rattle.plane_parity.proofs.Telescope.{odd_count-append}
use Rattle.plane_faces.specs.Rings.{IsRing}
use Rattle.arc_table.specs.Around.{start_of}
use Rattle.face_laws.proofs.LabelLemmas.{each_table_has_labels}
use Rattle.ring_trace.specs.Pairing.{stop_of}
use Rattle.ring_trace.specs.Traced.{BeginsWithLeast, bounded, times}
use Rattle.ring_trace.specs.Turns.{round_of}
use Rattle.ring_trace.specs.Ways.{IsSimpleRing}
use Rattle.part_laws.specs.Parts.{TracedRingsGoRound, TracesHoldByParity, TracesUseTheBorder}
use Rattle.part_laws.proofs.ApartLaws.{polygons_are_apart, polygons_hold_by_parity}
use Rattle.part_laws.proofs.PolygonLaws.{are_rings, uses}
use Rattle.part_laws.proofs.TracedLaws.{all_back, some_arc}

-- ---- lists of lists

all_joined : {X : Type 0} (P : X → Type 0) (xss : List (List X)) → All (All P) xss → All P (joined_up xss)
all_joined P [] h = All-nil P
all_joined P (xs ∷ xss) h = All-append P xs (joined_up xss) (All-head (All P) xs xss h) (all_joined P xss (All-tail (All P) xs xss h))

sum_joined : {X : Type 0} (f : X → ℕ) (xss : List (List X)) → sum_by f (joined_up xss) ≡ sum_by (λ (xs : List X). sum_by f xs) xss
sum_joined f [] = refl
sum_joined {X} f (xs ∷ xss) =
    let m = sum_by-append f xs (joined_up xss) in
    let n = sum_by-cons (λ (ys : List X). sum_by f ys) xs xss in
    let r = sum_joined f xss in
    omega arith

-- ---- one of several passes a test

none_is_odd : {X : Type 0} (p : X → Bool) (xs : List X) (d : X) → ((i : ℕ) → i < length xs → p (get_or xs i d) ≡ true → ⊥) → odd_count p xs ≡ false
none_is_odd p [] d h = refl
none_is_odd p (x ∷ xs) d h =
    ap (λ (b : Bool). xor b (odd_count p xs)) (false_from_ne_true (p x) (h 0 (omega arith)))
    ∙ none_is_odd p xs d (λ i l e. h (suc i) (omega arith) e)

-- where no two pass, an odd number passes just if some does
one_is_odd : {X : Type 0} (p : X → Bool) (xs : List X) (d : X) → ((i j : ℕ) → i < length xs → j < length xs → p (get_or xs i d) ≡ true → p (get_or xs j d) ≡ true → i ≡ j) →
    (odd_count p xs ≡ true) ↔ ((k : ℕ) × (k < length xs) × (p (get_or xs k d) ≡ true))
one_is_odd p [] d h = (λ e. absurd (let f : false ≡ true = e in cc), λ found. let (k, l, e) = found in absurd (omega arith))
one_is_odd {X} p (x ∷ xs) d h = go (p x) refl (one_is_odd p xs d (λ i j l m e f. let same : suc i ≡ suc j = h (suc i) (suc j) (omega arith) (omega arith) e f in omega arith))
  where
    go : (b : Bool) → p x ≡ b → ((odd_count p xs ≡ true) ↔ ((k : ℕ) × (k < length xs) × (p (get_or xs k d) ≡ true))) → (odd_count p (x ∷ xs) ≡ true) ↔ ((k : ℕ) × (k < length (x ∷ xs)) × (p (get_or (x ∷ xs) k d) ≡ true))
    go true e rest = (
      λ f. (0, omega arith, e),
      λ k. ap (λ (b : Bool). xor b (odd_count p xs)) e ∙ ap not (none_is_odd p xs d (λ i l f. let same : 0 ≡ suc i = h 0 (suc i) (omega arith) (omega arith) e f in omega arith)),
    )
    go false e rest =
        let is : odd_count p (x ∷ xs) ≡ odd_count p xs = ap (λ (b : Bool). xor b (odd_count p xs)) e in (
          λ f. let (k, l, g) = rest.0 (sym is ∙ f) in (suc k, omega arith, g),
          λ k. is ∙ rest.1 (later k),
        )
      where
        later : ((k : ℕ) × (k < length (x ∷ xs)) × (p (get_or (x ∷ xs) k d) ≡ true)) → ((k : ℕ) × (k < length xs) × (p (get_or xs k d) ≡ true))
        later (zero, l, g) = absurd (let f : true ≡ false = sym g ∙ e in cc)
        later (suc k, l, g) = (k, omega arith, g)

-- ---- all rings

rings_together : (arcs : List Path) (z : RationalPoint) (polygons : List (List (List SignedArc))) →
    rings_hold z (map (round_of arcs) (joined_up polygons)) ≡ odd_count (λ (rings : List (List SignedArc)). rings_hold z (map (round_of arcs) rings)) polygons
rings_together arcs z [] = refl
rings_together arcs z (rings ∷ rest) =
    let these : List Path = map (round_of arcs) rings in
    let those : List Path = map (round_of arcs) (joined_up rest) in
    ap (rings_hold z) (map-append (round_of arcs) rings (joined_up rest))
    ∙ ap (λ ss. odd_count (is_below z) (map link_between ss)) (flat_map-append steps these those)
    ∙ ap (odd_count (is_below z)) (map-append link_between (steps_of_paths these) (steps_of_paths those))
    ∙ odd_count-append (is_below z) (links_of_paths these) (links_of_paths those)
    ∙ ap (xor (rings_hold z these)) (rings_together arcs z rest)

pub traces_hold_by_parity : TracesHoldByParity
traces_hold_by_parity S arcs faces table set parts polygons traced z =
    let holds : List (List SignedArc) → Bool = λ rings. rings_hold z (map (round_of arcs) rings) in
    let same = polygons_hold_by_parity S arcs faces table set parts polygons traced in
    let one = one_is_odd holds polygons [] (λ i j l m e f. polygons_are_apart S arcs faces table set parts polygons traced i j l m z ((same i l z).0 e) ((same j m z).0 f)) in (
      λ e. let (k, l, f) = one.0 (sym (rings_together arcs z polygons) ∙ e) in (k, l, (same k l z).0 f),
      λ found. let (k, l, w) = found in rings_together arcs z polygons ∙ one.1 (k, l, (same k l z).1 w),
    )

pub traced_rings_go_round : TracedRingsGoRound
traced_rings_go_round S arcs faces table set parts polygons traced k d l =
    let (label, by) = each_table_has_labels S table.arrangement arcs table.along faces in
    subst (All (λ ring. IsRing (round_of arcs ring))) (get_or_default polygons k [] d l)
    (all_back arcs IsRing (get_or polygons k [])
    (are_rings S table.arrangement table.distinct arcs table.long table.along table.free faces table.built label by (get_or (bounded faces.places (length arcs) parts) k []) (get_or polygons k []) (traced.there k [] l)
    (λ j e n. some_arc (get_or (get_or polygons k []) j e) (traced.least_first k [] l j e n)) (traced.simple k [] l) (λ a. traced.used.once k a l)))

pub traces_use_the_border : TracesUseTheBorder
traces_use_the_border S arcs faces table set parts polygons traced boundary label by =
    let least : All BeginsWithLeast (joined_up polygons) = all_joined BeginsWithLeast polygons traced.least_first in
    uses S table.arrangement table.distinct arcs table.long table.along table.free faces table.built label by set (joined_up polygons)
    (all_joined (All (λ a. a.arc < length arcs)) polygons traced.there)
    (λ j e n. some_arc (get_or (joined_up polygons) j e) (least j e n))
    (all_joined (IsSimpleRing (start_of arcs) (stop_of arcs)) polygons traced.simple)
    (λ a. sum_joined (times a) polygons ∙ boundary.once a)
