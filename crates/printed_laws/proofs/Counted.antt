-- Polygons that fit a region hold its parts, by counting.
use Rattle.std.proofs.Common.{◌≡◌, refl, sym, ap, subst, ◌∙◌, arith, ℕ, zero, suc, ◌+◌, ◌<◌, Bool, true, false, List, [], ◌∷◌, map, length, get_or}
use Rattle.std.specs.Prelude.{◌↔◌}
use Rattle.std.specs.List.{AllZip, range_with_len}
use Rattle.std.proofs.lemmas.Grind.{flat_map-append}
use Rattle.std.proofs.lemmas.List.{map-append}
use Rattle.lists.specs.Lists.{joined_up}
use Rattle.plane_model.specs.Points.{RationalPoint, Segment, link_between}
use Rattle.plane_model.specs.Drawing.{Drawing, Polygon, steps, steps_of_paths}
use Rattle.plane_model.specs.Parity.{is_below, links_of_paths, odd_count, rings_hold, xor}
use Rattle.plane_parity.proofs.Telescope.{odd_count-append}
use Rattle.region_model.specs.Region.{Region, part}
use Rattle.region_model.specs.Answers.{Answers, PointsOf, plane_of}
use Rattle.region_model.specs.Printed.{ArePrinted, FitsPartOf, IsOff}
use Rattle.printed_laws.specs.Counted.{JoinedPointsAreHeldByOne, NoneIsHeldTwice, PartsArePrinted}
use Rattle.printed_laws.proofs.Constant.{one_part}
use Rattle.printed_laws.proofs.Printed.{boundary_holds, regions_are_printed}
use Rattle.region_laws.proofs.Parts.{one_number}

-- ---- numbers in a row and the elements of a list

pub zip_weaker : {X Y : Type 0} (P Q : X → Y → Type 0) → ((x : X) (y : Y) → P x y → Q x y) → (xs : List X) (ys : List Y) → AllZip P xs ys → AllZip Q xs ys
zip_weaker P Q f [] [] h = tt
zip_weaker P Q f [] (y ∷ ys) h = absurd h
zip_weaker P Q f (x ∷ xs) [] h = absurd h
zip_weaker P Q f (x ∷ xs) (y ∷ ys) h = (f x y h.0, zip_weaker P Q f xs ys h.1)

pub at_number : {Y : Type 0} (Q : ℕ → Y → Type 0) (ys : List Y) (a n : ℕ) → AllZip Q (range_with_len a n) ys → (k : ℕ) (d : Y) → k < length ys → Q (a + k) (get_or ys k d)
at_number Q [] a n h k d l = absurd (omega arith)
at_number Q (y ∷ ys) a zero h k d l = absurd h
at_number Q (y ∷ ys) a (suc n) h zero d l = subst (λ (m : ℕ). Q m y) (let e : a ≡ a + 0 = omega arith in e) h.0
at_number Q (y ∷ ys) a (suc n) h (suc k) d l = subst (λ (m : ℕ). Q m (get_or ys k d)) (let e : a + 1 + k ≡ a + suc k = omega arith in e) (at_number Q ys (a + 1) n h.1 k d (omega arith))

-- ---- each part

pub parts_are_printed : PartsArePrinted
parts_are_printed d A r polygons h z off =
    zip_weaker (FitsPartOf (plane_of d) A r) (λ j p. (rings_hold z p ≡ true) ↔ PointsOf (plane_of d) (part r j) z)
    (λ j p fits. boundary_holds d h.closed _ (part r j) (A.left (part r j)) (A.right (part r j)) (h.right.sides (part r j)) p fits.uses z)
    (range_with_len 0 (A.parts r)) polygons h.fit.by_parts

pub part_at : (d : Drawing) (A : Answers) (r : Region) (polygons : List Polygon) → ArePrinted d A r polygons → (z : RationalPoint) → IsOff d z → (k : ℕ) (e : Polygon) → k < length polygons →
    (rings_hold z (get_or polygons k e) ≡ true) ↔ PointsOf (plane_of d) (part r k) z
part_at d A r polygons h z off k e l =
    let Q : ℕ → Polygon → Type 0 = λ j p. (rings_hold z p ≡ true) ↔ PointsOf (plane_of d) (part r j) z in
    subst (λ (m : ℕ). Q m (get_or polygons k e)) (let f : 0 + k ≡ k = omega arith in f) (at_number Q polygons 0 (A.parts r) (parts_are_printed d A r polygons h z off) k e l)

-- ---- a point is in one part

pub none_is_held_twice : NoneIsHeldTwice
none_is_held_twice d A r polygons h z off i j e less l in_i in_j =
    let of_i = (part_at d A r polygons h z off i e (omega arith)).0 in_i in
    let of_j = (part_at d A r polygons h z off j e l).0 in_j in
    let same = one_number _ _ (PointsOf (plane_of d) r) z i j of_i.1 of_j.1 in
    omega arith

-- ---- some polygon holds each point of the region

some_odd : {X : Type 0} (p : X → Bool) (xs : List X) (d : X) → odd_count p xs ≡ true → (k : ℕ) × (k < length xs) × (p (get_or xs k d) ≡ true)
some_odd p [] d e = absurd (let f : false ≡ true = e in cc)
some_odd {X} p (x ∷ xs) d e = go (some_odd p xs d) (p x) refl
  where
    go : (odd_count p xs ≡ true → (k : ℕ) × (k < length xs) × (p (get_or xs k d) ≡ true)) → (b : Bool) → p x ≡ b → (k : ℕ) × (k < length (x ∷ xs)) × (p (get_or (x ∷ xs) k d) ≡ true)
    go later true f = (0, omega arith, f)
    go later false f = let (k, l, g) = later (sym (ap (λ (b : Bool). xor b (odd_count p xs)) f) ∙ e) in (suc k, omega arith, g)

rings_together : (z : RationalPoint) (polygons : List Polygon) → rings_hold z (joined_up polygons) ≡ odd_count (rings_hold z) polygons
rings_together z [] = refl
rings_together z (p ∷ rest) =
    ap (λ (ss : List Segment). odd_count (is_below z) (map link_between ss)) (flat_map-append steps p (joined_up rest))
    ∙ ap (odd_count (is_below z)) (map-append link_between (steps_of_paths p) (steps_of_paths (joined_up rest)))
    ∙ odd_count-append (is_below z) (links_of_paths p) (links_of_paths (joined_up rest))
    ∙ ap (xor (rings_hold z p)) (rings_together z rest)

pub joined_points_are_held_by_one : JoinedPointsAreHeldByOne
joined_points_are_held_by_one d A r polygons h z off has =
    let (k, l, held) = some_odd (rings_hold z) polygons [] (sym (rings_together z polygons) ∙ (regions_are_printed d A r polygons h z off).1 has) in
    let in_k = (part_at d A r polygons h z off k [] l).0 held in (
      k,
      l,
      held,
      λ w off_w has_w joined. (part_at d A r polygons h w off_w k [] l).1 (has_w, one_part _ (PointsOf (plane_of d) r) _ z w joined k in_k.1),
    )
