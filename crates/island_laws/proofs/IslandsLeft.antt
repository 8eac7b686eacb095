-- What is left of sets without their islands follows what is left of their regions: the parts correspond in order, and
-- so do those that are islands.
use Rattle.std.proofs.Common.{◌≡◌, sym, ap, subst, refl, arith, ℕ, zero, suc, ◌<◌, Bool, true, false, cond, not, ◌&&◌, ◌||◌, pos, nat_lt, List, [], ◌∷◌, All, Contains, filter, length, get_or}
use Rattle.std.specs.Prelude.{int_lt}
use Rattle.std.specs.List.Sorted.{IsStrictlyIncreasing}
use Rattle.std.proofs.lemmas.List.Elements.{All-contains, All-get_or, All-weaker}
use Rattle.std.proofs.lemmas.List.FromFn.{get_or-map-range_with_len, length-map-range_with_len}
use Rattle.lists.specs.Lists.{ascending}
use Rattle.plane_model.specs.Points.{Path}
use Rattle.plane_model.specs.Drawing.{Drawing}
use Rattle.plane_model.specs.Snapped.{snapped}
use Rattle.plane_faces.specs.Places.{Place}
use Rattle.face_walk.specs.Places.{FaceTable}
use Rattle.face_sets.specs.Joined.{AreParts}
use Rattle.face_sets.specs.Parts.{IsPieceOf}
use Rattle.face_sets.specs.Sets.{IsInnerFace, IsSetOf}
use Rattle.calc_ops.specs.Islands as sets
use Rattle.calc_ops.specs.Islands.{set_at}
use Rattle.region_model.specs.Region.{Region, any_of, part}
use Rattle.region_model.specs.Answers.{Answers}
use Rattle.region_model.specs.PolygonCommands as model
use Rattle.region_model.specs.PolygonCommands.{all_regions, parts_of}
use Rattle.region_laws.specs.Regions.{Follows, FollowEach}
use Rattle.region_laws.specs.Followed.{IsWalked}
use Rattle.region_laws.specs.Answered.{FollowInOrder, TellSides, plane_with}
use Rattle.region_laws.proofs.Answered.{areas_are_told, layers_are_followed, parts_in_order}
use Rattle.island_laws.specs.Left.{IslandsAreFollowed, TellParts}
use Rattle.island_laws.proofs.Alone.{detached_alike}
use Rattle.island_laws.proofs.LinkCounts.{links_are_told}

-- of two lists that correspond in order, with tests that agree, those that pass correspond in order
record ArePassed {X Y : Type 0} (R : X → Y → Type 0) (xs : List X) (ys : List Y) (c : X) (e : Y) : Type 0 where
  many : length ys ≡ length xs
  each : (i : ℕ) → i < length xs → R (get_or xs i c) (get_or ys i e)

passed : {X Y : Type 0} (R : X → Y → Type 0) (t : X → Bool) (u : Y → Bool) (xs : List X) (ys : List Y) (c : X) (e : Y) → length ys ≡ length xs → ((i : ℕ) → i < length xs → R (get_or xs i c) (get_or ys i e)) →
    ((i : ℕ) → i < length xs → t (get_or xs i c) ≡ u (get_or ys i e)) → ArePassed R (filter t xs) (filter u ys) c e
passed R t u [] [] c e many h same = record { many = refl; each = λ i l. absurd (omega arith) }
passed R t u [] (y ∷ ys) c e many h same = absurd (omega arith)
passed R t u (x ∷ xs) [] c e many h same = absurd (omega arith)
passed {X} {Y} R t u (x ∷ xs) (y ∷ ys) c e many h same =
    go (t x) (u y) (same 0 (omega arith)) (passed R t u xs ys c e (omega arith) (λ i l. h (suc i) (omega arith)) (λ i l. same (suc i) (omega arith)))
  where
    first : R x y
    first = h 0 (omega arith)

    one_more : ArePassed R (filter t xs) (filter u ys) c e → (i : ℕ) → i < length (x ∷ filter t xs) → R (get_or (x ∷ filter t xs) i c) (get_or (y ∷ filter u ys) i e)
    one_more are zero l = first
    one_more are (suc i) l = are.each i (omega arith)

    go : (a b : Bool) → a ≡ b → ArePassed R (filter t xs) (filter u ys) c e → ArePassed R (cond a (x ∷ filter t xs) (filter t xs)) (cond b (y ∷ filter u ys) (filter u ys)) c e
    go true true f are = record { many = ap (λ (k : ℕ). suc k) are.many; each = one_more are }
    go true false f are = absurd (cc)
    go false true f are = absurd (cc)
    go false false f are = are

module _ (d : Drawing) (arcs : List Path) (faces : FaceTable) (label : Place → ℕ) (walked : IsWalked d arcs faces label) (owned : List (List ℕ)) (inner : All (IsSetOf faces) owned) (region : ℕ → Region)
    (each : FollowEach (snapped d) arcs label owned region) (A : Answers) (told : TellParts (plane_with d arcs) A region (length owned)) (least_area least_links n : ℕ) (below : n < length owned) where
  abbrev is_island : Region → Bool
  is_island piece = model.is_detached (plane_with d arcs) A (all_regions region (length owned)) n piece && model.is_small (plane_with d arcs) A least_area least_links piece

  -- a set is an island exactly if its region is
  islands_alike : (set : List ℕ) → IsStrictlyIncreasing set → IsSetOf faces set → (q : Region) → Follows (snapped d) arcs label set q → TellSides (plane_with d arcs) A q →
      sets.is_island arcs faces owned least_area least_links n set ≡ is_island q
  islands_alike set rises of_faces q follows sides =
      let detached = detached_alike d arcs faces label walked A owned region each told.sides n set q follows sides in
      let area = areas_are_told d arcs faces label walked set rises of_faces q follows A sides in
      let links = links_are_told d arcs faces label walked set rises q follows A sides in
      λ i. detached i && (int_lt (area i) (pos least_area) || nat_lt (links i) least_links)

  module _ (pieces : List (List ℕ)) (are : AreParts faces (set_at owned n) pieces) where
    in_step : FollowInOrder (snapped d) arcs label pieces (parts_of A (region n))
    in_step = parts_in_order d arcs faces label walked (set_at owned n) (All-get_or (IsSetOf faces) owned n [] below inner) (region n) (each n below) A (λ j. told.parts n j below) pieces are

    of_faces : (j : ℕ) → j < length pieces → IsSetOf faces (get_or pieces j [])
    of_faces j l =
        let of_set : All (Contains (set_at owned n)) (get_or pieces j []) = (All-get_or (IsPieceOf (set_at owned n)) pieces j [] l are.divided.faces).faces in
        All-weaker (Contains (set_at owned n)) (IsInnerFace faces) (λ k c. All-contains (IsInnerFace faces) (set_at owned n) k (All-get_or (IsSetOf faces) owned n [] below inner) c) (get_or pieces j []) of_set

    part_sides : (j : ℕ) → j < length pieces → TellSides (plane_with d arcs) A (get_or (parts_of A (region n)) j (any_of []))
    part_sides j l =
        let many = length-map-range_with_len (part (region n)) 0 (A.parts (region n)) in
        let all = in_step.0 in
        subst (TellSides (plane_with d arcs) A) (sym (get_or-map-range_with_len (part (region n)) 0 (A.parts (region n)) j j (any_of []) (omega arith) (omega arith))) (told.part_sides n j below)

    pub left_follows : Follows (snapped d) arcs label (ascending nat_lt (sets.mainland arcs faces owned least_area least_links n pieces)) (model.without_islands (plane_with d arcs) A least_area least_links region (length owned) n)
    left_follows =
        let stays : List ℕ → Bool = λ (piece : List ℕ). not (sets.is_island arcs faces owned least_area least_links n piece) in
        let keeps : Region → Bool = λ (piece : Region). not (is_island piece) in
        let passing = passed (Follows (snapped d) arcs label) stays keeps pieces (parts_of A (region n)) [] (any_of []) in_step.0 in_step.1
        (λ j l. ap not (islands_alike (get_or pieces j []) (All-get_or IsStrictlyIncreasing pieces j [] l are.ascending) (of_faces j l) (get_or (parts_of A (region n)) j (any_of [])) (in_step.1 j l) (part_sides j l))) in
        layers_are_followed (snapped d) arcs label (filter stays pieces) (filter keeps (parts_of A (region n))) (passing.many, passing.each)

pub islands_are_followed : IslandsAreFollowed
islands_are_followed d arcs faces label walked owned inner region each A told least_area least_links left are n l =
    let below : n < length owned = (let e = are.each in omega arith) in
    let one = are.exact n below in
    subst (λ (set : List ℕ). Follows (snapped d) arcs label set (model.without_islands (plane_with d arcs) A least_area least_links region (length owned) n)) (sym one.faces_left)
    (left_follows d arcs faces label walked owned inner region each A told least_area least_links n below one.pieces one.are)
