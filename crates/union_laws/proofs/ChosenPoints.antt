-- The choice of a point: for each layer the first region that has it, or none.
use Rattle.std.proofs.Common.{◌≡◌, ◌⊎◌, inl, inr, refl, sym, ap, subst, arith, ℕ, zero, suc, ◌<◌, true, List, [], ◌∷◌, ◌++◌, Contains, length, get_or, slice_get, take, map, nat_lt, Option, Some, None}
use Rattle.std.specs.Prelude.{◌↔◌, zip}
use Rattle.std.specs.List.{AllZip, filter_map, flat_map, range_with_len}
use Rattle.std.proofs.lemmas.Bool.{cases_lt, ltb-true}
use Rattle.std.proofs.lemmas.List.Elements.{Contains-append_left, Contains-append_right}
use Rattle.lists.proofs.Ascending.{IsAscending}
use Rattle.lists.proofs.Members.{Contains-cases, Contains-flat_map, Contains-head, Contains-later, Contains-map, Contains-nil}
use Rattle.plane_model.specs.Points.{RationalPoint, Path}
use Rattle.plane_model.specs.Drawing.{Drawing}
use Rattle.plane_model.specs.Sees.{IsOffLinks}
use Rattle.plane_model.specs.Snapped.{links_of}
use Rattle.plane_faces.specs.Places.{Place, IsPlaceOf}
use Rattle.face_sets.specs.Owners.{owners_of}
use Rattle.face_sets.proofs.GapLemmas.{in_range}
use Rattle.union_ops.specs.Choices.{choice_of, first_with, has_number}
use Rattle.region_model.specs.Region.{Region, any_of, regions_of, Has, SomeHas}
use Rattle.region_model.specs.PolygonCommands.{all_of}
use Rattle.region_model.specs.UnionCommand.{Choice, choices, choices_in, chosen_in, left_out, less_earlier, union_region}
use Rattle.region_laws.specs.Answered.{FollowInOrder}
use Rattle.region_laws.proofs.Mosaics.{each_has, has_each}
use Rattle.region_ops.proofs.OwnerSets.{in_owners, of_owners}
use Rattle.region_laws.proofs.Numbers.{owners_rise}

module _ (d : Drawing) (arcs : List Path) (z : RationalPoint) where
  -- ---- in one layer

  -- the region of the number is the first that has the point; none has it where there is no number
  abbrev pub IsFirst : Option ℕ → List Region → Type 0
  IsFirst None rs = SomeHas d arcs (regions_of rs) z → ⊥
  IsFirst (Some n) rs = Has d arcs (less_earlier rs n) z

  held_at : (rs : List Region) (n : ℕ) → Has d arcs (get_or rs n (any_of [])) z → SomeHas d arcs (regions_of rs) z
  held_at [] n h = absurd h
  held_at (r ∷ rs) zero h = inl h
  held_at (r ∷ rs) (suc n) h = inr (held_at rs n h)

  held_before : (rs : List Region) (m n : ℕ) → m < n → Has d arcs (get_or rs m (any_of [])) z → SomeHas d arcs (regions_of (take n rs)) z
  held_before [] m n l h = absurd h
  held_before (r ∷ rs) m zero l h = absurd (omega arith)
  held_before (r ∷ rs) zero (suc n) l h = inl h
  held_before (r ∷ rs) (suc m) (suc n) l h = inr (held_before rs m n (omega arith) h)

  number_held : (rs : List Region) → SomeHas d arcs (regions_of rs) z → (n : ℕ) × (n < length rs) × Has d arcs (get_or rs n (any_of [])) z
  number_held [] h = absurd h
  number_held (r ∷ rs) (inl h) = (0, omega arith, h)
  number_held (r ∷ rs) (inr h) = let (n, within, held) = number_held rs h in (suc n, omega arith, held)

  before_held : (rs : List Region) (n : ℕ) → SomeHas d arcs (regions_of (take n rs)) z → (m : ℕ) × (m < n) × (m < length rs) × Has d arcs (get_or rs m (any_of [])) z
  before_held [] zero h = absurd h
  before_held [] (suc n) h = absurd h
  before_held (r ∷ rs) zero h = absurd h
  before_held (r ∷ rs) (suc n) (inl h) = (0, omega arith, omega arith, h)
  before_held (r ∷ rs) (suc n) (inr h) = let (m, less, within, held) = before_held rs n h in (suc m, omega arith, omega arith, held)

  one_first : (rs : List Region) (o p : Option ℕ) → IsFirst o rs → IsFirst p rs → o ≡ p
  one_first rs None None h k = refl
  one_first rs None (Some n) h k = absurd (h (held_at rs n k.0))
  one_first rs (Some m) None h k = absurd (k (held_at rs m h.0))
  one_first rs (Some m) (Some n) h k = elim (cases_lt m n) [
    | inl l ↦ absurd (k.1 (held_before rs m n l h.0))
    | inr l ↦ elim (cases_lt n m) [
      | inl less ↦ absurd (h.1 (held_before rs n m less k.0))
      | inr more ↦ (let same : m ≡ n = omega arith in ap (λ (i : ℕ). Some i) same)
    ]
  ]

  -- ---- in all layers

  abbrev pub AreFirst : Choice → List (List Region) → Type 0
  AreFirst c regions = AllZip IsFirst c regions

  pub one_choice : (regions : List (List Region)) (c e : Choice) → AreFirst c regions → AreFirst e regions → c ≡ e
  one_choice [] [] [] h k = refl
  one_choice [] [] (p ∷ e) h k = absurd k
  one_choice [] (o ∷ c) e h k = absurd h
  one_choice (rs ∷ regions) [] e h k = absurd h
  one_choice (rs ∷ regions) (o ∷ c) [] h k = absurd k
  one_choice (rs ∷ regions) (o ∷ c) (p ∷ e) h k = λ i. one_first rs o p h.0 k.0 i ∷ one_choice regions c e h.1 k.1 i

  -- a region of a layer that has the point gives the choice a number
  pub held_numbered : (regions : List (List Region)) (c : Choice) → AreFirst c regions → (rs : List Region) → Contains regions rs → SomeHas d arcs (regions_of rs) z → has_number c ≡ true
  held_numbered [] c h rs m held = Contains-nil rs m
  held_numbered (ss ∷ regions) [] h rs m held = absurd h
  held_numbered (ss ∷ regions) (Some n ∷ c) h rs m held = refl
  held_numbered (ss ∷ regions) (None ∷ c) h rs m held = elim (Contains-cases ss regions rs m) [
    | inl is ↦ absurd (h.0 (subst (λ (ts : List Region). SomeHas d arcs (regions_of ts) z) (sym is) held))
    | inr more ↦ held_numbered regions c h.1 rs more held
  ]

  -- ---- what the choice leaves

  abbrev chosen : Choice → List (List Region) → List Region
  chosen c regions = filter_map chosen_in (zip c regions)

  abbrev others : Choice → List (List Region) → List Region
  others c regions = flat_map left_out (zip c regions)

  in_joined : (rs ss : List Region) → SomeHas d arcs (regions_of rs) z ⊎ SomeHas d arcs (regions_of ss) z → SomeHas d arcs (regions_of (rs ++ ss)) z
  in_joined [] ss (inl h) = absurd h
  in_joined [] ss (inr h) = h
  in_joined (r ∷ rs) ss (inl (inl h)) = inl h
  in_joined (r ∷ rs) ss (inl (inr h)) = inr (in_joined rs ss (inl h))
  in_joined (r ∷ rs) ss (inr h) = inr (in_joined rs ss (inr h))

  of_joined : (rs ss : List Region) → SomeHas d arcs (regions_of (rs ++ ss)) z → SomeHas d arcs (regions_of rs) z ⊎ SomeHas d arcs (regions_of ss) z
  of_joined [] ss h = inr h
  of_joined (r ∷ rs) ss (inl h) = inl (inl h)
  of_joined (r ∷ rs) ss (inr h) = elim (of_joined rs ss h) [ inl k ↦ inl (inr k) | inr k ↦ inr k ]

  to_first : (regions : List (List Region)) (c : Choice) → length c ≡ length regions → ((r : Region) → Contains (chosen c regions) r → Has d arcs r z) → (SomeHas d arcs (regions_of (others c regions)) z → ⊥) → AreFirst c regions
  to_first [] [] long every none = tt
  to_first [] (o ∷ c) long every none = absurd (omega arith)
  to_first (rs ∷ regions) [] long every none = absurd (omega arith)
  to_first (rs ∷ regions) (None ∷ c) long every none =
      ((λ h. none (in_joined rs (others c regions) (inl h))), to_first regions c (omega arith) every (λ h. none (in_joined rs (others c regions) (inr h))))
  to_first (rs ∷ regions) (Some n ∷ c) long every none =
      (every (less_earlier rs n) (Contains-head (less_earlier rs n) (chosen c regions)), to_first regions c (omega arith) (λ r m. every r (Contains-later (less_earlier rs n) (chosen c regions) r m)) none)

  first_chosen : (regions : List (List Region)) (c : Choice) → AreFirst c regions → (r : Region) → Contains (chosen c regions) r → Has d arcs r z
  first_chosen [] [] h r m = Contains-nil r m
  first_chosen [] (o ∷ c) h r m = absurd h
  first_chosen (rs ∷ regions) [] h r m = absurd h
  first_chosen (rs ∷ regions) (None ∷ c) h r m = first_chosen regions c h.1 r m
  first_chosen (rs ∷ regions) (Some n ∷ c) h r m = elim (Contains-cases (less_earlier rs n) (chosen c regions) r m) [
    | inl is ↦ subst (λ (s : Region). Has d arcs s z) is h.0
    | inr more ↦ first_chosen regions c h.1 r more
  ]

  first_others : (regions : List (List Region)) (c : Choice) → AreFirst c regions → SomeHas d arcs (regions_of (others c regions)) z → ⊥
  first_others [] [] h k = k
  first_others [] (o ∷ c) h k = absurd h
  first_others (rs ∷ regions) [] h k = absurd h
  first_others (rs ∷ regions) (None ∷ c) h k = elim (of_joined rs (others c regions) k) [ inl here ↦ h.0 here | inr more ↦ first_others regions c h.1 more ]
  first_others (rs ∷ regions) (Some n ∷ c) h k = first_others regions c h.1 k

  some_chosen : (regions : List (List Region)) (c : Choice) → length c ≡ length regions → has_number c ≡ true → chosen c regions ≡ [] → ⊥
  some_chosen regions [] long some none = absurd (cc)
  some_chosen [] (o ∷ c) long some none = absurd (omega arith)
  some_chosen (rs ∷ regions) (None ∷ c) long some none = some_chosen regions c (omega arith) some none
  some_chosen (rs ∷ regions) (Some n ∷ c) long some none = absurd (cc)

  all_have : (rs : List Region) → (rs ≡ [] → ⊥) → ((r : Region) → Contains rs r → Has d arcs r z) → Has d arcs (all_of rs) z
  all_have [] some every = absurd (some refl)
  all_have (r ∷ rs) some every = has_each d arcs z r rs every

  -- the choice leaves the point exactly if it is the point's choice
  pub left_by_choice : (regions : List (List Region)) (c : Choice) → length c ≡ length regions → has_number c ≡ true → Has d arcs (union_region regions c) z ↔ AreFirst c regions
  left_by_choice regions c long some = (
    λ (every, none). to_first regions c long (each_has d arcs z (chosen c regions) every) none,
    λ h. (all_have (chosen c regions) (some_chosen regions c long some) (first_chosen regions c h), first_others regions c h),
  )

-- ---- by sets of faces

module _ (d : Drawing) (arcs : List Path) (label : Place → ℕ) (z : RationalPoint) (off : IsOffLinks (links_of d) z) (a : Place) (here : IsPlaceOf (links_of d) z a) where
  abbrev k : ℕ
  k = label a

  first_set : (sets : List (List ℕ)) (rs : List Region) → FollowInOrder d arcs label sets rs → IsFirst d arcs z (first_with sets (label a)) rs
  first_set sets rs (many, each) = go (owners_of sets k) refl
    where
      go : (ns : List ℕ) → owners_of sets k ≡ ns → IsFirst d arcs z (slice_get ns 0) rs
      go [] e = λ h.
          let (n, within, held) = number_held d arcs z rs h in
          let below : n < length sets = omega arith in
          Contains-nil n (subst (λ (ns : List ℕ). Contains ns n) e (in_owners sets k n below ((each n below z off a here).0 held)))
      go (n ∷ ns) e =
          let (below, in_set) = of_owners sets k n (subst (λ (xs : List ℕ). Contains xs n) (sym e) (Contains-head n ns)) in
          let rising : IsAscending nat_lt (n ∷ ns) = subst (IsAscending nat_lt) e (owners_rise sets k) in (
            (each n below z off a here).1 in_set,
            λ h.
                let (m, less, within, held) = before_held d arcs z rs n h in
                let there : m < length sets = omega arith in
                let owner : Contains (n ∷ ns) m = subst (λ (xs : List ℕ). Contains xs m) e (in_owners sets k m there ((each m there z off a here).0 held)) in
                elim (Contains-cases n ns m owner) [
                  | inl is ↦ absurd (omega arith)
                  | inr later ↦ (let more : n < m = ltb-true n m (rising.0 m later) in absurd (omega arith))
                ],
          )

  -- the choice of the face of a point is that of the point
  pub first_sets : (layers : List (List (List ℕ))) (regions : List (List Region)) → AllZip (FollowInOrder d arcs label) layers regions → AreFirst d arcs z (choice_of layers (label a)) regions
  first_sets [] [] h = tt
  first_sets [] (rs ∷ regions) h = absurd h
  first_sets (sets ∷ layers) [] h = absurd h
  first_sets (sets ∷ layers) (rs ∷ regions) h = (first_set sets rs h.0, first_sets layers regions h.1)

-- ---- the choice of a face is among all

in_layer : (sets : List (List ℕ)) (rs : List Region) (k : ℕ) → length rs ≡ length sets → Contains (choices_in rs) (first_with sets k)
in_layer sets rs k many = go (owners_of sets k) refl
  where
    go : (ns : List ℕ) → owners_of sets k ≡ ns → Contains (choices_in rs) (slice_get ns 0)
    go [] e = Contains-append_right (map Some (range_with_len 0 (length rs))) (None ∷ []) None (Contains-head None [])
    go (n ∷ ns) e =
        let (below, in_set) = of_owners sets k n (subst (λ (xs : List ℕ). Contains xs n) (sym e) (Contains-head n ns)) in
        Contains-append_left (map Some (range_with_len 0 (length rs))) (None ∷ []) (Some n) (Contains-map Some (range_with_len 0 (length rs)) n (in_range (length rs) n (omega arith)))

pub in_choices : (layers : List (List (List ℕ))) (regions : List (List Region)) (k : ℕ) → AllZip (λ (sets : List (List ℕ)) (rs : List Region). length rs ≡ length sets) layers regions → Contains (choices regions) (choice_of layers k)
in_choices [] [] k h = Contains-head [] []
in_choices [] (rs ∷ regions) k h = absurd h
in_choices (sets ∷ layers) [] k h = absurd h
in_choices (sets ∷ layers) (rs ∷ regions) k h =
    Contains-flat_map (λ (o : Option ℕ). map (λ (c : Choice). o ∷ c) (choices regions)) (choices_in rs) (first_with sets k) (first_with sets k ∷ choice_of layers k) (in_layer sets rs k h.0)
    (Contains-map (λ (c : Choice). first_with sets k ∷ c) (choices regions) (choice_of layers k) (in_choices layers regions k h.1))

pub as_many : (d : Drawing) (arcs : List Path) (label : Place → ℕ) (layers : List (List (List ℕ))) (regions : List (List Region)) → AllZip (FollowInOrder d arcs label) layers regions →
    AllZip (λ (sets : List (List ℕ)) (rs : List Region). length rs ≡ length sets) layers regions
as_many d arcs label [] [] h = tt
as_many d arcs label [] (rs ∷ regions) h = absurd h
as_many d arcs label (sets ∷ layers) [] h = absurd h
as_many d arcs label (sets ∷ layers) (rs ∷ regions) h = (h.0.0, as_many d arcs label layers regions h.1)
