-- Sets of faces beside the regions that they follow, group by group.
use Rattle.std.proofs.Common.{◌≡◌, refl, sym, ap, subst, ◌∙◌, arith, ℕ, zero, suc, ◌<◌, List, [], ◌∷◌, ◌++◌, Contains, length, get_or, map, map-id}
use Rattle.std.specs.List.{AllZip, flat_map}
use Rattle.std.proofs.lemmas.List.{map-append}
use Rattle.std.proofs.lemmas.Simd.{map-map}
use Rattle.lists.proofs.Members.{Contains-head, Contains-later}
use Rattle.plane_model.specs.Points.{Path}
use Rattle.plane_model.specs.Drawing.{Drawing}
use Rattle.plane_faces.specs.Places.{Place}
use Rattle.region_model.specs.Region.{Region, any_of}
use Rattle.region_laws.specs.Regions.{Follows}
use Rattle.region_laws.specs.Answered.{FollowInOrder}

-- ---- lists side by side

module _ (d : Drawing) (arcs : List Path) (label : Place → ℕ) where
  abbrev Beside : List ℕ → Region → Type 0
  Beside set r = Follows d arcs label set r

  to_zip : (sets : List (List ℕ)) (regions : List Region) → length regions ≡ length sets → ((n : ℕ) → n < length sets → Beside (get_or sets n []) (get_or regions n (any_of []))) → AllZip Beside sets regions
  to_zip [] [] many each = tt
  to_zip [] (r ∷ regions) many each = absurd (omega arith)
  to_zip (set ∷ sets) [] many each = absurd (omega arith)
  to_zip (set ∷ sets) (r ∷ regions) many each = (each 0 (omega arith), to_zip sets regions (omega arith) (λ n l. each (suc n) (omega arith)))

  one_before : (set : List ℕ) (r : Region) (sets : List (List ℕ)) (regions : List Region) → Beside set r → FollowInOrder d arcs label sets regions → FollowInOrder d arcs label (set ∷ sets) (r ∷ regions)
  one_before set r sets regions one more = (ap suc more.0, each)
    where
      each : (n : ℕ) → n < length (set ∷ sets) → Beside (get_or (set ∷ sets) n []) (get_or (r ∷ regions) n (any_of []))
      each zero l = one
      each (suc n) l = more.1 n (omega arith)

  pub from_zip : (sets : List (List ℕ)) (regions : List Region) → AllZip (Follows d arcs label) sets regions → FollowInOrder d arcs label sets regions
  from_zip [] [] h = (refl, λ n l. absurd (omega arith))
  from_zip [] (r ∷ regions) h = absurd h
  from_zip (set ∷ sets) [] h = absurd h
  from_zip (set ∷ sets) (r ∷ regions) h = one_before set r sets regions h.0 (from_zip sets regions h.1)

  join_zip : (sets others : List (List ℕ)) (regions more : List Region) → AllZip Beside sets regions → AllZip Beside others more → AllZip Beside (sets ++ others) (regions ++ more)
  join_zip [] others [] more h k = k
  join_zip [] others (r ∷ regions) more h k = absurd h
  join_zip (set ∷ sets) others [] more h k = absurd h
  join_zip (set ∷ sets) others (r ∷ regions) more h k = (h.0, join_zip sets others regions more h.1 k)

-- ---- lists made of lists

one_value_each : {X Y B : Type 0} (b : B) (xs : List X) (ys : List Y) → length xs ≡ length ys → map (λ (x : X). b) xs ≡ map (λ (y : Y). b) ys
one_value_each b [] [] e = refl
one_value_each b [] (y ∷ ys) e = absurd (omega arith)
one_value_each b (x ∷ xs) [] e = absurd (omega arith)
one_value_each b (x ∷ xs) (y ∷ ys) e = ap (λ (bs : List _). b ∷ bs) (one_value_each b xs ys (omega arith))

-- the second of pairs with one first
pub seconds_of : {K : Type 0} (key : K) (regions : List Region) → map (λ (m : K × Region). m.1) (map (λ (r : Region). (key, r)) regions) ≡ regions
seconds_of {K} key regions = map-map (λ (m : K × Region). m.1) (λ (r : Region). (key, r)) regions ∙ map-id regions

-- ---- group by group: an item has the key of its group, and one of its sets

module _ {K G I : Type 0} (key_of : G → K) (sets_of : G → List (List ℕ)) (item : K → List ℕ → I) (made : K → List Region) where
  abbrev pub items_of : G → List I
  items_of g = map (item (key_of g)) (sets_of g)

  abbrev pub made_with : K → List (K × Region)
  made_with key = map (λ (r : Region). (key, r)) (made key)

  module _ (d : Drawing) (arcs : List Path) (label : Place → ℕ) where
    -- the regions of the key of a group are followed by its sets
    abbrev pub IsGroupOf : G → Type 0
    IsGroupOf g = FollowInOrder d arcs label (sets_of g) (made (key_of g))

    module _ (key_in : I → K) (keyed : (key : K) (set : List ℕ) → key_in (item key set) ≡ key) where
      keys_alike : (g : G) → length (sets_of g) ≡ length (made (key_of g)) → map key_in (items_of g) ≡ map (λ (m : K × Region). m.0) (made_with (key_of g))
      keys_alike g many =
          map-map key_in (item (key_of g)) (sets_of g)
          ∙ ap (λ (f : List ℕ → K). map f (sets_of g)) (λ i set. keyed (key_of g) set i)
          ∙ one_value_each (key_of g) (sets_of g) (made (key_of g)) many
          ∙ sym (map-map (λ (m : K × Region). m.0) (λ (r : Region). (key_of g, r)) (made (key_of g)))

      pub all_keys : (groups : List G) → ((g : G) → Contains groups g → IsGroupOf g) → map key_in (flat_map items_of groups) ≡ map (λ (m : K × Region). m.0) (flat_map made_with (map key_of groups))
      all_keys [] h = refl
      all_keys (g ∷ groups) h =
          map-append key_in (items_of g) (flat_map items_of groups)
          ∙ (λ i. keys_alike g (sym (h g (Contains-head g groups)).0) i ++ all_keys groups (λ f c. h f (Contains-later g groups f c)) i)
          ∙ sym (map-append (λ (m : K × Region). m.0) (made_with (key_of g)) (flat_map made_with (map key_of groups)))

    module _ (set_in : I → List ℕ) (holds : (key : K) (set : List ℕ) → set_in (item key set) ≡ set) where
      sets_alike : (g : G) → map set_in (items_of g) ≡ sets_of g
      sets_alike g = map-map set_in (item (key_of g)) (sets_of g) ∙ ap (λ (f : List ℕ → List ℕ). map f (sets_of g)) (λ i set. holds (key_of g) set i) ∙ map-id (sets_of g)

      abbrev region_of : K × Region → Region
      region_of m = m.1

      pub all_sets : (groups : List G) → ((g : G) → Contains groups g → IsGroupOf g) → AllZip (Follows d arcs label) (map set_in (flat_map items_of groups)) (map (λ (m : K × Region). m.1) (flat_map made_with (map key_of groups)))
      all_sets [] h = tt
      all_sets (g ∷ groups) h =
          let here : IsGroupOf g = h g (Contains-head g groups) in
          let made_later : List (K × Region) = flat_map made_with (map key_of groups) in
          let one : AllZip (Follows d arcs label) (map set_in (items_of g)) (map region_of (made_with (key_of g))) =
          subst (λ (sets : List (List ℕ)). AllZip (Follows d arcs label) sets (map region_of (made_with (key_of g)))) (sym (sets_alike g))
          (subst (λ (regions : List Region). AllZip (Follows d arcs label) (sets_of g) regions) (sym (seconds_of (key_of g) (made (key_of g)))) (to_zip d arcs label (sets_of g) (made (key_of g)) here.0 here.1)) in
          let joined = join_zip d arcs label (map set_in (items_of g)) (map set_in (flat_map items_of groups)) (map region_of (made_with (key_of g))) (map region_of made_later) one
          (all_sets groups (λ f c. h f (Contains-later g groups f c))) in
          subst (λ (sets : List (List ℕ)). AllZip (Follows d arcs label) sets (map region_of (made_with (key_of g) ++ made_later))) (sym (map-append set_in (items_of g) (flat_map items_of groups)))
          (subst (λ (regions : List Region). AllZip (Follows d arcs label) (map set_in (items_of g) ++ map set_in (flat_map items_of groups)) regions) (sym (map-append region_of (made_with (key_of g)) made_later)) joined)
