-- What sees a vertex has the label of a sector about it.
use Rattle.std.proofs.Common.{◌≡◌, ◌⊎◌, inl, inr, refl, sym, ap, subst, ◌∙◌, Bool, true, false, cond, ◌&&◌, ◌||◌, ℕ, List, [], ◌∷◌, map}
use Rattle.std.specs.Prelude.{All, Contains}
use Rattle.std.proofs.lemmas.List.Elements.{All-head, All-tail, All-weaker, All-map, All-contains_itself}
use Rattle.lists.proofs.Members.{Contains-map, Contains-head, Contains-later, Contains-nil}
use Rattle.lists.specs.Lists.{last_of}
use Rattle.plane_parity.proofs.Abscissa.{same_link-false}
use Rattle.plane_parity.proofs.FreeSegment.{same_parity}
use Rattle.plane_parity.proofs.Sector.{sector_law}
use Rattle.plane_parity.proofs.Cut.{xor-false}
use Rattle.plane_model.specs.Points.{RationalPoint, Segment, same_segment}
use Rattle.plane_model.specs.Parity.{xor, odd_count, odd}
use Rattle.plane_model.specs.Arrangement.{IsArrangement, IsDistinct}
use Rattle.plane_model.specs.EvenList.{IsEven}
use Rattle.plane_model.specs.Rotation.{Dart, tail, precedes, IsNext, odd_left_of, odd_right_of}
use Rattle.plane_model.specs.Sees.{SeesPoint, midpoint}
use Rattle.plane_model.specs.Sides.{odd_left, odd_right}
use Rattle.plane_faces.specs.Around.{IsRotation}
use Rattle.plane_faces.specs.Places.{Place, left_of, IsPlaceOf, AgreesWherePlacesMeet, Consecutive}
use Rattle.plane_faces.proofs.Lists.{contains_cases}
use Rattle.plane_faces.proofs.Around.{precedes_not_itself, rotation-here, rotation-all, rotation-consecutive, rotation-round, last-All}
use Rattle.plane_faces.proofs.Connected.{parity_at_place}
use Rattle.plane_faces.proofs.Crossing.{crossing_law}
use Rattle.plane_faces.proofs.FaceLaws.{place_beside}
use Rattle.plane_faces.proofs.Sighted.{one_label}
use Rattle.plane_faces.proofs.Sorting.{rotations_exist, total}
use Rattle.point_laws.specs.Sight.{SeenFromSectors}
use Rattle.point_laws.proofs.Grown.{grow, grow_link, shrink, same_ungrown, link_ungrown, odd-grown, right_grown, same_grown, even_grown, grown, kind, grown_arrangement, within_grown}
use Rattle.point_laws.proofs.Spoke.{spoke, spoke_aside, spoke_is_new, spoke_turns, middle_is_free, grown_point}

-- ---- the dart before a dart

module _ (S : List Segment) (arr : IsArrangement S) (distinct : IsDistinct S) where
  before_in_row : (d : Dart) (ds : List Dart) → Consecutive (IsNext S) d ds → All (λ x. Contains S x.link) (d ∷ ds) → (x : Dart) → Contains (d ∷ ds) x → (x ≡ d) ⊎ ((y : Dart) × Contains S y.link × IsNext S y x)
  before_in_row d [] next here x c = elim (contains_cases d [] x c) [ inl e ↦ inl e | inr n ↦ absurd (Contains-nil x n) ]
  before_in_row d (e ∷ ds) next here x c = elim (contains_cases d (e ∷ ds) x c) [
    | inl i ↦ inl i
    | inr k ↦ elim (before_in_row e ds next.1 (All-tail (λ y. Contains S y.link) d (e ∷ ds) here) x k) [
      | inl i ↦ inr (d, All-head (λ y. Contains S y.link) d (e ∷ ds) here, subst (λ (y : Dart). IsNext S d y) (sym i) next.0)
      | inr y ↦ inr y
    ]
  ]

  before_exists : (c : Dart) → Contains S c.link → (d : Dart) × Contains S d.link × IsNext S d c
  before_exists c cc' = go (rotations_exist S arr distinct (tail c)).0 (rotations_exist S arr distinct (tail c)).1
    where
      go : (ds : List Dart) → IsRotation S (tail c) ds → (d : Dart) × Contains S d.link × IsNext S d c
      go [] r = absurd (Contains-nil c (rotation-all S (tail c) [] r c (cc', refl)))
      go (f ∷ ds) r =
          let here : All (λ x. Contains S x.link) (f ∷ ds) = All-weaker (λ x. Contains S x.link × (tail x ≡ tail c)) (λ x. Contains S x.link) (λ x h. h.0) (f ∷ ds) (rotation-here S (tail c) (f ∷ ds) r) in
          elim (before_in_row f ds (rotation-consecutive S (tail c) f ds r) here c (rotation-all S (tail c) (f ∷ ds) r c (cc', refl))) [
            | inl i ↦ (last_of f ds, last-All (λ x. Contains S x.link) f ds here, subst (λ (x : Dart). IsNext S (last_of f ds) x) (sym i) (rotation-round S (tail c) f ds r))
            | inr t ↦ t
          ]

-- ---- the sector that a point sees a vertex from

module _ (S : List Segment) (arr : IsArrangement S) (distinct : IsDistinct S) (d : Dart) (cd : Contains S d.link) (z : RationalPoint) (sees : SeesPoint S (tail d) z) where
  abbrev pub q : Dart
  q = (spoke S arr d cd z sees).dart

  abbrev pub all : List Segment
  all = grown z.W z.positive S arr (spoke S arr d cd z sees).dart.link (spoke S arr d cd z sees).before (spoke_aside S arr d cd z sees)

  pub all_arranged : IsArrangement all
  all_arranged = grown_arrangement z.W z.positive S arr (spoke S arr d cd z sees).dart.link (spoke S arr d cd z sees).before (spoke_aside S arr d cd z sees)

  pub q_there : Contains all q.link
  q_there = Contains-head q.link (map (grow_link z.W) S)

  all_distinct : IsDistinct all
  all_distinct = (
    All-map (λ k. k ≡ q.link → ⊥) (grow_link z.W) S (All-weaker (Contains S) (λ k. grow_link z.W k ≡ q.link → ⊥) (spoke_is_new S arr d cd z sees) S (All-contains_itself S)),
    go S distinct,
  )
    where
      go : (ls : List Segment) → IsDistinct ls → IsDistinct (map (grow_link z.W) ls)
      go [] h = tt
      go (l ∷ ls) h = (All-map (λ k. k ≡ grow_link z.W l → ⊥) (grow_link z.W) ls (All-weaker (λ k. k ≡ l → ⊥) (λ k. grow_link z.W k ≡ grow_link z.W l → ⊥) (λ k n e. n (link_ungrown z.W z.positive k l e)) ls h.0), go ls h.1)

  -- a dart of S, grown
  abbrev pub grow_dart : Dart → Dart
  grow_dart e = record { link = grow_link z.W e.link; forward = e.forward }

  pub tail_grown : (e : Dart) → tail (grow_dart e) ≡ grow z.W (tail e)
  tail_grown e = go e.forward
    where
      go : (b : Bool) → cond b (grow z.W e.link.start) (grow z.W e.link.stop) ≡ grow z.W (cond b e.link.start e.link.stop)
      go true = refl
      go false = refl

  pub grown_there : (l : Segment) → Contains S l → Contains all (grow_link z.W l)
  grown_there l c = Contains-later q.link (map (grow_link z.W) S) (grow_link z.W l) (Contains-map (grow_link z.W) S l c)

  -- the spoke does not follow itself
  not_alone : IsNext all q q → ⊥
  not_alone next =
      let start = (spoke S arr d cd z sees).start in
      let t : tail (grow_dart d) ≡ tail q = tail_grown d ∙ sym start in
      let none = next.nothing_between (grow_dart d) (grown_there d.link cd) t in
      elim (total all all_arranged (tail q) q (grow_dart d) (q_there, refl) (grown_there d.link cd, t)) [
        | inl e ↦ spoke_is_new S arr d cd z sees d.link cd (sym (ap (λ (x : Dart). x.link) e))
        | inr r ↦ both (precedes q q) (precedes q (grow_dart d)) (precedes (grow_dart d) q) (precedes_not_itself q) none r
      ]
    where
      both : (a b c : Bool) → a ≡ false → cond a (b && c) (b || c) ≡ false → (b ≡ true) ⊎ (c ≡ true) → ⊥
      both true b c e f r = let g : true ≡ false = e in absurd (cc)
      both false true c e f r = let g : true ≡ false = f in absurd (cc)
      both false false true e f r = let g : true ≡ false = f in absurd (cc)
      both false false false e f (inl r) = let g : true ≡ false = sym r in absurd (cc)
      both false false false e f (inr r) = let g : true ≡ false = sym r in absurd (cc)

  -- a dart of S at the vertex, before the spoke in rotation
  pub record Clockwise : Type 0 where
    pub e : Dart
    pub there : Contains S e.link
    pub at_vertex : tail e ≡ tail d
    pub next : IsNext all (grow_dart e) q

  clockwise : Clockwise
  clockwise =
      let (x, cx, next) = before_exists all all_arranged all_distinct q q_there in
      let at_start : tail x ≡ grow z.W (tail d) = sym next.same_tail ∙ (spoke S arr d cd z sees).start in
      elim (kind z.W z.positive S arr (spoke S arr d cd z sees).dart.link (spoke S arr d cd z sees).before (spoke_aside S arr d cd z sees) x.link cx) [
        | inl e ↦ absurd (not_alone (subst (λ (y : Dart). IsNext all y q) (spoke_turns S arr d cd z sees x e at_start) next))
        | inr m ↦ (
            let (l, c, e) = m in
            let e₀ : Dart = record { link = l; forward = x.forward } in
            let same : x ≡ grow_dart e₀ = (λ i. record { link = sym e i; forward = x.forward }) in
            record {
              e = e₀;
              there = c;
              at_vertex = same_ungrown z.W z.positive (tail e₀) (tail d) (sym (tail_grown e₀) ∙ ap tail (sym same) ∙ at_start);
              next = subst (λ (y : Dart). IsNext all y q) same next;
            })
      ]

  module _ (L : List Segment) (within : All (Contains S) L) (even : IsEven L) where
    abbrev M : List Segment
    M = map (grow_link z.W) L

    M_within : All (Contains all) M
    M_within = within_grown z.W z.positive S arr (spoke S arr d cd z sees).dart.link (spoke S arr d cd z sees).before (spoke_aside S arr d cd z sees) L within

    M_even : IsEven M
    M_even = even_grown z.W z.positive L even

    left_grown : (l : Segment) → Contains S l → odd_left M (grow_link z.W l) ≡ odd_left L l
    left_grown l c =
        crossing_law all M all_arranged M_within M_even (grow_link z.W l) (grown_there l c)
        ∙ (λ i. xor (right_grown z.W z.positive L l i) (same_grown z.W z.positive L l i))
        ∙ sym (crossing_law S L arr within even l c)

    of_dart : (e : Dart) → Contains S e.link → odd_left_of M (grow_dart e) ≡ odd_left_of L e
    of_dart e c = go e.forward
      where
        go : (b : Bool) → cond b (odd_left M (grow_link z.W e.link)) (odd_right M (grow_link z.W e.link)) ≡ cond b (odd_left L e.link) (odd_right L e.link)
        go true = left_grown e.link c
        go false = right_grown z.W z.positive L e.link

    -- the spoke has one parity on both sides
    not_counted : odd_count (same_segment q.link) M ≡ false
    not_counted = go L within
      where
        go : (ks : List Segment) → All (Contains S) ks → odd_count (same_segment q.link) (map (grow_link z.W) ks) ≡ false
        go [] h = refl
        go (k ∷ ks) h = (λ i. xor (same_link-false q.link (grow_link z.W k) (spoke_is_new S arr d cd z sees k (All-head (Contains S) k ks h)) i) (go ks (All-tail (Contains S) k ks h) i))

    both_sides : odd_left M q.link ≡ odd_right M q.link
    both_sides = crossing_law all M all_arranged M_within M_even q.link q_there ∙ ap (xor (odd_right M q.link)) not_counted ∙ xor-false (odd_right M q.link)

    of_spoke : odd_right_of M q ≡ odd_right M q.link
    of_spoke = go q.forward
      where
        go : (b : Bool) → cond b (odd_right M q.link) (odd_left M q.link) ≡ odd_right M q.link
        go true = refl
        go false = both_sides

    parity_seen : (t : Clockwise) → odd_left_of L t.e ≡ odd L z
    parity_seen t =
        sym (of_dart t.e t.there)
        ∙ sector_law all M all_arranged M_within M_even (grow_dart t.e) q (grown_there t.e.link t.there) q_there t.next
        ∙ of_spoke
        ∙ ap (odd M) (spoke S arr d cd z sees).middle
        ∙ odd-grown z.W z.positive L (midpoint (record { start = grow z.W (tail d); stop = grown_point z }))
        ∙ same_parity S L arr within even (shrink z.W z.positive (midpoint (record { start = grow z.W (tail d); stop = grown_point z }))) z (middle_is_free S arr d cd z sees)

  -- the point has the label of that sector
  pub label_seen : (t : Clockwise) (label : Place → ℕ) → AgreesWherePlacesMeet S label → (a : Place) → IsPlaceOf S z a → label a ≡ label (left_of t.e)
  label_seen t label agrees a here =
      one_label S arr distinct (rotations_exist S arr distinct) label agrees a (left_of t.e) (place_beside S z a here) t.there
      (λ L within even. sym (parity_at_place S L arr within even z a here) ∙ sym (parity_seen L within even t))

pub seen_from_sectors : SeenFromSectors
seen_from_sectors S arr distinct label agrees d cd z sees a here =
    let t = clockwise S arr distinct d cd z sees in
    (t.e, t.there, t.at_vertex, label_seen S arr distinct d cd z sees t label agrees a here)
