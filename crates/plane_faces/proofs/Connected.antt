-- All places are connected, by sectors, by rays and across links; so a border is odd just where its test holds.
use Rattle.std.proofs.Common.{◌≡◌, inl, inr, ℕ, zero, suc, ◌<◌, refl, sym, ap, subst, ◌∙◌, arith, Bool, true, false, not, ◌&&◌, List, [], ◌∷◌}
use Rattle.std.proofs.Math.IntN.{pos}
use Rattle.std.specs.Prelude.{All, Contains, int_lt}
use Rattle.std.proofs.lemmas.List.Elements.{All-head, All-tail, All-weaker, All-contains, All-contains_itself}
use Rattle.lists.proofs.Members.{Contains-nil}
use Rattle.plane_parity.proofs.Telescope.{same_of_xor, odd_count-equal, same_point-true, same_point-self}
use Rattle.plane_parity.proofs.Abscissa.{ray_law, ray_law_nothing}
use Rattle.plane_parity.proofs.Boundary.{mem, mem_itself, mem_filter, filter_all}
use Rattle.plane_parity.proofs.BoundaryEven.{same_link-sym}
use Rattle.plane_parity.proofs.Sector.{sector_law, first_gap}
use Rattle.plane_model.specs.Points.{RationalPoint, GridPoint, Segment, turn, at, same_point, same_segment}
use Rattle.plane_model.specs.Parity.{xor, odd_count, odd}
use Rattle.plane_model.specs.Arrangement.{IsBefore, IsArrangement, IsDistinct}
use Rattle.plane_model.specs.EvenList.{IsEven}
use Rattle.plane_model.specs.Sides.{odd_right}
use Rattle.plane_model.specs.Below.{IsTopmostBelow}
use Rattle.plane_model.specs.Rotation.{Dart, tail, precedes, IsNext, odd_left_of, odd_right_of}
use Rattle.plane_faces.specs.Places.{Consecutive, Place, outside, left_of, left_side, right_side, IsBeside, IsPlaceOf, IsMinimum, IsFirst, AgreesWherePlacesMeet, border, odd_at}
use Rattle.plane_faces.specs.Around.{forward_dart, backward_dart, opposite, IsRotation}
use Rattle.plane_faces.proofs.Lists.{contains_cases, find}
use Rattle.plane_faces.proofs.Crossing.{crossing_law}
use Rattle.plane_faces.proofs.Around.{rotation-here, rotation-all, rotation-consecutive, rotation-first}
use Rattle.plane_faces.proofs.BorderEven.{border_even}
use Rattle.plane_faces.proofs.Order.{rank, rank_lt, place_exists, below_starts_before}

abbrev pub HasRotations : List Segment → Type 0
HasRotations S = (p : GridPoint) → (ds : List Dart) × IsRotation S p ds

-- ---- parities take one value where places meet

right_is_left : (L : List Segment) (e : Dart) → odd_right_of L e ≡ odd_left_of L (opposite e)
right_is_left L e = go e.link e.forward
  where
    go : (l : Segment) (f : Bool) → odd_right_of L (record { link = l; forward = f }) ≡ odd_left_of L (record { link = l; forward = not f })
    go l true = refl
    go l false = refl

pub parity_agrees : (S L : List Segment) → IsArrangement S → All (Contains S) L → IsEven L → AgreesWherePlacesMeet S (odd_at L)
parity_agrees S L arr within even = record {
  sector = λ d e cd ce next. sector_law S L arr within even d e cd ce next ∙ right_is_left L e;
  ray = λ l cl least first a here. first_gap S L arr within even l cl (λ k c s. subst (λ (q : GridPoint). int_lt (pos 0) (turn (at q) (at k.stop) (at l.stop)) ≡ false) s (first k c s)) ∙ at_place (at l.start) a here;
}
  where
    at_place : (z : RationalPoint) (a : Place) → IsPlaceOf S z a → odd L z ≡ odd_at L a
    at_place z outside none = ray_law_nothing S L within z none
    at_place z (left_of d) h = above d.link d.forward h
      where
        above : (l : Segment) (f : Bool) → (f ≡ true) × Contains S l × IsTopmostBelow S z l → odd L z ≡ odd_at L (left_of (record { link = l; forward = f }))
        above l true h = ray_law S L arr within even z l h.1 h.2
        above l false h = let e : false ≡ true = h.0 in absurd (cc)

-- the parity of a point is that of its place
pub parity_at_place : (S L : List Segment) → IsArrangement S → All (Contains S) L → IsEven L → (z : RationalPoint) (a : Place) → IsPlaceOf S z a → odd L z ≡ odd_at L a
parity_at_place S L arr within even z outside none = ray_law_nothing S L within z none
parity_at_place S L arr within even z (left_of d) h = above d.link d.forward h
  where
    above : (l : Segment) (f : Bool) → (f ≡ true) × Contains S l × IsTopmostBelow S z l → odd L z ≡ odd_at L (left_of (record { link = l; forward = f }))
    above l true h = ray_law S L arr within even z l h.1 h.2
    above l false h = let e : false ≡ true = h.0 in absurd (cc)

-- ---- all places are connected

module _ (S : List Segment) (arr : IsArrangement S) (rotations : HasRotations S) (g : Place → Bool) (agrees : AgreesWherePlacesMeet S g) (crossed : (l : Segment) → Contains S l → g (left_side l) ≡ g (right_side l)) where
  crossed_dart : (d : Dart) → Contains S d.link → g (left_of d) ≡ g (left_of (opposite d))
  crossed_dart d c = go d.link d.forward c
    where
      go : (l : Segment) (f : Bool) → Contains S l → g (left_of (record { link = l; forward = f })) ≡ g (left_of (record { link = l; forward = not f }))
      go l true c = crossed l c
      go l false c = sym (crossed l c)

  -- about a vertex all is one
  along : (d : Dart) (ds : List Dart) → Consecutive (IsNext S) d ds → All (λ e. Contains S e.link) (d ∷ ds) → (c : Dart) → Contains (d ∷ ds) c → g (left_of c) ≡ g (left_of d)
  along d [] next here c k = elim (contains_cases d [] c k) [ inl e ↦ ap (λ (x : Dart). g (left_of x)) e | inr n ↦ absurd (Contains-nil c n) ]
  along d (e ∷ ds) next here c k = elim (contains_cases d (e ∷ ds) c k) [
    | inl i ↦ ap (λ (x : Dart). g (left_of x)) i
    | inr k' ↦
        along e ds next.1 (All-tail (λ x. Contains S x.link) d (e ∷ ds) here) c k'
        ∙ crossed_dart e (All-head (λ x. Contains S x.link) e ds (All-tail (λ x. Contains S x.link) d (e ∷ ds) here))
        ∙ sym (agrees.sector d e (All-head (λ x. Contains S x.link) d (e ∷ ds) here) (All-head (λ x. Contains S x.link) e ds (All-tail (λ x. Contains S x.link) d (e ∷ ds) here)) next.0)
  ]

  about : (d e : Dart) → Contains S d.link → Contains S e.link → tail e ≡ tail d → g (left_of d) ≡ g (left_of e)
  about d e cd ce t = go (rotations (tail d)).0 (rotations (tail d)).1
    where
      go : (ds : List Dart) → IsRotation S (tail d) ds → g (left_of d) ≡ g (left_of e)
      go [] r = absurd (Contains-nil d (rotation-all S (tail d) [] r d (cd, refl)))
      go (c ∷ ds) r =
          let links : All (λ x. Contains S x.link) (c ∷ ds) = All-weaker (λ x. Contains S x.link × (tail x ≡ tail d)) (λ x. Contains S x.link) (λ x h. h.0) (c ∷ ds) (rotation-here S (tail d) (c ∷ ds) r) in
          along c ds (rotation-consecutive S (tail d) c ds r) links d (rotation-all S (tail d) (c ∷ ds) r d (cd, refl))
          ∙ sym (along c ds (rotation-consecutive S (tail d) c ds r) links e (rotation-all S (tail d) (c ∷ ds) r e (ce, t)))

  -- at a vertex where no link arrives, the first dart in rotation is a link's start
  first_exists : (l : Segment) → Contains S l → IsMinimum S l.start → (k : Segment) × Contains S k × (k.start ≡ l.start) × IsFirst S k
  first_exists l c least = go (rotations l.start).0 (rotations l.start).1
    where
      go : (ds : List Dart) → IsRotation S l.start ds → (k : Segment) × Contains S k × (k.start ≡ l.start) × IsFirst S k
      go [] r = absurd (Contains-nil (forward_dart l) (rotation-all S l.start [] r (forward_dart l) (c, refl)))
      go (d ∷ ds) r = dart d.link d.forward (All-head (λ x. Contains S x.link × (tail x ≡ l.start)) d ds (rotation-here S l.start (d ∷ ds) r)) (rotation-first S l.start d ds r)
        where
          dart : (k : Segment) (f : Bool) → Contains S k × (tail (record { link = k; forward = f }) ≡ l.start) → ((e : Dart) → Contains S e.link × (tail e ≡ l.start) → precedes e (record { link = k; forward = f }) ≡ false) → (k : Segment) × Contains S k × (k.start ≡ l.start) × IsFirst S k
          dart k true h first = (k, h.0, h.1, λ j cj s. first (forward_dart j) (cj, s ∙ h.1))
          dart k false h first = absurd (least k h.0 h.1)

  -- by the order of the vertices
  reached : (n : ℕ) (l : Segment) → Contains S l → rank S l.start < n → g (left_side l) ≡ g outside
  reached zero l c h = absurd (omega arith)
  reached (suc n) l c h = elim (find (λ k. same_point k.stop l.start) S) [
    | inl f ↦ arrives f.0 f.1 (sym (same_point-true f.0.stop l.start f.2)) (λ r. reached n f.0 f.1 r)
    | inr none ↦ lowest none (λ m cm r. reached n m cm r)
  ]
    where
      arrives : (k : Segment) → Contains S k → k.stop ≡ l.start → (rank S k.start < n → g (left_side k) ≡ g outside) → g (left_side l) ≡ g outside
      arrives k ck s earlier =
          about (forward_dart l) (backward_dart k) c ck s
          ∙ sym (crossed k ck)
          ∙ earlier (omega (arith, rank_lt S k ck l.start (subst (IsBefore k.start) s (All-contains (λ j. IsBefore j.start j.stop) S k arr.ordered ck)), h))

      down : (k : Segment) → Contains S k → k.start ≡ l.start → IsMinimum S k.start → IsFirst S k → ((m : Segment) → Contains S m → rank S m.start < n → g (left_side m) ≡ g outside)
          → (a : Place) → IsPlaceOf S (at k.start) a → g a ≡ g outside
      down k ck s least first earlier outside here = refl
      down k ck s least first earlier (left_of d) here = above d.link d.forward here
        where
          above : (m : Segment) (f : Bool) → (f ≡ true) × Contains S m × IsTopmostBelow S (at k.start) m → g (left_of (record { link = m; forward = f })) ≡ g outside
          above m true i = earlier m i.1 (omega (arith, rank_lt S m i.1 l.start (subst (IsBefore m.start) s (below_starts_before k.start m i.2.below)), h))
          above m false i = let e : false ≡ true = i.0 in absurd (cc)

      lowest : ((k : Segment) → Contains S k → same_point k.stop l.start ≡ false) → ((m : Segment) → Contains S m → rank S m.start < n → g (left_side m) ≡ g outside) → g (left_side l) ≡ g outside
      lowest none earlier =
          let k : (k : Segment) × Contains S k × (k.start ≡ l.start) × IsFirst S k = first_exists l c least in
          let leastk : IsMinimum S k.0.start = subst (IsMinimum S) (sym k.2) least in
          let a : (a : Place) × IsPlaceOf S (at k.0.start) a = place_exists S arr (at k.0.start) in
          about (forward_dart l) (forward_dart k.0) c k.1 k.2
          ∙ crossed k.0 k.1
          ∙ agrees.ray k.0 k.1 leastk k.3 a.0 a.1
          ∙ down k.0 k.1 k.2 leastk k.3 earlier a.0 a.1
        where
          least : IsMinimum S l.start
          least k ck s = let e : true ≡ false = sym (subst (λ (q : GridPoint). same_point q l.start ≡ true) (sym s) (same_point-self l.start)) ∙ none k ck in absurd (cc)

  pub connected : (a : Place) → IsBeside S a → g a ≡ g outside
  connected outside b = refl
  connected (left_of d) b = go d.link d.forward b
    where
      go : (l : Segment) (f : Bool) → Contains S l → g (left_of (record { link = l; forward = f })) ≡ g outside
      go l true c = reached (suc (rank S l.start)) l c (omega arith)
      go l false c = sym (crossed l c) ∙ reached (suc (rank S l.start)) l c (omega arith)

-- ---- the boundary theorem

module _ (S : List Segment) (arr : IsArrangement S) (distinct : IsDistinct S) (rotations : HasRotations S) (f : Place → Bool) (agrees : AgreesWherePlacesMeet S f) (none : f outside ≡ false) where
  abbrev B : List Segment
  B = border f S

  pub border_within : All (Contains S) B
  border_within = filter_all (Contains S) (λ l. xor (f (left_side l)) (f (right_side l))) S (All-weaker (Contains S) (λ x. xor (f (left_side x)) (f (right_side x)) ≡ true → Contains S x) (λ x c e. c) S (All-contains_itself S))

  pub border_is_even : IsEven B
  border_is_even = border_even S rotations f agrees.sector

  -- a link is in the border just if its sides differ
  pub in_border : (l : Segment) → Contains S l → odd_count (same_segment l) B ≡ xor (f (left_side l)) (f (right_side l))
  in_border l c =
      odd_count-equal (same_segment l) (λ t. same_segment t l) (λ t. same_link-sym l t) B
      ∙ mem_filter (λ k. xor (f (left_side k)) (f (right_side k))) S l
      ∙ ap (λ (b : Bool). xor (f (left_side l)) (f (right_side l)) && b) (All-contains (λ j. mem S j ≡ true) S l (mem_itself S distinct) c)
      ∙ and_true (xor (f (left_side l)) (f (right_side l)))
    where
      and_true : (b : Bool) → (b && true) ≡ b
      and_true true = refl
      and_true false = refl

  apart : Place → Bool
  apart a = xor (odd_at B a) (f a)

  apart_agrees : AgreesWherePlacesMeet S apart
  unfolding apart
  apart_agrees =
      let p : AgreesWherePlacesMeet S (odd_at B) = parity_agrees S B arr border_within border_is_even in
      record {
        sector = λ d e cd ce next. ap (λ (b : Bool). xor b (f (left_of d))) (p.sector d e cd ce next) ∙ ap (xor (odd_at B (left_of (opposite e)))) (agrees.sector d e cd ce next);
        ray = λ l cl least first a here. ap (λ (b : Bool). xor b (f (right_side l))) (p.ray l cl least first a here) ∙ ap (xor (odd_at B a)) (agrees.ray l cl least first a here);
      }

  apart_crossed : (l : Segment) → Contains S l → apart (left_side l) ≡ apart (right_side l)
  unfolding apart
  apart_crossed l c =
      ap (λ (b : Bool). xor b (f (left_side l))) (crossing_law S B arr border_within border_is_even l c ∙ ap (xor (odd_right B l)) (in_border l c))
      ∙ table (odd_right B l) (f (left_side l)) (f (right_side l))
    where
      table : (o x y : Bool) → xor (xor o (xor x y)) x ≡ xor o y
      table true true true = refl
      table true true false = refl
      table true false true = refl
      table true false false = refl
      table false true true = refl
      table false true false = refl
      table false false true = refl
      table false false false = refl

  -- at each side of each link the border has the value of its test for its parity
  pub border_at : (a : Place) → IsBeside S a → odd_at B a ≡ f a
  unfolding apart
  border_at a b = same_of_xor (odd_at B a) (f a) (connected S arr rotations apart apart_agrees apart_crossed a b ∙ none)

  place_beside : (z : RationalPoint) (a : Place) → IsPlaceOf S z a → IsBeside S a
  place_beside z outside h = tt
  place_beside z (left_of d) h = h.1

  pub border_parity : (z : RationalPoint) (a : Place) → IsPlaceOf S z a → odd B z ≡ f a
  border_parity z a h = parity_at_place S B arr border_within border_is_even z a h ∙ border_at a (place_beside z a h)
