-- Rings of arcs pass each point once.
use Rattle.std.proofs.Common.{◌≡◌, ◌⊎◌, inl, inr, refl, sym, ap, ◌∙◌, subst, arith, ℕ, suc, ◌+◌, ◌-◌, ◌<◌, Bool, true, false, cond, List, [], ◌∷◌, ◌++◌, length, get_or, All, AllPairs, Contains}
use Rattle.std.specs.Prelude.{◌≢◌}
use Rattle.std.proofs.lemmas.Bool.{cases_lt}
use Rattle.std.proofs.lemmas.List.{get_or_default, get_or-take, get_or_append_left, get_or-append-add, length-append, length-take-le}
use Rattle.lists.specs.Lists.{last_of, without_last}
use Rattle.lists.proofs.Members.{Contains-cases, Contains-nil, flat_map-Contains}
use Rattle.plane_model.specs.Points.{GridPoint, Segment, Path, link_between}
use Rattle.plane_model.specs.Drawing.{steps}
use Rattle.plane_model.specs.Arcs.{SignedArc, points_of}
use Rattle.plane_model.specs.Arrangement.{IsArrangement}
use Rattle.plane_faces.specs.Rings.{IsRing}
use Rattle.arc_table.specs.Along.{GoAlong}
use Rattle.arc_table.specs.Around.{start_of}
use Rattle.arc_table.specs.Direction.{point_at}
use Rattle.arc_table.proofs.DrawnPaths.{points_counted}
use Rattle.face_laws.specs.Faces.{AreFreeInside}
use Rattle.face_laws.proofs.DartLemmas.{ends_differ}
use Rattle.face_laws.proofs.StepLemmas.{IsStep, arc_of, alone_inside, link_ends, one_place, step_between, step_moves, step_on, steps_counted}
use Rattle.ring_trace.specs.Turns.{closed, points_along}
use Rattle.ring_trace.proofs.LeastTurn.{point_along, without_last_is}
use Rattle.part_laws.specs.Parts.{RingsGoRound}

-- ---- pairs of a list

pairs_joined : {X : Type 0} (R : X → X → Type 0) (xs ys : List X) → AllPairs R xs → AllPairs R ys → ((x y : X) → Contains xs x → Contains ys y → R x y) → AllPairs R (xs ++ ys)
pairs_joined R xs ys h k across i j d l m =
    let size = length-append xs ys in
    elim (cases_lt j (length xs)) [
      | inl first ↦
          subst (λ (x : _). R x (get_or (xs ++ ys) j d)) (sym (get_or_append_left xs ys d i (omega arith)))
          (subst (λ (x : _). R (get_or xs i d) x) (sym (get_or_append_left xs ys d j first)) (h i j d l first))
      | inr second ↦
          (let q = j - length xs in
          let at_j : get_or (xs ++ ys) j d ≡ get_or ys q d = ap (λ (n : ℕ). get_or (xs ++ ys) n d) (let e : j ≡ length xs + q = omega arith in e) ∙ get_or-append-add xs ys q d in
          elim (cases_lt i (length xs)) [
            | inl low ↦
                subst (λ (x : _). R x (get_or (xs ++ ys) j d)) (sym (get_or_append_left xs ys d i low))
                (subst (λ (x : _). R (get_or xs i d) x) (sym at_j) (across (get_or xs i d) (get_or ys q d) (i, low, get_or_default xs i (get_or xs i d) d low) (q, omega arith, get_or_default ys q (get_or ys q d) d (omega arith))))
            | inr high ↦
                (let p = i - length xs in
                let at_i : get_or (xs ++ ys) i d ≡ get_or ys p d = ap (λ (n : ℕ). get_or (xs ++ ys) n d) (let e : i ≡ length xs + p = omega arith in e) ∙ get_or-append-add xs ys p d in
                subst (λ (x : _). R x (get_or (xs ++ ys) j d)) (sym at_i) (subst (λ (x : _). R (get_or ys p d) x) (sym at_j) (k p q d (omega arith) (omega arith))))
          ])
    ]

-- ---- the points of arcs

module _ (S : List Segment) (arr : IsArrangement S) (arcs : List Path) (long : All (λ arc. 1 < length arc) arcs) (along : GoAlong S arcs) (free : AreFreeInside S arcs) where
  abbrev pt : ℕ → ℕ → GridPoint
  pt n i = point_at (arc_of arcs n) i

  abbrev seg : ℕ → ℕ → Segment
  seg n j = record { start = pt n j; stop = pt n (j + 1) }

  stepping : (n j : ℕ) → n < length arcs → j + 1 < length (arc_of arcs n) → IsStep arcs n j (seg n j)
  stepping n j below l =
      let longer : 1 < length (arc_of arcs n) = long n [] below in
      let many = steps_counted (arc_of arcs n) (omega arith) in
      let there : j < length (steps (arc_of arcs n)) = omega arith in
      record { arc = below; there = there; is = step_between (arc_of arcs n) j (seg n j) (point_at [] 0) there }

  -- the ends of a step differ
  moves_on : (n j : ℕ) → n < length arcs → j + 1 < length (arc_of arcs n) → pt n j ≡ pt n (j + 1) → ⊥
  moves_on n j below l e = ends_differ (seg n j) (step_moves arcs S arr long along n j (seg n j) (stepping n j below l)) e

  -- a step that ends at a vertex inside an arc is one of the two there
  touch : (n k m j : ℕ) → n < length arcs → k + 1 + 1 < length (arc_of arcs n) → m < length arcs → j + 1 < length (arc_of arcs m) → (pt m j ≡ pt n (k + 1)) ⊎ (pt m (j + 1) ≡ pt n (k + 1)) → (m ≡ n) × ((j ≡ k) ⊎ (j ≡ k + 1))
  touch n k m j ln lk lm lj e =
      let s = stepping n k ln (omega arith) in
      let t = stepping n (k + 1) ln lk in
      let u = stepping m j lm lj in
      elim (alone_inside S arr arcs long along free n k (seg n k) (seg n (k + 1)) s t (link_between (seg m j)) (step_on arcs S arr long along m j (seg m j) u) (link_ends (seg m j) (pt n (k + 1)) e)) [
        | inl f ↦ (let (same, at) = one_place arcs along.once m n j k (seg m j) (seg n k) u s f in (same, inl at))
        | inr f ↦ (let (same, at) = one_place arcs along.once m n j (k + 1) (seg m j) (seg n (k + 1)) u t f in (same, inr at))
      ]

  -- two places of one arc that are not both its ends
  within : (n i j : ℕ) → n < length arcs → i < j → j < length (arc_of arcs n) → (0 < i) ⊎ (j + 1 < length (arc_of arcs n)) → pt n i ≡ pt n j → ⊥
  within n i j ln less lj (inr inner) e =
      let at : j - 1 + 1 ≡ j = omega arith in
      let (same, which) = touch n (j - 1) n i ln (omega arith) ln (omega arith) (inl (e ∙ ap (pt n) (sym at))) in
      elim which [
        | inl f ↦ moves_on n i ln (omega arith) (e ∙ ap (pt n) (let g : j ≡ i + 1 = omega arith in g))
        | inr f ↦ absurd (omega arith)
      ]
  within n i j ln less lj (inl inner) e =
      let at : i - 1 + 1 ≡ i = omega arith in
      let there : j - 1 + 1 ≡ j = omega arith in
      let (same, which) = touch n (i - 1) n (j - 1) ln (omega arith) ln (omega arith) (inr (ap (pt n) there ∙ sym e ∙ ap (pt n) (sym at))) in
      elim which [
        | inl f ↦ absurd (omega arith)
        | inr f ↦ moves_on n i ln (omega arith) (e ∙ ap (pt n) (let g : j ≡ i + 1 = omega arith in g))
      ]

  -- a place inside an arc and one of another arc
  between : (n i m j : ℕ) → n < length arcs → m < length arcs → 0 < i → i + 1 < length (arc_of arcs n) → j < length (arc_of arcs m) → pt n i ≡ pt m j → m ≡ n
  between n i m j ln lm some li lj e =
      let longer : 1 < length (arc_of arcs m) = long m [] lm in
      let at : i - 1 + 1 ≡ i = omega arith in
      let there : pt m j ≡ pt n (i - 1 + 1) = sym e ∙ ap (pt n) (sym at) in
      elim (cases_lt (j + 1) (length (arc_of arcs m))) [
        | inl first ↦ (touch n (i - 1) m j ln (omega arith) lm first (inl there)).0
        | inr last ↦ (touch n (i - 1) m (j - 1) ln (omega arith) lm (omega arith) (inr (ap (pt m) (let g : j - 1 + 1 ≡ j = omega arith in g) ∙ there))).0
      ]

  -- ---- the points of a signed arc but the last

  -- a point of a signed arc but the last is at a place inside the arc, or it is where the signed arc starts
  record StandsOn (a : SignedArc) (v : ℕ) (p : GridPoint) : Type 0 where
    place : ℕ
    there : place < length (arc_of arcs a.arc)
    is : pt a.arc place ≡ p
    inner : ((0 < place) × (place + 1 < length (arc_of arcs a.arc))) ⊎ (p ≡ start_of arcs a)
    way : ((a.is_reversed ≡ false) × (place ≡ v)) ⊎ ((a.is_reversed ≡ true) × (place ≡ length (arc_of arcs a.arc) - 1 - v))

  pub size_of : (a : SignedArc) → a.arc < length arcs → length (without_last (points_of arcs a)) + 1 ≡ length (arc_of arcs a.arc)
  size_of a l =
      let longer : 1 < length (arc_of arcs a.arc) = long a.arc [] l in
      let counted = points_counted arcs a in
      let cut = ap (λ (ps : Path). length ps) (without_last_is (points_of arcs a)) in
      let taken = length-take-le (length (points_of arcs a) - 1) (points_of arcs a) (omega arith) in
      omega arith

  stands : (a : SignedArc) → a.arc < length arcs → (v : ℕ) → v < length (without_last (points_of arcs a)) → StandsOn a v (point_at (without_last (points_of arcs a)) v)
  stands a l v lv = go a.is_reversed refl
    where
      all : Path
      all = points_of arcs a

      arc : Path
      arc = arc_of arcs a.arc

      size : length (without_last (points_of arcs a)) + 1 ≡ length (arc_of arcs a.arc)
      size = size_of a l

      cut : point_at (without_last (points_of arcs a)) v ≡ point_at (points_of arcs a) v
      cut =
          let counted = points_counted arcs a in
          let e = size in
          sym (ap (λ (ps : Path). point_at ps v) (without_last_is (points_of arcs a))) ∙ get_or-take (length (points_of arcs a) - 1) (points_of arcs a) v (point_at [] 0) (omega arith)

      at : (b : Bool) → a.is_reversed ≡ b → point_at (without_last (points_of arcs a)) v ≡ pt a.arc (cond b (length (arc_of arcs a.arc) - 1 - v) v)
      at b e =
          let s = size in
          cut ∙ sym (point_along arcs a v (point_at [] 0) (omega arith)) ∙ ap (λ (t : Bool). pt a.arc (cond t (length (arc_of arcs a.arc) - 1 - v) v)) e

      start : (b : Bool) → a.is_reversed ≡ b → start_of arcs a ≡ pt a.arc (cond b (length (arc_of arcs a.arc) - 1) 0)
      start true e = ap (λ (t : Bool). start_of arcs (record { arc = a.arc; is_reversed = t })) e
      start false e = ap (λ (t : Bool). start_of arcs (record { arc = a.arc; is_reversed = t })) e

      go : (b : Bool) → a.is_reversed ≡ b → StandsOn a v (point_at (without_last (points_of arcs a)) v)
      go false e = let s = size in record {
        place = v;
        there = omega arith;
        is = sym (at false e);
        inner = elim (cases_lt 0 v) [
          | inl some ↦ inl (some, omega arith)
          | inr none ↦ inr (at false e ∙ ap (pt a.arc) (let z : v ≡ 0 = omega arith in z) ∙ sym (start false e))
        ];
        way = inl (e, refl);
      }
      go true e = let s = size in record {
        place = length (arc_of arcs a.arc) - 1 - v;
        there = omega arith;
        is = sym (at true e);
        inner = elim (cases_lt 0 v) [
          | inl some ↦ inl (omega arith, omega arith)
          | inr none ↦ inr (at true e ∙ ap (pt a.arc) (let z : length (arc_of arcs a.arc) - 1 - v ≡ length (arc_of arcs a.arc) - 1 = omega arith in z) ∙ sym (start true e))
        ];
        way = inr (e, refl);
      }

  -- no two of them are one
  once_along : (a : SignedArc) → a.arc < length arcs → AllPairs (λ p q. p ≢ q) (without_last (points_of arcs a))
  once_along a l i j d less lj e =
      let size = size_of a l in
      let o = point_at [] 0 in
      let points = without_last (points_of arcs a) in
      let p = stands a l i (omega arith) in
      let q = stands a l j lj in
      let same : pt a.arc p.place ≡ pt a.arc q.place = p.is ∙ get_or_default points i o d (omega arith) ∙ e ∙ get_or_default points j d o lj ∙ sym q.is in
      apart p.place q.place p.there q.there p.way q.way same
    where
      apart : (x y : ℕ) → x < length (arc_of arcs a.arc) → y < length (arc_of arcs a.arc) → ((a.is_reversed ≡ false) × (x ≡ i)) ⊎ ((a.is_reversed ≡ true) × (x ≡ length (arc_of arcs a.arc) - 1 - i)) →
          ((a.is_reversed ≡ false) × (y ≡ j)) ⊎ ((a.is_reversed ≡ true) × (y ≡ length (arc_of arcs a.arc) - 1 - j)) → pt a.arc x ≡ pt a.arc y → ⊥
      apart x y lx ly (inl u) (inl w) f = let s = size_of a l in let g = u.1 in let h = w.1 in within a.arc x y l (omega arith) ly (inr (omega arith)) f
      apart x y lx ly (inr u) (inr w) f = let s = size_of a l in let g = u.1 in let h = w.1 in within a.arc y x l (omega arith) lx (inl (omega arith)) (sym f)
      apart x y lx ly (inl u) (inr w) f = let t : true ≡ false = sym w.0 ∙ u.0 in absurd (cc)
      apart x y lx ly (inr u) (inl w) f = let t : true ≡ false = sym u.0 ∙ w.0 in absurd (cc)

  -- and none is one of another arc that starts elsewhere
  others_apart : (a b : SignedArc) → a.arc < length arcs → b.arc < length arcs → (a.arc ≡ b.arc → ⊥) → (start_of arcs a ≡ start_of arcs b → ⊥) → (p q : GridPoint) → Contains (without_last (points_of arcs a)) p → Contains (without_last (points_of arcs b)) q → p ≢ q
  others_apart a b la lb differ starts p q (v, lv, ev) (w, lw, ew) e =
      let o = point_at [] 0 in
      let x = stands a la v lv in
      let y = stands b lb w lw in
      let at_p : point_at (without_last (points_of arcs a)) v ≡ p = get_or_default (without_last (points_of arcs a)) v o p lv ∙ ev in
      let at_q : point_at (without_last (points_of arcs b)) w ≡ q = get_or_default (without_last (points_of arcs b)) w o q lw ∙ ew in
      let same : pt a.arc x.place ≡ pt b.arc y.place = x.is ∙ at_p ∙ e ∙ sym at_q ∙ sym y.is in
      elim x.inner [
        | inl inside ↦ differ (sym (between a.arc x.place b.arc y.place la lb inside.0 inside.1 y.there same))
        | inr at_start ↦ elim y.inner [
          | inl inside ↦ differ (between b.arc y.place a.arc x.place lb la inside.0 inside.1 x.there (sym same))
          | inr other_start ↦ starts (sym at_start ∙ at_p ∙ e ∙ sym at_q ∙ other_start)
        ]
      ]

  -- the points along a ring
  abbrev AreFree : List SignedArc → Type 0
  AreFree ring = AllPairs (λ a b. (a.arc ≢ b.arc) × (start_of arcs a ≢ start_of arcs b)) ring

  points_once : (ring : List SignedArc) → All (λ a. a.arc < length arcs) ring → AreFree ring → AllPairs (λ p q. p ≢ q) (points_along arcs ring)
  points_once [] below apart = λ i j d l m. absurd (omega arith)
  points_once (a ∷ rest) below apart =
      let la : a.arc < length arcs = below 0 a (omega arith) in
      pairs_joined (λ p q. p ≢ q) (without_last (points_of arcs a)) (points_along arcs rest) (once_along a la)
      (points_once rest (λ k d l. below (suc k) d (omega arith)) (λ i j d l m. apart (suc i) (suc j) d (omega arith) (omega arith)))
      (λ p q c n.
      let (b, (k, l, is), there) = flat_map-Contains (λ (x : SignedArc). without_last (points_of arcs x)) rest q n in
      let (differ, starts) = apart 0 (suc k) b (omega arith) (omega arith) in
      others_apart a b la (subst (λ (x : SignedArc). x.arc < length arcs) is (below (suc k) b (omega arith))) (λ e. differ (e ∙ ap (λ (x : SignedArc). x.arc) (sym is))) (λ e. starts (e ∙ ap (start_of arcs) (sym is))) p q c there)

-- ---- closed

last_pushed : (p : GridPoint) (xs : Path) → last_of p (xs ++ p ∷ []) ≡ p
last_pushed p xs = go p xs
  where
    go : (d : GridPoint) (ys : Path) → last_of d (ys ++ p ∷ []) ≡ p
    go d [] = refl
    go d (y ∷ ys) = go y ys

closed_ring : (points : Path) → 0 < length points → AllPairs (λ p q. p ≢ q) points → IsRing (closed points)
closed_ring [] l h = absurd (omega arith)
closed_ring (p ∷ rest) l h = go rest h
  where
    moved : (xs : Path) → AllPairs (λ p q. p ≢ q) (p ∷ xs) → AllPairs (λ p q. p ≢ q) (xs ++ p ∷ [])
    moved xs h =
        pairs_joined (λ p q. p ≢ q) xs (p ∷ []) (λ i j d l m. h (suc i) (suc j) d (omega arith) (omega arith)) (λ i j d l m. absurd (omega arith))
        (λ x y (k, lk, is) c e.
        let y_is : y ≡ p = elim (Contains-cases p [] y c) [ inl f ↦ sym f | inr n ↦ Contains-nil y n ] in
        h 0 (suc k) x (omega arith) (omega arith) (sym y_is ∙ sym e ∙ sym is))

    go : (xs : Path) → AllPairs (λ p q. p ≢ q) (p ∷ xs) → IsRing (p ∷ (xs ++ p ∷ []))
    go [] h = (refl, moved [] h)
    go (q ∷ xs) h = (last_pushed p (q ∷ xs), moved (q ∷ xs) h)

pub rings_go_round : RingsGoRound
rings_go_round S arr arcs long along free ring some below simple once =
    closed_ring (points_along arcs ring) (many ring some below) (points_once S arr arcs long along free ring below (λ i j d l m. (once i j d l m, λ e. let f = simple.apart i j d (omega arith) m e in omega arith)))
  where
    many : (xs : List SignedArc) → 0 < length xs → All (λ a. a.arc < length arcs) xs → 0 < length (points_along arcs xs)
    many [] l h = absurd (omega arith)
    many (a ∷ rest) l h =
        let size = size_of S arr arcs long along free a (h 0 a (omega arith)) in
        let longer : 1 < length (arc_of arcs a.arc) = long a.arc [] (h 0 a (omega arith)) in
        let joined = length-append (without_last (points_of arcs a)) (points_along arcs rest) in
        omega arith
