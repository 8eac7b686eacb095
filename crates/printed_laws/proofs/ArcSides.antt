-- All links of an arc have the same two faces on their sides: an arc passes no vertex where other links end.
use Rattle.std.proofs.Common.{◌≡◌, ◌⊎◌, inl, inr, refl, sym, ap, subst, ◌∙◌, arith, ℕ, zero, suc, ◌==◌, Bool, true, false, cond, not, ◌&&◌, ◌||◌, List, [], ◌∷◌, ◌++◌, map, filter, length, reverse, get_or, Contains, Some, None}
use Rattle.std.specs.Prelude.{All, ◌↔◌, if◌then◌else◌}
use Rattle.std.specs.Cmp.{both_ways, unsigned_Decides}
use Rattle.std.specs.List.{cons_option, list_any, flat_map}
use Rattle.std.proofs.lemmas.Bool.{or_parts}
use Rattle.std.proofs.lemmas.List.{reverse-append}
use Rattle.std.proofs.lemmas.List.Elements.{All-contains, All-head, All-tail}
use Rattle.lists.specs.Lists.{each_once, first_or, joined_up, last_of, list_before, same_list, tail}
use Rattle.lists.proofs.Ascending.{Contains-ascending}
use Rattle.lists.proofs.Members.{Contains-cases, Contains-head, Contains-later, Contains-map, Contains-nil, filter-Contains, map-Contains}
use Rattle.plane_model.specs.Points.{GridPoint, Segment, Path, is_before, link_before, link_between, reversed, same_point}
use Rattle.plane_model.specs.Arcs.{arc_along, arcs_of, begun_at_least, ends_at, forward_way, gone_round, is_node, joined_to, next_vertex, turns_back, way_on}
use Rattle.plane_model.specs.Arrangement.{IsArrangement, IsBefore}
use Rattle.plane_model.specs.Drawing.{Drawing, paths_of, rings_of, steps, steps_of_paths}
use Rattle.plane_model.specs.Joined.{links_of_arc}
use Rattle.plane_model.specs.Rotation.{Dart, head}
use Rattle.plane_model.specs.Rotation as rotation
use Rattle.plane_model.specs.Snapped.{links_of}
use Rattle.plane_model.proofs.PointOrder.{link_before-IsStrictOrder, same_point_from, same_point_to}
use Rattle.plane_faces.specs.Around.{backward_dart, darts_at, forward_dart, opposite}
use Rattle.plane_faces.specs.Places.{Place, left_of, left_side, right_side, AgreesWherePlacesMeet}
use Rattle.plane_faces.specs.Rings.{dart_of_step}
use Rattle.plane_faces.proofs.Around.{darts_are_there, there_are_darts}
use Rattle.plane_faces.proofs.EvenRings.{dart_is_between}
use Rattle.plane_faces.proofs.Order.{before_not_itself}
use Rattle.plane_faces.proofs.Runs.{dart_between}
use Rattle.face_laws.proofs.DartLemmas.{dart_back, next_of_two, step_head, step_tail, twice_opposite}
use Rattle.printed_laws.proofs.Constant.{there_or_not}
use Rattle.printed_laws.proofs.EachStep.{EachStep, each_back, each_begun, each_from, each_joined, each_later, each_none}

-- ---- the vertices that links join to a vertex are the heads of the darts there

pub same_back : (p q : GridPoint) → same_point p q ≡ same_point q p
same_back p q = both_ways (same_point p q) (same_point q p) (λ e. same_point_to q p (sym (same_point_from p q e))) (λ e. same_point_to p q (sym (same_point_from q p e)))

abbrev Ordered : Segment → Type 0
Ordered l = IsBefore l.start l.stop

joined_heads : (p : GridPoint) (links : List Segment) → All Ordered links → joined_to links p ≡ map head (darts_at p links)
joined_heads p [] h = refl
joined_heads p (l ∷ ls) h =
    go (joined_heads p ls (All-tail Ordered l ls h)) (same_point l.start p) (same_point l.stop p) refl refl
    ∙ (λ i. map head (cond (same_back l.start p i) (forward_dart l ∷ []) [] ++ (cond (same_back l.stop p i) (backward_dart l ∷ []) [] ++ darts_at p ls)))
  where
    both : l.start ≡ p → l.stop ≡ p → ⊥
    both e f = before_not_itself p (subst (λ (q : GridPoint). IsBefore q p) e (subst (λ (q : GridPoint). IsBefore l.start q) f (All-head Ordered l ls h)))

    go : joined_to ls p ≡ map head (darts_at p ls) → (b c : Bool) → same_point l.start p ≡ b → same_point l.stop p ≡ c → cons_option (if b then Some l.stop else (if c then Some l.start else None)) (joined_to ls p) ≡ map head (cond b (forward_dart l ∷ []) [] ++ (cond c (backward_dart l ∷ []) [] ++ darts_at p ls))
    go rest true true e f = absurd (both (same_point_from l.start p e) (same_point_from l.stop p f))
    go rest true false e f = ap (λ (ps : List GridPoint). l.stop ∷ ps) rest
    go rest false true e f = ap (λ (ps : List GridPoint). l.start ∷ ps) rest
    go rest false false e f = rest

-- just two
two_darts : (ds : List Dart) → length (map head ds) ≡ 2 → (x : Dart) × (y : Dart) × (ds ≡ x ∷ y ∷ [])
two_darts [] e = absurd (omega arith)
two_darts (x ∷ []) e = absurd (omega arith)
two_darts (x ∷ y ∷ []) e = (x, y, refl)
two_darts (x ∷ y ∷ z ∷ ds) e = absurd (omega arith)

-- ---- of two vertices the one that isn't p, or p where both are

kept : (p b : GridPoint) → first_or p (cond (not (same_point b p)) (b ∷ []) []) ≡ b
kept p b = go (same_point b p) refl
  where
    go : (c : Bool) → same_point b p ≡ c → first_or p (cond (not c) (b ∷ []) []) ≡ b
    go true e = sym (same_point_from b p e)
    go false e = refl

pub not_first : (p a b : GridPoint) → p ≡ a → first_or p (filter (λ (r : GridPoint). not (same_point r p)) (a ∷ b ∷ [])) ≡ b
not_first p a b e =
    let rest : List GridPoint = cond (not (same_point b p)) (b ∷ []) [] in
    ap (λ (c : Bool). first_or p (cond (not c) (a ∷ rest) rest)) (same_point_to a p (sym e)) ∙ kept p b

pub not_second : (p a b : GridPoint) → p ≡ b → first_or p (filter (λ (r : GridPoint). not (same_point r p)) (a ∷ b ∷ [])) ≡ a
not_second p a b e =
    ap (λ (c : Bool). first_or p (cond (not (same_point a p)) (a ∷ cond (not c) (b ∷ []) []) (cond (not c) (b ∷ []) []))) (same_point_to b p (sym e)) ∙ kept p a

head_of_opposite : (e : Dart) → head (opposite e) ≡ rotation.tail e
head_of_opposite e = go e.forward
  where
    go : (b : Bool) → cond (not b) e.link.stop e.link.start ≡ cond b e.link.start e.link.stop
    go true = refl
    go false = refl

-- a way begins with the vertex that its step goes to
pub way_first : (node : GridPoint → Bool) (S : List Segment) (n : ℕ) (start p q : GridPoint) → way_on node S n start p q ≡ q ∷ tail (way_on node S n start p q)
way_first node S zero start p q = refl
way_first node S (suc n) start p q = refl

-- x is one of a and b
abbrev pub IsEither : ℕ → ℕ → ℕ → Type 0
IsEither a b x = (x ≡ a) ⊎ (x ≡ b)

other_way : (a b x : ℕ) → IsEither a b x → IsEither b a x
other_way a b x (inl e) = inr e
other_way a b x (inr e) = inl e

-- x is the face on one side of l
abbrev pub IsFaceBeside : (Place → ℕ) → Segment → ℕ → Type 0
IsFaceBeside label l x = IsEither (label (left_side l)) (label (right_side l)) x

module _ (S : List Segment) (arr : IsArrangement S) (label : Place → ℕ) (agrees : AgreesWherePlacesMeet S label) where
  -- a step goes along a link with the face a on its left and b on its right
  record IsBetween (a b : ℕ) (t : Segment) : Type 0 where
    on : Contains S (link_between t)
    left : label (left_of (dart_of_step t)) ≡ a
    right : label (left_of (opposite (dart_of_step t))) ≡ b

  ordered : (l : Segment) → Contains S l → Ordered l
  ordered l c = All-contains Ordered S l arr.ordered c

  -- the step the other way has them the other way round
  gone_back : (a b : ℕ) (t : Segment) → IsBetween a b t → IsBetween b a (reversed t)
  gone_back a b t h =
      let back : dart_of_step (reversed t) ≡ opposite (dart_of_step t) = dart_back t (ordered (link_between t) h.on) in
      record {
        on = subst (Contains S) (sym (ap (λ (d : Dart). d.link) back)) h.on;
        left = ap (λ (d : Dart). label (left_of d)) back ∙ h.right;
        right = ap (λ (d : Dart). label (left_of (opposite d))) back ∙ ap (λ (d : Dart). label (left_of d)) (twice_opposite (dart_of_step t)) ∙ h.left;
      }

  back_between : (a b : ℕ) (path : Path) → EachStep (IsBetween a b) path → EachStep (IsBetween b a) (reverse path)
  back_between a b path h t c = gone_back a b (reversed t) (each_back (IsBetween a b) path h t c)

  -- the faces on both sides of the link of such a step
  sides_of : (a b : ℕ) (t : Segment) → IsBetween a b t → (x : ℕ) → IsFaceBeside label (link_between t) x ↔ IsEither a b x
  sides_of a b t h x = go (is_before t.start t.stop) h.left h.right
    where
      go : (f : Bool) → label (left_of (record { link = link_between t; forward = f })) ≡ a → label (left_of (record { link = link_between t; forward = not f })) ≡ b → IsFaceBeside label (link_between t) x ↔ IsEither a b x
      go true e f = (
        λ s. elim s [ inl i ↦ inl (i ∙ e) | inr i ↦ inr (i ∙ f) ],
        λ s. elim s [ inl i ↦ inl (i ∙ sym e) | inr i ↦ inr (i ∙ sym f) ],
      )
      go false e f = (
        λ s. elim s [ inl i ↦ inr (i ∙ f) | inr i ↦ inl (i ∙ e) ],
        λ s. elim s [ inl i ↦ inr (i ∙ sym e) | inr i ↦ inl (i ∙ sym f) ],
      )

  -- ---- on from a vertex with two links

  module _ (a b : ℕ) (s : Segment) (h : IsBetween a b s) where
    abbrev d : Dart
    d = dart_of_step s

    abbrev next : GridPoint
    next = next_vertex S s.start s.stop

    abbrev on_step : Segment
    on_step = record { start = s.stop; stop = next }

    -- y is the only other dart there
    along_other : (y : Dart) → Contains S y.link → rotation.tail y ≡ s.stop → next_vertex S s.start s.stop ≡ head y → ((c : Dart) → Contains S c.link → rotation.tail c ≡ s.stop → (c ≡ y) ⊎ (c ≡ opposite (dart_of_step s))) →
        IsBetween a b (record { start = s.stop; stop = next_vertex S s.start s.stop })
    along_other y there at is only =
        let same : dart_of_step on_step ≡ y = (λ i. dart_between (sym at i) (is i)) ∙ dart_is_between y (ordered y.link there) in
        let after = next_of_two S y (opposite d) (step_head s ∙ sym at) (λ c k e. only c k (e ∙ at)) in
        let before = next_of_two S (opposite d) y (at ∙ sym (step_head s)) (λ c k e. elim (only c k (e ∙ step_head s)) [ inl i ↦ inr i | inr i ↦ inl i ]) in
        record {
          on = subst (Contains S) (sym (ap (λ (x : Dart). x.link) same)) there;
          left = ap (λ (x : Dart). label (left_of x)) same ∙ agrees.sector y (opposite d) there h.on after ∙ ap (λ (x : Dart). label (left_of x)) (twice_opposite d) ∙ h.left;
          right = ap (λ (x : Dart). label (left_of (opposite x))) same ∙ sym (agrees.sector (opposite d) y h.on there before) ∙ h.right;
        }

    -- so the way on goes along it, with the same faces on its sides
    on_from : length (joined_to S s.stop) ≡ 2 → IsBetween a b (record { start = s.stop; stop = next_vertex S s.start s.stop })
    on_from two =
        let heads = joined_heads s.stop S arr.ordered in
        let (x, y, are) = two_darts (darts_at s.stop S) (ap (λ (ps : List GridPoint). length ps) (sym heads) ∙ two) in
        by_two x y are (heads ∙ ap (λ (ds : List Dart). map head ds) are)
      where
        arrives : s.start ≡ head (opposite (dart_of_step s))
        arrives = sym (step_tail s) ∙ sym (head_of_opposite d)

        by_two : (x y : Dart) → darts_at s.stop S ≡ x ∷ y ∷ [] → joined_to S s.stop ≡ head x ∷ head y ∷ [] → IsBetween a b (record { start = s.stop; stop = next_vertex S s.start s.stop })
        by_two x y are heads = elim (one_of (opposite d) h.on (step_head s)) [
          | inl e ↦ along_other y (here y in_y).0 (here y in_y).1
              (ap (λ (ps : List GridPoint). first_or s.start (filter (λ (r : GridPoint). not (same_point r s.start)) ps)) heads ∙ not_first s.start (head x) (head y) (arrives ∙ ap head e))
              (λ c k at. elim (one_of c k at) [ inl i ↦ inr (i ∙ sym e) | inr i ↦ inl i ])
          | inr e ↦ along_other x (here x in_x).0 (here x in_x).1
              (ap (λ (ps : List GridPoint). first_or s.start (filter (λ (r : GridPoint). not (same_point r s.start)) ps)) heads ∙ not_second s.start (head x) (head y) (arrives ∙ ap head e))
              (λ c k at. elim (one_of c k at) [ inl i ↦ inl i | inr i ↦ inr (i ∙ sym e) ])
        ]
          where
            in_x : Contains (darts_at s.stop S) x
            in_x = subst (λ (ds : List Dart). Contains ds x) (sym are) (Contains-head x (y ∷ []))

            in_y : Contains (darts_at s.stop S) y
            in_y = subst (λ (ds : List Dart). Contains ds y) (sym are) (Contains-later x (y ∷ []) y (Contains-head y []))

            here : (c : Dart) → Contains (darts_at s.stop S) c → Contains S c.link × (rotation.tail c ≡ s.stop)
            here c k = All-contains (λ (e : Dart). Contains S e.link × (rotation.tail e ≡ s.stop)) (darts_at s.stop S) c (darts_are_there s.stop S) k

            one_of : (c : Dart) → Contains S c.link → rotation.tail c ≡ s.stop → (c ≡ x) ⊎ (c ≡ y)
            one_of c k at = elim (Contains-cases x (y ∷ []) c (subst (λ (ds : List Dart). Contains ds c) are (there_are_darts s.stop S c k at))) [
              | inl e ↦ inl (sym e)
              | inr m ↦ elim (Contains-cases y [] c m) [ inl e ↦ inr (sym e) | inr n ↦ Contains-nil c n ]
            ]

  -- ---- along an arc

  -- in its direction a path is itself, or gone back
  either_way : (a b : ℕ) (path : Path) → EachStep (IsBetween a b) path → EachStep (IsBetween a b) (forward_way path) ⊎ EachStep (IsBetween b a) (forward_way path)
  either_way a b path h = go (list_before is_before (reverse path) path)
    where
      go : (c : Bool) → EachStep (IsBetween a b) (if c then reverse path else path) ⊎ EachStep (IsBetween b a) (if c then reverse path else path)
      go true = inr (back_between a b path h)
      go false = inl h

  module _ (node : GridPoint → Bool) (two : (q : GridPoint) → node q ≡ false → length (joined_to S q) ≡ 2) where
    -- all steps of a way on, as far as it goes
    way_between : (a b n : ℕ) (start p q : GridPoint) → IsBetween a b (record { start = p; stop = q }) → EachStep (IsBetween a b) (p ∷ way_on node S n start p q)
    way_between a b zero start p q h = each_from (IsBetween a b) p q [] h (each_none (IsBetween a b) q)
    way_between a b (suc n) start p q h = go (way_between a b n start q (next_vertex S p q)) (node q) (same_point q start) refl
      where
        go : (IsBetween a b (record { start = q; stop = next_vertex S p q }) → EachStep (IsBetween a b) (q ∷ way_on node S n start q (next_vertex S p q))) →
            (c e : Bool) → node q ≡ c → EachStep (IsBetween a b) (p ∷ q ∷ (elim (c || e) as (λ x. Path) [ true ↦ [] | false ↦ way_on node S n start q (next_vertex S p q) ]))
        go later true e f = each_from (IsBetween a b) p q [] h (each_none (IsBetween a b) q)
        go later false true f = each_from (IsBetween a b) p q [] h (each_none (IsBetween a b) q)
        go later false false f = each_from (IsBetween a b) p q (way_on node S n start q (next_vertex S p q)) h (later (on_from a b (record { start = p; stop = q }) h (two q f)))

    -- a closed way without a node, or a way on joined to the way back
    arc_between : (a b : ℕ) (s : Segment) → IsBetween a b s → EachStep (IsBetween a b) (arc_along node S s) ⊎ EachStep (IsBetween b a) (arc_along node S s)
    arc_between a b s h = go (same_point (last_of s.start on) s.start) (not (node s.start)) refl
      where
        way : Path
        way = way_on node S (length S) s.start s.start s.stop

        on : Path
        on = s.start ∷ way_on node S (length S) s.start s.start s.stop

        back : Path
        back = way_on node S (length S) s.stop s.stop s.start

        goes_on : EachStep (IsBetween a b) (s.start ∷ way_on node S (length S) s.start s.start s.stop)
        goes_on = way_between a b (length S) s.start s.start s.stop h

        comes : EachStep (IsBetween a b) (reverse (tail (way_on node S (length S) s.stop s.stop s.start)) ++ s.start ∷ [])
        comes =
            let goes : EachStep (IsBetween b a) (s.stop ∷ s.start ∷ tail back) =
            subst (λ (path : Path). EachStep (IsBetween b a) (s.stop ∷ path)) (way_first node S (length S) s.stop s.stop s.start) (way_between b a (length S) s.stop s.stop s.start (gone_back a b s h)) in
            subst (EachStep (IsBetween a b)) (reverse-append (s.start ∷ []) (tail back)) (back_between b a (s.start ∷ tail back) (each_later (IsBetween b a) s.stop s.start (tail back) goes))

        between_nodes : EachStep (IsBetween a b) (forward_way (reverse (tail back) ++ on)) ⊎ EachStep (IsBetween b a) (forward_way (reverse (tail back) ++ on))
        between_nodes = either_way a b (reverse (tail back) ++ on) (each_joined (IsBetween a b) (reverse (tail back)) s.start way comes goes_on)

        go : (c e : Bool) → same_point (last_of s.start on) s.start ≡ c →
            EachStep (IsBetween a b) (if c && e then forward_way (begun_at_least on) else forward_way (reverse (tail back) ++ on)) ⊎ EachStep (IsBetween b a) (if c && e then forward_way (begun_at_least on) else forward_way (reverse (tail back) ++ on))
        go true true f = either_way a b (begun_at_least on) (each_begun (IsBetween a b) s.start way (same_point_from (last_of s.start on) s.start f) goes_on)
        go true false f = between_nodes
        go false e f = between_nodes

-- ---- the arcs of a drawing

pub once_there : {A : Type 0} (same : A → A → Bool) (xs : List A) (y : A) → Contains (each_once same xs) y → Contains xs y
once_there same [] y c = Contains-nil y c
once_there same (x ∷ xs) y c = elim (Contains-cases x (filter (λ z. not (same x z)) (each_once same xs)) y c) [
  | inl e ↦ subst (Contains (x ∷ xs)) e (Contains-head x xs)
  | inr k ↦ Contains-later x xs y (once_there same xs y (filter-Contains (λ z. not (same x z)) (each_once same xs) y k).0)
]

-- where no arc ends there are two links
pub two_links : (s : Drawing) (S : List Segment) (q : GridPoint) → is_node s S q ≡ false → length (joined_to S q) ≡ 2
two_links s S q e =
    let lines : Bool = list_any (λ path. ends_at q path || turns_back q path) (joined_up s.lines) in
    let rings : Bool = list_any (λ ring. turns_back q (gone_round ring)) (flat_map rings_of s.polygons ++ s.boxes) in
    go (length (joined_to S q) == 2) refl (or_parts (not (length (joined_to S q) == 2)) lines (or_parts (not (length (joined_to S q) == 2) || lines) rings e).0).0
  where
    go : (b : Bool) → (length (joined_to S q) == 2) ≡ b → not b ≡ false → length (joined_to S q) ≡ 2
    go true f g = (unsigned_Decides (length (joined_to S q)) 2).0 f
    go false f g = absurd (let z : true ≡ false = g in cc)

module _ (s : Drawing) (arr : IsArrangement (links_of s)) (label : Place → ℕ) (agrees : AgreesWherePlacesMeet (links_of s) label) where
  abbrev S : List Segment
  S = links_of s

  abbrev arcs : List Path
  arcs = arcs_of s S

  -- each link of arc n is one of the drawing's, with the faces a and b on its sides
  abbrev pub HasSides : ℕ → ℕ → ℕ → Type 0
  HasSides n a b = (l : Segment) → Contains (links_of_arc (arcs_of s (links_of s)) n) l → Contains (links_of s) l × ((x : ℕ) → IsFaceBeside label l x ↔ IsEither a b x)

  pub arc_sides : (n : ℕ) → (a : ℕ) × (b : ℕ) × HasSides n a b
  arc_sides n = elim (there_or_not arcs n []) [
    | inr none ↦ (0, 0, λ l c. Contains-nil l (subst (λ (path : Path). Contains (map link_between (steps path)) l) none c))
    | inl there ↦ (
        let (t, at_t, is) = map-Contains (arc_along (is_node s S) S) (steps_of_paths (paths_of s)) (get_or arcs n []) (once_there (same_list same_point) (map (arc_along (is_node s S) S) (steps_of_paths (paths_of s))) (get_or arcs n []) there) in
        let on : Contains S (link_between t) = Contains-ascending link_before link_before-IsStrictOrder (map link_between (steps_of_paths (paths_of s))) (link_between t) (Contains-map link_between (steps_of_paths (paths_of s)) t at_t) in
        let a : ℕ = label (left_of (dart_of_step t)) in
        let b : ℕ = label (left_of (opposite (dart_of_step t))) in (
          a,
          b,
          λ l c. (
              let (u, at_u, link) = map-Contains link_between (steps (get_or arcs n [])) l c in
              let on_path : Contains (steps (arc_along (is_node s S) S t)) u = subst (λ (path : Path). Contains (steps path) u) (sym is) at_u in
              elim (arc_between S arr label agrees (is_node s S) (two_links s S) a b t (record { on = on; left = refl; right = refl })) [
                | inl each ↦ of_link a b u l link (each u on_path)
                | inr each ↦ (let (there, sides) = of_link b a u l link (each u on_path) in (there, λ x. (λ h. other_way b a x ((sides x).0 h), λ h. (sides x).1 (other_way a b x h))))
              ]),
        ))
  ]
    where
      of_link : (a b : ℕ) (u l : Segment) → link_between u ≡ l → IsBetween S arr label agrees a b u → Contains S l × ((x : ℕ) → IsFaceBeside label l x ↔ IsEither a b x)
      of_link a b u l link h = subst (λ (k : Segment). Contains S k × ((x : ℕ) → IsFaceBeside label k x ↔ IsEither a b x)) link (h.on, sides_of S arr label agrees a b u h)
