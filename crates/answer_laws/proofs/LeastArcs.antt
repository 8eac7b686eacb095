-- A ring of steps of a boundary, begun where the least of its arcs is.
use Rattle.std.proofs.Common.{◌≡◌, ◌⊎◌, inl, inr, refl, sym, ap, ◌∙◌, subst, arith, ℕ, ◌≤◌, Bool, true, false, ◌||◌, List, [], ◌∷◌, map, length, reverse, get_or, nat_lt, Contains, pos}
use Rattle.std.specs.Prelude.{IsTrue, if◌then◌else◌}
use Rattle.std.specs.List.Sorted.{IsPermutation}
use Rattle.std.proofs.lemmas.Bool.{ltb-false, ltb-true, or_cases, or_left, or_right}
use Rattle.std.proofs.lemmas.List.{reverse-reverse}
use Rattle.std.proofs.lemmas.List.Elements.{All-cons, All-nil, Contains-get_or}
use Rattle.std.proofs.lemmas.List.Folds.{Any-from_list_any, list_any_at}
use Rattle.std.proofs.lemmas.List.Sorted.{Contains-permutation, IsPermutation-map, IsPermutation-sym}
use Rattle.arc_laws.proofs.Runs.{least_in}
use Rattle.lists.specs.Lists.{has, least_of}
use Rattle.lists.proofs.Members.{Contains-cases, Contains-head, Contains-map, Contains-nil, map-Contains}
use Rattle.plane_model.specs.Points.{Segment, Path, reversed, same_segment}
use Rattle.plane_model.specs.Arcs.{arc_number, arcs_of, begins_arc, goes_along, points_of}
use Rattle.plane_model.specs.Arrangement.{IsArrangement, IsDistinct}
use Rattle.plane_model.specs.Boundary.{boundary_by}
use Rattle.plane_model.specs.Drawing.{Drawing, steps}
use Rattle.plane_model.specs.Rings.{BeginsAtLeastArc, least_arc}
use Rattle.plane_model.specs.Snapped.{links_of}
use Rattle.plane_parity.proofs.Abscissa.{same_link-self, same_link-true}
use Rattle.plane_faces.specs.Rings.{IsRing}
use Rattle.face_sets.proofs.SetLemmas.{nat_order}
use Rattle.part_laws.proofs.ClassLemmas.{passes}
use Rattle.printed_laws.proofs.EachStep.{each_back}
use Rattle.answer_laws.proofs.Bounding.{of_boundary, ring_trail}
use Rattle.answer_laws.proofs.Covers.{arcs_whole, some_arc}
use Rattle.answer_laws.proofs.Rounds.{IsBegunWith, begun_with}
use Rattle.answer_laws.proofs.Trails.{GoesAlong, IsTrail, IsWhole, trail_back, whole_back}

-- ---- least numbers

least_low : (d x : ℕ) (xs : List ℕ) (y : ℕ) → Contains (x ∷ xs) y → least_of nat_lt d (x ∷ xs) ≤ y
least_low d x [] y c = elim (Contains-cases x [] y c) [ inl e ↦ omega arith | inr k ↦ Contains-nil y k ]
least_low d x (z ∷ zs) y c = go (nat_lt (least_of nat_lt d (z ∷ zs)) x) refl (Contains-cases x (z ∷ zs) y c) (least_low d z zs y)
  where
    go : (b : Bool) → nat_lt (least_of nat_lt d (z ∷ zs)) x ≡ b → (x ≡ y) ⊎ Contains (z ∷ zs) y → (Contains (z ∷ zs) y → least_of nat_lt d (z ∷ zs) ≤ y) → (if b then least_of nat_lt d (z ∷ zs) else x) ≤ y
    go true e (inl i) later = let less = ltb-true (least_of nat_lt d (z ∷ zs)) x e in omega arith
    go true e (inr k) later = later k
    go false e (inl i) later = omega arith
    go false e (inr k) later =
        let more = ltb-false (least_of nat_lt d (z ∷ zs)) x e in
        let low = later k in
        omega arith

one_least : (xs ys : List ℕ) → IsPermutation xs ys → (x : ℕ) → Contains xs x → least_of nat_lt 0 xs ≡ least_of nat_lt 0 ys
one_least [] ys p x c = Contains-nil x c
one_least (x ∷ xs) [] p y c = Contains-nil y (Contains-permutation (x ∷ xs) [] y p c)
one_least (x ∷ xs) (y ∷ ys) p z c =
    let down = least_low 0 x xs (least_of nat_lt 0 (y ∷ ys)) (Contains-permutation (y ∷ ys) (x ∷ xs) (least_of nat_lt 0 (y ∷ ys)) (IsPermutation-sym (x ∷ xs) (y ∷ ys) p) (least_in nat_lt nat_order 0 y ys)) in
    let up = least_low 0 y ys (least_of nat_lt 0 (x ∷ xs)) (Contains-permutation (x ∷ xs) (y ∷ ys) (least_of nat_lt 0 (x ∷ xs)) p (least_in nat_lt nat_order 0 x xs)) in
    omega arith

-- ---- whether a step goes along an arc

has_there : (xs : List Segment) (s : Segment) → Contains xs s → has same_segment xs s ≡ true
has_there xs s (i, below, e) = list_any_at (same_segment s) xs i s below (ap (same_segment s) e ∙ same_link-self s)

there_has : (xs : List Segment) (s : Segment) → has same_segment xs s ≡ true → Contains xs s
there_has xs s e =
    let (i, x, below, is, same) = Any-from_list_any (same_segment s) xs e in
    subst (Contains xs) (same_link-true s x same) (i, below, is)

along_told : (s : Segment) (path : Path) → GoesAlong s path → goes_along s path ≡ true
along_told s path (inl c) = or_left (has same_segment (steps path) s) (has same_segment (steps path) (reversed s)) (has_there (steps path) s c)
along_told s path (inr c) = or_right (has same_segment (steps path) s) (has same_segment (steps path) (reversed s)) (has_there (steps path) (reversed s) c)

told_along : (s : Segment) (path : Path) → goes_along s path ≡ true → GoesAlong s path
told_along s path e = elim (or_cases (has same_segment (steps path) s) (has same_segment (steps path) (reversed s)) e) [
  | inl f ↦ inl (there_has (steps path) s f)
  | inr f ↦ inr (there_has (steps path) (reversed s) f)
]

pub none : Segment
none = record { start = record { x = pos 0; y = pos 0 }; stop = record { x = pos 0; y = pos 0 } }

module _ (s : Drawing) (arr : IsArrangement (links_of s)) (distinct : IsDistinct (links_of s)) (left right : Segment → Bool) where
  abbrev S : List Segment
  S = links_of s

  abbrev arcs : List Path
  arcs = arcs_of s (links_of s)

  -- the first step of an arc
  abbrev pub first_of : ℕ → Segment
  first_of n = get_or (steps (get_or (arcs_of s (links_of s)) n [])) 0 none

  -- the ring begins with its least arc, whose first step it goes along in one direction or the other
  pub record IsBegun (ring : Path) : Type 0 where
    pub is_ring : IsRing ring
    pub begins : BeginsAtLeastArc (arcs_of s (links_of s)) ring
    pub has_first : Contains (steps ring) (first_of (least_arc (arcs_of s (links_of s)) ring)) ⊎ Contains (steps ring) (reversed (first_of (least_arc (arcs_of s (links_of s)) ring)))

  begins_at : (path : Path) (t : Segment) (rest : List Segment) (direction : Bool) (n : ℕ) → steps path ≡ t ∷ rest → least_arc arcs path ≡ n → begins_arc t (points_of arcs (record { arc = n; is_reversed = direction })) ≡ true → BeginsAtLeastArc arcs path
  begins_at [] t rest direction n e l h = absurd (let f : 0 ≡ length (t ∷ rest) = ap (λ (ss : List Segment). length ss) e in omega arith)
  begins_at (p ∷ []) t rest direction n e l h = absurd (let f : 0 ≡ length (t ∷ rest) = ap (λ (ss : List Segment). length ss) e in omega arith)
  begins_at (p ∷ q ∷ more) t rest direction n e l h =
      let u : Segment = record { start = p; stop = q } in
      let same : u ≡ t = ap (λ (ss : List Segment). get_or ss 0 t) e in (
        direction,
        All-cons (λ v. IsTrue (begins_arc v (points_of arcs (record { arc = least_arc arcs (p ∷ q ∷ more); is_reversed = direction })))) u []
            ((λ i. begins_arc (same i) (points_of arcs (record { arc = l i; is_reversed = direction }))) ∙ h) (All-nil _),
      )

  -- a step of the boundary goes along the arc of its number
  own_arc : (t : Segment) → Contains (boundary_by left right (links_of s)) t → GoesAlong t (get_or (arcs_of s (links_of s)) (arc_number (arcs_of s (links_of s)) t) [])
  own_arc t c =
      let (l, there, along) = of_boundary left right S t c in
      let (n, below, goes) = some_arc s l there in
      told_along t (get_or arcs (arc_number arcs t) []) (passes (goes_along t) arcs n [] below (along_told t (get_or arcs n []) (by_link l (get_or arcs n []) along goes))).1
    where
      by_link : (l : Segment) (arc : Path) → ((t ≡ l) × (left l ≡ true) × (right l ≡ false)) ⊎ ((t ≡ reversed l) × (left l ≡ false) × (right l ≡ true)) → GoesAlong l arc → GoesAlong t arc
      by_link l arc (inl h) (inl k) = inl (subst (Contains (steps arc)) (sym h.0) k)
      by_link l arc (inl h) (inr k) = inr (subst (Contains (steps arc)) (ap reversed (sym h.0)) k)
      by_link l arc (inr h) (inl k) = inr (subst (Contains (steps arc)) (ap reversed (sym h.0)) k)
      by_link l arc (inr h) (inr k) = inl (subst (Contains (steps arc)) (sym h.0) k)

  module _ (ring : Path) (is_ring : IsRing ring) (within : (t : Segment) → Contains (steps ring) t → Contains (boundary_by left right (links_of s)) t) where
    trail : IsTrail (links_of s) (Contains (steps ring))
    trail = ring_trail left right S arr distinct ring is_ring within

    -- a step along the least arc
    least_step : (t : Segment) × Contains (steps ring) t × (arc_number (arcs_of s (links_of s)) t ≡ least_arc (arcs_of s (links_of s)) ring)
    least_step = go ring is_ring
      where
        go : (path : Path) → IsRing path → (t : Segment) × Contains (steps path) t × (arc_number arcs t ≡ least_arc arcs path)
        go [] h = absurd h
        go (p ∷ []) h = absurd h
        go (p ∷ q ∷ rest) h =
            let t : Segment = record { start = p; stop = q } in
            map-Contains (arc_number arcs) (t ∷ steps (q ∷ rest)) (least_arc arcs (p ∷ q ∷ rest)) (least_in nat_lt nat_order 0 (arc_number arcs t) (map (arc_number arcs) (steps (q ∷ rest))))

    -- the ring goes along the first step of the arc
    first_used : (n : ℕ) (t : Segment) → Contains (steps ring) t → GoesAlong t (get_or (arcs_of s (links_of s)) n []) → Contains (steps ring) (first_of n) ⊎ Contains (steps ring) (reversed (first_of n))
    first_used n t on (inl c) = inl (arcs_whole s n (Contains (steps ring)) trail t c on (first_of n) (Contains-get_or (steps (get_or arcs n [])) 0 none (let l = c.1 in omega arith)))
    first_used n t on (inr c) = inr (arcs_whole s n (λ u. Contains (steps ring) (reversed u)) (trail_back S (Contains (steps ring)) trail) (reversed t) c on (first_of n) (Contains-get_or (steps (get_or arcs n [])) 0 none (let l = c.1 in omega arith)))

    begun_along : (n : ℕ) → least_arc arcs ring ≡ n → (t : Segment) → Contains (steps ring) t → (direction : Bool) (path : Path) → points_of arcs (record { arc = n; is_reversed = direction }) ≡ path → Contains (steps path) t → IsWhole S path →
        Contains (steps ring) (first_of n) ⊎ Contains (steps ring) (reversed (first_of n)) → (other : Path) × IsBegun other × IsPermutation (steps ring) (steps other)
    begun_along n l t on direction [] is c whole first = Contains-nil t c
    begun_along n l t on direction (a ∷ []) is c whole first = Contains-nil t c
    begun_along n l t on direction (a ∷ b ∷ more) is c whole first =
        let u : Segment = record { start = a; stop = b } in
        let begun : IsBegunWith u ring = begun_with ring is_ring u (whole (Contains (steps ring)) trail t c on u (Contains-head u (steps (b ∷ more)))) in
        let same : least_arc arcs begun.begun ≡ n =
        sym (one_least (map (arc_number arcs) (steps ring)) (map (arc_number arcs) (steps begun.begun)) (IsPermutation-map (arc_number arcs) (steps ring) (steps begun.begun) begun.same_steps) (arc_number arcs t) (Contains-map (arc_number arcs) (steps ring) t on)) ∙ l in
        let moved : (v : Segment) → Contains (steps ring) v → Contains (steps begun.begun) v = (λ v k. Contains-permutation (steps ring) (steps begun.begun) v begun.same_steps k) in (
          begun.begun,
          record {
            is_ring = begun.is_ring;
            begins = begins_at begun.begun u begun.rest direction n begun.first same (ap (begins_arc u) is ∙ (λ i. same_link-self u i || false));
            has_first = subst (λ (m : ℕ). Contains (steps begun.begun) (first_of m) ⊎ Contains (steps begun.begun) (reversed (first_of m))) (sym same) (elim first [ inl k ↦ inl (moved (first_of n) k) | inr k ↦ inr (moved (reversed (first_of n)) k) ]);
          },
          begun.same_steps,
        )

    pub begun_ring : (other : Path) × IsBegun other × IsPermutation (steps ring) (steps other)
    begun_ring =
        let (t, on, is) = least_step in
        let n : ℕ = least_arc arcs ring in
        let goes : GoesAlong t (get_or arcs n []) = subst (λ (m : ℕ). GoesAlong t (get_or arcs m [])) is (own_arc t (within t on)) in
        by_direction n refl t on goes (first_used n t on goes)
      where
        by_direction : (n : ℕ) → least_arc arcs ring ≡ n → (t : Segment) → Contains (steps ring) t → GoesAlong t (get_or (arcs_of s (links_of s)) n []) → Contains (steps ring) (first_of n) ⊎ Contains (steps ring) (reversed (first_of n)) →
            (other : Path) × IsBegun other × IsPermutation (steps ring) (steps other)
        by_direction n l t on (inl c) first = begun_along n l t on false (get_or arcs n []) refl c (arcs_whole s n) first
        by_direction n l t on (inr c) first =
            begun_along n l t on true (reverse (get_or arcs n [])) refl
            (each_back (Contains (steps (reverse (get_or arcs n [])))) (reverse (get_or arcs n [])) (λ u m. m) (reversed t) (subst (λ (p : Path). Contains (steps p) (reversed t)) (sym (reverse-reverse (get_or arcs n []))) c))
            (whole_back S (get_or arcs n []) (arcs_whole s n)) first
