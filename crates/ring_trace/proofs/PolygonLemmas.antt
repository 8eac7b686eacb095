-- The polygons of a set are those of its parts.
use Rattle.std.proofs.Common.{◌≡◌, inl, inr, refl, sym, ap, ◌∙◌, subst, arith, ℕ, zero, suc, ◌+◌, ◌-◌, ◌*◌, ◌<◌, ◌≤◌, ◌&&◌, Bool, true, false, cond, List, [], ◌∷◌, ◌++◌, length, get_or, take, drop, map, nat_eq, nat_lt, All, Contains}
use Rattle.std.specs.List.{sum_by}
use Rattle.std.specs.List.Sorted.{IsStrictlyIncreasing}
use Rattle.std.proofs.lemmas.Bool.{and_from, and_parts, cases_lt, lt-ltb, ltb-true}
use Rattle.std.proofs.lemmas.List.{length-map, length-take-le, length-drop, get_or-map, get_or-take, get_or-drop, get_or_default, drop_more, take_at, drop_at}
use Rattle.std.proofs.lemmas.List.Elements.{All-append, All-take, All-drop, All-map, All-filter, All-tail, All-contains, Contains-get_or}
use Rattle.std.proofs.lemmas.List.Sums.{sum_by-append}
use Rattle.std.proofs.lemmas.List.Sorted.{Contains-permutation, IsPermutation-sym, sum_by-IsPermutation}
use Rattle.std.proofs.lemmas.List.Kept.{AllPairs-filter}
use Rattle.std.specs.List.{AllPairs}
use Rattle.lists.specs.Lists.{has}
use Rattle.lists.proofs.Members.{Contains-nil, Contains-head, Contains-later, Contains-cases, Contains-filter, filter-Contains, map-Contains}
use Rattle.lists.proofs.Ascending.{one_ascending}
use Rattle.plane_model.specs.Points.{Path}
use Rattle.plane_model.specs.Arcs.{SignedArc}
use Rattle.arc_table.specs.Around.{start_of}
use Rattle.arc_table.proofs.SignedArcs.{Contains-signed_below}
use Rattle.face_walk.specs.Places.{FaceTable, face_left_of, signed_below}
use Rattle.face_walk.specs.Joining.{AreClasses}
use Rattle.face_sets.specs.declared.joined_faces.Side.{Side}
use Rattle.ring_trace.specs.declared.pairing.Edge.{Edge}
use Rattle.ring_trace.specs.declared.ring_keys.RingKey.{RingKey}
use Rattle.ring_trace.specs.declared.simple_rings.Rings.{Rings}
use Rattle.ring_trace.specs.declared.simple_rings.RingSpan.{RingSpan}
use Rattle.face_sets.specs.Boundary.{is_outward, boundary, sides_of, IsOnBoundary, IsLeastArc}
use Rattle.face_sets.specs.Joined.{AreJoinedBy, AreLeastNumbers, AreParts}
use Rattle.ring_trace.specs.Keys.{AreByPart, IsKey, IsKeyOfSome, IsLeastFirst, along_key, along_span, arc_number, arcs_along, keys_of_part, path_along}
use Rattle.ring_trace.specs.Pairing.{AreEdgesOf, edge_of, number_at}
use Rattle.ring_trace.specs.Rings.{AreTiled, HasEachOnce, edge_at}
use Rattle.ring_trace.specs.Traced.{BeginsWithLeast, UseParts, bounded, is_of_boundary, once_if, same_arc, times, times_along, times_round}
use Rattle.ring_trace.specs.Ways.{IsSimpleRing, AreRingsByCorners, edges_in, start_at, stop_at}
use Rattle.face_sets.proofs.BoundaryLemmas.{AreSidesOf, below_arc}
use Rattle.ring_trace.proofs.GatherLemmas.{key_of_some}
use Rattle.ring_trace.proofs.PartSides.{test_of, of_test, of_part, number_is, part_sum}
use Rattle.face_sets.proofs.SetLemmas.{nat_order, to_ascending}
use Rattle.ring_trace.proofs.Sums.{sum_by_same, sum_by_none, sum_by-filter}
use Rattle.ring_trace.proofs.TileLemmas.{sum_halves, sum_tiled}
use Rattle.ring_trace.proofs.TurnLemmas.{along_times, arc_at, same_part, span_halves}
use Rattle.ring_trace.proofs.UsedLemmas.{sum_by-map}

-- ---- the ring of a key

-- the two halves of a span
halves_all : (P : ℕ → Type 0) (xs : List ℕ) (begin first end : ℕ) → begin ≤ first → first ≤ end → All P (take (end - begin) (drop begin xs)) → All P (take (first - begin) (drop begin xs)) × All P (take (end - first) (drop first xs))
halves_all P xs begin first end l m h =
    let front = take (first - begin) (drop begin xs) in
    let back = take (end - first) (drop first xs) in
    let both : All P (front ++ back) = subst (λ (ys : List ℕ). All P ys) (sym (span_halves xs begin first end l m)) h in (
      subst (λ (ys : List ℕ). All P ys) (take_at front back (length front) refl) (All-take P (length front) (front ++ back) both),
      subst (λ (ys : List ℕ). All P ys) (drop_at front back (length front) refl) (All-drop P (length front) (front ++ back) both),
    )

-- it begins with its arc of least number
pub keyed_least : (edges : List Edge) (rings : Rings) (key : RingKey) → IsKey rings key → IsLeastFirst edges rings key → BeginsWithLeast (path_along edges rings key)
keyed_least edges rings key is h =
    let es = rings.edges.items in
    let x = get_or es key.first 0 in
    let some = h.some in
    let within = is.within in
    let count : key.end - key.first ≡ suc (key.end - key.first - 1) = omega arith in
    let rest = take (key.end - key.first - 1) (drop (key.first + 1) es) in
    let front = take (key.first - key.begin) (drop key.begin es) in
    let first : take (key.end - key.first) (drop key.first es) ≡ x ∷ rest = ap (λ (n : ℕ). take n (drop key.first es)) count ∙ ap (λ (ys : List ℕ). take (suc (key.end - key.first - 1)) ys) (drop_more es key.first 0 (omega arith)) in
    let low : ℕ → Type 0 = λ e. arc_number edges x ≤ arc_number edges e in
    let lowest : All low (take (key.end - key.begin) (drop key.begin es)) = subst (λ (n : ℕ). All (λ e. n ≤ arc_number edges e) (take (key.end - key.begin) (drop key.begin es))) h.least h.lowest in
    let (in_front, in_back) = halves_all low es key.begin key.first key.end is.begins is.goes_on lowest in
    subst BeginsWithLeast (sym (ap (λ (ys : List ℕ). arcs_along edges (ys ++ front)) first))
    (All-map (λ (b : SignedArc). arc_number edges x ≤ b.arc) (arc_at edges) (rest ++ front)
    (All-append low rest front (All-tail low x rest (subst (λ (ys : List ℕ). All low ys) first in_back)) in_front))

-- its edges are of one part
pub keyed_part : (arcs : List Path) (edges : List Edge) (rings : Rings) (key : RingKey) → All (λ (e : Edge). e.start ≡ start_of arcs e.arc) edges → AreRingsByCorners arcs edges rings → IsKey rings key → IsKeyOfSome rings.spans.items key → IsLeastFirst edges rings key →
    All (λ e. (edge_at edges e).part ≡ key.part) (take (key.end - key.begin) (drop key.begin rings.edges.items))
keyed_part arcs edges rings key starts simple is of_span least =
    let es = rings.edges.items in
    let some = of_span.listed in
    let span : IsSimpleRing (start_at edges) (stop_at arcs edges) (edges_in es of_span.span) =
    subst (λ (s : RingSpan). IsSimpleRing (start_at edges) (stop_at arcs edges) (edges_in es s)) some.2 (simple some.0 of_span.span some.1) in
    let whole : edges_in es of_span.span ≡ take (key.end - key.begin) (drop key.begin es) = sym (λ i. take (of_span.ends i - of_span.begins i) (drop (of_span.begins i) es)) in
    let ring = take (key.end - key.begin) (drop key.begin es) in
    let h : IsSimpleRing (start_at edges) (stop_at arcs edges) ring = subst (IsSimpleRing (start_at edges) (stop_at arcs edges)) whole span in
    let begins = is.begins in
    let goes_on = is.goes_on in
    let within = is.within in
    let further = least.some in
    let left = length-drop key.begin es in
    let size = length-take-le (key.end - key.begin) (drop key.begin es) (omega arith) in
    let j = key.first - key.begin in
    let first : get_or ring j 0 ≡ get_or es key.first 0 =
    get_or-take (key.end - key.begin) (drop key.begin es) j 0 (omega arith) ∙ get_or-drop key.begin es j 0 ∙ ap (λ (k : ℕ). get_or es k 0) (let e : key.begin + j ≡ key.first = omega arith in e) in
    λ k d l.
    same_part arcs edges starts h.at h.at ring h.way k d l
    ∙ sym (same_part arcs edges starts h.at h.at ring h.way j 0 (omega arith))
    ∙ ap (λ (e : ℕ). (edge_at edges e).part) first ∙ sym least.part

path_times : (a : SignedArc) (edges : List Edge) (rings : Rings) (key : RingKey) → IsKey rings key → times a (path_along edges rings key) ≡ along_key (times_along a edges) rings key
path_times a edges rings key is =
    let es = rings.edges.items in
    let back = take (key.end - key.first) (drop key.first es) in
    let front = take (key.first - key.begin) (drop key.begin es) in
    along_times a edges (back ++ front) ∙ sum_by-append (times_along a edges) back front ∙ sum_halves (times_along a edges) es key.begin key.first key.end is.begins is.goes_on

-- ---- sums by parts

picked_sum : (n p : ℕ) (f g : ℕ → ℕ) (es : List ℕ) → All (λ e. f e ≡ p) es → cond (nat_eq p n) (sum_by g es) 0 ≡ sum_by (λ (e : ℕ). cond (nat_eq (f e) n) (g e) 0) es
picked_sum n p f g es h = go (nat_eq p n) ∙ sym (sum_by_same (λ (e : ℕ). cond (nat_eq (f e) n) (g e) 0) (λ (e : ℕ). cond (nat_eq p n) (g e) 0) es (λ e c. ap (λ (q : ℕ). cond (nat_eq q n) (g e) 0) (All-contains (λ (k : ℕ). f k ≡ p) es e h c)))
  where
    go : (b : Bool) → cond b (sum_by g es) 0 ≡ sum_by (λ (e : ℕ). cond b (g e) 0) es
    go true = refl
    go false = sym (sum_by_none (λ (e : ℕ). let z : ℕ = 0 in z) es (λ e c. refl))

module _ (arcs : List Path) (classes numbers : List ℕ) (sides : List Side) (edges : List Edge) (rings : Rings) (keys : List RingKey) (made : AreEdgesOf arcs classes numbers sides edges) (once : HasEachOnce edges rings)
    (tiled : AreTiled 0 rings.spans.items (length rings.edges.items)) (are : All (IsKey rings) keys) (parts_are : All (λ (key : RingKey). All (λ e. (edge_at edges e).part ≡ key.part) (take (key.end - key.begin) (drop key.begin rings.edges.items))) keys)
    (keys_once : (g : ℕ → ℕ) → sum_by (along_key g rings) keys ≡ sum_by (along_span g rings) rings.spans.items) where
  -- the rings of the keys of a part go along the arcs of the sides of its number
  pub polygon_sum : (n : ℕ) (a : SignedArc) → times_round a (map (path_along edges rings) (keys_of_part keys n)) ≡ sum_by (λ (s : Side). cond (nat_eq (number_at classes numbers s.place) n) (once_if (same_arc a s.arc)) 0) sides
  polygon_sum n a =
      sum_by-map (times a) (path_along edges rings) (keys_of_part keys n)
      ∙ sum_by-filter (λ (key : RingKey). nat_eq key.part n) (λ (key : RingKey). times a (path_along edges rings key)) keys
      ∙ sum_by_same (λ (key : RingKey). cond (nat_eq key.part n) (times a (path_along edges rings key)) 0) (along_key along rings) keys (λ key c.
      ap (λ (m : ℕ). cond (nat_eq key.part n) m 0) (path_times a edges rings key (All-contains (IsKey rings) keys key are c))
      ∙ picked_sum n key.part (λ e. (edge_at edges e).part) (times_along a edges) (take (key.end - key.begin) (drop key.begin rings.edges.items))
      (All-contains (λ (k : RingKey). All (λ e. (edge_at edges e).part ≡ k.part) (take (k.end - k.begin) (drop k.begin rings.edges.items))) keys key parts_are c))
      ∙ keys_once along
      ∙ sum_tiled along rings.edges.items 0 rings.spans.items tiled
      ∙ once (λ (e : Edge). cond (nat_eq e.part n) (once_if (same_arc a e.arc)) 0)
      ∙ sum_by-IsPermutation by_edge (map (edge_of arcs classes numbers) sides) edges made
      ∙ sum_by-map by_edge (edge_of arcs classes numbers) sides
    where
      along : ℕ → ℕ
      along e = cond (nat_eq (edge_at edges e).part n) (times_along a edges e) 0

      by_edge : Edge → ℕ
      by_edge e = cond (nat_eq e.part n) (once_if (same_arc a e.arc)) 0

-- ---- parts with a boundary

chosen : {X Y : Type 0} (P : X → Y → Type 0) (xs : List X) → ((x : X) → Contains xs x → (y : Y) × P x y) → (ys : List Y) × (length ys ≡ length xs) × ((k : ℕ) (d : X) (e : Y) → k < length xs → P (get_or xs k d) (get_or ys k e))
chosen P [] h = ([], refl, λ k d e l. absurd (omega arith))
chosen P (x ∷ xs) h =
    let (y, p) = h x (0, omega arith, refl) in
    let (ys, same, rest) = chosen P xs (λ z c. h z (suc c.0, (let l = c.1 in omega arith), c.2)) in
    (y ∷ ys, (let e : length (y ∷ ys) ≡ length (x ∷ xs) = omega arith in e), λ k d e l. at y p ys rest k d e l)
  where
    at : (y : _) → P x y → (ys : List _) → ((k : ℕ) (d : _) (e : _) → k < length xs → P (get_or xs k d) (get_or ys k e)) → (k : ℕ) (d : _) (e : _) → k < length (x ∷ xs) → P (get_or (x ∷ xs) k d) (get_or (y ∷ ys) k e)
    at y p ys rest zero d e l = p
    at y p ys rest (suc k) d e l = rest k d e (omega arith)

least_listed : (xs : List SignedArc) → 0 < length xs → (a : SignedArc) × Contains xs a × ((b : SignedArc) → Contains xs b → a.arc ≤ b.arc)
least_listed [] l = absurd (omega arith)
least_listed (x ∷ []) l = (
  x,
  Contains-head x [],
  λ b c. elim (Contains-cases x [] b c) [
    | inl e ↦ (let f : x.arc ≡ b.arc = ap (λ (y : SignedArc). y.arc) e in omega arith)
    | inr d ↦ Contains-nil b d
  ],
)
least_listed (x ∷ y ∷ ys) l =
    let (a, there, low) = least_listed (y ∷ ys) (omega arith) in
    elim (cases_lt x.arc a.arc) [
      | inl less ↦ (
        x,
        Contains-head x (y ∷ ys),
        λ b c. elim (Contains-cases x (y ∷ ys) b c) [
          | inl e ↦ (let f : x.arc ≡ b.arc = ap (λ (z : SignedArc). z.arc) e in omega arith)
          | inr d ↦ (let r = low b d in omega arith)
        ],
      )
      | inr more ↦ (
        a,
        Contains-later x (y ∷ ys) a there,
        λ b c. elim (Contains-cases x (y ∷ ys) b c) [
          | inl e ↦ (let f : x.arc ≡ b.arc = ap (λ (z : SignedArc). z.arc) e in omega arith)
          | inr d ↦ low b d
        ],
      )
    ]

module _ (faces : FaceTable) (many : ℕ) (size : length faces.places ≡ 2 * many + 1) where
  abbrev of_boundary : List ℕ → SignedArc → Bool
  of_boundary set a = has nat_eq set (face_left_of faces.places a) && is_outward faces.places set a

  listed_boundary : (set : List ℕ) (a : SignedArc) → IsOnBoundary faces set a → Contains (boundary faces.places many set) a
  listed_boundary set a b =
      let (low, rest) = and_parts (nat_lt a.arc many) (of_boundary set a) (test_of faces many set a size b) in
      Contains-filter (of_boundary set) (signed_below many) a (Contains-signed_below many a (ltb-true a.arc many low)) rest

  on_boundary : (set : List ℕ) (a : SignedArc) → Contains (boundary faces.places many set) a → IsOnBoundary faces set a
  on_boundary set a c =
      let (there, rest) = filter-Contains (of_boundary set) (signed_below many) a c in
      of_test faces many set a size (and_from (nat_lt a.arc many) (of_boundary set a) (lt-ltb a.arc many (below_arc many a there)) rest)

  abbrev has_boundary : List ℕ → Bool
  has_boundary set = nat_lt 0 (length (boundary faces.places many set))

  bounded_least : (set : List ℕ) → has_boundary set ≡ true → (m : ℕ) × IsLeastArc faces set m
  bounded_least set e =
      let (a, there, low) = least_listed (boundary faces.places many set) (ltb-true 0 (length (boundary faces.places many set)) e) in (
        a.arc,
        record { used = (a, on_boundary set a there, refl); least = λ b on. low b (listed_boundary set b on) },
      )

  is_bounded : (set : List ℕ) (a : SignedArc) → IsOnBoundary faces set a → has_boundary set ≡ true
  is_bounded set a b = let (k, l, e) = listed_boundary set a b in lt-ltb 0 (length (boundary faces.places many set)) (omega arith)

some_ring : (a : SignedArc) (path : RingKey → List SignedArc) (ks : List RingKey) → times_round a (map path ks) ≡ 1 → (key : RingKey) × Contains ks key
some_ring a path [] e = absurd (omega arith)
some_ring a path (k ∷ ks) e = (k, Contains-head k ks)

-- ---- the polygons

module _ (arcs : List Path) (faces : FaceTable) (inside classes numbers : List ℕ) (sides : List Side) (edges : List Edge) (rings : Rings) (keys : List RingKey) (size : length faces.places ≡ 2 * length arcs + 1) (up : IsStrictlyIncreasing inside)
    (each : length classes ≡ length inside) (each_number : length numbers ≡ length classes) (are_classes : AreClasses classes) (joined : AreJoinedBy faces inside classes) (are_least : AreLeastNumbers classes sides numbers)
    (are_sides : sides ≡ sides_of faces.places (length arcs) inside) (sides_are : AreSidesOf faces inside sides) (made : AreEdgesOf arcs classes numbers sides edges) (once : HasEachOnce edges rings)
    (tiled : AreTiled 0 rings.spans.items (length rings.edges.items)) (below : All (λ k. k < length edges) rings.edges.items) (are : All (IsKey rings) keys) (first : All (IsLeastFirst edges rings) keys)
    (parts_are : All (λ (key : RingKey). All (λ e. (edge_at edges e).part ≡ key.part) (take (key.end - key.begin) (drop key.begin rings.edges.items))) keys)
    (keys_once : (g : ℕ → ℕ) → sum_by (along_key g rings) keys ≡ sum_by (along_span g rings) rings.spans.items) (polygons : List (List (List SignedArc))) (g : AreByPart edges rings keys polygons)
    (parts : List (List ℕ)) (are_parts : AreParts faces inside parts) where
  abbrev kept : List (List ℕ)
  kept = bounded faces.places (length arcs) parts

  abbrev with_boundary : List ℕ → Bool
  with_boundary set = has_boundary faces (length arcs) size set

  leasts : (ys : List ℕ) × (length ys ≡ length kept) × ((k : ℕ) (d : List ℕ) (e : ℕ) → k < length kept → IsLeastArc faces (get_or kept k d) (get_or ys k e))
  leasts = chosen (IsLeastArc faces) kept (λ set c. bounded_least faces (length arcs) size set (filter-Contains with_boundary parts set c).1)

  abbrev list : List ℕ
  list = leasts.0

  count : length list ≡ length kept
  count = leasts.1

  -- where a part with a boundary stands among all parts
  part_at : (k : ℕ) → k < length kept → (i : ℕ) × (i < length parts) × (get_or parts i [] ≡ get_or kept k [])
  part_at k l =
      let (i, m, e) = (filter-Contains with_boundary parts (get_or kept k []) (Contains-get_or kept k [] l)).0 in
      (i, m, get_or_default parts i [] (get_or kept k []) m ∙ e)

  least_at : (k i : ℕ) → k < length kept → get_or parts i [] ≡ get_or kept k [] → IsLeastArc faces (get_or parts i []) (get_or list k 0)
  least_at k i l e = subst (λ (set : List ℕ). IsLeastArc faces set (get_or list k 0)) (sym e) (leasts.2 k [] 0 l)

  abbrev StandBefore : List ℕ → List ℕ → Type 0
  StandBefore p q = (m n : ℕ) → IsLeastArc faces p m → IsLeastArc faces q n → m < n

  in_order : AllPairs StandBefore kept
  in_order = AllPairs-filter StandBefore with_boundary parts (λ i j d less l m n a b.
      are_parts.in_order i j m n less l (subst (λ (set : List ℕ). IsLeastArc faces set m) (get_or_default parts i d [] (omega arith)) a) (subst (λ (set : List ℕ). IsLeastArc faces set n) (get_or_default parts j d [] l) b))

  rising : IsStrictlyIncreasing list
  rising k l =
      let c = count in
      in_order k (k + 1) [] (omega arith) (omega arith) (get_or list k 0) (get_or list (k + 1) 0) (leasts.2 k [] 0 (omega arith)) (leasts.2 (k + 1) [] 0 (omega arith))

  sum_is : (n : ℕ) (a : SignedArc) → times_round a (map (path_along edges rings) (keys_of_part keys n)) ≡ sum_by (λ (s : Side). cond (nat_eq (number_at classes numbers s.place) n) (once_if (same_arc a s.arc)) 0) sides
  sum_is n a = polygon_sum arcs classes numbers sides edges rings keys made once tiled are parts_are keys_once n a

  used : (i m : ℕ) (a : SignedArc) → i < length parts → IsLeastArc faces (get_or parts i []) m → times_round a (map (path_along edges rings) (keys_of_part keys m)) ≡ once_if (is_of_boundary faces.places (length arcs) (get_or parts i []) a)
  used i m a l least = sum_is m a ∙ part_sum faces (length arcs) inside classes numbers sides parts size up each each_number are_classes joined are_least are_sides sides_are are_parts i m a l least

  -- the number of a part that has rings is the least number of its arcs
  listed : (n : ℕ) → Contains g.numbers n → Contains list n
  listed n c =
      let (key, there, part) = g.used n c in
      let least = All-contains (IsLeastFirst edges rings) keys key first there in
      let is = All-contains (IsKey rings) keys key are there in
      let within = is.within in
      let some = least.some in
      let x = get_or rings.edges.items key.first 0 in
      let x_there : x < length edges = below key.first 0 (omega arith) in
      let edge_there : Contains (map (edge_of arcs classes numbers) sides) (edge_at edges x) =
      Contains-permutation edges (map (edge_of arcs classes numbers) sides) (edge_at edges x) (IsPermutation-sym (map (edge_of arcs classes numbers) sides) edges made) (Contains-get_or edges x (edge_at [] 0) x_there) in
      let (s, s_there, s_is) = map-Contains (edge_of arcs classes numbers) sides (edge_at edges x) edge_there in
      let number : number_at classes numbers s.place ≡ n = ap (λ (e : Edge). e.part) s_is ∙ sym least.part ∙ part in
      let on = (sides_are.each s s_there).2 in
      let (i, l, left) = are_parts.divided.each (face_left_of faces.places s.arc) on.left in
      let set = get_or parts i [] in
      let on_part : IsOnBoundary faces set s.arc = of_part faces (length arcs) inside classes numbers sides parts size up each each_number are_classes joined are_least are_sides sides_are are_parts i s.arc l on left in
      let (k, m, e) = Contains-filter with_boundary parts set (Contains-get_or parts i [] l) (is_bounded faces (length arcs) size set s.arc on_part) in
      let least_k : IsLeastArc faces set (get_or list k 0) = subst (λ (p : List ℕ). IsLeastArc faces p (get_or list k 0)) e (leasts.2 k set 0 m) in
      let same = number_is faces (length arcs) inside classes numbers sides parts size up each each_number are_classes joined are_least are_sides sides_are are_parts i (get_or list k 0) s l least_k s_there left in
      let n_is : get_or list k 0 ≡ n = sym same ∙ number in
      let within_list : k < length list = (let c = count in omega arith) in
      (k, within_list, get_or_default list k n 0 within_list ∙ n_is)

  reached : (n : ℕ) → Contains list n → Contains g.numbers n
  reached n (k, l, e) =
      let within : k < length kept = (let c = count in omega arith) in
      let (i, m, same) = part_at k within in
      let number : get_or list k 0 ≡ n = get_or_default list k 0 n l ∙ e in
      let least : IsLeastArc faces (get_or parts i []) n = subst (λ (x : ℕ). IsLeastArc faces (get_or parts i []) x) number (least_at k i within same) in
      let a = least.used.0 in
      let one : times_round a (map (path_along edges rings) (keys_of_part keys n)) ≡ 1 = used i n a m least ∙ ap once_if (test_of faces (length arcs) (get_or parts i []) a size least.used.1) in
      let (key, there) = some_ring a (path_along edges rings) (keys_of_part keys n) one in
      let (in_keys, part) = key_of_some keys key n there in
      subst (λ (x : ℕ). Contains g.numbers x) part (g.reached key in_keys)

  same_numbers : g.numbers ≡ list
  same_numbers = one_ascending nat_lt nat_order g.numbers list (to_ascending g.numbers g.rising) (to_ascending list rising) listed reached

  pub parts_used : UseParts faces.places (length arcs) parts polygons
  parts_used = record {
    each = polygons_counted;
    once = λ k a l.
        let within : k < length kept = (let c = polygons_counted in omega arith) in
        let n = get_or g.numbers k 0 in
        let (i, m, same) = part_at k within in
        let number : get_or list k 0 ≡ n = ap (λ (ns : List ℕ). get_or ns k 0) (sym same_numbers) in
        let least : IsLeastArc faces (get_or parts i []) n = subst (λ (x : ℕ). IsLeastArc faces (get_or parts i []) x) number (least_at k i within same) in
        ap (λ (ps : List (List (List SignedArc))). times_round a (get_or ps k [])) g.are
        ∙ ap (times_round a) (get_or-map (λ (x : ℕ). map (path_along edges rings) (keys_of_part keys x)) g.numbers k 0 [] (let c = numbers_counted in omega arith))
        ∙ used i n a m least
        ∙ ap (λ (set : List ℕ). once_if (is_of_boundary faces.places (length arcs) set a)) same;
  }
    where
      numbers_counted : length polygons ≡ length g.numbers
      numbers_counted = ap (λ (ps : List (List (List SignedArc))). length ps) g.are ∙ length-map g.numbers (λ (x : ℕ). map (path_along edges rings) (keys_of_part keys x))

      polygons_counted : length polygons ≡ length kept
      polygons_counted = numbers_counted ∙ ap (λ (ns : List ℕ). length ns) same_numbers ∙ count

-- ---- what holds of each ring

pub rings_all : (P : List SignedArc → Type 0) (edges : List Edge) (rings : Rings) (keys : List RingKey) (polygons : List (List (List SignedArc))) → AreByPart edges rings keys polygons → All (λ (key : RingKey). P (path_along edges rings key)) keys → All (All P) polygons
rings_all P edges rings keys polygons g h =
    subst (λ (ps : List (List (List SignedArc))). All (All P) ps) (sym g.are)
    (All-map (All P) (λ (n : ℕ). map (path_along edges rings) (keys_of_part keys n)) g.numbers
    (λ k d l. All-map P (path_along edges rings) (keys_of_part keys (get_or g.numbers k d)) (All-filter (λ (key : RingKey). nat_eq key.part (get_or g.numbers k d)) (λ (key : RingKey). P (path_along edges rings key)) keys h)))
