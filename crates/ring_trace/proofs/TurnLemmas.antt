-- Rings turned to another first edge, and their signed arcs.
use Rattle.std.proofs.Common.{◌≡◌, ◌⊎◌, inl, inr, refl, sym, ap, ◌∙◌, subst, arith, ℕ, zero, suc, ◌+◌, ◌-◌, ◌<◌, ◌≤◌, false, cond, List, [], ◌∷◌, ◌++◌, length, get_or, take, drop, map, All}
use Rattle.std.proofs.lemmas.Bool.{cases_lt}
use Rattle.std.proofs.lemmas.List.{length-append, length-map, get_or-map, get_or_append_left, get_or-append_right, drop-drop, drop_all, take_all}
use Rattle.std.specs.List.{sum_by}
use Rattle.std.proofs.lemmas.List.Elements.{All-append, All-map, All-take, All-drop}
use Rattle.std.proofs.lemmas.List.Sorted.{All-permutation}
use Rattle.plane_model.specs.Points.{Path}
use Rattle.plane_model.specs.Arcs.{SignedArc}
use Rattle.arc_table.specs.Around.{start_of}
use Rattle.face_sets.specs.declared.joined_faces.Side.{Side}
use Rattle.ring_trace.specs.declared.pairing.Edge.{Edge}
use Rattle.ring_trace.specs.declared.ring_keys.RingKey.{RingKey}
use Rattle.ring_trace.specs.declared.simple_rings.RingSpan.{RingSpan}
use Rattle.ring_trace.specs.declared.simple_rings.Rings.{Rings}
use Rattle.ring_trace.specs.Keys.{IsKey, IsKeyOfSome, arcs_along, path_along}
use Rattle.ring_trace.specs.Traced.{same_arc, times, times_along}
use Rattle.ring_trace.proofs.UsedLemmas.{sum_by-map}
use Rattle.ring_trace.specs.Pairing.{Corner, AreEdgesOf, edge_of, stop_of}
use Rattle.ring_trace.specs.Rings.{edge_at}
use Rattle.ring_trace.specs.Ways.{IsWay, IsSimpleRing, AreRingsByCorners, edges_in, start_at, stop_at}
use Rattle.ring_trace.proofs.WayLemmas.{way_split, way_joined}

-- ---- turned

record IsTurned {E : Type 0} (xs ys : List E) (i : ℕ) (d : E) : Type 0 where
  place : ℕ
  within : place < length (xs ++ ys)
  same : get_or (ys ++ xs) i d ≡ get_or (xs ++ ys) place d
  moved : ((i < length ys) × (place ≡ length xs + i)) ⊎ ((place < length xs) × (i ≡ length ys + place))

turned_place : {E : Type 0} (xs ys : List E) (i : ℕ) (d : E) → i < length (ys ++ xs) → IsTurned xs ys i d
turned_place xs ys i d l =
    let whole = length-append xs ys in
    let other = length-append ys xs in
    elim (cases_lt i (length ys)) [
      | inl less ↦ record {
        place = length xs + i;
        within = omega arith;
        same = get_or_append_left ys xs d i less ∙ sym (get_or-append_right xs ys (length xs) (length xs + i) d refl (omega arith) ∙ ap (λ (k : ℕ). get_or ys k d) (let e : length xs + i - length xs ≡ i = omega arith in e));
        moved = inl (less, refl);
      }
      | inr more ↦ record {
        place = i - length ys;
        within = omega arith;
        same = get_or-append_right ys xs (length ys) i d refl more ∙ sym (get_or_append_left xs ys d (i - length ys) (omega arith));
        moved = inr ((let e : i - length ys < length xs = omega arith in e), (let e : i ≡ length ys + (i - length ys) = omega arith in e));
      }
    ]

module _ {E V : Type 0} (start stop : E → V) where
  pub turned_ring : (xs ys : List E) → IsSimpleRing start stop (xs ++ ys) → IsSimpleRing start stop (ys ++ xs)
  turned_ring xs ys h =
      let (u, a, b) = way_split start stop h.at h.at xs ys h.way in
      record {
        at = u;
        way = way_joined start stop u h.at u ys xs b a;
        apart = λ i j d l m e.
            let p = turned_place xs ys i d l in
            let q = turned_place xs ys j d m in
            let same : p.place ≡ q.place = h.apart p.place q.place d p.within q.within (ap start (sym p.same) ∙ e ∙ ap start q.same) in
            elim p.moved [
              | inl low ↦ (let a = low.0 in let b = low.1 in elim q.moved [
                | inl lower ↦ (let c = lower.1 in omega arith)
                | inr higher ↦ (let c = higher.0 in absurd (omega arith))
              ])
              | inr high ↦ (let a = high.0 in let b = high.1 in elim q.moved [
                | inl lower ↦ (let c = lower.1 in absurd (omega arith))
                | inr higher ↦ (let c = higher.1 in omega arith)
              ])
            ];
      }

-- two parts of a span
take_parts : {E : Type 0} (xs : List E) (n m : ℕ) → take n xs ++ take m (drop n xs) ≡ take (n + m) xs
take_parts xs zero m = ap (λ (k : ℕ). take k xs) (let e : m ≡ 0 + m = omega arith in e)
take_parts [] (suc n) m = (λ i. take m (drop_all (suc n) [] (omega arith) i)) ∙ take_all m [] (omega arith) ∙ sym (take_all (suc n + m) [] (omega arith))
take_parts (x ∷ xs) (suc n) m = ap (λ (ys : List _). x ∷ ys) (take_parts xs n m) ∙ ap (λ (k : ℕ). take k (x ∷ xs)) (let e : suc (n + m) ≡ suc n + m = omega arith in e)

pub span_halves : {E : Type 0} (xs : List E) (begin first end : ℕ) → begin ≤ first → first ≤ end → take (first - begin) (drop begin xs) ++ take (end - first) (drop first xs) ≡ take (end - begin) (drop begin xs)
span_halves xs begin first end l m =
    let rest : drop first xs ≡ drop (first - begin) (drop begin xs) = sym (drop-drop (first - begin) begin xs ∙ ap (λ (n : ℕ). drop n xs) (let e : begin + (first - begin) ≡ first = omega arith in e)) in
    ap (λ (ys : List _). take (first - begin) (drop begin xs) ++ take (end - first) ys) rest
    ∙ take_parts (drop begin xs) (first - begin) (end - first)
    ∙ ap (λ (n : ℕ). take n (drop begin xs)) (let e : first - begin + (end - first) ≡ end - begin = omega arith in e)

-- ---- the signed arcs of edges

abbrev pub arc_at : List Edge → ℕ → SignedArc
arc_at edges k = (edge_at edges k).arc

pub along_below : (n : ℕ) (edges : List Edge) (ring : List ℕ) → All (λ k. k < length edges) ring → All (λ (e : Edge). e.arc.arc < n) edges → All (λ (a : SignedArc). a.arc < n) (arcs_along edges ring)
along_below n edges ring below there = All-map (λ (a : SignedArc). a.arc < n) (arc_at edges) ring (λ k d l. there (get_or ring k d) (edge_at [] 0) (below k d l))

pub along_times : (a : SignedArc) (edges : List Edge) (ring : List ℕ) → times a (arcs_along edges ring) ≡ sum_by (times_along a edges) ring
along_times a edges ring = sum_by-map (λ (y : SignedArc). cond (same_arc a y) 1 0) (arc_at edges) ring

pub made_starts : (arcs : List Path) (classes numbers : List ℕ) (sides : List Side) (edges : List Edge) → AreEdgesOf arcs classes numbers sides edges → All (λ (e : Edge). e.start ≡ start_of arcs e.arc) edges
made_starts arcs classes numbers sides edges made =
    let f : Side → Edge = edge_of arcs classes numbers in
    let none : Side = record { place = 0; arc = record { arc = 0; is_reversed = false } } in
    let size = length-map sides f in
    All-permutation (λ (e : Edge). e.start ≡ start_of arcs e.arc) (map f sides) edges made
    (λ k d l. subst (λ (e : Edge). e.start ≡ start_of arcs e.arc) (sym (get_or-map f sides k none d (omega arith))) refl)

module _ (arcs : List Path) (edges : List Edge) (starts : All (λ (e : Edge). e.start ≡ start_of arcs e.arc) edges) where
  path_way : (c d : Corner) (es : List ℕ) → All (λ k. k < length edges) es → IsWay (start_at edges) (stop_at arcs edges) c es d → IsWay (start_of arcs) (stop_of arcs) c.point (map (arc_at edges) es) d.point
  path_way c d [] below h = ap (λ (v : Corner). v.point) h
  path_way c d (e ∷ es) below h = (
    sym (starts e (edge_at [] 0) (below 0 e (omega arith))) ∙ ap (λ (v : Corner). v.point) h.0,
    path_way (stop_at arcs edges e) d es (λ k o m. below (suc k) o (omega arith)) h.1,
  )

  pub same_part : (c d : Corner) (es : List ℕ) → IsWay (start_at edges) (stop_at arcs edges) c es d → (k o : ℕ) → k < length es → (edge_at edges (get_or es k o)).part ≡ c.part
  same_part c d [] h k o l = absurd (omega arith)
  same_part c d (e ∷ es) h zero o l = ap (λ (v : Corner). v.part) h.0
  same_part c d (e ∷ es) h (suc k) o l = same_part (stop_at arcs edges e) d es h.1 k o (omega arith) ∙ ap (λ (v : Corner). v.part) h.0

  pub path_ring : (ring : List ℕ) → All (λ k. k < length edges) ring → IsSimpleRing (start_at edges) (stop_at arcs edges) ring → IsSimpleRing (start_of arcs) (stop_of arcs) (map (arc_at edges) ring)
  path_ring ring below h = record {
    at = h.at.point;
    way = path_way h.at h.at ring below h.way;
    apart = λ i j d l m e.
        let size = length-map ring (arc_at edges) in
        let li : i < length ring = omega arith in
        let lj : j < length ring = omega arith in
        let point : (edge_at edges (get_or ring i 0)).start ≡ (edge_at edges (get_or ring j 0)).start =
        starts (get_or ring i 0) (edge_at [] 0) (below i 0 li)
        ∙ sym (ap (start_of arcs) (get_or-map (arc_at edges) ring i 0 d li)) ∙ e ∙ ap (start_of arcs) (get_or-map (arc_at edges) ring j 0 d lj)
        ∙ sym (starts (get_or ring j 0) (edge_at [] 0) (below j 0 lj)) in
        let part : (edge_at edges (get_or ring i 0)).part ≡ (edge_at edges (get_or ring j 0)).part =
        same_part h.at h.at ring h.way i 0 li ∙ sym (same_part h.at h.at ring h.way j 0 lj) in
        h.apart i j 0 li lj (λ z. record { part = part z; point = point z });
  }

-- the ring of a key
pub keyed_ring : (arcs : List Path) (edges : List Edge) (rings : Rings) (key : RingKey) → All (λ (e : Edge). e.start ≡ start_of arcs e.arc) edges → All (λ k. k < length edges) rings.edges.items → AreRingsByCorners arcs edges rings →
    IsKey rings key → IsKeyOfSome rings.spans.items key → IsSimpleRing (start_of arcs) (stop_of arcs) (path_along edges rings key)
keyed_ring arcs edges rings key starts below h is of_span =
    let es = rings.edges.items in
    let some = of_span.listed in
    let span : IsSimpleRing (start_at edges) (stop_at arcs edges) (edges_in es of_span.span) =
    subst (λ (s : RingSpan). IsSimpleRing (start_at edges) (stop_at arcs edges) (edges_in es s)) some.2 (h some.0 of_span.span some.1) in
    let front : List ℕ = take (key.first - key.begin) (drop key.begin es) in
    let back : List ℕ = take (key.end - key.first) (drop key.first es) in
    let whole : front ++ back ≡ edges_in es of_span.span =
    span_halves es key.begin key.first key.end is.begins is.goes_on ∙ (λ i. take (of_span.ends i - of_span.begins i) (drop (of_span.begins i) es)) in
    path_ring arcs edges starts (back ++ front)
    (All-append (λ k. k < length edges) back front
    (All-take (λ k. k < length edges) (key.end - key.first) (drop key.first es) (All-drop (λ k. k < length edges) key.first es below))
    (All-take (λ k. k < length edges) (key.first - key.begin) (drop key.begin es) (All-drop (λ k. k < length edges) key.begin es below)))
    (turned_ring (start_at edges) (stop_at arcs edges) front back (subst (IsSimpleRing (start_at edges) (stop_at arcs edges)) (sym whole) span))
