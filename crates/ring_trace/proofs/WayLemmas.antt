-- Ways put together and taken apart; closed ways of spans.
use Rattle.std.proofs.Common.{◌≡◌, inl, inr, refl, sym, ap, ◌∙◌, subst, arith, ℕ, zero, suc, ◌+◌, ◌-◌, ◌<◌, ◌≤◌, Bool, true, false, nat_eq, List, [], ◌∷◌, ◌++◌, length, get_or, set, take, drop, map, reverse, All, Contains, append_assoc, append-nil}
use Rattle.std.specs.List.{count_by}
use Rattle.std.proofs.lemmas.Bool.{cases_eq, cases_lt, eq-eqb, ne_eqb, eqb-true}
use Rattle.std.proofs.lemmas.List.{map_push, map-append, length-map, get_or-map, get_or-set_same, get_or-set_other, take_all, drop_all, take-append-le, drop-append-le, drop_at, length-drop, reverse-append}
use Rattle.std.proofs.lemmas.List.Elements.{All-push, All-nil, All-cons, Contains-push_cases}
use Rattle.std.proofs.lemmas.List.Sums.{sum_by-cons, sum_by-append, sum_by_push}
use Rattle.lists.proofs.Members.{Contains-head, Contains-later}
use Rattle.ring_trace.specs.declared.simple_rings.RingSpan.{RingSpan}
use Rattle.ring_trace.specs.Rings.{AreTiled}
use Rattle.ring_trace.specs.Ways.{IsWay, IsSimpleRing, AreSimpleRings, AreMarked, edges_in, start_in, stop_in, times_at}
use Rattle.ring_trace.proofs.SortedLists.{tick}
use Rattle.ring_trace.proofs.PairLemmas.{two_counted}

module _ {E V : Type 0} (start stop : E → V) where
  pub way_split : (v w : V) (xs ys : List E) → IsWay start stop v (xs ++ ys) w → (u : V) × IsWay start stop v xs u × IsWay start stop u ys w
  way_split v w [] ys h = (v, refl, h)
  way_split v w (x ∷ xs) ys h = let (u, a, b) = way_split (stop x) w xs ys h.1 in (u, (h.0, a), b)

  pub way_joined : (v u w : V) (xs ys : List E) → IsWay start stop v xs u → IsWay start stop u ys w → IsWay start stop v (xs ++ ys) w
  way_joined v u w [] ys a b = subst (λ (z : V). IsWay start stop z ys w) (sym a) b
  way_joined v u w (x ∷ xs) ys a b = (a.0, way_joined (stop x) u w xs ys a.1 b)

  pub way_push : (v : V) (xs : List E) (e : E) → IsWay start stop v xs (start e) → IsWay start stop v (xs ++ e ∷ []) (stop e)
  way_push v xs e h = way_joined v (start e) (stop e) xs (e ∷ []) h (refl, refl)

  -- a way to a vertex, cut where it starts there
  pub way_cut : (v w : V) (xs : List E) (e : E) (ys : List E) → IsWay start stop v (xs ++ (e ∷ ys)) w → start e ≡ w → IsWay start stop v xs w × IsWay start stop w (e ∷ ys) w
  way_cut v w xs e ys h same =
      let (u, a, b) = way_split v w xs (e ∷ ys) h in
      let is : u ≡ w = sym b.0 ∙ same in
      (subst (λ (z : V). IsWay start stop v xs z) is a, subst (λ (z : V). IsWay start stop z (e ∷ ys) w) is b)

-- ---- marks

tick_small : (b : Bool) → tick b ≤ 1
tick_small true = omega arith
tick_small false = omega arith

pub tick_none : (b : Bool) → tick b ≡ 0 → b ≡ false
tick_none true e = absurd (omega arith)
tick_none false e = refl

times_push : (vertices : List ℕ) (v : ℕ) (way : List ℕ) (e : ℕ) → times_at vertices v (way ++ e ∷ []) ≡ times_at vertices v way + tick (nat_eq v (start_in vertices e))
times_push vertices v way e = ap (count_by (nat_eq v)) (map_push (start_in vertices) way e) ∙ sum_by_push (λ (x : ℕ). tick (nat_eq v x)) (map (start_in vertices) way) (start_in vertices e)

pub marks_pushed : (vertices : List ℕ) (is_passed : List Bool) (way : List ℕ) (e : ℕ) → start_in vertices e < length is_passed → get_or is_passed (start_in vertices e) false ≡ false →
    AreMarked vertices is_passed way → AreMarked vertices (set is_passed (start_in vertices e) true) (way ++ e ∷ [])
marks_pushed vertices is_passed way e l free h v = elim (cases_eq v (start_in vertices e)) [
  | inl same ↦
      (let p = times_push vertices v way e in
      let t : tick (nat_eq v (start_in vertices e)) ≡ 1 = ap tick (eq-eqb v (start_in vertices e) same) in
      let old : times_at vertices v way ≡ 0 = h v ∙ ap tick (ap (λ (u : ℕ). get_or is_passed u false) same ∙ free) in
      let now : tick (get_or (set is_passed (start_in vertices e) true) v false) ≡ 1 = ap tick (ap (λ (u : ℕ). get_or (set is_passed (start_in vertices e) true) u false) same ∙ get_or-set_same is_passed (start_in vertices e) true false l) in
      omega arith)
  | inr other ↦
      (let p = times_push vertices v way e in
      let t : tick (nat_eq v (start_in vertices e)) ≡ 0 = ap tick (ne_eqb v (start_in vertices e) other) in
      let old : times_at vertices v way ≡ tick (get_or is_passed v false) = h v in
      let now : tick (get_or (set is_passed (start_in vertices e) true) v false) ≡ tick (get_or is_passed v false) = ap tick (get_or-set_other is_passed (start_in vertices e) v true false other) in
      omega arith)
]

pub marks_popped : (vertices : List ℕ) (is_passed : List Bool) (way : List ℕ) (e : ℕ) → start_in vertices e < length is_passed → AreMarked vertices is_passed (way ++ e ∷ []) → AreMarked vertices (set is_passed (start_in vertices e) false) way
marks_popped vertices is_passed way e l h v = elim (cases_eq v (start_in vertices e)) [
  | inl same ↦
      (let p = times_push vertices v way e in
      let t : tick (nat_eq v (start_in vertices e)) ≡ 1 = ap tick (eq-eqb v (start_in vertices e) same) in
      let old : times_at vertices v (way ++ e ∷ []) ≡ tick (get_or is_passed v false) = h v in
      let small = tick_small (get_or is_passed v false) in
      let now : tick (get_or (set is_passed (start_in vertices e) false) v false) ≡ 0 = ap tick (ap (λ (u : ℕ). get_or (set is_passed (start_in vertices e) false) u false) same ∙ get_or-set_same is_passed (start_in vertices e) false false l) in
      omega arith)
  | inr other ↦
      (let p = times_push vertices v way e in
      let t : tick (nat_eq v (start_in vertices e)) ≡ 0 = ap tick (ne_eqb v (start_in vertices e) other) in
      let old : times_at vertices v (way ++ e ∷ []) ≡ tick (get_or is_passed v false) = h v in
      let now : tick (get_or (set is_passed (start_in vertices e) false) v false) ≡ tick (get_or is_passed v false) = ap tick (get_or-set_other is_passed (start_in vertices e) v false false other) in
      omega arith)
]

counted_on : (v : ℕ) (xs : List ℕ) → 0 < count_by (nat_eq v) xs → Contains xs v
counted_on v [] l = absurd (omega arith)
counted_on v (x ∷ xs) l = go (nat_eq v x) refl (counted_on v xs)
  where
    go : (b : Bool) → nat_eq v x ≡ b → (0 < count_by (nat_eq v) xs → Contains xs v) → Contains (x ∷ xs) v
    go true e rest = subst (λ (y : ℕ). Contains (x ∷ xs) y) (sym (eqb-true v x e)) (Contains-head x xs)
    go false e rest =
        let c : count_by (nat_eq v) (x ∷ xs) ≡ tick (nat_eq v x) + count_by (nat_eq v) xs = sum_by-cons (λ (y : ℕ). tick (nat_eq v y)) x xs in
        let d : tick (nat_eq v x) ≡ 0 = ap tick e in
        Contains-later x xs v (rest (omega arith))

pub marked_on : (vertices : List ℕ) (is_passed : List Bool) (way : List ℕ) (v : ℕ) → AreMarked vertices is_passed way → get_or is_passed v false ≡ true → Contains (map (start_in vertices) way) v
marked_on vertices is_passed way v h on = counted_on v (map (start_in vertices) way) (let e : times_at vertices v way ≡ 1 = h v ∙ ap tick on in omega arith)

-- marks on nothing
pub none_marked : (is_passed : List Bool) → ((i : ℕ) → i < length is_passed → get_or is_passed i false ≡ false) → (v : ℕ) → get_or is_passed v false ≡ false
none_marked [] h v = refl
none_marked (b ∷ bs) h zero = h 0 (omega arith)
none_marked (b ∷ bs) h (suc v) = none_marked bs (λ i l. h (suc i) (omega arith)) v

-- ---- each vertex once

-- at no vertex of a marked way more than one edge of a part of it starts
pub part_once : (vertices : List ℕ) (is_passed : List Bool) (way ring before : List ℕ) → way ++ ring ≡ before → AreMarked vertices is_passed before → (v : ℕ) → times_at vertices v ring ≤ 1
part_once vertices is_passed way ring before whole h v =
    let a : times_at vertices v (way ++ ring) ≡ times_at vertices v way + times_at vertices v ring =
    ap (count_by (nat_eq v)) (map-append (start_in vertices) way ring) ∙ sum_by-append (λ (x : ℕ). tick (nat_eq v x)) (map (start_in vertices) way) (map (start_in vertices) ring) in
    let b : times_at vertices v (way ++ ring) ≡ times_at vertices v before = ap (times_at vertices v) whole in
    let c : times_at vertices v before ≡ tick (get_or is_passed v false) = h v in
    let small = tick_small (get_or is_passed v false) in
    omega arith

pub starts_apart : (vertices ring : List ℕ) → ((v : ℕ) → times_at vertices v ring ≤ 1) → (i j d : ℕ) → i < length ring → j < length ring → start_in vertices (get_or ring i d) ≡ start_in vertices (get_or ring j d) → i ≡ j
starts_apart vertices ring once i j d l m e =
    let size = length-map ring (start_in vertices) in
    let v = start_in vertices (get_or ring j d) in
    let at_i : get_or (map (start_in vertices) ring) i 0 ≡ v = get_or-map (start_in vertices) ring i d 0 l ∙ e in
    let at_j : get_or (map (start_in vertices) ring) j 0 ≡ v = get_or-map (start_in vertices) ring j d 0 m in
    let few = once v in
    elim (cases_lt i j) [
      | inl less ↦ (let two = two_counted v (map (start_in vertices) ring) i j less (omega arith) at_i at_j in absurd (omega arith))
      | inr more ↦ elim (cases_lt j i) [
        | inl less ↦ (let two = two_counted v (map (start_in vertices) ring) j i less (omega arith) at_j at_i in absurd (omega arith))
        | inr other ↦ (omega arith)
      ]
    ]

-- one edge more on the way
pub gone_along : (onward vertices o v : List ℕ) (from vertex edge : ℕ) (way new : List ℕ) (passed : List Bool) → o ≡ onward → v ≡ vertices → new ≡ way ++ edge ∷ [] → vertex ≡ start_in vertices edge → vertex < length passed → get_or passed vertex false ≡ false →
    IsWay (start_in vertices) (stop_in onward vertices) from way vertex → AreMarked vertices passed way → IsWay (start_in v) (stop_in o v) from new (stop_in onward vertices edge) × AreMarked v (set passed vertex true) new
gone_along onward vertices o v from vertex edge way new passed same_onward same_vertices items is small free leads marks = (
  subst (λ (z : List ℕ). IsWay (start_in z) (stop_in o z) from new (stop_in onward vertices edge)) (sym same_vertices)
      (subst (λ (y : List ℕ). IsWay (start_in vertices) (stop_in y vertices) from new (stop_in onward vertices edge)) (sym same_onward)
      (subst (λ (xs : List ℕ). IsWay (start_in vertices) (stop_in onward vertices) from xs (stop_in onward vertices edge)) (sym items)
      (way_push (start_in vertices) (stop_in onward vertices) from way edge (subst (λ (x : ℕ). IsWay (start_in vertices) (stop_in onward vertices) from way x) is leads)))),
  subst (λ (z : List ℕ). AreMarked z (set passed vertex true) new) (sym same_vertices)
      (subst (λ (xs : List ℕ). AreMarked vertices (set passed vertex true) xs) (sym items)
      (subst (λ (x : ℕ). AreMarked vertices (set passed x true) (way ++ edge ∷ [])) (sym is) (marks_pushed vertices passed way edge (let l : start_in vertices edge < length passed = omega arith in l) (ap (λ (x : ℕ). get_or passed x false) (sym is) ∙ free) marks))),
)

-- another vertex than the one of the edge that is taken away is still on the way
pub still_on : (vertices way : List ℕ) (e v : ℕ) → Contains (map (start_in vertices) (way ++ e ∷ [])) v → (start_in vertices e ≡ v → ⊥) → Contains (map (start_in vertices) way) v
still_on vertices way e v c other = elim (Contains-push_cases (map (start_in vertices) way) (start_in vertices e) v (subst (λ (xs : List ℕ). Contains xs v) (map_push (start_in vertices) way e) c)) [
  | inl d ↦ d
  | inr same ↦ absurd (other same)
]

-- ---- edges moved from the way to the rings

pub record IsMoved (begin : ℕ) (before kept edges way : List ℕ) : Type 0 where
  pub front : take begin edges ≡ kept
  pub back : way ++ reverse (drop begin edges) ≡ before

pub none_moved : (way edges : List ℕ) → IsMoved (length edges) way edges edges way
none_moved way edges = record {
  front = take_all (length edges) edges (omega arith);
  back = ap (λ (xs : List ℕ). way ++ reverse xs) (drop_all (length edges) edges (omega arith)) ∙ append-nil way;
}

pub moved_back : (begin : ℕ) (edges : List ℕ) (e : ℕ) → begin ≤ length edges → reverse (drop begin (edges ++ e ∷ [])) ≡ e ∷ reverse (drop begin edges)
moved_back begin edges e l = ap reverse (drop-append-le begin edges (e ∷ []) l) ∙ reverse-append (drop begin edges) (e ∷ [])

pub moved_more : (begin : ℕ) (before front edges new way rest : List ℕ) (e : ℕ) → begin ≤ length edges → new ≡ edges ++ e ∷ [] → way ≡ rest ++ e ∷ [] → IsMoved begin before front edges way → IsMoved begin before front new rest
moved_more begin before front edges new way rest e l items popped h = record {
  front = ap (take begin) items ∙ take-append-le begin edges (e ∷ []) l ∙ h.front;
  back =
      ap (λ (xs : List ℕ). rest ++ reverse (drop begin xs)) items
      ∙ ap (λ (xs : List ℕ). rest ++ xs) (moved_back begin edges e l)
      ∙ sym (append_assoc rest (e ∷ []) (reverse (drop begin edges)))
      ∙ ap (λ (xs : List ℕ). xs ++ reverse (drop begin edges)) (sym popped)
      ∙ h.back;
}

-- ---- rings by spans

tiled_on : (from end : ℕ) (spans : List RingSpan) → AreTiled from spans end → from ≤ end
tiled_on from end [] h = (let e : from ≡ end = h in omega arith)
tiled_on from end (s ∷ spans) h = (let a = h.0 in let b = h.1 in let r = tiled_on s.end end spans h.2 in omega arith)

pub tiled_within : (from end : ℕ) (spans : List RingSpan) → AreTiled from spans end → All (λ (s : RingSpan). (s.begin ≤ s.end) × (s.end ≤ end)) spans
tiled_within from end [] h = All-nil (λ (s : RingSpan). (s.begin ≤ s.end) × (s.end ≤ end))
tiled_within from end (s ∷ spans) h = All-cons (λ (t : RingSpan). (t.begin ≤ t.end) × (t.end ≤ end)) s spans (h.1, tiled_on s.end end spans h.2) (tiled_within s.end end spans h.2)

same_before : (front back : List ℕ) (s : RingSpan) → s.begin ≤ s.end → s.end ≤ length front → edges_in (front ++ back) s ≡ edges_in front s
same_before front back s l m =
    let size = length-drop s.begin front in
    ap (take (s.end - s.begin)) (drop-append-le s.begin front back (omega arith))
    ∙ take-append-le (s.end - s.begin) (drop s.begin front) back (omega arith)

pub rings_more : {V : Type 0} (start stop : ℕ → V) (front back : List ℕ) (spans : List RingSpan) (s : RingSpan) → AreTiled 0 spans (length front) → s.begin ≡ length front → s.end ≡ length front + length back →
    AreSimpleRings start stop front spans → IsSimpleRing start stop back → AreSimpleRings start stop (front ++ back) (spans ++ s ∷ [])
rings_more start stop front back spans s tiled begin end old ring =
    let within = tiled_within 0 (length front) spans tiled in
    let is : edges_in (front ++ back) s ≡ back =
    ap (λ (n : ℕ). take (s.end - s.begin) (drop n (front ++ back))) begin
    ∙ ap (take (s.end - s.begin)) (drop_at front back (length front) refl)
    ∙ take_all (s.end - s.begin) back (omega arith) in
    All-push (λ (t : RingSpan). IsSimpleRing start stop (edges_in (front ++ back) t)) spans s
    (λ k d l. subst (IsSimpleRing start stop) (sym (same_before front back (get_or spans k d) (within k d l).0 (within k d l).1)) (old k d l))
    (subst (IsSimpleRing start stop) (sym is) ring)
