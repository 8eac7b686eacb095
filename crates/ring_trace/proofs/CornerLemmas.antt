-- Rings by the numbers of vertices are rings by corners.
use Rattle.std.proofs.Common.{◌≡◌, inl, inr, refl, sym, ap, ◌∙◌, subst, arith, ℕ, suc, ◌+◌, ◌-◌, ◌<◌, true, false, List, [], ◌∷◌, length, get_or, drop, All}
use Rattle.std.proofs.lemmas.Bool.{cases_lt}
use Rattle.std.proofs.lemmas.List.Elements.{All-weaker, All-take, All-drop}
use Rattle.plane_model.specs.Points.{Path}
use Rattle.ring_trace.specs.declared.pairing.Edge.{Edge}
use Rattle.ring_trace.specs.declared.simple_rings.Rings.{Rings}
use Rattle.ring_trace.specs.declared.simple_rings.RingSpan.{RingSpan}
use Rattle.ring_trace.specs.declared.simple_rings.Walk.{Walk}
use Rattle.ring_trace.specs.Pairing.{Corner, LeadOn, AreApart, AreBalanced, AreByStart, AreVertices}
use Rattle.ring_trace.specs.Rings.{IsKept, IsWalk, IsWhole, StaysGone}
use Rattle.ring_trace.specs.Ways.{IsAtRest, IsWay, IsSimpleRing, AreRingsByVertices, AreRingsByCorners, edges_in, start_in, stop_in, start_at, stop_at}

module _ (arcs : List Path) (edges : List Edge) (onward vertices : List ℕ) (there : All (λ k. k < length edges) onward) (size : length onward ≡ length edges) (lead : LeadOn arcs edges onward) (are : AreVertices edges vertices) where
  -- the edges at a vertex start at a corner
  abbrev IsCornerOf : ℕ → Corner → Type 0
  IsCornerOf v c = (e : ℕ) → e < length edges → start_in vertices e ≡ v → start_at edges e ≡ c

  corner_after : (e : ℕ) → e < length edges → IsCornerOf (stop_in onward vertices e) (stop_at arcs edges e)
  corner_after e l f m same = (are f (get_or onward e 0) m (there e 0 (omega arith))).0 same ∙ lead e l

  corner_way : (v w : ℕ) (c d : Corner) (es : List ℕ) → All (λ k. k < length edges) es → IsCornerOf v c → ((b : Corner) → IsCornerOf w b → b ≡ d) → IsWay (start_in vertices) (stop_in onward vertices) v es w → IsWay (start_at edges) (stop_at arcs edges) c es d
  corner_way v w c d [] below is ends h = ends c (subst (λ (x : ℕ). IsCornerOf x c) h is)
  corner_way v w c d (e ∷ es) below is ends h =
      let l = below 0 e (omega arith) in (
        is e l h.0,
        corner_way (stop_in onward vertices e) w (stop_at arcs edges e) d es (λ k o m. below (suc k) o (omega arith)) (corner_after e l) ends h.1,
      )

  corner_ring : (ring : List ℕ) → All (λ k. k < length edges) ring → IsSimpleRing (start_in vertices) (stop_in onward vertices) ring → IsSimpleRing (start_at edges) (stop_at arcs edges) ring
  corner_ring [] below h = record { at = start_at edges 0; way = refl; apart = λ i j d l m e. absurd (omega arith) }
  corner_ring (e ∷ es) below h =
      let l = below 0 e (omega arith) in
      let c = start_at edges e in
      let here : start_in vertices e ≡ h.at = h.way.0 in
      record {
        at = c;
        way = corner_way h.at h.at c c (e ∷ es) below (λ f m same. (are f e m l).0 (same ∙ sym here)) (λ b is. sym (is e l here)) h.way;
        apart = λ i j d m n same. h.apart i j d m n ((are (get_or (e ∷ es) i d) (get_or (e ∷ es) j d) (below i d m) (below j d n)).1 same);
      }

  pub by_corners : (walk : Walk) (rings : Rings) → walk.onward.items ≡ onward → walk.vertices.items ≡ vertices → All (λ k. k < length edges) rings.edges.items → AreRingsByVertices walk rings → AreRingsByCorners arcs edges rings
  by_corners walk rings same_onward same_vertices below h =
      All-weaker (λ (s : RingSpan). IsSimpleRing (start_in walk.vertices.items) (stop_in walk.onward.items walk.vertices.items) (edges_in rings.edges.items s)) (λ (s : RingSpan). IsSimpleRing (start_at edges) (stop_at arcs edges) (edges_in rings.edges.items s))
      (λ s ring. corner_ring (edges_in rings.edges.items s)
      (All-take (λ k. k < length edges) (s.end - s.begin) (drop s.begin rings.edges.items) (All-drop (λ k. k < length edges) s.begin rings.edges.items below))
      (subst (λ (ys : List ℕ). IsSimpleRing (start_in vertices) (stop_in ys vertices) (edges_in rings.edges.items s)) same_onward
      (subst (λ (ys : List ℕ). IsSimpleRing (start_in ys) (stop_in walk.onward.items ys) (edges_in rings.edges.items s)) same_vertices ring)))
      rings.spans.items h

-- ---- rings so far

-- the first edges have been gone along, in whole runs
pub record IsSoFar (arcs : List Path) (edges : List Edge) (first : ℕ) (walk : Walk) (rings : Rings) : Type 0 where
  pub walk_is : IsWalk walk
  pub count : length walk.onward.items ≡ length edges
  pub rings_are : IsWhole (length edges) rings
  pub kept : IsKept walk rings
  pub gone : (k : ℕ) → k < first → get_or walk.is_gone.items k false ≡ true
  pub rest : IsAtRest walk rings
  pub apart : AreApart walk.onward.items
  pub leads : AreBalanced arcs edges → AreByStart edges → LeadOn arcs edges walk.onward.items
  pub numbered : AreByStart edges → AreVertices edges walk.vertices.items

-- one edge more, along which the way has gone already
pub so_far_gone : (arcs : List Path) (edges : List Edge) (first : ℕ) (walk : Walk) (rings : Rings) → IsSoFar arcs edges first walk rings → get_or walk.is_gone.items first false ≡ true → IsSoFar arcs edges (first + 1) walk rings
so_far_gone arcs edges first walk rings h gone = record {
  walk_is = h.walk_is;
  count = h.count;
  rings_are = h.rings_are;
  kept = h.kept;
  gone = λ k l. elim (cases_lt k first) [
    | inl less ↦ h.gone k less
    | inr more ↦ (let same : k ≡ first = omega arith in ap (λ (n : ℕ). get_or walk.is_gone.items n false) same ∙ gone)
  ];
  rest = h.rest;
  apart = h.apart;
  leads = h.leads;
  numbered = h.numbered;
}

-- after a round more
pub so_far_round : (arcs : List Path) (edges : List Edge) (first : ℕ) (before walk : Walk) (so_far rings : Rings) → IsSoFar arcs edges first before so_far → IsWalk walk → length walk.onward.items ≡ length before.onward.items → IsWhole (length before.onward.items) rings →
    IsKept walk rings → StaysGone before.is_gone.items walk.is_gone.items → walk.onward.items ≡ before.onward.items → walk.vertices.items ≡ before.vertices.items → IsAtRest walk rings → IsSoFar arcs edges first walk rings
so_far_round arcs edges first before walk so_far rings h walk_is count rings_are kept stays same_onward same_vertices rest = record {
  walk_is = walk_is;
  count = count ∙ h.count;
  rings_are = subst (λ (n : ℕ). IsWhole n rings) h.count rings_are;
  kept = kept;
  gone = λ k l. stays k (h.gone k l);
  rest = rest;
  apart = subst (λ (xs : List ℕ). AreApart xs) (sym same_onward) h.apart;
  leads = λ balanced up. subst (λ (xs : List ℕ). LeadOn arcs edges xs) (sym same_onward) (h.leads balanced up);
  numbered = λ up. subst (λ (xs : List ℕ). AreVertices edges xs) (sym same_vertices) (h.numbered up);
}
