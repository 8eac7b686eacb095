-- Rings go along each arc of the boundary once.
use Rattle.std.proofs.Common.{◌≡◌, sym, ap, ◌∙◌, ℕ, List, length, map, Result, Ok, Err, IfOk}
use Rattle.std.specs.List.{sum_by}
use Rattle.std.specs.List.Sorted.{IsPermutation, IsStrictlyIncreasing}
use Rattle.std.proofs.lemmas.List.Sorted.{sum_by-IsPermutation}
use Rattle.plane_model.specs.Arcs.{SignedArc}
use Rattle.face_sets.specs.declared.joined_faces.Side.{Side}
use Rattle.ring_trace.specs.declared.pairing.Edge.{Edge}
use Rattle.ring_trace.specs.declared.simple_rings.Rings.{Rings}
use Rattle.face_sets.specs.Boundary.{sides_of}
use Rattle.ring_trace.specs.Keys.{along_span}
use Rattle.ring_trace.specs.Rings.{AreTiled, HasEachOnce}
use Rattle.ring_trace.specs.Traced.{same_arc, times_along, is_of_boundary, once_if}
use Rattle.ring_trace.proofs.UsedLemmas.{once_along_sides, sum_by-map}
use Rattle.ring_trace.proofs.TileLemmas.{sum_tiled}

pub traced_once : (a : SignedArc) (places : List ℕ) (many : ℕ) (inside : List ℕ) (sides : List Side) (edges : List Edge) (rings : Rings) → IsStrictlyIncreasing inside → sides ≡ sides_of places many inside →
    IsPermutation (map (λ (s : Side). s.arc) sides) (map (λ (e : Edge). e.arc) edges) → HasEachOnce edges rings → AreTiled 0 rings.spans.items (length rings.edges.items) →
    sum_by (along_span (times_along a edges) rings) rings.spans.items ≡ once_if (is_of_boundary places many inside a)
traced_once a places many inside sides edges rings up are moved once tiled =
    let f : SignedArc → ℕ = λ x. once_if (same_arc a x) in
    sum_tiled (times_along a edges) rings.edges.items 0 rings.spans.items tiled
    ∙ once (λ e. once_if (same_arc a e.arc))
    ∙ sym (sum_by-map f (λ (e : Edge). e.arc) edges)
    ∙ sum_by-IsPermutation f (map (λ (s : Side). s.arc) sides) (map (λ (e : Edge). e.arc) edges) moved
    ∙ sum_by-map f (λ (s : Side). s.arc) sides
    ∙ ap (sum_by (λ (s : Side). once_if (same_arc a s.arc))) are
    ∙ once_along_sides places many inside a up

pub all_ok : {X E : Type 0} (r : Result X E) (P : SignedArc → X → Type 0) → ((a : SignedArc) → IfOk r (P a)) → IfOk r (λ x. (a : SignedArc) → P a x)
all_ok (Ok x) P h = λ a. h a
all_ok (Err e) P h = tt
