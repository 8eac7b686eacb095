use Rattle.std.proofs.Common.{rules, ◌≡◌, ◌∙◌, sym, ap, subst, arith, ℕ, ◌<◌, List, length, get_or, map, All, IfOk}
use Rattle.std.specs.List.{AllPairs, sum_by}
use Rattle.std.specs.List.Sorted.{IsPermutation, IsStrictlyIncreasing}
use Rattle.std.proofs.lemmas.Result.{IfOk-weaker}
use Rattle.plane_model.specs.Arcs.{SignedArc}
use Rattle.arc_table.specs.Around.{start_of}
use Rattle.face_sets.specs.declared.joined_faces.Side.{Side}
use Rattle.ring_trace.specs.declared.pairing.Edge.{Edge}
use Rattle.ring_trace.specs.declared.ring_keys.RingKey.{RingKey}
use Rattle.face_sets.specs.Joined.{AreLeastNumbers, AreParts}
use Rattle.ring_trace.specs.Keys.{AreByPart, IsHoleBy, IsLeastFirst, along_key}
use Rattle.ring_trace.specs.Pairing.{AreBalanced, AreByStart, AreEdgesOf, stop_of}
use Rattle.ring_trace.specs.Rings.{HasEachOnce}
use Rattle.ring_trace.specs.Traced.{BeginsWithLeast, HasPolygonsOfParts, UseParts, UsesBoundary, times_along, times_traced, is_of_boundary, once_if}
use Rattle.ring_trace.specs.Turns.{MayStandBefore}
use Rattle.ring_trace.specs.Ways.{IsSimpleRing, AreRingsByCorners}
use Rattle.face_sets.proofs.BoundaryLemmas.{sides_are}
use Rattle.face_sets.proofs.SomeParts.{some_parts}
use Rattle.ring_trace.proofs.OrderLemmas.{polygons_in_order}
use Rattle.ring_trace.proofs.PolygonLemmas.{keyed_least, keyed_part, parts_used, rings_all}
use Rattle.ring_trace.proofs.TracedLemmas.{traced_once, all_ok}
use Rattle.ring_trace.proofs.TurnLemmas.{made_starts, keyed_ring}
use Rattle.ring_trace.proofs.tracing.trace.Goals as goal

pub returns-clause-there : goal.returns-clause-there
returns-clause-there c = c.polygons_of.ensures.there (length c.args.t.now) (search rules)

pub returns-clause-boundary : goal.returns-clause-boundary
returns-clause-boundary c =
    let places = c.args.f.now.places in
    let many = length c.args.t.now in
    let inside = c.args.set.now in
    let faces = c.faces-faces.result.now in
    let sides = c.in_ok-parts.sides.items in
    let edges = c.in_ok-edges.edges.items in
    let rings = c.in_ok-rings.rings in
    let keys = c.in_ok-keys.keys.items in
    let polygons = c.polygons_of.result in
    let up : IsStrictlyIncreasing faces = subst IsStrictlyIncreasing (sym c.faces-faces.ensures.all) c.faces-faces.ensures.ascending in
    let moved : IsPermutation (map (λ (s : Side). s.arc) sides) (map (λ (e : Edge). e.arc) edges) =
    subst (λ (ss : List Side). IsPermutation (map (λ (s : Side). s.arc) ss) (map (λ (e : Edge). e.arc) edges)) c.deref.ensures.value c.in_ok-edges.ensures.arcs in
    let once : HasEachOnce edges rings = subst (λ (es : List Edge). HasEachOnce es rings) c.deref-2.ensures.value c.in_ok-rings.ensures.once in
    let P : SignedArc → _ → Type 0 = λ a ps. times_traced a ps ≡ once_if (is_of_boundary places many inside a) in
    let one : (a : SignedArc) → IfOk polygons (P a) = λ a.
    IfOk-weaker polygons (λ ps. times_traced a ps ≡ sum_by (along_key (times_along a c.deref-4.result.now) rings) c.deref-5.result.now) (P a)
    (λ ps e.
    e ∙ (λ i. sum_by (along_key (times_along a (c.deref-4.ensures.value i)) rings) (c.deref-5.ensures.value i))
    ∙ c.in_ok-keys.ensures.once (times_along a edges)
    ∙ traced_once a places many faces sides edges rings up (c.in_ok-parts.ensures.exact c.args.t.now c.requires.built) moved once c.in_ok-rings.ensures.tiled
    ∙ ap (λ (xs : List ℕ). once_if (is_of_boundary places many xs a)) c.faces-faces.ensures.all)
    (c.polygons_of.ensures.once a) in
    IfOk-weaker polygons (λ ps. (a : SignedArc) → P a ps) (UsesBoundary places many inside) (λ ps h. record { once = h }) (all_ok polygons P one)

pub returns-clause-simple : goal.returns-clause-simple
returns-clause-simple c =
    let arcs = c.args.t.now in
    let faces = c.faces-faces.result.now in
    let sides = c.in_ok-parts.sides.items in
    let edges = c.in_ok-edges.edges.items in
    let rings = c.in_ok-rings.rings in
    let classes = c.in_ok-parts.parts.joining in
    let numbers = c.in_ok-parts.parts.numbers.items in
    let keys = c.in_ok-keys.keys.items in
    let polygons = c.polygons_of.result in
    let grouped : IfOk polygons (AreByPart edges rings keys) =
    subst (λ (es : List Edge). IfOk polygons (AreByPart es rings keys)) c.deref-4.ensures.value (subst (λ (ks : List RingKey). IfOk polygons (AreByPart c.deref-4.result.now rings ks)) c.deref-5.ensures.value c.polygons_of.ensures.by_part) in
    let up : IsStrictlyIncreasing faces = subst IsStrictlyIncreasing (sym c.faces-faces.ensures.all) c.faces-faces.ensures.ascending in
    let made : AreEdgesOf arcs classes numbers sides edges = subst (λ (ss : List Side). AreEdgesOf arcs classes numbers ss edges) c.deref.ensures.value c.in_ok-edges.ensures.made in
    let starts : All (λ (e : Edge). e.start ≡ start_of arcs e.arc) edges = made_starts arcs classes numbers sides edges made in
    let balanced : AreBalanced arcs edges =
    c.in_ok-edges.ensures.balanced c.args.f.now faces c.requires.built up (c.in_ok-parts.ensures.joined arcs c.requires.built) (c.deref.ensures.value ∙ c.in_ok-parts.ensures.exact arcs c.requires.built) in
    let simple : AreRingsByCorners arcs edges rings =
    subst (λ (es : List Edge). AreRingsByCorners arcs es rings) c.deref-2.ensures.value
    (c.in_ok-rings.ensures.simple (subst (λ (es : List Edge). AreBalanced arcs es) (sym c.deref-2.ensures.value) balanced) (subst (λ (es : List Edge). AreByStart es) (sym c.deref-2.ensures.value) c.in_ok-edges.ensures.in_order)) in
    let below : All (λ k. k < length edges) rings.edges.items = subst (λ (es : List Edge). All (λ k. k < length es) rings.edges.items) c.deref-2.ensures.value c.in_ok-rings.ensures.whole.edges in
    let P : List SignedArc → Type 0 = IsSimpleRing (start_of arcs) (stop_of arcs) in
    IfOk-weaker polygons (AreByPart edges rings keys) (All (All P))
    (λ ps g. rings_all P edges rings keys ps g (λ k d l. keyed_ring arcs edges rings (get_or keys k d) starts below simple (c.in_ok-keys.ensures.there k d l) (c.in_ok-keys.ensures.spans k d l)))
    grouped

pub returns-clause-least_first : goal.returns-clause-least_first
returns-clause-least_first c =
    let arcs = c.args.t.now in
    let faces = c.faces-faces.result.now in
    let sides = c.in_ok-parts.sides.items in
    let edges = c.in_ok-edges.edges.items in
    let rings = c.in_ok-rings.rings in
    let classes = c.in_ok-parts.parts.joining in
    let numbers = c.in_ok-parts.parts.numbers.items in
    let keys = c.in_ok-keys.keys.items in
    let polygons = c.polygons_of.result in
    let grouped : IfOk polygons (AreByPart edges rings keys) =
    subst (λ (es : List Edge). IfOk polygons (AreByPart es rings keys)) c.deref-4.ensures.value (subst (λ (ks : List RingKey). IfOk polygons (AreByPart c.deref-4.result.now rings ks)) c.deref-5.ensures.value c.polygons_of.ensures.by_part) in
    let first : All (IsLeastFirst edges rings) keys = subst (λ (es : List Edge). All (IsLeastFirst es rings) keys) c.deref-3.ensures.value c.in_ok-keys.ensures.least in
    IfOk-weaker polygons (AreByPart edges rings keys) (All (All BeginsWithLeast))
    (λ ps g. rings_all BeginsWithLeast edges rings keys ps g (λ k d l. keyed_least edges rings (get_or keys k d) (c.in_ok-keys.ensures.there k d l) (first k d l)))
    grouped

pub returns-clause-in_order : goal.returns-clause-in_order
returns-clause-in_order c =
    let arcs = c.args.t.now in
    let faces = c.faces-faces.result.now in
    let sides = c.in_ok-parts.sides.items in
    let edges = c.in_ok-edges.edges.items in
    let rings = c.in_ok-rings.rings in
    let classes = c.in_ok-parts.parts.joining in
    let numbers = c.in_ok-parts.parts.numbers.items in
    let keys = c.in_ok-keys.keys.items in
    let polygons = c.polygons_of.result in
    let grouped : IfOk polygons (AreByPart edges rings keys) =
    subst (λ (es : List Edge). IfOk polygons (AreByPart es rings keys)) c.deref-4.ensures.value (subst (λ (ks : List RingKey). IfOk polygons (AreByPart c.deref-4.result.now rings ks)) c.deref-5.ensures.value c.polygons_of.ensures.by_part) in
    let first : All (IsLeastFirst edges rings) keys = subst (λ (es : List Edge). All (IsLeastFirst es rings) keys) c.deref-3.ensures.value c.in_ok-keys.ensures.least in
    let holes : All (IsHoleBy arcs edges rings) keys = subst (λ (es : List Edge). All (IsHoleBy arcs es rings) keys) c.deref-3.ensures.value c.in_ok-keys.ensures.holes in
    IfOk-weaker polygons (AreByPart edges rings keys) (All (AllPairs (MayStandBefore arcs)))
    (λ ps g. polygons_in_order arcs edges rings keys c.in_ok-keys.ensures.there first holes c.in_ok-keys.ensures.sorted ps g)
    grouped

pub returns-clause-parts : goal.returns-clause-parts
returns-clause-parts c = λ parts are_parts.
    let arcs = c.args.t.now in
    let faces = c.faces-faces.result.now in
    let sides = c.in_ok-parts.sides.items in
    let edges = c.in_ok-edges.edges.items in
    let rings = c.in_ok-rings.rings in
    let classes = c.in_ok-parts.parts.joining in
    let numbers = c.in_ok-parts.parts.numbers.items in
    let keys = c.in_ok-keys.keys.items in
    let polygons = c.polygons_of.result in
    let grouped : IfOk polygons (AreByPart edges rings keys) =
    subst (λ (es : List Edge). IfOk polygons (AreByPart es rings keys)) c.deref-4.ensures.value (subst (λ (ks : List RingKey). IfOk polygons (AreByPart c.deref-4.result.now rings ks)) c.deref-5.ensures.value c.polygons_of.ensures.by_part) in
    let up : IsStrictlyIncreasing faces = subst IsStrictlyIncreasing (sym c.faces-faces.ensures.all) c.faces-faces.ensures.ascending in
    let made : AreEdgesOf arcs classes numbers sides edges = subst (λ (ss : List Side). AreEdgesOf arcs classes numbers ss edges) c.deref.ensures.value c.in_ok-edges.ensures.made in
    let starts : All (λ (e : Edge). e.start ≡ start_of arcs e.arc) edges = made_starts arcs classes numbers sides edges made in
    let balanced : AreBalanced arcs edges =
    c.in_ok-edges.ensures.balanced c.args.f.now faces c.requires.built up (c.in_ok-parts.ensures.joined arcs c.requires.built) (c.deref.ensures.value ∙ c.in_ok-parts.ensures.exact arcs c.requires.built) in
    let simple : AreRingsByCorners arcs edges rings =
    subst (λ (es : List Edge). AreRingsByCorners arcs es rings) c.deref-2.ensures.value
    (c.in_ok-rings.ensures.simple (subst (λ (es : List Edge). AreBalanced arcs es) (sym c.deref-2.ensures.value) balanced) (subst (λ (es : List Edge). AreByStart es) (sym c.deref-2.ensures.value) c.in_ok-edges.ensures.in_order)) in
    let below : All (λ k. k < length edges) rings.edges.items = subst (λ (es : List Edge). All (λ k. k < length es) rings.edges.items) c.deref-2.ensures.value c.in_ok-rings.ensures.whole.edges in
    let first : All (IsLeastFirst edges rings) keys = subst (λ (es : List Edge). All (IsLeastFirst es rings) keys) c.deref-3.ensures.value c.in_ok-keys.ensures.least in
    let is = c.in_ok-parts.ensures.exact arcs c.requires.built in
    let lowest : AreLeastNumbers classes sides numbers = c.in_ok-parts.ensures.least in
    let once : HasEachOnce edges rings = subst (λ (es : List Edge). HasEachOnce es rings) c.deref-2.ensures.value c.in_ok-rings.ensures.once in
    IfOk-weaker polygons (AreByPart edges rings keys) (UseParts c.args.f.now.places (length arcs) parts)
    (λ ps g.
    parts_used arcs c.args.f.now faces classes numbers sides edges rings keys c.requires.built.places_counted up c.in_ok-parts.ensures.each c.in_ok-parts.ensures.numbers c.in_ok-parts.ensures.classes
    (c.in_ok-parts.ensures.joined arcs c.requires.built) lowest is (sides_are arcs c.args.f.now faces sides c.requires.built is) made once c.in_ok-rings.ensures.tiled below c.in_ok-keys.ensures.there first
    (λ k d l. keyed_part arcs edges rings (get_or keys k d) starts simple (c.in_ok-keys.ensures.there k d l) (c.in_ok-keys.ensures.spans k d l) (first k d l))
    c.in_ok-keys.ensures.once ps g parts (subst (λ (xs : List ℕ). AreParts c.args.f.now xs parts) (sym c.faces-faces.ensures.all) are_parts))
    grouped

pub returns-clause-has_parts : goal.returns-clause-has_parts
returns-clause-has_parts c =
    let arcs = c.args.t.now in
    let f = c.args.f.now in
    let faces = c.faces-faces.result.now in
    let sides = c.in_ok-parts.sides.items in
    let made = c.in_ok-parts.ensures in
    let classes = c.in_ok-parts.parts.joining in
    let numbers = c.in_ok-parts.parts.numbers.items in
    let up : IsStrictlyIncreasing faces = subst IsStrictlyIncreasing (sym c.faces-faces.ensures.all) c.faces-faces.ensures.ascending in
    let lowest : AreLeastNumbers classes sides numbers = made.least in
    let some = some_parts f faces classes numbers sides up (omega arith) made.each made.numbers made.classes (made.joined arcs c.requires.built) lowest (sides_are arcs f faces sides c.requires.built (c.in_ok-parts.ensures.exact arcs c.requires.built)) in
    let are_parts : AreParts f c.args.set.now some.0 = subst (λ (xs : List ℕ). AreParts f xs some.0) c.faces-faces.ensures.all some.1 in
    IfOk-weaker c.polygons_of.result (UseParts f.places (length arcs) some.0) (HasPolygonsOfParts f (length arcs) c.args.set.now)
    (λ ps used. record { parts = some.0; are_parts = are_parts; for_each = used })
    (returns-clause-parts c some.0 are_parts)
