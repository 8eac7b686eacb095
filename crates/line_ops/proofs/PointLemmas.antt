-- Points by the arcs that start there, and by the least arc.
use Rattle.std.proofs.Common.{◌≡◌, refl, sym, ap, ◌∙◌, subst, arith, ℕ, ◌<◌, Bool, true, nat_eq, List, [], ◌∷◌, length, Contains}
use Rattle.std.specs.Prelude.{◌↔◌, None, Some, slice_get}
use Rattle.std.proofs.lemmas.List.Elements.{All-contains}
use Rattle.std.proofs.lemmas.List.Folds.{list_any_at, Any-from_list_any}
use Rattle.std.proofs.lemmas.Option.{get_or_from_slice_get}
use Rattle.lists.specs.Lists.{has}
use Rattle.lists.proofs.Members.{Contains-head}
use Rattle.plane_model.specs.Points.{GridPoint, Path}
use Rattle.plane_model.specs.Arcs.{SignedArc, forward}
use Rattle.arc_table.specs.Around.{IsAround, start_of}
use Rattle.arc_table.specs.Lookup.{IsArcAt, IsLeastAt}
use Rattle.face_walk.specs.Places.{FaceTable, IsFaceOver, place_of}
use Rattle.face_sets.proofs.BoundaryLemmas.{has_Contains, Contains_has}
use Rattle.line_ops.specs.Inside.{is_inside, left_of}
use Rattle.line_ops.specs.Points.{Leaves, IsNode, IsInsideAt, has_some_left}

module _ (arcs : List Path) (p : GridPoint) (around : List SignedArc) (h : IsAround arcs p around) where
  pub some_node : (arcs_there : List SignedArc) → around ≡ arcs_there → (length arcs_there ≡ 0 → ⊥) → IsNode arcs p
  some_node [] e some = absurd (some refl)
  some_node (a ∷ rest) e some =
      let o = All-contains (λ (b : SignedArc). (b.arc < length arcs) × (start_of arcs b ≡ p)) around a h.others (subst (λ (bs : List SignedArc). Contains bs a) (sym e) (Contains-head a rest)) in
      (a, record { there = o.0; start = o.1 })

  pub no_node : length around ≡ 0 → IsNode arcs p → ⊥
  no_node e (a, leaves) = let (i, l, at) = h.all a leaves.there leaves.start in absurd (omega arith)

module _ (arcs : List Path) (faces : FaceTable) (p : GridPoint) (set : List ℕ) (around : List SignedArc) (h : IsAround arcs p around) where
  some_left : (has_some_left faces set around ≡ true) ↔ ((a : SignedArc) × Leaves arcs p a × Contains set (left_of faces a))
  some_left = (
    λ e.
        let (i, a, l, at, in_set) = Any-from_list_any (λ (b : SignedArc). has nat_eq set (left_of faces b)) around e in
        let o = All-contains (λ (b : SignedArc). (b.arc < length arcs) × (start_of arcs b ≡ p)) around a h.others (i, l, at) in
        (a, record { there = o.0; start = o.1 }, has_Contains set (left_of faces a) in_set),
    λ w.
        let (a, leaves, c) = w in
        let (i, l, at) = h.all a leaves.there leaves.start in
        list_any_at (λ (b : SignedArc). has nat_eq set (left_of faces b)) around i a l
        (subst (λ (b : SignedArc). has nat_eq set (left_of faces b) ≡ true) (sym at) (Contains_has set (left_of faces a) c)),
  )

  pub inside_at_node : (inside : Bool) → (length around ≡ 0 → ⊥) → inside ≡ has_some_left faces set around → IsInsideAt arcs faces p set inside
  inside_at_node inside some e = record {
    at_node = λ _. subst (λ (b : Bool). (b ≡ true) ↔ ((a : SignedArc) × Leaves arcs p a × Contains set (left_of faces a))) (sym e) some_left;
    on_arc = λ n no _. absurd (no (some_node arcs p around h around refl some));
    alone = λ no _. absurd (no (some_node arcs p around h around refl some));
  }

  pub inside_off_node : (inside : Bool) → length around ≡ 0 → ((n : ℕ) → IsLeastAt arcs p n → inside ≡ is_inside faces set (forward n)) →
      (IsArcAt arcs p None → (k : ℕ) × IsFaceOver faces p k × (inside ≡ has nat_eq set k)) → IsInsideAt arcs faces p set inside
  inside_off_node inside none on over = record {
    at_node = λ node. absurd (no_node arcs p around h none node);
    on_arc = λ n no least. on n least;
    alone = λ no off. over off;
  }

pub one_least : (arcs : List Path) (p : GridPoint) (m n : ℕ) → IsLeastAt arcs p m → IsLeastAt arcs p n → m ≡ n
one_least arcs p m n h k = let a = h.least n k.there k.on in let b = k.least m h.there h.on in omega arith

-- whether the set has the face that was read on the left of an arc
pub left_is : (faces : FaceTable) (set : List ℕ) (a : SignedArc) (x : ℕ) (r t : Bool) → slice_get faces.places (place_of a) ≡ Some x → r ≡ has nat_eq set x → r ≡ t → has nat_eq set (left_of faces a) ≡ t
left_is faces set a x r t h e f = ap (has nat_eq set) (get_or_from_slice_get faces.places (place_of a) x 0 h) ∙ sym e ∙ f
