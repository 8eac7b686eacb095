-- A whole arc gone along backwards is whole.
use Rattle.std.proofs.Common.{◌≡◌, inl, inr, sym, ap, ◌∙◌, subst, arith, ℕ, ◌-◌, ◌<◌, reverse, length}
use Rattle.std.proofs.lemmas.List.{get_or-reverse, length-reverse}
use Rattle.plane_model.specs.Points.{GridPoint, Path, is_before}
use Rattle.plane_model.specs.Drawing.{Drawing}
use Rattle.arc_table.specs.Direction.{point_at}
use Rattle.arc_table.specs.WholeArcs.{IsPassed, IsNode, IsWholeArc, StartsAtLeast}

pub back_whole : (d : Drawing) (path : Path) → 1 < length path → IsWholeArc d path → IsWholeArc d (reverse path)
back_whole d path long h = record {
  inner = λ k l m. subst (IsPassed d) (sym (turned_at k (let s = same in omega arith))) (h.inner (length path - 1 - k) (let s = same in omega arith) (let s = same in omega arith));
  ends = elim h.ends [
    | inl e ↦ inl (subst (IsNode d) (sym first) e.1, subst (IsNode d) (sym last) e.0)
    | inr e ↦ inr (first ∙ sym e.0 ∙ sym last, subst (IsPassed d) (e.0 ∙ sym first) e.1)
  ];
}
  where
    same : length (reverse path) ≡ length path
    same = length-reverse path

    turned_at : (k : ℕ) → k < length path → point_at (reverse path) k ≡ point_at path (length path - 1 - k)
    turned_at k l = get_or-reverse path k _ l

    first : point_at (reverse path) 0 ≡ point_at path (length path - 1)
    first = turned_at 0 (omega arith) ∙ ap (point_at path) (let e : length path - 1 - 0 ≡ length path - 1 = omega arith in e)

    last : point_at (reverse path) (length (reverse path) - 1) ≡ point_at path 0
    last =
        let s = same in
        ap (point_at (reverse path)) (let e : length (reverse path) - 1 ≡ length path - 1 = omega arith in e) ∙ turned_at (length path - 1) (omega arith)
        ∙ ap (point_at path) (let e : length path - 1 - (length path - 1) ≡ 0 = omega arith in e)

pub back_least : (d : Drawing) (path : Path) → 1 < length path → IsWholeArc d path → StartsAtLeast d path → StartsAtLeast d (reverse path)
back_least d path long whole least here k l =
    let s = length-reverse path in
    let first : point_at (reverse path) 0 ≡ point_at path (length path - 1) = get_or-reverse path 0 _ (omega arith) ∙ ap (point_at path) (let e : length path - 1 - 0 ≡ length path - 1 = omega arith in e) in
    elim whole.ends [
      | inl e ↦ absurd (e.1 (subst (IsPassed d) first here))
      | inr e ↦ (
          let start : point_at (reverse path) 0 ≡ point_at path 0 = first ∙ sym e.0 in
          let at_k : point_at (reverse path) k ≡ point_at path (length path - 1 - k) = get_or-reverse path k _ (omega arith) in
          ap (λ (p : GridPoint). is_before p (point_at (reverse path) 0)) at_k ∙ ap (is_before (point_at path (length path - 1 - k))) start
          ∙ least (subst (IsPassed d) start here) (length path - 1 - k) (omega arith))
    ]
