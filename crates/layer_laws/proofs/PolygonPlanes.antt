-- The plane of a run, seen in a view.
use Rattle.std.proofs.Common.{sym, ap, ◌∙◌, subst, inl, inr, arith, true≢false, ℕ, ◌≤◌, List, [], ◌∷◌, length}
use Rattle.std.proofs.lemmas.Bool.{cases_lt}
use Rattle.std.proofs.lemmas.List.{get_or_past}
use Rattle.std.proofs.lemmas.List.Elements.{All-nil}
use Rattle.lists.proofs.Members.{Contains-nil}
use Rattle.plane_model.specs.Points.{Path}
use Rattle.plane_model.specs.Parity.{rings_hold}
use Rattle.plane_model.specs.Snapped.{snapped}
use Rattle.face_sets.specs.Sets.{IsInnerFace}
use Rattle.region_model.specs.Region.{box}
use Rattle.layer_laws.specs.Shown.{View, FacesShow}
use Rattle.layer_laws.specs.Polygons.{PlanesAreSeen}

-- past the last box there is none, and it has no point
past_boxes : (v : View) (n : ℕ) → length (snapped v.drawing).boxes ≤ n → FacesShow v [] (box n)
past_boxes v n past = record {
  rising = λ k l. absurd (omega arith);
  inner = All-nil (IsInnerFace v.faces);
  follows = λ z off a here. (
    λ holds. absurd (true≢false (sym holds ∙ ap (λ (ring : Path). rings_hold z (ring ∷ [])) (get_or_past (snapped v.drawing).boxes n [] past))),
    λ c. Contains-nil (v.label a) c,
  );
}

pub planes_are_seen : PlanesAreSeen
planes_are_seen v plane arcs faces many boxes = record {
  arcs = arcs;
  faces = faces;
  boxes = λ n. elim (cases_lt n (length plane.boxes.items)) [
    | inl there ↦ boxes n there
    | inr past ↦ subst (λ (set : List ℕ). FacesShow v set (box n)) (sym (get_or_past plane.boxes.items n [] past)) (past_boxes v n (omega (arith, past, many)))
  ];
}
