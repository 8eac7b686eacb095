use Rattle.std.proofs.Common.{Err, Ok, Result, ℕ, subst}
use Rattle.std.specs.Prelude.{IfOk}
use Rattle.run_plane.specs.LaidOut.{AreHeld, AreHeldFaces}
use Rattle.run_plane.specs.declared.plane.HeldFaces.{HeldFaces}
use Rattle.run_plane.proofs.plane.HeldFaces.of.Goals as goal

both_ok : {T E : Type 0} (r : Result T E) (P Q R : T → Type 0) → ((x : T) → P x → Q x → R x) → IfOk r P → IfOk r Q → IfOk r R
both_ok (Ok x) P Q R f p q = f x p q
both_ok (Err e) P Q R f p q = tt

pub returns : goal.returns
returns c =
    let labels = c.in_ok-labels.labels in
    let faces = c.args.faces.now in
    let counts = c.args.counts in
    record {
      held = λ t s built are features boxes. both_ok c.by_labels.result
          (λ (held : HeldFaces). AreHeldFaces labels.holders faces.count counts.polygons held.features.items)
          (λ (held : HeldFaces). AreHeldFaces labels.boxes faces.count counts.boxes held.boxes.items)
          (λ (held : HeldFaces). AreHeld s t faces held.boxes.items held.features.items)
          (λ held f b. record {
            labels = labels;
            are_holders = c.in_ok-labels.ensures.exact t s built are;
            of_features = subst (λ (n : ℕ). AreHeldFaces labels.holders faces.count n held.features.items) features f;
            of_boxes = subst (λ (n : ℕ). AreHeldFaces labels.boxes faces.count n held.boxes.items) boxes b;
          })
          c.by_labels.ensures.features c.by_labels.ensures.boxes;
    }
