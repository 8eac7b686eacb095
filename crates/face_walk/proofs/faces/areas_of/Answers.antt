use Rattle.std.proofs.Common.{rules, ◌≡◌, ◌∙◌, sym, ap, arith, ℕ, ℤ, List, [], ◌∷◌, ◌++◌, length, FitsSigned, to_z-of_z}
use Rattle.std.specs.Int.{w128}
use Rattle.std.proofs.lemmas.List.{length_push}
use Rattle.std.proofs.lemmas.List.FromFn.{map-range_with_len_more}
use Rattle.face_walk.specs.Areas.{area_within}
use Rattle.face_walk.specs.Places.{arcs_with_left}
use Rattle.face_walk.proofs.SplitLemmas.{arcs_are, next_there, ordered, within}
use Rattle.face_walk.proofs.faces.areas_of.Goals as goal

pub arcs_left-requires : goal.arcs_left-requires
arcs_left-requires c =
    let (places, split) = c.requires.split in
    let count = c.args.count in
    let arcs = c.args.arcs.now in
    let starts = c.args.starts.now in
    let f = c.loop-f.f in
    let there = c.loop-f-test.true in
    record {
      there = next_there places count arcs starts split f there;
      ordered = ordered places count arcs starts split f there;
      within = within places count arcs starts split f there;
    }

pub loop-f-preserved : goal.loop-f-preserved
loop-f-preserved c =
    let t = c.args.t.now in
    let f = c.loop-f.f in
    let old = c.loop-f.areas.items in
    let area = c.in_ok-area_of_face.field-0 in
    let fits : FitsSigned w128 area = search rules in
    let pushed = simp to_z-of_z at c.in_ok-push.ensures.items in
    let size = length_push old area in
    let before = c.loop-f.invariant.0 in (
      ap (λ (xs : List ℤ). length xs) pushed ∙ size ∙ omega arith,
      λ places split counted.
          let of_face : ℕ → ℤ = λ g. area_within t (arcs_with_left places (length t) g) in
          let arcs = c.arcs_left.ensures.exact ∙ arcs_are places c.args.count c.args.arcs.now c.args.starts.now split f c.loop-f-test.true (length t) counted in
          let this : area ≡ of_face f = c.in_ok-area_of_face.ensures.exact ∙ ap (area_within t) arcs in
          pushed ∙ (λ i. c.loop-f.invariant.1 places split counted i ++ this i ∷ []) ∙ sym (map-range_with_len_more of_face 0 f f (omega arith)),
    )
