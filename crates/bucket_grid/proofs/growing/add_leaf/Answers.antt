use Rattle.std.proofs.Common.{◌≡◌, ◌∙◌, ◌∷◌, ◌++◌, [], ℕ, List, ap, arith, length}
use Rattle.bucket_grid.proofs.Growth.{leaf_grown}
use Rattle.bucket_grid.proofs.growing.add_leaf.Goals as goal

pub returns : goal.returns
returns c =
    let forest = c.args.forest.now in
    let place : c.in_ok-place.place ≡ length forest.rects.items = omega (arith, c.in_ok-place.ensures.exact, c.len.ensures, forest.rects.ok.0) in
    let near = c.in_ok-push-2.ensures.ok ∙ ap (λ (list : List ℕ). forest.near ++ list ∷ []) c.as_slice.ensures.all in
    record {
      exact = λ steps boxes e. leaf_grown boxes c.args.rect forest.nodes.items forest.rects.items c.push.new.self.items forest.near c.push-2.new.self steps c.args.near c.in_ok-place.place
          e place c.in_ok-push.ensures.items near;
    }
