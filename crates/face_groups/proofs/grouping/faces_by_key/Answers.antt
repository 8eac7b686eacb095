use Rattle.std.proofs.Common.{rules, ◌≡◌}
use Rattle.std.specs.Ordering.{is_lt}
use Rattle.std.proofs.lemmas.Fn.{always_returns_same}
use Rattle.std.proofs.lemmas.List.Sorted.{All-permutation, Contains-permutation, sorted_far}
use Rattle.face_groups.specs.Groups.{IsKeyed}
use Rattle.face_groups.proofs.grouping.faces_by_key.Goals as goal

pub returns : goal.returns
returns g c =
    let before = g.K.FaceKeys.comes_before c.args.keys.now in
    let old = c.in_ok-faces.faces.items in
    let new = c.sort_by.new.self.items in
    let moved = c.sort_by.ensures.permutation in
    let all = c.in_ok-faces.ensures.all in
    record {
      all = record {
        each = All-permutation (IsKeyed c.args.f.now (g.K.FaceKeys.is_keyed c.args.keys.now)) old new moved all.each;
        all = λ k h. Contains-permutation old new k moved (all.all k h);
      };
      in_order = λ i j le l. sorted_far before c.requires.ordered new
          (c.in_ok-sort_by.ensures.sorted before c.requires.ordered (always_returns_same _ (λ a r. is_lt r ≡ before a.0.now a.1.0.now) _ (λ a r q k. search rules))) i j 0 le l;
    }
