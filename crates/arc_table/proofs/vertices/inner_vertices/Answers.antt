use Rattle.std.proofs.Common.{List, subst, ◌∙◌}
use Rattle.std.specs.List.Sorted.{IsPermutation}
use Rattle.std.proofs.lemmas.List.Sorted.{IsPermutation-trans}
use Rattle.arc_table.specs.declared.vertices.ArcVertex.{ArcVertex}
use Rattle.arc_table.proofs.vertices.inner_vertices.Goals as goal

pub returns : goal.returns
returns c =
    let arcs = c.args.arcs.now.spans in
    record {
      exact = record {
        all = subst (λ (vs : List ArcVertex). IsPermutation vs c.sort_unstable.new.self.items) (c.deref.ensures.value ∙ c.in_ok-listed.ensures.exact)
            (IsPermutation-trans c.deref.result.now c.in_ok-vertices.vertices.items c.sort_unstable.new.self.items c.in_ok-vertices.ensures.same c.sort_unstable.ensures.permutation);
        sorted = c.sort_unstable.ensures.sorted;
      };
    }
