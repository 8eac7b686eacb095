use Rattle.std.proofs.Common.{◌∙◌, set}
use Rattle.face_walk.proofs.FaceListLemmas.{lists_put, spans_put}
use Rattle.face_walk.proofs.face_lists.FaceLists.put.Goals as goal

pub invariant_of-self-2 : goal.invariant_of-self-2
invariant_of-self-2 g c =
    let inside = c.self.inside in
    let added = c.in_ok-span in
    spans_put inside.items.items c.args.list.now c.append.new.items.items inside.spans.items c.num.result added.span c.self.invariant added.ensures.ok added.ensures.start added.ensures.stop

pub returns-clause-ok : goal.returns-clause-ok
returns-clause-ok g c =
    let inside = c.self.inside in
    let added = c.in_ok-span in
    lists_put inside.items.items c.args.list.now c.append.new.items.items inside.spans.items c.num.result added.span c.self.invariant added.ensures.ok added.ensures.start added.ensures.stop
    ∙ (λ i. set (c.self.view_is i) (c.num.ensures.exact i) c.args.list.now)
