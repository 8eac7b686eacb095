use Rattle.std.proofs.Common.{◌∙◌, sym, ap, subst, cond, ℕ, List, [], ◌++◌, nat_lt, All}
use Rattle.std.proofs.lemmas.List.{take_all}
use Rattle.std.proofs.lemmas.List.Elements.{All-get_or}
use Rattle.lists.specs.Lists.{ascending}
use Rattle.face_sets.specs.Joined.{AreParts}
use Rattle.face_sets.specs.Sets.{IsInnerFace, IsSetOf}
use Rattle.face_sets.proofs.SetLemmas.{All-ascending}
use Rattle.calc_ops.specs.Islands.{mainland}
use Rattle.calc_ops.proofs.IslandLemmas.{mainland_more, All-unless}
use Rattle.calc_ops.proofs.islands.without_islands.Goals as goal

pub loop-piece-preserved : goal.loop-piece-preserved
loop-piece-preserved c =
    let f = c.args.f.now in
    let least = c.args.least in
    let pieces = c.as_slice-piece-items.result.now in
    let i = c.loop-piece.piece-index in
    let piece = c.piece-item.result in
    let l = c.loop-piece-test.true in
    let all : All (IsSetOf f) pieces = subst (All (IsSetOf f)) (sym c.as_slice-piece-items.ensures.all) c.in_ok-pieces.ensures.inner in
    let one : IsSetOf f piece = subst (IsSetOf f) (sym c.piece-item.is) (All-get_or (IsSetOf f) pieces i piece l all) in
    record {
      so_far = λ sets h.
          c.in_ok-append_unless.ensures.appended
          ∙ (λ j. c.loop-piece.invariant.so_far sets h j ++ cond (c.in_ok-drops.ensures.exact sets h j) [] (c.faces.ensures.all j))
          ∙ mainland_more c.args.t.now f sets least.area least.links c.args.n pieces i piece l c.piece-item.is;
      inner = subst (IsSetOf f) (sym c.in_ok-append_unless.ensures.appended)
          (All-unless (IsInnerFace f) c.loop-piece.faces.items c.faces.result.now c.in_ok-drops.drops c.loop-piece.invariant.inner (subst (IsSetOf f) (sym c.faces.ensures.all) one));
    }

pub returns-clause-exact : goal.returns-clause-exact
returns-clause-exact c = λ sets h.
    let f = c.args.f.now in
    let least = c.args.least in
    let pieces = c.as_slice-piece-items.result.now in
    record {
      pieces = pieces;
      are = subst (λ (ps : List (List ℕ)). AreParts f c.args.set.now ps) (sym c.as_slice-piece-items.ensures.all) c.in_ok-pieces.ensures.exact;
      faces_left = c.from_faces.ensures.exact
          ∙ ap (ascending nat_lt) (c.loop-piece.invariant.so_far sets h ∙ ap (mainland c.args.t.now f sets least.area least.links c.args.n) (take_all c.loop-piece.piece-index pieces c.loop-piece-test.false));
    }

pub returns-clause-inner : goal.returns-clause-inner
returns-clause-inner c = subst (IsSetOf c.args.f.now) (sym c.from_faces.ensures.exact) (All-ascending (IsInnerFace c.args.f.now) c.loop-piece.faces.items c.loop-piece.invariant.inner)
