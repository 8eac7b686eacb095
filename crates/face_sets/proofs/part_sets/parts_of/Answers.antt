use Rattle.std.proofs.Common.{arith, sym, subst, List, All}
use Rattle.std.proofs.lemmas.Result.{IfOk-weaker}
use Rattle.face_sets.specs.declared.part_sets.PartFace.{PartFace}
use Rattle.face_sets.specs.Parts.{AreGroups, AreNumbered, IsDivided, IsFaceOf}
use Rattle.face_sets.specs.Joined.{AreParts, IsRanked}
use Rattle.face_sets.proofs.PartLemmas.{divided}
use Rattle.face_sets.proofs.BoundaryLemmas.{sides_are}
use Rattle.face_sets.proofs.RankedLemmas.{parts_are}
use Rattle.face_sets.proofs.part_sets.parts_of.Goals as goal

pub returns-clause-of_them : goal.returns-clause-of_them
returns-clause-of_them c = c.sets_of.ensures.of_them c.args.faces.now
    (subst (λ (ps : List PartFace). All (IsFaceOf c.args.faces.now) ps) (sym c.deref.ensures.value) c.in_ok-numbered.ensures.of_them)

pub returns-clause-divided : goal.returns-clause-divided
returns-clause-divided c =
    let numbered = c.deref.result.now in
    let faces = c.args.faces.now in
    let items_are = sym c.deref.ensures.value in
    IfOk-weaker c.sets_of.result (AreGroups numbered numbered) (IsDivided faces)
    (λ sets g. divided faces numbered sets
    (subst (λ (ps : List PartFace). All (IsFaceOf faces) ps) items_are c.in_ok-numbered.ensures.of_them)
    (subst (λ (ps : List PartFace). AreNumbered faces ps) items_are c.in_ok-numbered.ensures.numbered)
    g)
    c.sets_of.ensures.groups

pub returns-clause-exact : goal.returns-clause-exact
returns-clause-exact c =
    let numbered = c.deref.result.now in
    let faces = c.args.faces.now in
    let made = c.in_ok-parts.ensures in
    let parts = c.in_ok-parts.parts in
    let items_are = sym c.deref.ensures.value in
    IfOk-weaker c.sets_of.result (AreGroups numbered numbered) (AreParts c.args.f.now faces)
    (λ sets g. parts_are c.args.f.now faces parts.joining parts.numbers.items c.in_ok-parts.field-0-1.items numbered sets
    c.requires.ascending
    (omega arith) made.each made.numbers made.classes (made.joined c.args.t.now c.requires.built) made.least
    (sides_are c.args.t.now c.args.f.now faces c.in_ok-parts.field-0-1.items c.requires.built (made.exact c.args.t.now c.requires.built))
    (subst (λ (ps : List PartFace). All (IsFaceOf faces) ps) items_are c.in_ok-numbered.ensures.of_them)
    (subst (λ (ps : List PartFace). AreNumbered faces ps) items_are c.in_ok-numbered.ensures.numbered)
    (subst (λ (ps : List PartFace). All (IsRanked faces parts.joining parts.numbers.items) ps) items_are c.in_ok-numbered.ensures.ranked)
    g)
    c.sets_of.ensures.groups
