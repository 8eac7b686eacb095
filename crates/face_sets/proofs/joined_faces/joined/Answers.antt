use Rattle.std.proofs.Common.{rules, ◌≡◌, ◌∙◌, sym, ap, arith, ℕ, ◌+◌, ◌<◌, List, ◌++◌, inl, inr, get_or, length, length-take, map, subst, take}
use Rattle.std.proofs.lemmas.Bool.{cases_lt}
use Rattle.std.proofs.lemmas.List.{take_more, take_all}
use Rattle.face_sets.specs.declared.joined_faces.Side.{Side}
use Rattle.face_sets.specs.Boundary.{outward_at, side_at, sides_from}
use Rattle.face_sets.specs.Joined.{IsJoinedAround}
use Rattle.face_sets.proofs.BoundaryLemmas.{sides_more}
use Rattle.face_sets.proofs.JoinedLemmas.{alone_sound, around_kept, joined_by}
use Rattle.face_sets.proofs.joined_faces.joined.Goals as goal

pub loop-i-init : goal.loop-i-init
loop-i-init c =
    let count = c.in_ok-joining.ensures.count in
    let each : length c.in_ok-joining.joining ≡ length c.args.faces.now = omega arith in record {
      count = each;
      sound = λ arcs built. alone_sound c.args.f.now c.args.faces.now c.in_ok-joining.joining each c.in_ok-joining.ensures.alone;
      around = λ arcs built k l. absurd (omega arith);
      sides = λ arcs built. search rules;
      there = λ k d l. absurd (omega arith);
    }

pub loop-i-preserved : goal.loop-i-preserved
loop-i-preserved c =
    let step = c.in_ok-go_round.ensures in
    let faces = c.args.faces.now in
    let places = c.args.f.now.places in
    let before = c.loop-i.invariant in
    let i = c.loop-i.i in
    let l : i < length faces = c.loop-i-test.true in record {
      count = step.count;
      sound = λ arcs built. step.sound arcs built (before.sound arcs built);
      around = λ arcs built k m. elim (cases_lt k i) [
        | inl less ↦ around_kept c.args.f.now faces c.loop-i.joining c.go_round.new.joining k before.count (omega arith) step.kept (before.around arcs built k less)
        | inr more ↦ (let same : i ≡ k = omega arith in subst (λ (j : ℕ). IsJoinedAround c.args.f.now faces j c.go_round.new.joining) same (step.around arcs built))
      ];
      sides = λ arcs built.
          let many = length arcs in
          let e = length-take i faces in
          let at : 0 + length (take i faces) ≡ i = omega arith in
          step.sides arcs built
          ∙ ap (λ (ss : List Side). ss ++ map (side_at i) (outward_at places many faces (get_or faces i 0))) (before.sides arcs built)
          ∙ sym (ap (sides_from places many faces 0) (take_more faces i 0 l) ∙ sides_more places many faces 0 (get_or faces i 0) (take i faces)
          ∙ ap (λ (n : ℕ). sides_from places many faces 0 (take i faces) ++ map (side_at n) (outward_at places many faces (get_or faces i 0))) at);
      there = step.there;
    }

pub returns-clause-exact : goal.returns-clause-exact
returns-clause-exact c = λ arcs built.
    let done = c.loop-i-test.false in
    joined_by c.args.f.now c.args.faces.now c.loop-i.joining c.requires.ascending (c.loop-i.invariant.sound arcs built) (λ k l. c.loop-i.invariant.around arcs built k (omega arith))

pub returns-clause-sides : goal.returns-clause-sides
returns-clause-sides c = λ arcs built.
    let done = c.loop-i-test.false in
    c.loop-i.invariant.sides arcs built ∙ ap (sides_from c.args.f.now.places (length arcs) c.args.faces.now 0) (take_all c.loop-i.i c.args.faces.now (omega arith))
