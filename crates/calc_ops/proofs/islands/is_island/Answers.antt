use Rattle.std.proofs.Common.{◌≡◌, ◌∙◌, ◌<◌, sym, ap, subst, arith, Bool, ◌&&◌, List, length, All}
use Rattle.std.proofs.lemmas.List.Elements.{All-weaker}
use Rattle.std.proofs.lemmas.Result.{IfOk-weaker}
use Rattle.plane_model.specs.Arcs.{SignedArc}
use Rattle.face_walk.specs.Places.{HasArc}
use Rattle.face_sets.specs.Sets.{area_of}
use Rattle.calc_ops.specs.Islands.{border, is_detached, is_small, is_island, links_of}
use Rattle.calc_ops.proofs.islands.is_island.Goals as goal

pub returns-then-not-is_detached : goal.returns-then-not-is_detached
returns-then-not-is_detached c = record {
  exact = λ sets h.
      let arcs = c.args.t.now in
      let faces = c.args.f.now in
      let piece = c.args.piece.now in
      let least = c.args.least in
      let around = c.deref.ensures.value ∙ c.in_ok-around.ensures.exact arcs c.requires.built in
      let apart = ap (is_detached faces sets c.args.n) (sym around) ∙ sym (c.is_detached.ensures.exact sets h) ∙ c.if-not-is_detached.true in
      sym (ap (λ (b : Bool). b && is_small least.area least.links (area_of faces.areas piece) (links_of arcs (border arcs faces piece))) apart);
}

pub returns : goal.returns
returns c = record {
  exact = λ sets h.
      let arcs = c.args.t.now in
      let faces = c.args.f.now in
      let piece = c.args.piece.now in
      let least = c.args.least in
      let around = c.deref.ensures.value ∙ c.in_ok-around.ensures.exact arcs c.requires.built in
      let around_too = c.deref-2.ensures.value ∙ c.in_ok-around.ensures.exact arcs c.requires.built in
      let apart = ap (is_detached faces sets c.args.n) (sym around) ∙ sym (c.is_detached.ensures.exact sets h) ∙ c.if-not-is_detached.false in
      IfOk-weaker c.is_small.result (λ small. small ≡ is_small least.area least.links (area_of faces.areas piece) (links_of arcs c.deref-2.result.now)) (λ island. island ≡ is_island arcs faces sets least.area least.links c.args.n piece)
      (λ small e. e ∙ ap (λ (way : List SignedArc). is_small least.area least.links (area_of faces.areas piece) (links_of arcs way)) around_too
      ∙ sym (ap (λ (b : Bool). b && is_small least.area least.links (area_of faces.areas piece) (links_of arcs (border arcs faces piece))) apart))
      c.is_small.ensures.exact;
}

pub is_small-requires-clause-there : goal.is_small-requires-clause-there
is_small-requires-clause-there c =
    let arcs = c.args.t.now in
    let many = c.requires.built.places_counted in
    subst (λ (way : List SignedArc). All (λ a. a.arc < length arcs) way) (sym c.deref-2.ensures.value)
    (All-weaker (HasArc c.args.f.now) (λ (a : SignedArc). a.arc < length arcs) (λ a h. omega (arith, many, h)) c.in_ok-around.around.items c.in_ok-around.ensures.there)
