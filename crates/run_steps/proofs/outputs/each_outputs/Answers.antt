use Rattle.std.proofs.Common.{◌≡◌, ◌+◌, ◌++◌, ◌∷◌, [], length, map, take, refl, ap, sym, subst, subst₂, ◌∙◌, rules}
use Rattle.std.specs.List.{AllZip}
use Rattle.std.proofs.lemmas.List.{map-append, take_more}
use Rattle.std.proofs.lemmas.List.Elements.{All-push}
use Rattle.std.proofs.lemmas.Option.{slice_get_read, get_or_from_slice_get}
use Rattle.run_plane.specs.OnPlane.{AreAllOn, AreLayersOn}
use Rattle.run_state.specs.Origins.{base_of}
use Rattle.run_steps.specs.Commands.{PutsFor}
use Rattle.run_steps.specs.Refusals.{RefusesLayer}
use Rattle.run_state.specs.declared.state.HeldLayer.{HeldLayer}
use Rattle.run_plane.proofs.Growth.{zipped_on}
use Rattle.run_steps.proofs.Refusals.{all_pass, goes_past, stops_there}
use Rattle.run_steps.proofs.outputs.each_outputs.Goals as goal

pub loop-held-preserved : goal.loop-held-preserved
loop-held-preserved c =
    let xs = c.args.layers.now in
    let i = c.loop-held.held-index in
    let item = c.held-item.result in
    let there = slice_get_read xs (length xs) i item refl c.loop-held-test.true c.held-item.is in
    let more : take (i + 1) xs ≡ take i xs ++ item ∷ [] =
    take_more xs i item c.loop-held-test.true ∙ ap (λ (x : HeldLayer). take i xs ++ x ∷ []) (get_or_from_slice_get xs i item item there) in
    let plane = c.args.base.now.plane.now in
    let puts = PutsFor (base_of c.args.base.now) xs c.args.command.now c.args.action.now in
    let refuses = RefusesLayer (base_of c.args.base.now) xs c.args.action.now in
    let made = ap (map (λ out. out.items)) c.in_ok-push.ensures.items ∙ map-append (λ out. out.items) c.loop-held.outputs.items (c.in_ok-held_outputs.field-0 ∷ []) in
    record {
      puts = subst₂ (AllZip puts) (sym more) (sym made)
          (zipped_on puts (take i xs) (map (λ out. out.items) c.loop-held.outputs.items) item c.in_ok-held_outputs.field-0.items c.loop-held.invariant.puts c.in_ok-held_outputs.ensures.puts);
      on = subst (AreAllOn plane) (sym made) (All-push (AreLayersOn plane) (map (λ out. out.items) c.loop-held.outputs.items) c.in_ok-held_outputs.field-0.items c.loop-held.invariant.on c.in_ok-held_outputs.ensures.on);
      refused = goes_past refuses c.args.command.now.target xs i item c.loop-held-test.true there c.loop-held.invariant.refused c.in_ok-held_outputs.ensures.accepted;
    }

pub returns-in_err-held_outputs-clause-stops : goal.returns-in_err-held_outputs-clause-stops
returns-in_err-held_outputs-clause-stops c =
    let xs = c.args.layers.now in
    let i = c.loop-held.held-index in
    let item = c.held-item.result in
    let there = slice_get_read xs (length xs) i item refl c.loop-held-test.true c.held-item.is in
    let stops =
    stops_there (RefusesLayer (base_of c.args.base.now) xs c.args.action.now) c.args.command.now.target xs i item c.in_err-held_outputs.field-0.0 c.loop-held-test.true there c.loop-held.invariant.refused c.in_err-held_outputs.ensures.stops in
    search rules

pub returns-clause-accepted : goal.returns-clause-accepted
returns-clause-accepted c =
    all_pass (RefusesLayer (base_of c.args.base.now) c.args.layers.now c.args.action.now) c.args.command.now.target c.args.layers.now c.loop-held.held-index c.loop-held-test.false c.loop-held.invariant.refused
