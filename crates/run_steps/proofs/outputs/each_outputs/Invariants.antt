use Rattle.std.proofs.Common.{map, take}
use Rattle.std.specs.List.{AllZip}
use Rattle.run_plane.specs.OnPlane.{AreAllOn}
use Rattle.run_state.specs.Origins.{base_of}
use Rattle.run_steps.specs.Commands.{PutsFor}
use Rattle.run_steps.specs.Refusals.{RefusesLayer}
use Rattle.run_steps.proofs.Refusals.{RefuseFrom}
use Rattle.run_steps.proofs.outputs.each_outputs.Given as goal

abbrev pub invariant-loop-held : goal.invariant-loop-held
invariant-loop-held l = record {
  puts : AllZip (PutsFor (base_of l.base) l.layers l.command l.action) (take l.held-index l.layers) (map (λ out. out.items) l.outputs.items);
  on : AreAllOn l.base.plane.now (map (λ out. out.items) l.outputs.items);
  refused : RefuseFrom (RefusesLayer (base_of l.base) l.layers l.action) l.command.target l.layers l.held-index;
}
