-- What a command is refused for at work: a layer of its target, or the number of layers.
use Rattle.std.proofs.Common.{◌≡◌, ◌∙◌, ℕ, ◌+◌, List, length, None, Option, ap, sym, sum_by, subst}
use Rattle.std.specs.List.{AllZip}
use Rattle.job_terms.specs.declared.job.Command.{Command}
use Rattle.job_terms.specs.declared.job.JointAction.{JointAction}
use Rattle.job_terms.specs.declared.job.LayerAction.{LayerAction}
use Rattle.run_plane.specs.declared.layer.Layer.{Layer}
use Rattle.run_state.specs.Origins.{Base}
use Rattle.run_state.specs.Stops.{StopsAs, StopsFor}
use Rattle.run_state.specs.Targets.{placed, targets}
use Rattle.run_state.specs.declared.refusal.RefuseWhy.{RefuseWhy}
use Rattle.run_state.specs.declared.state.CommandStop.{CommandStop}
use Rattle.run_state.specs.declared.state.HeldLayer.{HeldLayer}
use Rattle.run_steps.specs.Commands.{PutsFor, PutsTogether}
use Rattle.run_steps.specs.Refusals.{FailsEach, RefusesIn, RefusesLayer, failed_together, output_count, overfull_each, refused_count, refused_together, stay_count}
use Rattle.run_steps.proofs.Counting.{left_by_each, left_together}
use Rattle.run_steps.proofs.Refusals.{goes_counted, stops_at_first, stops_after, stops_counted}

-- a layer of the target is refused
pub each_stopped : (base : Base) (layers seen : List HeldLayer) (c : Command) (a : LayerAction) (s : CommandStop) → seen ≡ layers →
    StopsAs (RefusesIn (RefusesLayer base seen a) (targets c.target seen)) s → StopsAs (FailsEach base layers c a) s
each_stopped base layers seen c a s same stops =
    stops_at_first (RefusesIn (RefusesLayer base layers a) (targets c.target layers)) (λ (told : Option RefuseWhy). overfull_each layers c a ≡ told) s
    (subst (λ (ls : List HeldLayer). StopsAs (RefusesIn (RefusesLayer base ls a) (targets c.target ls)) s) same stops)

-- none is, and the number decides
module _ (base : Base) (layers seen : List HeldLayer) (c : Command) (outputs : List (List Layer)) (same : seen ≡ layers) (a : LayerAction) (puts : AllZip (PutsFor base seen c a) seen outputs) where
  none_refused : RefusesIn (RefusesLayer base seen a) (targets c.target seen) None → RefusesIn (RefusesLayer base layers a) (targets c.target layers) None
  none_refused none = subst (λ (ls : List HeldLayer). RefusesIn (RefusesLayer base ls a) (targets c.target ls) None) same none

  as_many : length (placed c layers outputs) ≡ stay_count c layers + sum_by (output_count a) (targets c.target layers)
  as_many = left_by_each base layers c a outputs (subst (λ (ls : List HeldLayer). AllZip (PutsFor base ls c a) ls outputs) same puts)

  pub each_goes : RefusesIn (RefusesLayer base seen a) (targets c.target seen) None → refused_count (length (placed c layers outputs)) ≡ None → FailsEach base layers c a None
  each_goes none few = (none_refused none, ap refused_count (sym as_many) ∙ few)

  pub each_stops : (s : CommandStop) → RefusesIn (RefusesLayer base seen a) (targets c.target seen) None → StopsFor (refused_count (length (placed c layers outputs))) s → StopsAs (FailsEach base layers c a) s
  each_stops s none stops =
      stops_after (RefusesIn (RefusesLayer base layers a) (targets c.target layers)) (λ (told : Option RefuseWhy). overfull_each layers c a ≡ told) s (none_refused none)
      (subst (λ (n : ℕ). StopsFor (refused_count n) s) as_many stops)

module _ (base : Base) (layers seen : List HeldLayer) (c : Command) (outputs : List (List Layer)) (same : seen ≡ layers) (a : JointAction) where
  pub together_goes : PutsTogether base c a seen outputs → refused_together a (targets c.target seen) ≡ None → refused_count (length (placed c layers outputs)) ≡ None → failed_together layers c a ≡ None
  together_goes puts none few =
      let put = subst (λ (ls : List HeldLayer). PutsTogether base c a ls outputs) same puts in
      let no = subst (λ (ls : List HeldLayer). refused_together a (targets c.target ls) ≡ None) same none in
      goes_counted (refused_together a (targets c.target layers)) (length (placed c layers outputs)) (stay_count c layers + 1) no (left_together base layers c a outputs put) few

  pub together_stops : (s : CommandStop) → PutsTogether base c a seen outputs → refused_together a (targets c.target seen) ≡ None → StopsFor (refused_count (length (placed c layers outputs))) s → StopsFor (failed_together layers c a) s
  together_stops s puts none stops =
      let put = subst (λ (ls : List HeldLayer). PutsTogether base c a ls outputs) same puts in
      let no = subst (λ (ls : List HeldLayer). refused_together a (targets c.target ls) ≡ None) same none in
      stops_counted (refused_together a (targets c.target layers)) (length (placed c layers outputs)) (stay_count c layers + 1) s no (left_together base layers c a outputs put) stops
