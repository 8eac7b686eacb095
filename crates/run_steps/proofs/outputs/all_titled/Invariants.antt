use Rattle.std.proofs.Common.{◌≡◌, ◌++◌, List, length, option_copied}
use Rattle.std.specs.List.{AllZip}
use Rattle.std.specs.Vec.Iter.{into_iter_items, into_iter_len}
use Rattle.run_steps.specs.Commands.{IsTitled}
use Rattle.run_plane.specs.declared.layer.Layer.{Layer}
use Rattle.run_steps.proofs.outputs.all_titled.Given as goal

abbrev pub invariant-loop-layer : goal.invariant-loop-layer
invariant-loop-layer l =
    (into_iter_len l.layer-iterator ≡ length (into_iter_items l.layer-iterator))
    × ((taken : List Layer) × (taken ++ into_iter_items l.layer-iterator ≡ l.fn.layers.items) × AllZip (IsTitled (option_copied l.name)) taken l.all.items)
