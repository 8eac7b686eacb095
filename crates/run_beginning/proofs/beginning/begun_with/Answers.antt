use Rattle.run_beginning.proofs.beginning.begun_with.Goals as goal

pub returns : goal.returns
returns c = record {
  over = λ s given laid along drawn. record { features = c.args.laid.features.items; laid = laid; begun = c.in_ok-begin_sources.ensures.begun c.args.laid.plane.arcs s.lines given along drawn };
}
