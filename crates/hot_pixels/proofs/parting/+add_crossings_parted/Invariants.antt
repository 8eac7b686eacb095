use Rattle.hot_pixels.proofs.parting.+add_crossings_parted.Given as goal

abbrev pub decreases-add_crossings_parted : goal.decreases-add_crossings_parted
decreases-add_crossings_parted l = l.lines
