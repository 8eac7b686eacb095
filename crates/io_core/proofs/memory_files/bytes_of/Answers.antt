use Rattle.std.proofs.Common.{refl, sym, ◌∙◌}
use Rattle.io_core.proofs.Entries.{held_absent, held_at}
use Rattle.io_core.proofs.memory_files.bytes_of.Goals as goal

pub returns-in_err-place : goal.returns-in_err-place
returns-in_err-place c = record { there = rw c.from_residual.ensures (sym (held_absent c.args.entries.now _ _ c.args.name.now refl refl c.in_err-place.ensures.place)) }

pub returns : goal.returns
returns c = record { there = c.held.ensures.there ∙ sym (held_at c.args.entries.now _ _ c.args.name.now _ _ refl refl c.in_ok-place.ensures.place c.index-entries-place.is) }
