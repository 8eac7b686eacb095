use Rattle.std.proofs.Common.{sym}
use Rattle.face_sets.proofs.SetLemmas.{search_found, search_misses}
use Rattle.spatial_join.proofs.joined.is_listed.Goals as goal

pub returns-in-Ok : goal.returns-in-Ok
returns-in-Ok c = record { exact = sym (search_found c.args.numbers.now c.args.n c.in-Ok.field-0 c.requires.ascending c.in-Ok.ensures.position) }

pub returns-in-Err : goal.returns-in-Err
returns-in-Err c = record { exact = sym (search_misses c.args.numbers.now c.args.n c.in-Err.field-0 c.requires.ascending c.in-Err.ensures.position) }
