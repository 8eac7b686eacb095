use Rattle.std.proofs.Common.{ap}
use Rattle.io_core.proofs.Entries.{put_at, put_new}
use Rattle.io_core.proofs.memory_files.MemFiles.put.Goals as goal

pub returns-in-Some-clause-held : goal.returns-in-Some-clause-held
returns-in-Some-clause-held c =
    let entries = ap (λ f. f.entries) c.self.view_is in
    put_at _ _ _ _ _ _ _ _ _ entries c.deref.ensures.value c.in-Some.ensures.place c.index_mut-entry.ensures.value c.in_ok-widen.ensures.ok c.fill.ensures.filled

pub returns-clause-held : goal.returns-clause-held
returns-clause-held c =
    let entries = ap (λ f. f.entries) c.self.view_is in
    put_new _ _ _ _ _ _ _ _ entries c.deref.ensures.value c.in_default.ensures.place c.in_ok-entry.ensures.made c.fill-2.ensures.filled c.in_ok-push.ensures.items
