use Rattle.std.proofs.Common.{ap}
use Rattle.std.proofs.lemmas.Result.{on_ok_weaker, on_err_weaker}
use Rattle.io_core.proofs.Entries.{ready_at, ready_new}
use Rattle.io_core.proofs.FilesSteps.{ready_map, unready_map, on_both}
use Rattle.io_core.proofs.memory_files.MemFiles.ready.Goals as goal

pub returns-in-Some-clause-ready : goal.returns-in-Some-clause-ready
returns-in-Some-clause-ready c =
    let entries = ap (λ f. f.entries) c.self.view_is in
    on_ok_weaker c.widen.result (λ widened. ready_at _ _ _ _ _ _ _ _ entries c.deref.ensures.value c.in-Some.ensures.place c.index_mut-entry.ensures.value widened) c.widen.ensures.ok

pub returns-clause-ready : goal.returns-clause-ready
returns-clause-ready c =
    let entries = ap (λ f. f.entries) c.self.view_is in
    ready_new _ _ _ _ _ _ _ entries c.deref.ensures.value c.in_default.ensures.place c.in_ok-entry.ensures.made c.in_ok-push.ensures.items

pub returns-in-Some-clause-map : goal.returns-in-Some-clause-map
returns-in-Some-clause-map c =
    let entries = ap (λ f. f.entries) c.self.view_is in
    on_both c.widen.result
    (on_ok_weaker c.widen.result
    (λ widened. ready_map _ _ _ _ (ready_at _ _ _ _ _ _ _ _ entries c.deref.ensures.value c.in-Some.ensures.place c.index_mut-entry.ensures.value widened)) c.widen.ensures.ok)
    (on_err_weaker c.widen.result (λ same. unready_map _ _ _ _ _ entries c.index_mut-entry.ensures.value same) c.widen.ensures.err)

pub returns-clause-map : goal.returns-clause-map
returns-clause-map c =
    let entries = ap (λ f. f.entries) c.self.view_is in
    ready_map _ _ _ _ (ready_new _ _ _ _ _ _ _ entries c.deref.ensures.value c.in_default.ensures.place c.in_ok-entry.ensures.made c.in_ok-push.ensures.items)
