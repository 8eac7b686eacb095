use Rattle.std.proofs.Common.{ap, sym}
use Rattle.io_core.proofs.FilesSteps.{append_fails_is, appended_at, appended_holds, some_appended, appended_after, append_failed_after}
use Rattle.io_core.proofs.memory_files.MemFilesFiles.append.Goals as goal

pub returns-clause-appends : goal.returns-clause-appends
returns-clause-appends c =
    let entries = ap (λ f. f.entries) c.self.view_is in
    let step = appended_at _ _ _ _ _ _ _ _ _ entries c.deref.ensures.value c.in-Some.ensures.place c.index_mut-entry.ensures.value c.append_some.ensures.appended in
    appended_holds _ _ _ _ _ _ _ step.0 step.1 c.append_some.ensures.none_before c.append_some.ensures.count

pub returns-clause-appended : goal.returns-clause-appended
returns-clause-appended c =
    let entries = ap (λ f. f.entries) c.self.view_is in
    let step = appended_at _ _ _ _ _ _ _ _ _ entries c.deref.ensures.value c.in-Some.ensures.place c.index_mut-entry.ensures.value c.append_some.ensures.appended in
    let most = ap (λ f. f.most) c.self.view_is in
    rw (step.0, ← most) step.1

pub returns-clause-moves : goal.returns-clause-moves
returns-clause-moves c =
    let entries = ap (λ f. f.entries) c.self.view_is in
    let step = appended_at _ _ _ _ _ _ _ _ _ entries c.deref.ensures.value c.in-Some.ensures.place c.index_mut-entry.ensures.value c.append_some.ensures.appended in
    let most = ap (λ f. f.most) c.self.view_is in
    rw (step.0, ← most) c.append_some.ensures.count

pub returns-clause-some : goal.returns-clause-some
returns-clause-some c =
    some_appended _ _ _ _ _ _ _ _ _ c.deref.ensures.value c.in-Some.ensures.refused c.in-Some.ensures.place c.index_mut-entry.ensures.value c.self.invariant c.append_some.ensures.count

pub returns-clause-fails : goal.returns-clause-fails
returns-clause-fails c =
    sym (append_fails_is _ _ _ _ _ _ _ c.self.view_is c.deref.ensures.value c.next_fails-listed.ensures.listed c.in-Some.ensures.refused)

pub returns-clause-after : goal.returns-clause-after
returns-clause-after c =
    let fails = append_fails_is _ _ _ _ _ _ _ c.self.view_is c.deref.ensures.value c.next_fails-listed.ensures.listed c.in-Some.ensures.refused in
    appended_after _ _ _ _ _ c.self.view_is c.next_fails-listed.ensures.counted fails

pub returns-in_default-clause-fails : goal.returns-in_default-clause-fails
returns-in_default-clause-fails c =
    sym (append_fails_is _ _ _ _ _ _ _ c.self.view_is c.deref.ensures.value c.next_fails-listed.ensures.listed c.in_default.ensures.refused)

pub returns-in_default-clause-after : goal.returns-in_default-clause-after
returns-in_default-clause-after c =
    let fails = append_fails_is _ _ _ _ _ _ _ c.self.view_is c.deref.ensures.value c.next_fails-listed.ensures.listed c.in_default.ensures.refused in
    append_failed_after _ _ _ _ _ _ c.self.view_is c.next_fails-listed.ensures.counted c.saturating_add-self-inside.ensures fails
