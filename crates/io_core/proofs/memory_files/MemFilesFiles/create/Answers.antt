use Rattle.std.proofs.Common.{refl, ap, sym}
use Rattle.io_core.proofs.FilesSteps.{create_fails_is, Holds-became, created_at, created_after, create_failed_after}
use Rattle.io_core.proofs.memory_files.MemFilesFiles.create.Goals as goal

pub returns-clause-created : goal.returns-clause-created
returns-clause-created c =
    let entries = ap (λ f. f.entries) c.self.view_is in
    created_at _ _ _ _ _ _ _ entries c.deref.ensures.value c.in-Some.ensures.place c.index_mut-entry.ensures.value c.create.ensures.emptied

pub returns-clause-made : goal.returns-clause-made
returns-clause-made c =
    let entries = ap (λ f. f.entries) c.self.view_is in
    let became = created_at _ _ _ _ _ _ _ entries c.deref.ensures.value c.in-Some.ensures.place c.index_mut-entry.ensures.value c.create.ensures.emptied in
    Holds-became _ _ _ _ _ became refl

pub returns-clause-fails : goal.returns-clause-fails
returns-clause-fails c = sym (create_fails_is _ _ _ _ _ _ c.self.view_is c.deref.ensures.value c.next_fails-listed.ensures.listed c.in-Some.ensures.refused)

pub returns-clause-after : goal.returns-clause-after
returns-clause-after c =
    let fails = create_fails_is _ _ _ _ _ _ c.self.view_is c.deref.ensures.value c.next_fails-listed.ensures.listed c.in-Some.ensures.refused in
    created_after _ _ _ _ _ c.self.view_is c.next_fails-listed.ensures.counted fails

pub returns-in_default-clause-fails : goal.returns-in_default-clause-fails
returns-in_default-clause-fails c = sym (create_fails_is _ _ _ _ _ _ c.self.view_is c.deref.ensures.value c.next_fails-listed.ensures.listed c.in_default.ensures.refused)

pub returns-in_default-clause-after : goal.returns-in_default-clause-after
returns-in_default-clause-after c =
    let fails = create_fails_is _ _ _ _ _ _ c.self.view_is c.deref.ensures.value c.next_fails-listed.ensures.listed c.in_default.ensures.refused in
    create_failed_after _ _ _ _ _ _ c.self.view_is c.next_fails-listed.ensures.counted c.saturating_add-self-inside.ensures fails
