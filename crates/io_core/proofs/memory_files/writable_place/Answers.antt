use Rattle.std.proofs.Common.{refl, sym, ◌∙◌}
use Rattle.io_core.proofs.Entries.{no_room_absent, no_room_at}
use Rattle.io_core.proofs.memory_files.writable_place.Goals as goal

pub returns-in_err-place : goal.returns-in_err-place
returns-in_err-place c =
    let room = no_room_absent c.args.entries.now c.args.name.now c.args.count c.in_err-place.ensures.place in
    record { refused = rw (c.from_residual.ensures, c.if-listed.false, room) refl; place = rw c.from_residual.ensures tt }

pub returns-then-is_full_for-clause-refused : goal.returns-then-is_full_for-clause-refused
returns-then-is_full_for-clause-refused c =
    let full = no_room_at c.args.entries.now c.args.name.now c.args.count _ _ c.in_ok-place.ensures.place c.index-entries-place.is ∙ sym c.is_full_for.ensures.full ∙ c.if-is_full_for.true in
    rw (c.if-listed.false, full) refl

pub returns-clause-refused : goal.returns-clause-refused
returns-clause-refused c =
    let full = no_room_at c.args.entries.now c.args.name.now c.args.count _ _ c.in_ok-place.ensures.place c.index-entries-place.is ∙ sym c.is_full_for.ensures.full ∙ c.if-is_full_for.false in
    rw (c.if-listed.false, full) refl
