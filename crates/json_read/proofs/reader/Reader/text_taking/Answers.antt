use Rattle.std.proofs.Common.{length, ap, sym, ◌∙◌, refl, ◌-◌, List, ℕ, subst, inl, inr}
use Rattle.std.proofs.lemmas.Bool.{eqb-true, eqb-false}
use Rattle.numerals.specs.Bytes.{NextIsNot}
use Rattle.json_read.specs.Taking.{HasTakenObject, HasOtherMember}
use Rattle.json_read.specs.declared.reader.TheConstants.{MAX_DEPTH}
use Rattle.json_read.proofs.Parts.{at_exit, empty}
use Rattle.json_read.proofs.Taking.{found_object, none_found, taken_whole, taken_end, object_breaks}
use Rattle.json_read.proofs.Texts.{text_mark}
use Rattle.json_read.proofs.reader.Reader.text_taking.Goals as goal

pub returns-in_err-mark-clause-taken : goal.returns-in_err-mark-clause-taken
returns-in_err-mark-clause-taken g c = λ first. at_exit _ _ c.from_residual.result c.in_err-mark.field-0.0 c.from_residual.ensures.1 (text_mark MAX_DEPTH c.in_err-mark.field-0.0 _ _ c.in_err-mark.ensures.read)

pub returns-in_err-object-clause-taken : goal.returns-in_err-object-clause-taken
returns-in_err-object-clause-taken g c =
    λ first. at_exit _ _ c.from_residual-in_err-object.result c.in_err-object.field-0.0 c.from_residual-in_err-object.ensures.1 (object_breaks MAX_DEPTH (MAX_DEPTH - 1) c.in_err-object.field-0.0 _ _ _ _ _ refl c.in_ok-mark.ensures.read c.skip_white.ensures.exact (c.take.ensures.taken c.if-not-take.false) (c.in_err-object.ensures.taken first))

pub returns-then-is_empty-clause-taken : goal.returns-then-is_empty-clause-taken
returns-then-is_empty-clause-taken g c =
    λ first. (let before = g.T.ItemTaker.took first c.args.taker.now in let now = g.T.ItemTaker.took first c.object_taking.new.taker in
    let h = found_object (λ o. HasTakenObject (MAX_DEPTH - 1) before now c.args.wanted.now o c.take.new.self.rest.now c.object_taking.new.self.rest.now) c.in_ok-object.field-0 c.in-Some.object c.in-Some.is (c.in_ok-object.ensures.taken first) in
    taken_whole MAX_DEPTH (MAX_DEPTH - 1) before now c.args.wanted.now c.in-Some.object.fields c.in-Some.object.is_taken _ _ _ _ _ _ refl c.in_ok-mark.ensures.read c.skip_white.ensures.exact (c.take.ensures.taken c.if-not-take.false) h c.skip_white-2.ensures.exact (empty _ (eqb-true (length c.skip_white-2.new.self.rest.now) 0 (sym c.is_empty.ensures ∙ c.if-is_empty.true))))

pub returns-else-is_empty-clause-taken : goal.returns-else-is_empty-clause-taken
returns-else-is_empty-clause-taken g c =
    λ first. (let before = g.T.ItemTaker.took first c.args.taker.now in let now = g.T.ItemTaker.took first c.object_taking.new.taker in
    let h = found_object (λ o. HasTakenObject (MAX_DEPTH - 1) before now c.args.wanted.now o c.take.new.self.rest.now c.object_taking.new.self.rest.now) c.in_ok-object.field-0 c.in-Some.object c.in-Some.is (c.in_ok-object.ensures.taken first) in
    taken_end MAX_DEPTH (MAX_DEPTH - 1) before now c.args.wanted.now c.in-Some.object.fields c.in-Some.object.is_taken _ _ _ _ _ _ refl c.in_ok-mark.ensures.read c.skip_white.ensures.exact (c.take.ensures.taken c.if-not-take.false) h c.skip_white-2.ensures.exact (λ e. eqb-false (length c.skip_white-2.new.self.rest.now) 0 (sym c.is_empty.ensures ∙ c.if-is_empty.false) (ap length e)))

pub returns-then-not-take-clause-other : goal.returns-then-not-take-clause-other
returns-then-not-take-clause-other g c =
    (c.mark.new.self.rest.now, c.in_ok-mark.ensures.read, inl (subst (λ (bytes : List ℕ). NextIsNot 123 bytes) (c.take.ensures.stays c.if-not-take.true ∙ c.skip_white.ensures.exact) (c.take.ensures.other c.if-not-take.true)))

pub returns-in_default-clause-other : goal.returns-in_default-clause-other
returns-in_default-clause-other g c =
    let inner = c.take.new.self.rest.now in
    let member = none_found (HasOtherMember (MAX_DEPTH - 1) c.args.wanted.now inner) c.in_ok-object.field-0 c.in_default.not-Some c.in_ok-object.ensures.other in
    (c.mark.new.self.rest.now, c.in_ok-mark.ensures.read, inr (inner, sym c.skip_white.ensures.exact ∙ c.take.ensures.taken c.if-not-take.false, member))
