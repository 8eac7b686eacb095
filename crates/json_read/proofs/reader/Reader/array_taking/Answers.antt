use Rattle.std.proofs.Common.{arith, refl, suc, ◌-◌, ◌≡◌, ◌∙◌, true, List, ℕ, subst, inl, inr}
use Rattle.numerals.specs.Bytes.{NextIsNot}
use Rattle.json_read.proofs.Parts.{at_exit}
use Rattle.json_read.proofs.Taking.{array_taken, array_breaks}
use Rattle.json_read.proofs.reader.Reader.array_taking.Goals as goal

pub returns-in_err-items_taking-clause-taken : goal.returns-in_err-items_taking-clause-taken
returns-in_err-items_taking-clause-taken g c =
    let up : suc (c.args.depth - 1) ≡ c.args.depth = (let more = c.requires.room in omega arith) in
    λ first. at_exit _ _ c.from_residual.result c.in_err-items_taking.field-0.0 c.from_residual.ensures.1 (array_breaks c.args.depth (c.args.depth - 1) c.in_err-items_taking.field-0.0 _ _ _ _ up c.skip_white.ensures.exact (c.take.ensures.taken c.if-not-take.false) (c.in_err-items_taking.ensures.read first))

pub returns-clause-taken : goal.returns-clause-taken
returns-clause-taken g c =
    let up : suc (c.args.depth - 1) ≡ c.args.depth = (let more = c.requires.room in omega arith) in
    λ first e. array_taken c.args.depth (c.args.depth - 1) (g.T.ItemTaker.took first c.args.taker.now) (g.T.ItemTaker.took first c.items_taking.new.taker) c.args.taking.now (record { fields = c.args.taking.now.fields; is_taken = true }) _ _ _ _ _ up c.skip_white.ensures.exact (c.take.ensures.taken c.if-not-take.false) (c.in_ok-items_taking.ensures.read first) c.skip_white-2.ensures.exact c.if-taking.false refl refl

pub returns-then-taking-clause-other : goal.returns-then-taking-clause-other
returns-then-taking-clause-other g c = λ e. inl c.if-taking.true

pub returns-then-not-take-clause-other : goal.returns-then-not-take-clause-other
returns-then-not-take-clause-other g c =
    λ e. inr (subst (λ (bytes : List ℕ). NextIsNot 91 bytes) (c.take.ensures.stays c.if-not-take.true ∙ c.skip_white.ensures.exact) (c.take.ensures.other c.if-not-take.true))
