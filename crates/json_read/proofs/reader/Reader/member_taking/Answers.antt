use Rattle.std.proofs.Common.{◌≡◌, ◌∙◌, ap, sym, true, List, ℕ}
use Rattle.std.specs.Str.{bytes_eq}
use Rattle.json_read.proofs.Taking.{wanted_member, named_other}
use Rattle.json_read.proofs.reader.Reader.member_taking.Goals as goal

pub returns-then-eq-clause-taken : goal.returns-then-eq-clause-taken
returns-then-eq-clause-taken g c =
    let named : bytes_eq c.args.name c.args.wanted.now ≡ true = sym (ap (λ (n : List ℕ). bytes_eq n c.args.wanted.now) c.as_str.ensures.lent) ∙ sym c.eq.ensures ∙ c.if-eq.true in
    λ first. wanted_member c.args.depth (g.T.ItemTaker.took first c.args.taker.now) (g.T.ItemTaker.took first c.array_taking.new.taker) c.args.wanted.now c.args.name c.args.taking.now c.array_taking.new.taking c.array_taking.result c.args.self.now.rest.now c.array_taking.new.self.rest.now named (c.array_taking.ensures.taken first)

pub returns-then-eq-clause-other : goal.returns-then-eq-clause-other
returns-then-eq-clause-other g c =
    let named : bytes_eq c.args.name c.args.wanted.now ≡ true = sym (ap (λ (n : List ℕ). bytes_eq n c.args.wanted.now) c.as_str.ensures.lent) ∙ sym c.eq.ensures ∙ c.if-eq.true in
    named_other c.args.wanted.now c.args.name c.args.self.now.rest.now c.args.taking.now c.array_taking.result named c.array_taking.ensures.other
