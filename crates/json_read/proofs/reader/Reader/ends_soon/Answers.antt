use Rattle.std.proofs.Common.{sym, ◌∙◌, inl, inr}
use Rattle.json_read.proofs.reader.Reader.ends_soon.Goals as goal

pub returns-then-take : goal.returns-then-take
returns-then-take c = record { ended = λ e d. inl (c.take.ensures.taken c.if-take.true) }

pub returns : goal.returns
returns c = record {
  ended = λ e d. (let h = c.in-Some.ensures.read d in
      inr (h.0, c.take-2.new.self.rest.now, c.grid_number.new.self.rest.now, sym (c.take.ensures.stays c.if-take.false) ∙ c.take-2.ensures.taken c.if-not-take.false, h.1, c.take-3.ensures.taken e));
}
