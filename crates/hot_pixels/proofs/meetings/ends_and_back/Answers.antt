use Rattle.std.proofs.Common.{◌∙◌, inl, inr, sym}
use Rattle.hot_pixels.proofs.MeetingLemmas.{ends_around, ends_moved}
use Rattle.hot_pixels.proofs.meetings.ends_and_back.Goals as goal

pub returns-then-is_before : goal.returns-then-is_before
returns-then-is_before c = record {
  made = λ back k.
      ends_around c.args.s.now c.a-a.result c.b-b.result back c.in_ok-backward.backward.items (c.in_ok-backward.ensures.exact back k) (inl c.a-a.ensures.exact) (inr c.b-b.ensures.exact)
      (λ g n. elim n [ inl e ↦ inl (c.a-a.ensures.exact ∙ sym e) | inr e ↦ inr (c.b-b.ensures.exact ∙ sym e) ]);
}

pub returns : goal.returns
returns c = record {
  made = λ back k.
      ends_moved c.args.s.now back c.in_ok-forward.forward.items c.reverse.new.self.items c.reverse.ensures.permutation
      (ends_around c.args.s.now c.b-b.result c.a-a.result back c.in_ok-forward.forward.items (c.in_ok-forward.ensures.exact back k) (inr c.b-b.ensures.exact) (inl c.a-a.ensures.exact)
      (λ g n. elim n [ inl e ↦ inr (c.a-a.ensures.exact ∙ sym e) | inr e ↦ inl (c.b-b.ensures.exact ∙ sym e) ]));
}
