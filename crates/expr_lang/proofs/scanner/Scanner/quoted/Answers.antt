use Rattle.std.proofs.Common.{ℕ, ◌++◌, List, ap, sym, ◌∙◌}
use Rattle.std.specs.Prelude.{encode_utf8}
use Rattle.std.specs.String.{string_bytes}
use Rattle.expr_lang.specs.Reading.{known_content}
use Rattle.expr_lang.specs.Tokens.{text_at}
use Rattle.expr_lang.proofs.Quotes.{over_plain, over_escape, over_unknown, shorter}
use Rattle.expr_lang.proofs.scanner.Scanner.quoted.Goals as goal

pub loop-c-smaller-then-c-ne92 : goal.loop-c-smaller-then-c-ne92
loop-c-smaller-then-c-ne92 c = shorter c.in-Some.c _ _ c.in-Some.ensures.exact.0

pub loop-c-preserved-then-c-ne92 : goal.loop-c-preserved-then-c-ne92
loop-c-preserved-then-c-ne92 c =
    ap (λ (z : List ℕ). text_at c.args.quote (known_content c.loop-c.other z) c.next_in_line.new.self.rest.now) c.in_ok-push.ensures.bytes
    ∙ over_plain c.args.quote c.in-Some.c c.loop-c.other _ _ _ c.requires (λ e. c.if-c-from.false (e ∙ sym c.from.ensures)) c.in-Some.ensures.exact.1 c.if-c-ne92.true c.in-Some.ensures.exact.0
    ∙ c.loop-c.invariant

pub loop-c-preserved-in-Continue-branch-2 : goal.loop-c-preserved-in-Continue-branch-2
loop-c-preserved-in-Continue-branch-2 c =
    ap (λ (z : List ℕ). text_at c.args.quote (known_content c.loop-c.other z) c.next_in_line-in-loop-c.new.self.rest.now) c.in_ok-push-in-Some-escape_of.ensures.bytes
    ∙ over_escape c.args.quote c.in-Some-next_in_line.c c.in-Some-escape_of.c c.loop-c.other _ _ _ _ c.requires (sym c.escape_of.ensures.exact ∙ c.in-Some-escape_of.is) (c.in-Some.ensures.exact.0 ∙ ap (λ (n : ℕ). encode_utf8 n ++ c.next_in_line.new.self.rest.now) c.if-c-ne92.false) c.in-Some-next_in_line.ensures.exact.0
    ∙ c.loop-c.invariant

pub loop-c-preserved : goal.loop-c-preserved
loop-c-preserved c =
    over_unknown c.args.quote c.in-Some-next_in_line.c c.loop-c.other (string_bytes c.loop-c.content) _ _ _ c.requires c.in-Some-next_in_line.ensures.exact.1 (sym c.escape_of.ensures.exact ∙ c.in-None.is) (c.in-Some.ensures.exact.0 ∙ ap (λ (n : ℕ). encode_utf8 n ++ c.next_in_line.new.self.rest.now) c.if-c-ne92.false) c.in-Some-next_in_line.ensures.exact.0
    ∙ c.loop-c.invariant
