use Rattle.std.proofs.Common.{◌≡◌, ◌++◌, ◌∷◌, [], ap, sym, subst}
use Rattle.std.proofs.lemmas.List.Elements.{All-same, All-append, All-cons, All-nil}
use Rattle.span_pool.specs.SpanPool.{Pool}
use Rattle.arc_table.specs.Direction.{IsForward}
use Rattle.arc_table.proofs.numbering.push_arc.Goals as goal

pub returns-clause-arcs : goal.returns-clause-arcs
returns-clause-arcs c =
    let spans : c.push_span.new.self.spans ≡ c.args.pool.now.spans ++ c.deref.result.now ∷ [] = ap (λ (p : Pool). p.spans) c.push_span.ensures.pushed in
    let last : IsForward c.deref.result.now = subst IsForward (sym c.deref.ensures.value) c.requires.forward in
    All-same IsForward c.push_span.new.self.spans (c.args.pool.now.spans ++ c.deref.result.now ∷ []) spans
    (All-append IsForward c.args.pool.now.spans (c.deref.result.now ∷ []) c.requires.arcs (All-cons IsForward c.deref.result.now [] last (All-nil IsForward)))
