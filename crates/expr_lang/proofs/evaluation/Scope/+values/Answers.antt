use Rattle.std.proofs.Common.{ℕ, ◌≡◌, List, Ok, ap, sym, subst, ◌∙◌}
use Rattle.json_values.specs.declared.value.Value.{Value}
use Rattle.expr_lang.specs.declared.token.Operator.{Operator}
use Rattle.expr_lang.specs.Tree.{Tree, node_tree, binary}
use Rattle.expr_lang.specs.Meaning.{Evaluated, Answers, evaluated, on_ok, joined}
use Rattle.expr_lang.proofs.evaluation.Scope.+values.Goals as goal

binary_value : (names : List (List ℕ)) (row : List Value) (id at : ℕ) (o : Operator) (t d e : Tree) (v : Value) (result : Evaluated) → t ≡ binary at o d e → evaluated names row id d ≡ Ok v → Answers (joined at o (evaluated names row id e) v) result → Answers (evaluated names row id t) result
binary_value names row id at o t d e v result h g a =
    subst (λ (r : Evaluated). Answers r result) (sym (ap (evaluated names row id) h ∙ ap (λ (r : Evaluated). on_ok r (joined at o (evaluated names row id e))) g)) a

pub value-returns-in-Binary : goal.value-returns-in-Binary
value-returns-in-Binary t c = record {
  answers =
      let d = node_tree c.deref-in-Binary.result.now in
      let e = node_tree c.deref-in-Binary-2.result.now in
      let s : node_tree c.args.e.now ≡ binary c.in-Binary.at c.in-Binary.operator d e = cc (ap node_tree c.in-Binary.is, c.deref-in-Binary.ensures, c.deref-in-Binary-2.ensures) in
      binary_value c.args.self.now.names.now c.args.self.now.row.now c.args.self.now.id c.in-Binary.at c.in-Binary.operator (node_tree c.args.e.now) d e c.in_ok-left-in-Binary.left c.after_left.result s c.in_ok-left-in-Binary.ensures.answers c.after_left.ensures.answers;
}
