-- The tree of an expression. A place is the number of a byte in the text, counted from 0.
use Rattle.std.specs.Prelude.{ℕ, List, map}
use Rattle.json_values.specs.declared.value.Value.{Value}
use Rattle.expr_lang.specs.declared.token.Operator.{Operator}
use Rattle.expr_lang.specs.declared.token.Sign.{Sign}
use Rattle.expr_lang.specs.declared.assign.Assign.{Assign}
use Rattle.expr_lang.specs.declared.expr.Expr.{Expr}
use Rattle.expr_lang.specs.declared.expr.Node.{Node}
use Rattle.expr_lang.specs.declared.expr.Node.TheVariants as node

pub data Tree : Type 0 where
  constant : Value → Tree
  -- the value of a column, by a name or by this.properties["name"]
  column : ℕ → List ℕ → Tree
  -- this.id
  feature_number : Tree
  -- an operator's place comes first
  unary : ℕ → Sign → Tree → Tree
  binary : ℕ → Operator → Tree → Tree → Tree
  choice : ℕ → Tree → Tree → Tree → Tree

-- the tree that a node holds
abbrev pub node_tree : Node → Tree
node_tree (node.Constant v) = constant v
node_tree (node.Column at name) = column at name
node_tree node.FeatureNumber = feature_number
node_tree (node.Unary' at s p e) = unary at s (node_tree e)
node_tree (node.Binary' at op p d q e) = binary at op (node_tree d) (node_tree e)
node_tree (node.Choice' at p c q d r e) = choice at (node_tree c) (node_tree d) (node_tree e)

abbrev pub tree_of : Expr → Tree
tree_of e = node_tree e.root

-- a name, and the tree of the value that it is set to
abbrev pub Assigned : Type 0
Assigned = List ℕ × Tree

abbrev pub assigned : Assign → Assigned
assigned a = (a.name, tree_of a.value)

abbrev pub all_assigned : List Assign → List Assigned
all_assigned list = map assigned list
