-- Commands that fit the words that ask for them: their expressions are what the texts are.
use Rattle.std.specs.Prelude.{◌≡◌, ℕ, Bool, List, [], ◌∷◌, Option}
use Rattle.expr_lang.specs.declared.assign.Assign.{Assign}
use Rattle.expr_lang.specs.declared.expr.Expr.{Expr}
use Rattle.expr_lang.specs.Tree.{tree_of, all_assigned}
use Rattle.expr_lang.specs.Faults.{IsTree, AreAssigns}
use Rattle.join_terms.specs.declared.calculations.CalcSpec.{CalcSpec}
use Rattle.join_terms.specs.declared.joins.JoinSpec.{JoinSpec}
use Rattle.job_terms.specs.declared.job.Action.{Action}
use Rattle.job_terms.specs.declared.job.Action.TheVariants as action
use Rattle.job_terms.specs.declared.job.LayerAction.TheVariants as layer
use Rattle.job_terms.specs.declared.job.Origin.{Origin}
use Rattle.job_terms.specs.declared.job.Command.{Command}
use Rattle.cmd_words.specs.declared.action_words.ActionWords.{ActionWords}
use Rattle.cmd_words.specs.declared.action_words.ActionWords.TheVariants as words
use Rattle.cmd_words.specs.declared.action_words.CommandWords.{CommandWords}
use Rattle.cmd_words.specs.Rows.{Text}
use Rattle.cmd_words.specs.Expressions.{FitsTest}

-- a join by these terms, with this expression
abbrev pub FitsJoin : JoinSpec → Option Text → JoinSpec → Type 0
FitsJoin spec test s = (s ≡ record spec { test = s.test }) × FitsTest test s.test

-- a join by place, so too
abbrev pub FitsSpatialJoin : CalcSpec → Option Text → CalcSpec → Type 0
FitsSpatialJoin spec test s = (s ≡ record spec { test = s.test }) × FitsTest test s.test

pub data FitsAction : ActionWords → Action → Type 0 where
  whole : {a : Action} → FitsAction (words.Whole a) a
  join : {from : Origin} {spec s : JoinSpec} {test : Option Text} → FitsJoin spec test s → FitsAction (words.Join from spec test) (action.Each (layer.Join from s))
  spatial_join : {from : Origin} {spec s : CalcSpec} {test : Option Text} → FitsSpatialJoin spec test s → FitsAction (words.SpatialJoin from spec test) (action.Each (layer.SpatialJoin from s))
  filter : {test : Option Text} {e : Option Expr} {invert remove_empty : Bool} → FitsTest test e → FitsAction (words.Filter test invert remove_empty) (action.Each (layer.Filter e invert remove_empty))
  each : {text : Text} {assigns : List Assign} → AreAssigns text (all_assigned assigns) → FitsAction (words.Each text) (action.Each (layer.Each assigns))
  sort : {text : Text} {key : Expr} {descending : Bool} → IsTree text (tree_of key) → FitsAction (words.Sort text descending) (action.Each (layer.Sort key descending))
  uniq : {text : Text} {key : Expr} {most : ℕ} {invert : Bool} → IsTree text (tree_of key) → FitsAction (words.Uniq text most invert) (action.Each (layer.Uniq key most invert))

pub record FitsCommand (w : CommandWords) (c : Command) : Type 0 where
  pub target : c.target ≡ w.target
  pub name : c.name ≡ w.name
  pub keep : c.keep ≡ w.keep
  pub action : FitsAction w.action c.action

abbrev pub FitEach : List CommandWords → List Command → Type 0
FitEach [] [] = Unit {0}
FitEach [] (c ∷ cs) = ⊥
FitEach (w ∷ ws) [] = ⊥
FitEach (w ∷ ws) (c ∷ cs) = FitsCommand w c × FitEach ws cs
