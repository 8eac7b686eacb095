-- Each text is refused for its fault, or is what it is read as.
use Rattle.std.proofs.Common.{ℕ, ◌⊎◌, inl, inr, List, Option, Some, None, MatchOption, Result}
use Rattle.expr_lang.specs.declared.fault.ExprFault.{ExprFault}
use Rattle.expr_lang.specs.declared.fault.ExprFault.TheVariants as fault
use Rattle.expr_lang.specs.Faults.{AreAssigns, IsTree}
use Rattle.expr_laws.proofs.Faults.{assigns_or_fault, no_assigns_memory, no_memory, tree_or_fault}
use Rattle.expr_laws.proofs.OneFault.{assigns_have_no_fault, tree_has_no_fault}
use Rattle.cmd_words.specs.declared.fault.ExprWhy.{ExprWhy}
use Rattle.cmd_words.specs.declared.fault.ExprWhy.TheVariants as expr
use Rattle.cmd_words.specs.declared.fault.WordFault.{WordFault}
use Rattle.job_terms.specs.declared.job.Job.{Job}
use Rattle.cmd_words.specs.Expressions.{AreRefusals, HasFault, Refusals, TextKind, assignments, expression, fault_at}
use Rattle.cmd_words.specs.Rows.{Text}
use Rattle.cmd_words.specs.Tells.{Tells, FitsJob}
use Rattle.cmd_words.specs.Words.{read_words}
use Rattle.run_chain.specs.Running.{ReadsWords}

-- texts of which each is whole or has a fault, not both, and no fault of memory
record Decide (kind : TextKind) {T : Type 0} (IsWhole : Text → T → Type 0) : Type 0 where
  whole_or_fault : (text : Text) → ((x : T) × IsWhole text x) ⊎ ((f : ExprFault) × HasFault kind text f)
  not_both : (text : Text) (x : T) (f : ExprFault) → IsWhole text x → HasFault kind text f → ⊥
  no_memory : (text : Text) → HasFault kind text fault.Memory → ⊥

-- the fault of one text, if it has one
abbrev OneFault : TextKind → Text → Option (ℕ × ExprWhy) → Type 0
OneFault kind text o = MatchOption o ((f : ℕ × ExprWhy) → HasFault kind text (fault_at f) → ⊥) (λ f. HasFault kind text (fault_at f))

fault_of_one : (kind : TextKind) {T : Type 0} (IsWhole : Text → T → Type 0) → Decide kind IsWhole → (text : Text) → (o : Option (ℕ × ExprWhy)) × OneFault kind text o
fault_of_one kind {T} IsWhole d text = go (d.whole_or_fault text)
  where
    go : ((x : T) × IsWhole text x) ⊎ ((f : ExprFault) × HasFault kind text f) → (o : Option (ℕ × ExprWhy)) × OneFault kind text o
    go (inl t) = (None, λ f h. d.not_both text t.0 (fault_at f) t.1 h)
    go (inr (fault.Syntax at, h)) = (Some (at, expr.Syntax), h)
    go (inr (fault.Unsupported at, h)) = (Some (at, expr.Unsupported), h)
    go (inr (fault.Depth at, h)) = (Some (at, expr.Depth), h)
    go (inr (fault.Memory, h)) = absurd (d.no_memory text h)

fault_of : (kind : TextKind) (text : Text) → (o : Option (ℕ × ExprWhy)) × OneFault kind text o
fault_of expression text = fault_of_one expression IsTree (record { whole_or_fault = tree_or_fault; not_both = tree_has_no_fault; no_memory = no_memory }) text
fault_of assignments text = fault_of_one assignments AreAssigns (record { whole_or_fault = assigns_or_fault; not_both = assigns_have_no_fault; no_memory = no_assigns_memory }) text

pub refusals_exist : (refuses : Refusals) × AreRefusals refuses
refusals_exist = (λ kind text. (fault_of kind text).0, λ kind text. (fault_of kind text).1)

-- what is read for all refusals is read for those that there are
pub reads_words : (words : List Text) (answer : Result Job WordFault) → ((refuses : Refusals) → AreRefusals refuses → Tells FitsJob (read_words refuses words) answer) → ReadsWords words answer
reads_words words answer h = (refusals_exist.0, refusals_exist.1, h refusals_exist.0 refusals_exist.1)
