-- What is read of words is what the table of commands says of them, whatever texts were taken as refused.
use Rattle.std.proofs.Common.{◌≡◌, ℕ, List, Option, Some, None, Result, MatchOption, refl, ap, sym, ◌∙◌, subst}
use Rattle.std.proofs.Math.Path.{fun_ext}
use Rattle.io_core.specs.Contents.{Content}
use Rattle.expr_lang.specs.Grammar.{Cond, Assigns}
use Rattle.cmd_words.specs.declared.fault.ExprWhy.{ExprWhy}
use Rattle.cmd_words.specs.declared.fault.WordFault.{WordFault}
use Rattle.job_terms.specs.declared.job.Job.{Job}
use Rattle.cmd_words.specs.Expressions.{Refusals, AreRefusals, TextKind, HasFault, expression, assignments, fault_at}
use Rattle.cmd_words.specs.Tells.{Tells, FitsJob}
use Rattle.cmd_words.specs.Words.{Reading, JobWords, read_words}
use Rattle.cmd_words.proofs.ExpressionFaults.{refused_for}
use Rattle.word_model.specs.Words.{words_say}
use Rattle.word_laws.proofs.Laws.{table_says}
use Rattle.run_chain.specs.Running.{ReadsWords}

-- ## Texts are refused in one way

module _ (a b : Refusals) (ra : AreRefusals a) (rb : AreRefusals b) where
  refused_same : (kind : TextKind) (text : Content) → a kind text ≡ b kind text
  refused_same kind text = go (b kind text) refl (rb kind text)
    where
      told : (k : TextKind) (f : ℕ × ExprWhy) → HasFault k text (fault_at f) → a k text ≡ Some f
      told expression f h = refused_for Cond text (a expression text) (ra expression text) f h
      told assignments f h = refused_for Assigns text (a assignments text) (ra assignments text) f h

      none : (o : Option (ℕ × ExprWhy)) → a kind text ≡ o → MatchOption o ((f : ℕ × ExprWhy) → HasFault kind text (fault_at f) → ⊥) (λ f. HasFault kind text (fault_at f)) → ((f : ℕ × ExprWhy) → HasFault kind text (fault_at f) → ⊥) → a kind text ≡ None
      none None e h never = e
      none (Some f) e h never = absurd (never f h)

      go : (o : Option (ℕ × ExprWhy)) → b kind text ≡ o → MatchOption o ((f : ℕ × ExprWhy) → HasFault kind text (fault_at f) → ⊥) (λ f. HasFault kind text (fault_at f)) → a kind text ≡ b kind text
      go (Some f) e h = told kind f h ∙ sym e
      go None e h = none (a kind text) refl (ra kind text) h ∙ sym e

  refusals_same : a ≡ b
  refusals_same = fun_ext (λ kind. fun_ext (refused_same kind))

-- ## Words

pub said_by : (refuses : Refusals) → AreRefusals refuses → (words : List Content) (answer : Result Job WordFault) → ReadsWords words answer → Tells FitsJob (words_say refuses words) answer
said_by refuses right words answer reads =
    let here : Refusals = reads.0 in
    let same : read_words here words ≡ words_say refuses words = ap (λ (r : Refusals). read_words r words) (refusals_same here refuses reads.1 right) ∙ sym (table_says refuses words) in
    subst (λ (x : Reading JobWords). Tells FitsJob x answer) same reads.2
