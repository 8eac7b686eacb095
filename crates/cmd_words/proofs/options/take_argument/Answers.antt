use Rattle.std.proofs.Common.{◌≡◌, Bool, false, not, ◌&&◌, ◌||◌, ◌++◌, ◌∷◌, [], sym, ◌∙◌, ap, rules}
use Rattle.cmd_words.specs.declared.commands.ArgumentForm.{ArgumentForm}
use Rattle.cmd_words.specs.declared.word_groups.Word.{Word}
use Rattle.cmd_words.specs.Groups.{Group}
use Rattle.cmd_words.specs.Options.{is_read, with_argument}
use Rattle.cmd_words.specs.Texts.{is_standard}
use Rattle.cmd_words.proofs.Steps.{argument_step}
use Rattle.cmd_words.proofs.options.take_argument.Goals as goal
use Rattle.cmd_words.proofs.options.take_argument.Goals.{else-standard-via-then-standard+else-reads_standard, else-standard-via-else-standard}

added : (a : ArgumentForm) (w : Word) (g h : Group) (standard : Bool) → standard ≡ (is_read a && is_standard w.text) → h ≡ record g { arguments = g.arguments ++ w ∷ []; reads_standard = g.reads_standard || standard } → h ≡ with_argument a w g
added a w g h standard e k = rw (← e) k

pub returns : goal.returns
returns c =
    let once : ((is_read c.args.form && is_standard c.args.word.now) && c.args.group.now.reads_standard) ≡ false = elim c.else-standard.branch [ else-standard-via-then-standard+else-reads_standard w ↦ search rules | else-standard-via-else-standard w ↦ search rules ] in
    record { exact = λ refuses right. argument_step refuses _ _ _ _ _ _ (sym c.lacks_item.ensures.exact ∙ c.if-lacks_item.false) (ap not (sym c.has_room.ensures.exact ∙ c.if-not-has_room.false)) once (added _ _ _ _ _ c.reads_standard-standard.ensures.exact c.in_ok-add_argument.ensures.ok) (c.take_text.ensures.exact refuses right) }
