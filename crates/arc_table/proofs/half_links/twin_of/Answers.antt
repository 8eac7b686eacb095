use Rattle.std.proofs.Common.{◌≡◌, ℕ, List, Some, Contains, ap, sym, subst, ◌∙◌}
use Rattle.std.specs.Prelude.{slice_get}
use Rattle.std.proofs.lemmas.Option.{get_or_from_slice_get}
use Rattle.plane_model.specs.Points.{Segment, reversed}
use Rattle.arc_table.proofs.StepSearch.{contains_at}
use Rattle.arc_table.proofs.half_links.twin_of.Goals as goal

back_is : (steps : List Segment) (h : ℕ) (here back s : Segment) → slice_get steps h ≡ Some here → back ≡ reversed here → slice_get steps h ≡ Some s → back ≡ reversed s
back_is steps h here back s e f g = f ∙ ap reversed (sym (get_or_from_slice_get steps h here s e) ∙ get_or_from_slice_get steps h s s g)

pub returns-in-Some-clause-back : goal.returns-in-Some-clause-back
returns-in-Some-clause-back c = λ s e. c.in-Some.ensures.exact ∙ ap Some (back_is c.args.steps.now c.args.h c.at.result c.back.result s c.at.ensures.exact c.back.ensures.exact e)

pub returns-in-None-clause-back : goal.returns-in-None-clause-back
returns-in-None-clause-back c = λ s e. absurd (c.in-None.ensures.exact
    (subst (λ (x : Segment). Contains c.args.steps.now x) (sym (back_is c.args.steps.now c.args.h c.at.result c.back.result s c.at.ensures.exact c.back.ensures.exact e))
    (c.requires.both s (contains_at c.args.steps.now c.args.h s e))))
