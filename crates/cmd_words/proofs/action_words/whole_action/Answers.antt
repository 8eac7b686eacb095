use Rattle.std.proofs.Common.{◌≡◌, sym, subst}
use Rattle.cmd_words.specs.declared.action_words.ActionWords.{ActionWords}
use Rattle.job_terms.specs.declared.job.Action.{Action}
use Rattle.cmd_words.specs.ActionWords.{FitsAction, whole, join, spatial_join, filter, each, sort, uniq}
use Rattle.cmd_words.proofs.action_words.whole_action.Goals as goal

fits_by : (v w : ActionWords) (a : Action) → v ≡ w → FitsAction w a → FitsAction v a
fits_by v w a e f = subst (λ (u : ActionWords). FitsAction u a) (sym e) f

pub returns-in-Whole : goal.returns-in-Whole
returns-in-Whole c = record { fits = fits_by _ _ _ c.in-Whole.is whole }

pub returns-in-Join : goal.returns-in-Join
returns-in-Join c = record { fits = fits_by _ _ _ c.in-Join.is (join c.with_test.ensures.fits) }

pub returns-in-SpatialJoin : goal.returns-in-SpatialJoin
returns-in-SpatialJoin c = record { fits = fits_by _ _ _ c.in-SpatialJoin.is (spatial_join c.calc_with_test.ensures.fits) }

pub returns-in-Filter : goal.returns-in-Filter
returns-in-Filter c = record { fits = fits_by _ _ _ c.in-Filter.is (filter c.tree_of.ensures.fits) }

pub returns-in-Each : goal.returns-in-Each
returns-in-Each c = record { fits = fits_by _ _ _ c.in-Each.is (each c.into_list.ensures.assigns) }

pub returns-in-Sort : goal.returns-in-Sort
returns-in-Sort c = record { fits = fits_by _ _ _ c.in-Sort.is (sort c.into_tree.ensures.tree) }

pub returns-in-Uniq : goal.returns-in-Uniq
returns-in-Uniq c = record { fits = fits_by _ _ _ c.in-Uniq.is (uniq c.into_tree-in-Uniq.ensures.tree) }
