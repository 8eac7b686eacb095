-- What is read of the sources of words is what the model imports.
use Rattle.std.proofs.Common.{◌≡◌, inl, inr, ◌+◌, Bool, true, false, not, cond, Option, Some, None, refl, sym, ap, subst, ◌∙◌, List, [], length, take, take_all, arith}
use Rattle.std.specs.List.{list_any}
use Rattle.io_core.specs.Contents.{Content, FileMap}
use Rattle.cmd_words.specs.Words.{JobWords, Reading}
use Rattle.job_terms.specs.declared.job.SourceWord.{SourceWord}
use Rattle.run_sources.specs.Budget.{whole_budget}
use Rattle.run_sources.specs.Sources.{GivesAll}
use Rattle.word_model.specs.Words.{standard_among}
use Rattle.chain_model.specs.Headline.{needed_files, needed_input, sources_of}
use Rattle.chain_model.specs.Sources.{imported, whole_room}
use Rattle.headline_laws.specs.ToldSources.{IsReadOnce}
use Rattle.headline_laws.specs.Imported.{AcceptedSourcesAreImported, FirstSourcesAreImported, RefusedSourcesAreRefused}
use Rattle.headline_laws.proofs.Reading.{FilesFit, InputFits, fits_whole, first_accepted, first_refused}

files_fit : (words : Reading JobWords) (told : Option FileMap) (files : FileMap) (input : Content) → needed_files words told ≡ Some files → FilesFit files input (sources_of words) told
files_fit words (Some held) files input e = inr (λ name. ap (λ (f : FileMap). f name) (let same : held ≡ files = cc in same))
files_fit words None files input e = go (list_any (λ (s : SourceWord). not s.standard) (sources_of words)) refl e
  where
    none : FileMap
    none = λ name. None

    go : (b : Bool) → list_any (λ (s : SourceWord). not s.standard) (sources_of words) ≡ b → cond b None (Some none) ≡ Some files → FilesFit files input (sources_of words) None
    go true e f = absurd (cc)
    go false e f = inl e

input_fits : (words : Reading JobWords) (told : Option Content) (files : FileMap) (input : Content) → IsReadOnce (sources_of words) → needed_input words told ≡ Some input → InputFits files input (sources_of words) told
input_fits words (Some held) files input once e = inr (once, e)
input_fits words None files input once e = go (standard_among (sources_of words)) refl e
  where
    go : (b : Bool) → standard_among (sources_of words) ≡ b → cond b None (Some []) ≡ Some input → InputFits files input (sources_of words) None
    go true e f = absurd (cc)
    go false e f = inl e

pub first_sources : FirstSourcesAreImported
first_sources read right words once places seen seen' files bytes told k layers given =
    first_accepted files bytes read right places (sources_of words) k whole_budget given.0 seen seen' layers 0 whole_room 1 fits_whole (files_fit words seen.files files bytes told.of_files) (input_fits words seen.input files bytes once told.of_input) given.1

-- all of them are the first of them, as many as there are
pub accepted_sources : AcceptedSourcesAreImported
accepted_sources read right words once places seen seen' files bytes told layers given =
    let all : take (length (sources_of words)) (sources_of words) ≡ sources_of words = take_all (length (sources_of words)) (sources_of words) (omega arith) in
    ap (imported read places files bytes 0 whole_room 1) (sym all)
    ∙ first_sources read right words once places seen seen' files bytes told (length (sources_of words)) layers (subst (λ (ss : List SourceWord). GivesAll places ss seen seen' layers) (sym all) given)

pub refused_sources : RefusedSourcesAreRefused
refused_sources read right words once places seen seen' files bytes told fault mine s =
    first_refused files bytes read right places (sources_of words) s.place s.source whole_budget s.left seen s.middle seen' s.layers fault 0 whole_room 1 (s.place + 1) (omega arith) fits_whole (files_fit words seen.files files bytes told.of_files) (input_fits words seen.input files bytes once told.of_input)
    s.is_there s.given mine s.stops
