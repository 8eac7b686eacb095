-- What words ask for, as the table of commands says, and what their sources give.
use Rattle.std.proofs.Common.{◌≡◌, ℕ, List, take, Ok, Err, sym, ap, ◌∙◌, subst}
use Rattle.io_core.specs.Contents.{Content, FileMap}
use Rattle.geojson_io.specs.LayerContent.{LayerContent}
use Rattle.job_terms.specs.declared.job.Chain.{Chain}
use Rattle.job_terms.specs.declared.job.Job.TheVariants as job
use Rattle.job_terms.specs.declared.job.SourceWord.{SourceWord}
use Rattle.cmd_words.specs.Tells.{FitsChain, FitsJob}
use Rattle.cmd_words.specs.Words.{ChainWords, JobWords, Reading, synth, chain}
use Rattle.run_sources.specs.Sources.{SourcesSeen, GivesAll, StopsAtSource}
use Rattle.run_sources.specs.declared.fault.SourceFault.{SourceFault}
use Rattle.run_chain.specs.Running.{ReadsWords}
use Rattle.word_model.specs.Words.{words_say}
use Rattle.chain_model.specs.Headline.{AcceptsFirst, sources_of}
use Rattle.chain_model.specs.Sources.{AreReadings, Readings, imported, whole_room}
use Rattle.headline_laws.specs.ToldSources.{IsOfContents, fault_as}
use Rattle.headline_laws.proofs.Once.{read_once}
use Rattle.headline_laws.proofs.Sources.{accepted_sources, first_sources, refused_sources}
use Rattle.headline_laws.proofs.Said.{said_by}
use Rattle.headline_laws.specs.Ends.{IsAsked}

-- the words of a chain that is asked for
pub record ChainSaid (read : Readings) (line : List Content) (c : Chain) : Type 0 where
  pub words : ChainWords
  pub said : words_say read.refusals line ≡ Ok (chain words)
  pub fits : FitsChain words c

pub chain_said : (read : Readings) → AreReadings read → (line : List Content) (c : Chain) → ReadsWords line (Ok (job.Chain c)) → ChainSaid read line c
chain_said read right line c reads = go t.0 t.1 t.2
  where
    t : (w : JobWords) × (words_say read.refusals line ≡ Ok w) × FitsJob w (job.Chain c)
    t = said_by read.refusals right.expressions line (Ok (job.Chain c)) reads

    go : (w : JobWords) → words_say read.refusals line ≡ Ok w → FitsJob w (job.Chain c) → ChainSaid read line c
    go (synth seed size) e f = absurd f
    go (chain words) e f = record { words = words; said = e; fits = f }

module _ (read : Readings) (line : List Content) (c : Chain) (seen seen' : SourcesSeen) (files : FileMap) (bytes : Content) (a : IsAsked read line (job.Chain c) seen files bytes) where
  sources_said : sources_of (words_say read.refusals line) ≡ c.sources
  sources_said =
      let s : ChainSaid read line c = chain_said read a.right line c a.asked in
      ap sources_of s.said ∙ sym s.fits.sources

  pub all_imported : (layers : List (List LayerContent)) → GivesAll c.places c.sources seen seen' layers → imported read c.places files bytes 0 whole_room 1 c.sources ≡ Ok layers
  all_imported layers given =
      let mine : GivesAll c.places (sources_of (words_say read.refusals line)) seen seen' layers = subst (λ (ss : List SourceWord). GivesAll c.places ss seen seen' layers) (sym sources_said) given in
      subst (λ (ss : List SourceWord). imported read c.places files bytes 0 whole_room 1 ss ≡ Ok layers) sources_said
      (accepted_sources read a.right (words_say read.refusals line) (read_once read.refusals line) c.places seen seen' files bytes a.told layers mine)

  pub first_imported : (k : ℕ) (middle : SourcesSeen) (layers : List (List LayerContent)) → GivesAll c.places (take k c.sources) seen middle layers → AcceptsFirst read (words_say read.refusals line) files bytes k
  first_imported k middle layers given =
      let s : ChainSaid read line c = chain_said read a.right line c a.asked in
      let mine : GivesAll c.places (take k (sources_of (words_say read.refusals line))) seen middle layers = subst (λ (ss : List SourceWord). GivesAll c.places (take k ss) seen middle layers) (sym sources_said) given in
      let here : imported read c.places files bytes 0 whole_room 1 (take k c.sources) ≡ Ok layers =
      subst (λ (ss : List SourceWord). imported read c.places files bytes 0 whole_room 1 (take k ss) ≡ Ok layers) sources_said
      (first_sources read a.right (words_say read.refusals line) (read_once read.refusals line) c.places seen middle files bytes a.told k layers mine) in
      let said : imported read s.words.places files bytes 0 whole_room 1 (take k s.words.so_far.sources) ≡ Ok layers =
      subst (λ (ss : List SourceWord). imported read s.words.places files bytes 0 whole_room 1 (take k ss) ≡ Ok layers) s.fits.sources
      (subst (λ (p : ℕ). imported read p files bytes 0 whole_room 1 (take k c.sources) ≡ Ok layers) s.fits.places here) in
      subst (λ (r : Reading JobWords). AcceptsFirst read r files bytes k) (sym s.said) (layers, said)

  pub one_refused : (f : SourceFault) → IsOfContents f → StopsAtSource c.places c.sources seen seen' f → imported read c.places files bytes 0 whole_room 1 c.sources ≡ Err (fault_as f)
  one_refused f contents stops =
      let mine : StopsAtSource c.places (sources_of (words_say read.refusals line)) seen seen' f = subst (λ (ss : List SourceWord). StopsAtSource c.places ss seen seen' f) (sym sources_said) stops in
      subst (λ (ss : List SourceWord). imported read c.places files bytes 0 whole_room 1 ss ≡ Err (fault_as f)) sources_said
      (refused_sources read a.right (words_say read.refusals line) (read_once read.refusals line) c.places seen seen' files bytes a.told f contents mine)
