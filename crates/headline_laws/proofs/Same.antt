-- Where files and the standard stream hold the same, the same is bound.
use Rattle.std.proofs.Common.{◌≡◌, inl, refl, sym, ap, ap₂, subst, List, [], Option, Some, None, MatchOption}
use Rattle.std.specs.Prelude.{⊤}
use Rattle.std.proofs.Math.Path.{fun_ext}
use Rattle.io_core.specs.Contents.{Content, FileMap, SameFiles}
use Rattle.run_outcome.specs.declared.outcome.Outcome.{Outcome}
use Rattle.run_outcome.specs.declared.outcome.Outcome.TheVariants as end
use Rattle.run_chain.specs.Effects.{OutsideSeen}
use Rattle.word_model.specs.Words.{words_say}
use Rattle.chain_model.specs.Headline.{Binds, HoldsAfter, Outside}
use Rattle.chain_model.specs.Sources.{Readings}
use Rattle.headline_laws.specs.Outcomes.{outcome_as}
use Rattle.headline_laws.specs.Refused.{outside_of}

files_same : (a b : Option FileMap) → SameFiles a b → b ≡ a
files_same None None s = refl
files_same None (Some b) s = absurd s
files_same (Some a) None s = absurd s
files_same (Some a) (Some b) s = ap (λ (f : FileMap). Some f) (fun_ext s)

pub outside_same : (before after : OutsideSeen) → SameFiles before.files after.files → after.stream ≡ before.stream → outside_of after ≡ outside_of before
outside_same before after files stream = ap₂ (λ (f : Option FileMap) (s : Option Content). record { files = f; stream = s }) (files_same before.files after.files files) stream

-- a fact where something is told
pub where_told : {A : Type 0} (o : Option A) (P : A → Type 0) → ((a : A) → o ≡ Some a → P a) → MatchOption o ⊤ P
where_told None P f = tt
where_told (Some a) P f = f a refl

-- memory that runs out before anything is written
pub memory_bound : (read : Readings) (line : List Content) (files : FileMap) (bytes : Content) (before after : Outside) (o : Outcome) → o ≡ end.Memory → HoldsAfter before after [] →
    Binds read (words_say read.refusals line) files bytes before after (outcome_as o)
memory_bound read line files bytes before after o is held =
    subst (λ (x : Outcome). Binds read (words_say read.refusals line) files bytes before after (outcome_as x)) (sym is) (record { effects = []; begins = inl refl; held = held })
