-- What a call answers that reads words, and which jobs fit them.
use Rattle.std.specs.Prelude.{◌≡◌, ℕ, Result, Ok, Err}
use Rattle.cmd_words.specs.declared.fault.WordFault.{WordFault}
use Rattle.cmd_words.specs.declared.fault.WordFault.TheVariants as fault
use Rattle.cmd_words.specs.declared.fault.Refusal.{Refusal}
use Rattle.cmd_words.specs.declared.fault.Refusal.TheVariants as refusal
use Rattle.job_terms.specs.declared.job.Chain.{Chain}
use Rattle.job_terms.specs.declared.job.Job.{Job}
use Rattle.job_terms.specs.declared.job.Job.TheVariants as job
use Rattle.cmd_words.specs.ActionWords.{FitEach}
use Rattle.cmd_words.specs.Words.{Reading, ChainWords, JobWords, synth, chain}

-- a call answers what the definition gives, or finds no memory; an Ok value fits the words by R
abbrev pub Tells : {A B : Type 0} → (B → A → Type 0) → Reading B → Result A WordFault → Type 0
Tells {A} {B} R answer (Ok v) = (w : B) × (answer ≡ Ok w) × R w v
Tells R answer (Err (fault.Bad n why)) = answer ≡ Err (n, why)
Tells R answer (Err fault.Memory) = Unit {0}

-- the same of a call that changes a value
abbrev pub Turns : {B : Type 0} → Reading B → B → Result (Unit {0}) WordFault → Type 0
Turns answer new (Ok _) = answer ≡ Ok new
Turns answer new (Err (fault.Bad n why)) = answer ≡ Err (n, why)
Turns answer new (Err fault.Memory) = Unit {0}

-- the same, where an Ok value is just the one of the definition
abbrev pub Answers : {A : Type 0} → Reading A → Result A WordFault → Type 0
Answers answer (Ok v) = answer ≡ Ok v
Answers answer (Err (fault.Bad n why)) = answer ≡ Err (n, why)
Answers answer (Err fault.Memory) = Unit {0}

-- the fault of the word of this number
abbrev pub fault_at_word : ℕ → Refusal → WordFault
fault_at_word n (refusal.Why why) = fault.Bad n why
fault_at_word n refusal.Memory = fault.Memory

-- ## Jobs

pub record FitsChain (w : ChainWords) (c : Chain) : Type 0 where
  pub places : c.places ≡ w.places
  pub sources : c.sources ≡ w.so_far.sources
  pub boxes : c.boxes ≡ w.so_far.boxes
  pub commands : FitEach w.so_far.commands c.commands

abbrev pub FitsJob : JobWords → Job → Type 0
FitsJob (synth seed size) (job.Synth s n) = (s ≡ seed) × (n ≡ size)
FitsJob (chain w) (job.Chain c) = FitsChain w c
FitsJob (synth seed size) (job.Chain c) = ⊥
FitsJob (chain w) (job.Synth s n) = ⊥
