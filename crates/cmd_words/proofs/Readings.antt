-- What calls answer that follow one another.
use Rattle.std.proofs.Common.{◌≡◌, ℕ, List, [], ◌∷◌, ◌++◌, Result, Ok, Err, refl, sym, ◌∙◌, subst}
use Rattle.cmd_words.specs.declared.fault.Refusal.{Refusal}
use Rattle.cmd_words.specs.declared.fault.Refusal.TheVariants as refusal
use Rattle.cmd_words.specs.declared.fault.WordFault.{WordFault}
use Rattle.cmd_words.specs.declared.fault.WordWhy.{WordWhy}
use Rattle.cmd_words.specs.declared.fault.WordFault.TheVariants as fault
use Rattle.job_terms.specs.declared.job.Command.{Command}
use Rattle.job_terms.specs.declared.job.Chain.{Chain}
use Rattle.job_terms.specs.declared.job.Job.{Job}
use Rattle.job_terms.specs.declared.job.Job.TheVariants as job
use Rattle.cmd_words.specs.Steps.{on_ok, Makes}
use Rattle.cmd_words.specs.Options.{Step}
use Rattle.cmd_words.specs.Groups.{Group}
use Rattle.cmd_words.specs.declared.action_words.CommandWords.{CommandWords}
use Rattle.cmd_words.specs.ActionWords.{FitsCommand, FitEach}
use Rattle.cmd_words.specs.Words.{Reading, ChainWords, chain, at_word}
use Rattle.cmd_words.specs.Tells.{Turns, Answers, Tells, fault_at_word, FitsChain, FitsJob}

-- a word taken, and its number
pub turns_at_ok : (n : ℕ) (answer : Step) (new : Group) → Makes answer new (Ok tt) → Turns (at_word n answer) new (Ok tt)
turns_at_ok n answer new m = rw m refl

pub turns_at_err : (n : ℕ) (answer : Step) (new : Group) (e : Refusal) → Makes answer new (Err e) → Turns (at_word n answer) new (Err (fault_at_word n e))
turns_at_err n answer new (refusal.Why why) m = rw m refl
turns_at_err n answer new refusal.Memory m = tt

-- ## A refusal ends what would follow

pub stops : {A B : Type 0} (answer : Reading A) (next : A → Reading B) (p : ℕ × WordWhy) → answer ≡ Err p → on_ok answer next ≡ Err p
stops answer next p e = rw e refl

pub goes_on : {A B : Type 0} (answer : Reading A) (next : A → Reading B) (x : A) → answer ≡ Ok x → on_ok answer next ≡ next x
goes_on answer next x e = rw e refl

pub turns_stop : {A B : Type 0} (part : Reading A) (whole : Reading B) (x : A) (y : B) (r : Result (Unit {0}) WordFault) (e : WordFault) → r ≡ Err e → Turns part x (Err e) → ((p : ℕ × WordWhy) → part ≡ Err p → whole ≡ Err p) → Turns whole y r
turns_stop part whole x y r (fault.Bad n why) is t on = subst (λ (s : Result (Unit {0}) WordFault). Turns whole y s) (sym is) (on (n, why) t)
turns_stop part whole x y r fault.Memory is t on = subst (λ (s : Result (Unit {0}) WordFault). Turns whole y s) (sym is) tt

pub answers_stop : {A B : Type 0} (part : Reading A) (whole : Reading B) (x : A) (r : Result B WordFault) (e : WordFault) → r ≡ Err e → Turns part x (Err e) → ((p : ℕ × WordWhy) → part ≡ Err p → whole ≡ Err p) → Answers whole r
answers_stop {A} {B} part whole x r (fault.Bad n why) is t on = subst (λ (s : Result B WordFault). Answers whole s) (sym is) (on (n, why) t)
answers_stop {A} {B} part whole x r fault.Memory is t on = subst (λ (s : Result B WordFault). Answers whole s) (sym is) tt

pub tells_stop : {A B C : Type 0} (R : B → C → Type 0) (part : Reading A) (whole : Reading B) (x : A) (r : Result C WordFault) (e : WordFault) → r ≡ Err e → Turns part x (Err e) → ((p : ℕ × WordWhy) → part ≡ Err p → whole ≡ Err p) → Tells R whole r
tells_stop {A} {B} {C} R part whole x r (fault.Bad n why) is t on = subst (λ (s : Result C WordFault). Tells R whole s) (sym is) (on (n, why) t)
tells_stop {A} {B} {C} R part whole x r fault.Memory is t on = subst (λ (s : Result C WordFault). Tells R whole s) (sym is) tt

pub tells_stop_answer : {A B C : Type 0} (R : B → C → Type 0) (part : Reading A) (whole : Reading B) (r : Result C WordFault) (e : WordFault) → r ≡ Err e → Answers part (Err e) → ((p : ℕ × WordWhy) → part ≡ Err p → whole ≡ Err p) → Tells R whole r
tells_stop_answer {A} {B} {C} R part whole r (fault.Bad n why) is t on = subst (λ (s : Result C WordFault). Tells R whole s) (sym is) (on (n, why) t)
tells_stop_answer {A} {B} {C} R part whole r fault.Memory is t on = subst (λ (s : Result C WordFault). Tells R whole s) (sym is) tt

-- ## What follows an Ok value is what is told

pub tells_on : {A B C : Type 0} (R : B → C → Type 0) (part : Reading A) (next : A → Reading B) (x : A) (whole : Reading B) (r : Result C WordFault) → whole ≡ on_ok part next → part ≡ Ok x → Tells R (next x) r → Tells R whole r
tells_on {A} {B} {C} R part next x whole r cut e t = subst (λ (a : Reading B). Tells R a r) (sym (cut ∙ goes_on part next x e)) t

-- one more command that fits its words
pub one_more_fits : (ws : List CommandWords) (cs : List Command) (w : CommandWords) (c : Command) → FitEach ws cs → FitsCommand w c → FitEach (ws ++ w ∷ []) (cs ++ c ∷ [])
one_more_fits [] [] w c each one = (one, tt)
one_more_fits [] (d ∷ cs) w c each one = absurd each
one_more_fits (v ∷ ws) [] w c each one = absurd each
one_more_fits (v ∷ ws) (d ∷ cs) w c each one = (each.0, one_more_fits ws cs w c each.1 one)

-- the words of a chain are the words of a job
pub tells_job : (answer : Reading ChainWords) (c : Chain) → Tells FitsChain answer (Ok c) → Tells FitsJob (on_ok answer (λ (w : ChainWords). Ok (chain w))) (Ok (job.Chain c))
tells_job answer c t = rw t.1 (chain t.0, refl, t.2)

pub tells_no_job : (answer : Reading ChainWords) (r : Result Job WordFault) (e : WordFault) → r ≡ Err e → Tells FitsChain answer (Err e) → Tells FitsJob (on_ok answer (λ (w : ChainWords). Ok (chain w))) r
tells_no_job answer r (fault.Bad n why) is t = subst (λ (s : Result Job WordFault). Tells FitsJob (on_ok answer (λ (w : ChainWords). Ok (chain w))) s) (sym is) (rw t refl)
tells_no_job answer r fault.Memory is t = subst (λ (s : Result Job WordFault). Tells FitsJob (on_ok answer (λ (w : ChainWords). Ok (chain w))) s) (sym is) tt
