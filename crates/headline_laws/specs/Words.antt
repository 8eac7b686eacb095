-- The law of words: commands that fit the same words make the same steps.
use Rattle.std.specs.Prelude.{◌≡◌}
use Rattle.cmd_words.specs.ActionWords.{FitsCommand}
use Rattle.cmd_words.specs.declared.action_words.CommandWords.{CommandWords}
use Rattle.job_terms.specs.declared.job.Command.{Command}
use Rattle.region_model.specs.Answers.{Answers, Plane}
use Rattle.chain_model.specs.State.{State}
use Rattle.chain_model.specs.Steps.{step}
use Rattle.chain_model.specs.Targets.{SourceLayers}

-- expressions of one text are one tree, and a step takes no more of them
abbrev pub StepsAreOfWords : Type 0
StepsAreOfWords = (w : CommandWords) (c d : Command) → FitsCommand w c → FitsCommand w d → (P : Plane) (A : Answers) (sources : SourceLayers) (s : State) → step P A sources s c ≡ step P A sources s d
