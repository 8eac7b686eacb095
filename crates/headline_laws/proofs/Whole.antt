-- All that binds a run.
use Rattle.headline_laws.proofs.Messages.{messages}
use Rattle.headline_laws.specs.Runs.{RunsAreOfTheModel}
use Rattle.headline_laws.proofs.Complete.{complete}
use Rattle.headline_laws.proofs.Runs.{cause, means}
use Rattle.headline_laws.proofs.Unwritten.{unwritten}

pub runs_are_of_the_model : RunsAreOfTheModel
runs_are_of_the_model read right line seen seen' before after same o run told told' tells = record {
  means = means read right line seen seen' before after o run same;
  unwritten = unwritten line seen seen' before after o run;
  cause = cause read right line seen seen' before after o run same;
  complete = complete read right line seen seen' before after same o run;
  message = messages o told told' tells;
}
