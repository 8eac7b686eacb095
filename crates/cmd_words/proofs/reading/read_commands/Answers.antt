use Rattle.cmd_words.proofs.reading.read_commands.Goals as goal

pub returns-clause-exact : goal.returns-clause-exact
returns-clause-exact c = λ refuses right. rw (c.import_words-skipped.ensures.exact, ← c.split_at.ensures.back) (c.read_groups.ensures.exact refuses right)
