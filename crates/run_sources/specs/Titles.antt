-- The name that the layers of a source get from the name of its file.
use Rattle.std.specs.Prelude.{codes, unwrap_or, option_map, if◌then◌else◌}
use Rattle.std.specs.Path.{rsplit_once}
use Rattle.io_core.specs.Contents.{Content}
use Rattle.job_terms.specs.declared.job.SourceWord.{SourceWord}

-- what stands after the last slash, or the whole name where it has none
abbrev pub after_slash : Content → Content
after_slash name = unwrap_or (option_map (λ split. split.1) (rsplit_once 47 name)) name

-- what stands before the last point, or the whole name where it has none
abbrev pub before_point : Content → Content
before_point file = unwrap_or (option_map (λ split. split.0) (rsplit_once 46 file)) file

-- the name of a file without its folders and its ending; standard input is a layer
abbrev pub title_of : SourceWord → Content
title_of source = if source.standard then codes "layer" else before_point (after_slash source.name)
