use Rattle.std.proofs.Common.{◌<◌, length, get_or, rules}
use Rattle.std.proofs.lemmas.Str.{lead_after_ascii}
use Rattle.cmd_words.proofs.calculations.after_white.Goals as goal

pub range_from-rest-requires : goal.range_from-rest-requires
range_from-rest-requires c =
    let bytes = c.as_bytes.result.now in
    let white : (0 < length bytes) × (get_or bytes 0 0 < 128) = search rules in
    rw (← c.as_bytes.ensures.value) (λ _. (white.0, λ more high. lead_after_ascii bytes 0 c.as_bytes.ensures.utf8 white.1 more high))
