-- The bytes of a text, whether it lies in the value itself or in memory of its own.
use Rattle.std.specs.Prelude.{List, ℕ}
use Rattle.std.specs.String.{string_bytes}
use Rattle.text_core.specs.declared.text.Content.{Content}
use Rattle.text_core.specs.declared.text.Content.TheVariants.{Short, Long}

abbrev pub content_bytes : Content → List ℕ
content_bytes (Short s) = s.bytes
content_bytes (Long s) = string_bytes s
