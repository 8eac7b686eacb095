use Rattle.std.proofs.Common.{◌≡◌, ℕ, All, take}
use Rattle.std.specs.List.{sum_by}
use Rattle.ring_trace.specs.Keys.{IsKey, IsKeyOfSome, IsLeastFirst, IsHoleBy, along_key, along_span}
use Rattle.ring_trace.proofs.ring_keys.keys_of.Given as goal

abbrev pub invariant-loop-span : goal.invariant-loop-span
invariant-loop-span l = All (IsKey l.rings) l.keys.items × ((g : ℕ → ℕ) → sum_by (along_key g l.rings) l.keys.items ≡ sum_by (along_span g l.rings) (take l.span-index l.rings.spans.items)) × All (IsKeyOfSome l.rings.spans.items) l.keys.items × All (IsLeastFirst l.edges l.rings) l.keys.items × All (IsHoleBy l.t l.edges l.rings) l.keys.items
