-- The faces of a set that are in a cut set, and those that aren't.
use Rattle.std.specs.Prelude.{ℕ, not, nat_eq, List, filter}
use Rattle.lists.specs.Lists.{has}

abbrev pub meet : List ℕ → List ℕ → List ℕ
meet cut_set set = filter (λ f. has nat_eq cut_set f) set

abbrev pub minus : List ℕ → List ℕ → List ℕ
minus cut_set set = filter (λ f. not (has nat_eq cut_set f)) set
