use Rattle.std.proofs.Common.{◌≡◌, ◌-◌, sym, arith, Some, length}
use Rattle.std.specs.Prelude.{slice_get}
use Rattle.std.proofs.lemmas.Bool.{ltb-true}
use Rattle.face_sets.proofs.SetLemmas.{below_last}
use Rattle.face_sets.proofs.face_set.is_past.Goals as goal

pub returns-in-Some : goal.returns-in-Some
returns-in-Some c = record {
  yes = λ e.
      (let faces = c.args.faces.now in
      let last = c.in-Some.last.now in
      let found : slice_get faces (length faces - 1) ≡ Some last = sym c.in-Some.ensures.value in
      let less = ltb-true c.num.result c.num-in-Some.result e in
      let is_last = c.num.ensures.exact in
      let is_face = c.num-in-Some.ensures.exact in
      below_last faces last c.args.f c.requires found (omega arith));
}
