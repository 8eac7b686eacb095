use Rattle.std.proofs.Common.{◌∙◌, refl, sym, subst, ℕ, List, [], get_or}
use Rattle.std.proofs.lemmas.List.{take_all}
use Rattle.face_groups.specs.Groups.{IsKeyed}
use Rattle.face_groups.specs.Pieces.{ArePieces, Group, pieces_of}
use Rattle.face_groups.specs.declared.pieces.Piece.{Piece}
use Rattle.face_groups.proofs.Groups.{groups_none, groups_more, inner_of, key_set_at}
use Rattle.face_groups.proofs.pieces.pieces_by_key.Goals as goal

pub push_pieces-requires : goal.push_pieces-requires
push_pieces-requires g c =
    let keyed = g.K.FaceKeys.is_keyed c.args.keys.now in
    let before = g.K.FaceKeys.comes_before c.args.keys.now in
    let set = c.set-item.result in
    let one = key_set_at (IsKeyed c.args.f.now keyed) before c.in_ok-sets.sets c.as_slice-set-items.result.now c.loop-set.set-index set c.in_ok-sets.ensures.exact c.as_slice-set-items.ensures.all c.loop-set-test.true c.set-item.is in
    record { built = c.requires.built; inner = inner_of c.args.f.now keyed before set one; some = one.some }

pub loop-set-init : goal.loop-set-init
loop-set-init g c =
    subst (λ (pieces : List Piece). ArePieces c.args.f.now [] pieces) (sym c.new-pieces.ensures.items)
    (groups_none c.args.f.now (λ (k : ℕ). k) (λ (e : Group). e.face) (λ (e : Group). e.parts) (λ (e : Group). pieces_of e.face e.parts))

pub loop-set-preserved : goal.loop-set-preserved
loop-set-preserved g c =
    let set = c.set-item.result in
    let made = c.in_ok-push_pieces.ensures.exact in
    groups_more c.args.f.now (λ (k : ℕ). k) (λ (e : Group). e.face) (λ (e : Group). e.parts) (λ (e : Group). pieces_of e.face e.parts) c.as_slice-set-items.result.now c.loop-set.set-index set set
    (record { face = get_or set 0 0; parts = made.parts }) c.loop-set.pieces.items c.push_pieces.new.pieces.items c.loop-set-test.true c.set-item.is (record { key_is = refl; are = made.are }) made.pieces c.loop-set.invariant

pub returns : goal.returns
returns g c = record {
  exact = record {
    sets = c.in_ok-sets.sets;
    by_key = c.in_ok-sets.ensures.exact;
    are = subst (λ (sets : List (List ℕ)). ArePieces c.args.f.now sets c.loop-set.pieces.items)
        (take_all c.loop-set.set-index c.as_slice-set-items.result.now c.loop-set-test.false ∙ c.as_slice-set-items.ensures.all) c.loop-set.invariant;
  };
}
