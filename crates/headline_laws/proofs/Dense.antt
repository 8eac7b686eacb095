-- Whether the snapped paths of a drawing are too many.
use Rattle.std.proofs.Common.{◌≡◌, ℕ, ◌<◌, ◌≤◌, Bool, cond, Ok, Err, sym, ap, ◌∙◌, subst}
use Rattle.std.proofs.lemmas.Bool.{lt-ltb, le-ltb}
use Rattle.plane_model.specs.Drawing.{Drawing}
use Rattle.plane_model.specs.Snapped.{link_count, snapped}
use Rattle.chain_model.specs.Outcome.{too_dense}
use Rattle.chain_model.specs.Running.{checked_density, link_limit}

module _ (d : Drawing) where
  abbrev links : ℕ
  links = link_count (snapped d)

  pub dense : (count : ℕ) → count ≡ links → link_limit < count → checked_density d ≡ Err (too_dense count)
  dense count is more =
      ap (λ (b : Bool). cond b (Err (too_dense links)) (Ok d)) (lt-ltb link_limit links (subst (λ (k : ℕ). link_limit < k) is more))
      ∙ ap (λ (k : ℕ). Err (too_dense k)) (sym is)

  pub not_dense : links ≤ link_limit → checked_density d ≡ Ok d
  not_dense few = ap (λ (b : Bool). cond b (Err (too_dense links)) (Ok d)) (le-ltb link_limit links few)
