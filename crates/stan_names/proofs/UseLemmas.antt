-- Uses one by one.
use Rattle.std.proofs.Common.{◌≡◌, ℕ, ◌+◌, ◌≤◌, ◌<◌, true, false, List, ◌∷◌, length, get_or, drop, Option, Some, None, refl, ap, ◌∙◌}
use Rattle.std.specs.Prelude.{map}
use Rattle.std.proofs.lemmas.List.{drop_all, at_drop_more}
use Rattle.stan_base.specs.Name.{name_bytes}
use Rattle.stan_base.specs.declared.ask_kind.AskKind.{AskKind}
use Rattle.stan_model_names.specs.Resolve.{brings, aliased}
use Rattle.stan_names.specs.Scopes.{use_of}
use Rattle.stan_names.specs.declared.names.Use.{Use}

module _ (kind : AskKind) (alias : List ℕ) (us : List Use) where
  -- what those from this place on bring
  abbrev pub onwards : List Use → Option (List ℕ)
  onwards xs = aliased kind alias (map use_of xs)

  module _ (i : ℕ) (d u : Use) (within : i < length us) (there : get_or us i d ≡ u) where
    next : onwards (drop i us) ≡ onwards (u ∷ drop (i + 1) us)
    next = at_drop_more onwards us i d within ∙ ap (λ z. onwards (z ∷ drop (i + 1) us)) there

    pub past : brings kind alias (use_of u) ≡ false → onwards (drop i us) ≡ onwards (drop (i + 1) us)
    past other = next ∙ rw other refl

    pub found : brings kind alias (use_of u) ≡ true → onwards (drop i us) ≡ Some (name_bytes u.name)
    found this = next ∙ rw this refl

  pub at_last : (n : ℕ) → length us ≤ n → onwards (drop n us) ≡ None
  at_last n le = ap onwards (drop_all n us le)
