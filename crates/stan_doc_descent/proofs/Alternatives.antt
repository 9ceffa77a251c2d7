-- Where each production is read or a longer one, each part is: the first alternative that is read is the one that counts.
use Rattle.std.proofs.Common.{◌≡◌, ℕ, ◌≤◌, ◌<◌, Bool, true, false, List, [], ◌∷◌, length, refl, sym, ap, subst, ◌⊎◌, inl, inr, ◌&&◌}
use Rattle.std.specs.Prelude.{◌||◌}
use Rattle.stan_model_doc.specs.declared.token.DocToken.{DocToken}
use Rattle.stan_model_doc.specs.Tokens.{same_kind, kind_at, has}
use Rattle.stan_model_doc.specs.Symbols.{Sort, Tag}
use Rattle.stan_model_doc.specs.Rules.{Rule, param_tag, return_tag, var_tag, property_tag, method_tag, template_tag, inherit_tag, conditional, plain_type, suffixed, this, literal, shape, range, callable_type, member, name, plain_field, fields, default_value, symbols, sort_of, order}
use Rattle.stan_model_doc.specs.Trees.{Forest}
use Rattle.stan_model_doc.specs.Grammar.{Runs}
use Rattle.stan_model_doc.specs.Choices.{Better}
use Rattle.stan_doc_descent.specs.Parse.{Read, first, one, run, height}
use Rattle.stan_doc_descent.specs.Tables.{apart, subset, rule_goes, firsts, ends, empty, is_tag, is_special}
use Rattle.stan_doc_descent.specs.Descent.{IsSound, Reaches, Outgrown, ReadsPiece, ReadsParts, BetterPiece}
use Rattle.stan_doc_descent.specs.Alternatives.{In, Before, Beaten, EarlierAlternativesAreLonger, ReadsProduction, ReadsProductions, PartsAreRead, PlainProductionsAreRead}
use Rattle.stan_doc_descent.proofs.Words.{and_split, or_split, see, subset_has, apart_has, clash}
use Rattle.stan_doc_descent.proofs.Checks.{rule_takes, rule_leads, plain_productions_are_fine}
use Rattle.stan_doc_descent.proofs.Runs.{starts}
use Rattle.stan_doc_descent.proofs.Seconds.{alike, beaten}
use Rattle.stan_doc_descent.proofs.Reading.{descent_reads_the_longest}

-- ---- the tests

-- an alternative before others
abbrev clear : Rule → List Rule → Bool
clear q [] = true
clear q (r ∷ rs) = (apart (firsts (symbols q)) (firsts (symbols r)) || alike q r) && clear q rs

abbrev ordered : List Rule → Bool
ordered [] = true
ordered (r ∷ rs) = clear r rs && ordered rs

sort_ordered : (s : Sort) → ordered (order s) ≡ true
unfolding same_kind
sort_ordered Tag = refl
sort_ordered s = refl

listed : (r : Rule) → In r (order (sort_of r))
listed return_tag = inr (inl refl)
listed var_tag = inr (inr (inl refl))
listed property_tag = inr (inr (inr (inl refl)))
listed method_tag = inr (inr (inr (inr (inl refl))))
listed template_tag = inr (inr (inr (inr (inr (inl refl)))))
listed inherit_tag = inr (inr (inr (inr (inr (inr (inl refl))))))
listed plain_type = inr (inl refl)
listed suffixed = inr (inl refl)
listed this = inr (inl refl)
listed literal = inr (inr (inl refl))
listed shape = inr (inr (inr (inl refl)))
listed range = inr (inr (inr (inr (inl refl))))
listed callable_type = inr (inr (inr (inr (inr (inl refl)))))
listed member = inr (inr (inr (inr (inr (inr (inl refl))))))
listed name = inr (inr (inr (inr (inr (inr (inr (inl refl)))))))
listed plain_field = inr (inl refl)
listed param_tag = inl refl
listed r = inl refl

plain_ends : (r : Rule) → is_special r ≡ false → subset (ends (symbols r)) (rule_goes r) ≡ true
unfolding same_kind
plain_ends conditional h = absurd cc
plain_ends param_tag h = absurd cc
plain_ends method_tag h = absurd cc
plain_ends default_value h = absurd cc
plain_ends fields h = absurd cc
plain_ends suffixed h = absurd cc
plain_ends r h = refl

-- ---- the earlier one is longer

module _ (ts : List DocToken) where
  differ : (q r : Rule) (at e b : ℕ) → apart (firsts (symbols q)) (firsts (symbols r)) ≡ true → (((at ≡ e) × (empty (symbols q) ≡ true)) ⊎ ((at < e) × (has (firsts (symbols q)) (kind_at ts at) ≡ true)))
      → (((at ≡ b) × (empty (symbols r) ≡ true)) ⊎ ((at < b) × (has (firsts (symbols r)) (kind_at ts at) ≡ true))) → Beaten ts q r e b
  differ q r at e b a (inl x) y = clash (empty (symbols q)) x.1 (rule_takes q)
  differ q r at e b a (inr x) (inl y) = clash (empty (symbols r)) y.1 (rule_takes r)
  differ q r at e b a (inr x) (inr y) = clash (has (firsts (symbols r)) (kind_at ts at)) y.1 (apart_has (firsts (symbols q)) (firsts (symbols r)) (kind_at ts at) a x.1)

  beats : (q r : Rule) (g ps : Forest) (at e b : ℕ) → apart (firsts (symbols q)) (firsts (symbols r)) || alike q r ≡ true → Runs ts (symbols q) g at e → Runs ts (symbols r) ps at b → Beaten ts q r e b
  beats q r g ps at e b w h i = elim (or_split (apart (firsts (symbols q)) (firsts (symbols r))) (alike q r) w) [
    | inl a ↦ differ q r at e b a (starts ts (symbols q) g at e (rule_leads q) h) (starts ts (symbols r) ps at b (rule_leads r) i)
    | inr s ↦ beaten ts q r g ps at e b s h i
  ]

won : (q r : Rule) (rs : List Rule) → clear q rs ≡ true → In r rs → apart (firsts (symbols q)) (firsts (symbols r)) || alike q r ≡ true
won q r [] w i = absurd i
won q r (z ∷ rs) w (inl e) = subst (λ z. apart (firsts (symbols q)) (firsts (symbols z)) || alike q z ≡ true) e (and_split (apart (firsts (symbols q)) (firsts (symbols z)) || alike q z) (clear q rs) w).0
won q r (z ∷ rs) w (inr i) = won q r rs (and_split (apart (firsts (symbols q)) (firsts (symbols z)) || alike q z) (clear q rs) w).1 i

earlier : (q r : Rule) (rs : List Rule) → ordered rs ≡ true → Before q r rs → apart (firsts (symbols q)) (firsts (symbols r)) || alike q r ≡ true
earlier q r [] o i = absurd i
earlier q r (x ∷ rs) o (inl i) = subst (λ z. apart (firsts (symbols z)) (firsts (symbols r)) || alike z r ≡ true) i.0 (won x r rs (and_split (clear x rs) (ordered rs) o).0 i.1)
earlier q r (x ∷ rs) o (inr i) = earlier q r rs (and_split (clear x rs) (ordered rs) o).1 i

pub earlier_alternatives_are_longer : EarlierAlternativesAreLonger
earlier_alternatives_are_longer ts q r g ps at e b i h j = beats ts q r g ps at e b (earlier q r (order (sort_of r)) (sort_ordered (sort_of r)) i) h j

-- ---- parts

module _ (ts : List DocToken) (below : Rule → ℕ → Read Forest) (n : ℕ) (sound : IsSound ts below n) (longest : ReadsProductions ts below n) where
  here : (r : Rule) (ps : Forest) (at b : ℕ) (rs : List Rule) → is_tag (sort_of r) ≡ false → height ps < n → b ≤ length ts → Runs ts (symbols r) ps at b → ReadsPiece ts r ps b (first ts below (r ∷ rs) at)
  here r ps at b rs tag d le h =
      let x = longest r ps at b tag d le h in
      (((r, x.0.0), x.0.1), rw x.1 refl, settle x.0.0 x.2, x.3)
    where
      settle : (g : Forest) → Better (symbols r) g ps ⊎ Outgrown r ps g → BetterPiece (r, g) r ps ⊎ Outgrown r ps g
      settle g (inl (inl i)) = inl (inl (ap (λ z. (r, z)) (sym i)))
      settle g (inl (inr m)) = inl (inr (inr (refl, m)))
      settle g (inr o) = inr o

  first_longest : (rs : List Rule) (r : Rule) (ps : Forest) (at b : ℕ) → is_tag (sort_of r) ≡ false → ordered rs ≡ true → In r rs → height ps < n → b ≤ length ts → Runs ts (symbols r) ps at b → ReadsPiece ts r ps b (first ts below rs at)
  first_longest [] r ps at b tag w i d le h = absurd i
  first_longest (q ∷ rs) r ps at b tag w (inl i) d le h = subst (λ z. ReadsPiece ts r ps b (first ts below (z ∷ rs) at)) (sym i) (here r ps at b rs tag d le h)
  first_longest (q ∷ rs) r ps at b tag w (inr i) d le h = elim (see (below q at)) [
    | inl lack ↦ let x = first_longest rs r ps at b tag (and_split (clear q rs) (ordered rs) w).1 i d le h in (x.0, rw lack x.1, x.2, x.3)
    | inr f ↦
        let g = sound q at f.0 f.1 in
        let v = beats ts q r f.0.0 ps at f.0.1 b (won q r rs (and_split (clear q rs) (ordered rs) w).0 i) g.0 h in
        (((q, f.0.0), f.0.1), rw f.1 refl, inl (inr (inl v.0)), v.1)
  ]

  parts : ReadsParts ts below n
  parts s r ps at b tag e d le h =
      subst (λ z. ReadsPiece ts r ps b (one ts below z at)) e (first_longest (order (sort_of r)) r ps at b (subst (λ z. is_tag z ≡ false) (sym e) tag) (sort_ordered (sort_of r)) (listed r) d le h)

  plain : (r : Rule) (ps : Forest) (at b : ℕ) → is_special r ≡ false → height ps ≤ n → b ≤ length ts → Runs ts (symbols r) ps at b → ReadsProduction ts r ps b (run ts below (symbols r) at)
  plain r ps at b p d le h =
      let x = descent_reads_the_longest ts below n sound parts (symbols r) ps at b (plain_productions_are_fine r p) d le h in
      (x.0, x.1, inl x.2, settle x.0.1 x.3)
    where
      settle : (end : ℕ) → Reaches ts (ends (symbols r)) b end → Reaches ts (rule_goes r) b end
      settle end (inl i) = inl i
      settle end (inr w) = inr (w.0, subset_has (ends (symbols r)) (rule_goes r) (kind_at ts b) (plain_ends r p) w.1)

pub parts_are_read : PartsAreRead
parts_are_read ts below n sound longest = parts ts below n sound longest

pub plain_productions_are_read : PlainProductionsAreRead
plain_productions_are_read ts below n sound longest r ps at b p d le h = plain ts below n sound longest r ps at b p d le h
