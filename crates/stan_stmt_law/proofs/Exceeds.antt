-- One forest takes more than another: they are the same up to a part where the first takes more tokens.
use Rattle.std.proofs.Common.{◌≡◌, ℕ, ◌+◌, ◌≤◌, ◌<◌, Bool, true, false, List, [], ◌∷◌, ◌++◌, Option, refl, sym, ap, ap₂, subst, ◌∙◌, ◌⊎◌, inl, inr, arith, eq-or-lt_of_le, true≢false}
use Rattle.stan_model_grammar.specs.declared.token.Token.{Token}
use Rattle.stan_model_grammar.specs.Strata.{loosest}
use Rattle.stan_model_grammar.specs.Takes.{takes as tree_takes, More}
use Rattle.stan_model_grammar.specs.Trees.{Tree}
use Rattle.stan_model_statements.specs.Symbols.{Sort, Need, One, May, Many, Again, Symbol, Mark, Word, Checked, Expression, Part, lacks, rest}
use Rattle.stan_model_statements.specs.Rules.{Rule, namespace_statement, symbols}
use Rattle.stan_model_statements.specs.Forests.{Forest, nil, mark, word, expr, none, some}
use Rattle.stan_model_statements.specs.Grammar.{Runs}
use Rattle.stan_model_statements.specs.Takes.{size, repeated_size, takes}
use Rattle.stan_stmt_law.proofs.Checks.{rest_append}
use Rattle.stan_stmt_law.proofs.Runs.{join}
use Rattle.stan_stmt_law.proofs.Places.{repeated_join}

-- a part of the first forest, with what stands behind it, is no smaller where it counts
abbrev pub NoLess : Need → Forest → Forest → Forest → Forest → Type 0
NoLess One qs g ps f = Unit {0}
NoLess May qs g ps f = size ps ≤ size qs
NoLess n qs g ps f = size ps + repeated_size f ≤ size qs + repeated_size g

abbrev pub Exceeds : List Symbol → Forest → Forest → Type 0
Exceeds (Mark kind ∷ xs) (mark g) (mark f) = Exceeds xs g f
Exceeds (Word ks ∷ xs) (word u g) (word t f) = (u ≡ t) × Exceeds xs g f
Exceeds (Checked c ∷ xs) (word u g) (word t f) = (u ≡ t) × Exceeds xs g f
Exceeds (Expression p ∷ xs) (expr d g) (expr e f) = More (tree_takes loosest d) (tree_takes loosest e) ⊎ ((d ≡ e) × Exceeds xs g f)
Exceeds (Part n s ∷ xs) (none g) (none f) = Exceeds xs g f
Exceeds (Part n s ∷ xs) (some q qs g) (none f) = (lacks n ≡ true) × (0 < size qs)
Exceeds (Part n s ∷ xs) (some q qs g) (some r ps f) = (q ≡ r) × NoLess n qs g ps f × (Exceeds (symbols r) qs ps ⊎ ((qs ≡ ps) × Exceeds (rest n s xs) g f))
Exceeds _ _ _ = ⊥

-- ---- lists of numbers

more_behind : (xs ys us vs : List ℕ) → More xs ys → More (xs ++ us) (ys ++ vs)
more_behind [] ys us vs m = absurd m
more_behind (x ∷ xs) [] us vs m = absurd m
more_behind (x ∷ xs) (y ∷ ys) us vs (inl lt) = inl lt
more_behind (x ∷ xs) (y ∷ ys) us vs (inr m) = inr (m.0, more_behind xs ys us vs m.1)

more_after : (xs us vs : List ℕ) → More us vs → More (xs ++ us) (xs ++ vs)
more_after [] us vs m = m
more_after (x ∷ xs) us vs m = inr (refl, more_after xs us vs m)

more_first : (x y : ℕ) (us vs : List ℕ) → y ≤ x → (x ≡ y → More us vs) → More (x ∷ us) (y ∷ vs)
more_first x y us vs le m = elim (eq-or-lt_of_le le) [ inl e ↦ inr (sym e, m (sym e)) | inr lt ↦ inl lt ]

-- ---- what exceeds takes more

-- no part stands in the middle of its turns
abbrev pub plain : List Symbol → Bool
plain [] = true
plain (Part Again s ∷ xs) = false
plain (x ∷ xs) = plain xs

pub rules_plain : (r : Rule) → plain (symbols r) ≡ true
rules_plain namespace_statement = refl
rules_plain r = refl

-- a part, or what stands behind it
inside_or_behind : (q r : Rule) (qs ps : Forest) (us vs : List ℕ) → q ≡ r → More (takes (symbols r) qs) (takes (symbols r) ps) ⊎ ((qs ≡ ps) × More us vs) → More (takes (symbols q) qs ++ us) (takes (symbols r) ps ++ vs)
inside_or_behind q r qs ps us vs e (inl m) = subst (λ z. More (takes (symbols z) qs ++ us) (takes (symbols r) ps ++ vs)) (sym e) (more_behind (takes (symbols r) qs) (takes (symbols r) ps) us vs m)
inside_or_behind q r qs ps us vs e (inr m) =
    subst (λ z. More (takes (symbols z) qs ++ us) (takes (symbols r) ps ++ vs)) (sym e)
    (subst (λ z. More (takes (symbols r) qs ++ us) (takes (symbols r) z ++ vs)) m.0 (more_after (takes (symbols r) qs) us vs m.1))

mutual
  pub exceeds_more : (xs : List Symbol) (g f : Forest) → plain xs ≡ true → Exceeds xs g f → More (takes xs g) (takes xs f)
  exceeds_more (Mark kind ∷ xs) (mark g) (mark f) p h = exceeds_more xs g f p h
  exceeds_more (Word ks ∷ xs) (word u g) (word t f) p h = exceeds_more xs g f p h.1
  exceeds_more (Checked c ∷ xs) (word u g) (word t f) p h = exceeds_more xs g f p h.1
  exceeds_more (Expression q ∷ xs) (expr d g) (expr e f) p h = elim h [
    | inl m ↦ more_behind (tree_takes loosest d) (tree_takes loosest e) (takes xs g) (takes xs f) m
    | inr w ↦ subst (λ z. More (tree_takes loosest d ++ takes xs g) (tree_takes loosest z ++ takes xs f)) w.0 (more_after (tree_takes loosest d) (takes xs g) (takes xs f) (exceeds_more xs g f p w.1))
  ]
  exceeds_more (Part One s ∷ xs) (none g) (none f) p h = inr (refl, exceeds_more xs g f p h)
  exceeds_more (Part May s ∷ xs) (none g) (none f) p h = inr (refl, exceeds_more xs g f p h)
  exceeds_more (Part Many s ∷ xs) (none g) (none f) p h = inr (refl, exceeds_more xs g f p h)
  exceeds_more (Part One s ∷ xs) (some q qs g) (none f) p h = absurd (true≢false (sym h.0))
  exceeds_more (Part May s ∷ xs) (some q qs g) (none f) p h = inl h.1
  exceeds_more (Part Many s ∷ xs) (some q qs g) (none f) p h = inl (omega (arith, h.1))
  exceeds_more (Part One s ∷ xs) (some q qs g) (some r ps f) p h =
      inside_or_behind q r qs ps (takes xs g) (takes xs f) h.0 (elim h.2 [ inl e ↦ inl (exceeds_more (symbols r) qs ps (rules_plain r) e) | inr w ↦ inr (w.0, exceeds_more xs g f p w.1) ])
  exceeds_more (Part May s ∷ xs) (some q qs g) (some r ps f) p h =
      more_first (size qs) (size ps) _ _ h.1
      (λ same. inside_or_behind q r qs ps (takes xs g) (takes xs f) h.0 (elim h.2 [ inl e ↦ inl (exceeds_more (symbols r) qs ps (rules_plain r) e) | inr w ↦ inr (w.0, exceeds_more xs g f p w.1) ]))
  exceeds_more (Part Many s ∷ xs) (some q qs g) (some r ps f) p h =
      more_first (size qs + repeated_size g) (size ps + repeated_size f) _ _ h.1
      (λ same. inside_or_behind q r qs ps (takes (Part Again s ∷ xs) g) (takes (Part Again s ∷ xs) f) h.0 (elim h.2 [
        | inl e ↦ inl (exceeds_more (symbols r) qs ps (rules_plain r) e)
        | inr w ↦ inr (w.0, exceeds_again s xs g f p (let sizes : size qs ≡ size ps = ap size w.0 in omega (arith, same, sizes)) w.1)
      ]))
  exceeds_more (Part Again s ∷ xs) g f p h = absurd (true≢false (sym p))
  exceeds_more xs g f p h = absurd h

  -- of two repeated parts of as many tokens
  exceeds_again : (s : Sort) (xs : List Symbol) (g f : Forest) → plain xs ≡ true → repeated_size g ≡ repeated_size f → Exceeds (Part Again s ∷ xs) g f → More (takes (Part Again s ∷ xs) g) (takes (Part Again s ∷ xs) f)
  exceeds_again s xs (none g) (none f) p same h = exceeds_more xs g f p h
  exceeds_again s xs (some q qs g) (none f) p same h = absurd (omega (arith, same, h.1))
  exceeds_again s xs (some q qs g) (some r ps f) p same h =
      inside_or_behind q r qs ps (takes (Part Again s ∷ xs) g) (takes (Part Again s ∷ xs) f) h.0 (elim h.2 [
        | inl e ↦ inl (exceeds_more (symbols r) qs ps (rules_plain r) e)
        | inr w ↦ inr (w.0, exceeds_again s xs g f p (let sizes : size qs ≡ size ps = ap size w.0 in omega (arith, same, sizes)) w.1)
      ])
  exceeds_again s xs g f p same h = absurd h

-- ---- forests behind one another

module _ (ts : List Token) (named : Token → Bool) (X Y : Bool → Tree → ℕ → ℕ → Type 0) (P Q : Sort → ℕ → Option Rule → Type 0) where
  -- what counts of the first parts alone
  less_behind : (n : Need) (s : Sort) (xs : List Symbol) (qs g p ps f o : Forest) (a b c d : ℕ) → Runs ts named Y Q (rest n s xs) p a b → Runs ts named X P (rest n s xs) o c d → NoLess n qs (join p g) ps (join o f) → NoLess n qs p ps o
  less_behind One s xs qs g p ps f o a b c d h i le = tt
  less_behind May s xs qs g p ps f o a b c d h i le = le
  less_behind Many s xs qs g p ps f o a b c d h i le = omega (arith, repeated_join ts named Y Q s xs p g a b h, repeated_join ts named X P s xs o f c d i, le)
  less_behind Again s xs qs g p ps f o a b c d h i le = omega (arith, repeated_join ts named Y Q s xs p g a b h, repeated_join ts named X P s xs o f c d i, le)

  -- Where forests behind one another exceed others, the first ones do, or they are the same and those behind do.
  pub exceeds_split : (xs : List Symbol) (p o : Forest) (ys : List Symbol) (f g : Forest) (a b c d : ℕ) → Runs ts named Y Q xs p a b → Runs ts named X P xs o c d → Exceeds (xs ++ ys) (join p g) (join o f) → Exceeds xs p o ⊎ ((p ≡ o) × Exceeds ys g f)
  exceeds_split [] nil nil ys f g a b c d h i e = inr (refl, e)
  exceeds_split (Mark kind ∷ xs) (mark p) (mark o) ys f g a b c d h i e = elim (exceeds_split xs p o ys f g (a + 1) b (c + 1) d h.1 i.1 e) [ inl m ↦ inl m | inr w ↦ inr (ap mark w.0, w.1) ]
  exceeds_split (Word ks ∷ xs) (word u p) (word t o) ys f g a b c d h i e = elim (exceeds_split xs p o ys f g (a + 1) b (c + 1) d h.2 i.2 e.1) [ inl m ↦ inl (e.0, m) | inr w ↦ inr (ap₂ word e.0 w.0, w.1) ]
  exceeds_split (Checked q ∷ xs) (word u p) (word t o) ys f g a b c d h i e = elim (exceeds_split xs p o ys f g (a + 1) b (c + 1) d h.3 i.3 e.1) [ inl m ↦ inl (e.0, m) | inr w ↦ inr (ap₂ word e.0 w.0, w.1) ]
  exceeds_split (Expression q ∷ xs) (expr y p) (expr x o) ys f g a b c d h i e = elim e [
    | inl m ↦ inl (inl m)
    | inr v ↦ elim (exceeds_split xs p o ys f g h.0 b i.0 d h.2 i.2 v.1) [ inl m ↦ inl (inr (v.0, m)) | inr w ↦ inr (ap₂ expr v.0 w.0, w.1) ]
  ]
  exceeds_split (Part n s ∷ xs) (none p) (none o) ys f g a b c d h i e = elim (exceeds_split xs p o ys f g a b c d h.2 i.2 e) [ inl m ↦ inl m | inr w ↦ inr (ap none w.0, w.1) ]
  exceeds_split (Part n s ∷ xs) (some q qs p) (none o) ys f g a b c d h i e = inl e
  exceeds_split (Part n s ∷ xs) (some q qs p) (some r ps o) ys f g a b c d h i e =
      let less = less_behind n s xs qs g p ps f o h.0 b i.0 d h.4 i.4 e.1 in
      elim e.2 [
        | inl m ↦ inl (e.0, less, inl m)
        | inr v ↦ elim (exceeds_split (rest n s xs) p o ys f g h.0 b i.0 d h.4 i.4 (subst (λ zs. Exceeds zs (join p g) (join o f)) (sym (rest_append n s xs ys)) v.1)) [
          | inl m ↦ inl (e.0, less, inr (v.0, m))
          | inr w ↦ inr (ap (λ z. some z qs p) e.0 ∙ ap₂ (some r) v.0 w.0, w.1)
        ]
      ]
  exceeds_split xs p o ys f g a b c d h i e = absurd assumption
