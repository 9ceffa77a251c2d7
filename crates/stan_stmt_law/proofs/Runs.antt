-- Runs of symbols: taken apart, behind one another, and how many tokens they take.
use Rattle.std.proofs.Common.{◌≡◌, ℕ, ◌+◌, ◌≤◌, ◌<◌, Bool, true, List, [], ◌∷◌, ◌++◌, Option, Some, None, refl, sym, ap, subst, ◌⊎◌, inl, inr, arith}
use Rattle.stan_model_grammar.specs.declared.token.TokenKind.{TokenKind}
use Rattle.stan_model_grammar.specs.declared.token.Token.{Token}
use Rattle.stan_model_statements.specs.Kinds.{has}
use Rattle.stan_model_grammar.specs.Strata.{kind_at}
use Rattle.stan_model_grammar.specs.Expressions.{Is, Stands}
use Rattle.stan_model_statements.specs.Symbols.{Sort, Need, Check, Symbol, Mark, Word, Checked, Expression, Part, lacks, rest}
use Rattle.stan_model_statements.specs.Rules.{Rule, symbols, sort_of}
use Rattle.stan_stmt_rules.specs.Ahead.{expression_kinds, starts, begins}
use Rattle.stan_model_grammar.specs.Trees.{Tree}
use Rattle.stan_model_statements.specs.Forests.{Forest, nil, mark, word, expr, none, some}
use Rattle.stan_model_statements.specs.Grammar.{checked_kinds, Holds, Runs}
use Rattle.stan_model_grammar.specs.Strata.{loosest}
use Rattle.stan_model_grammar.specs.Takes.{size as tree_size, takes as tree_takes, More}
use Rattle.stan_model_statements.specs.Takes.{size}
use Rattle.stan_stmt_law.proofs.Words.{implies, and_split, implied, subset, subset_has, stands_kind}
use Rattle.stan_stmt_law.proofs.Checks.{leads, leads_of, rest_append}

-- one forest behind another
abbrev pub join : Forest → Forest → Forest
join nil g = g
join (mark f) g = mark (join f g)
join (word t f) g = word t (join f g)
join (expr e f) g = expr e (join f g)
join (none f) g = none (join f g)
join (some r ps f) g = some r ps (join f g)

module _ (ts : List Token) (named : Token → Bool) (X : Bool → Tree → ℕ → ℕ → Type 0) (P : Sort → ℕ → Option Rule → Type 0) where
  abbrev R : List Symbol → Forest → ℕ → ℕ → Type 0
  R = Runs ts named X P

  -- ---- taken apart

  pub inv_nil : (g : Forest) (at to : ℕ) → R [] g at to → (g ≡ nil) × (at ≡ to)
  inv_nil nil at to h = (refl, h)
  inv_nil g at to h = absurd h

  pub inv_mark : (kind : TokenKind) (xs : List Symbol) (g : Forest) (at to : ℕ) → R (Mark kind ∷ xs) g at to → (f : Forest) × (g ≡ mark f) × Is ts at kind × R xs f (at + 1) to
  inv_mark kind xs (mark f) at to h = (f, refl, h.0, h.1)
  inv_mark kind xs g at to h = absurd h

  pub inv_word : (ks : List TokenKind) (xs : List Symbol) (g : Forest) (at to : ℕ) → R (Word ks ∷ xs) g at to
      → (t : Token) × (f : Forest) × (g ≡ word t f) × Stands ts at t × (has ks t.kind ≡ true) × R xs f (at + 1) to
  inv_word ks xs (word t f) at to h = (t, f, refl, h.0, h.1, h.2)
  inv_word ks xs g at to h = absurd h

  pub inv_checked : (c : Check) (xs : List Symbol) (g : Forest) (at to : ℕ) → R (Checked c ∷ xs) g at to
      → (t : Token) × (f : Forest) × (g ≡ word t f) × Stands ts at t × (has (checked_kinds c) t.kind ≡ true) × Holds named c t (kind_at ts (at + 1)) × R xs f (at + 1) to
  inv_checked c xs (word t f) at to h = (t, f, refl, h.0, h.1, h.2, h.3)
  inv_checked c xs g at to h = absurd h

  pub inv_expr : (q : Bool) (xs : List Symbol) (g : Forest) (at to : ℕ) → R (Expression q ∷ xs) g at to → (e : Tree) × (f : Forest) × (g ≡ expr e f) × (b : ℕ) × X q e at b × R xs f b to
  inv_expr q xs (expr e f) at to h = (e, f, refl, h.0, h.1, h.2)
  inv_expr q xs g at to h = absurd h

  abbrev pub Lacks : Need → Sort → List Symbol → Forest → ℕ → ℕ → Type 0
  Lacks n s xs g at to = (f : Forest) × (g ≡ none f) × (lacks n ≡ true) × P s at None × R xs f at to

  abbrev pub Has : Need → Sort → List Symbol → Forest → ℕ → ℕ → Type 0
  Has n s xs g at to = (r : Rule) × (ps f : Forest) × (b : ℕ) × (g ≡ some r ps f) × (sort_of r ≡ s) × P s at (Some r) × R (symbols r) ps at b × R (rest n s xs) f b to

  pub inv_part : (n : Need) (s : Sort) (xs : List Symbol) (g : Forest) (at to : ℕ) → R (Part n s ∷ xs) g at to → Lacks n s xs g at to ⊎ Has n s xs g at to
  inv_part n s xs (none f) at to h = inl (f, refl, h.0, h.1, h.2)
  inv_part n s xs (some r ps f) at to h = inr (r, ps, f, h.0, refl, h.1, h.2, h.3, h.4)
  inv_part n s xs g at to h = absurd h

  -- ---- behind one another

  pub append : (xs ys : List Symbol) (f g : Forest) (at b to : ℕ) → R xs f at b → R ys g b to → R (xs ++ ys) (join f g) at to
  append [] ys nil g at b to h i = subst (λ a. R ys g a to) (sym h) i
  append (Mark kind ∷ xs) ys (mark f) g at b to h i = (h.0, append xs ys f g (at + 1) b to h.1 i)
  append (Word ks ∷ xs) ys (word t f) g at b to h i = (h.0, h.1, append xs ys f g (at + 1) b to h.2 i)
  append (Checked c ∷ xs) ys (word t f) g at b to h i = (h.0, h.1, h.2, append xs ys f g (at + 1) b to h.3 i)
  append (Expression q ∷ xs) ys (expr e f) g at b to h i = (h.0, h.1, append xs ys f g h.0 b to h.2 i)
  append (Part n s ∷ xs) ys (none f) g at b to h i = (h.0, h.1, append xs ys f g at b to h.2 i)
  append (Part n s ∷ xs) ys (some r ps f) g at b to h i =
      (h.0, h.1, h.2, h.3, subst (λ zs. R zs (join f g) h.0 to) (rest_append n s xs ys) (append (rest n s xs) ys f g h.0 b to h.4 i))
  append xs ys f g at b to h i = absurd h

  abbrev pub Split : List Symbol → List Symbol → Forest → ℕ → ℕ → Type 0
  Split xs ys g at to = (p f : Forest) × (b : ℕ) × (g ≡ join p f) × R xs p at b × R ys f b to

  pub split : (xs ys : List Symbol) (g : Forest) (at to : ℕ) → R (xs ++ ys) g at to → Split xs ys g at to
  split [] ys g at to h = (nil, g, at, refl, refl, h)
  split (Mark kind ∷ xs) ys (mark g) at to h =
      let s = split xs ys g (at + 1) to h.1 in
      (mark s.0, s.1, s.2, ap mark s.3, (h.0, s.4), s.5)
  split (Word ks ∷ xs) ys (word t g) at to h =
      let s = split xs ys g (at + 1) to h.2 in
      (word t s.0, s.1, s.2, ap (word t) s.3, (h.0, h.1, s.4), s.5)
  split (Checked c ∷ xs) ys (word t g) at to h =
      let s = split xs ys g (at + 1) to h.3 in
      (word t s.0, s.1, s.2, ap (word t) s.3, (h.0, h.1, h.2, s.4), s.5)
  split (Expression q ∷ xs) ys (expr e g) at to h =
      let s = split xs ys g h.0 to h.2 in
      (expr e s.0, s.1, s.2, ap (expr e) s.3, (h.0, h.1, s.4), s.5)
  split (Part n s ∷ xs) ys (none g) at to h =
      let s = split xs ys g at to h.2 in
      (none s.0, s.1, s.2, ap none s.3, (h.0, h.1, s.4), s.5)
  split (Part n s ∷ xs) ys (some r ps g) at to h =
      let q = split (rest n s xs) ys g h.0 to (subst (λ zs. R zs g h.0 to) (sym (rest_append n s xs ys)) h.4) in
      (some r ps q.0, q.1, q.2, ap (some r ps) q.3, (h.0, h.1, h.2, h.3, q.4), q.5)
  split xs ys g at to h = absurd h

-- A run of the same forests in another reading is cut where the first one is.
module _ (ts : List Token) (named : Token → Bool) (X Y : Bool → Tree → ℕ → ℕ → Type 0) (P Q : Sort → ℕ → Option Rule → Type 0) where
  pub cut : (xs ys : List Symbol) (p f : Forest) (a b at to : ℕ) → Runs ts named X P xs p a b → Runs ts named Y Q (xs ++ ys) (join p f) at to
      → (c : ℕ) × Runs ts named Y Q xs p at c × Runs ts named Y Q ys f c to
  cut [] ys nil f a b at to h i = (at, refl, i)
  cut (Mark kind ∷ xs) ys (mark p) f a b at to h i = let c = cut xs ys p f (a + 1) b (at + 1) to h.1 i.1 in (c.0, (i.0, c.1), c.2)
  cut (Word ks ∷ xs) ys (word t p) f a b at to h i = let c = cut xs ys p f (a + 1) b (at + 1) to h.2 i.2 in (c.0, (i.0, i.1, c.1), c.2)
  cut (Checked q ∷ xs) ys (word t p) f a b at to h i = let c = cut xs ys p f (a + 1) b (at + 1) to h.3 i.3 in (c.0, (i.0, i.1, i.2, c.1), c.2)
  cut (Expression q ∷ xs) ys (expr e p) f a b at to h i = let c = cut xs ys p f h.0 b i.0 to h.2 i.2 in (c.0, (i.0, i.1, c.1), c.2)
  cut (Part n s ∷ xs) ys (none p) f a b at to h i = let c = cut xs ys p f a b at to h.2 i.2 in (c.0, (i.0, i.1, c.1), c.2)
  cut (Part n s ∷ xs) ys (some r ps p) f a b at to h i =
      let c = cut (rest n s xs) ys p f h.0 b i.0 to h.4 (subst (λ zs. Runs ts named Y Q zs (join p f) i.0 to) (sym (rest_append n s xs ys)) i.4) in
      (c.0, (i.0, i.1, i.2, i.3, c.1), c.2)
  cut xs ys p f a b at to h i = absurd h

-- ---- what is asked of the expressions

-- `X` says that an expression spells tokens up to an end token, and `Y` that it is the tree of these tokens.
pub record AreExpressions (ts : List Token) (X Y : Bool → Tree → ℕ → ℕ → Type 0) (behind : ℕ → TokenKind) : Type 0 where
  pub sized : (p : Bool) (e : Tree) (at b : ℕ) → X p e at b → b ≡ at + tree_size e
  pub some : (p : Bool) (e : Tree) (at b : ℕ) → X p e at b → at < b
  pub starting : (p : Bool) (e : Tree) (at b : ℕ) → X p e at b → starts (kind_at ts at) (kind_at ts (at + 1)) (kind_at ts (at + 2)) ≡ true
  pub ending : (p : Bool) (e : Tree) (at b : ℕ) → X p e at b → behind at ≡ kind_at ts b
  pub plain : (p : Bool) (e : Tree) (at b : ℕ) → Y p e at b → X p e at b
  pub one : (p : Bool) (e g : Tree) (at b c : ℕ) → Y p e at b → Y p g at c → (e ≡ g) × (b ≡ c)
  pub picked : (p : Bool) (e : Tree) (at b : ℕ) → X p e at b → Y p e at b ⊎ ((g : Tree) × Y p g at b × More (tree_takes loosest g) (tree_takes loosest e))

-- ---- how many tokens are taken, and with what they begin

module _ (ts : List Token) (named : Token → Bool) (X : Bool → Tree → ℕ → ℕ → Type 0) (P : Sort → ℕ → Option Rule → Type 0)
    (sized : (p : Bool) (e : Tree) (at b : ℕ) → X p e at b → b ≡ at + tree_size e)
    (begun : (p : Bool) (e : Tree) (at b : ℕ) → X p e at b → (at < b) × (has expression_kinds (kind_at ts at) ≡ true)) where
  pub taken : (xs : List Symbol) (f : Forest) (at to : ℕ) → Runs ts named X P xs f at to → to ≡ at + size f
  taken [] nil at to h = omega (arith, h)
  taken (Mark kind ∷ xs) (mark f) at to h = omega (arith, taken xs f (at + 1) to h.1)
  taken (Word ks ∷ xs) (word t f) at to h = omega (arith, taken xs f (at + 1) to h.2)
  taken (Checked c ∷ xs) (word t f) at to h = omega (arith, taken xs f (at + 1) to h.3)
  taken (Expression q ∷ xs) (expr e f) at to h = omega (arith, sized q e at h.0 h.1, taken xs f h.0 to h.2)
  taken (Part n s ∷ xs) (none f) at to h = taken xs f at to h.2
  taken (Part n s ∷ xs) (some r ps f) at to h = omega (arith, taken (symbols r) ps at h.0 h.3, taken (rest n s xs) f h.0 to h.4)
  taken xs f at to h = absurd h

  pub rises : (xs : List Symbol) (f : Forest) (at to : ℕ) → Runs ts named X P xs f at to → at ≤ to
  rises xs f at to h = omega (arith, taken xs f at to h)

  -- a token stands there of a kind with which the symbols begin
  pub first_kind : (ks : List TokenKind) (xs : List Symbol) (f : Forest) (at to : ℕ) → leads ks xs ≡ true → Runs ts named X P xs f at to → has ks (kind_at ts at) ≡ true
  first_kind ks (Mark kind ∷ xs) (mark f) at to l h = rw h.0 l
  first_kind ks (Word ws ∷ xs) (word t f) at to l h = rw (stands_kind ts at t h.0) (subset_has ws ks t.kind l h.1)
  first_kind ks (Checked c ∷ xs) (word t f) at to l h = rw (stands_kind ts at t h.0) (subset_has (checked_kinds c) ks t.kind l h.1)
  first_kind ks (Expression q ∷ xs) (expr e f) at to l h = subset_has expression_kinds ks (kind_at ts at) l (begun q e at h.0 h.1).1
  first_kind ks (Part n s ∷ xs) (none f) at to l h = first_kind ks xs f at to (implied (lacks n) (leads ks xs) (and_split (subset (begins s) ks) (implies (lacks n) (leads ks xs)) l).1 h.0) h.2
  first_kind ks (Part n s ∷ xs) (some r ps f) at to l h =
      subset_has (begins s) ks (kind_at ts at) (and_split (subset (begins s) ks) (implies (lacks n) (leads ks xs)) l).0
      (first_kind (begins s) (symbols r) ps at h.0 (subst (λ z. leads (begins z) (symbols r) ≡ true) h.1 (leads_of r)) h.3)
  first_kind ks [] f at to l h = absurd cc
  first_kind ks xs f at to l h = absurd h

  pub rule_begins : (r : Rule) (ps : Forest) (at b : ℕ) → Runs ts named X P (symbols r) ps at b → has (begins (sort_of r)) (kind_at ts at) ≡ true
  rule_begins r ps at b h = first_kind (begins (sort_of r)) (symbols r) ps at b (leads_of r) h

  -- symbols that begin with a token take one
  pub takes_some : (ks : List TokenKind) (xs : List Symbol) (f : Forest) (at to : ℕ) → leads ks xs ≡ true → Runs ts named X P xs f at to → at < to
  takes_some ks (Mark kind ∷ xs) (mark f) at to l h = omega (arith, rises xs f (at + 1) to h.1)
  takes_some ks (Word ws ∷ xs) (word t f) at to l h = omega (arith, rises xs f (at + 1) to h.2)
  takes_some ks (Checked c ∷ xs) (word t f) at to l h = omega (arith, rises xs f (at + 1) to h.3)
  takes_some ks (Expression q ∷ xs) (expr e f) at to l h = omega (arith, (begun q e at h.0 h.1).0, rises xs f h.0 to h.2)
  takes_some ks (Part n s ∷ xs) (none f) at to l h = takes_some ks xs f at to (implied (lacks n) (leads ks xs) (and_split (subset (begins s) ks) (implies (lacks n) (leads ks xs)) l).1 h.0) h.2
  takes_some ks (Part n s ∷ xs) (some r ps f) at to l h =
      omega (arith, takes_some (begins s) (symbols r) ps at h.0 (subst (λ z. leads (begins z) (symbols r) ≡ true) h.1 (leads_of r)) h.3, rises (rest n s xs) f h.0 to h.4)
  takes_some ks [] f at to l h = absurd cc
  takes_some ks xs f at to l h = absurd h

  pub rule_takes : (r : Rule) (ps : Forest) (at b : ℕ) → Runs ts named X P (symbols r) ps at b → at < b
  rule_takes r ps at b h = takes_some (begins (sort_of r)) (symbols r) ps at b (leads_of r) h
