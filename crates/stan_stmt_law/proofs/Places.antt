-- Where each symbol of a run begins. Of two runs of the same symbols one is ahead where its places are no smaller.
use Rattle.std.proofs.Common.{◌≡◌, ℕ, suc, Bool, ◌+◌, ◌≤◌, List, [], ◌∷◌, ◌++◌, length, Option, refl, sym, ap, ◌∙◌, arith}
use Rattle.stan_model_grammar.specs.declared.token.Token.{Token}
use Rattle.stan_model_statements.specs.Symbols.{Sort, Need, One, May, Many, Again, Symbol, Mark, Word, Checked, Expression, Part, rest}
use Rattle.stan_model_statements.specs.Rules.{Rule}
use Rattle.stan_model_grammar.specs.Trees.{Tree}
use Rattle.stan_model_statements.specs.Forests.{Forest, nil, mark, word, expr, none, some}
use Rattle.stan_model_statements.specs.Grammar.{Runs}
use Rattle.stan_model_grammar.specs.Takes.{size as tree_size}
use Rattle.stan_model_statements.specs.Takes.{size, repeated_size}
use Rattle.stan_stmt_law.proofs.Runs.{join}

abbrev pub tail : List ℕ → List ℕ
tail [] = []
tail (x ∷ xs) = xs

-- A repeated part begins once.
abbrev pub once : Need → List ℕ → List ℕ
once Many ps = tail ps
once Again ps = tail ps
once n ps = ps

abbrev pub Before : List ℕ → List ℕ → Type 0
Before [] [] = Unit {0}
Before (x ∷ xs) (y ∷ ys) = (x ≤ y) × Before xs ys
Before xs ys = ⊥

pub before_self : (xs : List ℕ) → Before xs xs
before_self [] = tt
before_self (x ∷ xs) = (omega arith, before_self xs)

pub before_chain : (xs ys zs : List ℕ) → Before xs ys → Before ys zs → Before xs zs
before_chain [] [] [] h i = tt
before_chain (x ∷ xs) (y ∷ ys) (z ∷ zs) h i = (omega (arith, h.0, i.0), before_chain xs ys zs h.1 i.1)
before_chain [] [] (z ∷ zs) h i = absurd i
before_chain [] (y ∷ ys) zs h i = absurd h
before_chain (x ∷ xs) [] zs h i = absurd h
before_chain (x ∷ xs) (y ∷ ys) [] h i = absurd i

pub before_tail : (xs ys : List ℕ) → Before xs ys → Before (tail xs) (tail ys)
before_tail [] [] h = tt
before_tail (x ∷ xs) (y ∷ ys) h = h.1
before_tail [] (y ∷ ys) h = absurd h
before_tail (x ∷ xs) [] h = absurd h

pub before_once : (n : Need) (xs ys : List ℕ) → Before xs ys → Before (once n xs) (once n ys)
before_once One xs ys h = h
before_once May xs ys h = h
before_once Many xs ys h = before_tail xs ys h
before_once Again xs ys h = before_tail xs ys h

-- behind as many places
pub before_drop : (us vs xs ys : List ℕ) → length us ≡ length vs → Before (us ++ xs) (vs ++ ys) → Before xs ys
before_drop [] [] xs ys e h = h
before_drop (u ∷ us) (v ∷ vs) xs ys e h = before_drop us vs xs ys (omega (arith, e)) h.1
before_drop [] (v ∷ vs) xs ys e h = absurd (omega (arith, e))
before_drop (u ∷ us) [] xs ys e h = absurd (omega (arith, e))

abbrev pub places : List Symbol → Forest → ℕ → List ℕ
places [] nil at = at ∷ []
places (Mark kind ∷ xs) (mark f) at = at ∷ places xs f (at + 1)
places (Word ks ∷ xs) (word t f) at = at ∷ places xs f (at + 1)
places (Checked c ∷ xs) (word t f) at = at ∷ places xs f (at + 1)
places (Expression q ∷ xs) (expr e f) at = at ∷ places xs f (at + tree_size e)
places (Part n s ∷ xs) (none f) at = at ∷ places xs f at
places (Part n s ∷ xs) (some r ps f) at = at ∷ once n (places (rest n s xs) f (at + size ps))
places xs f at = []

-- what stands behind the items of a repeated part
abbrev pub behind_items : Forest → Forest
behind_items (some r ps f) = behind_items f
behind_items (none f) = f
behind_items f = f

-- a repeated part begins once, where its first item does
repeated : (n : ℕ) (us qs : List ℕ) (at : ℕ) (whole : List ℕ) → length us ≡ suc n → whole ≡ us ++ qs → (vs : List ℕ) × (length vs ≡ suc n) × (at ∷ tail whole ≡ vs ++ qs)
repeated n [] qs at whole e h = absurd (omega (arith, e))
repeated n (u ∷ us) qs at whole e h = (at ∷ us, omega (arith, e), ap (λ zs. at ∷ tail zs) h)

module _ (ts : List Token) (named : Token → Bool) (X : Bool → Tree → ℕ → ℕ → Type 0) (P : Sort → ℕ → Option Rule → Type 0) where
  pub head_place : (xs : List Symbol) (f : Forest) (a b at : ℕ) → Runs ts named X P xs f a b → places xs f at ≡ at ∷ tail (places xs f at)
  head_place [] nil a b at h = refl
  head_place (Mark kind ∷ xs) (mark f) a b at h = refl
  head_place (Word ks ∷ xs) (word t f) a b at h = refl
  head_place (Checked c ∷ xs) (word t f) a b at h = refl
  head_place (Expression q ∷ xs) (expr e f) a b at h = refl
  head_place (Part n s ∷ xs) (none f) a b at h = refl
  head_place (Part n s ∷ xs) (some r ps f) a b at h = refl
  head_place xs f a b at h = absurd h

  abbrev pub Fronts : List Symbol → List Symbol → Forest → Forest → ℕ → Type 0
  Fronts xs ys p f at = (us : List ℕ) × (length us ≡ length xs) × (places (xs ++ ys) (join p f) at ≡ us ++ places ys f (at + size p))

  next : (xs ys : List Symbol) (p f : Forest) → (at : ℕ) → Fronts xs ys p f at → (c : ℕ) → c ≡ at + size p
      → (us : List ℕ) × (length us ≡ length xs) × (places (xs ++ ys) (join p f) at ≡ us ++ places ys f c)
  next xs ys p f at h c e = (h.0, h.1, h.2 ∙ ap (λ z. h.0 ++ places ys f z) (sym e))

  -- the places of the first symbols, and those of the others
  pub fronts : (xs ys : List Symbol) (p f : Forest) (a b at : ℕ) → Runs ts named X P xs p a b → Fronts xs ys p f at
  fronts [] ys nil f a b at h = ([], refl, ap (places ys f) (omega arith))
  fronts (Mark kind ∷ xs) ys (mark p) f a b at h =
      let w = next xs ys p f (at + 1) (fronts xs ys p f (a + 1) b (at + 1) h.1) (at + (1 + size p)) (omega arith) in
      (at ∷ w.0, omega (arith, w.1), ap (λ zs. at ∷ zs) w.2)
  fronts (Word ks ∷ xs) ys (word t p) f a b at h =
      let w = next xs ys p f (at + 1) (fronts xs ys p f (a + 1) b (at + 1) h.2) (at + (1 + size p)) (omega arith) in
      (at ∷ w.0, omega (arith, w.1), ap (λ zs. at ∷ zs) w.2)
  fronts (Checked c ∷ xs) ys (word t p) f a b at h =
      let w = next xs ys p f (at + 1) (fronts xs ys p f (a + 1) b (at + 1) h.3) (at + (1 + size p)) (omega arith) in
      (at ∷ w.0, omega (arith, w.1), ap (λ zs. at ∷ zs) w.2)
  fronts (Expression q ∷ xs) ys (expr e p) f a b at h =
      let w = next xs ys p f (at + tree_size e) (fronts xs ys p f h.0 b (at + tree_size e) h.2) (at + (tree_size e + size p)) (omega arith) in
      (at ∷ w.0, omega (arith, w.1), ap (λ zs. at ∷ zs) w.2)
  fronts (Part n s ∷ xs) ys (none p) f a b at h =
      let w = fronts xs ys p f a b at h.2 in
      (at ∷ w.0, omega (arith, w.1), ap (λ zs. at ∷ zs) w.2)
  fronts (Part One s ∷ xs) ys (some r ps p) f a b at h =
      let w = next xs ys p f (at + size ps) (fronts xs ys p f h.0 b (at + size ps) h.4) (at + (size ps + size p)) (omega arith) in
      (at ∷ w.0, omega (arith, w.1), ap (λ zs. at ∷ zs) w.2)
  fronts (Part May s ∷ xs) ys (some r ps p) f a b at h =
      let w = next xs ys p f (at + size ps) (fronts xs ys p f h.0 b (at + size ps) h.4) (at + (size ps + size p)) (omega arith) in
      (at ∷ w.0, omega (arith, w.1), ap (λ zs. at ∷ zs) w.2)
  fronts (Part Many s ∷ xs) ys (some r ps p) f a b at h =
      let w = next (Part Again s ∷ xs) ys p f (at + size ps) (fronts (Part Again s ∷ xs) ys p f h.0 b (at + size ps) h.4) (at + (size ps + size p)) (omega arith) in
      repeated (length xs) w.0 (places ys f (at + (size ps + size p))) at (places (Part Again s ∷ (xs ++ ys)) (join p f) (at + size ps)) w.1 w.2
  fronts (Part Again s ∷ xs) ys (some r ps p) f a b at h =
      let w = next (Part Again s ∷ xs) ys p f (at + size ps) (fronts (Part Again s ∷ xs) ys p f h.0 b (at + size ps) h.4) (at + (size ps + size p)) (omega arith) in
      repeated (length xs) w.0 (places ys f (at + (size ps + size p))) at (places (Part Again s ∷ (xs ++ ys)) (join p f) (at + size ps)) w.1 w.2
  fronts xs ys p f a b at h = absurd h

  -- ---- the end of a repeated part

  pub end_place : (s : Sort) (xs : List Symbol) (f : Forest) (a b at : ℕ) → Runs ts named X P (Part Again s ∷ xs) f a b → tail (places (Part Again s ∷ xs) f at) ≡ places xs (behind_items f) (at + repeated_size f)
  end_place s xs (none f) a b at h = ap (places xs f) (omega arith)
  end_place s xs (some r ps f) a b at h = end_place s xs f h.0 b (at + size ps) h.4 ∙ ap (places xs (behind_items f)) (omega arith)
  end_place s xs f a b at h = absurd h

  end_run : (s : Sort) (xs : List Symbol) (f : Forest) (a b : ℕ) → Runs ts named X P (Part Again s ∷ xs) f a b → (c : ℕ) × Runs ts named X P xs (behind_items f) c b
  end_run s xs (none f) a b h = (a, h.2)
  end_run s xs (some r ps f) a b h = end_run s xs f h.0 b h.4
  end_run s xs f a b h = absurd h

  -- where what stands behind it begins
  pub end_is : (s : Sort) (xs : List Symbol) (f : Forest) (a b at : ℕ) → Runs ts named X P (Part Again s ∷ xs) f a b
      → tail (places (Part Again s ∷ xs) f at) ≡ (at + repeated_size f) ∷ tail (places xs (behind_items f) (at + repeated_size f))
  end_is s xs f a b at h = let run = end_run s xs f a b h in end_place s xs f a b at h ∙ head_place xs (behind_items f) run.0 b (at + repeated_size f) run.1

  -- nothing behind it counts
  pub repeated_join : (s : Sort) (xs : List Symbol) (p f : Forest) (a b : ℕ) → Runs ts named X P (Part Again s ∷ xs) p a b → repeated_size (join p f) ≡ repeated_size p
  repeated_join s xs (none p) f a b h = refl
  repeated_join s xs (some r ps p) f a b h = ap (λ n. size ps + n) (repeated_join s xs p f h.0 b h.4)
  repeated_join s xs p f a b h = absurd h
