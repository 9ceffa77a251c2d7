-- Lists of numbers of which one takes more, and parts that are alike or take more.
use Rattle.std.proofs.Common.{◌≡◌, ℕ, zero, suc, ◌+◌, ◌-◌, ◌≤◌, ◌<◌, List, [], ◌∷◌, ◌++◌, refl, sym, ap, ap₂, subst, ◌∙◌, arith, ◌⊎◌, inl, inr, eq-or-lt_of_le}
use Rattle.stan_model_grammar.specs.Takes.{zeros, none, More}

pub more_before : (xs ys us vs : List ℕ) → More xs ys → More (xs ++ us) (ys ++ vs)
more_before [] ys us vs h = absurd h
more_before (x ∷ xs) [] us vs h = absurd h
more_before (x ∷ xs) (y ∷ ys) us vs (inl h) = inl h
more_before (x ∷ xs) (y ∷ ys) us vs (inr h) = inr (h.0, more_before xs ys us vs h.1)

more_same : (xs us vs : List ℕ) → More us vs → More (xs ++ us) (xs ++ vs)
more_same [] us vs h = h
more_same (x ∷ xs) us vs h = inr (refl, more_same xs us vs h)

pub more_after : (xs ys us vs : List ℕ) → xs ≡ ys → More us vs → More (xs ++ us) (ys ++ vs)
more_after xs ys us vs e h = let P : List ℕ → Type 0 = λ y. More (xs ++ us) (y ++ vs) in subst P e (more_same xs us vs h)

pub more_is : (xs ys us vs : List ℕ) → xs ≡ us → ys ≡ vs → More us vs → More xs ys
more_is xs ys us vs e f h = let P : List ℕ → Type 0 = λ y. More y ys in let Q : List ℕ → Type 0 = λ y. More us y in subst P (sym e) (subst Q (sym f) h)

-- ---- strata whose parts take nothing

pub zeros_split : (a b : ℕ) → zeros (a + b) ≡ zeros a ++ zeros b
zeros_split zero b = let e : zero + b ≡ b = omega arith in ap zeros e
zeros_split (suc a) b = let e : suc a + b ≡ suc (a + b) = omega arith in ap zeros e ∙ ap (λ r. 0 ∷ r) (zeros_split a b)

pub none_split : (i b j : ℕ) → i ≤ b → b ≤ j → none i j ≡ none i b ++ zeros (j - b)
none_split i b j lo hi = let e : j - i ≡ (b - i) + (j - b) = omega arith in ap zeros e ∙ zeros_split (b - i) (j - b)

-- ---- parts that are alike, or of which the first one takes more

abbrev pub Best : {A : Type 0} → A → A → ℕ → ℕ → List ℕ → List ℕ → Type 0
Best a b m n xs ys = ((a ≡ b) × (m ≡ n)) ⊎ More xs ys

-- the same one part around them
pub best_map : {A C : Type 0} (make : A → C) (a b : A) (m n to end : ℕ) (xs ys : List ℕ) → (m ≡ n → to ≡ end) → Best a b m n xs ys → Best (make a) (make b) to end xs ys
best_map make a b m n to end xs ys ends (inl h) = inl (ap make h.0, ends h.1)
best_map make a b m n to end xs ys ends (inr h) = inr h

-- with parts behind that take the same
pub best_pad : {A : Type 0} (a b : A) (m n : ℕ) (xs ys zs : List ℕ) → Best a b m n xs ys → Best a b m n (xs ++ zs) (ys ++ zs)
best_pad a b m n xs ys zs (inl h) = inl h
best_pad a b m n xs ys zs (inr h) = inr (more_before xs ys zs zs h)

pub best_cons : {A : Type 0} (a b : A) (m n x y : ℕ) (xs ys : List ℕ) → x ≡ y → Best a b m n xs ys → Best a b m n (x ∷ xs) (y ∷ ys)
best_cons a b m n x y xs ys e (inl h) = inl h
best_cons a b m n x y xs ys e (inr h) = inr (inr (e, h))

sized_by : {A : Type 0} (a b : A) (m n s r : ℕ) (xs ys : List ℕ) → (r ≡ s) ⊎ (r < s) → (r ≡ s → Best a b m n xs ys) → Best a b m n (s ∷ xs) (r ∷ ys)
sized_by a b m n s r xs ys (inl e) next = best_cons a b m n s r xs ys (sym e) (next e)
sized_by a b m n s r xs ys (inr lt) next = inr (inl lt)

-- a size first
pub best_sized : {A : Type 0} (a b : A) (m n s r : ℕ) (xs ys : List ℕ) → r ≤ s → (r ≡ s → Best a b m n xs ys) → Best a b m n (s ∷ xs) (r ∷ ys)
best_sized a b m n s r xs ys le next = sized_by a b m n s r xs ys (eq-or-lt_of_le le) next

-- what stands behind a part that is the same
pub same_then : {A B C : Type 0} (f : A → List ℕ) (make : A → B → C) (a b : A) (c d : B) (to end : ℕ) (us vs : List ℕ)
    → a ≡ b → Best c d to end us vs → Best (make a c) (make b d) to end (f a ++ us) (f b ++ vs)
same_then f make a b c d to end us vs same (inl h) = inl (ap₂ make same h.0, h.1)
same_then f make a b c d to end us vs same (inr h) = inr (more_after (f a) (f b) us vs (ap f same) h)

-- two parts, one behind the other
pub best_then : {A B C : Type 0} (f : A → List ℕ) (make : A → B → C) (a b : A) (c d : B) (m n to end : ℕ) (us vs : List ℕ)
    → Best a b m n (f a) (f b) → (a ≡ b → m ≡ n → Best c d to end us vs) → Best (make a c) (make b d) to end (f a ++ us) (f b ++ vs)
best_then f make a b c d m n to end us vs (inl h) next = same_then f make a b c d to end us vs h.0 (next h.0 h.1)
best_then f make a b c d m n to end us vs (inr h) next = inr (more_before (f a) (f b) us vs h)
