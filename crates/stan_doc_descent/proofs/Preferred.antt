-- A tree that is made of better parts is better.
use Rattle.std.proofs.Common.{◌≡◌, ℕ, ◌≤◌, ◌<◌, Bool, true, false, List, [], ◌∷◌, ◌++◌, refl, sym, ap, subst, ◌⊎◌, inl, inr, arith}
use Rattle.stan_model_doc.specs.declared.token.DocKind.{DocKind}
use Rattle.stan_model_doc.specs.declared.token.DocToken.{DocToken}
use Rattle.stan_model_doc.specs.Symbols.{Sort, Need, One, May, Many, Stop, Symbol, Mark, Word, Any, Part, lacks}
use Rattle.stan_model_doc.specs.Rules.{Rule, symbols, sort_of}
use Rattle.stan_model_doc.specs.Trees.{Forest, nil, mark, word, any, none, some}
use Rattle.stan_model_doc.specs.Choices.{size, items_size, left, choices_of, choices, More, Better}
use Rattle.stan_doc_descent.specs.Parse.{Piece, standing}
use Rattle.stan_doc_descent.specs.Descent.{BetterPiece, Outgrown}
use Rattle.stan_doc_descent.specs.Tables.{settled}

more_append : (ps xs ys : List ℕ) → More xs ys → More (ps ++ xs) (ps ++ ys)
more_append [] xs ys m = m
more_append (p ∷ ps) xs ys m = inr (refl, more_append ps xs ys m)

more_front : (xs ys us vs : List ℕ) → More xs ys → More (xs ++ us) (ys ++ vs)
more_front [] ys us vs m = absurd m
more_front (x ∷ xs) [] us vs m = absurd m
more_front (x ∷ xs) (y ∷ ys) us vs (inl lt) = inl lt
more_front (x ∷ xs) (y ∷ ys) us vs (inr m) = inr (m.0, more_front xs ys us vs m.1)

pub mark_better : (kind : DocKind) (xs : List Symbol) (f x : Forest) → Better xs x f → Better (Mark kind ∷ xs) (mark x) (mark f)
mark_better kind xs f x (inl e) = inl (ap mark e)
mark_better kind xs f x (inr m) = inr m

pub word_better : (ks : List DocKind) (xs : List Symbol) (t : DocToken) (f x : Forest) → Better xs x f → Better (Word ks ∷ xs) (word t x) (word t f)
word_better ks xs t f x (inl e) = inl (ap (word t) e)
word_better ks xs t f x (inr m) = inr m

pub any_better : (stop : Stop) (xs : List Symbol) (n : ℕ) (f x : Forest) → Better xs x f → Better (Any stop ∷ xs) (any n x) (any n f)
any_better stop xs n f x (inl e) = inl (ap (any n) e)
any_better stop xs n f x (inr m) = inr m

pub none_better : (n : Need) (s : Sort) (xs : List Symbol) (f x : Forest) → Better xs x f → Better (Part n s ∷ xs) (none x) (none f)
none_better n s xs f x (inl e) = inl (ap none e)
none_better One s xs f x (inr m) = inr m
none_better May s xs f x (inr m) = inr (inr (refl, m))
none_better Many s xs f x (inr m) = inr (inr (refl, m))

-- the choices behind the part
abbrev Behind : List Symbol → Bool → Forest → List ℕ
Behind ys inside f = choices_of inside ys f

-- The part and what stands behind it. The truth value says whether items of a repeated part go on.
joined : (inside : Bool) (ys : List Symbol) (p : Piece) (r : Rule) (ps f x : Forest) → BetterPiece p r ps → (x ≡ f) ⊎ More (choices_of inside ys x) (choices_of inside ys f)
    → (standing p x ≡ some r ps f) ⊎ More (left p.0 ∷ (choices (symbols p.0) p.1 ++ choices_of inside ys x)) (left r ∷ (choices (symbols r) ps ++ choices_of inside ys f))
joined inside ys p r ps f x (inl i) (inl j) = inl (subst (λ (q : Piece). standing q x ≡ some r ps f) (sym i) (ap (some r ps) j))
joined inside ys p r ps f x (inl i) (inr m) =
    inr (subst (λ (q : Piece). More (left q.0 ∷ (choices (symbols q.0) q.1 ++ choices_of inside ys x)) (left r ∷ (choices (symbols r) ps ++ choices_of inside ys f))) (sym i)
    (inr (refl, more_append (choices (symbols r) ps) (choices_of inside ys x) (choices_of inside ys f) m)))
joined inside ys p r ps f x (inr m) j =
    inr (more_front (left p.0 ∷ choices (symbols p.0) p.1) (left r ∷ choices (symbols r) ps) (choices_of inside ys x) (choices_of inside ys f) m)

turned : (xs : List Symbol) (f x : Forest) → Better xs x f → (x ≡ f) ⊎ More (choices xs x) (choices xs f)
turned xs f x (inl e) = inl (sym e)
turned xs f x (inr m) = inr m

back : (xs : List Symbol) (f x : Forest) → (x ≡ f) ⊎ More (choices xs x) (choices xs f) → Better xs x f
back xs f x (inl e) = inl (sym e)
back xs f x (inr m) = inr m

pub one_better : (s : Sort) (xs : List Symbol) (p : Piece) (r : Rule) (ps f x : Forest) → BetterPiece p r ps → Better xs x f → Better (Part One s ∷ xs) (standing p x) (some r ps f)
one_better s xs p r ps f x i j = back (Part One s ∷ xs) (some r ps f) (standing p x) (joined false xs p r ps f x i (turned xs f x j))

pub may_better : (s : Sort) (xs : List Symbol) (p : Piece) (r : Rule) (ps f x : Forest) → size p.1 ≡ size ps → BetterPiece p r ps → Better xs x f → Better (Part May s ∷ xs) (standing p x) (some r ps f)
may_better s xs p r ps f x e i j = by (joined false xs p r ps f x i (turned xs f x j))
  where
    by : (standing p x ≡ some r ps f) ⊎ More (left p.0 ∷ (choices (symbols p.0) p.1 ++ choices xs x)) (left r ∷ (choices (symbols r) ps ++ choices xs f)) → Better (Part May s ∷ xs) (standing p x) (some r ps f)
    by (inl same) = inl (sym same)
    by (inr m) = inr (inr (e, m))

-- items of a repeated part, or its end
abbrev pub IsItems : Forest → Type 0
IsItems (none f) = Unit {0}
IsItems (some r ps f) = Unit {0}
IsItems _ = ⊥

inner : (s : Sort) (xs : List Symbol) (f : Forest) → IsItems f → choices (Part Many s ∷ xs) f ≡ items_size f ∷ choices_of true (Part Many s ∷ xs) f
inner s xs (none f) h = refl
inner s xs (some r ps f) h = refl
inner s xs f h = absurd h

pub many_better : (s : Sort) (xs : List Symbol) (p : Piece) (r : Rule) (ps f x : Forest) → IsItems f → IsItems x → size p.1 ≡ size ps → BetterPiece p r ps → Better (Part Many s ∷ xs) x f
    → Better (Part Many s ∷ xs) (standing p x) (some r ps f)
many_better s xs p r ps f x is_f is_x e i (inl j) = by (joined true (Part Many s ∷ xs) p r ps f x i (inl (sym j)))
  where
    by : (standing p x ≡ some r ps f) ⊎ More (left p.0 ∷ (choices (symbols p.0) p.1 ++ choices_of true (Part Many s ∷ xs) x)) (left r ∷ (choices (symbols r) ps ++ choices_of true (Part Many s ∷ xs) f))
        → Better (Part Many s ∷ xs) (standing p x) (some r ps f)
    by (inl same) = inl (sym same)
    by (inr m) = inr (inr (omega (arith, e, ap items_size j), m))
many_better s xs p r ps f x is_f is_x e i (inr m) = by (subst (λ ns. More ns (items_size f ∷ choices_of true (Part Many s ∷ xs) f)) (inner s xs x is_x) (subst (λ ns. More (choices (Part Many s ∷ xs) x) ns) (inner s xs f is_f) m))
  where
    same : items_size x ≡ items_size f → (standing p x ≡ some r ps f) ⊎ More (left p.0 ∷ (choices (symbols p.0) p.1 ++ choices_of true (Part Many s ∷ xs) x)) (left r ∷ (choices (symbols r) ps ++ choices_of true (Part Many s ∷ xs) f))
        → Better (Part Many s ∷ xs) (standing p x) (some r ps f)
    same g (inl a) = inl (sym a)
    same g (inr a) = inr (inr (omega (arith, e, g), a))

    by : More (items_size x ∷ choices_of true (Part Many s ∷ xs) x) (items_size f ∷ choices_of true (Part Many s ∷ xs) f) → Better (Part Many s ∷ xs) (standing p x) (some r ps f)
    by (inl lt) = inr (inl (omega (arith, lt, e)))
    by (inr a) = same a.0 (joined true (Part Many s ∷ xs) p r ps f x i (inr a.1))

-- ---- parts that take more

pub items_in : (f : Forest) → items_size f ≤ size f
items_in nil = omega arith
items_in (mark f) = omega arith
items_in (word t f) = omega arith
items_in (any n f) = omega arith
items_in (none f) = omega arith
items_in (some r ps f) = omega (arith, items_in f)

-- a longer part is better, if it is no text of any tokens
pub one_longer : (s : Sort) (xs : List Symbol) (p : Piece) (r : Rule) (ps f x : Forest) → settled One s ≡ true → sort_of r ≡ s → BetterPiece p r ps ⊎ Outgrown r ps p.1 → size ps < size p.1 → Better (Part One s ∷ xs) (standing p x) (some r ps f)
one_longer s xs p r ps f x t is (inl (inl i)) lt = absurd (let same = ap (λ (q : Piece). size q.1) i in omega (arith, lt, same))
one_longer s xs p r ps f x t is (inr o) lt = absurd (let w = subst (λ z. settled One z ≡ true) (sym is) t in let v = subst (λ z. settled One (sort_of z) ≡ true) o.0 w in cc)
one_longer s xs p r ps f x t is (inl (inr m)) lt = inr (more_front (left p.0 ∷ choices (symbols p.0) p.1) (left r ∷ choices (symbols r) ps) (choices xs x) (choices xs f) m)

-- a longer part is better, where no item of the same part stands behind the shorter one
pub longer_better : (need : Need) (s : Sort) (xs : List Symbol) (p : Piece) (r : Rule) (ps f x : Forest) → settled need s ≡ true → sort_of r ≡ s → BetterPiece p r ps ⊎ Outgrown r ps p.1 → size ps < size p.1 → items_size f ≡ 0
    → Better (Part need s ∷ xs) (standing p x) (some r ps f)
longer_better One s xs p r ps f x t is i lt e = one_longer s xs p r ps f x t is i lt
longer_better May s xs p r ps f x t is i lt e = inr (inl lt)
longer_better Many s xs p r ps f x t is i lt e = inr (inl (omega (arith, lt, e)))

-- a part that stands is better than none
pub added_better : (need : Need) (s : Sort) (xs : List Symbol) (p : Piece) (f x : Forest) → lacks need ≡ true → 0 < size p.1 → Better (Part need s ∷ xs) (standing p x) (none f)
added_better One s xs p f x l lt = absurd (let w = l in cc)
added_better May s xs p f x l lt = inr (inl lt)
added_better Many s xs p f x l lt = inr (inl (omega (arith, lt)))
