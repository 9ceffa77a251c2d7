-- The descent reads runs, and each other run of the same symbols ends where more of them goes on.
use Rattle.std.proofs.Common.{◌≡◌, ℕ, zero, suc, ◌+◌, ◌≤◌, ◌<◌, Bool, true, false, cond, List, [], ◌∷◌, ◌++◌, length, Option, Some, None, refl, sym, ap, subst, inl, inr, arith, ◌&&◌, ◌⊎◌}
use Rattle.std.specs.Prelude.{not, if◌then◌else◌, slice_get}
use Rattle.stan_model_doc.specs.declared.token.DocKind.{DocKind}
use Rattle.stan_model_doc.specs.declared.token.DocToken.{DocToken}
use Rattle.stan_model_doc.specs.Tokens.{kind_at, kind_of, same_kind, has, Stands}
use Rattle.stan_model_doc.specs.Symbols.{Sort, Tag, Written, Unary, Atom, Field, Need, One, May, Many, Symbol, Mark, Word, Any, Part, lacks, rest}
use Rattle.stan_model_doc.specs.Rules.{Rule, symbols, sort_of, order}
use Rattle.stan_model_doc.specs.Trees.{Forest, nil, mark, word, any, none, some}
use Rattle.stan_model_doc.specs.Grammar.{Runs, is_closer}
use Rattle.stan_model_doc.specs.Choices.{Better, size, items_size}
use Rattle.stan_doc_descent.specs.Parse.{Read, ◌>>=◌, onto, Piece, standing, after, after_of, word_at, word_of, any_at, first, one, many, run, height}
use Rattle.stan_doc_descent.specs.Tables.{begins, goes, rule_goes, empty, firsts, leads, ends, fine, is_end, closes, settled, is_tag, apart}
use Rattle.stan_doc_descent.specs.Descent.{BetterPiece, Outgrown, Reaches, ReadsParts, DescentIsSound, DescentReadsTheLongest}
use Rattle.stan_doc_descent.proofs.Words.{subset_has, and_split, some_is, see, same_is, apart_has, clash}
use Rattle.stan_doc_descent.proofs.Checks.{rule_part, part_sort, has_left, has_right}
use Rattle.stan_doc_descent.proofs.Runs.{starts, rises, rule_starts, after_at, taken}
use Rattle.stan_doc_descent.proofs.Texts.{any_at_is, any_there}
use Rattle.stan_doc_descent.proofs.Preferred.{mark_better, word_better, any_better, none_better, one_better, may_better, many_better, items_in, longer_better, added_better, IsItems}

pub bind_ok : {A B : Type 0} (r : Option A) (f : A → Option B) (y : B) → (r >>= f) ≡ Some y → (x : A) × (r ≡ Some x) × (f x ≡ Some y)
bind_ok (Some x) f y e = (x, refl, e)
bind_ok None f y e = absurd cc

pub onto_is : (r : Read Forest) (f : Forest → Forest) (y : Forest × ℕ) → (r >>= onto f) ≡ Some y → (x : Forest × ℕ) × (r ≡ Some x) × (y.0 ≡ f x.0) × (y.1 ≡ x.1)
onto_is (Some x) f y e = let same = some_is (f x.0, x.1) y e in (x, refl, sym (ap (λ (p : Forest × ℕ). p.0) same), sym (ap (λ (p : Forest × ℕ). p.1) same))
onto_is None f y e = absurd cc

-- ---- tokens

guard : {A : Type 0} (c : Bool) (x y : A) → cond c (Some x) None ≡ Some y → (c ≡ true) × (x ≡ y)
guard true x y h = (refl, some_is x y h)
guard false x y h = absurd cc

after_of_is : (o : Option DocToken) (kind : DocKind) (at to : ℕ) → after_of o kind at ≡ Some to → (kind_of o ≡ kind) × (to ≡ at + 1)
after_of_is None kind at to h = absurd cc
after_of_is (Some x) kind at to h = let g = guard (same_kind x.kind kind) (at + 1) to h in (same_is x.kind kind g.0, sym g.1)

pub after_is : (ts : List DocToken) (kind : DocKind) (at to : ℕ) → after ts kind at ≡ Some to → (kind_at ts at ≡ kind) × (to ≡ at + 1)
unfolding after kind_at
after_is ts kind at to h = after_of_is (slice_get ts at) kind at to h

word_of_is : (o : Option DocToken) (ks : List DocKind) (t : DocToken) → word_of o ks ≡ Some t → (o ≡ Some t) × (has ks t.kind ≡ true)
word_of_is None ks t h = absurd cc
word_of_is (Some x) ks t h = let g = guard (has ks x.kind) x t h in (ap Some g.1, subst (λ y. has ks y.kind ≡ true) g.1 g.0)

pub word_is : (ts : List DocToken) (ks : List DocKind) (at : ℕ) (t : DocToken) → word_at ts ks at ≡ Some t → Stands ts at t × (has ks t.kind ≡ true)
unfolding word_at
word_is ts ks at t h = word_of_is (slice_get ts at) ks t h

pub word_there : (ts : List DocToken) (ks : List DocKind) (at : ℕ) (t : DocToken) → Stands ts at t → has ks t.kind ≡ true → word_at ts ks at ≡ Some t
unfolding word_at
word_there ts ks at t h i = rw h (rw i refl)

module _ (ts : List DocToken) (below : Rule → ℕ → Read Forest) (n : ℕ)
    (sound : (r : Rule) (at : ℕ) (x : Forest × ℕ) → below r at ≡ Some x → Runs ts (symbols r) x.0 at x.1 × (height x.0 < n)) where
  abbrev Found : List Symbol → ℕ → Forest × ℕ → Type 0
  Found xs at x = Runs ts xs x.0 at x.1 × (height x.0 ≤ n)

  -- ---- what is read is a run

  grown : (xs : List Symbol) (f : Forest) (at to : ℕ) (y : Forest × ℕ) → y.0 ≡ f → y.1 ≡ to → Runs ts xs f at to → height f ≤ n → Found xs at y
  grown xs f at to y e p g d = (subst (λ z. Runs ts xs z at y.1) (sym e) (subst (λ z. Runs ts xs f at z) (sym p) g), subst (λ z. height z ≤ n) (sym e) d)

  abbrev pub IsPiece : Sort → ℕ → Piece × ℕ → Type 0
  IsPiece s at p = (sort_of p.0.0 ≡ s) × Runs ts (symbols p.0.0) p.0.1 at p.1 × (height p.0.1 < n)

  abbrev Sorted : Sort → List Rule → Type 0
  Sorted s [] = Unit {0}
  Sorted s (r ∷ rs) = (sort_of r ≡ s) × Sorted s rs

  order_sorted : (s : Sort) → Sorted s (order s)
  order_sorted Tag = (refl, (refl, (refl, (refl, (refl, (refl, (refl, tt)))))))
  order_sorted Written = (refl, (refl, tt))
  order_sorted Unary = (refl, (refl, tt))
  order_sorted Atom = (refl, (refl, (refl, (refl, (refl, (refl, (refl, (refl, tt))))))))
  order_sorted Field = (refl, (refl, tt))
  order_sorted s = (refl, tt)

  first_sound : (s : Sort) (rs : List Rule) (at : ℕ) (p : Piece × ℕ) → Sorted s rs → first ts below rs at ≡ Some p → IsPiece s at p
  first_sound s [] at p o h = absurd cc
  first_sound s (r ∷ rs) at p o h = elim (see (below r at)) [
    | inl lack ↦ first_sound s rs at p o.1 (rw lack at h)
    | inr w ↦
        let same = some_is ((r, w.0.0), w.0.1) p (rw w.1 at h) in
        let is = sound r at w.0 w.1 in
        subst (λ (z : Piece × ℕ). IsPiece s at z) same (o.0, is.0, is.1)
  ]

  pub one_sound : (s : Sort) (at : ℕ) (p : Piece × ℕ) → one ts below s at ≡ Some p → IsPiece s at p
  one_sound s at p h = first_sound s (order s) at p (order_sorted s) h

  put : (need : Need) (s : Sort) (xs : List Symbol) (at : ℕ) (p : Piece × ℕ) (x y : Forest × ℕ) → IsPiece s at p → Found (rest need s xs) p.1 x → y.0 ≡ standing p.0 x.0 → y.1 ≡ x.1 → Found (Part need s ∷ xs) at y
  put need s xs at p x y i j e f = grown (Part need s ∷ xs) (standing p.0 x.0) at x.1 y e f (p.1, i.0, i.1, j.0) (omega (arith, i.2, j.1))

  pub many_sound : (s : Sort) (xs : List Symbol) (k : ℕ → Read Forest) → ((b : ℕ) (x : Forest × ℕ) → k b ≡ Some x → Found xs b x) → (m at : ℕ) (y : Forest × ℕ) → many ts below s k m at ≡ Some y → Found (Part Many s ∷ xs) at y
  many_sound s xs k ok zero at y h =
      let a = onto_is (k at) none y h in
      let i = ok at a.0 a.1 in
      grown (Part Many s ∷ xs) (none a.0.0) at a.0.1 y a.2 a.3 (refl, i.0) i.1
  many_sound s xs k ok (suc m) at y h = elim (see (one ts below s at)) [
    | inl lack ↦
        let a = onto_is (k at) none y (rw lack at h) in
        let i = ok at a.0 a.1 in
        grown (Part Many s ∷ xs) (none a.0.0) at a.0.1 y a.2 a.3 (refl, i.0) i.1
    | inr w ↦
        let a = onto_is (many ts below s k m w.0.1) (standing w.0.0) y (rw w.1 at h) in
        put Many s xs at w.0 a.0 y (one_sound s at w.0 w.1) (many_sound s xs k ok m w.0.1 a.0 a.1) a.2 a.3
  ]

  pub run_sound : (xs : List Symbol) (at : ℕ) (y : Forest × ℕ) → run ts below xs at ≡ Some y → Found xs at y
  run_sound [] at y h = let same = some_is (nil, at) y h in subst (λ (z : Forest × ℕ). Found [] at z) same (refl, omega arith)
  run_sound (Mark kind ∷ xs) at y h =
      let a = bind_ok (after ts kind at) _ y h in
      let b = onto_is (run ts below xs a.0) mark y a.2 in
      let t = after_is ts kind at a.0 a.1 in
      let i = run_sound xs a.0 b.0 b.1 in
      grown (Mark kind ∷ xs) (mark b.0.0) at b.0.1 y b.2 b.3 (t.0, subst (λ z. Runs ts xs b.0.0 z b.0.1) t.1 i.0) i.1
  run_sound (Word ks ∷ xs) at y h =
      let a = bind_ok (word_at ts ks at) _ y h in
      let b = onto_is (run ts below xs (at + 1)) (word a.0) y a.2 in
      let t = word_is ts ks at a.0 a.1 in
      let i = run_sound xs (at + 1) b.0 b.1 in
      grown (Word ks ∷ xs) (word a.0 b.0.0) at b.0.1 y b.2 b.3 (t.0, t.1, i.0) i.1
  run_sound (Any stop ∷ xs) at y h =
      let a = bind_ok (any_at ts stop at) _ y h in
      let b = onto_is (run ts below xs (at + a.0)) (any a.0) y a.2 in
      let t = any_at_is ts stop at a.0 a.1 in
      let i = run_sound xs (at + a.0) b.0 b.1 in
      grown (Any stop ∷ xs) (any a.0 b.0.0) at b.0.1 y b.2 b.3 (t.0, t.1, i.0) i.1
  run_sound (Part One s ∷ xs) at y h =
      let a = bind_ok (one ts below s at) _ y h in
      let b = onto_is (run ts below xs a.0.1) (standing a.0.0) y a.2 in
      put One s xs at a.0 b.0 y (one_sound s at a.0 a.1) (run_sound xs a.0.1 b.0 b.1) b.2 b.3
  run_sound (Part May s ∷ xs) at y h = elim (see (one ts below s at)) [
    | inl lack ↦
        let b = onto_is (run ts below xs at) none y (rw lack at h) in
        let i = run_sound xs at b.0 b.1 in
        grown (Part May s ∷ xs) (none b.0.0) at b.0.1 y b.2 b.3 (refl, i.0) i.1
    | inr w ↦
        let b = onto_is (run ts below xs w.0.1) (standing w.0.0) y (rw w.1 at h) in
        put May s xs at w.0 b.0 y (one_sound s at w.0 w.1) (run_sound xs w.0.1 b.0 b.1) b.2 b.3
  ]
  run_sound (Part Many s ∷ xs) at y h = many_sound s xs (λ b. run ts below xs b) (λ b x e. run_sound xs b x e) (length ts + 1) at y h

  module _ (parts : ReadsParts ts below n) where
    pub one_longest : (s : Sort) (r : Rule) (ps : Forest) (at b : ℕ) → is_tag s ≡ false → sort_of r ≡ s → height ps < n → b ≤ length ts → Runs ts (symbols r) ps at b
        → (x : Piece × ℕ) × (one ts below s at ≡ Some x) × (BetterPiece x.0 r ps ⊎ Outgrown r ps x.0.1) × Reaches ts (goes s) b x.1
    one_longest s r ps at b tag is d le h = let q = parts s r ps at b tag is d le h in (q.0, q.1, q.2, settle q.0.1 q.3)
      where
        settle : (end : ℕ) → Reaches ts (rule_goes r) b end → Reaches ts (goes s) b end
        settle end (inl e) = inl e
        settle end (inr w) = inr (w.0, subst (λ z. has (goes z) (kind_at ts b) ≡ true) is (subset_has (rule_goes r) (goes (sort_of r)) (kind_at ts b) (rule_part r) w.1))

    -- ---- symbols

    -- symbols that may be empty are read anywhere
    abbrev pub Passes : Read Forest → ℕ → Type 0
    Passes o at = (x : Forest × ℕ) × (o ≡ Some x) × (at ≤ x.1)

    pub onward : (o : Read Forest) (w : Forest → Forest) (at to : ℕ) → at ≤ to → Passes o to → Passes (o >>= onto w) at
    onward o w at to le p = ((w p.0.0, p.0.1), rw p.1 refl, omega (arith, le, p.2))

    pub one_takes : (s : Sort) (at : ℕ) (p : Piece × ℕ) → one ts below s at ≡ Some p → (at < p.1) × (has (begins s) (kind_at ts at) ≡ true)
    one_takes s at p h =
        let i = one_sound s at p h in
        let j = rule_starts ts p.0.0 p.0.1 at p.1 i.1 in
        (j.0, subst (λ z. has (begins z) (kind_at ts at) ≡ true) i.0 j.1)

    pub many_passes : (s : Sort) (k : ℕ → Read Forest) → ((b : ℕ) → Passes (k b) b) → (m at : ℕ) → Passes (many ts below s k m at) at
    many_passes s k ok zero at = onward (k at) none at at (omega arith) (ok at)
    many_passes s k ok (suc m) at = elim (see (one ts below s at)) [
      | inl lack ↦ let p = onward (k at) none at at (omega arith) (ok at) in (p.0, rw lack p.1, p.2)
      | inr w ↦
          let p = onward (many ts below s k m w.0.1) (standing w.0.0) at w.0.1 (omega (arith, (one_takes s at w.0 w.1).0)) (many_passes s k ok m w.0.1) in
          (p.0, rw w.1 p.1, p.2)
    ]

    pub passes : (xs : List Symbol) → empty xs ≡ true → (at : ℕ) → Passes (run ts below xs at) at
    passes [] e at = ((nil, at), refl, omega arith)
    passes (Mark kind ∷ xs) e at = absurd cc
    passes (Word ks ∷ xs) e at = absurd cc
    passes (Any stop ∷ xs) e at = absurd cc
    passes (Part One s ∷ xs) e at = absurd cc
    passes (Part May s ∷ xs) e at = elim (see (one ts below s at)) [
      | inl lack ↦ let p = onward (run ts below xs at) none at at (omega arith) (passes xs e at) in (p.0, rw lack p.1, p.2)
      | inr w ↦
          let p = onward (run ts below xs w.0.1) (standing w.0.0) at w.0.1 (omega (arith, (one_takes s at w.0 w.1).0)) (passes xs e w.0.1) in
          (p.0, rw w.1 p.1, p.2)
    ]
    passes (Part Many s ∷ xs) e at = many_passes s (λ b. run ts below xs b) (λ b. passes xs e b) (length ts + 1) at

    -- symbols, where so many turns of a repeated part are left
    abbrev head : ℕ → List Symbol → ℕ → Read Forest
    head m [] at = run ts below [] at
    head m (Mark kind ∷ xs) at = run ts below (Mark kind ∷ xs) at
    head m (Word ks ∷ xs) at = run ts below (Word ks ∷ xs) at
    head m (Any stop ∷ xs) at = run ts below (Any stop ∷ xs) at
    head m (Part One s ∷ xs) at = run ts below (Part One s ∷ xs) at
    head m (Part May s ∷ xs) at = run ts below (Part May s ∷ xs) at
    head m (Part Many s ∷ xs) at = many ts below s (λ b. run ts below xs b) m at

    abbrev turns : ℕ
    turns = length ts + 1

    abbrev pub Reads : List Symbol → Forest → ℕ → Read Forest → Type 0
    Reads xs f to o = (x : Forest × ℕ) × (o ≡ Some x) × Better xs x.0 f × Reaches ts (ends xs) to x.1

    onto_reads : (o : Read Forest) (xs ys : List Symbol) (f g : Forest) (w : Forest → Forest) (to : ℕ) → (has (ends xs) (kind_at ts to) ≡ true → has (ends ys) (kind_at ts to) ≡ true)
        → ((x : Forest × ℕ) → o ≡ Some x → Better xs x.0 f → Better ys (w x.0) g) → Reads xs f to o → Reads ys g to (o >>= onto w)
    onto_reads o xs ys f g w to more better r = ((w r.0.0, r.0.1), rw r.1 refl, better r.0 r.1 r.2, settle r.0.1 r.3)
      where
        settle : (end : ℕ) → Reaches ts (ends xs) to end → Reaches ts (ends ys) to end
        settle end (inl e) = inl e
        settle end (inr v) = inr (v.0, more v.1)

    -- pieces of the same tokens
    pub same_size : (s : Sort) (r : Rule) (ps : Forest) (at b : ℕ) (q : Piece × ℕ) → one ts below s at ≡ Some q → Runs ts (symbols r) ps at b → q.1 ≡ b → size q.0.1 ≡ size ps
    same_size s r ps at b q is h e = omega (arith, taken ts (symbols q.0.0) q.0.1 at q.1 (one_sound s at q is).1, taken ts (symbols r) ps at b h, e)

    pub larger : (s : Sort) (r : Rule) (ps : Forest) (at b : ℕ) (q : Piece × ℕ) → one ts below s at ≡ Some q → Runs ts (symbols r) ps at b → b < q.1 → size ps < size q.0.1
    larger s r ps at b q is h lt = omega (arith, taken ts (symbols q.0.0) q.0.1 at q.1 (one_sound s at q is).1, taken ts (symbols r) ps at b h, lt)

    -- a part of the same tokens is none that is only longer
    pub kept : (s : Sort) (r : Rule) (ps : Forest) (at b : ℕ) (q : Piece × ℕ) → one ts below s at ≡ Some q → Runs ts (symbols r) ps at b → q.1 ≡ b → BetterPiece q.0 r ps ⊎ Outgrown r ps q.0.1 → BetterPiece q.0 r ps
    kept s r ps at b q is h e (inl i) = i
    kept s r ps at b q is h e (inr o) = absurd (omega (arith, same_size s r ps at b q is h e, o.1))

    -- where nothing more is taken no item stands
    pub no_items : (ys : List Symbol) (f : Forest) (b to : ℕ) → Runs ts ys f b to → b ≡ to → items_size f ≡ 0
    no_items ys f b to h e = omega (arith, items_in f, taken ts ys f b to h, e)

    -- what goes on behind the others goes on behind all
    ends_behind : (need : Need) (s : Sort) (xs : List Symbol) (kind : DocKind) → has (ends xs) kind ≡ true → has (ends (Part need s ∷ xs)) kind ≡ true
    ends_behind need s xs kind h = has_right (if empty xs then goes s ++ (if lacks need then begins s else []) else []) (ends xs) kind h

    ends_goes : (need : Need) (s : Sort) (xs : List Symbol) (kind : DocKind) → empty xs ≡ true → has (goes s) kind ≡ true → has (ends (Part need s ∷ xs)) kind ≡ true
    ends_goes need s xs kind e h =
        has_left (if empty xs then goes s ++ (if lacks need then begins s else []) else []) (ends xs) kind
        (rw e (has_left (goes s) (if lacks need then begins s else []) kind h))

    ends_begins : (need : Need) (s : Sort) (xs : List Symbol) (kind : DocKind) → lacks need ≡ true → empty xs ≡ true → has (begins s) kind ≡ true → has (ends (Part need s ∷ xs)) kind ≡ true
    ends_begins need s xs kind l e h =
        has_left (if empty xs then goes s ++ (if lacks need then begins s else []) else []) (ends xs) kind
        (rw e (has_right (goes s) (if lacks need then begins s else []) kind (rw l h)))

    -- the part that is read is longer than the one that stands: nothing stands behind that one
    over : (need : Need) (s : Sort) (xs ys : List Symbol) (r : Rule) (ps f : Forest) (b to : ℕ) (p : Piece × ℕ) (o : Read Forest) → leads ys ≡ true → settled need s ≡ true → sort_of r ≡ s → BetterPiece p.0 r ps ⊎ Outgrown r ps p.0.1 → size ps < size p.0.1
        → b < p.1 → has (goes s) (kind_at ts b) ≡ true → apart (goes s) (firsts ys) ≡ true
        → Runs ts ys f b to → (empty ys ≡ true → empty xs ≡ true) → (empty ys ≡ true → Passes o p.1) → Reads (Part need s ∷ xs) (some r ps f) to (o >>= onto (standing p.0))
    over need s xs ys r ps f b to p o ld t is piece more lt go ap h same ok = elim (starts ts ys f b to ld h) [
      | inl e ↦
          let w = ok e.1 in
          ((standing p.0 w.0.0, w.0.1), rw w.1 refl, longer_better need s xs p.0 r ps f w.0.0 t is piece more (no_items ys f b to h e.0), inr (omega (arith, lt, w.2, e.0), subst (λ z. has (ends (Part need s ∷ xs)) (kind_at ts z) ≡ true) e.0 (ends_goes need s xs (kind_at ts b) (same e.1) go)))
      | inr e ↦ clash (has (firsts ys) (kind_at ts b)) e.1 (apart_has (goes s) (firsts ys) (kind_at ts b) ap go)
    ]

    -- a part is read where none stands: nothing stands behind it
    added : (need : Need) (s : Sort) (xs : List Symbol) (f : Forest) (at to : ℕ) (p : Piece × ℕ) (o : Read Forest) → leads xs ≡ true → lacks need ≡ true → one ts below s at ≡ Some p → apart (begins s) (firsts xs) ≡ true
        → Runs ts xs f at to → (empty xs ≡ true → Passes o p.1) → Reads (Part need s ∷ xs) (none f) to (o >>= onto (standing p.0))
    added need s xs f at to p o ld l is ap h ok =
        let t = one_takes s at p is in
        let some_tokens : 0 < size p.0.1 = omega (arith, taken ts (symbols p.0.0) p.0.1 at p.1 (one_sound s at p is).1, t.0) in
        elim (starts ts xs f at to ld h) [
          | inl e ↦
              let w = ok e.1 in
              ((standing p.0 w.0.0, w.0.1), rw w.1 refl, added_better need s xs p.0 f w.0.0 l some_tokens, inr (omega (arith, t.0, w.2, e.0), subst (λ z. has (ends (Part need s ∷ xs)) (kind_at ts z) ≡ true) e.0 (ends_begins need s xs (kind_at ts at) l e.1 t.1)))
          | inr e ↦ clash (has (firsts xs) (kind_at ts at)) e.1 (apart_has (begins s) (firsts xs) (kind_at ts at) ap t.1)
        ]

    of_head : (xs : List Symbol) (f : Forest) (at to : ℕ) → Reads xs f to (head turns xs at) → Reads xs f to (run ts below xs at)
    of_head [] f at to h = h
    of_head (Mark kind ∷ xs) f at to h = h
    of_head (Word ks ∷ xs) f at to h = h
    of_head (Any stop ∷ xs) f at to h = h
    of_head (Part One s ∷ xs) f at to h = h
    of_head (Part May s ∷ xs) f at to h = h
    of_head (Part Many s ∷ xs) f at to h = h

    pub are_items : (s : Sort) (xs : List Symbol) (f : Forest) (at to : ℕ) → Runs ts (Part Many s ∷ xs) f at to → IsItems f
    are_items s xs (none f) at to h = tt
    are_items s xs (some r ps f) at to h = tt
    are_items s xs f at to h = absurd h

    closing : (xs : List Symbol) (f : Forest) (at to : ℕ) → closes xs ≡ true → Runs ts xs f at to → is_closer (kind_at ts at) ≡ true
    closing (Mark kind ∷ xs) (mark f) at to c h = rw h.0 c
    closing (Mark kind ∷ xs) f at to c h = absurd h
    closing [] f at to c h = absurd cc
    closing (Word ks ∷ xs) f at to c h = absurd cc
    closing (Any stop ∷ xs) f at to c h = absurd cc
    closing (Part need s ∷ xs) f at to c h = absurd cc

    pub run_longest : (xs : List Symbol) (f : Forest) (m at to : ℕ) → fine xs ≡ true → height f ≤ n → to ≤ length ts → to < at + m → Runs ts xs f at to → Reads xs f to (head m xs at)
    run_longest [] nil m at to c d le lt h = ((nil, at), refl, inl refl, inl h)
    run_longest (Mark kind ∷ xs) (mark f) m at to c d le lt h =
        let split = and_split (not (is_end kind)) (fine xs) c in
        let r = of_head xs f (at + 1) to (run_longest xs f turns (at + 1) to split.1 d le (omega (arith, le)) h.1) in
        rw (after_at ts kind at split.0 h.0) (onto_reads (run ts below xs (at + 1)) xs (Mark kind ∷ xs) f (mark f) mark to (λ e. e) (λ x is i. mark_better kind xs f x.0 i) r)
    run_longest (Word ks ∷ xs) (word t f) m at to c d le lt h =
        let r = of_head xs f (at + 1) to (run_longest xs f turns (at + 1) to c d le (omega (arith, le)) h.2) in
        rw (word_there ts ks at t h.0 h.1) (onto_reads (run ts below xs (at + 1)) xs (Word ks ∷ xs) f (word t f) (word t) to (λ e. e) (λ x is i. word_better ks xs t f x.0 i) r)
    run_longest (Any stop ∷ xs) (any k f) m at to c d le lt h =
        let split = and_split (closes xs) (fine xs) c in
        let r = of_head xs f (at + k) to (run_longest xs f turns (at + k) to split.1 d le (omega (arith, le)) h.2) in
        rw (any_there ts stop at k h.0 h.1 (closing xs f (at + k) to split.0 h.2))
        (onto_reads (run ts below xs (at + k)) xs (Any stop ∷ xs) f (any k f) (any k) to (λ e. e) (λ x is i. any_better stop xs k f x.0 i) r)
    run_longest (Part One s ∷ xs) (none f) m at to c d le lt h = absurd (let w = h.0 in cc)
    run_longest (Part One s ∷ xs) (some r ps f) m at to c d le lt h =
        let test = and_split (leads xs && settled One s) _ c in
        let lead = and_split (leads xs) (settled One s) test.0 in
        let split = and_split (apart (goes s) (firsts xs)) (fine xs) test.1 in
        let up = rises ts xs f h.0 to h.3 in
        let rec = of_head xs f h.0 to (run_longest xs f turns h.0 to split.1 (omega (arith, d)) le (omega (arith, le)) h.3) in
        let q = one_longest s r ps at h.0 (part_sort One s lead.1) h.1 (omega (arith, d)) (omega (arith, up, le)) h.2 in
        elim q.3 [
          | inl e ↦ rw q.1 (rw e (onto_reads (run ts below xs h.0) xs (Part One s ∷ xs) f (some r ps f) (standing q.0.0) to (ends_behind One s xs (kind_at ts to)) (λ x is i. one_better s xs q.0.0 r ps f x.0 (kept s r ps at h.0 q.0 q.1 h.2 e q.2) i) rec))
          | inr w ↦ rw q.1 (over One s xs xs r ps f h.0 to q.0 (run ts below xs q.0.1) lead.0 lead.1 h.1 q.2 (larger s r ps at h.0 q.0 q.1 h.2 w.0) w.0 w.1 split.0 h.3 (λ e. e) (λ e. passes xs e q.0.1))
        ]
    run_longest (Part May s ∷ xs) (none f) m at to c d le lt h =
        let test = and_split (leads xs && settled May s) _ c in
        let lead = and_split (leads xs) (settled May s) test.0 in
        let split = and_split (apart (goes s) (firsts xs)) (apart (begins s) (firsts xs) && fine xs) test.1 in
        let next = and_split (apart (begins s) (firsts xs)) (fine xs) split.1 in
        let rec = of_head xs f at to (run_longest xs f turns at to next.1 d le (omega (arith, le)) h.1) in
        elim (see (one ts below s at)) [
          | inl lack ↦ rw lack (onto_reads (run ts below xs at) xs (Part May s ∷ xs) f (none f) none to (ends_behind May s xs (kind_at ts to)) (λ x is i. none_better May s xs f x.0 i) rec)
          | inr w ↦ rw w.1 (added May s xs f at to w.0 (run ts below xs w.0.1) lead.0 refl w.1 next.0 h.1 (λ e. passes xs e w.0.1))
        ]
    run_longest (Part May s ∷ xs) (some r ps f) m at to c d le lt h =
        let test = and_split (leads xs && settled May s) _ c in
        let lead = and_split (leads xs) (settled May s) test.0 in
        let split = and_split (apart (goes s) (firsts xs)) (apart (begins s) (firsts xs) && fine xs) test.1 in
        let next = and_split (apart (begins s) (firsts xs)) (fine xs) split.1 in
        let up = rises ts xs f h.0 to h.3 in
        let rec = of_head xs f h.0 to (run_longest xs f turns h.0 to next.1 (omega (arith, d)) le (omega (arith, le)) h.3) in
        let q = one_longest s r ps at h.0 (part_sort May s lead.1) h.1 (omega (arith, d)) (omega (arith, up, le)) h.2 in
        elim q.3 [
          | inl e ↦ rw q.1 (rw e (onto_reads (run ts below xs h.0) xs (Part May s ∷ xs) f (some r ps f) (standing q.0.0) to (ends_behind May s xs (kind_at ts to)) (λ x is i. may_better s xs q.0.0 r ps f x.0 (same_size s r ps at h.0 q.0 q.1 h.2 e) (kept s r ps at h.0 q.0 q.1 h.2 e q.2) i) rec))
          | inr w ↦ rw q.1 (over May s xs xs r ps f h.0 to q.0 (run ts below xs q.0.1) lead.0 lead.1 h.1 q.2 (larger s r ps at h.0 q.0 q.1 h.2 w.0) w.0 w.1 split.0 h.3 (λ e. e) (λ e. passes xs e q.0.1))
        ]
    run_longest (Part Many s ∷ xs) f zero at to c d le lt h = absurd (let up = rises ts (Part Many s ∷ xs) f at to h in omega (arith, lt, up))
    run_longest (Part Many s ∷ xs) (none f) (suc m) at to c d le lt h =
        let test = and_split (leads xs && settled Many s) _ c in
        let lead = and_split (leads xs) (settled Many s) test.0 in
        let split = and_split (apart (goes s) (begins s ++ firsts xs)) (apart (begins s) (firsts xs) && fine xs) test.1 in
        let next = and_split (apart (begins s) (firsts xs)) (fine xs) split.1 in
        let rec = of_head xs f at to (run_longest xs f turns at to next.1 d le (omega (arith, le)) h.1) in
        elim (see (one ts below s at)) [
          | inl lack ↦ rw lack (onto_reads (run ts below xs at) xs (Part Many s ∷ xs) f (none f) none to (ends_behind Many s xs (kind_at ts to)) (λ x is i. none_better Many s xs f x.0 i) rec)
          | inr w ↦ rw w.1 (added Many s xs f at to w.0 (many ts below s (λ b. run ts below xs b) m w.0.1) lead.0 refl w.1 next.0 h.1 (λ e. many_passes s (λ b. run ts below xs b) (λ b. passes xs e b) m w.0.1))
        ]
    run_longest (Part Many s ∷ xs) (some r ps f) (suc m) at to c d le lt h =
        let test = and_split (leads xs && settled Many s) _ c in
        let lead = and_split (leads xs) (settled Many s) test.0 in
        let split = and_split (apart (goes s) (begins s ++ firsts xs)) (apart (begins s) (firsts xs) && fine xs) test.1 in
        let up = rises ts (Part Many s ∷ xs) f h.0 to h.3 in
        let less = (rule_starts ts r ps at h.0 h.2).0 in
        let rec = run_longest (Part Many s ∷ xs) f m h.0 to c (omega (arith, d)) le (omega (arith, lt, less)) h.3 in
        let q = one_longest s r ps at h.0 (part_sort Many s lead.1) h.1 (omega (arith, d)) (omega (arith, up, le)) h.2 in
        elim q.3 [
          | inl e ↦ rw q.1 (rw e (onto_reads (many ts below s (λ b. run ts below xs b) m h.0) (Part Many s ∷ xs) (Part Many s ∷ xs) f (some r ps f) (standing q.0.0) to (λ z. z) (λ x is i. many_better s xs q.0.0 r ps f x.0 (are_items s xs f h.0 to h.3) (are_items s xs x.0 h.0 x.1 (many_sound s xs (λ b. run ts below xs b) (λ b y z. run_sound xs b y z) m h.0 x is).0) (same_size s r ps at h.0 q.0 q.1 h.2 e) (kept s r ps at h.0 q.0 q.1 h.2 e q.2) i) rec))
          | inr w ↦ rw q.1 (over Many s xs (Part Many s ∷ xs) r ps f h.0 to q.0 (many ts below s (λ b. run ts below xs b) m q.0.1) lead.0 lead.1 h.1 q.2 (larger s r ps at h.0 q.0 q.1 h.2 w.0) w.0 w.1 split.0 h.3 (λ e. e) (λ e. many_passes s (λ b. run ts below xs b) (λ b. passes xs e b) m q.0.1))
        ]
    run_longest xs f m at to c d le lt h = absurd h

pub descent_is_sound : DescentIsSound
descent_is_sound ts below n sound xs at x h = run_sound ts below n sound xs at x h

pub descent_reads_the_longest : DescentReadsTheLongest
descent_reads_the_longest ts below n sound parts xs f at to c d le h =
    of_head ts below n sound parts xs f at to (run_longest ts below n sound parts xs f (length ts + 1) at to c d le (omega (arith, le)) h)
