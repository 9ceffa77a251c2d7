-- Texts of any tokens: where a closing bracket stands behind one, the reader's is that one.
use Rattle.std.proofs.Common.{◌≡◌, ℕ, zero, suc, ◌+◌, ◌-◌, ◌≤◌, Bool, true, false, cond, List, [], ◌∷◌, length, take, drop, length-drop, Option, Some, None, refl, sym, ap, subst, ◌∙◌, arith, ◌&&◌}
use Rattle.std.specs.Prelude.{not, nat_le, slice_get, slice_range, IsTrue}
use Rattle.std.proofs.lemmas.Bool.{leb-true, le-leb, not-true}
use Rattle.stan_model_doc.specs.declared.token.DocKind.{DocKind}
use Rattle.stan_model_doc.specs.declared.token.DocToken.{DocToken}
use Rattle.stan_model_doc.specs.Tokens.{same_kind, kind_at, kind_of}
use Rattle.stan_model_doc.specs.Symbols.{Stop}
use Rattle.stan_model_doc.specs.Grammar.{closer, is_closer, stops, matches}
use Rattle.stan_doc_descent.specs.Parse.{any_size, any_at}
use Rattle.stan_doc_descent.proofs.Words.{and_split, some_is}

no_token : (m : ℕ) → (let ts : List DocToken = [] in slice_get ts m) ≡ None
no_token zero = refl
no_token (suc m) = refl

pub dropped : (ts : List DocToken) (at n : ℕ) → slice_get (drop at ts) n ≡ slice_get ts (at + n)
dropped ts zero n = ap (slice_get ts) (omega arith)
dropped [] (suc at) n = no_token n ∙ sym (no_token (suc at + n))
dropped (t ∷ ts) (suc at) n =
    let e : suc at + n ≡ suc (at + n) = omega arith in
    dropped ts at n ∙ ap (slice_get (t ∷ ts)) (sym e)

apart_closer : {A : Type 0} (o : Option DocToken) → o ≡ None → is_closer (kind_of o) ≡ true → A
apart_closer None e h = absurd cc
apart_closer (Some t) e h = absurd cc

any_exact : (stop : Stop) (stack : List DocKind) (us : List DocToken) (n : ℕ) → n ≤ length us → matches stop stack (take n us) ≡ true → is_closer (kind_of (slice_get us n)) ≡ true → any_size stop stack us ≡ n
any_exact stop stack [] n le h c = apart_closer (slice_get [] n) (no_token n) c
any_exact stop [] (t ∷ ts) zero le h c = rw c refl
any_exact stop (awaited ∷ outer) (t ∷ ts) zero le h c = absurd cc
any_exact stop [] (t ∷ ts) (suc m) le h c =
    let split = and_split (not (is_closer t.kind) && not (stops stop t.kind)) _ h in
    let both = and_split (not (is_closer t.kind)) (not (stops stop t.kind)) split.0 in
    rw (not-true (is_closer t.kind) both.0, not-true (stops stop t.kind) both.1) (ap suc (by (λ stack i. any_exact stop stack ts m (omega (arith, le)) i c) (closer t.kind) split.1))
  where
    by : ((stack : List DocKind) → matches stop stack (take m ts) ≡ true → any_size stop stack ts ≡ m) → (o : Option DocKind)
        → (elim o [ None ↦ matches stop [] (take m ts) | Some close ↦ matches stop (close ∷ []) (take m ts) ]) ≡ true
        → (elim o [ None ↦ any_size stop [] ts | Some close ↦ any_size stop (close ∷ []) ts ]) ≡ m
    by more None i = more [] i
    by more (Some close) i = more (close ∷ []) i
any_exact stop (awaited ∷ outer) (t ∷ ts) (suc m) le h c = by (λ stack i. any_exact stop stack ts m (omega (arith, le)) i c) (is_closer t.kind) (closer t.kind) h
  where
    by : ((stack : List DocKind) → matches stop stack (take m ts) ≡ true → any_size stop stack ts ≡ m) → (b : Bool) (o : Option DocKind)
        → cond b (same_kind t.kind awaited && matches stop outer (take m ts)) (elim o [ None ↦ matches stop (awaited ∷ outer) (take m ts) | Some close ↦ matches stop (close ∷ awaited ∷ outer) (take m ts) ]) ≡ true
        → cond b (suc (any_size stop outer ts)) (suc (elim o [ None ↦ any_size stop (awaited ∷ outer) ts | Some close ↦ any_size stop (close ∷ awaited ∷ outer) ts ])) ≡ suc m
    by more true o i = ap suc (more outer (and_split (same_kind t.kind awaited) _ i).1)
    by more false None i = ap suc (more (awaited ∷ outer) i)
    by more false (Some close) i = ap suc (more (close ∷ awaited ∷ outer) i)

pub any_there : (ts : List DocToken) (stop : Stop) (at n : ℕ) → at + n ≤ length ts → IsTrue (matches stop [] (slice_range ts at (at + n))) → is_closer (kind_at ts (at + n)) ≡ true → any_at ts stop at ≡ Some n
unfolding any_at kind_at
any_there ts stop at n le h c =
    let e : (at + n) - at ≡ n = omega arith in
    let same : any_size stop [] (drop at ts) ≡ n =
    any_exact stop [] (drop at ts) n (omega (arith, length-drop at ts, le)) (subst (λ m. matches stop [] (take m (drop at ts)) ≡ true) e h) (subst (λ (o : Option DocToken). is_closer (kind_of o) ≡ true) (sym (dropped ts at n)) c)
    in
    rw (same, le-leb (at + n) (length ts) le, h) refl

guard : {A : Type 0} (c : Bool) (x y : A) → cond c (Some x) None ≡ Some y → (c ≡ true) × (x ≡ y)
guard true x y h = (refl, some_is x y h)
guard false x y h = absurd cc

pub any_at_is : (ts : List DocToken) (stop : Stop) (at n : ℕ) → any_at ts stop at ≡ Some n → (at + n ≤ length ts) × IsTrue (matches stop [] (slice_range ts at (at + n)))
unfolding any_at
any_at_is ts stop at n h =
    let size = any_size stop [] (drop at ts) in
    let g = guard (nat_le (at + size) (length ts) && matches stop [] (slice_range ts at (at + size))) size n h in
    subst (λ m. (at + m ≤ length ts) × IsTrue (matches stop [] (slice_range ts at (at + m)))) g.1
    (let both = and_split (nat_le (at + size) (length ts)) (matches stop [] (slice_range ts at (at + size))) g.0 in (leb-true (at + size) (length ts) both.0, both.1))
