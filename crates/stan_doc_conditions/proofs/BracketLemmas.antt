-- The first bracket that closes none before it ends a run of symbols that end so.
use Rattle.std.proofs.Common.{◌≡◌, ◌∙◌, ℕ, zero, suc, ◌+◌, ◌-◌, ◌≤◌, Bool, true, false, List, [], ◌∷◌, ◌++◌, length, take, drop, length-drop, Option, Some, None, refl, sym, ap, subst, inl, inr, arith, ◌&&◌}
use Rattle.std.specs.Prelude.{not, slice_get, slice_range, IsTrue}
use Rattle.std.proofs.Math.Seq.{drop-nil}
use Rattle.std.proofs.lemmas.Bool.{not-true}
use Rattle.stan_model_doc.specs.declared.token.DocKind.{DocKind}
use Rattle.stan_model_doc.specs.declared.token.DocKind.TheVariants as k
use Rattle.stan_model_doc.specs.declared.token.DocToken.{DocToken}
use Rattle.stan_model_doc.specs.Tokens.{same_kind, kind_at, kind_of, has, Stands}
use Rattle.stan_model_doc.specs.Symbols.{Sort, Need, One, May, Many, Stop, Nowhere, Symbol, Mark, Word, Any, Part, rest}
use Rattle.stan_model_doc.specs.Rules.{Rule, param_tag, symbols}
use Rattle.stan_model_doc.specs.Trees.{Forest, nil, mark, word, any, none, some}
use Rattle.stan_model_doc.specs.Grammar.{Runs, closer, is_closer, stops, matches}
use Rattle.stan_doc_descent.specs.Parse.{any_size}
use Rattle.stan_doc_descent.specs.Tables.{is_end}
use Rattle.stan_doc_descent.proofs.Words.{and_split, or_split, same_is, some_is, see, truth}
use Rattle.stan_doc_conditions.specs.Brackets.{awaited_behind, outer_of, quiet, is_outermost, balanced, ended, BracketsEndOnce}

abbrev scan : List DocKind → List DocToken → ℕ
scan stack ts = any_size Nowhere stack ts

-- ---- tokens

opened : (stack : List DocKind) (t : DocToken) (us : List DocToken) (close : DocKind) → is_closer t.kind ≡ false → closer t.kind ≡ Some close → scan stack (t ∷ us) ≡ suc (scan (close ∷ stack) us)
opened [] t us close c o = rw (c, o) refl
opened (a ∷ outer) t us close c o = rw (c, o) refl

plain : (stack : List DocKind) (t : DocToken) (us : List DocToken) → is_closer t.kind ≡ false → closer t.kind ≡ None → scan stack (t ∷ us) ≡ suc (scan stack us)
plain [] t us c o = rw (c, o) refl
plain (a ∷ outer) t us c o = rw (c, o) refl

closed : (a : DocKind) (outer : List DocKind) (t : DocToken) (us : List DocToken) → is_closer t.kind ≡ true → scan (a ∷ outer) (t ∷ us) ≡ suc (scan outer us)
closed a outer t us c = rw c refl

stopped : (t : DocToken) (us : List DocToken) → is_closer t.kind ≡ true → scan [] (t ∷ us) ≡ 0
stopped t us c = rw c refl

-- a token and what is awaited behind it
stepped : (stack next outer : List DocKind) (t : DocToken) (us : List DocToken) → awaited_behind stack t.kind ≡ Some next → scan (stack ++ outer) (t ∷ us) ≡ suc (scan (next ++ outer) us)
stepped stack next outer t us h = elim (truth (is_closer t.kind)) [
  | inl c ↦ popped stack c (rw c at h)
  | inr c ↦ elim (see (closer t.kind)) [
    | inl o ↦ subst (λ z. scan (stack ++ outer) (t ∷ us) ≡ suc (scan (z ++ outer) us)) (some_is stack next (rw (c, o) at h)) (plain (stack ++ outer) t us c o)
    | inr o ↦ subst (λ z. scan (stack ++ outer) (t ∷ us) ≡ suc (scan (z ++ outer) us)) (some_is (o.0 ∷ stack) next (rw (c, o.1) at h)) (opened (stack ++ outer) t us o.0 c o.1)
  ]
]
  where
    popped : (stack : List DocKind) → is_closer t.kind ≡ true → outer_of stack ≡ Some next → scan (stack ++ outer) (t ∷ us) ≡ suc (scan (next ++ outer) us)
    popped [] c e = absurd cc
    popped (a ∷ stack) c e = subst (λ z. scan ((a ∷ stack) ++ outer) (t ∷ us) ≡ suc (scan (z ++ outer) us)) (some_is stack next e) (closed a (stack ++ outer) t us c)

quiet_kind : (kinds : List DocKind) (kind : DocKind) → quiet kinds ≡ true → has kinds kind ≡ true → (is_closer kind ≡ false) × (closer kind ≡ None)
quiet_kind [] kind q h = absurd cc
quiet_kind (a ∷ kinds) kind q h =
    let split = and_split (not (is_closer a) && elim (closer a) [ None ↦ true | Some close ↦ false ]) (quiet kinds) q in
    elim (or_split (same_kind kind a) (has kinds kind) h) [
      | inl e ↦
          let both = and_split (not (is_closer a)) _ split.0 in
          subst (λ z. (is_closer z ≡ false) × (closer z ≡ None)) (sym (same_is kind a e)) (not-true (is_closer a) both.0, lacking (closer a) both.1)
      | inr i ↦ quiet_kind kinds kind split.1 i
    ]
  where
    lacking : (o : Option DocKind) → (elim o [ None ↦ true | Some close ↦ false ]) ≡ true → o ≡ None
    lacking None e = refl
    lacking (Some close) e = absurd cc

-- ---- texts of any tokens

text_passed : (stop : Stop) (stack outer : List DocKind) (us : List DocToken) (n : ℕ) → n ≤ length us → matches stop stack (take n us) ≡ true → scan (stack ++ outer) us ≡ n + scan outer (drop n us)
text_passed stop [] outer [] zero le h = omega arith
text_passed stop (a ∷ stack) outer [] zero le h = absurd cc
text_passed stop stack outer [] (suc n) le h = absurd (omega (arith, le))
text_passed stop [] outer (t ∷ us) zero le h = omega arith
text_passed stop (a ∷ stack) outer (t ∷ us) zero le h = absurd cc
text_passed stop [] outer (t ∷ us) (suc n) le h =
    let split = and_split (not (is_closer t.kind) && not (stops stop t.kind)) _ h in
    let c = not-true (is_closer t.kind) (and_split (not (is_closer t.kind)) _ split.0).0 in
    elim (see (closer t.kind)) [
      | inl o ↦ let w = text_passed stop [] outer us n (omega (arith, le)) (rw o at split.1) in omega (arith, plain outer t us c o, w)
      | inr o ↦ let w = text_passed stop (o.0 ∷ []) outer us n (omega (arith, le)) (rw o.1 at split.1) in omega (arith, opened outer t us o.0 c o.1, w)
    ]
text_passed stop (a ∷ stack) outer (t ∷ us) (suc n) le h = elim (truth (is_closer t.kind)) [
  | inl c ↦
      let i : same_kind t.kind a && matches stop stack (take n us) ≡ true = rw c at h in
      let w = text_passed stop stack outer us n (omega (arith, le)) (and_split (same_kind t.kind a) _ i).1 in
      omega (arith, closed a (stack ++ outer) t us c, w)
  | inr c ↦ elim (see (closer t.kind)) [
    | inl o ↦ let w = text_passed stop (a ∷ stack) outer us n (omega (arith, le)) (rw (c, o) at h) in omega (arith, plain ((a ∷ stack) ++ outer) t us c o, w)
    | inr o ↦ let w = text_passed stop (o.0 ∷ a ∷ stack) outer us n (omega (arith, le)) (rw (c, o.1) at h) in omega (arith, opened ((a ∷ stack) ++ outer) t us o.0 c o.1, w)
  ]
]

-- ---- places

pub token_there : (o : Option DocToken) (kind : DocKind) → not (is_end kind) ≡ true → kind_of o ≡ kind → (t : DocToken) × (o ≡ Some t) × (t.kind ≡ kind)
token_there None kind n h = absurd (let w = subst (λ z. not (is_end z) ≡ true) (sym h) n in cc)
token_there (Some t) kind n h = (t, refl, h)

dropped_at : (ts : List DocToken) (at : ℕ) (t : DocToken) → Stands ts at t → drop at ts ≡ t ∷ drop (suc at) ts
dropped_at [] zero t h = absurd cc
dropped_at [] (suc at) t h = absurd cc
dropped_at (x ∷ ts) zero t h = ap (λ (z : DocToken). z ∷ ts) (some_is x t h)
dropped_at (x ∷ ts) (suc at) t h = dropped_at ts at t h

dropped_twice : (ts : List DocToken) (at n : ℕ) → drop n (drop at ts) ≡ drop (at + n) ts
dropped_twice ts zero n = ap (λ m. drop m ts) (omega arith)
dropped_twice [] (suc at) n = drop-nil n ∙ sym (drop-nil (suc at + n))
dropped_twice (t ∷ ts) (suc at) n =
    let e : suc at + n ≡ suc (at + n) = omega arith in
    dropped_twice ts at n ∙ ap (λ m. drop m (t ∷ ts)) (sym e)

module _ (ts : List DocToken) where
  at_token : (stack next outer : List DocKind) (at : ℕ) (t : DocToken) → Stands ts at t → awaited_behind stack t.kind ≡ Some next → scan (stack ++ outer) (drop at ts) + at ≡ scan (next ++ outer) (drop (at + 1) ts) + (at + 1)
  at_token stack next outer at t h i =
      let e : suc at ≡ at + 1 = omega arith in
      let w = stepped stack next outer t (drop (at + 1) ts) i in
      rw (subst (λ z. drop at ts ≡ t ∷ drop z ts) e (dropped_at ts at t h)) (omega (arith, w))

  at_text : (stop : Stop) (stack : List DocKind) (at n : ℕ) → at + n ≤ length ts → IsTrue (matches stop [] (slice_range ts at (at + n))) → scan stack (drop at ts) + at ≡ scan stack (drop (at + n) ts) + (at + n)
  at_text stop stack at n le h =
      let e : (at + n) - at ≡ n = omega arith in
      let w = text_passed stop [] stack (drop at ts) n (omega (arith, length-drop at ts, le)) (subst (λ m. matches stop [] (take m (drop at ts)) ≡ true) e h) in
      omega (arith, w, ap (scan stack) (dropped_twice ts at n))

  again : (n : Need) (s : Sort) (xs : List Symbol) (stack : List DocKind) → balanced stack (rest n s xs) ≡ balanced stack xs
  again One s xs stack = refl
  again May s xs stack = refl
  again Many s xs stack = refl

  end_again : (n : Need) (s : Sort) (xs : List Symbol) (stack : List DocKind) → ended stack (rest n s xs) ≡ ended stack xs
  end_again One s xs stack = refl
  end_again May s xs stack = refl
  end_again Many s xs stack = refl

  next_of : (stack : List DocKind) (kind : DocKind) (goes : List DocKind → Bool) → (elim (awaited_behind stack kind) [ None ↦ false | Some next ↦ goes next ]) ≡ true → (next : List DocKind) × (awaited_behind stack kind ≡ Some next) × (goes next ≡ true)
  next_of stack kind goes h = go (awaited_behind stack kind) refl h
    where
      go : (o : Option (List DocKind)) → awaited_behind stack kind ≡ o → (elim o [ None ↦ false | Some next ↦ goes next ]) ≡ true → (next : List DocKind) × (awaited_behind stack kind ≡ Some next) × (goes next ≡ true)
      go None e i = absurd cc
      go (Some next) e i = (next, e, i)

  quiet_next : (stack : List DocKind) (kind : DocKind) → (is_closer kind ≡ false) × (closer kind ≡ None) → awaited_behind stack kind ≡ Some stack
  quiet_next stack kind q = rw (q.0, q.1) refl

  token_at : (kind : DocKind) (at : ℕ) → not (is_end kind) ≡ true → kind_at ts at ≡ kind → (t : DocToken) × Stands ts at t × (t.kind ≡ kind)
  unfolding kind_at
  token_at kind at n i = token_there (slice_get ts at) kind n i

  at_mark : (kind : DocKind) (xs : List Symbol) (at : ℕ) (stack outer : List DocKind) (goes : List DocKind → Bool)
      → not (is_end kind) && (elim (awaited_behind stack kind) [ None ↦ false | Some next ↦ goes next ]) ≡ true → kind_at ts at ≡ kind
      → (next : List DocKind) × (goes next ≡ true) × (scan (stack ++ outer) (drop at ts) + at ≡ scan (next ++ outer) (drop (at + 1) ts) + (at + 1))
  at_mark kind xs at stack outer goes b h =
      let split = and_split (not (is_end kind)) _ b in
      let t = token_at kind at split.0 h in
      let n = next_of stack kind goes split.1 in
      (n.0, n.2, at_token stack n.0 outer at t.0 t.1 (subst (λ z. awaited_behind stack z ≡ Some n.0) (sym t.2) n.1))

  at_word : (kinds : List DocKind) (t : DocToken) (at : ℕ) (stack outer : List DocKind) → quiet kinds ≡ true → Stands ts at t → has kinds t.kind ≡ true → scan (stack ++ outer) (drop at ts) + at ≡ scan (stack ++ outer) (drop (at + 1) ts) + (at + 1)
  at_word kinds t at stack outer q h i = at_token stack stack outer at t h (quiet_next stack t.kind (quiet_kind kinds t.kind q i))

  rule_balanced : (r : Rule) → balanced [] (symbols r) ≡ true
  rule_balanced param_tag = refl
  rule_balanced r = refl

  -- a run of balanced symbols is passed over
  run_passed : (xs : List Symbol) (f : Forest) (at to : ℕ) (stack outer : List DocKind) → balanced stack xs ≡ true → Runs ts xs f at to → scan (stack ++ outer) (drop at ts) + at ≡ scan outer (drop to ts) + to
  run_passed [] nil at to [] outer b h = omega (arith, h, ap (λ n. scan outer (drop n ts)) h)
  run_passed [] nil at to (a ∷ stack) outer b h = absurd cc
  run_passed (Mark kind ∷ xs) (mark f) at to stack outer b h =
      let m = at_mark kind xs at stack outer (λ z. balanced z xs) b h.0 in
      m.2 ∙ run_passed xs f (at + 1) to m.0 outer m.1 h.1
  run_passed (Word kinds ∷ xs) (word t f) at to stack outer b h =
      let split = and_split (quiet kinds) (balanced stack xs) b in
      at_word kinds t at stack outer split.0 h.0 h.1 ∙ run_passed xs f (at + 1) to stack outer split.1 h.2
  run_passed (Any stop ∷ xs) (any n f) at to stack outer b h = at_text stop (stack ++ outer) at n h.0 h.1 ∙ run_passed xs f (at + n) to stack outer b h.2
  run_passed (Part n s ∷ xs) (none f) at to stack outer b h = run_passed xs f at to stack outer b h.1
  run_passed (Part n s ∷ xs) (some r ps f) at to stack outer b h =
      run_passed (symbols r) ps at h.0 [] (stack ++ outer) (rule_balanced r) h.2 ∙ run_passed (rest n s xs) f h.0 to stack outer (again n s xs stack ∙ b) h.3
  run_passed xs f at to stack outer b h = absurd h

  outermost : (stack : List DocKind) → is_outermost stack ≡ true → stack ≡ []
  outermost [] h = refl
  outermost (a ∷ stack) h = absurd cc

  at_end : (kind : DocKind) (at : ℕ) (stack : List DocKind) → is_closer kind && is_outermost stack ≡ true → kind_at ts at ≡ kind → scan (stack ++ []) (drop at ts) ≡ 0
  at_end kind at stack b h =
      let split = and_split (is_closer kind) (is_outermost stack) b in
      let t = token_at kind at (closers kind split.0) h in
      let e : suc at ≡ at + 1 = omega arith in
      rw (outermost stack split.1) (rw (dropped_at ts at t.0 t.1) (stopped t.0 (drop (suc at) ts) (subst (λ z. is_closer z ≡ true) (sym t.2) split.0)))
    where
      closers : (kind : DocKind) → is_closer kind ≡ true → not (is_end kind) ≡ true
      closers k.RightParenthesis c = refl
      closers k.RightBracket c = refl
      closers k.RightBrace c = refl
      closers kind c = absurd cc

  -- a run of symbols that end with a bracket goes up to the first one that closes none before it
  run_ended : (xs : List Symbol) (f : Forest) (at to : ℕ) (stack : List DocKind) → ended stack xs ≡ true → Runs ts xs f at to → scan (stack ++ []) (drop at ts) + at + 1 ≡ to
  run_ended [] f at to stack b h = absurd cc
  run_ended (Mark kind ∷ []) (mark nil) at to stack b h = omega (arith, at_end kind at stack b h.0, h.1)
  run_ended (Mark kind ∷ []) (mark f) at to stack b h = absurd h.1
  run_ended (Mark kind ∷ x ∷ xs) (mark f) at to stack b h =
      let m = at_mark kind (x ∷ xs) at stack [] (λ z. ended z (x ∷ xs)) b h.0 in
      omega (arith, m.2, run_ended (x ∷ xs) f (at + 1) to m.0 m.1 h.1)
  run_ended (Mark kind ∷ xs) f at to stack b h = absurd h
  run_ended (Word kinds ∷ xs) (word t f) at to stack b h =
      let split = and_split (quiet kinds) (ended stack xs) b in
      omega (arith, at_word kinds t at stack [] split.0 h.0 h.1, run_ended xs f (at + 1) to stack split.1 h.2)
  run_ended (Any stop ∷ xs) (any n f) at to stack b h = omega (arith, at_text stop (stack ++ []) at n h.0 h.1, run_ended xs f (at + n) to stack b h.2)
  run_ended (Part n s ∷ xs) (none f) at to stack b h = run_ended xs f at to stack b h.1
  run_ended (Part n s ∷ xs) (some r ps f) at to stack b h =
      omega (arith, run_passed (symbols r) ps at h.0 [] (stack ++ []) (rule_balanced r) h.2, run_ended (rest n s xs) f h.0 to stack (end_again n s xs stack ∙ b) h.3)
  run_ended xs f at to stack b h = absurd h

pub brackets_end_once : BracketsEndOnce
brackets_end_once ts xs f g at to end e h i = sym (run_ended ts xs f at to [] e h) ∙ run_ended ts xs g at end [] e i
