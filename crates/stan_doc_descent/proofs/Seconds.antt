-- Alternatives that begin with the same token: the ones behind it tell them apart.
use Rattle.std.proofs.Common.{◌≡◌, ◌∙◌, ℕ, ◌+◌, ◌≤◌, ◌<◌, Bool, true, false, List, [], ◌∷◌, ◌++◌, refl, sym, subst, ◌⊎◌, inl, inr, arith, ◌&&◌}
use Rattle.stan_model_doc.specs.declared.token.DocKind.{DocKind}
use Rattle.stan_model_doc.specs.declared.token.DocKind.TheVariants as k
use Rattle.stan_model_doc.specs.declared.token.DocToken.{DocToken}
use Rattle.stan_model_doc.specs.Tokens.{kind_at, has, same_kind}
use Rattle.stan_model_doc.specs.Symbols.{Sort, Written, Alt, Both, Unary, Atom, Arguments, FurtherType, QuestionMark, Fields, Result, One, May, Many, Nowhere, Symbol, Mark, Word, Any, Part, lacks, rest}
use Rattle.stan_model_doc.specs.Rules.{Rule, literals, names, identifiers, variables, keys, conditional, plain_type, alt, both, nullable, suffixed, group, this, literal, shape, range, callable_type, member, name, arguments, further_type, keyed, plain_field, symbols, sort_of}
use Rattle.stan_model_doc.specs.Trees.{Forest, nil, mark, word, none, some}
use Rattle.stan_model_doc.specs.Grammar.{Runs}
use Rattle.stan_doc_descent.specs.Tables.{implies, subset, begins, goes, rule_goes, firsts, leads, empty}
use Rattle.stan_doc_descent.specs.Alternatives.{Beaten}
use Rattle.stan_doc_descent.proofs.Words.{implied, and_split, or_split, same_is, subset_has, apart_has, clash, stands_kind}
use Rattle.stan_doc_descent.proofs.Runs.{starts, rises, rule_starts}

-- the alternatives that may begin with the same token
abbrev pub alike : Rule → Rule → Bool
alike conditional plain_type = true
alike shape member = true
alike range member = true
alike callable_type member = true
alike shape name = true
alike range name = true
alike callable_type name = true
alike member name = true
alike keyed plain_field = true
alike q r = false

-- the tokens that are a type alone
abbrev words : List DocKind
words = k.This ∷ literals ++ names

-- the tokens with which a type goes on behind such a token
abbrev second_goes : List DocKind
second_goes = k.Bar ∷ k.Ampersand ∷ k.LeftBracket ∷ k.Below ∷ k.LeftBrace ∷ k.LeftParenthesis ∷ k.DoubleColon ∷ []

-- the tokens between the angles of a range
abbrev limits : List DocKind
limits = k.Integer ∷ k.Min ∷ k.Max ∷ []

-- what a type may begin with
abbrev typed : Sort → Bool
typed Written = true
typed Alt = true
typed Both = true
typed Unary = true
typed Atom = true
typed _ = false

-- whether behind a first word stands nothing but what a type goes on with
abbrev calm : List Symbol → Bool
calm [] = true
calm (Mark kind ∷ xs) = implies (has words kind) (leads xs && subset (firsts xs) second_goes)
calm (Word ks ∷ xs) = leads xs && subset (firsts xs) second_goes
calm (Any stop ∷ xs) = false
calm (Part n s ∷ xs) = typed s && ((leads (rest n s xs) && subset (firsts (rest n s xs)) second_goes) && implies (lacks n) (calm xs))

rule_calm : (r : Rule) → typed (sort_of r) ≡ true → calm (symbols r) ≡ true
unfolding same_kind
rule_calm conditional h = refl
rule_calm plain_type h = refl
rule_calm alt h = refl
rule_calm both h = refl
rule_calm nullable h = refl
rule_calm suffixed h = refl
rule_calm group h = refl
rule_calm this h = refl
rule_calm literal h = refl
rule_calm shape h = refl
rule_calm range h = refl
rule_calm callable_type h = refl
rule_calm member h = refl
rule_calm name h = refl
rule_calm r h = absurd cc

module _ (ts : List DocToken) where
  abbrev Second : ℕ → ℕ → Type 0
  Second at to = (to ≤ at + 1) ⊎ (has second_goes (kind_at ts (at + 1)) ≡ true)

  behind : (xs : List Symbol) (f : Forest) (at to : ℕ) → leads xs && subset (firsts xs) second_goes ≡ true → Runs ts xs f (at + 1) to → Second at to
  behind xs f at to s h =
      let split = and_split (leads xs) (subset (firsts xs) second_goes) s in
      elim (starts ts xs f (at + 1) to split.0 h) [
        | inl e ↦ inl (omega (arith, e.0))
        | inr e ↦ inr (subset_has (firsts xs) second_goes (kind_at ts (at + 1)) split.1 e.1)
      ]

  pub second : (xs : List Symbol) (f : Forest) (at to : ℕ) → calm xs ≡ true → has words (kind_at ts at) ≡ true → Runs ts xs f at to → Second at to
  second [] nil at to c w h = inl (omega (arith, h))
  second (Mark kind ∷ xs) (mark f) at to c w h = behind xs f at to (implied (has words kind) (leads xs && subset (firsts xs) second_goes) c (subst (λ z. has words z ≡ true) h.0 w)) h.1
  second (Word ks ∷ xs) (word t f) at to c w h = behind xs f at to c h.2
  second (Any stop ∷ xs) f at to c w h = absurd cc
  second (Part n s ∷ xs) (none f) at to c w h =
      let a = and_split (typed s) _ c in
      second xs f at to (implied (lacks n) (calm xs) (and_split (leads (rest n s xs) && subset (firsts (rest n s xs)) second_goes) (implies (lacks n) (calm xs)) a.1).1 h.0) w h.1
  second (Part n s ∷ xs) (some r ps f) at to c w h =
      let a = and_split (typed s) _ c in
      let b = and_split (leads (rest n s xs) && subset (firsts (rest n s xs)) second_goes) (implies (lacks n) (calm xs)) a.1 in
      elim (second (symbols r) ps at h.0 (rule_calm r (subst (λ z. typed z ≡ true) (sym h.1) a.0)) w h.2) [
        | inl le ↦ behind (rest n s xs) f at to b.0 (subst (λ z. Runs ts (rest n s xs) f z to) (let lt = (rule_starts ts r ps at h.0 h.2).0 in let e : h.0 ≡ at + 1 = omega (arith, le, lt) in e) h.3)
        | inr x ↦ inr x
      ]
  second xs f at to c w h = absurd h

  -- ---- fields

  key_beaten : (g ps : Forest) (at e b : ℕ) → Runs ts (symbols keyed) g at e → Runs ts (symbols plain_field) ps at b → (b < e) × (has (goes (sort_of plain_field)) (kind_at ts b) ≡ true)
  unfolding same_kind
  key_beaten (word t g) ps at e b h i =
      by (starts ts (Part May QuestionMark ∷ Mark k.Colon ∷ Part One Written ∷ []) g (at + 1) e refl h.2)
      (second (symbols plain_field) ps at b refl (rw (stands_kind ts at t h.0) (subset_has keys words t.kind refl h.1)) i)
    where
      by : (((at + 1 ≡ e) × (empty (Part May QuestionMark ∷ Mark k.Colon ∷ Part One Written ∷ []) ≡ true)) ⊎ ((at + 1 < e) × (has (k.Question ∷ k.Colon ∷ []) (kind_at ts (at + 1)) ≡ true)))
          → Second at b → (b < e) × (has (goes (sort_of plain_field)) (kind_at ts b) ≡ true)
      by (inl x) y = absurd (let w = x.1 in cc)
      by (inr x) (inl y) =
          let same : at + 1 ≡ b = omega (arith, y, (rule_starts ts plain_field ps at b i).0) in
          (omega (arith, x.0, same), subst (λ z. has (goes (sort_of plain_field)) (kind_at ts z) ≡ true) same (subset_has (k.Question ∷ k.Colon ∷ []) (goes (sort_of plain_field)) (kind_at ts (at + 1)) refl x.1))
      by (inr x) (inr y) = clash (has second_goes (kind_at ts (at + 1))) y (apart_has (k.Question ∷ k.Colon ∷ []) second_goes (kind_at ts (at + 1)) refl x.1)
  key_beaten g ps at e b h i = absurd h

  -- ---- names

  -- a name behind which no `<` stands
  pub short_name : (ps : Forest) (at b : ℕ) (kind : DocKind) → Runs ts (symbols name) ps at b → kind_at ts (at + 1) ≡ kind → has (k.Below ∷ []) kind ≡ false → b ≡ at + 1
  short_name (word t ps) at b kind h e apart = elim (starts ts (Part May Arguments ∷ []) ps (at + 1) b refl h.2) [
    | inl x ↦ sym x.0
    | inr x ↦ clash (has (k.Below ∷ []) (kind_at ts (at + 1))) x.1 (rw e apart)
  ]
  short_name ps at b kind h e apart = absurd h

  -- an atom whose second token is one with which a name goes on
  name_beaten : (ps : Forest) (at e b : ℕ) (kind : DocKind) → Runs ts (symbols name) ps at b → kind_at ts (at + 1) ≡ kind → has (k.Below ∷ []) kind ≡ false → has (rule_goes name) kind ≡ true → at + 1 < e
      → (b < e) × (has (rule_goes name) (kind_at ts b) ≡ true)
  name_beaten ps at e b kind h is apart go lt =
      let same = short_name ps at b kind h is apart in
      (omega (arith, same, lt), subst (λ z. has (rule_goes name) (kind_at ts z) ≡ true) (sym same) (rw is go))

  shape_beaten : (g ps : Forest) (at e b : ℕ) → Runs ts (symbols shape) g at e → Runs ts (symbols name) ps at b → (b < e) × (has (rule_goes name) (kind_at ts b) ≡ true)
  unfolding same_kind
  shape_beaten (mark (mark g)) ps at e b h i = name_beaten ps at e b k.LeftBrace i h.1.0 refl refl (omega (arith, rises ts (Part May Fields ∷ Mark k.RightBrace ∷ []) g (at + 1 + 1) e h.1.1))
  shape_beaten (mark g) ps at e b h i = absurd h.1
  shape_beaten g ps at e b h i = absurd h

  callable_beaten : (g ps : Forest) (at e b : ℕ) → Runs ts (symbols callable_type) g at e → Runs ts (symbols name) ps at b → (b < e) × (has (rule_goes name) (kind_at ts b) ≡ true)
  unfolding same_kind
  callable_beaten (word t (mark g)) ps at e b h i = name_beaten ps at e b k.LeftParenthesis i h.2.0 refl refl (omega (arith, rises ts (Any Nowhere ∷ Mark k.RightParenthesis ∷ Part May Result ∷ []) g (at + 1 + 1) e h.2.1))
  callable_beaten (word t g) ps at e b h i = absurd h.2
  callable_beaten g ps at e b h i = absurd h

  member_beaten : (g ps : Forest) (at e b : ℕ) → Runs ts (symbols member) g at e → Runs ts (symbols name) ps at b → (b < e) × (has (rule_goes name) (kind_at ts b) ≡ true)
  unfolding same_kind
  member_beaten (word t (mark g)) ps at e b h i = name_beaten ps at e b k.DoubleColon i h.2.0 refl refl (omega (arith, rises ts (Word (k.Star ∷ identifiers) ∷ []) g (at + 1 + 1) e h.2.1))
  member_beaten (word t g) ps at e b h i = absurd h.2
  member_beaten g ps at e b h i = absurd h

  -- ---- ranges

  -- a type that begins with a limit, and behind which a `,` or `>` stands, is that one token
  limit_ends : (r : Rule) (ps : Forest) (at b : ℕ) → sort_of r ≡ Written → Runs ts (symbols r) ps at b → has limits (kind_at ts at) ≡ true → has (k.Comma ∷ k.Above ∷ []) (kind_at ts (at + 1)) ≡ true → b ≡ at + 1
  unfolding same_kind
  limit_ends r ps at b s h l next =
      elim (second (symbols r) ps at b (rule_calm r (rw s refl)) (subset_has limits words (kind_at ts at) refl l) h) [
        | inl le ↦ omega (arith, le, (rule_starts ts r ps at b h).0)
        | inr x ↦ clash (has second_goes (kind_at ts (at + 1))) x (apart_has (k.Comma ∷ k.Above ∷ []) second_goes (kind_at ts (at + 1)) refl next)
      ]

  abbrev Tail : List Symbol
  Tail = Part Many FurtherType ∷ Mark k.Above ∷ []

  last : (f : Forest) (at b : ℕ) → Runs ts Tail f at b → kind_at ts at ≡ k.Above → b ≡ at + 1
  unfolding same_kind
  last (none (mark nil)) at b h g = sym h.1.1
  last (none (mark f)) at b h g = absurd h.1.1
  last (none f) at b h g = absurd h.1
  last (some r ps f) at b h g =
      absurd (let w = subst (λ z. has (begins z) (kind_at ts at) ≡ true) h.1 (rule_starts ts r ps at h.0 h.2).1 in let v = subst (λ z. has (k.Comma ∷ []) z ≡ true) g w in cc)
  last f at b h g = absurd h

  further : (r : Rule) (ps : Forest) (at b : ℕ) → sort_of r ≡ FurtherType → Runs ts (symbols r) ps at b → has limits (kind_at ts (at + 1)) ≡ true → kind_at ts (at + 1 + 1) ≡ k.Above → b ≡ at + 1 + 1
  unfolding same_kind
  further further_type (mark (some r ps nil)) at b s h l g =
      let e = limit_ends r ps (at + 1) h.1.0 h.1.1 h.1.2 l (rw g refl) in
      omega (arith, e, h.1.3)
  further further_type (mark (some r ps f)) at b s h l g = absurd h.1.3
  further further_type (mark (none f)) at b s h l g = absurd (let w = h.1.0 in cc)
  further further_type (mark f) at b s h l g = absurd h.1
  further further_type f at b s h l g = absurd h
  further r f at b s h l g = absurd cc

  middle : (f : Forest) (at b : ℕ) → Runs ts Tail f at b → kind_at ts at ≡ k.Comma → has limits (kind_at ts (at + 1)) ≡ true → kind_at ts (at + 1 + 1) ≡ k.Above → b ≡ at + 1 + 1 + 1
  middle (none (mark f)) at b h c l g = absurd (let w = sym c ∙ h.1.0 in cc)
  middle (none f) at b h c l g = absurd h.1
  middle (some r ps f) at b h c l g =
      let e = further r ps at h.0 h.1 h.2 l g in
      let d = last f h.0 b h.3 (subst (λ z. kind_at ts z ≡ k.Above) (sym e) g) in
      omega (arith, e, d)
  middle f at b h c l g = absurd h

  in_angles : (r : Rule) (ps : Forest) (at b : ℕ) → sort_of r ≡ Arguments → Runs ts (symbols r) ps at b → has limits (kind_at ts (at + 1)) ≡ true → kind_at ts (at + 1 + 1) ≡ k.Comma
      → has limits (kind_at ts (at + 1 + 1 + 1)) ≡ true → kind_at ts (at + 1 + 1 + 1 + 1) ≡ k.Above → b ≡ at + 1 + 1 + 1 + 1 + 1
  unfolding same_kind
  in_angles arguments (mark (some r ps f)) at b s h l c m g =
      let e = limit_ends r ps (at + 1) h.1.0 h.1.1 h.1.2 l (rw c refl) in
      let same : h.1.0 ≡ at + 1 + 1 = omega (arith, e) in
      let d = middle f (at + 1 + 1) b (subst (λ z. Runs ts Tail f z b) same h.1.3) c m g in
      omega (arith, d)
  in_angles arguments (mark (none f)) at b s h l c m g = absurd (let w = h.1.0 in cc)
  in_angles arguments (mark f) at b s h l c m g = absurd h.1
  in_angles arguments f at b s h l c m g = absurd h
  in_angles r f at b s h l c m g = absurd cc

  name_run : (ps : Forest) (at b : ℕ) → Runs ts (symbols name) ps at b → (at + 1 ≡ b) ⊎ ((r : Rule) × (qs : Forest) × (sort_of r ≡ Arguments) × Runs ts (symbols r) qs (at + 1) b)
  name_run (word v (none nil)) at b i = inl i.2.1
  name_run (word v (some r qs nil)) at b i = inr (r, qs, i.2.1, subst (λ z. Runs ts (symbols r) qs (at + 1) z) i.2.3 i.2.2)
  name_run (word v (some r qs f)) at b i = absurd i.2.3
  name_run (word v (none f)) at b i = absurd i.2.1
  name_run (word v f) at b i = absurd i.2
  name_run f at b i = absurd i

  range_run : (g : Forest) (at e : ℕ) → Runs ts (symbols range) g at e
      → (kind_at ts (at + 1) ≡ k.Below) × (has limits (kind_at ts (at + 1 + 1)) ≡ true) × (kind_at ts (at + 1 + 1 + 1) ≡ k.Comma) × (has limits (kind_at ts (at + 1 + 1 + 1 + 1)) ≡ true) × (kind_at ts (at + 1 + 1 + 1 + 1 + 1) ≡ k.Above) × (e ≡ at + 1 + 1 + 1 + 1 + 1 + 1)
  unfolding same_kind
  range_run (mark (mark (word t (mark (word u (mark nil)))))) at e h =
      let x = h.1.1 in
      let y = x.2.1 in
      (h.1.0, rw (stands_kind ts (at + 1 + 1) t x.0) (subset_has (k.Integer ∷ k.Min ∷ []) limits t.kind refl x.1), x.2.0, rw (stands_kind ts (at + 1 + 1 + 1 + 1) u y.0) (subset_has (k.Integer ∷ k.Max ∷ []) limits u.kind refl y.1), y.2.0, sym y.2.1)
  range_run (mark (mark (word t (mark (word u (mark f)))))) at e h = absurd h.1.1.2.1.2.1
  range_run (mark (mark (word t (mark (word u f))))) at e h = absurd h.1.1.2.1.2
  range_run (mark (mark (word t (mark f)))) at e h = absurd h.1.1.2.1
  range_run (mark (mark (word t f))) at e h = absurd h.1.1.2
  range_run (mark (mark f)) at e h = absurd h.1.1
  range_run (mark f) at e h = absurd h.1
  range_run f at e h = absurd h

  range_beaten : (g ps : Forest) (at e b : ℕ) → Runs ts (symbols range) g at e → Runs ts (symbols name) ps at b → Beaten ts range name e b
  unfolding same_kind
  range_beaten g ps at e b h i =
      let x = range_run g at e h in
      elim (name_run ps at b i) [
        | inl same ↦ (omega arith, inr (omega (arith, x.5, same), subst (λ z. has (rule_goes name) (kind_at ts z) ≡ true) same (rw x.0 refl)))
        | inr n ↦ (omega arith, inl (omega (arith, in_angles n.0 n.1 (at + 1) b n.2 n.3 x.1 x.2 x.3 x.4, x.5)))
      ]

  -- ---- conditions

  -- brackets with a type in them
  abbrev Opens : ℕ → Type 0
  Opens at = (r : Rule) × (ps : Forest) × (c : ℕ) × (sort_of r ≡ Written) × Runs ts (symbols r) ps (at + 1) c × (kind_at ts c ≡ k.RightParenthesis)

  abbrev inner : Sort → Bool
  inner Alt = true
  inner Both = true
  inner Unary = true
  inner Atom = true
  inner _ = false

  not_here : (kinds : List DocKind) (t : DocToken) (at : ℕ) → has kinds k.LeftParenthesis ≡ false → kind_at ts at ≡ k.LeftParenthesis → kind_at ts at ≡ t.kind → has kinds t.kind ≡ true → Opens at
  not_here kinds t at lacking e i h = clash (has kinds k.LeftParenthesis) (subst (λ z. has kinds z ≡ true) (sym i ∙ e) h) lacking

  -- a part that begins with `(`, but for conditions, begins with brackets
  opens : (r : Rule) (ps : Forest) (at b : ℕ) → inner (sort_of r) ≡ true → kind_at ts at ≡ k.LeftParenthesis → Runs ts (symbols r) ps at b → Opens at
  unfolding same_kind
  opens alt (some q qs f) at b i e h = opens q qs at h.0 (rw h.1 refl) e h.2
  opens alt (none f) at b i e h = absurd (let w = h.0 in cc)
  opens alt f at b i e h = absurd h
  opens both (some q qs f) at b i e h = opens q qs at h.0 (rw h.1 refl) e h.2
  opens both (none f) at b i e h = absurd (let w = h.0 in cc)
  opens both f at b i e h = absurd h
  opens nullable (mark f) at b i e h = absurd (let w = sym e ∙ h.0 in cc)
  opens nullable f at b i e h = absurd h
  opens suffixed (some q qs f) at b i e h = opens q qs at h.0 (rw h.1 refl) e h.2
  opens suffixed (none f) at b i e h = absurd (let w = h.0 in cc)
  opens suffixed f at b i e h = absurd h
  opens group (mark (some q qs (mark f))) at b i e h = (q, qs, h.1.0, h.1.1, h.1.2, h.1.3.0)
  opens group (mark (some q qs f)) at b i e h = absurd h.1.3
  opens group (mark (none f)) at b i e h = absurd (let w = h.1.0 in cc)
  opens group (mark f) at b i e h = absurd h.1
  opens group f at b i e h = absurd h
  opens this (mark f) at b i e h = absurd (let w = sym e ∙ h.0 in cc)
  opens this f at b i e h = absurd h
  opens literal (word t f) at b i e h = not_here literals t at refl e (stands_kind ts at t h.0) h.1
  opens literal f at b i e h = absurd h
  opens shape (mark f) at b i e h = absurd (let w = sym e ∙ h.0 in cc)
  opens shape f at b i e h = absurd h
  opens range (mark f) at b i e h = absurd (let w = sym e ∙ h.0 in cc)
  opens range f at b i e h = absurd h
  opens callable_type (word t f) at b i e h = not_here (k.Callable ∷ k.Closure ∷ []) t at refl e (stands_kind ts at t h.0) h.1
  opens callable_type f at b i e h = absurd h
  opens member (word t f) at b i e h = not_here names t at refl e (stands_kind ts at t h.0) h.1
  opens member f at b i e h = absurd h
  opens name (word t f) at b i e h = not_here names t at refl e (stands_kind ts at t h.0) h.1
  opens name f at b i e h = absurd h
  opens r ps at b i e h = absurd cc

  -- a variable with which a type begins is `$this`
  variable_word : (kind : DocKind) → has variables kind ≡ true → has (begins Written) kind ≡ true → has words kind ≡ true
  unfolding same_kind
  variable_word kind v b = elim (or_split (same_kind kind k.Variable) (has (k.This ∷ []) kind) v) [
    | inl e ↦ clash (has (begins Written) k.Variable) (subst (λ z. has (begins Written) z ≡ true) (same_is kind k.Variable e) b) refl
    | inr e ↦ subset_has (k.This ∷ []) words kind refl e
  ]

  -- No type but a condition begins with `(`, a variable and `is`.
  no_condition : (at b : ℕ) (ps : Forest) → kind_at ts at ≡ k.LeftParenthesis → has variables (kind_at ts (at + 1)) ≡ true → kind_at ts (at + 1 + 1) ≡ k.Is → Runs ts (symbols plain_type) ps at b → ⊥
  unfolding same_kind
  no_condition at b (some q qs f) e v is h =
      let o = opens q qs at h.0 (rw h.1 refl) e h.2 in
      let start = rule_starts ts o.0 o.1 (at + 1) o.2 o.4 in
      let w = variable_word (kind_at ts (at + 1)) v (subst (λ z. has (begins z) (kind_at ts (at + 1)) ≡ true) o.3 start.1) in
      elim (second (symbols o.0) o.1 (at + 1) o.2 (rule_calm o.0 (rw o.3 refl)) w o.4) [
        | inl le ↦ let same : o.2 ≡ at + 1 + 1 = omega (arith, le, start.0) in let x = sym (subst (λ z. kind_at ts z ≡ k.RightParenthesis) same o.5) ∙ is in absurd cc
        | inr g ↦ clash (has second_goes k.Is) (subst (λ z. has second_goes z ≡ true) is g) refl
      ]
  no_condition at b (none f) e v is h = let w = h.0 in absurd cc
  no_condition at b f e v is h = h

  condition_beaten : (g ps : Forest) (at e b : ℕ) → Runs ts (symbols conditional) g at e → Runs ts (symbols plain_type) ps at b → ⊥
  condition_beaten (mark (word t (mark g))) ps at e b h i = no_condition at b ps h.0 (rw (stands_kind ts (at + 1) t h.1.0) h.1.1) h.1.2.0 i
  condition_beaten (mark (word t g)) ps at e b h i = h.1.2
  condition_beaten (mark g) ps at e b h i = h.1
  condition_beaten g ps at e b h i = h

  -- ---- atoms whose second tokens differ

  member_second : (ps : Forest) (at b : ℕ) → Runs ts (symbols member) ps at b → kind_at ts (at + 1) ≡ k.DoubleColon
  member_second (word t (mark f)) at b h = h.2.0
  member_second (word t f) at b h = absurd h.2
  member_second f at b h = absurd h

  shape_member : (g ps : Forest) (at e b : ℕ) → Runs ts (symbols shape) g at e → Runs ts (symbols member) ps at b → ⊥
  shape_member (mark (mark g)) ps at e b h i = let w = sym h.1.0 ∙ member_second ps at b i in absurd cc
  shape_member (mark g) ps at e b h i = h.1
  shape_member g ps at e b h i = h

  range_member : (g ps : Forest) (at e b : ℕ) → Runs ts (symbols range) g at e → Runs ts (symbols member) ps at b → ⊥
  range_member (mark (mark g)) ps at e b h i = let w = sym h.1.0 ∙ member_second ps at b i in absurd cc
  range_member (mark g) ps at e b h i = h.1
  range_member g ps at e b h i = h

  callable_member : (g ps : Forest) (at e b : ℕ) → Runs ts (symbols callable_type) g at e → Runs ts (symbols member) ps at b → ⊥
  callable_member (word t (mark g)) ps at e b h i = let w = sym h.2.0 ∙ member_second ps at b i in absurd cc
  callable_member (word t g) ps at e b h i = h.2
  callable_member g ps at e b h i = h

  -- ---- all pairs

  pub beaten : (q r : Rule) (g ps : Forest) (at e b : ℕ) → alike q r ≡ true → Runs ts (symbols q) g at e → Runs ts (symbols r) ps at b → Beaten ts q r e b
  beaten conditional plain_type g ps at e b s h i = absurd (condition_beaten g ps at e b h i)
  beaten shape member g ps at e b s h i = absurd (shape_member g ps at e b h i)
  beaten range member g ps at e b s h i = absurd (range_member g ps at e b h i)
  beaten callable_type member g ps at e b s h i = absurd (callable_member g ps at e b h i)
  beaten shape name g ps at e b s h i = (omega arith, inr (shape_beaten g ps at e b h i))
  beaten range name g ps at e b s h i = range_beaten g ps at e b h i
  beaten callable_type name g ps at e b s h i = (omega arith, inr (callable_beaten g ps at e b h i))
  beaten member name g ps at e b s h i = (omega arith, inr (member_beaten g ps at e b h i))
  beaten keyed plain_field g ps at e b s h i = (omega arith, inr (key_beaten g ps at e b h i))
  beaten q r g ps at e b s h i = absurd cc
