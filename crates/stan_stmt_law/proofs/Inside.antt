-- What runs of symbols spell ends within the tokens.
use Rattle.std.proofs.Common.{◌≡◌, ℕ, ◌+◌, ◌≤◌, ◌<◌, Bool, true, false, List, [], ◌∷◌, length, Option, Some, None, refl, sym, ap, subst, ◌∙◌, inl, inr, arith, ◌&&◌}
use Rattle.std.specs.Prelude.{not, slice_get}
use Rattle.std.proofs.lemmas.Bool.{cases_lt}
use Rattle.std.proofs.lemmas.Option.{slice_get_past}
use Rattle.stan_model_grammar.specs.declared.token.TokenKind.{TokenKind}
use Rattle.stan_model_grammar.specs.declared.token.TokenKind.TheVariants as k
use Rattle.stan_model_grammar.specs.declared.token.Token.{Token}
use Rattle.stan_model_grammar.specs.Strata.{kind_at, kind_of}
use Rattle.stan_model_grammar.specs.Expressions.{Is, Stands}
use Rattle.stan_stmt_rules.specs.Parse.{after, after_of}
use Rattle.stan_model_statements.specs.Symbols.{Sort, Need, One, May, Many, Again, Symbol, Mark, Word, Checked, Expression, Part, rest}
use Rattle.stan_model_statements.specs.Rules.{Rule, namespace_statement, symbols}
use Rattle.stan_model_grammar.specs.Trees.{Tree}
use Rattle.stan_model_statements.specs.Forests.{Forest, nil, mark, word, expr, none, some}
use Rattle.stan_model_statements.specs.Grammar.{Runs}
use Rattle.stan_stmt_law.proofs.Words.{and_split, same_at}

-- no mark is the end of the tokens
abbrev pub is_end : TokenKind → Bool
is_end k.End = true
is_end _ = false

abbrev pub stand : List Symbol → Bool
stand [] = true
stand (Mark kind ∷ xs) = not (is_end kind) && stand xs
stand (x ∷ xs) = stand xs

pub rules_stand : (r : Rule) → stand (symbols r) ≡ true
rules_stand namespace_statement = refl
rules_stand r = refl

pub nothing_past : (ts : List Token) (at : ℕ) → length ts ≤ at → kind_at ts at ≡ k.End
unfolding kind_at
nothing_past ts at le = ap kind_of (slice_get_past ts at le)

pub kind_within : (ts : List Token) (at : ℕ) (kind : TokenKind) → not (is_end kind) ≡ true → Is ts at kind → at < length ts
kind_within ts at kind n is = elim (cases_lt at (length ts)) [
  | inl lt ↦ lt
  | inr past ↦ absurd (let e : k.End ≡ kind = sym (nothing_past ts at past) ∙ is in let w = subst (λ z. not (is_end z) ≡ true) (sym e) n in cc)
]

pub token_within : (ts : List Token) (at : ℕ) (t : Token) → Stands ts at t → at < length ts
token_within ts at t h = elim (cases_lt at (length ts)) [ inl lt ↦ lt | inr past ↦ absurd (let e = slice_get_past ts at past in cc) ]

stand_rest : (n : Need) (s : Sort) (xs : List Symbol) → stand xs ≡ true → stand (rest n s xs) ≡ true
stand_rest One s xs h = h
stand_rest May s xs h = h
stand_rest Many s xs h = h
stand_rest Again s xs h = h

module _ (ts : List Token) (named : Token → Bool) (X : Bool → Tree → ℕ → ℕ → Type 0) (P : Sort → ℕ → Option Rule → Type 0) (within : (p : Bool) (e : Tree) (at b : ℕ) → X p e at b → b ≤ length ts) where
  pub inside : (xs : List Symbol) (f : Forest) (at to : ℕ) → stand xs ≡ true → at ≤ length ts → Runs ts named X P xs f at to → to ≤ length ts
  inside [] nil at to st le h = omega (arith, h, le)
  inside (Mark kind ∷ xs) (mark f) at to st le h =
      let split = and_split (not (is_end kind)) (stand xs) st in
      inside xs f (at + 1) to split.1 (omega (arith, kind_within ts at kind split.0 h.0)) h.1
  inside (Word ks ∷ xs) (word t f) at to st le h = inside xs f (at + 1) to st (omega (arith, token_within ts at t h.0)) h.2
  inside (Checked c ∷ xs) (word t f) at to st le h = inside xs f (at + 1) to st (omega (arith, token_within ts at t h.0)) h.3
  inside (Expression p ∷ xs) (expr e f) at to st le h = inside xs f h.0 to st (within p e at h.0 h.1) h.2
  inside (Part n s ∷ xs) (none f) at to st le h = inside xs f at to st le h.2
  inside (Part n s ∷ xs) (some r ps f) at to st le h = inside (rest n s xs) f h.0 to (stand_rest n s xs st) (inside (symbols r) ps at h.0 (rules_stand r) le h.3) h.4
  inside xs f at to st le h = absurd h

-- what the parser asks of a token
after_of_at : (o : Option Token) (kind : TokenKind) (at : ℕ) → (k.End ≡ kind → ⊥) → kind_of o ≡ kind → after_of o kind at ≡ Some (at + 1)
after_of_at None kind at apart is = absurd (apart is)
after_of_at (Some t) kind at apart is = rw (same_at t.kind kind is) refl

pub after_at : (ts : List Token) (kind : TokenKind) (at : ℕ) → not (is_end kind) ≡ true → kind_at ts at ≡ kind → after ts kind at ≡ Some (at + 1)
unfolding after kind_at
after_at ts kind at apart is = after_of_at (slice_get ts at) kind at (λ e. let w = subst (λ z. not (is_end z) ≡ true) (sym e) apart in absurd cc) is
