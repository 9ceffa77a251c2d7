-- How deep productions nest: no deeper than the levels that they open allow.
use Rattle.std.proofs.Common.{◌≡◌, ℕ, ◌+◌, ◌-◌, ◌*◌, ◌≤◌, Bool, true, List, [], ◌∷◌, Option, refl, sym, subst, arith, ◌&&◌}
use Rattle.std.specs.Prelude.{nat_le, if◌then◌else◌}
use Rattle.std.proofs.lemmas.Bool.{leb-true}
use Rattle.stan_model_grammar.specs.declared.token.Token.{Token}
use Rattle.stan_model_statements.specs.Symbols.{Sort, Top, UseRest, UseItem, FurtherUseItem, GroupItem, FurtherGroupItem, Statement, Expressions, ElseIfPart, ElsePart, ForEachTarget, Case, Handlers, CatchPart, FinallyPart, Declared, FurtherDeclared, FurtherConstant, Parameter, FurtherParameter, ReturnType, WrittenType, InterfaceExtends, Implements, Names, Member, Modified, ClassConstants, FurtherClassConstant, Method, MethodBody, Properties, PropertyType, TraitUseEnd, Adaptation, AdaptationRest, Need, One, May, Many, Again, Symbol, Mark, Word, Checked, Expression, Part, rest}
use Rattle.stan_model_statements.specs.Rules.{Rule, namespace_statement, symbols, sort_of, weight}
use Rattle.stan_model_grammar.specs.Trees.{Tree}
use Rattle.stan_model_statements.specs.Forests.{Forest, nil, mark, word, expr, none, some}
use Rattle.stan_model_statements.specs.Grammar.{Runs}
use Rattle.stan_model_statements.specs.Takes.{depth}
use Rattle.stan_stmt_law.proofs.Words.{and_split}
use Rattle.stan_stmt_law.proofs.Reading.{height}

-- A production that opens no level holds parts of lower ranks.
abbrev pub rank : Sort → ℕ
rank Top = 5
rank UseRest = 4
rank UseItem = 2
rank FurtherUseItem = 3
rank GroupItem = 3
rank FurtherGroupItem = 4
rank Statement = 4
rank Expressions = 2
rank ElseIfPart = 5
rank ElsePart = 5
rank ForEachTarget = 2
rank Case = 5
rank Handlers = 3
rank CatchPart = 2
rank FinallyPart = 2
rank Declared = 2
rank FurtherDeclared = 3
rank FurtherConstant = 2
rank Parameter = 3
rank FurtherParameter = 4
rank ReturnType = 3
rank WrittenType = 2
rank InterfaceExtends = 3
rank Implements = 3
rank Names = 2
rank Member = 6
rank Modified = 5
rank ClassConstants = 3
rank FurtherClassConstant = 2
rank Method = 4
rank MethodBody = 2
rank Properties = 4
rank PropertyType = 2
rank TraitUseEnd = 2
rank Adaptation = 4
rank AdaptationRest = 3
rank _ = 1

abbrev pub highest : ℕ
highest = 6

abbrev pub within_rank : ℕ → List Symbol → Bool
within_rank m [] = true
within_rank m (Part n s ∷ xs) = nat_le (rank s) m && within_rank m xs
within_rank m (x ∷ xs) = within_rank m xs

abbrev pub rank_inside : Rule → ℕ
rank_inside r = if nat_le 1 (weight r) then highest else rank (sort_of r) - 1

pub ranks : (r : Rule) → within_rank (rank_inside r) (symbols r) ≡ true
ranks namespace_statement = refl
ranks r = refl

pub weights : (r : Rule) → (rank_inside r + 1 ≤ 7 * weight r + rank (sort_of r)) × (1 ≤ rank (sort_of r))
weights namespace_statement = (omega arith, omega arith)
weights r = (omega arith, omega arith)

pub rank_rest : (m : ℕ) (n : Need) (s : Sort) (xs : List Symbol) → within_rank m (Part n s ∷ xs) ≡ true → within_rank m (rest n s xs) ≡ true
rank_rest m One s xs h = (and_split (nat_le (rank s) m) (within_rank m xs) h).1
rank_rest m May s xs h = (and_split (nat_le (rank s) m) (within_rank m xs) h).1
rank_rest m Many s xs h = h
rank_rest m Again s xs h = h

module _ (ts : List Token) (named : Token → Bool) (X : Bool → Tree → ℕ → ℕ → Type 0) (P : Sort → ℕ → Option Rule → Type 0) where
  pub nests : (m : ℕ) (xs : List Symbol) (f : Forest) (at to : ℕ) → within_rank m xs ≡ true → Runs ts named X P xs f at to → height f ≤ 7 * depth f + m + 1
  nests m [] nil at to w h = omega arith
  nests m (Mark kind ∷ xs) (mark f) at to w h = nests m xs f (at + 1) to w h.1
  nests m (Word ks ∷ xs) (word t f) at to w h = nests m xs f (at + 1) to w h.2
  nests m (Checked c ∷ xs) (word t f) at to w h = nests m xs f (at + 1) to w h.3
  nests m (Expression p ∷ xs) (expr e f) at to w h = omega (arith, nests m xs f h.0 to w h.2)
  nests m (Part n s ∷ xs) (none f) at to w h = nests m xs f at to (and_split (nat_le (rank s) m) (within_rank m xs) w).1 h.2
  nests m (Part n s ∷ xs) (some r ps f) at to w h =
      let low : rank (sort_of r) ≤ m = subst (λ z. rank z ≤ m) (sym h.1) (leb-true (rank s) m (and_split (nat_le (rank s) m) (within_rank m xs) w).0) in
      let inner = nests (rank_inside r) (symbols r) ps at h.0 (ranks r) h.3 in
      let behind = nests m (rest n s xs) f h.0 to (rank_rest m n s xs w) h.4 in
      omega (arith, low, inner, behind, (weights r).0, (weights r).1)
  nests m xs f at to w h = absurd h
