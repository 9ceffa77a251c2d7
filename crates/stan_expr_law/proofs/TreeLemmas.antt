-- Tokens have at most one tree, and the end tokens of an expression go on with none.
use Rattle.std.proofs.Common.{◌≡◌, ℕ, IsTrue, List, [], ◌∷◌, refl, sym, inl, inr, true≢false, arith}
use Rattle.stan_model_grammar.specs.declared.token.Token.{Token}
use Rattle.stan_model_grammar.specs.declared.token.TokenKind.{TokenKind}
use Rattle.stan_model_grammar.specs.declared.token.TokenKind.TheVariants as kinds
use Rattle.stan_model_grammar.specs.Strata.{joins, is_end, loosest}
use Rattle.stan_model_grammar.specs.Trees.{Tree}
use Rattle.stan_model_grammar.specs.Takes.{takes, More, IsTreeOf}

-- Of two lists at most one takes more than the other.
more_one_way : (xs ys : List ℕ) → More xs ys → More ys xs → ⊥
more_one_way [] ys h i = h
more_one_way (x ∷ xs) [] h i = h
more_one_way (x ∷ xs) (y ∷ ys) (inl h) (inl i) = omega (arith, h, i)
more_one_way (x ∷ xs) (y ∷ ys) (inl h) (inr i) = omega (arith, h, i.0)
more_one_way (x ∷ xs) (y ∷ ys) (inr h) (inl i) = omega (arith, h.0, i)
more_one_way (x ∷ xs) (y ∷ ys) (inr h) (inr i) = more_one_way xs ys h.1 i.1

pub one_tree : (ts : List Token) (t u : Tree) (at to : ℕ) → IsTreeOf ts t at to → IsTreeOf ts u at to → t ≡ u
one_tree ts t u at to h i =
    elim (h.1 u i.0) [
      | inl same ↦ same
      | inr more ↦ elim (i.1 t h.0) [ inl same ↦ sym same | inr less ↦ absurd (more_one_way (takes loosest t) (takes loosest u) more less) ]
    ]

pub ends_join_none : (kind next : TokenKind) → IsTrue (is_end kind) → joins kind next ≡ 30
ends_join_none kinds.End next h = refl
ends_join_none kinds.ClosingTag next h = refl
ends_join_none kinds.Semicolon next h = refl
ends_join_none kinds.Comma next h = refl
ends_join_none kinds.RightParenthesis next h = refl
ends_join_none kinds.RightBracket next h = refl
ends_join_none kinds.RightBrace next h = refl
ends_join_none kinds.InsertionEnd next h = refl
ends_join_none kinds.Colon next h = refl
ends_join_none kinds.DoubleArrow next h = refl
ends_join_none kinds.As next h = refl
ends_join_none _ next h = absurd (true≢false (sym h))
