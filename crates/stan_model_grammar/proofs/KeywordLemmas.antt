-- The kinds of reserved words.
use Rattle.std.proofs.Common.{◌≡◌, Bool, true, false, List, [], ◌∷◌, map, drop, refl, sym, ap, ◌∙◌, ◌⊎◌, inl, inr}
use Rattle.std.specs.Prelude.{◌&&◌}
use Rattle.std.specs.List.{list_all}
use Rattle.std.proofs.lemmas.Bool.{false≢true}
use Rattle.stan_model_grammar.specs.declared.token.TokenKind.{TokenKind}
use Rattle.stan_model_grammar.specs.declared.token.TokenKind.TheVariants as kinds
use Rattle.stan_model_grammar.specs.declared.token.TheConstants.{KEYWORDS}
use Rattle.stan_model_grammar.specs.Tokens.{is_keyword}

-- one of these kinds
abbrev pub OneOf : TokenKind → List TokenKind → TokenKind → Type 0
OneOf x [] kind = kind ≡ x
OneOf x (y ∷ ys) kind = (kind ≡ x) ⊎ OneOf y ys kind

first_true : (a b : Bool) → (a && b) ≡ true → a ≡ true
first_true true b e = refl
first_true false b e = e

second_true : (a b : Bool) → (a && b) ≡ true → b ≡ true
second_true true b e = e
second_true false b e = absurd (false≢true e)

passes_all : (p : TokenKind → Bool) (x : TokenKind) (xs : List TokenKind) (kind : TokenKind) → list_all p (x ∷ xs) ≡ true → OneOf x xs kind → p kind ≡ true
passes_all p x [] kind all e = ap p e ∙ first_true (p x) (list_all p []) all
passes_all p x (y ∷ ys) kind all (inl e) = ap p e ∙ first_true (p x) (list_all p (y ∷ ys)) all
passes_all p x (y ∷ ys) kind all (inr rest) = passes_all p y ys kind (second_true (p x) (list_all p (y ∷ ys)) all) rest

-- The kinds of the table of keywords are keywords.
pub one_keyword : (kind : TokenKind) → OneOf kinds.Abstract (drop 1 (map (λ row. row.1) KEYWORDS)) kind → true ≡ is_keyword kind
one_keyword kind h = sym (passes_all is_keyword kinds.Abstract (drop 1 (map (λ row. row.1) KEYWORDS)) kind refl h)
