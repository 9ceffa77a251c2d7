-- What holds of the tokens of every source: each is the contract of a function of the module `laws`.
use Rattle.std.specs.Prelude.{◌≡◌, ℕ, ◌≤◌, IsTrue, Bool, List, length, ◌+◌, drop, nat_eq}
use Rattle.std.specs.List.{All, AllPairs, Contains, starts_with}
use Rattle.stan_model_grammar.specs.declared.token.Token.{Token}
use Rattle.stan_model_grammar.specs.declared.token.TokenKind.{TokenKind}
use Rattle.stan_model_grammar.specs.Runs.{run_end, IsRun}
use Rattle.stan_model_grammar.specs.Marks.{marks, mark}
use Rattle.stan_model_grammar.specs.Numbers.{number}
use Rattle.stan_model_grammar.specs.Tokens.{AreTokens}
use Rattle.stan_lexer.specs.Spellings.{IsNumber}

-- Every source has tokens, whatever its bytes.
abbrev pub EverySourceHasTokens : Type 0
EverySourceHasTokens = (source : List ℕ) → (ts : List Token) × AreTokens source ts

-- A source has one list of tokens.
abbrev pub OneTokenList : Type 0
OneTokenList = (source : List ℕ) (ts us : List Token) → AreTokens source ts → AreTokens source us → ts ≡ us

-- Each token of a source stands within it, and ends before the later ones begin.
abbrev pub TokensStandInOrder : Type 0
TokensStandInOrder = (source : List ℕ) (ts : List Token) → AreTokens source ts → All (λ t. (t.start ≤ t.end) × (t.end ≤ length source)) ts × AllPairs (λ t u. t.end ≤ u.start) ts

-- No mark of the table that stands at a place is longer than the one that is read there.
abbrev pub LongestMarkIsRead : Type 0
LongestMarkIsRead = (source : List ℕ) (at : ℕ) (row : List ℕ × TokenKind) → Contains marks row → IsTrue (starts_with nat_eq (drop at source) row.0) → at + length row.0 ≤ (mark source at).1

-- No number that is spelled at a place is longer than the one that is read there.
abbrev pub NoLongerNumberIsSpelled : Type 0
NoLongerNumberIsSpelled = (source : List ℕ) (at to : ℕ) → IsNumber source at to → to ≤ (number source at).1

-- A run goes on while its places pass, and ends at the first one that fails, or at the end of the source.
abbrev pub RunsEndWhereTheTestFails : Type 0
RunsEndWhereTheTestFails = (source : List ℕ) (test : ℕ → Bool) (at : ℕ) → at ≤ length source → IsRun source test at (run_end source test at)
