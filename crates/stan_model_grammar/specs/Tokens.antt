-- The tokens of a source, as a statement about its bytes (PHP manual, "Basic syntax" and the list of parser tokens).
use Rattle.std.specs.Prelude.{◌≡◌, ℕ, ◌+◌, ◌-◌, ◌<◌, ◌≤◌, ◌==◌, ◌||◌, ◌&&◌, not, if◌then◌else◌, Bool, true, false, MatchBool, List, [], ◌∷◌, ◌++◌, length, take, Option, Some, None, slice_get, slice_index, slice_range}
use Rattle.std.specs.List.{fold, filter}
use Rattle.stan_model_grammar.specs.declared.token.Opening.{Opening}
use Rattle.stan_model_grammar.specs.declared.token.Opening.TheVariants as openings
use Rattle.stan_model_grammar.specs.declared.token.Token.{Token}
use Rattle.stan_model_grammar.specs.declared.token.TokenKind.{TokenKind}
use Rattle.stan_model_grammar.specs.declared.token.TokenKind.TheVariants as kinds
use Rattle.stan_base.specs.Bytes.{is_blank}
use Rattle.stan_model_grammar.specs.Runs.{run_end, blank_at, line_at}
use Rattle.stan_model_grammar.specs.Words.{begins_variable, variable, begins_name, name}
use Rattle.stan_model_grammar.specs.Numbers.{begins_number, number}
use Rattle.stan_model_grammar.specs.Texts.{single_quoted, double_quoted, text_token}
use Rattle.stan_model_grammar.specs.Heredocs.{begins_heredoc, heredoc}
use Rattle.stan_model_grammar.specs.Marks.{begins_remark, remark, begins_comment, comment, parenthesis, begins_closing, closing, mark}

-- ---- the token at a place

abbrev pub is_in_text : Option Opening → Bool
is_in_text (Some openings.Text) = true
is_in_text _ = false

abbrev pub is_in_insertion : Option Opening → Bool
is_in_insertion (Some openings.Insertion) = true
is_in_insertion _ = false

abbrev pub is_in_brace : Option Opening → Bool
is_in_brace (Some openings.Brace) = true
is_in_brace _ = false

abbrev pub is_in_bracket : Option Opening → Bool
is_in_bracket (Some openings.Bracket) = true
is_in_bracket _ = false

-- words, numbers and texts
unfoldable pub begins_literal : List ℕ → ℕ → Bool
begins_literal source at =
    begins_variable source at || begins_name source at || begins_number source at
    || (slice_index source at == 39) || (slice_index source at == 34) || begins_heredoc source at

unfoldable pub literal : List ℕ → ℕ → TokenKind × ℕ
literal source at =
    if begins_variable source at then variable source at else (
    if begins_name source at then name source at else (
    if begins_number source at then number source at else (
    if slice_index source at == 39 then single_quoted source at else (
    if slice_index source at == 34 then double_quoted source at else heredoc source at))))

-- `#[`
abbrev pub begins_attribute : List ℕ → ℕ → Bool
begins_attribute source at = (slice_index source at == 35) && (slice_index source (at + 1) == 91)

-- Whether the bracket belongs to what is open, and not to the grammar: `}` of an insertion, `[` and `]` of an attribute.
unfoldable pub begins_bound : List ℕ → Option Opening → ℕ → Bool
begins_bound source top at =
    begins_attribute source at || ((slice_index source at == 125) && is_in_insertion top)
    || ((slice_index source at == 91) && is_in_bracket top) || ((slice_index source at == 93) && is_in_bracket top)

unfoldable pub bound : List ℕ → ℕ → TokenKind × ℕ
bound source at =
    if slice_index source at == 35 then (kinds.AttributeStart, at + 2) else (
    if slice_index source at == 125 then (kinds.InsertionEnd, at + 1) else (
    if slice_index source at == 91 then (kinds.AttributeStart, at + 1) else (kinds.AttributeEnd, at + 1)))

-- the longest token that begins at a place outside of texts, where no blank stands
unfoldable pub code_token : List ℕ → Option Opening → ℕ → TokenKind × ℕ
code_token source top at =
    if begins_literal source at then literal source at else (
    if begins_bound source top at then bound source at else (
    if begins_remark source at then remark source at else (
    if begins_comment source at then comment source at else (
    if slice_index source at == 40 then parenthesis source at else (
    if begins_closing source at then closing source at else mark source at)))))

-- ---- what is open, the innermost last

abbrev pub top : List Opening → Option Opening
top stack = slice_get stack (length stack - 1)

abbrev pub opened : Opening → List Opening → List Opening
opened opening stack = stack ++ opening ∷ []

abbrev pub closed : List Opening → List Opening
closed stack = take (length stack - 1) stack

-- what is open behind a token
abbrev pub open_behind : TokenKind → List Opening → List Opening
open_behind kinds.TextStart stack = opened openings.Text stack
open_behind kinds.InsertionStart stack = opened openings.Insertion stack
open_behind kinds.AttributeStart stack = opened openings.Bracket stack
open_behind kinds.LeftBrace stack = if is_in_bracket (top stack) then stack else opened openings.Brace stack
open_behind kinds.TextEnd stack = closed stack
open_behind kinds.InsertionEnd stack = closed stack
open_behind kinds.AttributeEnd stack = closed stack
open_behind kinds.RightBrace stack = if is_in_brace (top stack) then closed stack else stack
open_behind _ stack = stack

-- ---- the lexemes from a place on

-- where the next lexeme begins: blanks stand before it, but not in a text
unfoldable pub next_start : List ℕ → Option Opening → ℕ → ℕ
next_start source top at = if is_in_text top then at else run_end source (blank_at source) at

unfoldable pub lexeme : List ℕ → Option Opening → ℕ → TokenKind × ℕ
lexeme source top at = if is_in_text top then text_token source at else code_token source top at

abbrev pub is_bad : TokenKind → Bool
is_bad kinds.Bad = true
is_bad _ = false

-- Each lexeme has a byte, and lies within the source. Nothing is read behind a `Bad`.
abbrev pub AreLexemes : List ℕ → List Opening → ℕ → List Token → Type 0
AreLexemes source stack at [] = length source ≤ next_start source (top stack) at
AreLexemes source stack at (t ∷ ts) = (t.start ≡ next_start source (top stack) at) × (t.start < t.end) × (t.end ≤ length source)
    × (lexeme source (top stack) t.start ≡ (t.kind, t.end)) × MatchBool (is_bad t.kind) (ts ≡ []) (AreLexemes source (open_behind t.kind stack) t.end ts)

-- ---- attributes as one token, and keywords as names

abbrev pub is_attribute_start : TokenKind → Bool
is_attribute_start kinds.AttributeStart = true
is_attribute_start _ = false

abbrev pub is_attribute_end : TokenKind → Bool
is_attribute_end kinds.AttributeEnd = true
is_attribute_end _ = false

abbrev pub is_comment : TokenKind → Bool
is_comment kinds.Comment = true
is_comment kinds.PhpDoc = true
is_comment _ = false

abbrev pub is_arrow : TokenKind → Bool
is_arrow kinds.Arrow = true
is_arrow kinds.NullsafeArrow = true
is_arrow _ = false

abbrev pub is_double_colon : TokenKind → Bool
is_double_colon kinds.DoubleColon = true
is_double_colon _ = false

abbrev pub is_class : TokenKind → Bool
is_class kinds.Class = true
is_class _ = false

abbrev pub is_keyword : TokenKind → Bool
is_keyword kinds.Abstract = true
is_keyword kinds.And = true
is_keyword kinds.Array = true
is_keyword kinds.As = true
is_keyword kinds.Break = true
is_keyword kinds.Callable = true
is_keyword kinds.Case = true
is_keyword kinds.Catch = true
is_keyword kinds.Class = true
is_keyword kinds.Clone = true
is_keyword kinds.Const = true
is_keyword kinds.Continue = true
is_keyword kinds.Declare = true
is_keyword kinds.Default = true
is_keyword kinds.Die = true
is_keyword kinds.Do = true
is_keyword kinds.Echo = true
is_keyword kinds.Else = true
is_keyword kinds.ElseIf = true
is_keyword kinds.Empty = true
is_keyword kinds.Eval = true
is_keyword kinds.Exit = true
is_keyword kinds.Extends = true
is_keyword kinds.Final = true
is_keyword kinds.Finally = true
is_keyword kinds.Fn = true
is_keyword kinds.For = true
is_keyword kinds.ForEach = true
is_keyword kinds.Function = true
is_keyword kinds.Global = true
is_keyword kinds.Goto = true
is_keyword kinds.If = true
is_keyword kinds.Implements = true
is_keyword kinds.Include = true
is_keyword kinds.IncludeOnce = true
is_keyword kinds.InstanceOf = true
is_keyword kinds.InsteadOf = true
is_keyword kinds.Interface = true
is_keyword kinds.IsSet = true
is_keyword kinds.List = true
is_keyword kinds.Match = true
is_keyword kinds.Namespace = true
is_keyword kinds.New = true
is_keyword kinds.Or = true
is_keyword kinds.Print = true
is_keyword kinds.Private = true
is_keyword kinds.Protected = true
is_keyword kinds.Public = true
is_keyword kinds.Require = true
is_keyword kinds.RequireOnce = true
is_keyword kinds.Return = true
is_keyword kinds.Static = true
is_keyword kinds.Switch = true
is_keyword kinds.Throw = true
is_keyword kinds.Trait = true
is_keyword kinds.Try = true
is_keyword kinds.Unset = true
is_keyword kinds.Use = true
is_keyword kinds.Var = true
is_keyword kinds.While = true
is_keyword kinds.Xor = true
is_keyword kinds.Yield = true
is_keyword kinds.HaltCompiler = true
is_keyword _ = false

-- Behind `->`, `?->` and `::` a keyword is an identifier, but for `class` behind `::`.
abbrev pub renames : TokenKind → TokenKind → Bool
renames before kind = (is_arrow before && is_keyword kind) || (is_double_colon before && is_keyword kind && not (is_class kind))

abbrev pub as_kind : TokenKind → Token → Token
as_kind kind t = record t { kind = kind }

abbrev pub renamed : TokenKind → Token → Token
renamed before t = if renames before t.kind then as_kind kinds.Identifier t else t

-- a token from the first byte of one lexeme up to the end of another
abbrev pub spanning : TokenKind → Token → Token → Token
spanning kind first last = record { kind = kind; start = first.start; end = last.end }

-- Lexemes behind a token, comments aside, where an attribute may be open: its first lexeme, and how many brackets are open in it.
-- Without an end an attribute is `Bad` at its first lexeme.
abbrev pub joined : TokenKind → Option (Token × ℕ) → List Token → List Token
joined before None [] = []
joined before (Some a) [] = as_kind kinds.Bad a.0 ∷ []
joined before None (t ∷ ts) =
    if is_attribute_start t.kind then joined before (Some (t, 0)) ts else
    (renamed before t ∷ joined (if is_comment t.kind then before else t.kind) None ts)
joined before (Some a) (t ∷ ts) =
    if is_attribute_start t.kind then joined before (Some (a.0, a.1 + 1)) ts else (
    if not (is_attribute_end t.kind) then joined before (Some a) ts else (
    if a.1 == 0 then (spanning kinds.Attribute a.0 t ∷ joined before None ts) else joined before (Some (a.0, a.1 - 1)) ts))

-- ---- a text that doesn't end

abbrev pub is_text_start : TokenKind → Bool
is_text_start kinds.TextStart = true
is_text_start _ = false

abbrev pub is_text_end : TokenKind → Bool
is_text_end kinds.TextEnd = true
is_text_end _ = false

-- how many texts are open behind a token
abbrev pub texts_behind : ℕ → Token → ℕ
texts_behind n t = if is_text_start t.kind then n + 1 else (if is_text_end t.kind then n - 1 else n)

unfoldable pub open_texts : List Token → ℕ
open_texts ts = fold texts_behind 0 ts

-- The text that begins with this token is the first one that doesn't end.
pub record IsOpenText (ts : List Token) (k : ℕ) : Type 0 where
  pub within : k < length ts
  pub outside : open_texts (take k ts) ≡ 0
  pub inside : (j : ℕ) → k < j → j ≤ length ts → 0 < open_texts (take j ts)

-- Without its end a text is `Bad` at its first byte, and nothing follows.
abbrev pub IsCut : List Token → List Token → Type 0
IsCut ts us = MatchBool (open_texts ts == 0) (us ≡ ts)
    ((k : ℕ) × (t : Token) × IsOpenText ts k × (slice_get ts k ≡ Some t) × (us ≡ take k ts ++ as_kind kinds.Bad t ∷ []))

-- ---- the whole source

-- behind a first line that begins with `#!`
unfoldable pub opening_start : List ℕ → ℕ
opening_start source = if (slice_index source 0 == 35) && (slice_index source 1 == 33) then run_end source (line_at source) 0 + 1 else 0

-- `<?php` with a blank or the end behind it
unfoldable pub has_opening : List ℕ → Bool
has_opening source =
    let at = opening_start source in
    (slice_index source at == 60) && (slice_index source (at + 1) == 63) && (slice_index source (at + 2) == 112) && (slice_index source (at + 3) == 104) && (slice_index source (at + 4) == 112)
    && ((at + 5 == length source) || is_blank (slice_index source (at + 5)))

-- A source that doesn't begin with the opening tag is `Bad` at its first byte.
abbrev pub AreTokens : List ℕ → List Token → Type 0
AreTokens source ts = MatchBool (has_opening source)
    ((lexemes : List Token) × AreLexemes source [] (opening_start source + 5) lexemes × IsCut (joined kinds.End None lexemes) ts)
    (ts ≡ record { kind = kinds.Bad; start = 0; end = 0 } ∷ [])

-- ---- what the grammar reads

-- The grammar passes over comments and attributes like blanks.
abbrev pub is_code : TokenKind → Bool
is_code kinds.Comment = false
is_code kinds.PhpDoc = false
is_code kinds.Attribute = false
is_code _ = true

abbrev pub code_tokens : List Token → List Token
code_tokens ts = filter (λ t. is_code t.kind) ts

-- the comments of a source, PHPDocs too
abbrev pub comments : List Token → List Token
comments ts = filter (λ t. is_comment t.kind) ts

-- the bytes that a token spells
abbrev pub spelling : List ℕ → Token → List ℕ
spelling source t = slice_range source t.start t.end
