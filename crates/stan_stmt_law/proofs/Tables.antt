-- What the look-ahead says of the productions.
use Rattle.std.proofs.Common.{◌≡◌, Bool, true, false, List, [], ◌∷◌, Option, Some, None, refl, sym, subst, ◌∙◌, ◌&&◌, inl, inr, true≢false, ◌++◌}
use Rattle.std.specs.Prelude.{not, ◌||◌, if◌then◌else◌}
use Rattle.stan_model_grammar.specs.declared.token.TokenKind.{TokenKind}
use Rattle.stan_model_grammar.specs.declared.token.TokenKind.TheVariants as k
use Rattle.stan_model_statements.specs.Kinds.{same_kind, has, names, visibilities, alias_names, member_names, modifiers, type_names}
use Rattle.stan_model_statements.specs.Symbols.{Sort, Top, UseRest, GroupItem, FurtherGroupItem, GroupEnd, Statement, ElseIfPart, ElsePart, ForEachTarget, Case, Handlers, CatchPart, FinallyPart, FurtherArgument, Closing, ParameterList, Parameter, FurtherParameter, WrittenType, Member, Modifier, Modified, MethodBody, PropertyType, TraitUseEnd, AdaptedTrait, AdaptationRest, Alias}
use Rattle.stan_model_statements.specs.Rules.{Rule, namespace_statement, namespace_block, use_declaration, top_statement, use_list, use_group, further_group_item, group_end, comma_group_end, expression_statement, else_if_part, else_part, reference_target, catch_part, finally_part, further_argument, closing, comma_closing, no_parameters, parameters, further_parameter, nullable_type, union_type, member_modifier, modified_properties, static_property_type, adapted_trait, alias_visibility, visible_alias, plain_alias, sort_of}
use Rattle.stan_stmt_rules.specs.Ahead.{other_kinds, expression_kinds, statement_kinds, starts, begins, single, Choice, find, firsts, statement_choices, target_choices, case_choices, handler_choices, member_choices, modified_choices, body_choices, property_type_choices, trait_use_choices, adaptation_choices, namespace_by, top_by, closing_by, further_by, static_by, alias_by, pick, owner, dangles}
use Rattle.stan_stmt_law.proofs.Words.{and_split, or_split, or_none, truth, not_false, clash, some_is, same_is, subset, apart, apart_has}
use Rattle.stan_stmt_law.proofs.Checks.{unhas, owned_by, owned, quiet, excludes, or_left, or_right}

-- ---- productions by their first token

pub find_none : (cs : List Choice) (a : TokenKind) → has (firsts cs) a ≡ false → find cs a ≡ None
find_none [] a h = refl
find_none (c ∷ cs) a h = let both = or_none (same_kind a c.0) (has (firsts cs) a) h in rw both.0 (find_none cs a both.1)

pub find_has : (cs : List Choice) (a : TokenKind) (r : Rule) → find cs a ≡ Some r → has (firsts cs) a ≡ true
find_has cs a r h = elim (truth (has (firsts cs) a)) [ inl y ↦ y | inr n ↦ absurd (let e = find_none cs a n in cc) ]

-- each is of this sort
abbrev Sorts : Sort → List Choice → Type 0
Sorts s [] = Unit {0}
Sorts s (c ∷ cs) = (sort_of c.1 ≡ s) × Sorts s cs

abbrev Sorted : Sort → Option Rule → Type 0
Sorted s o = (r : Rule) → o ≡ Some r → sort_of r ≡ s

sorted : (s : Sort) (x : Rule) → sort_of x ≡ s → Sorted s (Some x)
sorted s x e r h = subst (λ z. sort_of z ≡ s) (some_is x r h) e

unsorted : (s : Sort) → Sorted s None
unsorted s r h = absurd cc

sorted_if : (s : Sort) (b : Bool) (o q : Option Rule) → Sorted s o → Sorted s q → Sorted s (if b then o else q)
sorted_if s true o q f g r h = f r h
sorted_if s false o q f g r h = g r h

sorted_one : (s : Sort) (b : Bool) (x : Rule) → sort_of x ≡ s → Sorted s (if b then Some x else None)
sorted_one s b x e = sorted_if s b (Some x) None (sorted s x e) (unsorted s)

find_sorted : (s : Sort) (cs : List Choice) (a : TokenKind) → Sorts s cs → Sorted s (find cs a)
find_sorted s [] a all r h = absurd cc
find_sorted s (c ∷ cs) a all r h = sorted_if s (same_kind a c.0) (Some c.1) (find cs a) (sorted s c.1 all.0) (find_sorted s cs a all.1) r h

-- ---- lists of kinds

has_append : (xs ys : List TokenKind) (a : TokenKind) → has (xs ++ ys) a ≡ false → (has xs a ≡ false) × (has ys a ≡ false)
has_append [] ys a h = (refl, h)
has_append (x ∷ xs) ys a h =
    let both = or_none (same_kind a x) (has (xs ++ ys) a) h in
    let more = has_append xs ys a both.1 in
    (rw both.0 more.0, more.1)

-- a kind that is not there is another one
pub other_than : (ks : List TokenKind) (a x : TokenKind) → has ks a ≡ true → has ks x ≡ false → same_kind a x ≡ false
other_than ks a x h i = elim (truth (same_kind a x)) [ inl e ↦ clash (has ks x) (subst (λ z. has ks z ≡ true) (same_is a x e) h) i | inr n ↦ n ]

-- ---- what begins an expression

pub starts_has : (a b c : TokenKind) → starts a b c ≡ true → has expression_kinds a ≡ true
unfolding same_kind
starts_has a b c h = elim (or_split (has other_kinds a) _ h) [
  | inl e ↦ or_right (same_kind a k.Static) _ (or_right (same_kind a k.Function) (has other_kinds a) e)
  | inr e ↦ elim (or_split (same_kind a k.Static && not (same_kind b k.Variable)) _ e) [
    | inl f ↦ or_left (same_kind a k.Static) _ (and_split (same_kind a k.Static) _ f).0
    | inr f ↦ or_right (same_kind a k.Static) _ (or_left (same_kind a k.Function) (has other_kinds a) (and_split (same_kind a k.Function) _ f).0)
  ]
]

pub no_start : (a b c : TokenKind) → has expression_kinds a ≡ false → starts a b c ≡ false
no_start a b c h = elim (truth (starts a b c)) [ inl y ↦ clash (has expression_kinds a) (starts_has a b c y) h | inr n ↦ n ]

-- ---- where no token of a part stands it is not picked

none_there : (s : Sort) (a b c d : TokenKind) → pick s a b c d ≡ (if has (begins s) a then Some (single s) else None) → has (begins s) a ≡ false → pick s a b c d ≡ None
none_there s a b c d e h = e ∙ rw h refl

no_top : (a b c : TokenKind) → has (begins Top) a ≡ false → top_by a b c ≡ None
no_top a b c h =
    let first = or_none (same_kind a k.Namespace) (has (k.Use ∷ statement_kinds) a) h in
    let second = or_none (same_kind a k.Use) (has statement_kinds a) first.1 in
    rw (first.0, second.0, second.1) refl

no_statement : (a b c : TokenKind) → has (begins Statement) a ≡ false → (if starts a b c then Some expression_statement else find statement_choices a) ≡ None
no_statement a b c h =
    let both = has_append (firsts statement_choices) expression_kinds a h in
    rw (no_start a b c both.1) (find_none statement_choices a both.0)

no_static : (a b : TokenKind) (r : Rule) (cs : List Choice) → has (k.Static ∷ firsts cs) a ≡ false → static_by a b r cs ≡ None
no_static a b r cs h = let both = or_none (same_kind a k.Static) (has (firsts cs) a) h in rw both.0 (find_none cs a both.1)

no_closing : (a b closes : TokenKind) (plain comma : Rule) → has (closes ∷ k.Comma ∷ []) a ≡ false → closing_by a b plain comma closes ≡ None
no_closing a b closes plain comma h =
    let first = or_none (same_kind a closes) (same_kind a k.Comma || false) h in
    let second = or_none (same_kind a k.Comma) false first.1 in
    rw (first.0, second.0) refl

no_further : (a b : TokenKind) (ks : List TokenKind) (r : Rule) → has (k.Comma ∷ []) a ≡ false → further_by a b ks r ≡ None
no_further a b ks r h = rw (or_none (same_kind a k.Comma) false h).0 refl

no_target : (a : TokenKind) (o : Option Rule) → has (begins ForEachTarget) a ≡ false → (if same_kind a k.Ampersand then Some reference_target else (if has expression_kinds a then o else None)) ≡ None
no_target a o h = let both = or_none (same_kind a k.Ampersand) (has expression_kinds a) h in rw (both.0, both.1) refl

no_list : (a : TokenKind) (o : Option Rule) → has (begins ParameterList) a ≡ false → (if same_kind a k.LeftParenthesis then o else None) ≡ None
no_list a o h = rw (or_none (same_kind a k.LeftParenthesis) false h).0 refl

no_type : (a : TokenKind) → has (begins WrittenType) a ≡ false → (if same_kind a k.Question then Some nullable_type else (if has type_names a then Some union_type else None)) ≡ None
no_type a h = let both = or_none (same_kind a k.Question) (has type_names a) h in rw (both.0, both.1) refl

visible_members : subset visibilities member_names ≡ true
unfolding same_kind
visible_members = refl

alias_members : subset alias_names member_names ≡ true
unfolding same_kind
alias_members = refl

no_alias : (a b : TokenKind) → has member_names a ≡ false → alias_by a b ≡ None
no_alias a b h = rw (unhas visibilities member_names a visible_members h, unhas alias_names member_names a alias_members h) refl

pub none_picked : (s : Sort) (a b c d : TokenKind) → has (begins s) a ≡ false → pick s a b c d ≡ None
none_picked Top a b c d h = no_top a b c h
none_picked UseRest a b c d h = rw h refl
none_picked FurtherGroupItem a b c d h = no_further a b (begins GroupItem) further_group_item h
none_picked GroupEnd a b c d h = no_closing a b k.RightBrace group_end comma_group_end h
none_picked Statement a b c d h = no_statement a b c h
none_picked ForEachTarget a b c d h = no_target a (find target_choices d) h
none_picked Case a b c d h = find_none case_choices a h
none_picked Handlers a b c d h = find_none handler_choices a h
none_picked FurtherArgument a b c d h = no_further a b expression_kinds further_argument h
none_picked Closing a b c d h = no_closing a b k.RightParenthesis closing comma_closing h
none_picked ParameterList a b c d h = no_list a (if same_kind b k.RightParenthesis then Some no_parameters else Some parameters) h
none_picked FurtherParameter a b c d h = no_further a b (begins Parameter) further_parameter h
none_picked WrittenType a b c d h = no_type a h
none_picked Member a b c d h = find_none member_choices a h
none_picked Modifier a b c d h = rw h refl
none_picked Modified a b c d h = no_static a b modified_properties modified_choices h
none_picked MethodBody a b c d h = find_none body_choices a h
none_picked PropertyType a b c d h = no_static a b static_property_type property_type_choices h
none_picked TraitUseEnd a b c d h = find_none trait_use_choices a h
none_picked AdaptedTrait a b c d h = rw h refl
none_picked AdaptationRest a b c d h = rw h refl
none_picked Alias a b c d h = no_alias a b h
none_picked s a b c d h = none_there s a b c d refl h

pub picked_begins : (s : Sort) (a b c d : TokenKind) (r : Rule) → pick s a b c d ≡ Some r → has (begins s) a ≡ true
picked_begins s a b c d r h = elim (truth (has (begins s) a)) [ inl y ↦ y | inr n ↦ absurd (let e = none_picked s a b c d n in cc) ]

-- ---- what is picked is of that sort

namespace_sort : (b : Bool) → sort_of (if b then namespace_block else namespace_statement) ≡ Top
namespace_sort true = refl
namespace_sort false = refl

top_sort : (a b c : TokenKind) → Sorted Top (top_by a b c)
top_sort a b c =
    sorted_if Top (same_kind a k.Namespace) _ _ (sorted Top (namespace_by b c) (namespace_sort (same_kind b k.LeftBrace || same_kind c k.LeftBrace)))
    (sorted_if Top (same_kind a k.Use) _ _ (sorted Top use_declaration refl) (sorted_one Top (has statement_kinds a) top_statement refl))

statement_sort : (a : TokenKind) → Sorted Statement (find statement_choices a)
statement_sort a = find_sorted Statement statement_choices a (refl, (refl, (refl, (refl, (refl, (refl, (refl, (refl, (refl, (refl, (refl, (refl, (refl, (refl, (refl, (refl, (refl, (refl, (refl, (refl, (refl, (refl, (refl, (refl, (refl, tt)))))))))))))))))))))))))

closing_sort : (s : Sort) (a b closes : TokenKind) (plain comma : Rule) → sort_of plain ≡ s → sort_of comma ≡ s → Sorted s (closing_by a b plain comma closes)
closing_sort s a b closes plain comma e f = sorted_if s (same_kind a closes) (Some plain) _ (sorted s plain e) (sorted_one s (same_kind a k.Comma && same_kind b closes) comma f)

static_sort : (s : Sort) (a b : TokenKind) (r : Rule) (cs : List Choice) → sort_of r ≡ s → Sorts s cs → Sorted s (static_by a b r cs)
static_sort s a b r cs e all = sorted_if s (same_kind a k.Static) _ _ (sorted_one s (same_kind b k.Bar) r e) (find_sorted s cs a all)

alias_sort : (a b : TokenKind) → Sorted Alias (alias_by a b)
alias_sort a b =
    sorted_if Alias (has visibilities a) _ _ (sorted_if Alias (same_kind b k.Semicolon) _ _ (sorted Alias alias_visibility refl) (sorted Alias visible_alias refl))
    (sorted_one Alias (has alias_names a) plain_alias refl)

pub picked_sort : (s : Sort) (a b c d : TokenKind) (r : Rule) → pick s a b c d ≡ Some r → sort_of r ≡ s
picked_sort Top a b c d r h = top_sort a b c r h
picked_sort UseRest a b c d r h = sorted_if UseRest (has names a) _ None (sorted_if UseRest (same_kind b k.Backslash) _ _ (sorted UseRest use_group refl) (sorted UseRest use_list refl)) (unsorted UseRest) r h
picked_sort FurtherGroupItem a b c d r h = sorted_one FurtherGroupItem (same_kind a k.Comma && has (begins GroupItem) b) further_group_item refl r h
picked_sort GroupEnd a b c d r h = closing_sort GroupEnd a b k.RightBrace group_end comma_group_end refl refl r h
picked_sort Statement a b c d r h = sorted_if Statement (starts a b c) _ _ (sorted Statement expression_statement refl) (statement_sort a) r h
picked_sort ForEachTarget a b c d r h = sorted_if ForEachTarget (same_kind a k.Ampersand) _ _ (sorted ForEachTarget reference_target refl) (sorted_if ForEachTarget (has expression_kinds a) _ None (find_sorted ForEachTarget target_choices d (refl, (refl, tt))) (unsorted ForEachTarget)) r h
picked_sort Case a b c d r h = find_sorted Case case_choices a (refl, (refl, tt)) r h
picked_sort Handlers a b c d r h = find_sorted Handlers handler_choices a (refl, (refl, tt)) r h
picked_sort FurtherArgument a b c d r h = sorted_one FurtherArgument (same_kind a k.Comma && has expression_kinds b) further_argument refl r h
picked_sort Closing a b c d r h = closing_sort Closing a b k.RightParenthesis closing comma_closing refl refl r h
picked_sort ParameterList a b c d r h = sorted_if ParameterList (same_kind a k.LeftParenthesis) _ None (sorted_if ParameterList (same_kind b k.RightParenthesis) _ _ (sorted ParameterList no_parameters refl) (sorted ParameterList parameters refl)) (unsorted ParameterList) r h
picked_sort FurtherParameter a b c d r h = sorted_one FurtherParameter (same_kind a k.Comma && has (begins Parameter) b) further_parameter refl r h
picked_sort WrittenType a b c d r h = sorted_if WrittenType (same_kind a k.Question) _ _ (sorted WrittenType nullable_type refl) (sorted_one WrittenType (has type_names a) union_type refl) r h
picked_sort Member a b c d r h = find_sorted Member member_choices a (refl, (refl, (refl, (refl, (refl, (refl, (refl, (refl, (refl, (refl, tt)))))))))) r h
picked_sort Modifier a b c d r h = sorted_one Modifier (has modifiers a && not (same_kind b k.Bar)) member_modifier refl r h
picked_sort Modified a b c d r h = static_sort Modified a b modified_properties modified_choices refl (refl, (refl, (refl, (refl, (refl, (refl, (refl, (refl, (refl, (refl, tt)))))))))) r h
picked_sort MethodBody a b c d r h = find_sorted MethodBody body_choices a (refl, (refl, tt)) r h
picked_sort PropertyType a b c d r h = static_sort PropertyType a b static_property_type property_type_choices refl (refl, (refl, (refl, (refl, (refl, (refl, (refl, tt))))))) r h
picked_sort TraitUseEnd a b c d r h = find_sorted TraitUseEnd trait_use_choices a (refl, (refl, tt)) r h
picked_sort AdaptedTrait a b c d r h = sorted_one AdaptedTrait (has names a && same_kind b k.DoubleColon) adapted_trait refl r h
picked_sort AdaptationRest a b c d r h = sorted_if AdaptationRest (has member_names a) _ None (find_sorted AdaptationRest adaptation_choices b (refl, (refl, tt))) (unsorted AdaptationRest) r h
picked_sort Alias a b c d r h = alias_sort a b r h
picked_sort s a b c d r h = sorted_one s (has (begins s) a) (single s) refl r h

-- ---- tokens that go on

unowned : (o : Option Rule) → owned_by o ≡ false → o ≡ None
unowned None h = refl
unowned (Some r) h = absurd cc

pub quiet_owner : (ks : List TokenKind) (a : TokenKind) → quiet ks ≡ true → has ks a ≡ true → owner a ≡ None
quiet_owner [] a q h = absurd cc
quiet_owner (x ∷ xs) a q h =
    let split = and_split (not (owned x)) (quiet xs) q in
    elim (or_split (same_kind a x) (has xs a) h) [
      | inl e ↦ subst (λ y. owner y ≡ None) (sym (same_is a x e)) (unowned (owner x) (not_false (owned x) split.0))
      | inr i ↦ quiet_owner xs a split.1 i
    ]

pub quiet_picked : (s : Sort) (a b c d : TokenKind) (r : Rule) → quiet (begins s) ≡ true → pick s a b c d ≡ Some r → owner a ≡ None
quiet_picked s a b c d r q h = quiet_owner (begins s) a q (picked_begins s a b c d r h)

owned_one : (a x : TokenKind) (q r : Rule) → owner x ≡ Some q → (if same_kind a x || false then Some q else None) ≡ Some r → owner a ≡ Some r
owned_one a x q r o h = by_kind (same_kind a x) refl h
  where
    by_kind : (t : Bool) → same_kind a x ≡ t → (if t || false then Some q else None) ≡ Some r → owner a ≡ Some r
    by_kind true e h = subst (λ z. owner z ≡ Some r) (sym (same_is a x e)) (o ∙ h)
    by_kind false e h = absurd cc

pub dangling_owner : (s : Sort) (a b c d : TokenKind) (r : Rule) → dangles s ≡ true → pick s a b c d ≡ Some r → owner a ≡ Some r
dangling_owner ElseIfPart a b c d r e h = owned_one a k.ElseIf else_if_part r refl h
dangling_owner ElsePart a b c d r e h = owned_one a k.Else else_part r refl h
dangling_owner CatchPart a b c d r e h = owned_one a k.Catch catch_part r refl h
dangling_owner FinallyPart a b c d r e h = owned_one a k.Finally finally_part r refl h
dangling_owner s a b c d r e h = absurd (true≢false (sym e))

-- ---- parts that are told apart by further tokens

no_item : (t : Bool) (r : Rule) → (if t && false then Some r else None) ≡ None
no_item true r = refl
no_item false r = refl

not_further : (a b closes : TokenKind) (ks : List TokenKind) (plain comma further r : Rule) → same_kind closes k.Comma ≡ false → has ks closes ≡ false → closing_by a b plain comma closes ≡ Some r → further_by a b ks further ≡ None
not_further a b closes ks plain comma further r apart none h = by_first (same_kind a closes) refl h
  where
    by_second : (t : Bool) → (same_kind a k.Comma && same_kind b closes) ≡ t → (if t then Some comma else None) ≡ Some r → further_by a b ks further ≡ None
    by_second true e h = let w : has ks b ≡ false = subst (λ z. has ks z ≡ false) (sym (same_is b closes (and_split (same_kind a k.Comma) (same_kind b closes) e).1)) none in rw w (no_item (same_kind a k.Comma) further)
    by_second false e h = absurd cc

    by_first : (t : Bool) → same_kind a closes ≡ t → (if t then Some plain else (if same_kind a k.Comma && same_kind b closes then Some comma else None)) ≡ Some r → further_by a b ks further ≡ None
    by_first true e h = let w : same_kind a k.Comma ≡ false = subst (λ z. same_kind z k.Comma ≡ false) (sym (same_is a closes e)) apart in rw w refl
    by_first false e h = by_second (same_kind a k.Comma && same_kind b closes) refl h

unmodified : apart (firsts modified_choices) modifiers ≡ true
unfolding same_kind
unmodified = refl

no_modifier : (a b : TokenKind) (r : Rule) → static_by a b modified_properties modified_choices ≡ Some r → (if has modifiers a && not (same_kind b k.Bar) then Some member_modifier else None) ≡ None
no_modifier a b r h = by_first (same_kind a k.Static) h
  where
    by_bar : (t m : Bool) → (if t then Some modified_properties else None) ≡ Some r → (if m && not t then Some member_modifier else None) ≡ None
    by_bar true m h = no_item m member_modifier
    by_bar false m h = absurd cc

    by_first : (t : Bool) → (if t then (if same_kind b k.Bar then Some modified_properties else None) else find modified_choices a) ≡ Some r → (if has modifiers a && not (same_kind b k.Bar) then Some member_modifier else None) ≡ None
    by_first true h = by_bar (same_kind b k.Bar) (has modifiers a) h
    by_first false h = rw (apart_has (firsts modified_choices) modifiers a unmodified (find_has modified_choices a r h)) refl

colons_apart : has (firsts adaptation_choices) k.DoubleColon ≡ false
unfolding same_kind
colons_apart = refl

no_adapted : (n m : Bool) (b : TokenKind) (r : Rule) → (if m then find adaptation_choices b else None) ≡ Some r → (if n && same_kind b k.DoubleColon then Some adapted_trait else None) ≡ None
no_adapted n true b r h = rw (other_than (firsts adaptation_choices) b k.DoubleColon (find_has adaptation_choices b r h) colons_apart) (no_item n adapted_trait)
no_adapted n false b r h = absurd cc

closes_apart : (same_kind k.RightParenthesis k.Comma ≡ false) × (has (begins Parameter) k.RightParenthesis ≡ false) × (has expression_kinds k.RightParenthesis ≡ false) × (same_kind k.RightBrace k.Comma ≡ false) × (has (begins GroupItem) k.RightBrace ≡ false)
unfolding same_kind
closes_apart = (refl, refl, refl, refl, refl)

pub excluded : (s t : Sort) (a b c d : TokenKind) (r : Rule) → excludes s t ≡ true → pick t a b c d ≡ Some r → pick s a b c d ≡ None
excluded FurtherParameter Closing a b c d r x h = not_further a b k.RightParenthesis (begins Parameter) closing comma_closing further_parameter r closes_apart.0 closes_apart.1 h
excluded FurtherArgument Closing a b c d r x h = not_further a b k.RightParenthesis expression_kinds closing comma_closing further_argument r closes_apart.0 closes_apart.2 h
excluded FurtherGroupItem GroupEnd a b c d r x h = not_further a b k.RightBrace (begins GroupItem) group_end comma_group_end further_group_item r closes_apart.3 closes_apart.4 h
excluded Modifier Modified a b c d r x h = no_modifier a b r h
excluded AdaptedTrait AdaptationRest a b c d r x h = no_adapted (has names a) (has member_names a) b r h
excluded FurtherParameter t a b c d r x h = absurd (true≢false (sym x))
excluded s t a b c d r x h = absurd (true≢false (sym x))
