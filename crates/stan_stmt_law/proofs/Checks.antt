-- What is asked of the productions, and computed: no lemma about one production stands here.
use Rattle.std.proofs.Common.{◌≡◌, Bool, true, false, List, [], ◌∷◌, ◌++◌, refl, subst, ◌&&◌, ◌⊎◌, inl, inr}
use Rattle.std.specs.Prelude.{not, ◌||◌, Option, Some, None}
use Rattle.stan_model_grammar.specs.declared.token.TokenKind.{TokenKind}
use Rattle.stan_model_grammar.specs.declared.token.TokenKind.TheVariants as k
use Rattle.stan_model_statements.specs.Grammar.{checked_kinds}
use Rattle.stan_model_statements.specs.Kinds.{same_kind, has}
use Rattle.stan_model_statements.specs.Symbols.{Sort, Top, UseItem, FurtherUseItem, GroupItem, FurtherGroupItem, GroupEnd, Statement, Expressions, ElseIfPart, ElsePart, Case, Handlers, FurtherArgument, Closing, Declared, FurtherDeclared, Parameter, FurtherParameter, ReturnType, WrittenType, InterfaceExtends, Implements, Names, Modifier, Modified, PropertyType, AdaptedTrait, AdaptationRest, Need, One, May, Many, Again, Symbol, Mark, Word, Checked, Expression, Part, lacks, rest}
use Rattle.stan_model_statements.specs.Rules.{Rule, namespace_statement, symbols, sort_of}
use Rattle.stan_stmt_rules.specs.Ahead.{expression_kinds, statement_kinds, begins, owner, dangles, leads_on}
use Rattle.stan_stmt_law.proofs.Words.{implies, and_split, and_both, or_split, implied, implying, truth, not_false, subset, apart, subset_has, clash}

-- ---- the tables

-- whether a part of this sort may end with one that lacks and that a token could go on with
abbrev pub tails : Sort → Bool
tails Top = true
tails Statement = true
tails ElseIfPart = true
tails ElsePart = true
tails Case = true
tails Handlers = true
tails _ = false

-- the kinds of tokens that a part of this sort could go on with behind its end, but for those that dangle
abbrev pub goes : Sort → List TokenKind
goes UseItem = k.As ∷ []
goes FurtherUseItem = k.As ∷ []
goes GroupItem = k.As ∷ []
goes FurtherGroupItem = k.As ∷ []
goes Expressions = k.Comma ∷ []
goes Case = statement_kinds
goes Declared = k.Assign ∷ []
goes FurtherDeclared = k.Assign ∷ []
goes Parameter = k.Assign ∷ []
goes FurtherParameter = k.Assign ∷ []
goes ReturnType = k.Bar ∷ []
goes WrittenType = k.Bar ∷ []
goes InterfaceExtends = k.Comma ∷ []
goes Implements = k.Comma ∷ []
goes Names = k.Comma ∷ []
goes PropertyType = k.Bar ∷ []
goes _ = []

-- Where a part of the second sort stands, none of the first sort does, by further tokens than the first.
abbrev pub excludes : Sort → Sort → Bool
excludes AdaptedTrait AdaptationRest = true
excludes FurtherArgument Closing = true
excludes FurtherGroupItem GroupEnd = true
excludes FurtherParameter Closing = true
excludes Modifier Modified = true
excludes _ _ = false

-- ---- the tests

abbrev pub owned_by : Option Rule → Bool
owned_by None = false
owned_by (Some r) = true

abbrev pub owned : TokenKind → Bool
owned kind = owned_by (owner kind)

-- no token of these kinds goes on with a statement
abbrev pub quiet : List TokenKind → Bool
quiet [] = true
quiet (x ∷ xs) = not (owned x) && quiet xs

-- what ends with a part that lacks, and that such a token could begin
abbrev pub open_end : Symbol → Bool
open_end (Part One s) = tails s
open_end (Part n s) = tails s || dangles s
open_end _ = false

-- a part that such a token begins only where it is the part that this token goes on with
abbrev pub mild : Sort → Bool
mild s = not (leads_on s) && (dangles s || quiet (begins s))

-- Where a part lacks that could begin with a token that goes on, what stands next begins with none, unless it may lack too.
abbrev pub head_ok : List Symbol → Bool
head_ok [] = true
head_ok (Mark kind ∷ xs) = not (owned kind)
head_ok (Word ks ∷ xs) = quiet ks
head_ok (Checked c ∷ xs) = quiet (checked_kinds c)
head_ok (Expression p ∷ xs) = true
head_ok (Part One s ∷ xs) = not (leads_on s) && (not (dangles s) && quiet (begins s))
head_ok (Part n s ∷ xs) = mild s && head_ok xs

abbrev pub repeats : Symbol → Bool
repeats (Part One s) = true
repeats (Part May s) = true
repeats (Part n s) = implies (tails s || dangles s) (mild s)
repeats _ = true

abbrev pub no_sort : Sort → Bool
no_sort s = false

-- No token of these kinds can stand at the beginning of what follows, but for parts that are told apart otherwise. At the end stands none
-- of `end`.
abbrev pub closed : List TokenKind → List TokenKind → (Sort → Bool) → List Symbol → Bool
closed end ks ex [] = subset ks end
closed end ks ex (Mark kind ∷ xs) = not (has ks kind)
closed end ks ex (Word ws ∷ xs) = apart ws ks
closed end ks ex (Checked c ∷ xs) = apart (checked_kinds c) ks
closed end ks ex (Expression p ∷ xs) = apart expression_kinds ks
closed end ks ex (Part n s ∷ xs) = (apart (begins s) ks || ex s) && implies (lacks n) (closed end ks ex xs)

abbrev pub shuts : List TokenKind → Symbol → List Symbol → Bool
shuts end (Part n s) xs = closed end (goes s) no_sort (rest n s xs) && implies (lacks n && not (dangles s)) (closed end (begins s) (excludes s) xs)
shuts end _ xs = true

abbrev pub fine : List TokenKind → List Symbol → Bool
fine end [] = true
fine end (x ∷ xs) = implies (open_end x) (head_ok xs) && (repeats x && (shuts end x xs && fine end xs))

abbrev pub all_lack : List Symbol → Bool
all_lack [] = true
all_lack (Part n s ∷ xs) = lacks n && all_lack xs
all_lack (x ∷ xs) = false

abbrev pub ends_open : List Symbol → Bool
ends_open [] = false
ends_open (x ∷ xs) = (open_end x && all_lack xs) || ends_open xs

-- What these symbols spell begins with a token of these kinds.
abbrev pub leads : List TokenKind → List Symbol → Bool
leads ks [] = false
leads ks (Mark kind ∷ xs) = has ks kind
leads ks (Word ws ∷ xs) = subset ws ks
leads ks (Checked c ∷ xs) = subset (checked_kinds c) ks
leads ks (Expression p ∷ xs) = subset expression_kinds ks
leads ks (Part n s ∷ xs) = subset (begins s) ks && implies (lacks n) (leads ks xs)

abbrev pub rule_is_fine : Rule → Bool
rule_is_fine r = fine (goes (sort_of r)) (symbols r) && (implies (ends_open (symbols r)) (tails (sort_of r)) && leads (begins (sort_of r)) (symbols r))

-- each production passes
pub rule_ok : (r : Rule) → rule_is_fine r ≡ true
unfolding same_kind
rule_ok namespace_statement = refl
rule_ok r = refl

-- ---- behind one another

pub unhas : (xs ys : List TokenKind) (kind : TokenKind) → subset xs ys ≡ true → has ys kind ≡ false → has xs kind ≡ false
unhas xs ys kind s h = elim (truth (has xs kind)) [ inl y ↦ clash (has ys kind) (subset_has xs ys kind s y) h | inr n ↦ n ]

pub true_not : (b : Bool) → b ≡ false → not b ≡ true
true_not true h = absurd cc
true_not false h = refl

apart_less : (ws ks end : List TokenKind) → subset ks end ≡ true → apart ws end ≡ true → apart ws ks ≡ true
apart_less [] ks end s h = refl
apart_less (w ∷ ws) ks end s h =
    let split = and_split (not (has end w)) (apart ws end) h in
    and_both (not (has ks w)) (apart ws ks) (true_not (has ks w) (unhas ks end w s (not_false (has end w) split.0))) (apart_less ws ks end s split.1)

subset_chain : (xs ys zs : List TokenKind) → subset xs ys ≡ true → subset ys zs ≡ true → subset xs zs ≡ true
subset_chain [] ys zs s t = refl
subset_chain (x ∷ xs) ys zs s t =
    let split = and_split (has ys x) (subset xs ys) s in
    and_both (has zs x) (subset xs zs) (subset_has ys zs x t split.0) (subset_chain xs ys zs split.1 t)

pub or_left : (a b : Bool) → a ≡ true → a || b ≡ true
or_left true b h = refl
or_left false b h = absurd cc

pub or_right : (a b : Bool) → b ≡ true → a || b ≡ true
or_right true b h = refl
or_right false b h = h

none_left : (a b : Bool) → a || b ≡ true → b ≡ false → a ≡ true
none_left true b h n = refl
none_left false b h n = absurd cc

-- what nothing of `end` follows, nothing of fewer kinds follows
pub closed_less : (e ks end : List TokenKind) (ex : Sort → Bool) (ys : List Symbol) → subset ks end ≡ true → closed e end no_sort ys ≡ true → closed e ks ex ys ≡ true
closed_less e ks end ex [] s h = subset_chain ks end e s h
closed_less e ks end ex (Mark kind ∷ ys) s h = true_not (has ks kind) (unhas ks end kind s (not_false (has end kind) h))
closed_less e ks end ex (Word ws ∷ ys) s h = apart_less ws ks end s h
closed_less e ks end ex (Checked c ∷ ys) s h = apart_less (checked_kinds c) ks end s h
closed_less e ks end ex (Expression p ∷ ys) s h = apart_less expression_kinds ks end s h
closed_less e ks end ex (Part n t ∷ ys) s h =
    let split = and_split (apart (begins t) end || false) (implies (lacks n) (closed e end no_sort ys)) h in
    and_both (apart (begins t) ks || ex t) (implies (lacks n) (closed e ks ex ys)) (or_left (apart (begins t) ks) (ex t) (apart_less (begins t) ks end s (none_left (apart (begins t) end) false split.0 refl)))
    (implying (lacks n) (closed e ks ex ys) (λ l. closed_less e ks end ex ys s (implied (lacks n) (closed e end no_sort ys) split.1 l)))

pub closed_append : (end ks : List TokenKind) (ex : Sort → Bool) (xs ys : List Symbol) → closed end ks ex xs ≡ true → closed [] end no_sort ys ≡ true → closed [] ks ex (xs ++ ys) ≡ true
closed_append end ks ex [] ys h i = closed_less [] ks end ex ys h i
closed_append end ks ex (Mark kind ∷ xs) ys h i = h
closed_append end ks ex (Word ws ∷ xs) ys h i = h
closed_append end ks ex (Checked c ∷ xs) ys h i = h
closed_append end ks ex (Expression p ∷ xs) ys h i = h
closed_append end ks ex (Part n t ∷ xs) ys h i =
    let split = and_split (apart (begins t) ks || ex t) (implies (lacks n) (closed end ks ex xs)) h in
    and_both (apart (begins t) ks || ex t) (implies (lacks n) (closed [] ks ex (xs ++ ys))) split.0
    (implying (lacks n) (closed [] ks ex (xs ++ ys)) (λ l. closed_append end ks ex xs ys (implied (lacks n) (closed end ks ex xs) split.1 l) i))

pub rest_append : (n : Need) (s : Sort) (xs ys : List Symbol) → rest n s xs ++ ys ≡ rest n s (xs ++ ys)
rest_append One s xs ys = refl
rest_append May s xs ys = refl
rest_append Many s xs ys = refl
rest_append Again s xs ys = refl

shuts_append : (end : List TokenKind) (x : Symbol) (xs ys : List Symbol) → shuts end x xs ≡ true → closed [] end no_sort ys ≡ true → shuts [] x (xs ++ ys) ≡ true
shuts_append end (Mark kind) xs ys h i = refl
shuts_append end (Word ws) xs ys h i = refl
shuts_append end (Checked c) xs ys h i = refl
shuts_append end (Expression p) xs ys h i = refl
shuts_append end (Part n s) xs ys h i =
    let split = and_split (closed end (goes s) no_sort (rest n s xs)) (implies (lacks n && not (dangles s)) (closed end (begins s) (excludes s) xs)) h in
    and_both (closed [] (goes s) no_sort (rest n s (xs ++ ys))) (implies (lacks n && not (dangles s)) (closed [] (begins s) (excludes s) (xs ++ ys)))
    (subst (λ zs. closed [] (goes s) no_sort zs ≡ true) (rest_append n s xs ys) (closed_append end (goes s) no_sort (rest n s xs) ys split.0 i))
    (implying (lacks n && not (dangles s)) (closed [] (begins s) (excludes s) (xs ++ ys)) (λ l. closed_append end (begins s) (excludes s) xs ys (implied (lacks n && not (dangles s)) (closed end (begins s) (excludes s) xs) split.1 l) i))

-- the four tests of a list
pub record AreFine (end : List TokenKind) (x : Symbol) (xs : List Symbol) : Type 0 where
  pub head : implies (open_end x) (head_ok xs) ≡ true
  pub repeated : repeats x ≡ true
  pub shut : shuts end x xs ≡ true
  pub others : fine end xs ≡ true

pub fine_split : (end : List TokenKind) (x : Symbol) (xs : List Symbol) → fine end (x ∷ xs) ≡ true → AreFine end x xs
fine_split end x xs h =
    let a = and_split (implies (open_end x) (head_ok xs)) (repeats x && (shuts end x xs && fine end xs)) h in
    let b = and_split (repeats x) (shuts end x xs && fine end xs) a.1 in
    let c = and_split (shuts end x xs) (fine end xs) b.1 in
    record { head = a.0; repeated = b.0; shut = c.0; others = c.1 }

fine_cons : (end : List TokenKind) (x : Symbol) (xs : List Symbol) → AreFine end x xs → fine end (x ∷ xs) ≡ true
fine_cons end x xs f =
    and_both (implies (open_end x) (head_ok xs)) (repeats x && (shuts end x xs && fine end xs)) f.head
    (and_both (repeats x) (shuts end x xs && fine end xs) f.repeated (and_both (shuts end x xs) (fine end xs) f.shut f.others))

head_append : (xs ys : List Symbol) → head_ok xs ≡ true → (all_lack xs ≡ true → head_ok ys ≡ true) → head_ok (xs ++ ys) ≡ true
head_append [] ys h o = o refl
head_append (Mark kind ∷ xs) ys h o = h
head_append (Word ks ∷ xs) ys h o = h
head_append (Checked c ∷ xs) ys h o = h
head_append (Expression p ∷ xs) ys h o = h
head_append (Part One s ∷ xs) ys h o = h
head_append (Part May s ∷ xs) ys h o = let split = and_split (mild s) (head_ok xs) h in and_both (mild s) (head_ok (xs ++ ys)) split.0 (head_append xs ys split.1 o)
head_append (Part Many s ∷ xs) ys h o = let split = and_split (mild s) (head_ok xs) h in and_both (mild s) (head_ok (xs ++ ys)) split.0 (head_append xs ys split.1 o)
head_append (Part Again s ∷ xs) ys h o = let split = and_split (mild s) (head_ok xs) h in and_both (mild s) (head_ok (xs ++ ys)) split.0 (head_append xs ys split.1 o)

pub fine_append : (end : List TokenKind) (xs ys : List Symbol) → fine end xs ≡ true → (ends_open xs ≡ true → head_ok ys ≡ true) → closed [] end no_sort ys ≡ true → fine [] ys ≡ true → fine [] (xs ++ ys) ≡ true
fine_append end [] ys h o i j = j
fine_append end (x ∷ xs) ys h o i j =
    let split = fine_split end x xs h in
    fine_cons [] x (xs ++ ys) (record {
      head = implying (open_end x) (head_ok (xs ++ ys)) (λ e. head_append xs ys (implied (open_end x) (head_ok xs) split.head e) (λ l. o (or_left (open_end x && all_lack xs) (ends_open xs) (and_both (open_end x) (all_lack xs) e l))));
      repeated = split.repeated;
      shut = shuts_append end x xs ys split.shut i;
      others = fine_append end xs ys split.others (λ e. o (or_right (open_end x && all_lack xs) (ends_open xs) e)) i j;
    })

-- ---- a production in place of its part

-- a repeated part in the middle of its turns
fine_again : (s : Sort) (xs : List Symbol) → fine [] (Part Many s ∷ xs) ≡ true → fine [] (Part Again s ∷ xs) ≡ true
fine_again s xs h = h

head_again : (s : Sort) (xs : List Symbol) → fine [] (Part Again s ∷ xs) ≡ true → tails s || dangles s ≡ true → head_ok (Part Again s ∷ xs) ≡ true
head_again s xs h t =
    let split = fine_split [] (Part Again s) xs h in
    and_both (mild s) (head_ok xs) (implied (tails s || dangles s) (mild s) split.repeated t) (implied (tails s || dangles s) (head_ok xs) split.head t)

pub head_of_rest : (n : Need) (s : Sort) (xs : List Symbol) → fine [] (Part n s ∷ xs) ≡ true → tails s ≡ true → head_ok (rest n s xs) ≡ true
head_of_rest One s xs h t = implied (tails s) (head_ok xs) (fine_split [] (Part One s) xs h).head t
head_of_rest May s xs h t = implied (tails s || dangles s) (head_ok xs) (fine_split [] (Part May s) xs h).head (or_left (tails s) (dangles s) t)
head_of_rest Many s xs h t = head_again s xs h (or_left (tails s) (dangles s) t)
head_of_rest Again s xs h t = head_again s xs h (or_left (tails s) (dangles s) t)

pub fine_rest : (n : Need) (s : Sort) (xs : List Symbol) → fine [] (Part n s ∷ xs) ≡ true → fine [] (rest n s xs) ≡ true
fine_rest One s xs h = (fine_split [] (Part One s) xs h).others
fine_rest May s xs h = (fine_split [] (Part May s) xs h).others
fine_rest Many s xs h = fine_again s xs h
fine_rest Again s xs h = h

-- what is asked of a production, taken apart
pub record IsFineRule (r : Rule) : Type 0 where
  pub symbols_fine : fine (goes (sort_of r)) (symbols r) ≡ true
  pub open_ended : implies (ends_open (symbols r)) (tails (sort_of r)) ≡ true
  pub led : leads (begins (sort_of r)) (symbols r) ≡ true

fine_rule : (r : Rule) → IsFineRule r
fine_rule r =
    let a = and_split (fine (goes (sort_of r)) (symbols r)) (implies (ends_open (symbols r)) (tails (sort_of r)) && leads (begins (sort_of r)) (symbols r)) (rule_ok r) in
    let b = and_split (implies (ends_open (symbols r)) (tails (sort_of r))) (leads (begins (sort_of r)) (symbols r)) a.1 in
    record { symbols_fine = a.0; open_ended = b.0; led = b.1 }

pub fine_within : (n : Need) (r : Rule) (xs : List Symbol) → fine [] (Part n (sort_of r) ∷ xs) ≡ true → fine [] (symbols r ++ rest n (sort_of r) xs) ≡ true
fine_within n r xs h =
    let s = sort_of r in
    let f = fine_rule r in
    let c = and_split (closed [] (goes s) no_sort (rest n s xs)) (implies (lacks n && not (dangles s)) (closed [] (begins s) (excludes s) xs)) (fine_split [] (Part n s) xs h).shut in
    fine_append (goes s) (symbols r) (rest n s xs) f.symbols_fine (λ e. head_of_rest n s xs h (implied (ends_open (symbols r)) (tails s) f.open_ended e)) c.0 (fine_rest n s xs h)

pub leads_of : (r : Rule) → leads (begins (sort_of r)) (symbols r) ≡ true
leads_of r = (fine_rule r).led

-- ---- what ends open

all_append : (xs ys : List Symbol) → all_lack (xs ++ ys) ≡ true → (all_lack xs ≡ true) × (all_lack ys ≡ true)
all_append [] ys h = (refl, h)
all_append (Part n s ∷ xs) ys h =
    let split = and_split (lacks n) (all_lack (xs ++ ys)) h in
    let more = all_append xs ys split.1 in
    (and_both (lacks n) (all_lack xs) split.0 more.0, more.1)
all_append (Mark kind ∷ xs) ys h = absurd cc
all_append (Word ws ∷ xs) ys h = absurd cc
all_append (Checked c ∷ xs) ys h = absurd cc
all_append (Expression p ∷ xs) ys h = absurd cc

ends_append : (xs ys : List Symbol) → ends_open (xs ++ ys) ≡ true → ((ends_open xs ≡ true) × (all_lack ys ≡ true)) ⊎ (ends_open ys ≡ true)
ends_append [] ys h = inr h
ends_append (x ∷ xs) ys h = elim (or_split (open_end x && all_lack (xs ++ ys)) (ends_open (xs ++ ys)) h) [
  | inl here ↦
      let split = and_split (open_end x) (all_lack (xs ++ ys)) here in
      let lacking = all_append xs ys split.1 in
      inl (or_left (open_end x && all_lack xs) (ends_open xs) (and_both (open_end x) (all_lack xs) split.0 lacking.0), lacking.1)
  | inr later ↦ elim (ends_append xs ys later) [ inl w ↦ inl (or_right (open_end x && all_lack xs) (ends_open xs) w.0, w.1) | inr w ↦ inr w ]
]

ends_tail : (n : Need) (s : Sort) (xs : List Symbol) → tails s ≡ true → all_lack (rest n s xs) ≡ true → ends_open (Part n s ∷ xs) ≡ true
ends_tail One s xs t l = or_left (tails s && all_lack xs) (ends_open xs) (and_both (tails s) (all_lack xs) t l)
ends_tail May s xs t l = or_left ((tails s || dangles s) && all_lack xs) (ends_open xs) (and_both (tails s || dangles s) (all_lack xs) (or_left (tails s) (dangles s) t) l)
ends_tail Many s xs t l = or_left ((tails s || dangles s) && all_lack xs) (ends_open xs) (and_both (tails s || dangles s) (all_lack xs) (or_left (tails s) (dangles s) t) l)
ends_tail Again s xs t l = or_left ((tails s || dangles s) && all_lack xs) (ends_open xs) (and_both (tails s || dangles s) (all_lack xs) (or_left (tails s) (dangles s) t) l)

ends_rest : (n : Need) (s : Sort) (xs : List Symbol) → ends_open (rest n s xs) ≡ true → ends_open (Part n s ∷ xs) ≡ true
ends_rest One s xs h = or_right (tails s && all_lack xs) (ends_open xs) h
ends_rest May s xs h = or_right ((tails s || dangles s) && all_lack xs) (ends_open xs) h
ends_rest Many s xs h = h
ends_rest Again s xs h = h

-- A production in place of its part ends open where its part does.
pub ends_within : (n : Need) (r : Rule) (xs : List Symbol) → ends_open (symbols r ++ rest n (sort_of r) xs) ≡ true → ends_open (Part n (sort_of r) ∷ xs) ≡ true
ends_within n r xs h = elim (ends_append (symbols r) (rest n (sort_of r) xs) h) [
  | inl w ↦ ends_tail n (sort_of r) xs (implied (ends_open (symbols r)) (tails (sort_of r)) (fine_rule r).open_ended w.0) w.1
  | inr w ↦ ends_rest n (sort_of r) xs w
]

-- a part that lacks, and that such a token could begin
pub dangling_open : (n : Need) (s : Sort) → lacks n ≡ true → dangles s ≡ true → open_end (Part n s) ≡ true
dangling_open One s l d = absurd cc
dangling_open May s l d = or_right (tails s) (dangles s) d
dangling_open Many s l d = or_right (tails s) (dangles s) d
dangling_open Again s l d = or_right (tails s) (dangles s) d
