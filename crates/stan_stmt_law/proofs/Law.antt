-- The law of the grammar: what any tree spells, where no token follows that goes on with it, the greedy tree spells, and it takes more.
use Rattle.std.proofs.Common.{◌≡◌, ℕ, zero, suc, ◌+◌, ◌≤◌, ◌<◌, Bool, true, false, List, [], ◌∷◌, ◌++◌, Option, Some, None, refl, sym, ap, ap₂, subst, ◌∙◌, ◌⊎◌, inl, inr, arith, ◌&&◌, true≢false}
use Rattle.std.specs.Prelude.{not, ◌||◌}
use Rattle.stan_model_grammar.specs.declared.token.TokenKind.{TokenKind}
use Rattle.stan_model_grammar.specs.declared.token.Token.{Token}
use Rattle.stan_model_statements.specs.Kinds.{has}
use Rattle.stan_model_grammar.specs.Strata.{kind_at}
use Rattle.stan_model_grammar.specs.Expressions.{Is, Stands}
use Rattle.stan_model_statements.specs.Symbols.{Sort, Need, Check, One, May, Many, Again, Symbol, Mark, Word, Checked, Expression, Part, lacks, rest}
use Rattle.stan_model_statements.specs.Rules.{Rule, symbols, sort_of}
use Rattle.stan_stmt_rules.specs.Ahead.{expression_kinds, begins, pick, Next, owner, dangles, leads_on}
use Rattle.stan_model_grammar.specs.Trees.{Tree}
use Rattle.stan_model_statements.specs.Forests.{Forest, nil, mark, word, expr, none, some}
use Rattle.stan_model_statements.specs.Grammar.{checked_kinds, Holds, Runs, Any}
use Rattle.stan_model_grammar.specs.Strata.{loosest}
use Rattle.stan_model_grammar.specs.Takes.{size as tree_size, takes as tree_takes, More}
use Rattle.stan_model_statements.specs.Takes.{size, repeated_size, takes}
use Rattle.stan_stmt_law.proofs.Words.{implies, and_split, or_split, apart, apart_has, subset_has, and_both, implied, truth, clash, some_is, see, not_false, one_token, stands_kind}
use Rattle.stan_stmt_law.proofs.Checks.{closed, goes, tails, no_sort, excludes, fine, shuts, head_ok, mild, all_lack, ends_open, fine_split, fine_within, ends_within, dangling_open, true_not, owned, owned_by, quiet, open_end, or_left, or_right}
use Rattle.stan_stmt_law.proofs.Tables.{starts_has, picked_begins, picked_sort, quiet_owner, quiet_picked, dangling_owner, excluded}
use Rattle.stan_stmt_law.proofs.Runs.{join, inv_nil, inv_mark, inv_word, inv_checked, inv_expr, inv_part, append, split, cut, AreExpressions, taken, rises, rule_begins, rule_takes}
use Rattle.stan_stmt_law.proofs.Places.{tail, behind_items, Before, before_self, before_chain, before_tail, before_once, before_drop, places, head_place, fronts, end_is}
use Rattle.stan_stmt_law.proofs.Decided.{decided}
use Rattle.stan_stmt_law.proofs.Exceeds.{NoLess, Exceeds, plain, exceeds_more, exceeds_split}

-- ---- how large a forest is, as the law goes over it

abbrev pub count : Forest → ℕ
count nil = 0
count (mark f) = 1 + count f
count (word t f) = 1 + count f
count (expr e f) = 1 + count f
count (none f) = 1 + count f
count (some r ps f) = 3 + count ps + count f

count_join : (f g : Forest) → count (join f g) ≡ count f + count g
count_join nil g = omega arith
count_join (mark f) g = omega (arith, count_join f g)
count_join (word t f) g = omega (arith, count_join f g)
count_join (expr e f) g = omega (arith, count_join f g)
count_join (none f) g = omega (arith, count_join f g)
count_join (some r ps f) g = omega (arith, count_join f g)

none_owned : (o : Option Rule) → owned_by o ≡ false → o ≡ None
none_owned None h = refl
none_owned (Some r) h = absurd cc

-- what is left of a repeated part that ends
abbrev lacking : Need → Forest → Forest
lacking Many f = none f
lacking Again f = none f
lacking n f = f

module _ (ts : List Token) (named : Token → Bool) (X Y : Bool → Tree → ℕ → ℕ → Type 0) (behind : ℕ → TokenKind) (exs : AreExpressions ts X Y behind) where
  -- any tree, and the greedy one
  abbrev pub L : List Symbol → Forest → ℕ → ℕ → Type 0
  L = Runs ts named X Any

  abbrev pub G : List Symbol → Forest → ℕ → ℕ → Type 0
  G = Runs ts named Y (Next ts behind)

  abbrev places_of : List Symbol → Forest → ℕ → List ℕ
  places_of = places

  pub begun : (p : Bool) (e : Tree) (at b : ℕ) → X p e at b → (at < b) × (has expression_kinds (kind_at ts at) ≡ true)
  begun p e at b h = (exs.some p e at b h, starts_has (kind_at ts at) (kind_at ts (at + 1)) (kind_at ts (at + 2)) (exs.starting p e at b h))

  pub y_sized : (p : Bool) (e : Tree) (at b : ℕ) → Y p e at b → b ≡ at + tree_size e
  y_sized p e at b h = exs.sized p e at b (exs.plain p e at b h)

  pub y_begun : (p : Bool) (e : Tree) (at b : ℕ) → Y p e at b → (at < b) × (has expression_kinds (kind_at ts at) ≡ true)
  y_begun p e at b h = begun p e at b (exs.plain p e at b h)

  -- ---- one greedy tree

  pub one_run : (xs : List Symbol) (f g : Forest) (at to end : ℕ) → G xs f at to → G xs g at end → (f ≡ g) × (to ≡ end)
  one_run [] nil g at to end h i = let v = inv_nil ts named Y (Next ts behind) g at end i in (sym v.0, sym h ∙ v.1)
  one_run (Mark kind ∷ xs) (mark f) g at to end h i =
      let v = inv_mark ts named Y (Next ts behind) kind xs g at end i in
      let r = one_run xs f v.0 (at + 1) to end h.1 v.3 in
      (ap mark r.0 ∙ sym v.1, r.1)
  one_run (Word ks ∷ xs) (word t f) g at to end h i =
      let v = inv_word ts named Y (Next ts behind) ks xs g at end i in
      let r = one_run xs f v.1 (at + 1) to end h.2 v.5 in
      (ap₂ word (one_token ts at t v.0 h.0 v.3) r.0 ∙ sym v.2, r.1)
  one_run (Checked c ∷ xs) (word t f) g at to end h i =
      let v = inv_checked ts named Y (Next ts behind) c xs g at end i in
      let r = one_run xs f v.1 (at + 1) to end h.3 v.6 in
      (ap₂ word (one_token ts at t v.0 h.0 v.3) r.0 ∙ sym v.2, r.1)
  one_run (Expression p ∷ xs) (expr e f) g at to end h i =
      let v = inv_expr ts named Y (Next ts behind) p xs g at end i in
      let o = exs.one p e v.0 at h.0 v.3 h.1 v.4 in
      let r = one_run xs f v.1 h.0 to end h.2 (subst (λ b. G xs v.1 b end) (sym o.1) v.5) in
      (ap₂ expr o.0 r.0 ∙ sym v.2, r.1)
  one_run (Part n s ∷ xs) (none f) g at to end h i = elim (inv_part ts named Y (Next ts behind) n s xs g at end i) [
    | inl v ↦ let r = one_run xs f v.0 at to end h.2 v.4 in (ap none r.0 ∙ sym v.1, r.1)
    | inr v ↦ absurd (let a = h.1 in let b = v.6 in cc)
  ]
  one_run (Part n s ∷ xs) (some r ps f) g at to end h i = elim (inv_part ts named Y (Next ts behind) n s xs g at end i) [
    | inl v ↦ absurd (let a = h.2 in let b = v.3 in cc)
    | inr v ↦
        let same : r ≡ v.0 = some_is r v.0 (sym h.2 ∙ v.6) in
        let p = one_run (symbols r) ps v.1 at h.0 v.3 h.3 (subst (λ q. G (symbols q) v.1 at v.3) (sym same) v.7) in
        let o = one_run (rest n s xs) f v.2 h.0 to end h.4 (subst (λ b. G (rest n s xs) v.2 b end) (sym p.1) v.8) in
        (ap (λ q. some q ps f) same ∙ ap₂ (some v.0) p.0 o.0 ∙ sym v.4, o.1)
  ]
  one_run xs f g at to end h i = absurd h

  -- ---- a part that a token goes on with, taken out of what follows

  abbrev pub Ended : ℕ → Type 0
  Ended to = owner (kind_at ts to) ≡ None

  -- Where symbols may end with a part that lacks and that a token could go on with, none follows.
  abbrev pub Settled : List Symbol → ℕ → Type 0
  Settled xs to = ends_open xs ≡ true → Ended to

  settled_behind : (x : Symbol) (xs : List Symbol) (to : ℕ) → Settled (x ∷ xs) to → Settled xs to
  settled_behind x xs to e o = e (or_right (open_end x && all_lack xs) (ends_open xs) o)

  settled_within : (n : Need) (r : Rule) (s : Sort) (xs : List Symbol) (to : ℕ) → sort_of r ≡ s → Settled (Part n s ∷ xs) to → Settled (symbols r ++ rest n s xs) to
  settled_within n r s xs to is e o = e (subst (λ z. ends_open (Part n z ∷ xs) ≡ true) is (ends_within n r xs (subst (λ z. ends_open (symbols r ++ rest n z xs) ≡ true) (sym is) o)))

  settled_lack : (n : Need) (s : Sort) (xs : List Symbol) (to : ℕ) → lacks n ≡ true → dangles s ≡ true → Settled (Part n s ∷ xs) to → all_lack xs ≡ true → Ended to
  settled_lack n s xs to l d e a = e (or_left (open_end (Part n s) && all_lack xs) (ends_open xs) (and_both (open_end (Part n s)) (all_lack xs) (dangling_open n s l d) a))

  abbrev TakenOut : Rule → List Symbol → Forest → ℕ → ℕ → Type 0
  TakenOut q xs f at to = (ps g : Forest) × (b : ℕ) × L (symbols q) ps at b × L xs g b to × Before (places_of xs f at) (places_of xs g b) × (count ps + count g + 2 ≤ count f)

  -- a part that a token begins that goes on is the one that it goes on with
  dangling_here : (q r : Rule) (s : Sort) (at : ℕ) → owner (kind_at ts at) ≡ Some q → mild s ≡ true → Next ts behind s at (Some r) → r ≡ q
  dangling_here q r s at o m p = elim (or_split (dangles s) (quiet (begins s)) (and_split (not (leads_on s)) (dangles s || quiet (begins s)) m).1) [
    | inl d ↦ some_is r q (sym (dangling_owner s (kind_at ts at) (kind_at ts (at + 1)) (kind_at ts (at + 2)) (behind at) r d p) ∙ o)
    | inr d ↦ absurd (let e = quiet_picked s (kind_at ts at) (kind_at ts (at + 1)) (kind_at ts (at + 2)) (behind at) r d p in cc)
  ]

  unowned_is : (kind : TokenKind) → owned kind ≡ false → owner kind ≡ None
  unowned_is kind h = none_owned (owner kind) h

  open_head : (n : Need) (s : Sort) (xs : List Symbol) → lacks n ≡ true → dangles s ≡ true → implies (open_end (Part n s)) (head_ok xs) ≡ true → head_ok xs ≡ true
  open_head One s xs l d h = absurd (true≢false (sym l))
  open_head May s xs l d h = implied (tails s || dangles s) (head_ok xs) h (or_right (tails s) (dangles s) d)
  open_head Many s xs l d h = implied (tails s || dangles s) (head_ok xs) h (or_right (tails s) (dangles s) d)
  open_head Again s xs l d h = implied (tails s || dangles s) (head_ok xs) h (or_right (tails s) (dangles s) d)

  -- what may lack at the head may be followed by such a token too
  lacking_head : (n : Need) (s : Sort) (xs : List Symbol) → lacks n ≡ true → head_ok (Part n s ∷ xs) ≡ true → (mild s ≡ true) × (head_ok xs ≡ true)
  lacking_head One s xs l h = absurd (true≢false (sym l))
  lacking_head May s xs l h = and_split (mild s) (head_ok xs) h
  lacking_head Many s xs l h = and_split (mild s) (head_ok xs) h
  lacking_head Again s xs l h = and_split (mild s) (head_ok xs) h

  -- a repeated part in the middle of its turns is one
  again_many : (s : Sort) (xs : List Symbol) (f : Forest) (at to : ℕ) → L (Part Again s ∷ xs) f at to → L (Part Many s ∷ xs) f at to
  again_many s xs (none f) at to h = h
  again_many s xs (some r ps f) at to h = h
  again_many s xs f at to h = absurd h

  places_many : (s : Sort) (xs : List Symbol) (f : Forest) (at : ℕ) → places_of (Part Many s ∷ xs) f at ≡ places_of (Part Again s ∷ xs) f at
  places_many s xs (none f) at = refl
  places_many s xs (some r ps f) at = refl
  places_many s xs f at = refl

  took : (q r : Rule) → r ≡ q → (n : Need) (s : Sort) (xs : List Symbol) (ps f : Forest) (at b to : ℕ) → lacks n ≡ true → L (symbols r) ps at b → L (rest n s xs) f b to → TakenOut q (Part n s ∷ xs) (some r ps f) at to
  took q r e One s xs ps f at b to l h i = absurd cc
  took q r e May s xs ps f at b to l h i =
      let ends : b ≡ at + size ps = taken ts named X Any exs.sized begun (symbols r) ps at b h in (
        ps,
        none f,
        b,
        subst (λ z. L (symbols z) ps at b) e h,
        (refl, tt, i),
        (rises ts named X Any exs.sized begun (symbols r) ps at b h, subst (λ z. Before (places_of xs f z) (places_of xs f b)) ends (before_self (places_of xs f b))),
        omega arith,
      )
  took q r e Many s xs ps f at b to l h i =
      let ends : b ≡ at + size ps = taken ts named X Any exs.sized begun (symbols r) ps at b h in
      let all = Part Again s ∷ xs in (
        ps,
        f,
        b,
        subst (λ z. L (symbols z) ps at b) e h,
        again_many s xs f b to i,
        subst (λ zs. Before (at ∷ tail (places_of all f (at + size ps))) zs) (sym (places_many s xs f b ∙ head_place ts named X Any all f b to b i))
            (rises ts named X Any exs.sized begun (symbols r) ps at b h, subst (λ z. Before (tail (places_of all f z)) (tail (places_of all f b))) ends (before_self (tail (places_of all f b)))),
        omega arith,
      )
  took q r e Again s xs ps f at b to l h i =
      let ends : b ≡ at + size ps = taken ts named X Any exs.sized begun (symbols r) ps at b h in
      let all = Part Again s ∷ xs in (
        ps,
        f,
        b,
        subst (λ z. L (symbols z) ps at b) e h,
        i,
        subst (λ zs. Before (at ∷ tail (places_of all f (at + size ps))) zs) (sym (head_place ts named X Any all f b to b i))
            (rises ts named X Any exs.sized begun (symbols r) ps at b h, subst (λ z. Before (tail (places_of all f z)) (tail (places_of all f b))) ends (before_self (tail (places_of all f b)))),
        omega arith,
      )

  -- the part there is the one that the token goes on with
  owner_here : (q r : Rule) (n : Need) (s : Sort) (xs : List Symbol) (at : ℕ) → owner (kind_at ts at) ≡ Some q → head_ok (Part n s ∷ xs) ≡ true → Next ts behind s at (Some r) → (lacks n ≡ true) × (r ≡ q)
  owner_here q r One s xs at o h p =
      let no = and_split (not (dangles s)) (quiet (begins s)) (and_split (not (leads_on s)) (not (dangles s) && quiet (begins s)) h).1 in
      absurd (let e = quiet_picked s (kind_at ts at) (kind_at ts (at + 1)) (kind_at ts (at + 2)) (behind at) r no.1 p in cc)
  owner_here q r May s xs at o h p = (refl, dangling_here q r s at o (lacking_head May s xs refl h).0 p)
  owner_here q r Many s xs at o h p = (refl, dangling_here q r s at o (lacking_head Many s xs refl h).0 p)
  owner_here q r Again s xs at o h p = (refl, dangling_here q r s at o (lacking_head Again s xs refl h).0 p)

  -- The part is taken out of what follows, unless nothing follows.
  take_out : (q : Rule) (xs : List Symbol) (f : Forest) (at to : ℕ) → owner (kind_at ts at) ≡ Some q → fine [] xs ≡ true → head_ok xs ≡ true → L xs f at to → ((to ≡ at) × (all_lack xs ≡ true)) ⊎ TakenOut q xs f at to
  take_out q [] nil at to o fi h r = inl (sym r, refl)
  take_out q (Mark kind ∷ xs) (mark f) at to o fi h r = absurd (let w = unowned_is kind (not_false (owned kind) h) in let v : owner (kind_at ts at) ≡ owner kind = ap owner r.0 in cc)
  take_out q (Word ks ∷ xs) (word t f) at to o fi h r = absurd (let w = quiet_owner ks t.kind h r.1 in let v : owner (kind_at ts at) ≡ owner t.kind = ap owner (stands_kind ts at t r.0) in cc)
  take_out q (Checked c ∷ xs) (word t f) at to o fi h r = absurd (let w = quiet_owner (checked_kinds c) t.kind h r.1 in let v : owner (kind_at ts at) ≡ owner t.kind = ap owner (stands_kind ts at t r.0) in cc)
  take_out q (Expression p ∷ xs) (expr d f) at to o fi h r = absurd (let w = quiet_owner expression_kinds (kind_at ts at) refl (begun p d at r.0 r.1).1 in cc)
  take_out q (Part n s ∷ xs) (none f) at to o fi h r =
      let split = fine_split [] (Part n s) xs fi in
      elim (take_out q xs f at to o split.others (lacking_head n s xs r.0 h).1 r.2) [
        | inl e ↦ inl (e.0, and_both (lacks n) (all_lack xs) r.0 e.1)
        | inr out ↦ inr (out.0, none out.1, out.2, out.3, (r.0, tt, out.4), (rises ts named X Any exs.sized begun (symbols q) out.0 at out.2 out.3, out.5), omega (arith, out.6))
      ]
  take_out q (Part n s ∷ xs) (some p ps f) at to o fi h r =
      let here = owner_here q p n s xs at o h (subst (λ z. Next ts behind z at (Some p)) r.1 (decided ts named X behind exs.starting exs.ending exs.sized begun p ps at r.0 r.3)) in
      inr (took q p here.1 n s xs ps f at r.0 to here.0 r.3 r.4)
  take_out q xs f at to o fi h r = absurd r

  taken_out : (q : Rule) (xs : List Symbol) (f : Forest) (at to : ℕ) → owner (kind_at ts at) ≡ Some q → (all_lack xs ≡ true → Ended to) → ((to ≡ at) × (all_lack xs ≡ true)) ⊎ TakenOut q xs f at to → TakenOut q xs f at to
  taken_out q xs f at to o e (inl same) = absurd (let w : owner (kind_at ts at) ≡ None = subst Ended same.0 (e same.1) in cc)
  taken_out q xs f at to o e (inr out) = out

  -- what follows does not begin with a token of these kinds
  closed_off : (ks : List TokenKind) (ex : Sort → Bool) (xs : List Symbol) (f : Forest) (at to : ℕ) → ((t : Sort) (r : Rule) → ex t ≡ true → Next ts behind t at (Some r) → ⊥)
      → closed [] ks ex xs ≡ true → has ks (kind_at ts at) ≡ true → L xs f at to → ⊥
  closed_off ks ex [] f at to x c y h = let e = subset_has ks [] (kind_at ts at) c y in absurd cc
  closed_off ks ex (Mark kind ∷ xs) (mark f) at to x c y h = clash (has ks kind) (subst (λ z. has ks z ≡ true) h.0 y) (not_false (has ks kind) c)
  closed_off ks ex (Word ws ∷ xs) (word t f) at to x c y h = clash (has ks t.kind) (subst (λ z. has ks z ≡ true) (stands_kind ts at t h.0) y) (apart_has ws ks t.kind c h.1)
  closed_off ks ex (Checked c ∷ xs) (word t f) at to x d y h = clash (has ks t.kind) (subst (λ z. has ks z ≡ true) (stands_kind ts at t h.0) y) (apart_has (checked_kinds c) ks t.kind d h.1)
  closed_off ks ex (Expression p ∷ xs) (expr e f) at to x c y h = clash (has ks (kind_at ts at)) y (apart_has expression_kinds ks (kind_at ts at) c (begun p e at h.0 h.1).1)
  closed_off ks ex (Part n s ∷ xs) (none f) at to x c y h =
      closed_off ks ex xs f at to x (implied (lacks n) (closed [] ks ex xs) (and_split (apart (begins s) ks || ex s) (implies (lacks n) (closed [] ks ex xs)) c).1 h.0) y h.2
  closed_off ks ex (Part n s ∷ xs) (some r ps f) at to x c y h = elim (or_split (apart (begins s) ks) (ex s) (and_split (apart (begins s) ks || ex s) (implies (lacks n) (closed [] ks ex xs)) c).0) [
    | inl a ↦ clash (has ks (kind_at ts at)) y (apart_has (begins s) ks (kind_at ts at) a (subst (λ z. has (begins z) (kind_at ts at) ≡ true) h.1 (rule_begins ts named X Any exs.sized begun r ps at h.0 h.3)))
    | inr e ↦ x s r e (subst (λ z. Next ts behind z at (Some r)) h.1 (decided ts named X behind exs.starting exs.ending exs.sized begun r ps at h.0 h.3))
  ]
  closed_off ks ex xs f at to x c y h = absurd h

  -- a part that could stand there, and lacks, is one that may belong to several statements
  owning : (n : Need) (s : Sort) (xs : List Symbol) (f : Forest) (at to : ℕ) (q : Rule) → lacks n ≡ true → shuts [] (Part n s) xs ≡ true → L xs f at to → Next ts behind s at (Some q) → (dangles s ≡ true) × (owner (kind_at ts at) ≡ Some q)
  owning n s xs f at to q l sh h p = elim (truth (dangles s)) [
    | inl d ↦ (d, dangling_owner s (kind_at ts at) (kind_at ts (at + 1)) (kind_at ts (at + 2)) (behind at) q d p)
    | inr d ↦
        let tests = and_split (closed [] (goes s) no_sort (rest n s xs)) (implies (lacks n && not (dangles s)) (closed [] (begins s) (excludes s) xs)) sh in
        let both = and_both (lacks n) (not (dangles s)) l (true_not (dangles s) d) in
        absurd (closed_off (begins s) (excludes s) xs f at to (λ t r x i. let none_here = excluded s t (kind_at ts at) (kind_at ts (at + 1)) (kind_at ts (at + 2)) (behind at) r x i in absurd cc)
        (implied (lacks n && not (dangles s)) (closed [] (begins s) (excludes s) xs) tests.1 both)
        (picked_begins s (kind_at ts at) (kind_at ts (at + 1)) (kind_at ts (at + 2)) (behind at) q p) h)
  ]

  -- ---- the law

  abbrev pub Better : List Symbol → Forest → ℕ → ℕ → Type 0
  Better xs f at to = (g : Forest) × G xs g at to × Before (places_of xs f at) (places_of xs g at) × Exceeds xs g f

  abbrev pub Lawful : List Symbol → Forest → ℕ → ℕ → Type 0
  Lawful xs f at to = G xs f at to ⊎ Better xs f at to

  reached : (xs : List Symbol) (f : Forest) (at to : ℕ) → Lawful xs f at to → (g : Forest) × G xs g at to × Before (places_of xs f at) (places_of xs g at)
  reached xs f at to (inl g) = (f, g, before_self (places_of xs f at))
  reached xs f at to (inr b) = (b.0, b.1, b.2)

  ends_rise : (s : Sort) (xs : List Symbol) (ps f p g : Forest) (at b c to end : ℕ) → L (Part Again s ∷ xs) f b to → G (Part Again s ∷ xs) g c end
      → Before (places_of (Part Again s ∷ xs) f (at + size ps)) (places_of (Part Again s ∷ xs) g (at + size p)) → size ps + repeated_size f ≤ size p + repeated_size g
  ends_rise s xs ps f p g at b c to end h i before =
      let zs = Part Again s ∷ xs in
      let seconds : Before ((at + size ps + repeated_size f) ∷ tail (places_of xs (behind_items f) (at + size ps + repeated_size f))) ((at + size p + repeated_size g) ∷ tail (places_of xs (behind_items g) (at + size p + repeated_size g))) =
      subst (λ us. Before us ((at + size p + repeated_size g) ∷ tail (places_of xs (behind_items g) (at + size p + repeated_size g)))) (end_is ts named X Any s xs f b to (at + size ps) h)
      (subst (λ us. Before (tail (places_of zs f (at + size ps))) us) (end_is ts named Y (Next ts behind) s xs g c end (at + size p) i) (before_tail (places_of zs f (at + size ps)) (places_of zs g (at + size p)) before)) in
      omega (arith, seconds.0)

  -- what is ahead behind a part takes no less
  no_less : (n : Need) (s : Sort) (xs : List Symbol) (ps f p g : Forest) (at b c to end : ℕ) → L (rest n s xs) f b to → G (rest n s xs) g c end
      → Before (places_of (rest n s xs) f (at + size ps)) (places_of (rest n s xs) g (at + size p)) → NoLess n p g ps f
  no_less One s xs ps f p g at b c to end h i before = tt
  no_less May s xs ps f p g at b c to end h i before =
      let heads : Before ((at + size ps) ∷ tail (places_of xs f (at + size ps))) ((at + size p) ∷ tail (places_of xs g (at + size p))) =
      subst (λ zs. Before zs ((at + size p) ∷ tail (places_of xs g (at + size p)))) (head_place ts named X Any xs f b to (at + size ps) h)
      (subst (λ zs. Before (places_of xs f (at + size ps)) zs) (head_place ts named Y (Next ts behind) xs g c end (at + size p) i) before) in
      omega (arith, heads.0)
  no_less Many s xs ps f p g at b c to end h i before = ends_rise s xs ps f p g at b c to end h i before
  no_less Again s xs ps f p g at b c to end h i before = ends_rise s xs ps f p g at b c to end h i before

  -- a production in place of its part
  module _ (r : Rule) (n : Need) (s : Sort) (xs : List Symbol) (ps f : Forest) (at b to : ℕ) (is : sort_of r ≡ s) (next : Next ts behind s at (Some r)) (h : L (symbols r) ps at b) (i : L (rest n s xs) f b to) where
    within : Lawful (symbols r ++ rest n s xs) (join ps f) at to → Lawful (Part n s ∷ xs) (some r ps f) at to
    within (inl g) = let c = cut ts named X Y Any (Next ts behind) (symbols r) (rest n s xs) ps f at b at to h g in inl (c.0, is, next, c.1, c.2)
    within (inr w) =
        let q = split ts named Y (Next ts behind) (symbols r) (rest n s xs) w.0 at to w.1 in
        let p = q.0 in
        let g = q.1 in
        let c = q.2 in
        let ys = rest n s xs in
        let u = fronts ts named X Any (symbols r) ys ps f at b at h in
        let v = fronts ts named Y (Next ts behind) (symbols r) ys p g at c at q.4 in
        let ahead : Before (u.0 ++ places_of ys f (at + size ps)) (v.0 ++ places_of ys g (at + size p)) =
        subst (λ zs. Before zs (v.0 ++ places_of ys g (at + size p))) u.2
        (subst (λ zs. Before (places_of (symbols r ++ ys) (join ps f) at) zs) v.2 (subst (λ z. Before (places_of (symbols r ++ ys) (join ps f) at) (places_of (symbols r ++ ys) z at)) q.3 w.2)) in
        let left : Before (places_of ys f (at + size ps)) (places_of ys g (at + size p)) = before_drop u.0 v.0 (places_of ys f (at + size ps)) (places_of ys g (at + size p)) (u.1 ∙ sym v.1) ahead in
        let less = no_less n s xs ps f p g at b c to to i q.5 left in
        let more = exceeds_split ts named X Y Any (Next ts behind) (symbols r) p ps ys f g at c at b q.4 h (subst (λ z. Exceeds (symbols r ++ ys) z (join ps f)) q.3 w.3) in
        inr (some r p g, (c, is, next, q.4, q.5), (omega arith, before_once n (places_of ys f (at + size ps)) (places_of ys g (at + size p)) left), (refl, less, more))

  record MovedMore (q : Rule) (s : Sort) (xs : List Symbol) (f : Forest) (at to : ℕ) : Type 0 where
    piece : Forest
    others : Forest
    place : ℕ
    reads : G (symbols q) piece at place
    reads_on : G (Part Again s ∷ xs) others place to
    ahead : Before (places_of xs f at) (tail (places_of (Part Again s ∷ xs) others (at + size piece)))
    takes_one : 0 < size piece

  moved_more : (q : Rule) (s : Sort) (xs : List Symbol) (f ps g : Forest) (at b to : ℕ) → L (symbols q) ps at b → L xs g b to
      → Before (places_of xs f at) (places_of xs g b) → Lawful (symbols q ++ Part Again s ∷ xs) (join ps (none g)) at to → MovedMore q s xs f at to
  moved_more q s xs f ps g at b to h i before w =
      let zs = Part Again s ∷ xs in
      let all = reached (symbols q ++ zs) (join ps (none g)) at to w in
      let t = split ts named Y (Next ts behind) (symbols q) zs all.0 at to all.1 in
      let u = fronts ts named X Any (symbols q) zs ps (none g) at b at h in
      let v = fronts ts named Y (Next ts behind) (symbols q) zs t.0 t.1 at t.2 at t.4 in
      let ends : b ≡ at + size ps = taken ts named X Any exs.sized begun (symbols q) ps at b h in
      let ahead : Before (u.0 ++ places_of zs (none g) (at + size ps)) (v.0 ++ places_of zs t.1 (at + size t.0)) =
      subst (λ ys. Before ys (v.0 ++ places_of zs t.1 (at + size t.0))) u.2
      (subst (λ ys. Before (places_of (symbols q ++ zs) (join ps (none g)) at) ys) v.2 (subst (λ z. Before (places_of (symbols q ++ zs) (join ps (none g)) at) (places_of (symbols q ++ zs) z at)) t.3 all.2)) in
      let left : Before (places_of xs g (at + size ps)) (tail (places_of zs t.1 (at + size t.0))) = before_tail (places_of zs (none g) (at + size ps)) (places_of zs t.1 (at + size t.0)) (before_drop u.0 v.0 (places_of zs (none g) (at + size ps)) (places_of zs t.1 (at + size t.0)) (u.1 ∙ sym v.1) ahead) in
      let some_taken : at < t.2 = rule_takes ts named Y (Next ts behind) y_sized y_begun q t.0 at t.2 t.4 in
      let ending : t.2 ≡ at + size t.0 = taken ts named Y (Next ts behind) y_sized y_begun (symbols q) t.0 at t.2 t.4 in
      record {
        piece = t.0;
        others = t.1;
        place = t.2;
        reads = t.4;
        reads_on = t.5;
        ahead = before_chain (places_of xs f at) (places_of xs g b) (tail (places_of zs t.1 (at + size t.0))) before (subst (λ z. Before (places_of xs g z) (tail (places_of zs t.1 (at + size t.0)))) (sym ends) left);
        takes_one = omega arith;
      }

  -- a part that lacks, though a token goes on with it that stands there
  moved : (q : Rule) (n : Need) (s : Sort) (xs : List Symbol) (f ps g : Forest) (at b to : ℕ) → lacks n ≡ true → sort_of q ≡ s → Next ts behind s at (Some q) → L (symbols q) ps at b → L xs g b to
      → Before (places_of xs f at) (places_of xs g b) → Lawful (symbols q ++ rest n s xs) (join ps (lacking n g)) at to → Lawful (Part n s ∷ xs) (none f) at to
  moved q One s xs f ps g at b to l is next h i before w = absurd (true≢false (sym l))
  moved q May s xs f ps g at b to l is next h i before w =
      let all = reached (symbols q ++ xs) (join ps g) at to w in
      let t = split ts named Y (Next ts behind) (symbols q) xs all.0 at to all.1 in
      let u = fronts ts named X Any (symbols q) xs ps g at b at h in
      let v = fronts ts named Y (Next ts behind) (symbols q) xs t.0 t.1 at t.2 at t.4 in
      let ends : b ≡ at + size ps = taken ts named X Any exs.sized begun (symbols q) ps at b h in
      let ahead : Before (u.0 ++ places_of xs g (at + size ps)) (v.0 ++ places_of xs t.1 (at + size t.0)) =
      subst (λ zs. Before zs (v.0 ++ places_of xs t.1 (at + size t.0))) u.2
      (subst (λ zs. Before (places_of (symbols q ++ xs) (join ps g) at) zs) v.2 (subst (λ z. Before (places_of (symbols q ++ xs) (join ps g) at) (places_of (symbols q ++ xs) z at)) t.3 all.2)) in
      let left : Before (places_of xs g (at + size ps)) (places_of xs t.1 (at + size t.0)) = before_drop u.0 v.0 (places_of xs g (at + size ps)) (places_of xs t.1 (at + size t.0)) (u.1 ∙ sym v.1) ahead in
      let some_taken : at < t.2 = rule_takes ts named Y (Next ts behind) y_sized y_begun q t.0 at t.2 t.4 in
      let ending : t.2 ≡ at + size t.0 = taken ts named Y (Next ts behind) y_sized y_begun (symbols q) t.0 at t.2 t.4 in
      inr (some q t.0 t.1, (t.2, is, next, t.4, t.5), (omega arith, before_chain (places_of xs f at) (places_of xs g b) (places_of xs t.1 (at + size t.0)) before (subst (λ z. Before (places_of xs g z) (places_of xs t.1 (at + size t.0))) (sym ends) left)), (refl, omega arith))
  moved q Many s xs f ps g at b to l is next h i before w = let m = moved_more q s xs f ps g at b to h i before w in inr (some q m.piece m.others, (m.place, is, next, m.reads, m.reads_on), (omega arith, m.ahead), (refl, m.takes_one))
  moved q Again s xs f ps g at b to l is next h i before w = let m = moved_more q s xs f ps g at b to h i before w in inr (some q m.piece m.others, (m.place, is, next, m.reads, m.reads_on), (omega arith, m.ahead), (refl, m.takes_one))

  lacking_small : (n : Need) (f : Forest) → count (lacking n f) ≤ 1 + count f
  lacking_small One f = omega arith
  lacking_small May f = omega arith
  lacking_small Many f = omega arith
  lacking_small Again f = omega arith

  lacking_runs : (n : Need) (s : Sort) (xs : List Symbol) (f : Forest) (b to : ℕ) → lacks n ≡ true → L xs f b to → L (rest n s xs) (lacking n f) b to
  lacking_runs One s xs f b to l h = absurd (true≢false (sym l))
  lacking_runs May s xs f b to l h = h
  lacking_runs Many s xs f b to l h = (refl, tt, h)
  lacking_runs Again s xs f b to l h = (refl, tt, h)

  marked : (kind : TokenKind) (xs : List Symbol) (f : Forest) (at to : ℕ) → Is ts at kind → Lawful xs f (at + 1) to → Lawful (Mark kind ∷ xs) (mark f) at to
  marked kind xs f at to is (inl g) = inl (is, g)
  marked kind xs f at to is (inr w) = inr (mark w.0, (is, w.1), (omega arith, w.2), w.3)

  worded : (ks : List TokenKind) (xs : List Symbol) (t : Token) (f : Forest) (at to : ℕ) → Stands ts at t → has ks t.kind ≡ true → Lawful xs f (at + 1) to → Lawful (Word ks ∷ xs) (word t f) at to
  worded ks xs t f at to is of (inl g) = inl (is, of, g)
  worded ks xs t f at to is of (inr w) = inr (word t w.0, (is, of, w.1), (omega arith, w.2), (refl, w.3))

  checked : (c : Check) (xs : List Symbol) (t : Token) (f : Forest) (at to : ℕ) → Stands ts at t → has (checked_kinds c) t.kind ≡ true → Holds named c t (kind_at ts (at + 1)) → Lawful xs f (at + 1) to → Lawful (Checked c ∷ xs) (word t f) at to
  checked c xs t f at to is of holds (inl g) = inl (is, of, holds, g)
  checked c xs t f at to is of holds (inr w) = inr (word t w.0, (is, of, holds, w.1), (omega arith, w.2), (refl, w.3))

  spelled : (p : Bool) (xs : List Symbol) (e : Tree) (f : Forest) (at b to : ℕ) → X p e at b → Lawful xs f b to → Lawful (Expression p ∷ xs) (expr e f) at to
  spelled p xs e f at b to x w = spelled_by (exs.picked p e at b x) w
    where
      same_place : (g : Tree) → Y p g at b → at + tree_size g ≡ at + tree_size e
      same_place g y = sym (y_sized p g at b y) ∙ exs.sized p e at b x

      starts_at : b ≡ at + tree_size e
      starts_at = exs.sized p e at b x

      spelled_by : Y p e at b ⊎ ((g : Tree) × Y p g at b × More (tree_takes loosest g) (tree_takes loosest e)) → Lawful xs f b to → Lawful (Expression p ∷ xs) (expr e f) at to
      spelled_by (inl y) (inl g) = inl (b, y, g)
      spelled_by (inl y) (inr v) = inr (expr e v.0, (b, y, v.1), (omega arith, subst (λ z. Before (places_of xs f z) (places_of xs v.0 z)) starts_at v.2), inr (refl, v.3))
      spelled_by (inr d) (inl g) = inr (expr d.0 f, (b, d.1, g), (omega arith, subst (λ z. Before (places_of xs f (at + tree_size e)) (places_of xs f z)) (sym (same_place d.0 d.1)) (before_self (places_of xs f (at + tree_size e)))), inl d.2)
      spelled_by (inr d) (inr v) =
          inr (expr d.0 v.0, (b, d.1, v.1), (omega arith, subst (λ z. Before (places_of xs f (at + tree_size e)) (places_of xs v.0 z)) (sym (same_place d.0 d.1)) (subst (λ z. Before (places_of xs f z) (places_of xs v.0 z)) starts_at v.2)), inl d.2)

  lacked : (n : Need) (s : Sort) (xs : List Symbol) (f : Forest) (at to : ℕ) → lacks n ≡ true → Next ts behind s at None → Lawful xs f at to → Lawful (Part n s ∷ xs) (none f) at to
  lacked n s xs f at to l p (inl g) = inl (l, p, g)
  lacked n s xs f at to l p (inr w) = inr (none w.0, (l, p, w.1), (omega arith, w.2), w.3)

  pub law : (n : ℕ) (xs : List Symbol) (f : Forest) (at to : ℕ) → count f < n → fine [] xs ≡ true → Settled xs to → L xs f at to → Lawful xs f at to
  law zero xs f at to lt fi e h = absurd (omega (arith, lt))
  law (suc n) [] nil at to lt fi e h = inl h
  law (suc n) (Mark kind ∷ xs) (mark f) at to lt fi e h = marked kind xs f at to h.0 (law n xs f (at + 1) to (omega (arith, lt)) (fine_split [] (Mark kind) xs fi).others (settled_behind (Mark kind) xs to e) h.1)
  law (suc n) (Word ks ∷ xs) (word t f) at to lt fi e h = worded ks xs t f at to h.0 h.1 (law n xs f (at + 1) to (omega (arith, lt)) (fine_split [] (Word ks) xs fi).others (settled_behind (Word ks) xs to e) h.2)
  law (suc n) (Checked c ∷ xs) (word t f) at to lt fi e h = checked c xs t f at to h.0 h.1 h.2 (law n xs f (at + 1) to (omega (arith, lt)) (fine_split [] (Checked c) xs fi).others (settled_behind (Checked c) xs to e) h.3)
  law (suc n) (Expression p ∷ xs) (expr d f) at to lt fi e h = spelled p xs d f at h.0 to h.1 (law n xs f h.0 to (omega (arith, lt)) (fine_split [] (Expression p) xs fi).others (settled_behind (Expression p) xs to e) h.2)
  law (suc n) (Part m s ∷ xs) (some r ps f) at to lt fi e h =
      let next : Next ts behind s at (Some r) = subst (λ z. Next ts behind z at (Some r)) h.1 (decided ts named X behind exs.starting exs.ending exs.sized begun r ps at h.0 h.3) in
      within r m s xs ps f at h.0 to h.1 next h.3 h.4
      (law n (symbols r ++ rest m s xs) (join ps f) at to (omega (arith, lt, count_join ps f))
      (subst (λ z. fine [] (symbols r ++ rest m z xs) ≡ true) h.1 (fine_within m r xs (subst (λ z. fine [] (Part m z ∷ xs) ≡ true) (sym h.1) fi))) (settled_within m r s xs to h.1 e)
      (append ts named X Any (symbols r) (rest m s xs) ps f at h.0 to h.3 h.4))
  law (suc n) (Part m s ∷ xs) (none f) at to lt fi e h = elim (see (pick s (kind_at ts at) (kind_at ts (at + 1)) (kind_at ts (at + 2)) (behind at))) [
    | inl p ↦ lacked m s xs f at to h.0 p (law n xs f at to (omega (arith, lt)) (fine_split [] (Part m s) xs fi).others (settled_behind (Part m s) xs to e) h.2)
    | inr q ↦
        let is = picked_sort s (kind_at ts at) (kind_at ts (at + 1)) (kind_at ts (at + 2)) (behind at) q.0 q.1 in
        let parts = fine_split [] (Part m s) xs fi in
        let o = owning m s xs f at to q.0 h.0 parts.shut h.2 q.1 in
        let out = taken_out q.0 xs f at to o.1 (settled_lack m s xs to h.0 o.0 e) (take_out q.0 xs f at to o.1 parts.others (open_head m s xs h.0 o.0 parts.head) h.2) in
        moved q.0 m s xs f out.0 out.1 at out.2 to h.0 is q.1 out.3 out.4 out.5
        (law n (symbols q.0 ++ rest m s xs) (join out.0 (lacking m out.1)) at to (omega (arith, lt, count_join out.0 (lacking m out.1), lacking_small m out.1, out.6))
        (subst (λ z. fine [] (symbols q.0 ++ rest m z xs) ≡ true) is (fine_within m q.0 xs (subst (λ z. fine [] (Part m z ∷ xs) ≡ true) (sym is) fi))) (settled_within m q.0 s xs to is e)
        (append ts named X Any (symbols q.0) (rest m s xs) out.0 (lacking m out.1) at out.2 to out.3 (lacking_runs m s xs out.1 out.2 to h.0 out.4)))
  ]
  law (suc n) xs f at to lt fi e h = absurd h

  -- ---- the tree of the tokens

  pub loose : (xs : List Symbol) (f : Forest) (at to : ℕ) → G xs f at to → L xs f at to
  loose [] nil at to h = h
  loose (Mark kind ∷ xs) (mark f) at to h = (h.0, loose xs f (at + 1) to h.1)
  loose (Word ks ∷ xs) (word t f) at to h = (h.0, h.1, loose xs f (at + 1) to h.2)
  loose (Checked c ∷ xs) (word t f) at to h = (h.0, h.1, h.2, loose xs f (at + 1) to h.3)
  loose (Expression p ∷ xs) (expr e f) at to h = (h.0, exs.plain p e at h.0 h.1, loose xs f h.0 to h.2)
  loose (Part n s ∷ xs) (none f) at to h = (h.0, tt, loose xs f at to h.2)
  loose (Part n s ∷ xs) (some r ps f) at to h = (h.0, h.1, tt, loose (symbols r) ps at h.0 h.3, loose (rest n s xs) f h.0 to h.4)
  loose xs f at to h = absurd h

  -- Where no token follows that goes on, or none could, any tree shows that the tokens have a greedy one,
  pub some_greedy : (xs : List Symbol) (f : Forest) (at to : ℕ) → fine [] xs ≡ true → Settled xs to → L xs f at to → (g : Forest) × G xs g at to
  some_greedy xs f at to fi e h = let r = reached xs f at to (law (suc (count f)) xs f at to (omega arith) fi e h) in (r.0, r.1)

  -- and the greedy one is the tree of the tokens.
  pub greedy_takes_most : (xs : List Symbol) (f : Forest) (at to : ℕ) → plain xs ≡ true → fine [] xs ≡ true → Settled xs to → G xs f at to → (g : Forest) → L xs g at to → (f ≡ g) ⊎ More (takes xs f) (takes xs g)
  greedy_takes_most xs f at to pl fi e h g i = elim (law (suc (count g)) xs g at to (omega arith) fi e i) [
    | inl k ↦ inl (one_run xs f g at to to h k).0
    | inr w ↦ inr (subst (λ z. More (takes xs z) (takes xs g)) (one_run xs w.0 f at to to w.1 h).0 (exceeds_more xs w.0 g pl w.3))
  ]

  -- ---- nothing that is spelled is longer

  end_of : (p : Bool) (e d : Tree) (at b c : ℕ) → X p e at b → Y p d at c → b ≡ c
  end_of p e d at b c x y = elim (exs.picked p e at b x) [ inl z ↦ (exs.one p e d at b c z y).1 | inr w ↦ (exs.one p w.0 d at b c w.1 y).1 ]

  greedy_rises : (xs : List Symbol) (f : Forest) (at to : ℕ) → G xs f at to → at ≤ to
  greedy_rises = rises ts named Y (Next ts behind) y_sized y_begun

  pub longest : (n : ℕ) (xs : List Symbol) (f g : Forest) (at to end : ℕ) → count g < n → fine [] xs ≡ true → G xs f at to → L xs g at end → end ≤ to
  longest zero xs f g at to end lt fi h i = absurd (omega (arith, lt))
  longest (suc n) [] f nil at to end lt fi h i = omega (arith, (inv_nil ts named Y (Next ts behind) f at to h).1, i)
  longest (suc n) (Mark kind ∷ xs) f (mark g) at to end lt fi h i =
      let v = inv_mark ts named Y (Next ts behind) kind xs f at to h in
      longest n xs v.0 g (at + 1) to end (omega (arith, lt)) (fine_split [] (Mark kind) xs fi).others v.3 i.1
  longest (suc n) (Word ks ∷ xs) f (word t g) at to end lt fi h i =
      let v = inv_word ts named Y (Next ts behind) ks xs f at to h in
      longest n xs v.1 g (at + 1) to end (omega (arith, lt)) (fine_split [] (Word ks) xs fi).others v.5 i.2
  longest (suc n) (Checked c ∷ xs) f (word t g) at to end lt fi h i =
      let v = inv_checked ts named Y (Next ts behind) c xs f at to h in
      longest n xs v.1 g (at + 1) to end (omega (arith, lt)) (fine_split [] (Checked c) xs fi).others v.6 i.3
  longest (suc n) (Expression p ∷ xs) f (expr d g) at to end lt fi h i =
      let v = inv_expr ts named Y (Next ts behind) p xs f at to h in
      let place = end_of p d v.0 at i.0 v.3 i.1 v.4 in
      longest n xs v.1 g i.0 to end (omega (arith, lt)) (fine_split [] (Expression p) xs fi).others (subst (λ z. G xs v.1 z to) (sym place) v.5) i.2
  longest (suc n) (Part m s ∷ xs) f (some r ps g) at to end lt fi h i =
      let next : Next ts behind s at (Some r) = subst (λ z. Next ts behind z at (Some r)) i.1 (decided ts named X behind exs.starting exs.ending exs.sized begun r ps at i.0 i.3) in
      elim (inv_part ts named Y (Next ts behind) m s xs f at to h) [
        | inl v ↦ absurd (let a = v.3 in cc)
        | inr v ↦
            let same : v.0 ≡ r = some_is v.0 r (sym v.6 ∙ next) in
            longest n (symbols r ++ rest m s xs) (join v.1 v.2) (join ps g) at to end (omega (arith, lt, count_join ps g))
            (subst (λ z. fine [] (symbols r ++ rest m z xs) ≡ true) i.1 (fine_within m r xs (subst (λ z. fine [] (Part m z ∷ xs) ≡ true) (sym i.1) fi)))
            (append ts named Y (Next ts behind) (symbols r) (rest m s xs) v.1 v.2 at v.3 to (subst (λ z. G (symbols z) v.1 at v.3) same v.7) v.8)
            (append ts named X Any (symbols r) (rest m s xs) ps g at i.0 end i.3 i.4)
      ]
  longest (suc n) (Part m s ∷ xs) f (none g) at to end lt fi h i = elim (inv_part ts named Y (Next ts behind) m s xs f at to h) [
    | inl v ↦ longest n xs v.0 g at to end (omega (arith, lt)) (fine_split [] (Part m s) xs fi).others v.4 i.2
    | inr v ↦
        let parts = fine_split [] (Part m s) xs fi in
        let o = owning m s xs g at end v.0 i.0 parts.shut i.2 v.6 in
        elim (take_out v.0 xs g at end o.1 parts.others (open_head m s xs i.0 o.0 parts.head) i.2) [
          | inl e ↦ omega (arith, e.0, greedy_rises (Part m s ∷ xs) f at to h)
          | inr out ↦
              longest n (symbols v.0 ++ rest m s xs) (join v.1 v.2) (join out.0 (lacking m out.1)) at to end (omega (arith, lt, count_join out.0 (lacking m out.1), lacking_small m out.1, out.6))
              (subst (λ z. fine [] (symbols v.0 ++ rest m z xs) ≡ true) v.5 (fine_within m v.0 xs (subst (λ z. fine [] (Part m z ∷ xs) ≡ true) (sym v.5) fi)))
              (append ts named Y (Next ts behind) (symbols v.0) (rest m s xs) v.1 v.2 at v.3 to v.7 v.8)
              (append ts named X Any (symbols v.0) (rest m s xs) out.0 (lacking m out.1) at out.2 end out.3 (lacking_runs m s xs out.1 out.2 end i.0 out.4))
        ]
  ]
  longest (suc n) xs f g at to end lt fi h i = absurd i

  -- What is spelled is no proper front of what is spelled from the same place, unless a token follows that goes on with it.
  pub no_front : (xs : List Symbol) (f g : Forest) (at to end : ℕ) → fine [] xs ≡ true → L xs f at to → L xs g at end → to < end → Settled xs to → ⊥
  no_front xs f g at to end fi h i lt e =
      let w = some_greedy xs f at to fi e h in
      omega (arith, lt, longest (suc (count g)) xs w.0 g at to end (omega arith) fi w.1 i)
