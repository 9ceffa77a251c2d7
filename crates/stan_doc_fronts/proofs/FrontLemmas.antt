-- Each front is tried, the longest first: the first one that is not too deep is the longest front.
use Rattle.std.proofs.Common.{◌≡◌, ◌∙◌, ℕ, zero, suc, ◌≤◌, ◌<◌, Bool, true, false, cond, List, [], ◌∷◌, length, take, Option, Some, None, refl, sym, ap, subst, inl, inr, arith}
use Rattle.std.specs.Prelude.{nat_le}
use Rattle.std.proofs.lemmas.Bool.{leb-true, le-leb}
use Rattle.std.proofs.lemmas.List.{length-take-le}
use Rattle.stan_model_doc.specs.declared.token.DocKind.{DocKind}
use Rattle.stan_model_doc.specs.declared.token.DocKind.TheVariants as k
use Rattle.stan_model_doc.specs.declared.token.DocToken.{DocToken}
use Rattle.stan_model_doc.specs.Tokens.{kind_at, has}
use Rattle.stan_model_doc.specs.Symbols.{Tag, Symbol}
use Rattle.stan_model_doc.specs.Rules.{Rule, param_tag, return_tag, var_tag, property_tag, method_tag, template_tag, inherit_tag, symbols, sort_of}
use Rattle.stan_model_doc.specs.Trees.{Forest, nil, none, some}
use Rattle.stan_model_doc.specs.Grammar.{Runs}
use Rattle.stan_model_doc.specs.Choices.{choices, More, Better}
use Rattle.stan_model_doc.specs.Depth.{depth}
use Rattle.stan_model_doc.specs.Fronts.{tag, IsTree, IsFront}
use Rattle.stan_doc_descent.specs.Parse.{Read}
use Rattle.stan_doc_descent.specs.Tables.{empty, firsts}
use Rattle.stan_doc_descent.specs.Descent.{IsSound, BetterPiece}
use Rattle.stan_doc_descent.specs.Alternatives.{ReadsProductions}
use Rattle.stan_doc_descent.proofs.Words.{some_is, only_kind, clash}
use Rattle.stan_doc_descent.proofs.Checks.{rule_takes, rule_leads}
use Rattle.stan_doc_descent.proofs.Runs.{starts}
use Rattle.stan_doc_descent.proofs.Preferred.{one_better}
use Rattle.stan_doc_conditions.proofs.Prefixes.{agreed, prefix_agrees, agrees_prefix}
use Rattle.stan_doc_conditions.proofs.PartingLemmas.{in_order}
use Rattle.stan_doc_levels.specs.Levels.{level}
use Rattle.stan_doc_levels.proofs.LevelLemmas.{all_levels_are_read}
use Rattle.stan_doc_fronts.specs.Wholes.{rule_of, whole_rule, as_tag, whole_of}
use Rattle.stan_doc_fronts.specs.Fronts.{enough, tree_of, or_shorter, longest_up_to, longest_front, IsReadingOf, EveryTagHasAReading}
use Rattle.stan_doc_fronts.proofs.HeightLemmas.{within, rule_low}
use Rattle.stan_doc_fronts.proofs.WholeLemmas.{rule_is, rule_there}

-- ---- words of tags

rule_is_tag : (kind : DocKind) (r : Rule) → rule_of kind ≡ Some r → sort_of r ≡ Tag
rule_is_tag k.ParamTag r h = ap sort_of (sym (some_is param_tag r h))
rule_is_tag k.ReturnTag r h = ap sort_of (sym (some_is return_tag r h))
rule_is_tag k.VarTag r h = ap sort_of (sym (some_is var_tag r h))
rule_is_tag k.PropertyTag r h = ap sort_of (sym (some_is property_tag r h))
rule_is_tag k.MethodTag r h = ap sort_of (sym (some_is method_tag r h))
rule_is_tag k.TemplateTag r h = ap sort_of (sym (some_is template_tag r h))
rule_is_tag k.InheritTag r h = ap sort_of (sym (some_is inherit_tag r h))
rule_is_tag kind r h = absurd cc

begun : (r : Rule) (kind : DocKind) → sort_of r ≡ Tag → has (firsts (symbols r)) kind ≡ true → rule_of kind ≡ Some r
begun param_tag kind s h = ap rule_of (only_kind k.ParamTag kind h)
begun return_tag kind s h = ap rule_of (only_kind k.ReturnTag kind h)
begun var_tag kind s h = ap rule_of (only_kind k.VarTag kind h)
begun property_tag kind s h = ap rule_of (only_kind k.PropertyTag kind h)
begun method_tag kind s h = ap rule_of (only_kind k.MethodTag kind h)
begun template_tag kind s h = ap rule_of (only_kind k.TemplateTag kind h)
begun inherit_tag kind s h = ap rule_of (only_kind k.InheritTag kind h)
begun r kind s h = absurd (let w = s in cc)

-- ---- one tree

one_before : (xs ys : List ℕ) → More xs ys → More ys xs → ⊥
one_before [] ys m n = m
one_before (x ∷ xs) [] m n = m
one_before (x ∷ xs) (y ∷ ys) (inl lt) (inl gt) = omega (arith, lt, gt)
one_before (x ∷ xs) (y ∷ ys) (inl lt) (inr n) = omega (arith, lt, n.0)
one_before (x ∷ xs) (y ∷ ys) (inr m) (inl gt) = omega (arith, m.0, gt)
one_before (x ∷ xs) (y ∷ ys) (inr m) (inr n) = one_before xs ys m.1 n.1

both_better : (xs : List Symbol) (f g : Forest) → Better xs f g → Better xs g f → f ≡ g
both_better xs f g (inl e) n = sym e
both_better xs f g (inr m) (inl e) = e
both_better xs f g (inr m) (inr n) = absurd (one_before (choices xs f) (choices xs g) m n)

one_tree : (ts : List DocToken) (f g : Forest) (to : ℕ) → IsTree ts f to → IsTree ts g to → f ≡ g
one_tree ts f g to h i = both_better tag f g (h.first g i.spells) (i.first f h.spells)

-- ---- the tree of all tokens

module _ (us : List DocToken) where
  abbrev below : List DocToken → Rule → ℕ → Read Forest
  below = level (enough us)

  sound : (vs : List DocToken) → IsSound vs (level (enough us) vs) (enough us)
  sound vs = (all_levels_are_read (enough us) vs).0

  longest : (vs : List DocToken) → ReadsProductions vs (level (enough us) vs) (enough us)
  longest vs = (all_levels_are_read (enough us) vs).1

  deep : 1 ≤ enough us
  deep = omega arith

  rule_tree : (r : Rule) (o : Read Forest) (f : Forest) → sort_of r ≡ Tag → whole_rule us below r ≡ o → as_tag us below r o ≡ Some f → Runs us tag f 0 (length us)
  rule_tree r None f s e i = absurd cc
  rule_tree r (Some x) f s e i =
      let w = rule_is us below (enough us) sound longest deep r x e in
      subst (λ z. Runs us tag z 0 (length us)) (some_is (some r x.0 nil) f i) (x.1, s, w.0, w.2)

  tree_is : (f : Forest) → tree_of us ≡ Some f → Runs us tag f 0 (length us)
  tree_is f h = by (rule_of (kind_at us 0)) refl h
    where
      by : (o : Option Rule) → rule_of (kind_at us 0) ≡ o → whole_of us below o ≡ Some f → Runs us tag f 0 (length us)
      by None e i = absurd cc
      by (Some r) e i = rule_tree r (whole_rule us below r) f (rule_is_tag (kind_at us 0) r e) refl i

  piece : (r : Rule) (ps x : Forest) → Better (symbols r) x ps → BetterPiece (r, x) r ps
  piece r ps x (inl i) = inl (ap (λ z. (r, z)) (sym i))
  piece r ps x (inr m) = inr (inr (refl, m))

  tree_there : (g : Forest) → Runs us tag g 0 (length us) → (f : Forest) × (tree_of us ≡ Some f) × Better tag f g
  tree_there (some r ps nil) h =
      let run = subst (λ z. Runs us (symbols r) ps 0 z) h.3 h.2 in
      let tall = rule_low us r ps (length us) run in
      let x = rule_there us below (enough us) sound longest deep r h.1 ps (omega (arith, tall)) run in
      (some r x.0.0 nil, rw (begun r (kind_at us 0) h.1 (first run)) (rw x.1 refl), one_better Tag [] (r, x.0.0) r ps nil nil (piece r ps x.0.0 x.2) (inl refl))
    where
      first : Runs us (symbols r) ps 0 (length us) → has (firsts (symbols r)) (kind_at us 0) ≡ true
      first run = elim (starts us (symbols r) ps 0 (length us) (rule_leads r) run) [
        | inl y ↦ clash (empty (symbols r)) y.1 (rule_takes r)
        | inr y ↦ y.1
      ]
  tree_there (some r ps g) h = absurd h.3
  tree_there (none g) h = absurd (let w = h.0 in cc)
  tree_there g h = absurd h

-- ---- fronts

module _ (ts : List DocToken) where
  -- the longest front of at most so many tokens
  abbrev IsUpTo : ℕ → Option (Forest × ℕ) → Type 0
  IsUpTo n None = (g : Forest) (end : ℕ) → IsFront ts g end → end ≤ n → ⊥
  IsUpTo n (Some x) = IsFront ts x.0 x.1 × ((g : Forest) (end : ℕ) → IsFront ts g end → end ≤ n → end ≤ x.1)

  at_place : (n end : ℕ) (g : Forest) → end ≤ suc n → n < end → IsFront ts g end → IsFront ts g (suc n)
  at_place n end g le lt h = let e : end ≡ suc n = omega (arith, le, lt) in subst (λ z. IsFront ts g z) e h

  -- no front ends at the next place
  shorter : (n : ℕ) (o : Option (Forest × ℕ)) → ((g : Forest) → IsFront ts g (suc n) → ⊥) → IsUpTo n o → IsUpTo (suc n) o
  shorter n None empty_here up = λ g end h le. elim (in_order end n) [ inl under ↦ up g end h under | inr over ↦ empty_here g (at_place n end g le over h) ]
  shorter n (Some x) empty_here up = (up.0, λ g end h le. elim (in_order end n) [ inl under ↦ up.1 g end h under | inr over ↦ absurd (empty_here g (at_place n end g le over h)) ])

  whole_there : (to : ℕ) (g : Forest) → to ≤ length ts → Runs ts tag g 0 to → (f : Forest) × (tree_of (take to ts) ≡ Some f) × Better tag f g
  whole_there to g le h =
      let there = agreed ts (take to ts) to (agrees_prefix ts to le) tag g 0 to (omega arith) h in
      tree_there (take to ts) g (subst (λ z. Runs (take to ts) tag g 0 z) (sym (length-take-le to ts le)) there)

  is_tree : (to : ℕ) (f : Forest) → to ≤ length ts → tree_of (take to ts) ≡ Some f → IsTree ts f to
  is_tree to f le e = record {
    spells = agreed (take to ts) ts to (prefix_agrees ts to le) tag f 0 to (omega arith) (subst (λ z. Runs (take to ts) tag f 0 z) (length-take-le to ts le) (tree_is (take to ts) f e));
    first = λ g h. let w = whole_there to g le h in subst (λ z. Better tag z g) (some_is w.0 f (sym w.1 ∙ e)) w.2;
  }

  step : (n : ℕ) (o : Option (Forest × ℕ)) → suc n ≤ length ts → IsUpTo n o → IsUpTo (suc n) (or_shorter (suc n) (tree_of (take (suc n) ts)) o)
  step n o le up = by (tree_of (take (suc n) ts)) refl
    where
      flat : (f : Forest) → tree_of (take (suc n) ts) ≡ Some f → (b : Bool) → nat_le (depth f) 64 ≡ b → IsUpTo (suc n) (cond b (Some (f, suc n)) o)
      flat f e true d = (record { tree = is_tree (suc n) f le e; flat = leb-true (depth f) 64 d }, λ g end h low. low)
      flat f e false d = shorter n o (λ g h.
          let same = one_tree ts f g (suc n) (is_tree (suc n) f le e) h.tree in
          clash (nat_le (depth f) 64) (le-leb (depth f) 64 (subst (λ z. depth z ≤ 64) (sym same) h.flat)) d) up

      by : (t : Option Forest) → tree_of (take (suc n) ts) ≡ t → IsUpTo (suc n) (or_shorter (suc n) t o)
      by None e = shorter n o (λ g h. let w = whole_there (suc n) g le h.tree.spells in let x = sym e ∙ w.1 in absurd cc) up
      by (Some f) e = flat f e (nat_le (depth f) 64) refl

  up_to : (n : ℕ) → n ≤ length ts → IsUpTo n (longest_up_to ts n)
  up_to zero le = λ g end h low. elim (starts ts tag g 0 end refl h.tree.spells) [ inl e ↦ let w = e.1 in absurd cc | inr e ↦ omega (arith, e.0, low) ]
  up_to (suc n) le = step n (longest_up_to ts n) le (up_to n (omega (arith, le)))

  inside : (g : Forest) (end : ℕ) → IsFront ts g end → end ≤ length ts
  inside g end h = within ts tag g 0 end refl (omega arith) h.tree.spells

  reading : (o : Option (Forest × ℕ)) → IsUpTo (length ts) o → IsReadingOf ts o
  reading None up = λ g end h. up g end h (inside g end h)
  reading (Some x) up = record { front = up.0; longest = λ g end h. up.1 g end h (inside g end h) }

pub every_tag_has_a_reading : EveryTagHasAReading
every_tag_has_a_reading ts = reading ts (longest_front ts) (up_to ts (length ts) (omega arith))
