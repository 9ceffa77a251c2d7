-- The expressions of PHP are what the grammar of files asks of expressions.
use Rattle.std.proofs.Common.{◌≡◌, ℕ, ◌+◌, ◌-◌, ◌≤◌, ◌<◌, suc, Bool, true, false, List, Some, None, length, ◌&&◌, refl, ap, subst, ◌⊎◌, inl, inr, arith}
use Rattle.std.specs.Prelude.{nat_le, if◌then◌else◌}
use Rattle.std.proofs.lemmas.Bool.{le-leb, leb-true}
use Rattle.stan_model_grammar.specs.declared.token.Token.{Token}
use Rattle.stan_model_grammar.specs.declared.token.TokenKind.{TokenKind}
use Rattle.stan_model_grammar.specs.Depth.{depth}
use Rattle.stan_model_grammar.specs.Expressions.{IsEnd}
use Rattle.stan_model_grammar.specs.Strata.{kind_at, is_end, loosest}
use Rattle.stan_model_grammar.specs.Takes.{takes, More}
use Rattle.stan_model_grammar.specs.Trees.{Tree, is_pattern}
use Rattle.stan_model_statements.specs.Grammar.{Ends}
use Rattle.stan_expr_rules.specs.Parse.{Read, strata, below}
use Rattle.stan_expr_rules.proofs.Greedy.{Greedy, plain, plain_of}
use Rattle.stan_expr_rules.proofs.InsideLemmas.{reads_inside}
use Rattle.stan_expr_greedy.proofs.Complete.{level_complete, one_is_picked}
use Rattle.stan_expr_greedy.proofs.Sound.{below_sound}
use Rattle.stan_expr_law.proofs.Spelled.{Free, picked_spell}
use Rattle.stan_expr_law.proofs.SizeLemmas.{reads_size}
use Rattle.stan_expr_takes.proofs.TakesPatterns.{some_greedy}
use Rattle.stan_expr_takes.proofs.TakesStrata.{all_most}
use Rattle.stan_stmt_rules.specs.Parse.{most, fitting, behind_of}
use Rattle.stan_stmt_rules.specs.Parse as parse
use Rattle.stan_stmt_law.proofs.DepthLemmas.{reads_shallow}
use Rattle.stan_stmt_law.proofs.Runs.{AreExpressions}
use Rattle.stan_stmt_law.proofs.Starts.{tree_starts, end_unassigned}
use Rattle.stan_stmt_law.proofs.Words.{truth, and_split, some_is}

-- the token behind the expression that begins there
abbrev pub behind : List Token → ℕ → TokenKind
behind ts at = behind_of ts (strata ts (below ts (length ts)) true (loosest - 5) at)

-- the greedy one, with an end behind it
abbrev pub Picked : List Token → Bool → Tree → ℕ → ℕ → Type 0
Picked ts p e at b = Greedy ts p loosest e at b × IsEnd ts b

module _ (ts : List Token) where
  greedy_of : (p : Bool) (e : Tree) (at b : ℕ) → Ends ts p e at b → (g : Tree) × Picked ts p g at b
  greedy_of p e at b h = let g = some_greedy ts p loosest e at b (omega arith) (omega arith) h.0 h.1 in (g.0, (g.1, h.1))

  within : (p : Bool) (e : Tree) (at b : ℕ) → Ends ts p e at b → (at < b) × (b ≤ length ts)
  within p e at b h = reads_inside ts Free e p loosest at b h.0

  -- what stands where a pattern may not, stands where one may
  loosened : (p : Bool) (g : Tree) (at b : ℕ) → Greedy ts p loosest g at b → Greedy ts true loosest g at b
  loosened true g at b h = h
  loosened false g at b h = elim (truth (is_pattern g)) [
    | inl pattern ↦ absurd (plain_of ts loosest g at b h pattern)
    | inr none ↦ plain ts false true loosest g at b none h
  ]

  ending : (p : Bool) (e : Tree) (at b : ℕ) → Ends ts p e at b → behind ts at ≡ kind_at ts b
  ending p e at b h =
      let g = greedy_of p e at b h in
      let spelled = picked_spell ts p loosest g.0 at b g.1.0 in
      let shallow = reads_shallow ts Free g.0 p loosest at b spelled in
      let long = reads_size ts Free g.0 p loosest at b spelled in
      let inside = within p e at b h in
      ap (behind_of ts) (level_complete ts g.0 (length ts) true loosest at b (omega arith) (omega arith) (loosened p g.0 at b g.1.0) (omega (arith, shallow, long, inside.1)))

  picked : (p : Bool) (e : Tree) (at b : ℕ) → Ends ts p e at b → Picked ts p e at b ⊎ ((g : Tree) × Picked ts p g at b × More (takes loosest g) (takes loosest e))
  picked p e at b h =
      let g = greedy_of p e at b h in
      elim (all_most ts b p loosest (omega arith) (omega arith) g.0 e at b b g.1.0 h.0 (omega arith)) [
        | inl same ↦ inl (subst (λ z. Picked ts p z at b) same.0 g.1)
        | inr more ↦ inr (g.0, g.1, more)
      ]

  pub are_expressions : AreExpressions ts (Ends ts) (Picked ts) (behind ts)
  are_expressions = record {
    sized = λ p e at b h. reads_size ts Free e p loosest at b h.0;
    some = λ p e at b h. (within p e at b h).0;
    starting = λ p e at b h. tree_starts ts Free e p loosest at b h.0 (end_unassigned (kind_at ts b) h.1);
    ending = ending;
    plain = λ p e at b h. (picked_spell ts p loosest e at b h.0, h.1);
    one = λ p e g at b c h i. one_is_picked ts e g p loosest at b c (omega arith) (omega arith) h.0 i.0;
    picked = picked;
  }

  -- ---- what the parser reads

  fits : (levels : ℕ) (o : Read Tree) (x : Tree × ℕ) → fitting ts levels o ≡ Some x → (o ≡ Some x) × (is_end (kind_at ts x.1) ≡ true) × (depth x.0 + levels ≤ most)
  fits levels None x h = absurd cc
  fits levels (Some y) x h = by_test (is_end (kind_at ts y.1) && nat_le (depth y.0 + levels) most) refl h
    where
      by_test : (b : Bool) → (is_end (kind_at ts y.1) && nat_le (depth y.0 + levels) most) ≡ b → (if b then Some y else None) ≡ Some x → (Some y ≡ Some x) × (is_end (kind_at ts x.1) ≡ true) × (depth x.0 + levels ≤ most)
      by_test true e same =
          let both = and_split (is_end (kind_at ts y.1)) (nat_le (depth y.0 + levels) most) e in
          let is = some_is y x same in
          (same, subst (λ (z : Tree × ℕ). is_end (kind_at ts z.1) ≡ true) is both.0, subst (λ (z : Tree × ℕ). depth z.0 + levels ≤ most) is (leb-true (depth y.0 + levels) most both.1))
      by_test false e same = absurd cc

  pub sound : (levels : ℕ) (p : Bool) (at : ℕ) (x : Tree × ℕ) → levels ≤ most → parse.expression ts levels p at ≡ Some x → Picked ts p x.0 at x.1 × (depth x.0 + levels ≤ most)
  unfolding below
  sound levels p at x le h =
      let w = fits levels (strata ts (below ts (most - levels)) p (loosest - 5) at) x h in
      ((below_sound ts (suc (most - levels)) p loosest at x (omega arith) (omega arith) w.0, w.1), w.2)

  pub whole : (levels : ℕ) (p : Bool) (at b : ℕ) (e : Tree) → Picked ts p e at b → depth e + levels ≤ most → parse.expression ts levels p at ≡ Some (e, b)
  whole levels p at b e h d =
      let read = level_complete ts e (most - levels) p loosest at b (omega arith) (omega arith) h.0 (omega (arith, d)) in
      let ended : is_end (kind_at ts b) ≡ true = h.1 in
      let shallow = le-leb (depth e + levels) most d in
      rw read (rw (ended, shallow) refl)

  pub seeing : (levels : ℕ) (p : Bool) (at b : ℕ) (e : Tree) → Picked ts p e at b → depth e + levels ≤ most → parse.behind ts levels at ≡ kind_at ts b
  seeing levels p at b e h d = ap (behind_of ts) (whole levels true at b e (loosened p e at b h.0, h.1) d)

  pub picked_within : (p : Bool) (e : Tree) (at b : ℕ) → Picked ts p e at b → b ≤ length ts
  picked_within p e at b h = (within p e at b (picked_spell ts p loosest e at b h.0, h.1)).1
